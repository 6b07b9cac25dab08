use Rattle.std.proofs.Common.{◌≡◌, ◌∙◌, sym, ap, subst, arith, Some}
use Rattle.std.specs.FinMap as map
use Rattle.gfx_shadow.specs.Overlay.{either}
use Rattle.gfx_shadow.specs.Stretch.{stretch_byte}
use Rattle.gfx_shadow.specs.ByEnd.{byte_of, AreApart, Fits}
use Rattle.gfx_shadow.proofs.ByEnd.{len_less, less_apart, joined_fits, joined_bytes}
use Rattle.gfx_shadow.proofs.stretches.join.join_all.Goals as goal

pub joining-smaller-in-Some-remove : goal.joining-smaller-in-Some-remove
joining-smaller-in-Some-remove c =
    let less = len_less c.joining.by_end.map c.in-Some.other.now.end c.in-Some-remove.other (sym c.in-Some-remove.ensures.value) in
    let is = ap map.len c.remove.ensures.map in
    omega (arith, less, is)

pub joining-preserved-in-Some-remove : goal.joining-preserved-in-Some-remove
joining-preserved-in-Some-remove c =
    let m = c.joining.by_end.map in let key = c.in-Some.other.now.end in let i = c.joining.invariant in let s = c.in-Some-remove.other in let new = c.join.new.self in
    let here : map.get m key ≡ Some s = sym c.in-Some-remove.ensures.value in
    let is = sym c.remove.ensures.map in
    let spare = c.remove.ensures.spare in let kept = i.spare in
    record {
      apart = subst AreApart is (less_apart m key s i.apart here);
      fits = subst (λ n. Fits n new) is (joined_fits m s c.in-Some.other.now c.joining.stretch new i.apart i.fits c.in-Some.ensures here c.join.ensures.start c.join.ensures.end c.join.ensures.room);
      spare = omega (arith, spare, kept);
      bytes =
          (λ d. either (c.join.ensures.bytes d) (byte_of (c.remove.ensures.map d)))
          ∙ joined_bytes m key s (stretch_byte c.joining.stretch) i.apart here
          ∙ i.bytes;
    }
