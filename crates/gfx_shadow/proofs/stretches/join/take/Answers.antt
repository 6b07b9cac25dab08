use Rattle.std.proofs.Common.{◌∙◌, sym, ap, subst, arith}
use Rattle.std.specs.FinMap as map
use Rattle.gfx_shadow.specs.Overlay.{either}
use Rattle.gfx_shadow.specs.Stretch.{stretch_byte}
use Rattle.gfx_shadow.specs.ByEnd.{byte_of, AreApart}
use Rattle.gfx_shadow.proofs.ByEnd.{less_among, less_apart, less_bytes, less_clear, empty_bytes}
use Rattle.gfx_shadow.proofs.stretches.join.take.Goals as goal
use Rattle.gfx_shadow.proofs.stretches.join.take.Goals.{in-Some+in_default-remove, in_default}

pub returns-in-Some-remove-clause-apart : goal.returns-in-Some-remove-clause-apart
returns-in-Some-remove-clause-apart c =
    subst AreApart (sym c.remove.ensures.map) (less_apart c.args.by_end.now.map c.in-Some.stretch.now.end c.in-Some-remove.taken c.requires.apart (sym c.in-Some-remove.ensures.value))

pub returns-in-Some-remove-clause-fewer : goal.returns-in-Some-remove-clause-fewer
returns-in-Some-remove-clause-fewer c = λ q r e.
    less_among c.args.by_end.now.map c.in-Some.stretch.now.end c.in-Some-remove.taken c.requires.apart (sym c.in-Some-remove.ensures.value) q r (sym (ap (λ m. map.get m q) c.remove.ensures.map) ∙ e)

pub returns-in-Some-remove-clause-clear : goal.returns-in-Some-remove-clause-clear
returns-in-Some-remove-clause-clear c = λ some q r e.
    less_clear c.args.by_end.now.map c.in-Some.stretch.now.end c.in-Some-remove.taken c.requires.apart (sym c.in-Some-remove.ensures.value) q r (sym (ap (λ m. map.get m q) c.remove.ensures.map) ∙ e)

pub returns-in-Some-remove-clause-bytes : goal.returns-in-Some-remove-clause-bytes
returns-in-Some-remove-clause-bytes c =
    ap (λ m. either (stretch_byte c.in-Some-remove.taken) (byte_of m)) c.remove.ensures.map
    ∙ less_bytes c.args.by_end.now.map c.in-Some.stretch.now.end c.in-Some-remove.taken c.requires.apart (sym c.in-Some-remove.ensures.value)

pub returns-clause-bytes : goal.returns-clause-bytes
returns-clause-bytes c =
    let start = c.new.ensures.start in let end = c.new.ensures.end in
    empty_bytes c.new.result (byte_of c.match-longest.by_end.map) (omega (arith, start, end))
    ∙ elim c.match-longest.branch [
      | in-Some+in_default-remove w ↦ absurd (let a = w.in-Some.ensures.touches.here in let b = w.in_default-remove.ensures.value in cc)
      | in_default w ↦ ap (λ t. byte_of t.map) w.by_end-is
    ]
