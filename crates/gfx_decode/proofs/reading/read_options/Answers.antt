use Rattle.std.proofs.Common.{◌≡◌, ◌*◌, None, length, arith, refl, sym, ◌∙◌, subst, take_all, length-take}
use Rattle.std.specs.Io.KnownBytes.{Consumes}
use Rattle.gfx_model.specs.Blocks.{options_fault}
use Rattle.gfx_decode.proofs.Buffer.{front_filled}
use Rattle.gfx_decode.proofs.Front.{options_break}
use Rattle.gfx_decode.proofs.reading.read_options.Goals as goal

pub returns-in-Some-clause-fault : goal.returns-in-Some-clause-fault
returns-in-Some-clause-fault g c =
    let all = c.fill.new.into in
    let long : length all ≡ 8 * c.args.header.options = omega (arith, c.fill.auto.into, c.requires, c.fits-room, length-take (8 * c.args.header.options) c.args.room.now) in
    rw c.bad-in-Some.ensures (
      refl,
      refl,
      options_break c.args.header.options _ _ all c.in-Some.fault
          (subst (Consumes _ _) (take_all c.in_ok-fill.field-0 all (omega (arith, c.fill.auto.into))) c.in_ok-fill.ensures.bytes)
          long (sym c.options_fault.ensures ∙ c.in-Some.is),
    )

pub returns-in-None-clause-good : goal.returns-in-None-clause-good
returns-in-None-clause-good g c =
    let all = c.fill.new.into in
    let count = c.args.header.options in
    let long : length all ≡ 8 * count = omega (arith, c.fill.auto.into, c.requires, c.fits-room, length-take (8 * count) c.args.room.now) in
    let came = subst (Consumes _ _) (take_all c.in_ok-fill.field-0 all (omega (arith, c.fill.auto.into))) c.in_ok-fill.ensures.bytes in (
      refl,
      subst (λ xs. options_fault xs 0 0 count ≡ None) (sym (front_filled c.args.room.now all _ (8 * count) long)) (sym c.options_fault.ensures ∙ c.in-None.is),
      subst (Consumes _ _) (sym (front_filled c.args.room.now all _ (8 * count) long)) came,
    )
