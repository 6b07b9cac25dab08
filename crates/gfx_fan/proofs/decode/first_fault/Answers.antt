use Rattle.std.proofs.Common.{refl, sym, subst}
use Rattle.std.specs.Prelude.{IsSome}
use Rattle.gfx_fan.proofs.Places.{first_bad, more_good}
use Rattle.gfx_fan.proofs.decode.first_fault.Goals as goal

pub returns-in-Err-Bad : goal.returns-in-Err-Bad
returns-in-Err-Bad c =
    let unsaid = rw c.in-Err-Bad.field-0-is at c.in-Err-Bad.ensures in
    rw c.in-Err-Bad.fault-is
    (first_bad c.args.minor c.args.bytes.now c.args.places.now c.places.index _ c.in-Err-Bad.fault c.places-test.true c.places.invariant.good unsaid.0 unsaid.1)

pub places-preserved : goal.places-preserved
places-preserved c =
    record { good = more_good c.args.minor c.args.bytes.now c.args.places.now c.places.index _ c.places-test.true c.places.invariant.good (subst (λ o. IsSome o) (sym c.in-Ok.ensures) refl) }
