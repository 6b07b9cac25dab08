use Rattle.std.proofs.Common.{◌≡◌, false, refl}
use Rattle.std.proofs.lemmas.Bool.{both_ways}
use Rattle.std.proofs.lemmas.List.Elements.{All-weaker}
use Rattle.std.proofs.lemmas.List.Folds.{list_any_none}
use Rattle.gfx_seats.specs.declared.stage.Stage.TheVariants.{Idle}
use Rattle.gfx_seats.specs.Seat.{hand}
use Rattle.gfx_capture.proofs.Places.{free}
use Rattle.gfx_capture.proofs.capture.Capture.close.Goals as goal

pub unreachable-requires : goal.unreachable-requires
unreachable-requires c =
    let passes = c.args.passes.items in
    let idle = All-weaker (λ p. (hand p).stage ≡ Idle) (λ p. p.has_turn ≡ false) (λ p is. free p.has_turn (hand p).stage p.stage_is is) passes c.requires.idle in
    both_ways _ (list_any_none (λ p. p.has_turn) passes idle) (c.in_default.ensures.none.0 refl)
