use Rattle.std.proofs.Common.{◌∙◌}
use Rattle.gfx_text.proofs.Places.{place_is, place_bound}
use Rattle.gfx_text.proofs.names.place_of.Goals as goal

pub returns-clause-place : goal.returns-clause-place
returns-clause-place c = c.position_of.ensures ∙ place_is (λ n. n.now) c.args.name.now c.args.names.now

pub returns-clause-below : goal.returns-clause-below
returns-clause-below c =
    place_bound (λ n. n.now) c.args.names.now c.args.name.now c.position_of.result (c.position_of.ensures ∙ place_is (λ n. n.now) c.args.name.now c.args.names.now)
