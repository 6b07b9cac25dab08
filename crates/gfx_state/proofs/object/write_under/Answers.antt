use Rattle.gfx_state.specs.Parts.{answers_in}
use Rattle.gfx_state.proofs.Writing.{wrote_none}
use Rattle.gfx_state.proofs.Kept.{none_under}
use Rattle.gfx_state.proofs.object.write_under.Goals as goal

pub returns-in_default-clause-written : goal.returns-in_default-clause-written
returns-in_default-clause-written g c = λ es.
    wrote_none (none_under (g.P.Keep.kept c.args.keep.now) (record { answers = answers_in c.args.parts.now; es = es }) c.args.id c.args.object.detail c.in_default.not-Pool)
