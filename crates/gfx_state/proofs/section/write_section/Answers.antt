use Rattle.gfx_state.specs.Written.{blocks_of}
use Rattle.gfx_state.proofs.section.write_section.Goals as goal

pub returns-clause-ok : goal.returns-clause-ok
unfolding blocks_of
returns-clause-ok g c = λ es stored. (c.write_all.ensures.written es stored).whole

pub returns-clause-err : goal.returns-clause-err
unfolding blocks_of
returns-clause-err g c = λ es stored. (c.write_all.ensures.written es stored).front
