use Rattle.gfx_state.proofs.Writing.{wrote_both, wrote_out, wrote_less}
use Rattle.gfx_state.proofs.section.write_all.Goals as goal

pub returns-in_err-ids-clause-written : goal.returns-in_err-ids-clause-written
returns-in_err-ids-clause-written g c = λ es stored. wrote_less _ c.from_residual.result c.from_residual.ensures.1

pub returns-in_err-write_begin-clause-written : goal.returns-in_err-write_begin-clause-written
returns-in_err-write_begin-clause-written g c = λ es stored. wrote_out _ c.from_residual-in_err-write_begin.result c.in_err-write_begin.ensures c.from_residual-in_err-write_begin.ensures.1

pub returns-in_err-write_kinds-clause-written : goal.returns-in_err-write_kinds-clause-written
returns-in_err-write_kinds-clause-written g c = λ es stored.
    wrote_both _ c.in_ok-write_begin.ensures (wrote_out _ c.from_residual-in_err-write_kinds.result (c.in_err-write_kinds.ensures.written es stored) c.from_residual-in_err-write_kinds.ensures.1)

pub returns-clause-written : goal.returns-clause-written
returns-clause-written g c = λ es stored.
    wrote_both _ c.in_ok-write_begin.ensures (wrote_both _ (c.in_ok-write_kinds.ensures.written es stored) c.write_end.ensures)
