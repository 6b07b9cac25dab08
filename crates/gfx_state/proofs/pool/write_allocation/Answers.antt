use Rattle.std.proofs.Common.{ap, arith}
use Rattle.gfx_model.specs.Section.{allocate_event}
use Rattle.gfx_state.proofs.Writing.{wrote_none}
use Rattle.gfx_state.proofs.Fitting.{none_below, allocate_spelled, allocate_small}
use Rattle.gfx_state.proofs.pool.write_allocation.Goals as goal

pub write_effect-requires-clause-spelled : goal.write_effect-requires-clause-spelled
write_effect-requires-clause-spelled g c =
    allocate_spelled c.args.device c.args.pool (omega arith) (omega arith) c.in_ok-ids_of-in-len1-up.field-0 c.args.cbs.now c.in_ok-ids_of-in-len1-up.ensures c.requires c.type_inv.cbs

pub write_effect-requires-clause-small : goal.write_effect-requires-clause-small
write_effect-requires-clause-small g c =
    allocate_small c.args.device c.args.pool (omega arith) (omega arith) c.in_ok-ids_of-in-len1-up.field-0 c.args.cbs.now c.in_ok-ids_of-in-len1-up.ensures c.requires

pub returns-in-empty : goal.returns-in-empty
returns-in-empty g c = wrote_none (ap (allocate_event c.args.device c.args.pool) (none_below c.args.cbs.now c.in-empty.len_below))
