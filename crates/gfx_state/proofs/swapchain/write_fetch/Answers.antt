use Rattle.std.proofs.Common.{ap, arith}
use Rattle.gfx_model.specs.Section.{fetch_event}
use Rattle.gfx_state.proofs.Writing.{wrote_none}
use Rattle.gfx_state.proofs.Fitting.{none_below, fetch_spelled, fetch_small}
use Rattle.gfx_state.proofs.swapchain.write_fetch.Goals as goal

pub write_effect-requires-clause-spelled : goal.write_effect-requires-clause-spelled
write_effect-requires-clause-spelled g c =
    fetch_spelled c.args.device c.args.swapchain (omega arith) (omega arith) c.in_ok-ids_of-in-len1-up.field-0 c.args.images.now c.in_ok-ids_of-in-len1-up.ensures c.requires c.type_inv.images

pub write_effect-requires-clause-small : goal.write_effect-requires-clause-small
write_effect-requires-clause-small g c =
    fetch_small c.args.device c.args.swapchain (omega arith) (omega arith) c.in_ok-ids_of-in-len1-up.field-0 c.args.images.now c.in_ok-ids_of-in-len1-up.ensures c.requires

pub returns-in-empty : goal.returns-in-empty
returns-in-empty g c = wrote_none (ap (fetch_event c.args.device c.args.swapchain) (none_below c.args.images.now c.in-empty.len_below))
