use Rattle.std.proofs.Common.{arith}
use Rattle.gfx_model.specs.Spelling.{fields_of}
use Rattle.gfx_section_law.proofs.Sizes.{fill_small}
use Rattle.gfx_tracker.proofs.ReadItems.{bytes_fit}
use Rattle.gfx_state.proofs.writer.write_init_image.Goals as goal

pub write_effect-requires-clause-spelled : goal.write_effect-requires-clause-spelled
unfolding fields_of
write_effect-requires-clause-spelled g c = record { version = tt; fields = (omega arith, (omega arith, ((omega arith, bytes_fit c.args.bytes.now c.type_inv.bytes), tt))) }

pub write_effect-requires-clause-small : goal.write_effect-requires-clause-small
write_effect-requires-clause-small g c = (fill_small 1 c.args.image c.args.layout c.args.bytes.now (omega arith)).1
