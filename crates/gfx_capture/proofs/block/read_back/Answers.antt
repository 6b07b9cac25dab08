use Rattle.std.proofs.Common.{Some, ap, ◌∙◌}
use Rattle.gfx_blocks.specs.Payloads.{content_of}
use Rattle.gfx_capture.proofs.Written.{front_there, type_there, not_bad, not_skipped, event_back}
use Rattle.gfx_capture.proofs.block.read_back.Goals as goal

pub unreachable-requires : goal.unreachable-requires
unreachable-requires c = front_there c.args.minor c.args.block.now c.requires.block c.in_default.ensures

pub unreachable-requires-in_default-front_u32 : goal.unreachable-requires-in_default-front_u32
unreachable-requires-in_default-front_u32 c = type_there c.args.minor c.args.block.now _ _ c.in-Some.ensures c.requires.block c.in_default-front_u32.ensures

pub unreachable-requires-in-Err-Bad : goal.unreachable-requires-in-Err-Bad
unreachable-requires-in-Err-Bad c =
    let said = rw c.in-Err-Bad.field-0-is at c.in-Err-Bad.ensures in
    not_bad c.args.minor c.args.block.now _ _ c.in-Some.ensures _ _ c.in-Some-front_u32.ensures c.requires.block said.0

pub unreachable-requires-in-Ok-Skip : goal.unreachable-requires-in-Ok-Skip
unreachable-requires-in-Ok-Skip c =
    not_skipped c.args.minor c.args.block.now _ _ c.in-Some.ensures _ _ c.in-Some-front_u32.ensures c.requires.block
    (c.in-Ok-Skip.ensures ∙ ap (λ b. Some (content_of b)) c.in-Ok-Skip.field-0-is)

pub returns-in-Ok-Effect : goal.returns-in-Ok-Effect
returns-in-Ok-Effect c e put =
    event_back c.args.minor c.args.block.now _ _ c.in-Some.ensures _ _ c.in-Some-front_u32.ensures _ _
    (c.in-Ok-Effect.ensures ∙ ap (λ b. Some (content_of b)) c.in-Ok-Effect.field-0-is) e put
