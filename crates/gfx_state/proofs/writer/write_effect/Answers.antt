use Rattle.std.proofs.Common.{◌++◌, ◌∙◌, ap}
use Rattle.gfx_model.specs.Events.{event_of}
use Rattle.gfx_model.specs.Spelling.{encoding}
use Rattle.gfx_state.proofs.Writing.{block_whole, block_part}
use Rattle.gfx_state.proofs.writer.write_effect.Goals as goal

pub returns-in_err-write_whole : goal.returns-in_err-write_whole
returns-in_err-write_whole g c =
    let went = c.in_err-write_whole.ensures in
    block_part _ _ _ _ _ _ c.from_residual-in_err-write_whole.result (c.deref.ensures.value ∙ c.in_ok-put_block.ensures.ok ∙ ap (λ l. l ++ encoding 1 0 (event_of c.args.effect.now)) c.clear.ensures.items) went.failed went.cause.later went.cause.failed c.from_residual-in_err-write_whole.ensures.1

pub returns : goal.returns
returns g c =
    let went = c.in_ok-write_whole.ensures in
    block_whole _ _ _ _ _ _ (c.deref.ensures.value ∙ c.in_ok-put_block.ensures.ok ∙ ap (λ l. l ++ encoding 1 0 (event_of c.args.effect.now)) c.clear.ensures.items) went.bytes went.cause.later
