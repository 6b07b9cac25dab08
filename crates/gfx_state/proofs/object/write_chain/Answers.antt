use Rattle.gfx_state.specs.Parts.{answers_in}
use Rattle.gfx_state.proofs.Writing.{wrote_as}
use Rattle.gfx_state.proofs.Anew.{chain_anew, images_answered}
use Rattle.gfx_state.proofs.object.write_chain.Goals as goal

pub write_swapchain-requires-clause-own : goal.write_swapchain-requires-clause-own
write_swapchain-requires-clause-own g c = images_answered c.args.parts.now.objects.now c.args.id c.args.object _ _ _ _ _ _ c.requires.row c.in-Swapchain.is

pub returns-clause-written : goal.returns-clause-written
returns-clause-written g c = λ es stored.
    wrote_as (chain_anew (answers_in c.args.parts.now) es (g.B.StateBytes.bytes c.args.bytes.now) c.args.id c.args.object.parent _ _ _ _ _ _ c.args.object.detail c.in-Swapchain.is stored) c.write_swapchain.ensures
