use Rattle.std.proofs.Common.{ap, refl}
use Rattle.gfx_model.specs.Steps.{kind_of}
use Rattle.gfx_objects.specs.Object.{detail_of}
use Rattle.gfx_state.specs.Parts.{answers_in}
use Rattle.gfx_state.specs.Sections.{kept_object}
use Rattle.gfx_state.proofs.Writing.{wrote_as, wrote_none}
use Rattle.gfx_state.proofs.Resources.{mapped_answered}
use Rattle.gfx_state.proofs.Anew.{memory_anew}
use Rattle.gfx_state.proofs.Kept.{kept_whole}
use Rattle.gfx_state.proofs.object.write_object.Goals as goal

pub write_own_image-requires : goal.write_own_image-requires
write_own_image-requires g c = ap (λ d. kind_of (detail_of d)) c.in-Image.is

pub write_chain-requires-clause-is : goal.write_chain-requires-clause-is
write_chain-requires-clause-is g c = ap (λ d. kind_of (detail_of d)) c.in-Swapchain.is

pub returns-in-Memory-clause-written : goal.returns-in-Memory-clause-written
returns-in-Memory-clause-written g c = λ es stored.
    wrote_as (memory_anew (g.P.Keep.kept c.args.keep.now) (answers_in c.args.parts.now) es (g.B.StateBytes.bytes c.args.bytes.now) c.args.id c.args.object.parent _ _ c.args.object.detail c.in-Memory.is
    (mapped_answered c.args.parts.now.objects.now c.args.id c.args.object c.requires.row) stored) c.write_memory.ensures

pub returns-in-Image-clause-written : goal.returns-in-Image-clause-written
returns-in-Image-clause-written g c = λ es stored.
    wrote_as (kept_whole (g.P.Keep.kept c.args.keep.now) (record { answers = answers_in c.args.parts.now; es = es }) c.args.id c.args.object.parent _ _ (ap detail_of c.in-Image.is) refl)
    (c.write_own_image.ensures.written es)

pub returns-in-Swapchain-clause-written : goal.returns-in-Swapchain-clause-written
returns-in-Swapchain-clause-written g c = λ es stored.
    wrote_as (kept_whole (g.P.Keep.kept c.args.keep.now) (record { answers = answers_in c.args.parts.now; es = es }) c.args.id c.args.object.parent _ _ (ap detail_of c.in-Swapchain.is) refl)
    (c.write_chain.ensures.written es stored)

pub returns-in-CommandBuffer-clause-written : goal.returns-in-CommandBuffer-clause-written
returns-in-CommandBuffer-clause-written g c = λ es stored.
    wrote_none (ap (λ d. kept_object (g.P.Keep.kept c.args.keep.now) (record { answers = answers_in c.args.parts.now; es = es }) c.args.id c.args.object.parent (detail_of d)) c.in-CommandBuffer.is)
