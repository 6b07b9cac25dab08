use Rattle.std.proofs.Common.{refl, ap, sym, ◌∙◌}
use Rattle.gfx_types.specs.declared.names.Kind.TheVariants as kind
use Rattle.gfx_model.specs.Views.{is_live}
use Rattle.gfx_objects.specs.Objects.{answers}
use Rattle.gfx_commands.specs.Recordings.{buffers}
use Rattle.gfx_tracker.proofs.EndedUsers.{users_ended, memory_ended, swapchain_ended, pool_ended, itself_ended, none_ended}
use Rattle.gfx_tracker.proofs.state.end_users.Goals as goal

pub returns-in-Buffer : goal.returns-in-Buffer
returns-in-Buffer c =
    let v = answers c.args.objects.now in
    let there = ap (λ k. is_live v k c.args.gone) (sym c.in-Buffer.is) ∙ c.requires.kind in
    c.invalidate_users.ensures ∙ users_ended v (buffers c.args.recordings.now) c.requires.plain c.requires.lawful kind.Buffer c.args.gone there refl refl refl refl

pub returns-in-Image : goal.returns-in-Image
returns-in-Image c =
    let v = answers c.args.objects.now in
    let there = ap (λ k. is_live v k c.args.gone) (sym c.in-Image.is) ∙ c.requires.kind in
    c.invalidate_users-in-Image.ensures ∙ users_ended v (buffers c.args.recordings.now) c.requires.plain c.requires.lawful kind.Image c.args.gone there refl refl refl refl

pub returns-in-Memory : goal.returns-in-Memory
returns-in-Memory c =
    let v = answers c.args.objects.now in
    let there = ap (λ k. is_live v k c.args.gone) (sym c.in-Memory.is) ∙ c.requires.kind in
    c.invalidate_each.ensures
    ∙ memory_ended v (buffers c.args.recordings.now) c.requires.plain c.requires.lawful kind.Memory c.args.gone there refl refl refl refl refl c.resting.result.now c.resting.ensures.all

pub returns-in-Swapchain : goal.returns-in-Swapchain
returns-in-Swapchain c =
    let v = answers c.args.objects.now in
    let there = ap (λ k. is_live v k c.args.gone) (sym c.in-Swapchain.is) ∙ c.requires.kind in
    c.invalidate_each-in-Swapchain.ensures
    ∙ swapchain_ended v (buffers c.args.recordings.now) c.requires.plain c.requires.lawful kind.Swapchain c.args.gone there refl refl refl refl refl c.owned.result.now c.owned.ensures.all

pub returns-in-Pool : goal.returns-in-Pool
returns-in-Pool c =
    let v = answers c.args.objects.now in
    let there = ap (λ k. is_live v k c.args.gone) (sym c.in-Pool.is) ∙ c.requires.kind in
    c.reset_each.ensures
    ∙ pool_ended v (buffers c.args.recordings.now) c.requires.plain c.requires.lawful kind.Pool c.args.gone there refl refl refl refl refl c.owned-in-Pool.result.now c.owned-in-Pool.ensures.all

pub returns-in-CommandBuffer : goal.returns-in-CommandBuffer
returns-in-CommandBuffer c =
    let v = answers c.args.objects.now in
    let there = ap (λ k. is_live v k c.args.gone) (sym c.in-CommandBuffer.is) ∙ c.requires.kind in
    c.reset.ensures ∙ itself_ended v (buffers c.args.recordings.now) c.requires.plain c.requires.lawful kind.CommandBuffer c.args.gone there refl refl refl refl refl

pub returns-in-Instance : goal.returns-in-Instance
returns-in-Instance c =
    let v = answers c.args.objects.now in
    let there = ap (λ k. is_live v k c.args.gone) (sym c.in-Instance.is) ∙ c.requires.kind in
    none_ended v (buffers c.args.recordings.now) c.requires.plain c.requires.lawful kind.Instance c.args.gone there refl refl refl refl refl refl

pub returns-in-Surface : goal.returns-in-Surface
returns-in-Surface c =
    let v = answers c.args.objects.now in
    let there = ap (λ k. is_live v k c.args.gone) (sym c.in-Surface.is) ∙ c.requires.kind in
    none_ended v (buffers c.args.recordings.now) c.requires.plain c.requires.lawful kind.Surface c.args.gone there refl refl refl refl refl refl

pub returns-in-Device : goal.returns-in-Device
returns-in-Device c =
    let v = answers c.args.objects.now in
    let there = ap (λ k. is_live v k c.args.gone) (sym c.in-Device.is) ∙ c.requires.kind in
    none_ended v (buffers c.args.recordings.now) c.requires.plain c.requires.lawful kind.Device c.args.gone there refl refl refl refl refl refl

pub returns-in-Queue : goal.returns-in-Queue
returns-in-Queue c =
    let v = answers c.args.objects.now in
    let there = ap (λ k. is_live v k c.args.gone) (sym c.in-Queue.is) ∙ c.requires.kind in
    none_ended v (buffers c.args.recordings.now) c.requires.plain c.requires.lawful kind.Queue c.args.gone there refl refl refl refl refl refl

pub returns-in-Fence : goal.returns-in-Fence
returns-in-Fence c =
    let v = answers c.args.objects.now in
    let there = ap (λ k. is_live v k c.args.gone) (sym c.in-Fence.is) ∙ c.requires.kind in
    none_ended v (buffers c.args.recordings.now) c.requires.plain c.requires.lawful kind.Fence c.args.gone there refl refl refl refl refl refl

pub returns-in-Semaphore : goal.returns-in-Semaphore
returns-in-Semaphore c =
    let v = answers c.args.objects.now in
    let there = ap (λ k. is_live v k c.args.gone) (sym c.in-Semaphore.is) ∙ c.requires.kind in
    none_ended v (buffers c.args.recordings.now) c.requires.plain c.requires.lawful kind.Semaphore c.args.gone there refl refl refl refl refl refl
