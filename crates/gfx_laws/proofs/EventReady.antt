-- The steps of an event without a fault are ready, one after another.
use Rattle.std.proofs.Common.{◌≡◌, ℕ, true, refl, ap, List, [], ◌∷◌, ◌++◌, map, flat_map, length, Option, Some, None, cond, ◌==◌, nat_le, arith, inl, inr}
use Rattle.std.specs.List.{AllByRecursion}
use Rattle.std.specs.Option.{option_map_or}
use Rattle.std.proofs.lemmas.Bool.{eqb-true, not-true, and_from, eq-eqb}
use Rattle.gfx_types.specs.declared.names.Kind.TheVariants as kind
use Rattle.gfx_model.specs.Events.{Event}
use Rattle.gfx_model.specs.Steps.{Step, Object, Detail, Change}
use Rattle.gfx_model.specs.Steps.Step.{taken, creates, unsignals, gives_back, presents}
use Rattle.gfx_model.specs.Steps.Detail.{an_instance, a_surface, a_device, a_memory, a_buffer, an_image, a_pool, a_fence, a_semaphore}
use Rattle.gfx_model.specs.Questions.{passes}
use Rattle.gfx_model.specs.Views.{View, is_live, queue_of, fetched, images_in}
use Rattle.gfx_model.specs.Checks.{Check, broken, first_broken, turns_of}
use Rattle.gfx_model.specs.Checks.Check.{must, of, in_turn}
use Rattle.gfx_types.specs.declared.names.Fault.TheVariants.{CommandState}
use Rattle.gfx_model.specs.Table.{checks_of, place_of, row_of, new_each, live_once, value, to_signal, acquire_answer, submit_lengths}
use Rattle.gfx_model.specs.Effects.{steps_of, effect_of, image_bytes_put}
use Rattle.gfx_model.specs.After.{after}
use Rattle.gfx_model.proofs.Covered.{unless_none}
use Rattle.gfx_laws.specs.Lawful.{base, IsLawful, LawfulObjects, LawfulBuffers, LawfulIds, IsKind, has_signal, Passes}
use Rattle.gfx_laws.proofs.Ready.{AllReady, ReadyToEnd}
use Rattle.gfx_model.proofs.Lists.{all_append, all_along, all_map}
use Rattle.gfx_laws.proofs.Lists.{all_before, all_behind}
use Rattle.gfx_laws.proofs.MoreObjects.{live_of_kind}
use Rattle.gfx_laws.proofs.LawfulLayouts.{usable_live}
use Rattle.gfx_laws.proofs.ReadyLists.{IsFree, all_free, all_calm, marks_ready, acquire_ready, free_waits, signal_if_ready, set_ready}
use Rattle.gfx_laws.proofs.NewObjects.{all_pass, made_ready, own_of_device, bind_ready, queue_ready, buffers_ready, swapchain_ready}
use Rattle.gfx_laws.proofs.Ends.{no_swapchain, childless_kind, kind_own, end_ready, surface_ready, ends_ready, each_once, no_children, queue_child}
use Rattle.gfx_laws.proofs.Fetches.{images_ready}
use Rattle.gfx_laws.proofs.Executions.{commands_ready, is_recording_state, turns_ready}
use Rattle.gfx_laws.proofs.Signals.{map_ready, signal_of_kind, signalled_by, acquired_index, all_signals}

-- ---- events

put_ready : (v : View) (image : ℕ) (bytes : List ℕ) (d : Detail) → v.used image ≡ true → AllReady v (image_bytes_put d image bytes)
put_ready v image bytes (an_image format width height usage (Some index)) used = (used, tt)
put_ready v image bytes (an_image format width height usage None) used = tt
put_ready v image bytes _ used = tt

image_ready : (v : View) (image : ℕ) (bytes : List ℕ) (l : Option Object) → v.used image ≡ true → AllReady v (option_map_or (λ o. image_bytes_put o.detail image bytes) l [])
image_ready v image bytes None used = tt
image_ready v image bytes (Some o) used = put_ready v image bytes o.detail used

-- an acquire
acquire_checks : (v : View) (swapchain index semaphore fence answer device : ℕ) → is_live v kind.Swapchain swapchain ≡ true →
    AllByRecursion (Passes v) (to_signal kind.Semaphore device semaphore ++ to_signal kind.Fence device fence ++ value (nat_le answer 1) ∷ acquire_answer swapchain index answer) →
    AllReady v (effect_of v (Event.AcquireNextImageKHR device swapchain semaphore fence index answer))
unfolding effect_of
acquire_checks v swapchain index semaphore fence answer device there a =
    let sides : AllByRecursion (Passes v) (to_signal kind.Semaphore device semaphore ++ to_signal kind.Fence device fence) = all_before (Passes v) _ (value (nat_le answer 1) ∷ acquire_answer swapchain index answer) a in
    let last : AllByRecursion (Passes v) (value (nat_le answer 1) ∷ acquire_answer swapchain index answer) = all_behind (Passes v) (to_signal kind.Semaphore device semaphore ++ to_signal kind.Fence device fence) _ a in
    acquire_ready v (answer == 1) swapchain index semaphore fence (λ other. (there, acquired_index v swapchain index answer last.1 other))
    (signalled_by v kind.Semaphore device semaphore (inr refl) (all_before (Passes v) (to_signal kind.Semaphore device semaphore) (to_signal kind.Fence device fence) sides))
    (signalled_by v kind.Fence device fence (inl refl) (all_behind (Passes v) (to_signal kind.Semaphore device semaphore) (to_signal kind.Fence device fence) sides))

-- the last of these checks
pub last_pass : (v : View) (xs : List Check) (c d : Check) → AllByRecursion (Passes v) (xs ++ c ∷ d ∷ []) → Passes v d
last_pass v xs c d a = let rest : AllByRecursion (Passes v) (c ∷ d ∷ []) = all_behind (Passes v) xs (c ∷ d ∷ []) a in rest.1.0

-- the steps of a row whose checks pass
row_ready : (v : View) → LawfulObjects (base v) → LawfulIds v.live v.ids → LawfulBuffers (base v) v.buffer → (e : Event) → AllByRecursion (Passes v) (row_of e) → AllReady v (effect_of v e)
unfolding after effect_of row_of broken
row_ready v h i k (Event.CreateInstance instance api) a = (made_ready v instance 0 (an_instance api) a.0 refl tt refl refl, tt)
row_ready v h i k (Event.DestroyInstance instance) a = (record { children = no_children v i instance (eqb-true _ 0 (unless_none _ _ a.1.0)); surface = no_swapchain (base v) h 1 instance (unless_none _ _ a.0) refl; is_own = kind_own 1 (v.live instance) refl (unless_none _ _ a.0) }, tt)
row_ready v h i k (Event.CreateHeadlessSurfaceEXT instance surface) a = (made_ready v surface instance a_surface a.1.0 (unless_none _ _ a.0) tt refl refl, tt)
row_ready v h i k (Event.DestroySurfaceKHR instance surface) a = (surface_ready v h i surface (unless_none _ _ a.1.0) (not-true _ (unless_none _ _ a.1.1.1.0)), tt)
row_ready v h i k (Event.CreateDevice instance device) a = (made_ready v device instance a_device a.1.0 (unless_none _ _ a.0) tt refl refl, tt)
row_ready v h i k (Event.DestroyDevice device) a = (record { children = queue_child v i device (queue_of v device) refl (eqb-true _ _ (unless_none _ _ a.1.0)); surface = no_swapchain (base v) h 3 device (unless_none _ _ a.0) refl; is_own = kind_own 3 (v.live device) refl (unless_none _ _ a.0) }, tt)
row_ready v h i k (Event.GetDeviceQueue device queue) a = queue_ready v i device queue (queue_of v device) refl (unless_none _ _ a.0) a.1.0
row_ready v h i k (Event.AllocateMemory device memory size) a = (made_ready v memory device (a_memory size) a.1.0 (unless_none _ _ a.0) tt (unless_none _ _ a.1.1.0) refl, tt)
row_ready v h i k (Event.FreeMemory device memory) a = (end_ready (base v) h 5 memory (unless_none _ _ a.1.0) refl refl refl refl, tt)
row_ready v h i k (Event.MapMemory device memory offset size) a = (map_ready v memory offset size (unless_none _ _ a.1.0) (unless_none _ _ a.1.1.1.0) (unless_none _ _ a.1.1.1.1.0) a.1.1.1.1.1, tt)
row_ready v h i k (Event.UnmapMemory device memory) a = (tt, tt)
row_ready v h i k (Event.CreateBuffer device buffer size usage) a = (made_ready v buffer device (a_buffer size usage) a.1.0 (unless_none _ _ a.0) tt (unless_none _ _ a.1.1.0) refl, tt)
row_ready v h i k (Event.DestroyBuffer device buffer) a = (end_ready (base v) h 6 buffer (unless_none _ _ a.1.0) refl refl refl refl, tt)
row_ready v h i k (Event.BindBufferMemory device buffer memory offset) a =
    (bind_ready v h _ device buffer memory offset (unless_none _ _ a.0) (unless_none _ _ a.1.0) (unless_none _ _ a.1.1.0) (unless_none _ _ a.1.1.1.0) (unless_none _ _ a.1.1.1.1.0) (unless_none _ _ a.1.1.1.1.1.0) (unless_none _ _ a.1.1.1.1.1.1.0) (unless_none _ _ a.1.1.1.1.1.1.1.0), tt)
row_ready v h i k (Event.CreateImage device image format width height usage) a = (made_ready v image device (an_image format width height usage None) a.1.0 (unless_none _ _ a.0) tt (and_from _ _ (unless_none _ _ a.1.1.0) (unless_none _ _ a.1.1.1.0)) refl, tt)
row_ready v h i k (Event.DestroyImage device image) a = (record { children = childless_kind (base v) h 7 image (unless_none _ _ a.1.0) refl refl; surface = no_swapchain (base v) h 7 image (unless_none _ _ a.1.0) refl; is_own = own_of_device v h image device (unless_none _ _ a.0) (unless_none _ _ a.1.1.0) }, tt)
row_ready v h i k (Event.BindImageMemory device image memory offset) a =
    (bind_ready v h _ device image memory offset (unless_none _ _ a.0) (unless_none _ _ a.1.0) (unless_none _ _ a.1.1.0) (unless_none _ _ a.1.1.1.0) (unless_none _ _ a.1.1.1.1.0) (unless_none _ _ a.1.1.1.1.1.0) (unless_none _ _ a.1.1.1.1.1.1.0) (unless_none _ _ a.1.1.1.1.1.1.1.0), tt)
row_ready v h i k (Event.CreateCommandPool device pool flags) a = (made_ready v pool device (a_pool flags) a.1.0 (unless_none _ _ a.0) tt (unless_none _ _ a.1.1.0) refl, tt)
row_ready v h i k (Event.DestroyCommandPool device pool) a = (end_ready (base v) h 8 pool (unless_none _ _ a.1.0) refl refl refl refl, tt)
row_ready v h i k (Event.ResetCommandPool device pool) a = (tt, tt)
row_ready v h i k (Event.AllocateCommandBuffers device pool buffers) a =
    let there = unless_none _ _ a.1.0 in let o = live_of_kind v _ pool there in
    buffers_ready v v pool [] buffers (h.used pool o.0 o.1) there (λ x old among. old) (all_before (Passes v) (new_each [] buffers) _ a.1.1.1.1.1)
row_ready v h i k (Event.FreeCommandBuffers device pool buffers) a =
    ends_ready v buffers (all_along (λ x. IsKind kind.CommandBuffer (v.live x)) (ReadyToEnd (base v)) (λ x there. end_ready (base v) h 9 x there refl refl refl refl) buffers
    (each_once v [] buffers (all_before (Passes v) (live_once kind.CommandBuffer [] buffers) (map (λ cb. of cb pool) buffers) a.1.1.1.1.1)))
row_ready v h i k (Event.BeginCommandBuffer cb flags) a = ((unless_none _ _ a.0, unless_none _ _ a.1.0), tt)
row_ready v h i k (Event.EndCommandBuffer cb) a = (is_recording_state _ (unless_none _ _ a.1.0), tt)
row_ready v h i k (Event.ResetCommandBuffer cb) a = (tt, tt)
row_ready v h i k (Event.CmdPipelineBarrier cb barriers) a = ((refl, commands_ready v (Event.CmdPipelineBarrier cb barriers) _ a.1.1), tt)
row_ready v h i k (Event.CmdFillBuffer cb buffer offset size word) a = ((refl, commands_ready v (Event.CmdFillBuffer cb buffer offset size word) _ a.1.1), tt)
row_ready v h i k (Event.CmdUpdateBuffer cb buffer offset bytes) a = ((refl, commands_ready v (Event.CmdUpdateBuffer cb buffer offset bytes) _ a.1.1), tt)
row_ready v h i k (Event.CmdCopyBuffer cb source target regions) a = ((refl, commands_ready v (Event.CmdCopyBuffer cb source target regions) _ a.1.1), tt)
row_ready v h i k (Event.CmdCopyImage cb source source_layout target target_layout regions) a = ((refl, commands_ready v (Event.CmdCopyImage cb source source_layout target target_layout regions) _ a.1.1), tt)
row_ready v h i k (Event.CmdCopyBufferToImage cb source target layout regions) a = ((refl, commands_ready v (Event.CmdCopyBufferToImage cb source target layout regions) _ a.1.1), tt)
row_ready v h i k (Event.CmdCopyImageToBuffer cb source layout target regions) a = ((refl, commands_ready v (Event.CmdCopyImageToBuffer cb source layout target regions) _ a.1.1), tt)
row_ready v h i k (Event.CmdClearColorImage cb image layout c0 c1 c2 c3) a = ((refl, commands_ready v (Event.CmdClearColorImage cb image layout c0 c1 c2 c3) _ a.1.1), tt)
row_ready v h i k (Event.CreateFence device fence flags) a = (
  made_ready v fence device a_fence a.1.0 (unless_none _ _ a.0) tt refl refl,
  signal_if_ready (after v (creates fence device a_fence)) (flags == 1) fence (ap (λ t. passes (λ o. has_signal o.detail) (cond t (Some (record { parent = device; detail = a_fence })) (v.live fence))) (eq-eqb fence fence refl)),
)
row_ready v h i k (Event.DestroyFence device fence) a = (end_ready (base v) h 10 fence (unless_none _ _ a.1.0) refl refl refl refl, tt)
row_ready v h i k (Event.ResetFences device fences) a = all_free v _ (all_map IsFree unsignals (λ x. tt) fences)
row_ready v h i k (Event.WaitForFences device fences wait_all answer) a = tt
row_ready v h i k (Event.GetFenceStatus device fence answer) a = tt
row_ready v h i k (Event.CreateSemaphore device semaphore) a = (made_ready v semaphore device a_semaphore a.1.0 (unless_none _ _ a.0) tt refl refl, tt)
row_ready v h i k (Event.DestroySemaphore device semaphore) a = (end_ready (base v) h 11 semaphore (unless_none _ _ a.1.0) refl refl refl refl, tt)
row_ready v h i k (Event.QueueSubmit queue submits fence) a =
    all_calm v _ (turns_ready v h k v.signalled v.layout (turns_of submits fence)
    (all_signals v queue fence submits (flat_map submit_lengths submits) (all_before (Passes v) _ (must CommandState _ ∷ in_turn (turns_of submits fence) ∷ []) a.1.1.1))
    (last_pass v _ _ (in_turn (turns_of submits fence)) a.1.1.1))
row_ready v h i k (Event.QueueWaitIdle queue) a = tt
row_ready v h i k (Event.DeviceWaitIdle device) a = tt
row_ready v h i k (Event.CreateSwapchainKHR device swapchain surface images format width height usage) a = (
  swapchain_ready v i device swapchain surface images format width height usage (unless_none _ _ a.0) (unless_none _ _ a.1.0) (eqb-true _ _ (unless_none _ _ a.1.1.0)) a.1.1.1.0
      (not-true _ (unless_none _ _ a.1.1.1.1.0)) (and_from _ _ (unless_none _ _ a.1.1.1.1.1.0) (unless_none _ _ a.1.1.1.1.1.1.0)),
  tt,
)
row_ready v h i k (Event.DestroySwapchainKHR device swapchain) a = (end_ready (base v) h 12 swapchain (unless_none _ _ a.1.0) refl refl refl refl, tt)
row_ready v h i k (Event.GetSwapchainImagesKHR device swapchain images) a = images_ready v h i swapchain images (fetched v swapchain) refl (unless_none _ _ a.1.0) a.1.1.1.0
row_ready v h i k (Event.AcquireNextImageKHR device swapchain semaphore fence index answer) a =
    acquire_checks v swapchain index semaphore fence answer device (unless_none _ _ a.1.0) a.1.1.1.1
row_ready v h i k (Event.QueuePresentKHR queue waits images) a =
    all_free v _ (all_append IsFree _ (presents ∷ []) (all_append IsFree _ _ (free_waits v waits) (all_map IsFree (λ p. gives_back p.swapchain p.index) (λ p. tt) images)) (tt, tt))
row_ready v h i k (Event.FillMemory memory offset bytes) a = (let m = live_of_kind v _ memory (unless_none _ _ a.0) in h.used memory m.0 m.1, tt)
row_ready v h i k (Event.InitImage image layout bytes) a =
    let there = usable_live v image (unless_none _ _ a.1.0) in
    ((unless_none _ _ a.1.0, unless_none _ _ a.1.1.0, unless_none _ _ a.0), image_ready _ image bytes (v.live image) (h.used image there.0 there.1))
row_ready v h i k (Event.SetSwapchainState swapchain acquired) a = marks_ready v swapchain acquired (unless_none _ _ a.0) (let count = eqb-true (length acquired) (images_in v swapchain) (unless_none _ _ a.1.0) in omega (arith, count))
row_ready v h i k (Event.SetSemaphoreState semaphore signalled) a = set_ready v (signalled == 1) semaphore (signal_of_kind 11 (v.live semaphore) (inr refl) (unless_none _ _ a.0))
row_ready v h i k (Event.BeginSection frame) a = (tt, tt)
row_ready v h i k (Event.EndSection frame) a = (tt, tt)

taken_ready : (v : View) (ss : List Step) → AllReady v ss → AllReady (after v taken) ss
unfolding after
taken_ready v [] a = tt
taken_ready v (taken ∷ ss) a = a
taken_ready v (_ ∷ ss) a = a

-- the steps of an event without a fault
pub event_ready : (v : View) (es : List Change) → IsLawful v es → (e : Event) → first_broken v (checks_of e) ≡ None → AllReady v (steps_of v e)
event_ready v es h e none =
    (tt, taken_ready v (effect_of v e) (row_ready v h.objects h.ids h.buffers e (all_behind (Passes v) (place_of e) (row_of e) (all_pass v (checks_of e) none))))
