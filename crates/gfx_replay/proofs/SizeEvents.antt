-- Which events make and end no place.
use Rattle.std.proofs.Common.{◌≡◌, ℕ, ◌+◌, Bool, true, false, cond, refl, sym, ap, List, [], ◌∷◌, ◌++◌, map, fold, Option, Some, None, is_some, ◌==◌}
use Rattle.std.specs.Option.{option_map_or}
use Rattle.std.specs.List.{AllByRecursion}
use Rattle.std.proofs.lemmas.Bool.{eqb-true, both_ways}
use Rattle.gfx_types.specs.declared.names.Kind.TheVariants as kind
use Rattle.gfx_types.specs.declared.op.Place.{Place}
use Rattle.gfx_model.specs.Events.{Event}
use Rattle.gfx_model.specs.Events.Event.{CreateInstance, DestroyInstance, CreateHeadlessSurfaceEXT, DestroySurfaceKHR, CreateDevice, DestroyDevice, GetDeviceQueue, AllocateMemory, FreeMemory, MapMemory, UnmapMemory, CreateBuffer, DestroyBuffer, BindBufferMemory, CreateImage, DestroyImage, BindImageMemory, CreateCommandPool, DestroyCommandPool, ResetCommandPool, AllocateCommandBuffers, FreeCommandBuffers, BeginCommandBuffer, EndCommandBuffer, ResetCommandBuffer, CmdPipelineBarrier, CmdFillBuffer, CmdUpdateBuffer, CmdCopyBuffer, CmdCopyImage, CmdCopyBufferToImage, CmdCopyImageToBuffer, CmdClearColorImage, CreateFence, DestroyFence, ResetFences, WaitForFences, GetFenceStatus, CreateSemaphore, DestroySemaphore, QueueSubmit, QueueWaitIdle, DeviceWaitIdle, CreateSwapchainKHR, DestroySwapchainKHR, GetSwapchainImagesKHR, AcquireNextImageKHR, QueuePresentKHR, FillMemory, InitImage, SetSwapchainState, SetSemaphoreState, BeginSection, EndSection}
use Rattle.gfx_model.specs.Steps.{Step, Object, Detail, kind_of, kind_number}
use Rattle.gfx_model.specs.Steps.Step.{taken, creates, ends, signals, unsignals, acquires, gives_back, changes, executed, presents}
use Rattle.gfx_model.specs.Steps.Change.{set_layout}
use Rattle.gfx_model.specs.Steps.Detail.{a_queue, a_memory, an_image, a_fence, a_command_buffer, a_swapchain}
use Rattle.gfx_model.specs.Questions.{passes, goes_with, after_end}
use Rattle.gfx_model.specs.Views.{View, queue_of}
use Rattle.gfx_model.specs.Checks.{Turn, broken, first_broken, turns_of}
use Rattle.gfx_model.specs.Checks.Check.{of}
use Rattle.gfx_model.specs.Checks.Turn.{wait, execute, signal}
use Rattle.gfx_model.specs.Table.{checks_of, place_of, row_of, live_once}
use Rattle.gfx_model.specs.Effects.{effect_of, steps_of, steps_of_turn, changes_of_buffer, marks, signals_any, image_bytes_put}
use Rattle.gfx_model.specs.After.{after}
use Rattle.gfx_model.proofs.Covered.{unless_none}
use Rattle.gfx_model.proofs.Lists.{all_append, all_along, all_map, all_flat_map}
use Rattle.gfx_laws.specs.Lawful.{IsKind, IsLawful, Passes}
use Rattle.gfx_laws.proofs.Ends.{each_once}
use Rattle.gfx_laws.proofs.EventReady.{event_ready}
use Rattle.gfx_laws.proofs.Lists.{all_before, all_behind}
use Rattle.gfx_laws.proofs.NewObjects.{all_pass}
use Rattle.gfx_replay.specs.Sizes.{place_size}
use Rattle.gfx_replay.specs.Placing.{is_placed, is_home, IsPlaceless, ArePlaceless, changes_places}
use Rattle.gfx_replay.proofs.SizeSteps.{steps_same}

-- ---- steps that end nothing

abbrev pub IsMild : Step → Type 0
IsMild (creates id parent detail) = is_placed detail ≡ false
IsMild (ends gone) = ⊥
IsMild _ = Unit {0}

mild : (v : View) (s : Step) → IsMild s → IsPlaceless v s
mild v (creates id parent detail) m = m
mild v (ends gone) m = absurd m
mild v _ m = tt

all_mild : (v : View) (ss : List Step) → AllByRecursion IsMild ss → ArePlaceless v ss
all_mild v [] a = tt
all_mild v (s ∷ ss) a = (mild v s a.0, all_mild (after v s) ss a.1)

queue_mild : (v : View) (device queue : ℕ) (t : Bool) → ArePlaceless v (cond t [] (creates queue device a_queue ∷ []))
queue_mild v device queue true = tt
queue_mild v device queue false = (refl, tt)

signal_mild : (t : Bool) (x : ℕ) → AllByRecursion IsMild (cond t (signals x ∷ []) [])
signal_mild true x = (tt, tt)
signal_mild false x = tt

set_mild : (t : Bool) (x : ℕ) → AllByRecursion IsMild (cond t (signals x) (unsignals x) ∷ [])
set_mild true x = (tt, tt)
set_mild false x = (tt, tt)

any_mild : (t : Bool) (x : ℕ) → AllByRecursion IsMild (cond t [] (signals x ∷ []))
any_mild true x = tt
any_mild false x = (tt, tt)

acquire_mild : (t : Bool) (swapchain index semaphore fence : ℕ) → AllByRecursion IsMild (cond t [] (acquires swapchain index ∷ signals_any semaphore ++ signals_any fence))
acquire_mild true swapchain index semaphore fence = tt
acquire_mild false swapchain index semaphore fence = (tt, all_append IsMild (signals_any semaphore) (signals_any fence) (any_mild (semaphore == 0) semaphore) (any_mild (fence == 0) fence))

turn_mild : (v : View) (t : Turn) → AllByRecursion IsMild (steps_of_turn v t)
turn_mild v (wait s) = (tt, tt)
turn_mild v (signal s) = (tt, tt)
turn_mild v (execute cb) = all_append IsMild (map changes (changes_of_buffer v cb)) (executed cb ∷ []) (all_map IsMild changes (λ c. tt) (changes_of_buffer v cb)) (tt, tt)

marks_mild : (swapchain k : ℕ) (xs : List ℕ) → AllByRecursion IsMild (marks swapchain k xs)
marks_mild swapchain k [] = tt
marks_mild swapchain k (x ∷ xs) = (by (x == 1), marks_mild swapchain (k + 1) xs)
  where
    by : (t : Bool) → IsMild (cond t (acquires swapchain k) (gives_back swapchain k))
    by true = tt
    by false = tt

put_mild : (image : ℕ) (bytes : List ℕ) (d : Detail) → AllByRecursion IsMild (image_bytes_put d image bytes)
put_mild image bytes (an_image format width height usage (Some index)) = (tt, tt)
put_mild image bytes (an_image format width height usage None) = tt
put_mild image bytes _ = tt

image_mild : (image : ℕ) (bytes : List ℕ) (l : Option Object) → AllByRecursion IsMild (option_map_or (λ o. image_bytes_put o.detail image bytes) l [])
image_mild image bytes None = tt
image_mild image bytes (Some o) = put_mild image bytes o.detail

-- ---- ends

not_home : (n : ℕ) (l : Option Object) → (n == 5) ≡ false → (n == 12) ≡ false → passes (λ o. kind_number (kind_of o.detail) == n) l ≡ true → passes (λ o. is_home o.detail) l ≡ false
not_home n None five twelve e = refl
not_home n (Some o) five twelve e = by o.detail e
  where
    by : (d : Detail) → (kind_number (kind_of d) == n) ≡ true → is_home d ≡ false
    by (a_memory size) k = absurd (both_ways (n == 5) five (ap (λ m. m == 5) (sym (eqb-true 5 n k))))
    by (a_swapchain surface images format width height usage) k = absurd (both_ways (n == 12) twelve (ap (λ m. m == 12) (sym (eqb-true 12 n k))))
    by _ k = refl

-- what is no home is none after an end
still_not_home : (gone x : ℕ) (l : Option Object) → passes (λ o. is_home o.detail) l ≡ false → passes (λ o. is_home o.detail) (after_end gone x l) ≡ false
still_not_home gone x None e = refl
still_not_home gone x (Some o) e = by (goes_with gone x o)
  where
    by : (t : Bool) → passes (λ o. is_home o.detail) (cond t None (Some o)) ≡ false
    by true = refl
    by false = e

ends_placeless : (v : View) (xs : List ℕ) → AllByRecursion (λ x. passes (λ o. is_home o.detail) (v.live x) ≡ false) xs → ArePlaceless v (map ends xs)
unfolding after
ends_placeless v [] a = tt
ends_placeless v (x ∷ xs) a = (
  a.0,
  ends_placeless (after v (ends x)) xs
      (all_along (λ y. passes (λ o. is_home o.detail) (v.live y) ≡ false) (λ y. passes (λ o. is_home o.detail) ((after v (ends x)).live y) ≡ false) (λ y e. still_not_home x y (v.live y) e) xs a.1),
)

-- ---- events

row_placeless : (v : View) (e : Event) → changes_places e ≡ false → AllByRecursion (Passes v) (row_of e) → ArePlaceless v (effect_of v e)
unfolding effect_of row_of broken
row_placeless v (CreateInstance instance api) none a = (refl, tt)
row_placeless v (DestroyInstance instance) none a = (not_home 1 (v.live instance) refl refl (unless_none _ _ a.0), tt)
row_placeless v (CreateHeadlessSurfaceEXT instance surface) none a = (refl, tt)
row_placeless v (DestroySurfaceKHR instance surface) none a = (not_home 2 (v.live surface) refl refl (unless_none _ _ a.1.0), tt)
row_placeless v (CreateDevice instance device) none a = (refl, tt)
row_placeless v (DestroyDevice device) none a = (not_home 3 (v.live device) refl refl (unless_none _ _ a.0), tt)
row_placeless v (GetDeviceQueue device queue) none a = queue_mild v device queue (is_some (queue_of v device))
row_placeless v (AllocateMemory device memory size) none a = absurd (cc)
row_placeless v (FreeMemory device memory) none a = absurd (cc)
row_placeless v (MapMemory device memory offset size) none a = (tt, tt)
row_placeless v (UnmapMemory device memory) none a = (tt, tt)
row_placeless v (CreateBuffer device buffer size usage) none a = (refl, tt)
row_placeless v (DestroyBuffer device buffer) none a = (not_home 6 (v.live buffer) refl refl (unless_none _ _ a.1.0), tt)
row_placeless v (BindBufferMemory device buffer memory offset) none a = (tt, tt)
row_placeless v (CreateImage device image format width height usage) none a = (refl, tt)
row_placeless v (DestroyImage device image) none a = (not_home 7 (v.live image) refl refl (unless_none _ _ a.1.0), tt)
row_placeless v (BindImageMemory device image memory offset) none a = (tt, tt)
row_placeless v (CreateCommandPool device pool flags) none a = (refl, tt)
row_placeless v (DestroyCommandPool device pool) none a = (not_home 8 (v.live pool) refl refl (unless_none _ _ a.1.0), tt)
row_placeless v (ResetCommandPool device pool) none a = (tt, tt)
row_placeless v (AllocateCommandBuffers device pool buffers) none a = all_mild v _ (all_map IsMild (λ cb. creates cb pool a_command_buffer) (λ cb. refl) buffers)
row_placeless v (FreeCommandBuffers device pool buffers) none a =
    ends_placeless v buffers (all_along (λ x. IsKind kind.CommandBuffer (v.live x)) (λ x. passes (λ o. is_home o.detail) (v.live x) ≡ false) (λ x there. not_home 9 (v.live x) refl refl there) buffers
    (each_once v [] buffers (all_before (Passes v) (live_once kind.CommandBuffer [] buffers) (map (λ cb. of cb pool) buffers) a.1.1.1.1.1)))
row_placeless v (BeginCommandBuffer cb flags) none a = (tt, tt)
row_placeless v (EndCommandBuffer cb) none a = (tt, tt)
row_placeless v (ResetCommandBuffer cb) none a = (tt, tt)
row_placeless v (CmdPipelineBarrier cb barriers) none a = (tt, tt)
row_placeless v (CmdFillBuffer cb buffer offset size word) none a = (tt, tt)
row_placeless v (CmdUpdateBuffer cb buffer offset bytes) none a = (tt, tt)
row_placeless v (CmdCopyBuffer cb source target regions) none a = (tt, tt)
row_placeless v (CmdCopyImage cb source source_layout target target_layout regions) none a = (tt, tt)
row_placeless v (CmdCopyBufferToImage cb source target layout regions) none a = (tt, tt)
row_placeless v (CmdCopyImageToBuffer cb source layout target regions) none a = (tt, tt)
row_placeless v (CmdClearColorImage cb image layout c0 c1 c2 c3) none a = (tt, tt)
row_placeless v (CreateFence device fence flags) none a = (refl, all_mild (after v (creates fence device a_fence)) (cond (flags == 1) (signals fence ∷ []) []) (signal_mild (flags == 1) fence))
row_placeless v (DestroyFence device fence) none a = (not_home 10 (v.live fence) refl refl (unless_none _ _ a.1.0), tt)
row_placeless v (ResetFences device fences) none a = all_mild v _ (all_map IsMild unsignals (λ x. tt) fences)
row_placeless v (WaitForFences device fences wait_all answer) none a = tt
row_placeless v (GetFenceStatus device fence answer) none a = tt
row_placeless v (CreateSemaphore device semaphore) none a = (refl, tt)
row_placeless v (DestroySemaphore device semaphore) none a = (not_home 11 (v.live semaphore) refl refl (unless_none _ _ a.1.0), tt)
row_placeless v (QueueSubmit queue submits fence) none a = all_mild v _ (all_flat_map IsMild (steps_of_turn v) (turn_mild v) (turns_of submits fence))
row_placeless v (QueueWaitIdle queue) none a = tt
row_placeless v (DeviceWaitIdle device) none a = tt
row_placeless v (CreateSwapchainKHR device swapchain surface images format width height usage) none a = (refl, tt)
row_placeless v (DestroySwapchainKHR device swapchain) none a = absurd (cc)
row_placeless v (GetSwapchainImagesKHR device swapchain images) none a = absurd (cc)
row_placeless v (AcquireNextImageKHR device swapchain semaphore fence index answer) none a = all_mild v _ (acquire_mild (answer == 1) swapchain index semaphore fence)
row_placeless v (QueuePresentKHR queue waits images) none a =
    all_mild v _ (all_append IsMild _ (presents ∷ []) (all_append IsMild _ _ (all_flat_map IsMild (steps_of_turn v) (turn_mild v) (map wait waits)) (all_map IsMild (λ p. gives_back p.swapchain p.index) (λ p. tt) images)) (tt, tt))
row_placeless v (FillMemory memory offset bytes) none a = (tt, tt)
row_placeless v (InitImage image layout bytes) none a = (tt, all_mild (after v (changes (set_layout image layout))) (option_map_or (λ o. image_bytes_put o.detail image bytes) (v.live image) []) (image_mild image bytes (v.live image)))
row_placeless v (SetSwapchainState swapchain acquired) none a = all_mild v _ (marks_mild swapchain 0 acquired)
row_placeless v (SetSemaphoreState semaphore signalled) none a = all_mild v (cond (signalled == 1) (signals semaphore) (unsignals semaphore) ∷ []) (set_mild (signalled == 1) semaphore)
row_placeless v (BeginSection frame) none a = (tt, tt)
row_placeless v (EndSection frame) none a = (tt, tt)

-- an event that makes and ends no place leaves all sizes
pub event_same : (v : View) → IsLawful v [] → (e : Event) → first_broken v (checks_of e) ≡ None → changes_places e ≡ false → (at : Place) → place_size (fold after v (steps_of v e)) at ≡ place_size v at
unfolding after
event_same v h e none quiet =
    steps_same v (steps_of v e) h.objects (event_ready v [] h e none)
    (tt, taken_placeless (effect_of v e) (row_placeless v e quiet (all_behind (Passes v) (place_of e) (row_of e) (all_pass v (checks_of e) none))))
  where
    taken_placeless : (ss : List Step) → ArePlaceless v ss → ArePlaceless (after v taken) ss
    taken_placeless [] a = tt
    taken_placeless (ends gone ∷ ss) a = a
    taken_placeless (taken ∷ ss) a = a
    taken_placeless (_ ∷ ss) a = a
