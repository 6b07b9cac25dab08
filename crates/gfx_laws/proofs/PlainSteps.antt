-- No event but a marker begins or ends a section, and none but a present shows a frame.
use Rattle.std.proofs.Common.{ℕ, ◌+◌, Bool, true, false, List, [], ◌∷◌, ◌++◌, map, flat_map, cond, rules, ◌==◌, Option, Some, None, is_some}
use Rattle.std.specs.List.{AllByRecursion}
use Rattle.std.specs.Option.{option_map_or}
use Rattle.gfx_types.specs.declared.lists.Present.{Present}
use Rattle.gfx_model.specs.Events.{Event}
use Rattle.gfx_model.specs.Events.Event.{GetDeviceQueue, AllocateCommandBuffers, FreeCommandBuffers, CreateFence, ResetFences, QueueSubmit, GetSwapchainImagesKHR, AcquireNextImageKHR, QueuePresentKHR, InitImage, SetSwapchainState, SetSemaphoreState, BeginSection, EndSection}
use Rattle.gfx_model.specs.Steps.{Step, Object, Detail}
use Rattle.gfx_model.specs.Steps.Detail.{a_queue, a_command_buffer, an_image}
use Rattle.gfx_model.specs.Steps.Step.{begins_section, ends_section, creates, ends, signals, unsignals, acquires, gives_back, changes, executed, presents}
use Rattle.gfx_model.specs.Views.{View, queue_of, fetched}
use Rattle.gfx_model.specs.Checks.{Turn, turns_of}
use Rattle.gfx_model.specs.Checks.Turn.{wait, execute, signal}
use Rattle.gfx_model.specs.Effects.{effect_of, steps_of_turn, changes_of_buffer, fetches, first_fetch, marks, signals_any, image_bytes_put}
use Rattle.gfx_laws.specs.Laws.{IsNoMarker}
use Rattle.gfx_model.proofs.Lists.{all_append, all_along, all_map, all_flat_map}
use Rattle.gfx_laws.proofs.Covering.{IsPlainStep}

-- a step that begins no section, ends none and shows no frame
abbrev pub IsQuiet : Step → Type 0
IsQuiet (begins_section frame) = ⊥
IsQuiet ends_section = ⊥
IsQuiet presents = ⊥
IsQuiet _ = Unit {0}

-- an event that is neither a marker nor a present
abbrev pub IsQuietEvent : Event → Type 0
IsQuietEvent (BeginSection frame) = ⊥
IsQuietEvent (EndSection frame) = ⊥
IsQuietEvent (QueuePresentKHR queue waits images) = ⊥
IsQuietEvent _ = Unit {0}

abbrev Quiet : List Step → Type 0
Quiet ss = AllByRecursion IsQuiet ss

queue_quiet : (t : Bool) (device queue : ℕ) → Quiet (cond t [] (creates queue device a_queue ∷ []))
queue_quiet true device queue = tt
queue_quiet false device queue = (tt, tt)

signal_quiet : (t : Bool) (x : ℕ) → Quiet (cond t (signals x ∷ []) [])
signal_quiet true x = (tt, tt)
signal_quiet false x = tt

turn_quiet : (v : View) (t : Turn) → Quiet (steps_of_turn v t)
turn_quiet v (wait s) = (tt, tt)
turn_quiet v (signal s) = (tt, tt)
turn_quiet v (execute cb) = all_append IsQuiet (map changes (changes_of_buffer v cb)) (executed cb ∷ []) (all_map IsQuiet changes (λ c. tt) (changes_of_buffer v cb)) (tt, tt)

fetches_quiet : (v : View) (swapchain k : ℕ) (xs : List ℕ) → Quiet (fetches v swapchain k xs)
fetches_quiet v swapchain k [] = tt
fetches_quiet v swapchain k (x ∷ xs) = (tt, fetches_quiet v swapchain (k + 1) xs)

first_quiet : (v : View) (swapchain : ℕ) (before xs : List ℕ) → Quiet (first_fetch before (fetches v swapchain 0 xs))
first_quiet v swapchain [] xs = fetches_quiet v swapchain 0 xs
first_quiet v swapchain (i ∷ before) xs = tt

any_quiet : (x : ℕ) → Quiet (signals_any x)
any_quiet x = by (x == 0)
  where
    by : (t : Bool) → Quiet (cond t [] (signals x ∷ []))
    by true = tt
    by false = (tt, tt)

acquire_quiet : (t : Bool) (swapchain index semaphore fence : ℕ) → Quiet (cond t [] (acquires swapchain index ∷ signals_any semaphore ++ signals_any fence))
acquire_quiet true swapchain index semaphore fence = tt
acquire_quiet false swapchain index semaphore fence = (tt, all_append IsQuiet (signals_any semaphore) (signals_any fence) (any_quiet semaphore) (any_quiet fence))

marks_quiet : (swapchain k : ℕ) (xs : List ℕ) → Quiet (marks swapchain k xs)
marks_quiet swapchain k [] = tt
marks_quiet swapchain k (x ∷ xs) = (mark (x == 1), marks_quiet swapchain (k + 1) xs)
  where
    mark : (t : Bool) → IsQuiet (cond t (acquires swapchain k) (gives_back swapchain k))
    mark true = tt
    mark false = tt

set_quiet : (t : Bool) (x : ℕ) → Quiet (cond t (signals x) (unsignals x) ∷ [])
set_quiet true x = (tt, tt)
set_quiet false x = (tt, tt)

put_quiet : (image : ℕ) (bytes : List ℕ) (d : Detail) → Quiet (image_bytes_put d image bytes)
put_quiet image bytes (an_image format width height usage (Some index)) = (tt, tt)
put_quiet image bytes (an_image format width height usage None) = tt
put_quiet image bytes _ = tt

image_quiet : (image : ℕ) (bytes : List ℕ) (l : Option Object) → Quiet (option_map_or (λ o. image_bytes_put o.detail image bytes) l [])
image_quiet image bytes None = tt
image_quiet image bytes (Some o) = put_quiet image bytes o.detail

-- the steps of all other events are quiet
pub effect_quiet : (v : View) (e : Event) → IsQuietEvent e → Quiet (effect_of v e)
unfolding effect_of
effect_quiet v (BeginSection frame) p = absurd p
effect_quiet v (EndSection frame) p = absurd p
effect_quiet v (GetDeviceQueue device queue) p = queue_quiet (is_some (queue_of v device)) device queue
effect_quiet v (AllocateCommandBuffers device pool buffers) p = all_map IsQuiet (λ cb. creates cb pool a_command_buffer) (λ x. tt) buffers
effect_quiet v (FreeCommandBuffers device pool buffers) p = all_map IsQuiet ends (λ x. tt) buffers
effect_quiet v (CreateFence device fence flags) p = (tt, signal_quiet (flags == 1) fence)
effect_quiet v (ResetFences device fences) p = all_map IsQuiet unsignals (λ x. tt) fences
effect_quiet v (QueueSubmit queue submits fence) p = all_flat_map IsQuiet (steps_of_turn v) (turn_quiet v) (turns_of submits fence)
effect_quiet v (GetSwapchainImagesKHR device swapchain images) p = first_quiet v swapchain (fetched v swapchain) images
effect_quiet v (AcquireNextImageKHR device swapchain semaphore fence index answer) p = acquire_quiet (answer == 1) swapchain index semaphore fence
effect_quiet v (QueuePresentKHR queue waits images) p = absurd p
effect_quiet v (InitImage image layout bytes) p = (tt, image_quiet image bytes (v.live image))
effect_quiet v (SetSwapchainState swapchain acquired) p = marks_quiet swapchain 0 acquired
effect_quiet v (SetSemaphoreState semaphore signalled) p = set_quiet (signalled == 1) semaphore
effect_quiet v _ p = search rules

-- the steps of a present before it shows the frame
abbrev pub given_back : View → List ℕ → List Present → List Step
given_back v waits images = flat_map (steps_of_turn v) (map wait waits) ++ map (λ p. gives_back p.swapchain p.index) images

pub given_back_quiet : (v : View) (waits : List ℕ) (images : List Present) → Quiet (given_back v waits images)
given_back_quiet v waits images =
    all_append IsQuiet (flat_map (steps_of_turn v) (map wait waits)) (map (λ p. gives_back p.swapchain p.index) images)
    (all_flat_map IsQuiet (steps_of_turn v) (turn_quiet v) (map wait waits)) (all_map IsQuiet (λ p. gives_back p.swapchain p.index) (λ p. tt) images)

quiet_plain : (s : Step) → IsQuiet s → IsPlainStep s
quiet_plain (begins_section frame) q = absurd q
quiet_plain ends_section q = absurd q
quiet_plain presents q = tt
quiet_plain _ q = tt

-- and no step of an event but a marker begins or ends a section
pub effect_plain : (v : View) (e : Event) → IsNoMarker e → AllByRecursion IsPlainStep (effect_of v e)
unfolding effect_of
effect_plain v (BeginSection frame) p = absurd p
effect_plain v (EndSection frame) p = absurd p
effect_plain v (QueuePresentKHR queue waits images) p =
    all_append IsPlainStep (given_back v waits images) (presents ∷ [])
    (all_along IsQuiet IsPlainStep quiet_plain (given_back v waits images) (given_back_quiet v waits images)) (tt, tt)
effect_plain v e p = all_along IsQuiet IsPlainStep quiet_plain (effect_of v e) (effect_quiet v e tt)
