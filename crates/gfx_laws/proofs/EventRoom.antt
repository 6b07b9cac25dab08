-- An event without a fault has room for what its steps add.
use Rattle.std.proofs.Common.{◌≡◌, ℕ, ◌+◌, ◌*◌, ◌<◌, ◌≤◌, ◌^◌, Bool, true, false, List, [], ◌∷◌, ◌++◌, map, length, Option, Some, None, cond, is_some, ◌==◌, nat_le, arith, rules}
use Rattle.std.specs.List.{AllByRecursion}
use Rattle.std.specs.Option.{option_map_or}
use Rattle.std.proofs.lemmas.Bool.{leb-true, and_parts}
use Rattle.gfx_model.specs.Events.{Event}
use Rattle.gfx_model.specs.Events.Event.{CreateInstance, CreateHeadlessSurfaceEXT, CreateDevice, GetDeviceQueue, AllocateMemory, CreateBuffer, CreateImage, CreateCommandPool, AllocateCommandBuffers, FreeCommandBuffers, CmdPipelineBarrier, CmdFillBuffer, CmdUpdateBuffer, CmdCopyBuffer, CmdCopyImage, CmdCopyBufferToImage, CmdCopyImageToBuffer, CmdClearColorImage, CreateFence, ResetFences, CreateSemaphore, QueueSubmit, CreateSwapchainKHR, GetSwapchainImagesKHR, AcquireNextImageKHR, QueuePresentKHR, InitImage, SetSwapchainState, SetSemaphoreState}
use Rattle.gfx_model.specs.Steps.{Step, Object, Detail}
use Rattle.gfx_model.specs.Steps.Detail.{a_queue, a_command_buffer, an_image}
use Rattle.gfx_model.specs.Steps.Step.{taken, creates, ends, records, signals, unsignals, acquires, gives_back, changes, executed, presents}
use Rattle.gfx_model.specs.Spelling.{spelling}
use Rattle.gfx_model.specs.Questions.{image_size}
use Rattle.gfx_model.specs.Views.{View, object_count, live_bytes, commands_kept, bytes_kept, queue_of, images_in, fetched}
use Rattle.gfx_model.specs.Checks.{Check, Turn, broken, first_broken, turns_of, room_fault, new_fault, queue_fault, images_fault}
use Rattle.gfx_model.specs.Checks.Check.{room, room_for, fits}
use Rattle.gfx_model.specs.Checks.Turn.{wait, execute, signal}
use Rattle.gfx_model.specs.Table.{checks_of, place_of, row_of, new_each}
use Rattle.gfx_model.specs.Effects.{steps_of, effect_of, fetches, first_fetch, steps_of_turn, changes_of_buffer, marks, signals_any, image_bytes_put}
use Rattle.gfx_model.specs.After.{after}
use Rattle.gfx_model.proofs.Covered.{first_none, unless_none}
use Rattle.gfx_laws.specs.Lawful.{Passes, command_checks}
use Rattle.gfx_laws.proofs.Ready.{HasRoom, AllRoom}
use Rattle.gfx_model.proofs.Lists.{all_append, all_map, all_flat_map}
use Rattle.gfx_laws.proofs.Lists.{all_behind}
use Rattle.gfx_laws.proofs.LawfulLimits.{length_insert}
use Rattle.gfx_laws.proofs.NewObjects.{all_pass}

-- a step that adds nothing
abbrev pub AddsNothing : Step → Type 0
AddsNothing (creates i parent detail) = ⊥
AddsNothing (records cb command) = ⊥
AddsNothing _ = Unit {0}

room_nothing : (v : View) (s : Step) → AddsNothing s → HasRoom v s
room_nothing v (creates i parent detail) n = absurd n
room_nothing v (records cb command) n = absurd n
room_nothing v _ n = tt

all_nothing : (v : View) (ss : List Step) → AllByRecursion AddsNothing ss → AllRoom v ss
all_nothing v [] a = tt
all_nothing v (s ∷ ss) a = (room_nothing v s a.0, all_nothing (after v s) ss a.1)

room_of : (v : View) (n : ℕ) → room_fault v n ≡ None → object_count v + n ≤ 65536
room_of v n e = leb-true (object_count v + n) 65536 (unless_none _ _ e)

one_more : (v : View) → Passes v (room 1) → object_count v < 65536
unfolding broken
one_more v e = let below = room_of v 1 e in omega (arith, below)

bytes_more : (v : View) (n : ℕ) → Passes v (room_for n) → live_bytes v + n ≤ 2 ^ 28
unfolding broken
bytes_more v n e = leb-true (live_bytes v + n) (2 ^ 28) (unless_none _ _ e)

command_room : (v : View) (cb : ℕ) (c : Event) (cs : List Check) → AllByRecursion (Passes v) (cs ++ fits (length (spelling 1 c)) ∷ []) → HasRoom v (records cb c)
unfolding broken
command_room v cb c cs a =
    let last : AllByRecursion (Passes v) (fits (length (spelling 1 c)) ∷ []) = all_behind (Passes v) cs (fits (length (spelling 1 c)) ∷ []) a in
    let both = and_parts (nat_le (commands_kept v + 1) (2 ^ 20)) (nat_le (bytes_kept v + length (spelling 1 c)) (2 ^ 28)) (unless_none _ _ last.0) in
    let kept = leb-true (commands_kept v + 1) (2 ^ 20) both.0 in
    (omega (arith, kept), leb-true (bytes_kept v + length (spelling 1 c)) (2 ^ 28) both.1)

queue_room : (v : View) (device queue : ℕ) (o : Option ℕ) → queue_fault v queue o ≡ None → AllRoom v (cond (is_some o) [] (creates queue device a_queue ∷ []))
queue_room v device queue (Some q) e = tt
queue_room v device queue None e =
    let both = first_none (new_fault v [] queue) (room_fault v 1) e in
    let below = room_of v 1 both.1 in ((omega (arith, below), tt), tt)

buffers_room : (u : View) (pool : ℕ) (xs : List ℕ) → object_count u + length xs ≤ 65536 → AllRoom u (map (λ cb. creates cb pool a_command_buffer) xs)
unfolding after
buffers_room u pool [] below = tt
buffers_room u pool (x ∷ xs) below =
    let more = length_insert x u.ids in
    ((omega (arith, below), tt), buffers_room (after u (creates x pool a_command_buffer)) pool xs (omega (arith, below, more)))

fetches_room : (v u : View) (swapchain k : ℕ) (xs : List ℕ) → object_count u + length xs ≤ 65536 → AllRoom u (fetches v swapchain k xs)
unfolding after
fetches_room v u swapchain k [] below = tt
fetches_room v u swapchain k (x ∷ xs) below =
    let more = length_insert x u.ids in
    ((omega (arith, below), tt), fetches_room v (after u (creates x swapchain _)) swapchain (k + 1) xs (omega (arith, below, more)))

images_room : (v : View) (swapchain : ℕ) (ids before : List ℕ) → images_fault v (images_in v swapchain) before ids ≡ None → AllRoom v (first_fetch before (fetches v swapchain 0 ids))
images_room v swapchain ids (i ∷ before) e = tt
images_room v swapchain ids [] e = fetches_room v v swapchain 0 ids (room_of v (length ids) (first_none _ _ (first_none _ _ e).1).1)

turn_adds : (v : View) (t : Turn) → AllByRecursion AddsNothing (steps_of_turn v t)
turn_adds v (wait s) = (tt, tt)
turn_adds v (signal s) = (tt, tt)
turn_adds v (execute cb) = all_append AddsNothing (map changes (changes_of_buffer v cb)) (executed cb ∷ []) (all_map AddsNothing changes (λ c. tt) (changes_of_buffer v cb)) (tt, tt)

signal_adds : (x : ℕ) → AllByRecursion AddsNothing (signals_any x)
signal_adds x = by (x == 0)
  where
    by : (t : Bool) → AllByRecursion AddsNothing (cond t [] (signals x ∷ []))
    by true = tt
    by false = (tt, tt)

acquire_adds : (t : Bool) (swapchain index semaphore fence : ℕ) → AllByRecursion AddsNothing (cond t [] (acquires swapchain index ∷ signals_any semaphore ++ signals_any fence))
acquire_adds true swapchain index semaphore fence = tt
acquire_adds false swapchain index semaphore fence = (tt, all_append AddsNothing (signals_any semaphore) (signals_any fence) (signal_adds semaphore) (signal_adds fence))

fence_adds : (t : Bool) (x : ℕ) → AllByRecursion AddsNothing (cond t (signals x ∷ []) [])
fence_adds true x = (tt, tt)
fence_adds false x = tt

set_adds : (t : Bool) (x : ℕ) → AllByRecursion AddsNothing (cond t (signals x) (unsignals x) ∷ [])
set_adds true x = (tt, tt)
set_adds false x = (tt, tt)

marks_add : (swapchain k : ℕ) (xs : List ℕ) → AllByRecursion AddsNothing (marks swapchain k xs)
marks_add swapchain k [] = tt
marks_add swapchain k (x ∷ xs) = (mark (x == 1), marks_add swapchain (k + 1) xs)
  where
    mark : (t : Bool) → AddsNothing (cond t (acquires swapchain k) (gives_back swapchain k))
    mark true = tt
    mark false = tt

put_adds : (image : ℕ) (bytes : List ℕ) (d : Detail) → AllByRecursion AddsNothing (image_bytes_put d image bytes)
put_adds image bytes (an_image format width height usage (Some index)) = (tt, tt)
put_adds image bytes (an_image format width height usage None) = tt
put_adds image bytes _ = tt

image_adds : (image : ℕ) (bytes : List ℕ) (l : Option Object) → AllByRecursion AddsNothing (option_map_or (λ o. image_bytes_put o.detail image bytes) l [])
image_adds image bytes None = tt
image_adds image bytes (Some o) = put_adds image bytes o.detail

row_room : (v : View) (e : Event) → AllByRecursion (Passes v) (row_of e) → AllRoom v (effect_of v e)
unfolding effect_of row_of broken
row_room v (CreateInstance instance api) a = ((one_more v a.1.0, tt), tt)
row_room v (CreateHeadlessSurfaceEXT instance surface) a = ((one_more v a.1.1.0, tt), tt)
row_room v (CreateDevice instance device) a = ((one_more v a.1.1.0, tt), tt)
row_room v (GetDeviceQueue device queue) a = queue_room v device queue (queue_of v device) a.1.0
row_room v (AllocateMemory device memory size) a = ((one_more v a.1.1.1.0, bytes_more v size a.1.1.1.1.0), tt)
row_room v (CreateBuffer device buffer size usage) a = ((one_more v a.1.1.1.0, tt), tt)
row_room v (CreateImage device image format width height usage) a = ((one_more v a.1.1.1.1.0, tt), tt)
row_room v (CreateCommandPool device pool flags) a = ((one_more v a.1.1.1.0, tt), tt)
row_room v (AllocateCommandBuffers device pool buffers) a =
    let last : AllByRecursion (Passes v) (room (length buffers) ∷ []) = all_behind (Passes v) (new_each [] buffers) (room (length buffers) ∷ []) a.1.1.1.1.1 in
    buffers_room v pool buffers (room_of v (length buffers) last.0)
row_room v (FreeCommandBuffers device pool buffers) a = all_nothing v _ (all_map AddsNothing ends (λ x. tt) buffers)
row_room v (CmdPipelineBarrier cb barriers) a = (command_room v cb (CmdPipelineBarrier cb barriers) (command_checks (CmdPipelineBarrier cb barriers)) a.1.1, tt)
row_room v (CmdFillBuffer cb buffer offset size word) a = (command_room v cb (CmdFillBuffer cb buffer offset size word) (command_checks (CmdFillBuffer cb buffer offset size word)) a.1.1, tt)
row_room v (CmdUpdateBuffer cb buffer offset bytes) a = (command_room v cb (CmdUpdateBuffer cb buffer offset bytes) (command_checks (CmdUpdateBuffer cb buffer offset bytes)) a.1.1, tt)
row_room v (CmdCopyBuffer cb source target regions) a = (command_room v cb (CmdCopyBuffer cb source target regions) (command_checks (CmdCopyBuffer cb source target regions)) a.1.1, tt)
row_room v (CmdCopyImage cb source source_layout target target_layout regions) a =
    (command_room v cb (CmdCopyImage cb source source_layout target target_layout regions) (command_checks (CmdCopyImage cb source source_layout target target_layout regions)) a.1.1, tt)
row_room v (CmdCopyBufferToImage cb source target layout regions) a =
    (command_room v cb (CmdCopyBufferToImage cb source target layout regions) (command_checks (CmdCopyBufferToImage cb source target layout regions)) a.1.1, tt)
row_room v (CmdCopyImageToBuffer cb source layout target regions) a =
    (command_room v cb (CmdCopyImageToBuffer cb source layout target regions) (command_checks (CmdCopyImageToBuffer cb source layout target regions)) a.1.1, tt)
row_room v (CmdClearColorImage cb image layout c0 c1 c2 c3) a = (command_room v cb (CmdClearColorImage cb image layout c0 c1 c2 c3) (command_checks (CmdClearColorImage cb image layout c0 c1 c2 c3)) a.1.1, tt)
row_room v (CreateFence device fence flags) a = ((one_more v a.1.1.1.0, tt), all_nothing _ _ (fence_adds (flags == 1) fence))
row_room v (ResetFences device fences) a = all_nothing v _ (all_map AddsNothing unsignals (λ x. tt) fences)
row_room v (CreateSemaphore device semaphore) a = ((one_more v a.1.1.0, tt), tt)
row_room v (QueueSubmit queue submits fence) a = all_nothing v _ (all_flat_map AddsNothing (steps_of_turn v) (turn_adds v) (turns_of submits fence))
row_room v (CreateSwapchainKHR device swapchain surface images format width height usage) a = ((one_more v a.1.1.1.1.1.1.1.0, bytes_more v (images * image_size format width height) a.1.1.1.1.1.1.1.1.0), tt)
row_room v (GetSwapchainImagesKHR device swapchain images) a = images_room v swapchain images (fetched v swapchain) a.1.1.1.0
row_room v (AcquireNextImageKHR device swapchain semaphore fence index answer) a = all_nothing v _ (acquire_adds (answer == 1) swapchain index semaphore fence)
row_room v (QueuePresentKHR queue waits images) a =
    all_nothing v _ (all_append AddsNothing _ (presents ∷ []) (all_append AddsNothing _ _ (all_flat_map AddsNothing (steps_of_turn v) (turn_adds v) (map wait waits)) (all_map AddsNothing (λ p. gives_back p.swapchain p.index) (λ p. tt) images)) (tt, tt))
row_room v (InitImage image layout bytes) a = (tt, all_nothing _ _ (image_adds image bytes (v.live image)))
row_room v (SetSwapchainState swapchain acquired) a = all_nothing v _ (marks_add swapchain 0 acquired)
row_room v (SetSemaphoreState semaphore signalled) a = all_nothing v (cond (signalled == 1) (signals semaphore) (unsignals semaphore) ∷ []) (set_adds (signalled == 1) semaphore)
row_room v _ a = search rules

taken_room : (v : View) (ss : List Step) → AllRoom v ss → AllRoom (after v taken) ss
unfolding after
taken_room v [] a = tt
taken_room v (taken ∷ ss) a = a
taken_room v (_ ∷ ss) a = a

pub event_room : (v : View) (e : Event) → first_broken v (checks_of e) ≡ None → AllRoom v (steps_of v e)
event_room v e none = (tt, taken_room v (effect_of v e) (row_room v e (all_behind (Passes v) (place_of e) (row_of e) (all_pass v (checks_of e) none))))
