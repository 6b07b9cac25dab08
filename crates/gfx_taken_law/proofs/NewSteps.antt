-- The steps of an event create no ids but those that it creates by its fields.
use Rattle.std.proofs.Common.{◌≡◌, ℕ, ◌+◌, Bool, true, false, refl, sym, ◌∙◌, ap, List, [], ◌∷◌, ◌++◌, map, flat_map, cond, rules, ◌==◌, ◌⊎◌, inl, inr, Option, Some, None, is_some}
use Rattle.std.specs.List.{AllByRecursion}
use Rattle.std.specs.Option.{option_map_or}
use Rattle.std.proofs.lemmas.Bool.{eqb-true, eq-eqb, or_left, or_right, or_cases}
use Rattle.gfx_types.specs.declared.lists.Present.{Present}
use Rattle.gfx_model.specs.Events.{Event}
use Rattle.gfx_model.specs.Events.Event.{CreateInstance, CreateHeadlessSurfaceEXT, CreateDevice, GetDeviceQueue, AllocateMemory, CreateBuffer, CreateImage, CreateCommandPool, AllocateCommandBuffers, FreeCommandBuffers, CreateFence, ResetFences, CreateSemaphore, CreateSwapchainKHR, QueueSubmit, GetSwapchainImagesKHR, AcquireNextImageKHR, QueuePresentKHR, InitImage, SetSwapchainState, SetSemaphoreState}
use Rattle.gfx_model.specs.Steps.{Step, Object, Detail}
use Rattle.gfx_model.specs.Steps.Detail.{a_queue, a_command_buffer, an_image}
use Rattle.gfx_model.specs.Steps.Step.{creates, ends, signals, unsignals, acquires, gives_back, changes, executed, presents}
use Rattle.gfx_model.specs.Questions.{used}
use Rattle.gfx_model.specs.Views.{View, queue_of, fetched}
use Rattle.gfx_model.specs.Checks.{Turn, turns_of, is_among}
use Rattle.gfx_model.specs.Checks.Turn.{wait, execute, signal}
use Rattle.gfx_model.specs.Effects.{effect_of, steps_of, steps_of_turn, changes_of_buffer, fetches, first_fetch, marks, signals_any, image_bytes_put}
use Rattle.gfx_script_model.specs.Ids.{defines_of}
use Rattle.gfx_model.specs.History.{onto}
use Rattle.gfx_model.proofs.Lists.{all_append, all_along, all_map, all_flat_map}
use Rattle.gfx_taken_law.proofs.OldRows.{MakesNone}
use Rattle.gfx_taken_law.proofs.NewIds.{among_one}
use Rattle.gfx_taken_law.proofs.NewRows.{among_plain}

-- a step that creates no object
abbrev pub CreatesNone : Step → Type 0
CreatesNone (creates i parent detail) = ⊥
CreatesNone _ = Unit {0}

-- a step that creates an object of ds, or none
abbrev pub Makes : List ℕ → Step → Type 0
Makes ds (creates i parent detail) = is_among i ds ≡ true
Makes ds _ = Unit {0}

none_makes : (ds : List ℕ) (s : Step) → CreatesNone s → Makes ds s
none_makes ds (creates i parent detail) p = absurd p
none_makes ds _ p = tt

abbrev CreateNone : List Step → Type 0
CreateNone ss = AllByRecursion CreatesNone ss

turn_none : (v : View) (t : Turn) → CreateNone (steps_of_turn v t)
turn_none v (wait s) = (tt, tt)
turn_none v (signal s) = (tt, tt)
turn_none v (execute cb) = all_append CreatesNone (map changes (changes_of_buffer v cb)) (executed cb ∷ []) (all_map CreatesNone changes (λ c. tt) (changes_of_buffer v cb)) (tt, tt)

any_none : (x : ℕ) → CreateNone (signals_any x)
any_none x = by (x == 0)
  where
    by : (t : Bool) → CreateNone (cond t [] (signals x ∷ []))
    by true = tt
    by false = (tt, tt)

acquire_none : (t : Bool) (swapchain index semaphore fence : ℕ) → CreateNone (cond t [] (acquires swapchain index ∷ signals_any semaphore ++ signals_any fence))
acquire_none true swapchain index semaphore fence = tt
acquire_none false swapchain index semaphore fence = (tt, all_append CreatesNone (signals_any semaphore) (signals_any fence) (any_none semaphore) (any_none fence))

marks_none : (swapchain k : ℕ) (xs : List ℕ) → CreateNone (marks swapchain k xs)
marks_none swapchain k [] = tt
marks_none swapchain k (x ∷ xs) = (mark (x == 1), marks_none swapchain (k + 1) xs)
  where
    mark : (t : Bool) → CreatesNone (cond t (acquires swapchain k) (gives_back swapchain k))
    mark true = tt
    mark false = tt

set_none : (t : Bool) (x : ℕ) → CreateNone (cond t (signals x) (unsignals x) ∷ [])
set_none true x = (tt, tt)
set_none false x = (tt, tt)

put_none : (image : ℕ) (bytes : List ℕ) (d : Detail) → CreateNone (image_bytes_put d image bytes)
put_none image bytes (an_image format width height usage (Some index)) = (tt, tt)
put_none image bytes (an_image format width height usage None) = tt
put_none image bytes _ = tt

image_none : (image : ℕ) (bytes : List ℕ) (l : Option Object) → CreateNone (option_map_or (λ o. image_bytes_put o.detail image bytes) l [])
image_none image bytes None = tt
image_none image bytes (Some o) = put_none image bytes o.detail

-- the steps of a present before it shows the frame
abbrev given_back : View → List ℕ → List Present → List Step
given_back v waits images = flat_map (steps_of_turn v) (map wait waits) ++ map (λ p. gives_back p.swapchain p.index) images

given_back_none : (v : View) (waits : List ℕ) (images : List Present) → CreateNone (given_back v waits images)
given_back_none v waits images =
    all_append CreatesNone (flat_map (steps_of_turn v) (map wait waits)) (map (λ p. gives_back p.swapchain p.index) images)
    (all_flat_map CreatesNone (steps_of_turn v) (turn_none v) (map wait waits)) (all_map CreatesNone (λ p. gives_back p.swapchain p.index) (λ p. tt) images)

-- the steps of an event that creates no id
effect_none : (v : View) (e : Event) → MakesNone e → CreateNone (effect_of v e)
unfolding effect_of
effect_none v (CreateInstance instance api) p = absurd p
effect_none v (CreateHeadlessSurfaceEXT instance surface) p = absurd p
effect_none v (CreateDevice instance device) p = absurd p
effect_none v (GetDeviceQueue device queue) p = absurd p
effect_none v (AllocateMemory device memory size) p = absurd p
effect_none v (CreateBuffer device buffer size usage) p = absurd p
effect_none v (CreateImage device image format width height usage) p = absurd p
effect_none v (CreateCommandPool device pool flags) p = absurd p
effect_none v (AllocateCommandBuffers device pool buffers) p = absurd p
effect_none v (CreateFence device fence flags) p = absurd p
effect_none v (CreateSemaphore device semaphore) p = absurd p
effect_none v (CreateSwapchainKHR device swapchain surface images format width height usage) p = absurd p
effect_none v (GetSwapchainImagesKHR device swapchain images) p = absurd p
effect_none v (FreeCommandBuffers device pool buffers) p = all_map CreatesNone ends (λ x. tt) buffers
effect_none v (ResetFences device fences) p = all_map CreatesNone unsignals (λ x. tt) fences
effect_none v (QueueSubmit queue submits fence) p = all_flat_map CreatesNone (steps_of_turn v) (turn_none v) (turns_of submits fence)
effect_none v (AcquireNextImageKHR device swapchain semaphore fence index answer) p = acquire_none (answer == 1) swapchain index semaphore fence
effect_none v (InitImage image layout bytes) p = (tt, image_none image bytes (v.live image))
effect_none v (SetSwapchainState swapchain acquired) p = marks_none swapchain 0 acquired
effect_none v (SetSemaphoreState semaphore signalled) p = set_none (signalled == 1) semaphore
effect_none v (QueuePresentKHR queue waits images) p = all_append CreatesNone (given_back v waits images) (presents ∷ []) (given_back_none v waits images) (tt, tt)
effect_none v _ p = search rules

-- ---- what creates ids

queue_makes : (t : Bool) (device queue : ℕ) → AllByRecursion (Makes (queue ∷ [])) (cond t [] (creates queue device a_queue ∷ []))
queue_makes true device queue = tt
queue_makes false device queue = (among_one queue, tt)

fence_makes : (t : Bool) (x y : ℕ) → AllByRecursion (Makes (y ∷ [])) (cond t (signals x ∷ []) [])
fence_makes true x y = (tt, tt)
fence_makes false x y = tt

buffers_make : (ds : List ℕ) (pool : ℕ) (xs : List ℕ) → ((x : ℕ) → is_among x xs ≡ true → is_among x ds ≡ true) → AllByRecursion (Makes ds) (map (λ cb. creates cb pool a_command_buffer) xs)
buffers_make ds pool [] inside = tt
buffers_make ds pool (x ∷ xs) inside =
    (inside x (or_left (x == x) (is_among x xs) (eq-eqb x x refl)), buffers_make ds pool xs (λ y m. inside y (or_right (x == y) (is_among y xs) m)))

fetches_make : (v : View) (ds : List ℕ) (swapchain k : ℕ) (xs : List ℕ) → ((x : ℕ) → is_among x xs ≡ true → is_among x ds ≡ true) → AllByRecursion (Makes ds) (fetches v swapchain k xs)
fetches_make v ds swapchain k [] inside = tt
fetches_make v ds swapchain k (x ∷ xs) inside =
    (inside x (or_left (x == x) (is_among x xs) (eq-eqb x x refl)), fetches_make v ds swapchain (k + 1) xs (λ y m. inside y (or_right (x == y) (is_among y xs) m)))

first_makes : (v : View) (swapchain : ℕ) (before xs : List ℕ) → AllByRecursion (Makes (xs ++ [])) (first_fetch before (fetches v swapchain 0 xs))
first_makes v swapchain [] xs = fetches_make v (xs ++ []) swapchain 0 xs (among_plain xs)
first_makes v swapchain (i ∷ before) xs = tt

effect_makes : (m : ℕ) (v : View) (e : Event) → AllByRecursion (Makes (defines_of m e)) (effect_of v e)
unfolding effect_of defines_of
effect_makes m v (CreateInstance instance api) = (among_one instance, tt)
effect_makes m v (CreateHeadlessSurfaceEXT instance surface) = (among_one surface, tt)
effect_makes m v (CreateDevice instance device) = (among_one device, tt)
effect_makes m v (GetDeviceQueue device queue) = queue_makes (is_some (queue_of v device)) device queue
effect_makes m v (AllocateMemory device memory size) = (among_one memory, tt)
effect_makes m v (CreateBuffer device buffer size usage) = (among_one buffer, tt)
effect_makes m v (CreateImage device image format width height usage) = (among_one image, tt)
effect_makes m v (CreateCommandPool device pool flags) = (among_one pool, tt)
effect_makes m v (AllocateCommandBuffers device pool buffers) = buffers_make (buffers ++ []) pool buffers (among_plain buffers)
effect_makes m v (CreateFence device fence flags) = (among_one fence, fence_makes (flags == 1) fence fence)
effect_makes m v (CreateSemaphore device semaphore) = (among_one semaphore, tt)
effect_makes m v (CreateSwapchainKHR device swapchain surface images format width height usage) = (among_one swapchain, tt)
effect_makes m v (GetSwapchainImagesKHR device swapchain images) = first_makes v swapchain (fetched v swapchain) images
effect_makes m v e = all_along CreatesNone (Makes (defines_of m e)) (none_makes (defines_of m e)) (effect_of v e) (effect_none v e tt)

-- ---- what was used after steps

used_step : (ds : List ℕ) (s : Step) (h : List Step) (x : ℕ) → Makes ds s → used (s ∷ h) x ≡ true → (is_among x ds ≡ true) ⊎ (used h x ≡ true)
unfolding used
used_step ds (creates i parent detail) h x p u =
    elim (or_cases (i == x) (used h x) u) [ inl same ↦ inl (ap (λ z. is_among z ds) (sym (eqb-true i x same)) ∙ p) | inr before ↦ inr before ]
used_step ds _ h x p u = inr u

used_onto : (ds : List ℕ) (ss h : List Step) (x : ℕ) → AllByRecursion (Makes ds) ss → used (onto ss h) x ≡ true → (is_among x ds ≡ true) ⊎ (used h x ≡ true)
used_onto ds [] h x a u = inr u
used_onto ds (s ∷ ss) h x a u =
    elim (used_onto ds ss (s ∷ h) x a.1 u) [ inl made ↦ inl made | inr before ↦ used_step ds s h x a.0 before ]

-- what was used after an event is created by it, or was used before
pub used_event : (m : ℕ) (v : View) (e : Event) (h : List Step) (x : ℕ) → used (onto (steps_of v e) h) x ≡ true → (is_among x (defines_of m e) ≡ true) ⊎ (used h x ≡ true)
used_event m v e h x u = used_onto (defines_of m e) (steps_of v e) h x (tt, effect_makes m v e) u
