-- The operations of an event make the changes of its steps.
use Rattle.std.proofs.Common.{◌≡◌, ℕ, ◌+◌, ◌==◌, Bool, true, false, List, [], ◌∷◌, ◌++◌, map, cond, Option, Some, None, is_some, refl, ap, sym, ◌∙◌}
use Rattle.std.specs.Prelude.{flat_map}
use Rattle.std.specs.Option.{option_map_or}
use Rattle.std.proofs.lemmas.List.{append-nil}
use Rattle.std.proofs.lemmas.Grind.{flat_map-append}
use Rattle.gfx_types.specs.declared.lists.Present.{Present}
use Rattle.gfx_model.specs.Events.{Event}
use Rattle.gfx_model.specs.Events.Event.{GetDeviceQueue, AllocateCommandBuffers, FreeCommandBuffers, CreateFence, ResetFences, QueueSubmit, GetSwapchainImagesKHR, AcquireNextImageKHR, QueuePresentKHR, InitImage, SetSwapchainState, SetSemaphoreState}
use Rattle.gfx_model.specs.Steps.{Step, Change, Object, Detail}
use Rattle.gfx_model.specs.Steps.Detail.{a_queue, a_command_buffer, an_image}
use Rattle.gfx_model.specs.Steps.Change.{set_layout}
use Rattle.gfx_model.specs.Steps.Step.{creates, ends, signals, unsignals, acquires, gives_back, changes, executed, presents}
use Rattle.gfx_model.specs.Views.{View, queue_of, fetched}
use Rattle.gfx_model.specs.Checks.{Turn, turns_of}
use Rattle.gfx_model.specs.Checks.Turn.{wait, execute, signal}
use Rattle.gfx_model.specs.Effects.{effect_of, steps_of, steps_of_turn, changes_of_buffer, changes_of_command, changes_of_op, fetches, first_fetch, marks, signals_any, image_bytes_put}
use Rattle.gfx_ops.specs.Operations.{ops_of_command}
use Rattle.gfx_ops.proofs.Changes.{operations_are_changes}
use Rattle.gfx_tracker.specs.Operations.{ops_of, ops_of_turn, image_op, given_by}
use Rattle.gfx_tracker.specs.Laws.{changes_in}

-- ---- changes among steps

changes-append : (ss ts : List Step) → changes_in (ss ++ ts) ≡ changes_in ss ++ changes_in ts
changes-append [] ts = refl
changes-append (changes c ∷ ss) ts = ap (λ cs. c ∷ cs) (changes-append ss ts)
changes-append (_ ∷ ss) ts = changes-append ss ts

changes-all : (cs : List Change) → changes_in (map changes cs) ≡ cs
changes-all [] = refl
changes-all (c ∷ cs) = ap (λ ds. c ∷ ds) (changes-all cs)

-- steps of one kind change nothing where one of them doesn't
changes-map : {X : Type 0} (f : X → Step) → ((x : X) (ss : List Step) → changes_in (f x ∷ ss) ≡ changes_in ss) → (xs : List X) → changes_in (map f xs) ≡ []
changes-map f none [] = refl
changes-map f none (x ∷ xs) = none x (map f xs) ∙ changes-map f none xs

queue_none : (t : Bool) (device queue : ℕ) → changes_in (cond t [] (creates queue device a_queue ∷ [])) ≡ []
queue_none true device queue = refl
queue_none false device queue = refl

signal_none : (t : Bool) (x : ℕ) → changes_in (cond t (signals x ∷ []) []) ≡ []
signal_none true x = refl
signal_none false x = refl

set_none : (t : Bool) (x : ℕ) → changes_in (cond t (signals x) (unsignals x) ∷ []) ≡ []
set_none true x = refl
set_none false x = refl

fetches_none : (v : View) (swapchain k : ℕ) (xs : List ℕ) → changes_in (fetches v swapchain k xs) ≡ []
fetches_none v swapchain k [] = refl
fetches_none v swapchain k (x ∷ xs) = fetches_none v swapchain (k + 1) xs

first_none : (v : View) (swapchain : ℕ) (before xs : List ℕ) → changes_in (first_fetch before (fetches v swapchain 0 xs)) ≡ []
first_none v swapchain [] xs = fetches_none v swapchain 0 xs
first_none v swapchain (i ∷ before) xs = refl

any_none : (x : ℕ) → changes_in (signals_any x) ≡ []
any_none x = by (x == 0)
  where
    by : (t : Bool) → changes_in (cond t [] (signals x ∷ [])) ≡ []
    by true = refl
    by false = refl

acquire_none : (t : Bool) (swapchain index semaphore fence : ℕ) → changes_in (cond t [] (acquires swapchain index ∷ signals_any semaphore ++ signals_any fence)) ≡ []
acquire_none true swapchain index semaphore fence = refl
acquire_none false swapchain index semaphore fence =
    changes-append (signals_any semaphore) (signals_any fence) ∙ ap (λ cs. cs ++ changes_in (signals_any fence)) (any_none semaphore) ∙ any_none fence

marks_none : (swapchain k : ℕ) (xs : List ℕ) → changes_in (marks swapchain k xs) ≡ []
marks_none swapchain k [] = refl
marks_none swapchain k (x ∷ xs) = mark (x == 1) (marks swapchain (k + 1) xs) ∙ marks_none swapchain (k + 1) xs
  where
    mark : (t : Bool) (ss : List Step) → changes_in (cond t (acquires swapchain k) (gives_back swapchain k) ∷ ss) ≡ changes_in ss
    mark true ss = refl
    mark false ss = refl

waits_none : (v : View) (waits : List ℕ) → changes_in (flat_map (steps_of_turn v) (map wait waits)) ≡ []
waits_none v [] = refl
waits_none v (s ∷ ss) = waits_none v ss

present_none : (v : View) (waits : List ℕ) (ps : List Present) →
    changes_in (flat_map (steps_of_turn v) (map wait waits) ++ map (λ p. gives_back p.swapchain p.index) ps ++ presents ∷ []) ≡ []
present_none v waits ps =
    let a = flat_map (steps_of_turn v) (map wait waits) in
    let b = map (λ (p : Present). gives_back p.swapchain p.index) ps in
    changes-append (a ++ b) (presents ∷ []) ∙ append-nil (changes_in (a ++ b))
    ∙ changes-append a b ∙ ap (λ cs. cs ++ changes_in b) (waits_none v waits) ∙ changes-map (λ (p : Present). gives_back p.swapchain p.index) (λ p ss. refl) ps

-- ---- the operations of a submit

-- the operations of commands, one after another
commands_made : (v : View) (given : List ℕ) (cs : List Event) →
    flat_map (changes_of_op given) (flat_map (ops_of_command v) cs) ≡ flat_map (changes_of_command v) cs
commands_made v given [] = refl
commands_made v given (c ∷ cs) =
    flat_map-append (changes_of_op given) (ops_of_command v c) (flat_map (ops_of_command v) cs)
    ∙ ap (λ ds. ds ++ flat_map (changes_of_op given) (flat_map (ops_of_command v) cs)) (operations_are_changes v c given)
    ∙ ap (λ ds. changes_of_command v c ++ ds) (commands_made v given cs)

turn_made : (v : View) (given : List ℕ) (t : Turn) → flat_map (changes_of_op given) (ops_of_turn v t) ≡ changes_in (steps_of_turn v t)
turn_made v given (wait s) = refl
turn_made v given (signal s) = refl
turn_made v given (execute cb) =
    commands_made v given (v.buffer cb).commands
    ∙ sym (changes-append (map changes (changes_of_buffer v cb)) (executed cb ∷ []) ∙ append-nil (changes_in (map changes (changes_of_buffer v cb))) ∙ changes-all (changes_of_buffer v cb))

turns_made : (v : View) (given : List ℕ) (ts : List Turn) → flat_map (changes_of_op given) (flat_map (ops_of_turn v) ts) ≡ changes_in (flat_map (steps_of_turn v) ts)
turns_made v given [] = refl
turns_made v given (t ∷ ts) =
    flat_map-append (changes_of_op given) (ops_of_turn v t) (flat_map (ops_of_turn v) ts)
    ∙ ap (λ ds. ds ++ flat_map (changes_of_op given) (flat_map (ops_of_turn v) ts)) (turn_made v given t)
    ∙ ap (λ ds. changes_in (steps_of_turn v t) ++ ds) (turns_made v given ts)
    ∙ sym (changes-append (steps_of_turn v t) (flat_map (steps_of_turn v) ts))

-- ---- the bytes of an image

image_made : (image : ℕ) (bytes : List ℕ) (d : Detail) → flat_map (changes_of_op bytes) (image_op d image) ≡ changes_in (image_bytes_put d image bytes)
image_made image bytes (an_image format width height usage (Some index)) = refl
image_made image bytes (an_image format width height usage None) = refl
image_made image bytes _ = refl

init_made : (image : ℕ) (bytes : List ℕ) (o : Option Object) →
    flat_map (changes_of_op bytes) (option_map_or (λ o. image_op o.detail image) o []) ≡ changes_in (option_map_or (λ o. image_bytes_put o.detail image bytes) o [])
init_made image bytes None = refl
init_made image bytes (Some o) = image_made image bytes o.detail

-- ---- all events

pub operations_of_events : (v : View) (e : Event) → flat_map (changes_of_op (given_by e)) (ops_of v e) ≡ changes_in (steps_of v e)
unfolding effect_of ops_of
operations_of_events v (GetDeviceQueue device queue) = sym (queue_none (is_some (queue_of v device)) device queue)
operations_of_events v (AllocateCommandBuffers device pool buffers) = sym (changes-map (λ cb. creates cb pool a_command_buffer) (λ x ss. refl) buffers)
operations_of_events v (FreeCommandBuffers device pool buffers) = sym (changes-map ends (λ x ss. refl) buffers)
operations_of_events v (CreateFence device fence flags) = sym (signal_none (flags == 1) fence)
operations_of_events v (ResetFences device fences) = sym (changes-map unsignals (λ x ss. refl) fences)
operations_of_events v (QueueSubmit queue submits fence) = turns_made v [] (turns_of submits fence)
operations_of_events v (GetSwapchainImagesKHR device swapchain images) = sym (first_none v swapchain (fetched v swapchain) images)
operations_of_events v (AcquireNextImageKHR device swapchain semaphore fence index answer) = sym (acquire_none (answer == 1) swapchain index semaphore fence)
operations_of_events v (QueuePresentKHR queue waits images) = sym (present_none v waits images)
operations_of_events v (InitImage image layout bytes) = ap (λ cs. set_layout image layout ∷ cs) (init_made image bytes (v.live image))
operations_of_events v (SetSwapchainState swapchain acquired) = sym (marks_none swapchain 0 acquired)
operations_of_events v (SetSemaphoreState semaphore signalled) = sym (set_none (signalled == 1) semaphore)
operations_of_events v _ = refl
