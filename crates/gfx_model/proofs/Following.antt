-- What follows a frame does not matter for the frames up to it: frame numbers rise, and a section begins at the start alone.
use Rattle.std.proofs.Common.{◌≡◌, ℕ, ◌+◌, ◌^◌, ◌<◌, ◌≤◌, arith, ◌&&◌, Bool, true, false, cond, nat_le, ◌==◌, ◌||◌, refl, sym, ◌∙◌, ap, subst, List, [], ◌∷◌, ◌++◌, map, flat_map, Option, Some, None, append_assoc, append-nil, is_some}
use Rattle.std.specs.List.{AllByRecursion}
use Rattle.std.proofs.lemmas.Bool.{eqb-true, lt-leb}
use Rattle.gfx_model.specs.Laws.{WhatFollows}
use Rattle.gfx_model.proofs.Lists.{all_append, all_map, all_flat_map, all_along, filter_append, filter_none, any_append}
use Rattle.gfx_types.specs.declared.names.Fault.{Fault}
use Rattle.gfx_types.specs.declared.names.Fault.TheVariants.{StateOrder}
use Rattle.gfx_types.specs.declared.lists.Present.{Present}
use Rattle.gfx_types.specs.declared.frame.Frame.{Frame}
use Rattle.gfx_model.specs.Events.{Event}
use Rattle.gfx_model.specs.Events.Event.{CreateInstance, GetDeviceQueue, AllocateCommandBuffers, FreeCommandBuffers, CreateFence, ResetFences, WaitForFences, GetFenceStatus, QueueSubmit, QueueWaitIdle, DeviceWaitIdle, GetSwapchainImagesKHR, AcquireNextImageKHR, QueuePresentKHR, InitImage, SetSwapchainState, SetSemaphoreState, BeginSection}
use Rattle.gfx_model.specs.Steps.{Step, Object, Detail}
use Rattle.gfx_model.specs.Steps.Step.{taken, begins_section, creates, ends, signals, unsignals, acquires, gives_back, changes, executed, presents}
use Rattle.gfx_model.specs.Steps.Detail.{a_queue, a_command_buffer, an_image}
use Rattle.gfx_model.specs.Questions.{next_frame}
use Rattle.gfx_model.specs.Views.{View, view_of, is_empty_list, fetched, queue_of}
use Rattle.gfx_model.specs.Checks.{Turn, broken, first, unless, first_broken, turns_of}
use Rattle.gfx_model.specs.Checks.Turn.{wait, execute, signal}
use Rattle.gfx_model.specs.Table.{place_of, row_of, value, is_positive}
use Rattle.gfx_model.specs.Effects.{effect_of, steps_of, steps_of_turn, changes_of_buffer, fetches, first_fetch, signals_any, marks, image_bytes_put}
use Rattle.gfx_model.specs.History.{onto, steps, view, fault}
use Rattle.gfx_model.specs.Frames.{frame_of, frames}
use Rattle.gfx_model.specs.Blocks.{Whole, Content, End}
use Rattle.gfx_model.specs.Blocks.Content.{skipped, effect}
use Rattle.gfx_model.specs.Blocks.End.{clean}
use Rattle.gfx_model.specs.Meaning.{Judged, content_onto, content_fault, judged, judge, frames_to, has_frame}

-- ---- steps of events

-- a step that gives the next frame no new number to begin with
abbrev NoBegin : Step → Type 0
NoBegin (begins_section frame) = ⊥
NoBegin _ = Unit {0}

abbrev N : List Step → Type 0
N ss = AllByRecursion NoBegin ss

-- an event that is no begin marker
abbrev NoSection : Event → Type 0
NoSection (BeginSection frame) = ⊥
NoSection _ = Unit {0}

in_turn : (v : View) (t : Turn) → N (steps_of_turn v t)
in_turn v (wait s) = (tt, tt)
in_turn v (execute cb) = all_append NoBegin (map changes (changes_of_buffer v cb)) (executed cb ∷ []) (all_map NoBegin changes (λ c. tt) (changes_of_buffer v cb)) (tt, tt)
in_turn v (signal s) = (tt, tt)

in_fetches : (v : View) (swapchain k : ℕ) (images : List ℕ) → N (fetches v swapchain k images)
in_fetches v swapchain k [] = tt
in_fetches v swapchain k (i ∷ is) = (tt, in_fetches v swapchain (k + 1) is)

in_first_fetch : (known : List ℕ) (ss : List Step) → N ss → N (first_fetch known ss)
in_first_fetch [] ss n = n
in_first_fetch (i ∷ is) ss n = tt

in_cond : (b : Bool) (ss ts : List Step) → N ss → N ts → N (cond b ss ts)
in_cond true ss ts n m = n
in_cond false ss ts n m = m

in_marks : (swapchain k : ℕ) (as' : List ℕ) → N (marks swapchain k as')
in_marks swapchain k [] = tt
in_marks swapchain k (a ∷ rest) = (by (a == 1), in_marks swapchain (k + 1) rest)
  where
    by : (b : Bool) → NoBegin (cond b (acquires swapchain k) (gives_back swapchain k))
    by true = tt
    by false = tt

in_put : (d : Detail) (image : ℕ) (bytes : List ℕ) → N (image_bytes_put d image bytes)
in_put (an_image f w h u (Some index)) image bytes = (tt, tt)
in_put (an_image f w h u None) image bytes = tt
in_put _ image bytes = tt

in_object : (o : Option Object) (image : ℕ) (bytes : List ℕ) → N (Rattle.std.specs.Option.option_map_or (λ (x : Object). image_bytes_put x.detail image bytes) o [])
in_object None image bytes = tt
in_object (Some o) image bytes = in_put o.detail image bytes

in_effect : (v : View) (e : Event) → NoSection e → N (effect_of v e)
unfolding effect_of
in_effect v (BeginSection frame) n = absurd n
in_effect v (GetDeviceQueue device queue) n = in_cond (is_some (queue_of v device)) [] (creates queue device a_queue ∷ []) tt (tt, tt)
in_effect v (AllocateCommandBuffers device pool buffers) n = all_map NoBegin (λ cb. creates cb pool a_command_buffer) (λ cb. tt) buffers
in_effect v (FreeCommandBuffers device pool buffers) n = all_map NoBegin ends (λ cb. tt) buffers
in_effect v (CreateFence device fence flags) n = (tt, in_cond (flags == 1) (signals fence ∷ []) [] (tt, tt) tt)
in_effect v (ResetFences device fences) n = all_map NoBegin unsignals (λ f. tt) fences
in_effect v (WaitForFences device fences wait_all answer) n = tt
in_effect v (GetFenceStatus device fence answer) n = tt
in_effect v (QueueSubmit queue submits fence) n = all_flat_map NoBegin (steps_of_turn v) (in_turn v) (turns_of submits fence)
in_effect v (QueueWaitIdle queue) n = tt
in_effect v (DeviceWaitIdle device) n = tt
in_effect v (GetSwapchainImagesKHR device swapchain images) n = in_first_fetch (fetched v swapchain) _ (in_fetches v swapchain 0 images)
in_effect v (AcquireNextImageKHR device swapchain semaphore fence index answer) n =
    in_cond (answer == 1) [] _ tt (tt, all_append NoBegin (signals_any semaphore) (signals_any fence) (in_cond (semaphore == 0) [] _ tt (tt, tt)) (in_cond (fence == 0) [] _ tt (tt, tt)))
in_effect v (QueuePresentKHR queue waits images) n =
    all_append NoBegin _ (presents ∷ []) (all_append NoBegin _ _ (all_flat_map NoBegin (steps_of_turn v) (in_turn v) (map wait waits)) (all_map NoBegin (λ p. gives_back p.swapchain p.index) (λ p. tt) images)) (tt, tt)
in_effect v (InitImage image layout bytes) n = (tt, in_object (v.live image) image bytes)
in_effect v (SetSwapchainState swapchain acquired) n = in_marks swapchain 0 acquired
in_effect v (SetSemaphoreState semaphore signalled) n = (by (signalled == 1), tt)
  where
    by : (b : Bool) → NoBegin (cond b (signals semaphore) (unsignals semaphore))
    by true = tt
    by false = tt
in_effect v (CreateInstance instance api) n = (tt, tt)
in_effect v e n = (tt, tt)

-- ---- numbers of frames

step_keeps : (s : Step) (hs : List Step) → NoBegin s → next_frame hs ≤ next_frame (s ∷ hs)
unfolding next_frame
step_keeps (begins_section frame) hs n = absurd n
step_keeps presents hs n = omega arith
step_keeps _ hs n = omega arith

steps_keep : (ss hs : List Step) → N ss → next_frame hs ≤ next_frame (onto ss hs)
steps_keep [] hs n = omega arith
steps_keep (s ∷ ss) hs n = let a = step_keeps s hs n.0 in let b = steps_keep ss (s ∷ hs) n.1 in omega (arith, a, b)

abbrev next_of : List Event → ℕ
next_of h = next_frame (steps h)

event_keeps : (e : Event) (h : List Event) → NoSection e → next_of h ≤ next_of (e ∷ h)
unfolding steps
event_keeps e h n = steps_keep (steps_of (view_of (steps h)) e) (steps h) (tt, in_effect (view_of (steps h)) e n)

onto_append : (xs ys hs : List Step) → onto (xs ++ ys) hs ≡ onto ys (onto xs hs)
onto_append [] ys hs = refl
onto_append (x ∷ xs) ys hs = onto_append xs ys (x ∷ hs)

counted : (ss hs : List Step) → N ss → next_frame hs < next_frame (onto (ss ++ presents ∷ []) hs)
unfolding next_frame
counted ss hs n =
    let same = ap next_frame (onto_append ss (presents ∷ []) hs) in let more = steps_keep ss hs n in omega (arith, same, more)

-- the steps of a present before it counts
given_back : View → List ℕ → List Present → List Step
given_back v waits ps = flat_map (steps_of_turn v) (map wait waits) ++ map (λ p. gives_back p.swapchain p.index) ps

in_given_back : (v : View) (waits : List ℕ) (ps : List Present) → N (given_back v waits ps)
unfolding given_back
in_given_back v waits ps = all_append NoBegin _ _ (all_flat_map NoBegin (steps_of_turn v) (in_turn v) (map wait waits)) (all_map NoBegin (λ p. gives_back p.swapchain p.index) (λ p. tt) ps)

present_counts : (queue : ℕ) (waits : List ℕ) (ps : List Present) (h : List Event) → next_of h < next_of (QueuePresentKHR queue waits ps ∷ h)
unfolding steps effect_of given_back next_frame
present_counts queue waits ps h = counted (taken ∷ given_back (view_of (steps h)) waits ps) (steps h) (tt, in_given_back (view_of (steps h)) waits ps)

onto_some : (ss : List Step) (s : Step) (hs : List Step) → is_empty_list (onto ss (s ∷ hs)) ≡ false
onto_some [] s hs = refl
onto_some (t ∷ ss) s hs = onto_some ss t (s ∷ hs)

some_after : (e : Event) (h : List Event) → is_empty_list (steps (e ∷ h)) ≡ false
unfolding steps
some_after e h = onto_some (effect_of (view_of (steps h)) e) taken (steps h)

-- a section begins at the start alone
no_late_section : (h : List Event) (frame : ℕ) → is_empty_list (steps h) ≡ false → fault h (BeginSection frame) ≡ None → ⊥
unfolding broken place_of row_of
no_late_section h frame some ok =
    let e : first (unless false StateOrder) (first_broken (view h) (value (is_positive frame && nat_le frame (2 ^ 62)) ∷ [])) ≡ None =
    subst (λ (b : Bool). first (unless b StateOrder) (first_broken (view h) (value (is_positive frame && nat_le frame (2 ^ 62)) ∷ [])) ≡ None) some ok in
    absurd cc

-- ---- frames that follow

-- what a history and all that follows it show: its own frames, and frames with higher numbers
record Grown (h now : List Event) : Type 0 where
  more : List Frame
  shows : frames now ≡ frames h ++ more
  later : AllByRecursion (λ (f : Frame). next_of h ≤ f.number) more

grown_same : (h : List Event) → Grown h h
grown_same h = record { more = []; shows = sym (append-nil (frames h)); later = tt }

-- one event more at the start
grown_event : (e : Event) (h now : List Event) → is_empty_list (steps h) ≡ false → fault h e ≡ None → Grown (e ∷ h) now → Grown h now
unfolding frames
grown_event (BeginSection frame) h now some ok g = absurd (no_late_section h frame some ok)
grown_event (QueuePresentKHR queue waits ps) h now some ok g =
    let up = present_counts queue waits ps h in
    record {
      more = frame_of h ps ∷ g.more;
      shows = g.shows ∙ append_assoc (frames h) (frame_of h ps ∷ []) g.more;
      later = (omega arith, all_along _ _ (λ f low. omega (arith, low, up)) g.more g.later);
    }
grown_event (CreateInstance instance api) h now some ok g =
    let up = event_keeps (CreateInstance instance api) h tt in
    record { more = g.more; shows = g.shows; later = all_along _ _ (λ f low. omega (arith, low, up)) g.more g.later }
grown_event e h now some ok g =
    let up = event_keeps e h tt in
    record { more = g.more; shows = g.shows; later = all_along _ _ (λ f low. omega (arith, low, up)) g.more g.later }

-- ---- files

-- what a history shows, and what is judged to follow it
judge_grows : (ws : List Whole) (h : List Event) (end : End) → is_empty_list (steps h) ≡ false → Grown h (judge h ws end).history
unfolding judge
judge_grows [] h end some = grown_same h
judge_grows (w ∷ ws) h end some = by w.content (judge_grows ws h end some) (λ e. judge_grows ws (e ∷ h) end (some_after e h))
  where
    at : (e : Event) (f : Option Fault) (rest : Judged) → fault h e ≡ f → Grown (e ∷ h) rest.history → Grown h (judged h w f rest).history
    at e (Some f) rest is g = grown_same h
    at e None rest is g = grown_event e h rest.history some is g

    by : (c : Content) → Grown h (judge h ws end).history → ((e : Event) → Grown (e ∷ h) (judge (e ∷ h) ws end).history) →
        Grown h (judged h w (content_fault h c) (judge (content_onto c h) ws end)).history
    by skipped same more = same
    by (effect thread e) same more = at e (fault h e) _ refl (more e)

-- blocks after blocks without a fault
judge_append : (front rest : List Whole) (h : List Event) (end : End) → (judge h front clean).end ≡ clean →
    judge h (front ++ rest) end ≡ judge (judge h front clean).history rest end
unfolding judge
judge_append [] rest h end ok = refl
judge_append (w ∷ front) rest h end ok = by (content_fault h w.content) ok (judge_append front rest (content_onto w.content h) end)
  where
    by : (f : Option Fault) → (judged h w f (judge (content_onto w.content h) front clean)).end ≡ clean →
        ((judge (content_onto w.content h) front clean).end ≡ clean → judge (content_onto w.content h) (front ++ rest) end ≡ judge (judge (content_onto w.content h) front clean).history rest end) →
        judged h w f (judge (content_onto w.content h) (front ++ rest) end) ≡ judge (judged h w f (judge (content_onto w.content h) front clean)).history rest end
    by (Some f) ok more = absurd cc
    by None ok more = more ok

-- ---- numbers below the next one

abbrev Below : List Event → Type 0
Below h = AllByRecursion (λ (f : Frame). f.number < next_of h) (frames h)

below_event : (e : Event) (h : List Event) → fault h e ≡ None → Below h → Below (e ∷ h)
unfolding frames
below_event (BeginSection frame) [] ok b = tt
below_event (BeginSection frame) (x ∷ h) ok b = absurd (no_late_section (x ∷ h) frame (some_after x h) ok)
below_event (QueuePresentKHR queue waits ps) h ok b =
    let up = present_counts queue waits ps h in
    all_append _ (frames h) (frame_of h ps ∷ []) (all_along _ _ (λ f low. omega (arith, low, up)) (frames h) b) (up, tt)
below_event (CreateInstance instance api) h ok b =
    let up = event_keeps (CreateInstance instance api) h tt in all_along _ _ (λ f low. omega (arith, low, up)) (frames h) b
below_event e h ok b = let up = event_keeps e h tt in all_along _ _ (λ f low. omega (arith, low, up)) (frames h) b

judge_below : (ws : List Whole) (h : List Event) (end : End) → Below h → Below (judge h ws end).history
unfolding judge
judge_below [] h end b = b
judge_below (w ∷ ws) h end b = by w.content (judge_below ws h end b) (λ e. judge_below ws (e ∷ h) end)
  where
    at : (e : Event) (f : Option Fault) (rest : Judged) → fault h e ≡ f → (Below (e ∷ h) → Below rest.history) → Below (judged h w f rest).history
    at e (Some f) rest is more = b
    at e None rest is more = more (below_event e h is b)

    by : (c : Content) → Below (judge h ws end).history → ((e : Event) → Below (e ∷ h) → Below (judge (e ∷ h) ws end).history) →
        Below (judged h w (content_fault h c) (judge (content_onto c h) ws end)).history
    by skipped same more = same
    by (effect thread e) same more = at e (fault h e) _ refl (more e)

found_below : (last n : ℕ) (fs : List Frame) → AllByRecursion (λ (f : Frame). f.number < n) fs → has_frame last fs ≡ true → last < n
found_below last n (f ∷ fs) b has = by (f.number == last) refl has (found_below last n fs b.1)
  where
    by : (t : Bool) → (f.number == last) ≡ t → (t || has_frame last fs) ≡ true → (has_frame last fs ≡ true → last < n) → last < n
    by true is has more = let same = eqb-true f.number last is in let low = b.0 in omega (arith, same, low)
    by false is has more = more has
found_below last n [] b has = absurd cc

-- frames with higher numbers are not among those up to `last`
none_later : (last n : ℕ) (fs : List Frame) → last < n → AllByRecursion (λ (f : Frame). n ≤ f.number) fs → frames_to last fs ≡ []
none_later last n fs low a =
    filter_none (λ (f : Frame). nat_le f.number last) fs (all_along _ _ (λ f up. lt-leb f.number last (omega (arith, low, up))) fs a)

grown_frames : (h now : List Event) (last : ℕ) → last < next_of h → Grown h now → frames_to last (frames now) ≡ frames_to last (frames h)
grown_frames h now last low g =
    ap (frames_to last) g.shows ∙ filter_append _ (frames h) g.more
    ∙ ap (λ r. frames_to last (frames h) ++ r) (none_later last (next_of h) g.more low g.later) ∙ append-nil _

grown_has : (h now : List Event) (last : ℕ) → has_frame last (frames h) ≡ true → Grown h now → has_frame last (frames now) ≡ true
grown_has h now last has g = ap (has_frame last) g.shows ∙ any_append _ (frames h) g.more has

after_history : (h : List Event) (rest : List Whole) (end : End) (last : ℕ) → Below h → has_frame last (frames h) ≡ true →
    (frames_to last (frames (judge h rest end).history) ≡ frames_to last (frames h)) × (has_frame last (frames (judge h rest end).history) ≡ true)
unfolding frames
after_history [] rest end last b has = absurd cc
after_history (x ∷ h) rest end last b has =
    let g = judge_grows rest (x ∷ h) end (some_after x h) in (
      grown_frames (x ∷ h) (judge (x ∷ h) rest end).history last (found_below last (next_of (x ∷ h)) (frames (x ∷ h)) b has) g,
      grown_has (x ∷ h) (judge (x ∷ h) rest end).history last has g,
    )

pub what_follows : WhatFollows
unfolding frames
what_follows front rest end last ok has =
    let same = judge_append front rest [] end ok in
    let h : List Event = (judge [] front clean).history in
    let is = after_history h rest end last (judge_below front [] clean tt) has in
    (ap (λ (j : Judged). frames_to last (frames j.history)) same ∙ is.0, ap (λ (j : Judged). has_frame last (frames j.history)) same ∙ is.1)
