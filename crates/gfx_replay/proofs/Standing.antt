-- Places stand for a history, effect by effect.
use Rattle.std.proofs.Common.{◌≡◌, ℕ, Bool, true, false, cond, refl, sym, ap, ◌∙◌, subst, List, [], ◌∷◌, length, fold, flat_map, replicate, Option, Some, None, option_map, option_and_then}
use Rattle.std.specs.Option.{option_or}
use Rattle.std.proofs.lemmas.List.{length-replicate}
use Rattle.gfx_types.specs.declared.names.Kind.TheVariants as kind
use Rattle.gfx_types.specs.declared.op.Place.{Place}
use Rattle.gfx_types.specs.declared.op.Place.TheVariants as place
use Rattle.gfx_model.specs.Events.{Event}
use Rattle.gfx_model.specs.Events.Event.{AllocateMemory, FreeMemory, DestroySwapchainKHR, GetSwapchainImagesKHR}
use Rattle.gfx_model.specs.Steps.{Step, Object, Detail}
use Rattle.gfx_model.specs.Steps.Detail.{a_memory, an_image}
use Rattle.gfx_model.specs.Steps.Step.{changes}
use Rattle.gfx_model.specs.Questions.{executed_changes, image_size}
use Rattle.gfx_model.specs.Views.{View, Window, window, is_live, detail_window}
use Rattle.gfx_model.specs.Checks.{first_broken}
use Rattle.gfx_model.specs.Table.{checks_of}
use Rattle.gfx_model.specs.Bytes.{byte, same_place}
use Rattle.gfx_model.specs.Effects.{steps_of, changes_of_op}
use Rattle.gfx_model.specs.After.{after}
use Rattle.gfx_model.specs.Frames.{picture_size}
use Rattle.gfx_model.specs.History.{onto, steps, view, is_valid, executed}
use Rattle.gfx_model.proofs.Steps.{view-event}
use Rattle.gfx_laws.specs.Lawful.{IsLawful, id_in}
use Rattle.gfx_laws.proofs.ValidHistories.{lawful_history}
use Rattle.gfx_tracker.proofs.Operations.{operations_of_events}
use Rattle.gfx_tracker.proofs.LawfulEvents.{without_changes}
use Rattle.gfx_replay.specs.Maps.{IsSame, IsSet, IsGiven, IsKept, is_image_among, is_no_other_image}
use Rattle.gfx_replay.specs.Held.{Bytes, AreLeft, Holds, HoldsMore}
use Rattle.gfx_replay.specs.Ranges.{sizes_of}
use Rattle.gfx_replay.specs.Sizes.{place_size}
use Rattle.gfx_replay.specs.Placing.{changes_places}
use Rattle.gfx_tracker.specs.Operations.{ops_of, given_by}
use Rattle.gfx_tracker.specs.Laws.{changes_in}
use Rattle.gfx_replay.specs.Stands.{ArePlacesOf}
use Rattle.gfx_replay.specs.Updates.{AreUpdated, zeros_in, zeros_of}
use Rattle.gfx_replay.proofs.Holding.{zeros_left, holds_same, holds_set, holds_kept, holds_given, sizes_set, sizes_kept, sizes_given}
use Rattle.gfx_replay.proofs.SizeSteps.{image_bytes}
use Rattle.gfx_replay.proofs.SizeEvents.{event_same}
use Rattle.gfx_replay.proofs.SizeChanges.{allocated, freed, chain_ended}
use Rattle.gfx_replay.proofs.Fetching.{Fetches, images_fetched}

-- ---- the changes of an event

changes-onto : (ss hs : List Step) → executed_changes (onto ss hs) ≡ onto (changes_in ss) (executed_changes hs)
unfolding executed_changes
changes-onto [] hs = refl
changes-onto (changes c ∷ ss) hs = changes-onto ss (changes c ∷ hs)
changes-onto (s ∷ ss) hs = changes-onto ss (s ∷ hs)

-- the changes after an event are those before it, and then its own
pub executed-event : (e : Event) (h : List Event) → executed (e ∷ h) ≡ onto (changes_in (steps_of (view h) e)) (executed h)
unfolding steps
executed-event e h = changes-onto (steps_of (view h) e) (steps h)

-- an event without operations changes nothing
pub quiet : (e : Event) (h : List Event) → ops_of (view h) e ≡ [] → executed (e ∷ h) ≡ executed h
quiet e h none =
    executed-event e h ∙ ap (λ cs. onto cs (executed h)) (sym (operations_of_events (view h) e) ∙ ap (flat_map (changes_of_op (given_by e))) none)

-- ---- one event more

-- a valid history, an event without a fault after it, and places that are before and after its operations
pub record IsRun (h : List Event) (e : Event) (b c : Bytes) : Type 0 where
  pub valid : is_valid h ≡ true
  pub passes : first_broken (view h) (checks_of e) ≡ None
  pub before : ArePlacesOf b (view h) (executed h)
  pub sizes : IsSame (sizes_of b) (sizes_of c)
  pub ran : HoldsMore (flat_map (changes_of_op (given_by e)) (ops_of (view h) e)) b c

pub lawful : (h : List Event) → is_valid h ≡ true → IsLawful (view h) []
lawful h valid = without_changes (view h) (executed h) (lawful_history h valid)

-- what the operations left
pub run_holds : (h : List Event) (e : Event) (b c : Bytes) → IsRun h e b c → Holds c (executed (e ∷ h))
run_holds h e b c run =
    subst (Holds c) (sym (executed-event e h ∙ ap (λ cs. onto cs (executed h)) (sym (operations_of_events (view h) e))))
    (run.ran (executed h) (run.before).held)

run_sizes : (h : List Event) (e : Event) (b c : Bytes) → IsRun h e b c → (at : Place) → sizes_of c at ≡ place_size (view h) at
run_sizes h e b c run at = run.sizes at ∙ (run.before).sizes at

-- what never existed has zeros
unused_zero : (h : List Event) (e : Event) → is_valid h ≡ true → ops_of (view h) e ≡ [] → (at : Place) → (view h).used (id_in at) ≡ false → (i : ℕ) → byte (executed (e ∷ h)) at i ≡ 0
unused_zero h e valid none at unused i = ap (λ es. byte es at i) (quiet e h none) ∙ (lawful_history h valid).bytes at i unused

-- the image that is given a place is one of a swapchain, whose window has its size
zeros_size : (w : View) (x : ℕ) (n : ℕ) → place_size w (place.Image x) ≡ Some n → option_map length (zeros_of w (place.Image x)) ≡ place_size w (place.Image x)
zeros_size w x n e = by (w.live x) refl e
  where
    by_detail : (p : ℕ) (d : Detail) → w.live x ≡ Some (record { parent = p; detail = d }) → image_bytes (Some (record { parent = p; detail = d })) ≡ Some n →
        option_map length (option_map zeros_in (detail_window w x d)) ≡ image_bytes (Some (record { parent = p; detail = d }))
    by_detail p (an_image format width height usage (Some index)) live e = ap (λ k. Some k) (length-replicate {A = ℕ} (image_size format width height) 0)
    by_detail p (an_image format width height usage None) live e = absurd (cc)
    by_detail p (a_memory size) live e = absurd (cc)
    by_detail p _ live e = absurd (cc)

    by : (l : Option Object) → w.live x ≡ l → image_bytes l ≡ Some n → option_map length (option_map zeros_in (option_and_then (λ o. detail_window w x o.detail) l)) ≡ image_bytes l
    by None live e = absurd (cc)
    by (Some o) live e = by_detail o.parent o.detail live e

-- sizes that are given as the answers say are those of the answers
given_same : (c d s f : Option ℕ) (t : Bool) (n : ℕ) → d ≡ option_or c (cond t f None) → s ≡ option_or c (cond t (Some n) None) → (t ≡ true → c ≡ None → f ≡ s) → d ≡ s
given_same (Some m) d s f t n e g same = e ∙ sym g
given_same None d s f false n e g same = e ∙ sym g
given_same None d s f true n e g same = e ∙ same refl refl

-- a record of what is left to show
after_run : (h : List Event) (e : Event) (w : View) → fold after (view h) (steps_of (view h) e) ≡ w → (d : Bytes) → ((at : Place) → sizes_of d at ≡ place_size (fold after (view h) (steps_of (view h) e)) at) →
    Holds d (executed (e ∷ h)) → ArePlacesOf d w (executed (e ∷ h))
after_run h e w is d sizes held = record { sizes = λ at. sizes at ∙ ap (λ u. place_size u at) is; held = held }

-- what is added or dropped after the operations
updated_other : (h : List Event) (e : Event) (b c d : Bytes) → IsRun h e b c → changes_places e ≡ false → IsSame c d → (w : View) → fold after (view h) (steps_of (view h) e) ≡ w →
    ArePlacesOf d w (executed (e ∷ h))
updated_other h e b c d run other same w is =
    after_run h e w is d
    (λ at. ap (option_map length) (same at) ∙ run_sizes h e b c run at ∙ sym (event_same (view h) (lawful h run.valid) e run.passes other at))
    (holds_same c d (executed (e ∷ h)) same (run_holds h e b c run))

updated_memory : (h : List Event) (device memory size : ℕ) (b c d : Bytes) → IsRun h (AllocateMemory device memory size) b c → IsSet c d (place.Memory memory) (Some (replicate size 0)) →
    (w : View) → fold after (view h) (steps_of (view h) (AllocateMemory device memory size)) ≡ w → ArePlacesOf d w (executed (AllocateMemory device memory size ∷ h))
unfolding ops_of
updated_memory h device memory size b c d run set w is =
    let e = AllocateMemory device memory size in
    let now = allocated (view h) (lawful h run.valid) device memory size run.passes in
    after_run h e w is d
    (λ at. sizes_set c d (place.Memory memory) (Some (replicate size 0)) set at
    ∙ ap (λ o. cond (same_place (place.Memory memory) at) o (sizes_of c at)) (ap (λ n. Some n) (length-replicate {A = ℕ} size 0))
    ∙ ap (cond (same_place (place.Memory memory) at) (Some size)) (run_sizes h e b c run at)
    ∙ sym (now.1 at))
    (holds_set c d (executed (e ∷ h)) (place.Memory memory) (Some (replicate size 0)) set
    (λ bytes same. subst (AreLeft (executed (e ∷ h)) (place.Memory memory)) (let one : replicate size 0 ≡ bytes = cc in one)
    (zeros_left (executed (e ∷ h)) (place.Memory memory) size (unused_zero h e run.valid refl (place.Memory memory) now.0)))
    (run_holds h e b c run))

updated_free : (h : List Event) (device memory : ℕ) (b c d : Bytes) → IsRun h (FreeMemory device memory) b c → IsSet c d (place.Memory memory) None →
    (w : View) → fold after (view h) (steps_of (view h) (FreeMemory device memory)) ≡ w → ArePlacesOf d w (executed (FreeMemory device memory ∷ h))
updated_free h device memory b c d run set w is =
    let e = FreeMemory device memory in
    after_run h e w is d
    (λ at. sizes_set c d (place.Memory memory) None set at
    ∙ ap (cond (same_place (place.Memory memory) at) None) (run_sizes h e b c run at)
    ∙ sym (freed (view h) (lawful h run.valid) device memory run.passes at))
    (holds_set c d (executed (e ∷ h)) (place.Memory memory) None set (λ bytes none. absurd (cc)) (run_holds h e b c run))

updated_chain : (h : List Event) (device swapchain : ℕ) (b c d : Bytes) → IsRun h (DestroySwapchainKHR device swapchain) b c →
    (w : View) → fold after (view h) (steps_of (view h) (DestroySwapchainKHR device swapchain)) ≡ w → IsKept c d (is_live w kind.Image) → ArePlacesOf d w (executed (DestroySwapchainKHR device swapchain ∷ h))
updated_chain h device swapchain b c d run w is kept =
    let e = DestroySwapchainKHR device swapchain in
    let before : IsKept c d (is_live (fold after (view h) (steps_of (view h) e)) kind.Image) = subst (λ u. IsKept c d (is_live u kind.Image)) (sym is) kept in
    after_run h e w is d
    (λ at. sizes_kept c d (is_live (fold after (view h) (steps_of (view h) e)) kind.Image) before at
    ∙ ap (λ o. cond (is_no_other_image (is_live (fold after (view h) (steps_of (view h) e)) kind.Image) at) o None) (run_sizes h e b c run at)
    ∙ sym (chain_ended (view h) (lawful h run.valid) device swapchain run.passes at))
    (holds_kept c d (executed (e ∷ h)) (is_live w kind.Image) kept (run_holds h e b c run))

updated_images : (h : List Event) (device swapchain : ℕ) (ids : List ℕ) (b c d : Bytes) → IsRun h (GetSwapchainImagesKHR device swapchain ids) b c →
    (w : View) → fold after (view h) (steps_of (view h) (GetSwapchainImagesKHR device swapchain ids)) ≡ w → IsGiven c d ids (zeros_of w) →
    ArePlacesOf d w (executed (GetSwapchainImagesKHR device swapchain ids ∷ h))
unfolding ops_of
updated_images h device swapchain ids b c d run w is given =
    after_run h e w is d (λ at. size at) (holds_given c d (executed (e ∷ h)) ids (zeros_of w) given left (run_holds h e b c run))
  where
    e : Event
    e = GetSwapchainImagesKHR device swapchain ids

    fetched : Fetches (view h) (fold after (view h) (steps_of (view h) (GetSwapchainImagesKHR device swapchain ids))) swapchain ids
    fetched = images_fetched (view h) (lawful h run.valid) device swapchain ids run.passes

    -- an image that had no place has zeros for all its bytes
    same : (at : Place) → is_image_among ids at ≡ true → sizes_of c at ≡ None →
        option_map length (zeros_of w at) ≡ place_size (fold after (view h) (steps_of (view h) (GetSwapchainImagesKHR device swapchain ids))) at
    same (place.Memory m) among none = absurd (cc)
    same (place.Image x) among none =
        let some : place_size w (place.Image x) ≡ Some (picture_size (view h) swapchain) =
        ap (λ u. place_size u (place.Image x)) (sym is) ∙ fetched.given (place.Image x)
        ∙ ap (λ t. option_or (place_size (view h) (place.Image x)) (cond t (Some (picture_size (view h) swapchain)) None)) among
        ∙ ap (λ o. option_or o (Some (picture_size (view h) swapchain))) (sym (run_sizes h (GetSwapchainImagesKHR device swapchain ids) b c run (place.Image x)) ∙ none) in
        zeros_size w x (picture_size (view h) swapchain) some ∙ ap (λ u. place_size u (place.Image x)) (sym is)

    left : (at : Place) (bytes : List ℕ) → is_image_among ids at ≡ true → c at ≡ None → zeros_of w at ≡ Some bytes → AreLeft (executed (GetSwapchainImagesKHR device swapchain ids ∷ h)) at bytes
    left (place.Memory m) bytes among none zeros = absurd (cc)
    left (place.Image x) bytes among none zeros = by (window w x) zeros
      where
        vacant : place_size (view h) (place.Image x) ≡ None
        vacant = sym (run_sizes h (GetSwapchainImagesKHR device swapchain ids) b c run (place.Image x)) ∙ ap (option_map length) none

        by : (u : Option Window) → option_map zeros_in u ≡ Some bytes → AreLeft (executed (GetSwapchainImagesKHR device swapchain ids ∷ h)) (place.Image x) bytes
        by None e = absurd (cc)
        by (Some u) e =
            subst (AreLeft (executed (GetSwapchainImagesKHR device swapchain ids ∷ h)) (place.Image x)) (let one : zeros_in u ≡ bytes = cc in one)
            (zeros_left (executed (GetSwapchainImagesKHR device swapchain ids ∷ h)) (place.Image x) u.length
            (unused_zero h (GetSwapchainImagesKHR device swapchain ids) run.valid refl (place.Image x) (fetched.new x among vacant)))

    size : (at : Place) → sizes_of d at ≡ place_size (fold after (view h) (steps_of (view h) (GetSwapchainImagesKHR device swapchain ids))) at
    size at =
        given_same (sizes_of c at) (sizes_of d at) (place_size (fold after (view h) (steps_of (view h) (GetSwapchainImagesKHR device swapchain ids))) at) (option_map length (zeros_of w at)) (is_image_among ids at) (picture_size (view h) swapchain)
        (sizes_given c d ids (zeros_of w) given at)
        (fetched.given at ∙ ap (λ o. option_or o (cond (is_image_among ids at) (Some (picture_size (view h) swapchain)) None)) (sym (run_sizes h (GetSwapchainImagesKHR device swapchain ids) b c run at)))
        (same at)

-- the places after an event without a fault, its operations, and what is added or dropped after them
pub updated_stands : (h : List Event) (e : Event) (b c d : Bytes) → IsRun h e b c → AreUpdated (view (e ∷ h)) e c d → ArePlacesOf d (view (e ∷ h)) (executed (e ∷ h))
updated_stands h (AllocateMemory device memory size) b c d run updated = updated_memory h device memory size b c d run updated (view (AllocateMemory device memory size ∷ h)) (sym (view-event (AllocateMemory device memory size) h))
updated_stands h (FreeMemory device memory) b c d run updated = updated_free h device memory b c d run updated (view (FreeMemory device memory ∷ h)) (sym (view-event (FreeMemory device memory) h))
updated_stands h (DestroySwapchainKHR device swapchain) b c d run updated = updated_chain h device swapchain b c d run (view (DestroySwapchainKHR device swapchain ∷ h)) (sym (view-event (DestroySwapchainKHR device swapchain) h)) updated
updated_stands h (GetSwapchainImagesKHR device swapchain ids) b c d run updated = updated_images h device swapchain ids b c d run (view (GetSwapchainImagesKHR device swapchain ids ∷ h)) (sym (view-event (GetSwapchainImagesKHR device swapchain ids) h)) updated
updated_stands h e b c d run updated = updated_other h e b c d run refl updated (view (e ∷ h)) (sym (view-event e h))
