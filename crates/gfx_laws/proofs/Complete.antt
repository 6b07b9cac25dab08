-- Where one image of a swapchain is fetched, all are.
use Rattle.std.proofs.Common.{◌≡◌, ℕ, ◌+◌, ◌<◌, Bool, true, false, refl, sym, ◌∙◌, ap, subst, List, [], ◌∷◌, ◌++◌, map, fold, length, Option, Some, None, cond, is_some, is_none, ◌==◌, ◌&&◌, arith, rules}
use Rattle.std.specs.List.{AllByRecursion}
use Rattle.std.specs.Option.{option_map_or}
use Rattle.std.proofs.lemmas.Bool.{eqb-true, eq-eqb, eqb-false, and_parts, and_from, both_ways, or_parts, or_from, false_from_ne_true}
use Rattle.gfx_types.specs.declared.names.Kind.TheVariants as kind
use Rattle.gfx_model.specs.Events.{Event}
use Rattle.gfx_model.specs.Events.Event.{CreateInstance, GetDeviceQueue, AllocateCommandBuffers, FreeCommandBuffers, CreateFence, ResetFences, QueueSubmit, GetSwapchainImagesKHR, AcquireNextImageKHR, QueuePresentKHR, InitImage, SetSwapchainState, SetSemaphoreState}
use Rattle.gfx_model.specs.Steps.{Step, Object, Detail, kind_of, kind_number}
use Rattle.gfx_model.specs.Steps.Detail.{a_queue, a_command_buffer, an_image, a_swapchain}
use Rattle.gfx_model.specs.Steps.Step.{taken, creates, ends, signals, unsignals, acquires, gives_back, changes, executed, presents}
use Rattle.gfx_model.specs.Questions.{passes, goes_with, after_end, is_owned}
use Rattle.gfx_model.specs.Views.{View, is_live, has_index, images_in, detail_images, queue_of, fetched, format_at, width_of, height_of, usage_in}
use Rattle.gfx_model.specs.Checks.{Turn, turns_of, images_fault, broken}
use Rattle.gfx_model.specs.Checks.Turn.{wait, execute, signal}
use Rattle.gfx_model.specs.Table.{checks_of, place_of, row_of}
use Rattle.gfx_model.specs.Effects.{steps_of, effect_of, fetches, first_fetch, steps_of_turn, changes_of_buffer, marks, signals_any, image_bytes_put}
use Rattle.gfx_model.specs.After.{after}
use Rattle.gfx_model.specs.Covers.{is_fetched}
use Rattle.gfx_model.specs.History.{view, fault, is_valid, steps}
use Rattle.gfx_model.specs.History as history
use Rattle.gfx_model.specs.Questions.{live}
use Rattle.gfx_model.proofs.Covered.{first_none, unless_none}
use Rattle.gfx_model.proofs.Steps.{view-event}
use Rattle.gfx_laws.specs.Lawful.{base, LawfulObjects, Passes}
use Rattle.gfx_laws.specs.Laws.{IsComplete, is_image_at}
use Rattle.gfx_laws.proofs.Ready.{Ready, AllReady, ReadyToEnd}
use Rattle.gfx_model.proofs.Lists.{all_append, all_map, all_flat_map}
use Rattle.gfx_laws.proofs.Lists.{all_behind}
use Rattle.gfx_laws.proofs.Cases.{by_test}
use Rattle.gfx_laws.proofs.MoreObjects.{live_of_kind, live_create, with_object, split_create}
use Rattle.gfx_laws.proofs.FewerObjects.{without, ended_some, parent_stays}
use Rattle.gfx_laws.proofs.LawfulObjects.{objects_after}
use Rattle.gfx_laws.proofs.NewObjects.{all_pass}
use Rattle.gfx_laws.proofs.EventReady.{event_ready}
use Rattle.gfx_laws.proofs.ValidHistories.{lawful_history, no_fault}

-- a step that fetches no image
abbrev pub FetchesNothing : Step → Type 0
FetchesNothing (creates i parent detail) = is_fetched detail ≡ false
FetchesNothing _ = Unit {0}

-- an image of a swapchain
abbrev pub is_image_of : ℕ → Object → Bool
is_image_of swapchain o = o.parent == swapchain && is_fetched o.detail

pub indexed_fetched : (k : ℕ) (d : Detail) → has_index k d ≡ true → is_fetched d ≡ true
indexed_fetched k (an_image format width height usage (Some index)) e = refl
indexed_fetched k (an_image format width height usage None) e = absurd (cc)
indexed_fetched k _ e = absurd (cc)

fetched_owned : (d : Detail) → is_fetched d ≡ true → is_owned d ≡ true
fetched_owned (an_image format width height usage index) e = e
fetched_owned _ e = absurd (cc)

-- the swapchain of an image is live
swapchain_live : (v : View) → LawfulObjects v → (x swapchain : ℕ) (o : Object) → v.live x ≡ Some o → is_image_of swapchain o ≡ true → (q : Object) × (v.live swapchain ≡ Some q)
swapchain_live v h x swapchain o there e =
    let parts = and_parts (o.parent == swapchain) (is_fetched o.detail) e in
    by o.parent o.detail there (eqb-true o.parent swapchain parts.0) parts.1
  where
    by : (p : ℕ) (d : Detail) → v.live x ≡ Some (record { parent = p; detail = d }) → p ≡ swapchain → is_fetched d ≡ true → (q : Object) × (v.live swapchain ≡ Some q)
    by p (an_image format width height usage (Some index)) there same f =
        let image = h.fetched x (record { parent = p; detail = an_image format width height usage (Some index) }) there in
        (record { parent = image.parent; detail = a_swapchain image.surface image.images format width height usage }, ap v.live (sym same) ∙ image.is_live)
    by p (an_image format width height usage None) there same f = absurd (cc)
    by p _ there same f = absurd (cc)

-- a test passes where the object is the same
passes_along : (v w : View) (test : Object → Bool) (y : ℕ) → w.live y ≡ v.live y → passes test (v.live y) ≡ true → passes test (w.live y) ≡ true
passes_along v w test y e f = ap (passes test) e ∙ f

complete_create : (v : View) → LawfulObjects v → (i : ℕ) (r : Object) → v.used i ≡ false → is_fetched r.detail ≡ false → IsComplete v → IsComplete (with_object v i r)
complete_create v h i r fresh own c swapchain x k e below =
    let there = live_of_kind (with_object v i r) (is_image_of swapchain) x e in
    let image : is_image_of swapchain there.0 ≡ true = ap (passes (is_image_of swapchain)) (sym there.1) ∙ e in
    let was : v.live x ≡ Some there.0 = split_create (λ o. is_image_of swapchain o ≡ true → v.live x ≡ Some o) (i == x) (v.live x) r there.0
    (λ same f. absurd (both_ways (is_fetched r.detail) own (and_parts (r.parent == swapchain) (is_fetched r.detail) f).1)) (λ other was f. was) there.1 image in
    let of = swapchain_live v h x swapchain there.0 was image in
    let kept = live_create v h i r fresh swapchain of.0 of.1 in
    let found = c swapchain x k (ap (passes (is_image_of swapchain)) was ∙ image) (subst (λ l. k < option_map_or (λ o. detail_images o.detail) l 0) kept below) in
    let at = live_of_kind v (is_image_at swapchain k) found.0 found.1 in
    (found.0, passes_along v (with_object v i r) (is_image_at swapchain k) found.0 (live_create v h i r fresh found.0 at.0 at.1) found.1)

complete_end : (v : View) → LawfulObjects v → (gone : ℕ) → ReadyToEnd v gone → IsComplete v → IsComplete (without v gone)
complete_end v h gone ready c swapchain x k e below =
    let there = live_of_kind (without v gone) (is_image_of swapchain) x e in
    let image : is_image_of swapchain there.0 ≡ true = ap (passes (is_image_of swapchain)) (sym there.1) ∙ e in
    let parts = and_parts ((there.0).parent == swapchain) (is_fetched (there.0).detail) image in
    let was = ended_some gone x (v.live x) there.0 there.1 in
    let parent = eqb-true (there.0).parent swapchain parts.0 in
    let kept : (without v gone).live swapchain ≡ v.live swapchain = subst (λ y. (without v gone).live y ≡ v.live y) parent (parent_stays v h gone ready x there.0 was.0 was.1) in
    let other : (gone == swapchain) ≡ false = false_from_ne_true _ (λ t.
    both_ways (is_owned (there.0).detail && (gone == (there.0).parent)) (or_parts (gone == x) _ was.1).1
    (and_from _ _ (fetched_owned (there.0).detail parts.1) (eq-eqb gone (there.0).parent (eqb-true gone swapchain t ∙ sym parent)))) in
    let found = c swapchain x k (ap (passes (is_image_of swapchain)) was.0 ∙ image) (subst (λ l. k < option_map_or (λ o. detail_images o.detail) l 0) kept below) in
    let at = live_of_kind v (is_image_at swapchain k) found.0 found.1 in
    let own : is_image_at swapchain k at.0 ≡ true = ap (passes (is_image_at swapchain k)) (sym at.1) ∙ found.1 in
    let both = and_parts ((at.0).parent == swapchain) (has_index k (at.0).detail) own in
    let itself : (gone == found.0) ≡ false = false_from_ne_true _ (λ t.
    both_ways (is_fetched (at.0).detail) (ap (passes (λ o. is_fetched o.detail)) (sym (ap v.live (eqb-true gone found.0 t) ∙ at.1)) ∙ ready.is_own) (indexed_fetched k (at.0).detail both.1)) in
    let goes : goes_with gone found.0 at.0 ≡ false =
    or_from (gone == found.0) _ itself (by_owner (is_owned (at.0).detail) (ap (λ p. gone == p) (eqb-true (at.0).parent swapchain both.0) ∙ other)) in
    (found.0, ap (λ l. passes (is_image_at swapchain k) (after_end gone found.0 l)) at.1 ∙ ap (λ t. passes (is_image_at swapchain k) (cond {A = Option Object} t None (Some at.0))) goes ∙ own)
  where
    by_owner : (t : Bool) {b : Bool} → b ≡ false → t && b ≡ false
    by_owner true e = e
    by_owner false e = refl

complete_after : (v : View) (s : Step) → LawfulObjects (base v) → Ready v s → FetchesNothing s → IsComplete (base v) → IsComplete (base (after v s))
unfolding after
complete_after v (creates i parent detail) h ready f c = complete_create (base v) h i (record { parent = parent; detail = detail }) ready.unused f c
complete_after v (ends gone) h ready f c = complete_end (base v) h gone ready c
complete_after v _ h ready f c = c

complete_fold : (v : View) (ss : List Step) → LawfulObjects (base v) → AllReady v ss → AllByRecursion FetchesNothing ss → IsComplete (base v) → IsComplete (base (fold after v ss))
complete_fold v [] h a f c = c
complete_fold v (s ∷ ss) h a f c = complete_fold (after v s) ss (objects_after v s h a.0) a.1 f.1 (complete_after v s h a.0 f.0 c)

-- ---- a fetch

-- the images below an index are there, and all of other swapchains
pub record IsPart (v : View) (swapchain k : ℕ) : Type 0 where
  pub lower : (j : ℕ) → j < k → (y : ℕ) × (passes (is_image_at swapchain j) (v.live y) ≡ true)
  pub others : (other x j : ℕ) → (swapchain == other) ≡ false → passes (is_image_of other) (v.live x) ≡ true → j < images_in v other → (y : ℕ) × (passes (is_image_at other j) (v.live y) ≡ true)

part_create : (v : View) → LawfulObjects v → (swapchain k i format width height usage : ℕ) → v.used i ≡ false → IsPart v swapchain k →
    IsPart (with_object v i (record { parent = swapchain; detail = an_image format width height usage (Some k) })) swapchain (k + 1)
part_create v h swapchain k i format width height usage fresh part =
    let r : Object = record { parent = swapchain; detail = an_image format width height usage (Some k) } in
    let w = with_object v i r in
    record {
      lower = λ j below. by_test _ (k == j)
          (λ same. (i, ap (λ t. passes (is_image_at swapchain j) (cond t (Some r) (v.live i))) (eq-eqb i i refl) ∙ and_from _ _ (eq-eqb swapchain swapchain refl) same))
          (λ other. let apart = eqb-false k j other in
          let found = part.lower j (omega arith) in let at = live_of_kind v (is_image_at swapchain j) found.0 found.1 in
          (found.0, passes_along v w (is_image_at swapchain j) found.0 (live_create v h i r fresh found.0 at.0 at.1) found.1));
      others = λ other x j apart e below.
          let there = live_of_kind w (is_image_of other) x e in
          let image : is_image_of other there.0 ≡ true = ap (passes (is_image_of other)) (sym there.1) ∙ e in
          let was : v.live x ≡ Some there.0 = split_create (λ o. is_image_of other o ≡ true → v.live x ≡ Some o) (i == x) (v.live x) r there.0
          (λ same f. absurd (both_ways (swapchain == other) apart (and_parts (swapchain == other) (is_fetched r.detail) f).0)) (λ old was f. was) there.1 image in
          let of = swapchain_live v h x other there.0 was image in
          let kept = live_create v h i r fresh other of.0 of.1 in
          let found = part.others other x j apart (ap (passes (is_image_of other)) was ∙ image) (subst (λ l. j < option_map_or (λ o. detail_images o.detail) l 0) kept below) in
          let at = live_of_kind v (is_image_at other j) found.0 found.1 in
          (found.0, passes_along v w (is_image_at other j) found.0 (live_create v h i r fresh found.0 at.0 at.1) found.1);
    }

part_fetches : (v u : View) (swapchain k : ℕ) (xs : List ℕ) → LawfulObjects (base u) → AllReady u (fetches v swapchain k xs) → IsPart (base u) swapchain k → IsPart (base (fold after u (fetches v swapchain k xs))) swapchain (k + length xs)
unfolding after
part_fetches v u swapchain k [] h a part = subst (IsPart (base u) swapchain) (let e : k ≡ k + 0 = omega arith in e) part
part_fetches v u swapchain k (x ∷ xs) h a part =
    let s : Step = creates x swapchain (an_image (format_at v swapchain) (width_of v swapchain) (height_of v swapchain) (usage_in v swapchain) (Some k)) in
    let next : IsPart (base (after u s)) swapchain (k + 1) = part_create (base u) h swapchain k x (format_at v swapchain) (width_of v swapchain) (height_of v swapchain) (usage_in v swapchain) (a.0).unused part in
    let rest = part_fetches v (after u s) swapchain (k + 1) xs (objects_after u s h a.0) a.1 next in
    subst (IsPart (base (fold after u (fetches v swapchain k (x ∷ xs)))) swapchain) (let e : k + 1 + length xs ≡ k + length (x ∷ xs) = omega arith in e) rest

-- the swapchain keeps its number of images
images_same : (v u : View) (swapchain k : ℕ) (xs : List ℕ) → LawfulObjects (base u) → is_live u kind.Swapchain swapchain ≡ true → AllReady u (fetches v swapchain k xs) →
    images_in (fold after u (fetches v swapchain k xs)) swapchain ≡ images_in u swapchain
unfolding after
images_same v u swapchain k [] h there a = refl
images_same v u swapchain k (x ∷ xs) h there a =
    let image : Detail = an_image (format_at v swapchain) (width_of v swapchain) (height_of v swapchain) (usage_in v swapchain) (Some k) in
    let s : Step = creates x swapchain image in
    let o = live_of_kind u _ swapchain there in
    let kept : (after u s).live swapchain ≡ u.live swapchain = live_create (base u) h x (record { parent = swapchain; detail = image }) (a.0).unused swapchain o.0 o.1 in
    images_same v (after u s) swapchain (k + 1) xs (objects_after u s h a.0) (ap (passes (λ o. kind_number (kind_of o.detail) == 12)) kept ∙ there) a.1
    ∙ ap (λ l. option_map_or (λ o. detail_images o.detail) l 0) kept

complete_fetch : (v u : View) (swapchain : ℕ) (xs : List ℕ) → LawfulObjects (base u) → is_live u kind.Swapchain swapchain ≡ true → length xs ≡ images_in u swapchain → AllReady u (fetches v swapchain 0 xs) →
    IsComplete (base u) → IsComplete (base (fold after u (fetches v swapchain 0 xs)))
complete_fetch v u swapchain xs h there count a c other x j e below =
    let start : IsPart (base u) swapchain 0 = record { lower = λ j low. absurd (omega arith); others = λ other x j apart e below. c other x j e below } in
    let part = part_fetches v u swapchain 0 xs h a start in
    let same = images_same v u swapchain 0 xs h there a in
    let w = fold after u (fetches v swapchain 0 xs) in
    by_test _ (swapchain == other)
    (λ is. let low : j < images_in w swapchain = subst (λ y. j < images_in w y) (sym (eqb-true swapchain other is)) below in
    subst (λ y. (z : ℕ) × (passes (is_image_at y j) (w.live z) ≡ true)) (eqb-true swapchain other is) (part.lower j (omega (arith, low, same, count))))
    (λ apart. part.others other x j apart e below)

complete_first : (v : View) (swapchain : ℕ) (before xs : List ℕ) → LawfulObjects (base v) → is_live v kind.Swapchain swapchain ≡ true → images_fault v (images_in v swapchain) before xs ≡ None →
    AllReady (after v taken) (first_fetch before (fetches v swapchain 0 xs)) → IsComplete (base v) → IsComplete (base (fold after (after v taken) (first_fetch before (fetches v swapchain 0 xs))))
unfolding after
complete_first v swapchain (i ∷ before) xs h there e a c = c
complete_first v swapchain [] xs h there e a c =
    complete_fetch v (after v taken) swapchain xs h there (eqb-true (length xs) (images_in v swapchain) (unless_none _ _ (first_none _ _ e).0)) a c

-- ---- other events

abbrev Idle : List Step → Type 0
Idle ss = AllByRecursion FetchesNothing ss

queue_idle : (t : Bool) (device queue : ℕ) → Idle (cond t [] (creates queue device a_queue ∷ []))
queue_idle true device queue = tt
queue_idle false device queue = (refl, tt)

fence_idle : (t : Bool) (x : ℕ) → Idle (cond t (signals x ∷ []) [])
fence_idle true x = (tt, tt)
fence_idle false x = tt

turn_idle : (v : View) (t : Turn) → Idle (steps_of_turn v t)
turn_idle v (wait s) = (tt, tt)
turn_idle v (signal s) = (tt, tt)
turn_idle v (execute cb) = all_append FetchesNothing (map changes (changes_of_buffer v cb)) (executed cb ∷ []) (all_map FetchesNothing changes (λ c. tt) (changes_of_buffer v cb)) (tt, tt)

signal_idle : (x : ℕ) → Idle (signals_any x)
signal_idle x = by (x == 0)
  where
    by : (t : Bool) → Idle (cond t [] (signals x ∷ []))
    by true = tt
    by false = (tt, tt)

acquire_idle : (t : Bool) (swapchain index semaphore fence : ℕ) → Idle (cond t [] (acquires swapchain index ∷ signals_any semaphore ++ signals_any fence))
acquire_idle true swapchain index semaphore fence = tt
acquire_idle false swapchain index semaphore fence = (tt, all_append FetchesNothing (signals_any semaphore) (signals_any fence) (signal_idle semaphore) (signal_idle fence))

set_idle : (t : Bool) (x : ℕ) → Idle (cond t (signals x) (unsignals x) ∷ [])
set_idle true x = (tt, tt)
set_idle false x = (tt, tt)

marks_idle : (swapchain k : ℕ) (xs : List ℕ) → Idle (marks swapchain k xs)
marks_idle swapchain k [] = tt
marks_idle swapchain k (x ∷ xs) = (mark (x == 1), marks_idle swapchain (k + 1) xs)
  where
    mark : (t : Bool) → FetchesNothing (cond t (acquires swapchain k) (gives_back swapchain k))
    mark true = tt
    mark false = tt

put_idle : (image : ℕ) (bytes : List ℕ) (d : Detail) → Idle (image_bytes_put d image bytes)
put_idle image bytes (an_image format width height usage (Some index)) = (tt, tt)
put_idle image bytes (an_image format width height usage None) = tt
put_idle image bytes _ = tt

image_idle : (image : ℕ) (bytes : List ℕ) (l : Option Object) → Idle (option_map_or (λ o. image_bytes_put o.detail image bytes) l [])
image_idle image bytes None = tt
image_idle image bytes (Some o) = put_idle image bytes o.detail

abbrev pub IsNoFetch : Event → Type 0
IsNoFetch (GetSwapchainImagesKHR device swapchain images) = ⊥
IsNoFetch _ = Unit {0}

idle : (v : View) (e : Event) → IsNoFetch e → Idle (effect_of v e)
unfolding effect_of
idle v (GetSwapchainImagesKHR device swapchain images) p = absurd p
idle v (GetDeviceQueue device queue) p = queue_idle (is_some (queue_of v device)) device queue
idle v (AllocateCommandBuffers device pool buffers) p = all_map FetchesNothing (λ cb. creates cb pool a_command_buffer) (λ x. refl) buffers
idle v (FreeCommandBuffers device pool buffers) p = all_map FetchesNothing ends (λ x. tt) buffers
idle v (CreateFence device fence flags) p = (refl, fence_idle (flags == 1) fence)
idle v (ResetFences device fences) p = all_map FetchesNothing unsignals (λ x. tt) fences
idle v (QueueSubmit queue submits fence) p = all_flat_map FetchesNothing (steps_of_turn v) (turn_idle v) (turns_of submits fence)
idle v (AcquireNextImageKHR device swapchain semaphore fence index answer) p = acquire_idle (answer == 1) swapchain index semaphore fence
idle v (QueuePresentKHR queue waits images) p =
    all_append FetchesNothing _ (presents ∷ []) (all_append FetchesNothing _ _ (all_flat_map FetchesNothing (steps_of_turn v) (turn_idle v) (map wait waits)) (all_map FetchesNothing (λ p. gives_back p.swapchain p.index) (λ p. tt) images)) (tt, tt)
idle v (InitImage image layout bytes) p = (tt, image_idle image bytes (v.live image))
idle v (SetSwapchainState swapchain acquired) p = marks_idle swapchain 0 acquired
idle v (SetSemaphoreState semaphore signalled) p = set_idle (signalled == 1) semaphore
idle v _ p = search rules

complete_row : (v : View) (e : Event) → LawfulObjects (base v) → AllByRecursion (Passes v) (row_of e) → AllReady (after v taken) (effect_of v e) → IsComplete (base v) → IsComplete (base (fold after (after v taken) (effect_of v e)))
unfolding after effect_of row_of broken
complete_row v (GetSwapchainImagesKHR device swapchain images) h a ready c = complete_first v swapchain (fetched v swapchain) images h (unless_none _ _ a.1.0) a.1.1.1.0 ready c
complete_row v (CreateInstance instance api) h a ready c = complete_fold (after v taken) (effect_of v (CreateInstance instance api)) h ready (idle v (CreateInstance instance api) tt) c
complete_row v e h a ready c = complete_fold (after v taken) (effect_of v e) h ready (idle v e tt) c

-- where one image of a swapchain is fetched, all are
pub complete_history : (h : List Event) → is_valid h ≡ true → IsComplete (view h)
unfolding steps live
complete_history [] valid = λ swapchain x k e below. absurd (cc)
complete_history (e ∷ h) valid =
    let parts = and_parts (is_valid h) (is_none (fault h e)) valid in
    let l = lawful_history h parts.0 in
    let none : fault h e ≡ None = no_fault _ parts.1 in
    let ready = event_ready (view h) (history.executed h) l e none in
    let next : IsComplete (base (fold after (view h) (steps_of (view h) e))) =
    complete_row (view h) e l.objects (all_behind (Passes (view h)) (place_of e) (row_of e) (all_pass (view h) (checks_of e) none)) ready.1 (complete_history h parts.0) in
    subst (λ v. IsComplete (base v)) (sym (view-event e h)) next
