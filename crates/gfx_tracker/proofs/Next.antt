-- What is known of an effect that may be taken: what its steps need.
use Rattle.std.proofs.Common.{◌≡◌, if◌then◌else◌, ℕ, ◌==◌, ◌<◌, ◌≤◌, ◌+◌, Bool, true, false, ◌&&◌, List, [], ◌∷◌, ◌++◌, length, Option, Some, None, is_some, refl, ap, sym, subst, ◌∙◌, arith}
use Rattle.std.specs.Prelude.{fold, nat_le}
use Rattle.std.specs.List.{AllByRecursion}
use Rattle.std.specs.Option.{option_map_or}
use Rattle.gfx_types.specs.declared.op.Place.{Place}
use Rattle.gfx_types.specs.declared.op.Place.TheVariants as place
use Rattle.std.proofs.Math.Logic.{∥∥₁_elim}
use Rattle.std.proofs.Props.{props}
use Rattle.std.proofs.lemmas.Bool.{and_parts, ltb-true}
use Rattle.std.proofs.lemmas.Bool.Decides.{nat_tests}
use Rattle.gfx_types.specs.Names.{format_of}
use Rattle.gfx_types.specs.declared.names.Kind.{Kind}
use Rattle.gfx_types.specs.declared.names.Kind.TheVariants as kind
use Rattle.gfx_model.specs.Events.{Event}
use Rattle.gfx_model.specs.Steps.{Step, Object, Detail, kind_of, kind_number}
use Rattle.gfx_model.specs.Steps.Detail.{a_memory, an_image, a_swapchain, a_fence, a_semaphore}
use Rattle.gfx_model.specs.Steps.Change.{set_layout, put}
use Rattle.gfx_model.specs.Steps.Step.{taken, creates, changes, signals, acquires}
use Rattle.gfx_model.specs.Questions.{passes}
use Rattle.gfx_model.specs.Views.{View, is_live, images_in, live_bytes, detail_bytes}
use Rattle.gfx_model.specs.Checks.{broken, first_broken}
use Rattle.gfx_model.specs.Checks.Check.{live, of, unsignalled, index_in, not_acquired, all_acquired}
use Rattle.gfx_model.specs.Table.{checks_of, is_positive, to_signal, acquire_answer, value}
use Rattle.gfx_model.specs.Effects.{effect_of, signals_any, image_bytes_put}
use Rattle.gfx_model.specs.After.{after}
use Rattle.gfx_model.proofs.Covered.{unless_none}
use Rattle.gfx_model.specs.Limits.{max_swapchain_images, max_extent, max_live_bytes}
use Rattle.gfx_laws.specs.Lawful.{IsLawful, Passes, is_allowed, has_signal}
use Rattle.gfx_laws.proofs.Ready.{AllReady, AllRoom, HasBytes}
use Rattle.gfx_laws.proofs.EventReady.{event_ready}
use Rattle.gfx_laws.proofs.EventRoom.{event_room}
use Rattle.gfx_objects.specs.Object.{is_within}
use Rattle.gfx_tracker.specs.Taking.{after_event, IsNext, MayCreate}

-- ---- an event of one step

pub absorbed : (v : View) (s : Step) → after (after v taken) s ≡ after v s
unfolding after
absorbed v (changes (set_layout i l)) = refl
absorbed v (changes _) = refl
absorbed v _ = refl

-- the answers after an event of one step or more, from those after the first
pub after_steps : (v : View) (e : Event) (s : Step) (ss : List Step) → effect_of v e ≡ s ∷ ss → fold after (after v s) ss ≡ after_event v e
after_steps v e s ss is = ap (λ w. fold after w ss) (sym (absorbed v s)) ∙ ap (fold after (after v taken)) (sym is)

pub after_one : (v : View) (e : Event) (s : Step) → effect_of v e ≡ s ∷ [] → after v s ≡ after_event v e
after_one v e s is = after_steps v e s [] is

-- the answers after an event's steps, where there is one
pub after_some : (v : View) (e : Event) (ss : List Step) → effect_of v e ≡ ss → 1 ≤ length ss → fold after v ss ≡ after_event v e
after_some v e [] is some = absurd (omega arith)
after_some v e (s ∷ ss) is some = after_steps v e s ss is

pub after_none : (v : View) (e : Event) → effect_of v e ≡ [] → after v taken ≡ after_event v e
after_none v e is = ap (fold after (after v taken)) (sym is)

-- ---- a creation

pub allowed_within : (d : Detail) → is_allowed d ≡ true → is_within d ≡ true
allowed_within (an_image format width height usage index) e =
    (and_parts (is_some (format_of format) && is_positive width && is_positive height && is_positive usage) (nat_le width max_extent && nat_le height max_extent) e).1
allowed_within (a_swapchain surface images format width height usage) e =
    (and_parts (is_positive images && is_positive width && is_positive height && is_positive usage && is_some (format_of format)) (nat_le images max_swapchain_images && nat_le width max_extent && nat_le height max_extent) e).1
allowed_within _ e = refl

pub bytes_of_room : (v : View) (d : Detail) → live_bytes v ≤ max_live_bytes → HasBytes v d → live_bytes v + detail_bytes d ≤ max_live_bytes
bytes_of_room v (a_memory size) few room = room
bytes_of_room v (a_swapchain surface images format width height usage) few room = room
bytes_of_room v _ few room = omega arith

-- what is not used is not live
pub unused_dead : (v : View) → IsLawful v [] → (x : ℕ) → v.used x ≡ false → is_some (v.live x) ≡ false
unused_dead v h x unused = by (v.live x) refl
  where
    by : (o : Option Object) → v.live x ≡ o → is_some o ≡ false
    by None e = refl
    by (Some o) e = let used = (h.objects).used x o e in absurd (cc (used, unused))

created_by : (v : View) (e : Event) (id p : ℕ) (d : Detail) (ss : List Step) → first_broken v (checks_of e) ≡ None → effect_of v e ≡ creates id p d ∷ ss → IsLawful v [] → MayCreate v id d
unfolding after
created_by v e id p d ss pass is h =
    let ready : AllReady v (taken ∷ creates id p d ∷ ss) = subst (λ es. AllReady v (taken ∷ es)) is (event_ready v [] h e pass) in
    let room : AllRoom v (taken ∷ creates id p d ∷ ss) = subst (λ es. AllRoom v (taken ∷ es)) is (event_room v e pass) in
    let positive = ready.1.0.positive in
    record {
      not_zero = grind (arith, nat_tests, positive);
      unused = ready.1.0.unused;
      fresh = unused_dead v h id ready.1.0.unused;
      within = allowed_within d ready.1.0.allowed;
      room = room.1.0.0;
      bytes = bytes_of_room v d (h.limits).bytes room.1.0.1;
    }

pub may_create : (v : View) (e : Event) (id p : ℕ) (d : Detail) (ss : List Step) → IsNext v e → effect_of v e ≡ creates id p d ∷ ss → MayCreate v id d
may_create v e id p d ss next is = ∥∥₁_elim next.lawful (hlevel props) (created_by v e id p d ss next.passes is)

-- ---- checks that pass

pub live_some : (v : View) (k : Kind) (x : ℕ) → Passes v (live k x) → is_some (v.live x) ≡ true
unfolding broken
live_some v k x e = by (v.live x) (unless_none _ _ e)
  where
    by : (o : Option Object) → passes (λ o. kind_number (kind_of o.detail) == kind_number k) o ≡ true → is_some o ≡ true
    by None e = absurd cc
    by (Some o) e = refl

-- the object that was created is live
pub made_there : (v w : View) (id p : ℕ) (d : Detail) → w ≡ after v (creates id p d) → w.live id ≡ Some (record { parent = p; detail = d })
unfolding after
made_there v w id p d is = ap (λ (v : View). v.live id) is ∙ by (id == id) (let same : (id == id) ≡ true = grind (arith, nat_tests) in same)
  where
    by : (t : Bool) → t ≡ true → (if t then Some (record { parent = p; detail = d }) else v.live id) ≡ Some (record { parent = p; detail = d })
    by true e = refl
    by false e = absurd cc

pub is_live_by : (v : View) (k : Kind) (x : ℕ) → Passes v (live k x) → is_live v k x ≡ true
unfolding broken
is_live_by v k x e = unless_none _ _ e

-- ---- fences and semaphores

fence_has : (v : View) (x : ℕ) → is_live v kind.Fence x ≡ true → passes (λ o. has_signal o.detail) (v.live x) ≡ true
fence_has v x e = by (v.live x) e
  where
    at : (d : Detail) → (kind_number (kind_of d) == 10) ≡ true → has_signal d ≡ true
    at a_fence e = refl
    at _ e = absurd cc

    by : (o : Option Object) → passes (λ o. kind_number (kind_of o.detail) == 10) o ≡ true → passes (λ o. has_signal o.detail) o ≡ true
    by None e = absurd cc
    by (Some o) e = at o.detail e

semaphore_has : (v : View) (x : ℕ) → is_live v kind.Semaphore x ≡ true → passes (λ o. has_signal o.detail) (v.live x) ≡ true
semaphore_has v x e = by (v.live x) e
  where
    at : (d : Detail) → (kind_number (kind_of d) == 11) ≡ true → has_signal d ≡ true
    at a_semaphore e = refl
    at _ e = absurd cc

    by : (o : Option Object) → passes (λ o. kind_number (kind_of o.detail) == 11) o ≡ true → passes (λ o. has_signal o.detail) o ≡ true
    by None e = absurd cc
    by (Some o) e = at o.detail e

pub fence_signal : (v : View) (x : ℕ) → Passes v (live kind.Fence x) → passes (λ o. has_signal o.detail) (v.live x) ≡ true
fence_signal v x e = fence_has v x (is_live_by v kind.Fence x e)

pub semaphore_signal : (v : View) (x : ℕ) → Passes v (live kind.Semaphore x) → passes (λ o. has_signal o.detail) (v.live x) ≡ true
semaphore_signal v x e = semaphore_has v x (is_live_by v kind.Semaphore x e)

-- what an acquire signals is live, where it is not 0
pub to_signal_live : (v : View) (k : Kind) (device x : ℕ) → AllByRecursion (Passes v) (to_signal k device x) → (x == 0) ≡ false → Passes v (live k x)
to_signal_live v k device x all not_zero = by (x == 0) not_zero all
  where
    by : (t : Bool) → t ≡ false → AllByRecursion (Passes v) (if t then [] else live k x ∷ of x device ∷ unsignalled x ∷ []) → Passes v (live k x)
    by true e all = absurd cc
    by false e all = all.0

pub index_below : (v : View) (swapchain index : ℕ) → Passes v (index_in swapchain index) → index < images_in v swapchain
unfolding broken
index_below v swapchain index e = ltb-true index (images_in v swapchain) (unless_none _ _ e)

-- the first check of an answer that is not 1
pub answer_index : (v : View) (swapchain index answer : ℕ) → (answer == 1) ≡ false → AllByRecursion (Passes v) (acquire_answer swapchain index answer) → index < images_in v swapchain
answer_index v swapchain index answer other all = by (answer == 1) other all
  where
    by : (t : Bool) → t ≡ false → AllByRecursion (Passes v) (if t then value (index == 0) ∷ all_acquired swapchain ∷ [] else index_in swapchain index ∷ not_acquired swapchain index ∷ []) → index < images_in v swapchain
    by true e all = absurd cc
    by false e all = index_below v swapchain index all.0

pub fold-append : {X Y : Type 0} (f : X → Y → X) (x : X) (ys zs : List Y) → fold f x (ys ++ zs) ≡ fold f (fold f x ys) zs
fold-append f x [] zs = refl
fold-append f x (y ∷ ys) zs = fold-append f (f x y) ys zs

-- the answers after steps in two parts
pub after_parts : (v : View) (e : Event) (s : Step) (ss ts : List Step) → effect_of v e ≡ s ∷ ss ++ ts → fold after (fold after (after v s) ss) ts ≡ after_event v e
after_parts v e s ss ts is = sym (fold-append after (after v s) ss ts) ∙ after_steps v e s (ss ++ ts) is

-- signals leave what is live
pub signals_live : (w : View) (id x : ℕ) → (fold after w (signals_any id)).live x ≡ w.live x
unfolding after
signals_live w id x = by (id == 0)
  where
    by : (t : Bool) → (fold after w (if t then [] else signals id ∷ [])).live x ≡ w.live x
    by true = refl
    by false = refl

pub acquires_live : (v w : View) (swapchain index x : ℕ) → w ≡ after v (acquires swapchain index) → w.live x ≡ v.live x
unfolding after
acquires_live v w swapchain index x is = ap (λ (v : View). v.live x) is

-- ---- changes of bytes, which no answer tells

quiet_put : (v : View) (at : Place) (offset : ℕ) (bytes : List ℕ) → after v (changes (put at offset bytes)) ≡ after v taken
unfolding after
quiet_put v at offset bytes = refl

-- a put after a step tells nothing
put_after : (v : View) (s : Step) (at : Place) (offset : ℕ) (bytes : List ℕ) → after (after v s) (changes (put at offset bytes)) ≡ after v s
unfolding after
put_after v (changes (set_layout i l)) at offset bytes = refl
put_after v (changes _) at offset bytes = refl
put_after v _ at offset bytes = refl

pub after_put : (v : View) (e : Event) (at : Place) (offset : ℕ) (bytes : List ℕ) → effect_of v e ≡ changes (put at offset bytes) ∷ [] → after v taken ≡ after_event v e
after_put v e at offset bytes is = sym (quiet_put v at offset bytes) ∙ after_one v e (changes (put at offset bytes)) is

-- the bytes of an image tell nothing
image_put : (v : View) (s : Step) (d : Detail) (image : ℕ) (bytes : List ℕ) → fold after (after v s) (image_bytes_put d image bytes) ≡ after v s
image_put v s (an_image format width height usage (Some index)) image bytes = put_after v s (place.Image image) 0 bytes
image_put v s (an_image format width height usage None) image bytes = refl
image_put v s _ image bytes = refl

pub after_image : (v : View) (e : Event) (image layout : ℕ) (bytes : List ℕ) →
    effect_of v e ≡ changes (set_layout image layout) ∷ option_map_or (λ o. image_bytes_put o.detail image bytes) (v.live image) [] → after v (changes (set_layout image layout)) ≡ after_event v e
after_image v e image layout bytes is = sym (by (v.live image)) ∙ after_steps v e (changes (set_layout image layout)) _ is
  where
    by : (o : Option Object) → fold after (after v (changes (set_layout image layout))) (option_map_or (λ o. image_bytes_put o.detail image bytes) o []) ≡ after v (changes (set_layout image layout))
    by None = refl
    by (Some o) = image_put v (changes (set_layout image layout)) o.detail image bytes
