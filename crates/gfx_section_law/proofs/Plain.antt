-- The blocks of objects without parts: instances, surfaces, devices, queues, fences, semaphores, buffers and images.
use Rattle.std.proofs.Common.{◌≡◌, ℕ, Bool, true, false, ◌&&◌, ◌==◌, nat_le, fold, List, [], ◌∷◌, filter, Option, Some, None, if◌then◌else◌, refl, ap, ◌∙◌, arith, is_some, find}
use Rattle.std.proofs.lemmas.Bool.{eqb-true, eq-eqb, both_ways, false_from_ne_true, and_parts}
use Rattle.gfx_types.specs.declared.names.Kind.TheVariants as kind
use Rattle.gfx_model.specs.Events.{Event}
use Rattle.gfx_model.specs.Events.Event.{CreateInstance, CreateHeadlessSurfaceEXT, CreateDevice, GetDeviceQueue, CreateFence, CreateSemaphore, SetSemaphoreState}
use Rattle.gfx_model.specs.Spelling.{id_of}
use Rattle.gfx_model.specs.Steps.{Object, Detail, kind_of, kind_number}
use Rattle.gfx_model.specs.Steps.Step.{taken, creates, signals}
use Rattle.gfx_model.specs.Steps.Detail.{an_instance, a_surface, a_device, a_queue, a_fence, a_semaphore}
use Rattle.gfx_model.specs.Questions.{new_buffer, passes}
use Rattle.gfx_model.specs.Views.{View, queue_of, is_queue, is_one, detail_window}
use Rattle.gfx_model.specs.Checks.{broken, queue_fault, new_fault, room_fault, first}
use Rattle.gfx_model.specs.Checks.Check.{the_queue}
use Rattle.gfx_model.specs.Table.{place_of, row_of}
use Rattle.gfx_model.specs.Effects.{effect_of, steps_of}
use Rattle.gfx_model.specs.After.{after}
use Rattle.gfx_model.specs.Covers.{is_fetched}
use Rattle.gfx_laws.specs.Lawful.{has_signal}
use Rattle.gfx_model.specs.Section.{Known, object_events, mark, when}
use Rattle.gfx_section_law.specs.Orderly.{IsOrderly}
use Rattle.gfx_section_law.proofs.Picks.{pick, also, also-in, pick-in, skip_one}
use Rattle.gfx_section_law.proofs.Builds.{Seen, Builds, next, bytes_step, ok, builds_none, builds_call, builds_one}
use Rattle.gfx_section_law.proofs.Shown.{Cuts, all, shown, shown_answers, bytes_shown, bound_of, buffer_of, layout_of, made_shown, signal_shown, Settles, settled, IsBare, bare_settles, skip_bytes}
use Rattle.gfx_section_law.proofs.Ranks.{rank, is_part, has_parts, before, goes, goes_by, joined, joined_alone, instance_before, device_before}
use Rattle.gfx_section_law.proofs.Objects.{live_ok, there, no_bound, no_layout, no_mapped, no_buffer, no_signal, no_acquired, no_bytes, new_ok, room_ok, next_made}

-- where the blocks of an object start: all that is before them is made, and nothing of the object
pub record Starts (v : View) (x : ℕ) (r : ℕ) (done : ℕ → Bool) : Type 0 where
  pub low : (y : ℕ) → before v r y ≡ true → done y ≡ true
  pub new : (y : ℕ) → goes v x y ≡ true → done y ≡ false

-- the blocks of an object make it anew
abbrev pub Block : Known → ℕ → ℕ → ℕ → Detail → (ℕ → Bool) → Type 0
Block k n x parent detail done =
    Builds (shown k n (all done)) (object_events k x parent detail) (shown k n (all (joined k.answers x done)))

-- no item passes
pub find-none : (test : ℕ → Bool) (xs : List ℕ) → ((y : ℕ) → test y ≡ false) → find test xs ≡ None
find-none test [] each = refl
find-none test (x ∷ xs) each = ap (λ t. if t then Some x else find test xs) (each x) ∙ find-none test xs each

pub goes_self : (v : View) (x : ℕ) (o : Object) → v.live x ≡ Some o → is_part o.detail ≡ false → goes v x x ≡ true
goes_self v x o is own = ap (passes (goes_by x x)) is ∙ ap (λ b. if b then x == o.parent else x == x) own ∙ eq-eqb x x refl

module _ (k : Known) (n : ℕ) (orderly : IsOrderly k.answers) (done : ℕ → Bool) (x parent : ℕ) where
  abbrev pub only_made : Cuts
  only_made = record (all done) { made = also x done }

  module _ (detail : Detail) (is : k.answers.live x ≡ Some (record { parent = parent; detail = detail })) (starts : Starts k.answers x (rank detail) done) (own : is_part detail ≡ false) where
    pub new_here : done x ≡ false
    new_here = starts.new x (goes_self k.answers x (record { parent = parent; detail = detail }) is own)

    pub whole : has_parts detail ≡ false → (c : Cuts) → Settles k x done c → shown k n c ≡ shown k n (all (joined k.answers x done))
    whole alone c s = settled k n x done c s
        ∙ ap (λ (d : ℕ → Bool). shown k n (all d)) (joined_alone k.answers orderly x (record { parent = parent; detail = detail }) is alone own done)

    pub made_first : (e : Event) → steps_of (shown_answers k n (all done)) e ≡ taken ∷ creates x parent detail ∷ [] →
        next (shown k n (all done)) e ≡ shown k n only_made
    made_first e steps = next_made k n orderly x parent detail is (all done) new_here e new_here new_here new_here new_here new_here steps

    -- an object with nothing but its parameters
    pub bare : is_some (detail_window k.answers x detail) ≡ false → (kind_number (kind_of detail) == 5) ≡ false → (kind_number (kind_of detail) == 9) ≡ false →
        has_signal detail ≡ false → (kind_number (kind_of detail) == 12) ≡ false → is_fetched detail ≡ false → IsBare k x
    bare w m b s a f = record {
      bound = no_bound k n orderly x parent detail is w;
      mapped = no_mapped k n orderly x parent detail is m;
      buffer = no_buffer k n orderly x parent detail is b;
      signalled = no_signal k n orderly x parent detail is s;
      acquired = no_acquired k n orderly x parent detail is a;
      layout = no_layout k n orderly x parent detail is w;
      bytes = no_bytes k n orderly x parent detail is m f;
    }

  -- ---- kinds with nothing but parameters

  module _ (api : ℕ) (is : k.answers.live x ≡ Some (record { parent = parent; detail = an_instance api })) (starts : Starts k.answers x 0 done) where
    pub instance_block : Block k n x parent (an_instance api) done
    unfolding id_of place_of row_of effect_of
    instance_block =
        let d : Detail = an_instance api in
        let root : parent ≡ 0 = orderly.made x (record { parent = parent; detail = d }) is in
        let same : k.answers.live x ≡ Some (record { parent = 0; detail = d }) = is ∙ ap (λ p. Some (record { parent = p; detail = d })) root in
        let off = new_here d is starts refl in
        builds_one _ _ (CreateInstance x api)
        (new_ok k n orderly x parent d is (all done) off, (room_ok k n orderly x parent d is (all done) off, tt))
        (next_made k n orderly x 0 d same (all done) off (CreateInstance x api) off off off off off refl
        ∙ whole d is starts refl refl only_made (bare_settles k x done (bare d is starts refl refl refl refl refl refl refl)))

  module _ (is : k.answers.live x ≡ Some (record { parent = parent; detail = a_surface })) (starts : Starts k.answers x 1 done) where
    pub surface_block : Block k n x parent a_surface done
    unfolding id_of place_of row_of effect_of
    surface_block =
        let d : Detail = a_surface in
        let up = orderly.made x (record { parent = parent; detail = d }) is in
        let on = starts.low parent (instance_before k.answers 1 parent up (omega arith)) in
        let off = new_here d is starts refl in
        builds_one _ _ (CreateHeadlessSurfaceEXT parent x)
        (live_ok k n (all done) kind.Instance parent on up, (new_ok k n orderly x parent d is (all done) off, (room_ok k n orderly x parent d is (all done) off, tt)))
        (made_first d is starts refl (CreateHeadlessSurfaceEXT parent x) refl
        ∙ whole d is starts refl refl only_made (bare_settles k x done (bare d is starts refl refl refl refl refl refl refl)))

  module _ (is : k.answers.live x ≡ Some (record { parent = parent; detail = a_device })) (starts : Starts k.answers x 2 done) where
    pub device_block : Block k n x parent a_device done
    unfolding id_of place_of row_of effect_of
    device_block =
        let d : Detail = a_device in
        let up = orderly.made x (record { parent = parent; detail = d }) is in
        let on = starts.low parent (instance_before k.answers 2 parent up (omega arith)) in
        let off = new_here d is starts refl in
        builds_one _ _ (CreateDevice parent x)
        (live_ok k n (all done) kind.Instance parent on up, (new_ok k n orderly x parent d is (all done) off, (room_ok k n orderly x parent d is (all done) off, tt)))
        (made_first d is starts refl (CreateDevice parent x) refl
        ∙ whole d is starts refl refl only_made (bare_settles k x done (bare d is starts refl refl refl refl refl refl refl)))

  module _ (is : k.answers.live x ≡ Some (record { parent = parent; detail = a_queue })) (starts : Starts k.answers x 3 done) where
    -- no queue of the device stands yet
    no_queue : queue_of (shown_answers k n (all done)) parent ≡ None
    no_queue = find-none (is_one (shown_answers k n (all done)) (λ o. o.parent == parent && is_queue o.detail)) (filter done k.answers.ids) each
      where
        queue_detail : (d : Detail) → is_queue d ≡ true → d ≡ a_queue
        queue_detail a_queue e = refl
        queue_detail _ e = absurd (cc)

        at : (y : ℕ) (l : Option Object) → k.answers.live y ≡ l → done y ≡ true → passes (λ o. o.parent == parent && is_queue o.detail) l ≡ false
        at y None e on = refl
        at y (Some o) e on = false_from_ne_true _ (λ t.
            let both = and_parts (o.parent == parent) (is_queue o.detail) t in
            let up : o.parent ≡ parent = eqb-true o.parent parent both.0 in
            let own = queue_detail o.detail both.1 in
            let same : k.answers.live y ≡ Some (record { parent = parent; detail = a_queue }) = e ∙ (λ i. Some (record { parent = up i; detail = own i })) in
            both_ways (done y) (ap done (orderly.one_queue y x parent same is) ∙ new_here a_queue is starts refl) on)

        cases : (y : ℕ) (t : Bool) → done y ≡ t → passes (λ o. o.parent == parent && is_queue o.detail) (if t then k.answers.live y else None) ≡ false
        cases y true on = at y (k.answers.live y) refl on
        cases y false on = refl

        each : (y : ℕ) → is_one (shown_answers k n (all done)) (λ o. o.parent == parent && is_queue o.detail) y ≡ false
        each y = cases y (done y) refl

    queue_ok : broken (shown_answers k n (all done)) (the_queue parent x) ≡ None
    unfolding broken
    queue_ok =
        let off = new_here a_queue is starts refl in
        let f : first (new_fault (shown_answers k n (all done)) [] x) (room_fault (shown_answers k n (all done)) 1) ≡ None =
        ap (λ t. first t (room_fault (shown_answers k n (all done)) 1)) (new_ok k n orderly x parent a_queue is (all done) off)
        ∙ room_ok k n orderly x parent a_queue is (all done) off in
        ap (queue_fault (shown_answers k n (all done)) x) no_queue ∙ f

    pub queue_block : Block k n x parent a_queue done
    unfolding id_of place_of row_of effect_of
    queue_block =
        let d : Detail = a_queue in
        let up = orderly.made x (record { parent = parent; detail = d }) is in
        let on = starts.low parent (device_before k.answers 3 parent up (omega arith)) in
        builds_one _ _ (GetDeviceQueue parent x)
        (live_ok k n (all done) kind.Device parent on up, (queue_ok, tt))
        (made_first d is starts refl (GetDeviceQueue parent x) (ap (λ (q : Option ℕ). taken ∷ (if is_some q then [] else creates x parent a_queue ∷ [])) no_queue)
        ∙ whole d is starts refl refl only_made (bare_settles k x done (bare d is starts refl refl refl refl refl refl refl)))

  -- ---- fences and semaphores

  module _ (detail : Detail) (is : k.answers.live x ≡ Some (record { parent = parent; detail = detail })) (starts : Starts k.answers x (rank detail) done) (own : is_part detail ≡ false)
      (w : is_some (detail_window k.answers x detail) ≡ false) (m : (kind_number (kind_of detail) == 5) ≡ false) (b : (kind_number (kind_of detail) == 9) ≡ false)
      (a : (kind_number (kind_of detail) == 12) ≡ false) (f : is_fetched detail ≡ false) where
    -- where its signal stands, or there is none
    pub signal_settles : (some : ℕ → Bool) → pick false k.answers.signalled some ≡ pick false k.answers.signalled (also x done) →
        Settles k x done (record only_made { signalled = some })
    signal_settles some same = record {
      made = refl;
      bound = skip_one None (bound_of k.answers) done x (no_bound k n orderly x parent detail is w);
      mapped = skip_one None k.answers.mapped done x (no_mapped k n orderly x parent detail is m);
      buffer = skip_one new_buffer (buffer_of k.answers) done x (no_buffer k n orderly x parent detail is b);
      signalled = same;
      acquired = skip_one (λ index. false) k.answers.acquired done x (no_acquired k n orderly x parent detail is a);
      layout = skip_one 0 (layout_of k.answers) done x (no_layout k n orderly x parent detail is w);
      bytes = skip_bytes k x done (no_bytes k n orderly x parent detail is m f);
    }

  alive_now : (detail : Detail) → k.answers.live x ≡ Some (record { parent = parent; detail = detail }) → is_some ((shown_answers k n only_made).live x) ≡ true
  alive_now detail is = ap is_some (pick-in None k.answers.live (also x done) x (also-in x done) ∙ is)

  module _ (is : k.answers.live x ≡ Some (record { parent = parent; detail = a_fence })) (starts : Starts k.answers x 8 done) where
    fence_steps : (t : Bool) → k.answers.signalled x ≡ t →
        ◌≡◌ {A = Seen}
        (record { answers = fold after (shown_answers k n (all done)) (taken ∷ creates x parent a_fence ∷ (if mark t == 1 then signals x ∷ [] else [])); bytes = fold bytes_step (bytes_shown k done) (taken ∷ creates x parent a_fence ∷ (if mark t == 1 then signals x ∷ [] else [])) })
        (shown k n (all (joined k.answers x done)))
    unfolding after
    fence_steps true e =
        let d : Detail = a_fence in
        let off = new_here d is starts refl in
        let made = made_shown k n (all done) x parent d orderly.rising (there k n orderly x parent d is) is off off off off off off in
        ap (λ (w : View). let r : Seen = record { answers = after w (signals x); bytes = bytes_shown k done } in r) made
        ∙ ap (λ (w : View). let r : Seen = record { answers = w; bytes = bytes_shown k done } in r) (signal_shown k n only_made x (alive_now d is) e)
        ∙ whole d is starts refl refl (record only_made { signalled = also x done }) (signal_settles d is starts refl refl refl refl refl refl (also x done) refl)
    fence_steps false e =
        let d : Detail = a_fence in
        let off = new_here d is starts refl in
        let made = made_shown k n (all done) x parent d orderly.rising (there k n orderly x parent d is) is off off off off off off in
        ap (λ (w : View). let r : Seen = record { answers = w; bytes = bytes_shown k done } in r) made
        ∙ whole d is starts refl refl only_made (signal_settles d is starts refl refl refl refl refl refl done (skip_one false k.answers.signalled done x e))

    flag_ok : (t : Bool) → nat_le (mark t) 1 ≡ true
    flag_ok true = refl
    flag_ok false = refl

    pub fence_block : Block k n x parent a_fence done
    unfolding id_of place_of row_of effect_of broken
    fence_block =
        let d : Detail = a_fence in
        let up = orderly.made x (record { parent = parent; detail = d }) is in
        let on = starts.low parent (device_before k.answers 8 parent up (omega arith)) in
        let off = new_here d is starts refl in
        builds_one _ _ (CreateFence parent x (mark (k.answers.signalled x)))
        (live_ok k n (all done) kind.Device parent on up, (new_ok k n orderly x parent d is (all done) off, (ok _ _ (flag_ok (k.answers.signalled x)), (room_ok k n orderly x parent d is (all done) off, tt))))
        (fence_steps (k.answers.signalled x) refl)

  module _ (is : k.answers.live x ≡ Some (record { parent = parent; detail = a_semaphore })) (starts : Starts k.answers x 9 done) where
    signal_taken : after (after (shown_answers k n only_made) taken) (signals x) ≡ after (shown_answers k n only_made) (signals x)
    unfolding after
    signal_taken = refl

    signal_events : (t : Bool) → k.answers.signalled x ≡ t → Builds (shown k n only_made) (when t (SetSemaphoreState x 1 ∷ [])) (shown k n (all (joined k.answers x done)))
    unfolding id_of place_of row_of effect_of broken
    signal_events true e =
        let d : Detail = a_semaphore in
        builds_one _ _ (SetSemaphoreState x 1)
        (refl, (ok _ _ (ap (passes (λ o. kind_number (kind_of o.detail) == 11)) (pick-in None k.answers.live (also x done) x (also-in x done) ∙ is)), (refl, tt)))
        (ap (λ (w : View). let r : Seen = record { answers = w; bytes = bytes_shown k done } in r) (signal_taken ∙ signal_shown k n only_made x (alive_now d is) e)
        ∙ whole d is starts refl refl (record only_made { signalled = also x done }) (signal_settles d is starts refl refl refl refl refl refl (also x done) refl))
    signal_events false e =
        let d : Detail = a_semaphore in
        builds_none _ _ (whole d is starts refl refl only_made (signal_settles d is starts refl refl refl refl refl refl done (skip_one false k.answers.signalled done x e)))

    pub semaphore_block : Block k n x parent a_semaphore done
    unfolding id_of place_of row_of effect_of
    semaphore_block =
        let d : Detail = a_semaphore in
        let up = orderly.made x (record { parent = parent; detail = d }) is in
        let on = starts.low parent (device_before k.answers 9 parent up (omega arith)) in
        let off = new_here d is starts refl in
        builds_call _ (shown k n only_made) _ (CreateSemaphore parent x) (when (k.answers.signalled x) (SetSemaphoreState x 1 ∷ []))
        (live_ok k n (all done) kind.Device parent on up, (new_ok k n orderly x parent d is (all done) off, (room_ok k n orderly x parent d is (all done) off, tt)))
        (made_first d is starts refl (CreateSemaphore parent x) refl)
        (signal_events (k.answers.signalled x) refl)
