-- The blocks of buffers and images: created, bound, and with their layout.
use Rattle.std.proofs.Common.{◌≡◌, ℕ, ◌+◌, ◌<◌, Bool, true, false, not, ◌&&◌, ◌==◌, nat_le, fold, List, [], ◌∷◌, ◌++◌, Option, Some, None, if◌then◌else◌, refl, sym, ap, subst, ◌∙◌, arith, is_some, is_none}
use Rattle.std.proofs.lemmas.Bool.{eqb-true, eq-eqb}
use Rattle.std.proofs.lemmas.Bool.Decides.{nat_tests}
use Rattle.std.specs.Option.{option_map_or}
use Rattle.std.specs.Prelude.{option_and_then}
use Rattle.gfx_types.specs.declared.names.Kind.{Kind}
use Rattle.gfx_types.specs.declared.names.Kind.TheVariants as kind
use Rattle.gfx_model.specs.Events.{Event}
use Rattle.gfx_model.specs.Events.Event.{CreateBuffer, BindBufferMemory, CreateImage, BindImageMemory, InitImage}
use Rattle.gfx_model.specs.Spelling.{id_of}
use Rattle.gfx_model.specs.Steps.{Step, Object, Detail, kind_of, kind_number}
use Rattle.gfx_model.specs.Steps.Step.{taken, binds, changes}
use Rattle.gfx_model.specs.Steps.Change.{set_layout}
use Rattle.gfx_model.specs.Steps.Detail.{a_buffer, an_image}
use Rattle.gfx_model.specs.Questions.{Binding, new_buffer, passes, image_size}
use Rattle.gfx_model.specs.Views.{View, Window, is_live, is_usable, parent_of, size_of, detail_size, detail_window, bound_window}
use Rattle.gfx_model.specs.Checks.{broken, wanted_bytes}
use Rattle.gfx_model.specs.Checks.Check.{live, of, unbound, rests_in}
use Rattle.gfx_model.specs.Table.{place_of, row_of, value, divides}
use Rattle.gfx_model.specs.Effects.{effect_of, steps_of, image_bytes_put}
use Rattle.gfx_model.specs.After.{after}
use Rattle.gfx_model.specs.Covers.{is_fetched}
use Rattle.gfx_model.specs.Section.{Known, bind_event, layout_event, when}
use Rattle.gfx_section_law.specs.Orderly.{IsOrderly, IsMadeOf}
use Rattle.gfx_laws.specs.Lawful.{has_signal}
use Rattle.gfx_section_law.proofs.Picks.{pick, also, also-in, also-out, pick-in, pick-out, skip_one}
use Rattle.gfx_section_law.proofs.Builds.{Seen, Builds, Passes, next, bytes_step, ok, builds_none, builds_call, builds_one}
use Rattle.gfx_section_law.proofs.Shown.{Cuts, all, shown, shown_answers, bytes_shown, bound_of, buffer_of, layout_of, bound_shown, layout_shown, Settles, skip_bytes}
use Rattle.gfx_section_law.proofs.Ranks.{rank, is_part, joined, device_before, memory_before}
use Rattle.gfx_section_law.proofs.Objects.{live_shown, is_live_shown, live_ok, no_mapped, no_buffer, no_signal, no_acquired, no_bytes, new_ok, room_ok}
use Rattle.gfx_section_law.proofs.Plain.{Starts, Block, only_made, new_here, whole, made_first}

-- a resource that is usable by its binding
pub window_bound : (v : View) (m : ℕ) (o : Option Binding) → is_some (bound_window v m o) ≡ true → (b : Binding) × (o ≡ Some b) × (is_live v kind.Memory b.memory ≡ true)
window_bound v m None e = absurd (cc)
window_bound v m (Some b) e = (b, refl, by _ (is_live v kind.Memory b.memory) refl e)
  where
    by : (w : Window) (t : Bool) → is_live v kind.Memory b.memory ≡ t → is_some (if t then Some w else None) ≡ true → is_live v kind.Memory b.memory ≡ true
    by w true is e = is
    by w false is e = absurd (cc)

pub bound_has_window : (v : View) (m : ℕ) (b : Binding) → is_live v kind.Memory b.memory ≡ true → is_some (bound_window v m (Some b)) ≡ true
bound_has_window v m b e = by _ (is_live v kind.Memory b.memory) e
  where
    by : (w : Window) (t : Bool) → t ≡ true → is_some (if t then Some w else None) ≡ true
    by w true e = refl
    by w false e = absurd (cc)

module _ (k : Known) (n : ℕ) (orderly : IsOrderly k.answers) (done : ℕ → Bool) (x parent : ℕ) (detail : Detail) (size : ℕ)
    (is : k.answers.live x ≡ Some (record { parent = parent; detail = detail })) (starts : Starts k.answers x (rank detail) done)
    (own : is_part detail ≡ false) (late : 4 < rank detail) (up : is_live k.answers kind.Device parent ≡ true)
    (rests : (w : View) → detail_window w x detail ≡ bound_window w size (w.bound x)) where
  abbrev pub created : Cuts
  created = only_made k n orderly done x parent

  abbrev pub bound_too : Cuts
  bound_too = record created { bound = also x done }

  off : done x ≡ false
  off = new_here k n orderly done x parent detail is starts own

  pub parent_done : done parent ≡ true
  parent_done = starts.low parent (device_before k.answers (rank detail) parent up (omega (arith, late)))

  pub now : (c : Cuts) → c.made ≡ also x done → (shown_answers k n c).live x ≡ Some (record { parent = parent; detail = detail })
  now c m = live_shown k n c x (ap (λ (f : ℕ → Bool). f x) m ∙ also-in x done) ∙ is

  pub binding : is_usable k.answers x ≡ true → (b : Binding) × (k.answers.bound x ≡ Some b) × (is_live k.answers kind.Memory b.memory ≡ true)
  binding u = window_bound k.answers size (k.answers.bound x) (sym (ap (λ (w : Option Window). is_some w) (rests k.answers)) ∙ sym (ap (λ (l : Option Object). is_some (option_and_then (λ (o : Object). detail_window k.answers x o.detail) l)) is) ∙ u)

  module _ (usable : is_usable k.answers x ≡ true) (b : Binding) (at : k.answers.bound x ≡ Some b) (memory : is_live k.answers kind.Memory b.memory ≡ true) where
    memory_done : also x done b.memory ≡ true
    memory_done = also-out x done b.memory (starts.low b.memory (memory_before k.answers (rank detail) b.memory memory late))

    pub bind_passes : (j : Kind) → is_live k.answers j x ≡ true →
        Passes (shown_answers k n created) (live kind.Device parent ∷ live j x ∷ live kind.Memory b.memory ∷ of x parent ∷ of b.memory parent ∷ unbound x ∷ value (divides 16 b.offset) ∷ rests_in x b.memory b.offset ∷ [])
    unfolding broken
    bind_passes j lives =
        let o : Object = record { parent = parent; detail = detail } in
        let good = orderly.bound x o b is at memory in
        let here = now created refl in
        let there = live_shown k n created b.memory memory_done in
        let mine : parent_of (shown_answers k n created) x ≡ parent = ap (λ (l : Option Object). option_map_or (λ (o : Object). o.parent) l 0) here in
        let its : parent_of (shown_answers k n created) b.memory ≡ parent = ap (λ (l : Option Object). option_map_or (λ (o : Object). o.parent) l 0) there ∙ good.near in
        let none : is_none (pick None (bound_of k.answers) done x) ≡ true = ap is_none (pick-out None (bound_of k.answers) done x off) in
        let fits : nat_le (b.offset + size_of (shown_answers k n created) x) (size_of (shown_answers k n created) b.memory) ≡ true =
        (let i = good.inside in
        let s : size_of (shown_answers k n created) x ≡ detail_size detail = ap (λ (l : Option Object). option_map_or (λ (o : Object). detail_size o.detail) l 0) here in
        let m : size_of (shown_answers k n created) b.memory ≡ size_of k.answers b.memory = ap (λ (l : Option Object). option_map_or (λ (o : Object). detail_size o.detail) l 0) there in
        let f : nat_le (b.offset + detail_size detail) (size_of k.answers b.memory) ≡ true = grind (arith, nat_tests, i) in
        (λ i. nat_le (b.offset + s i) (m i)) ∙ f) in (
          live_ok k n created kind.Device parent (also-out x done parent parent_done) up,
          (
            live_ok k n created j x (also-in x done) lives,
            (
              live_ok k n created kind.Memory b.memory memory_done memory,
              (ok _ _ (eq-eqb _ _ mine), (ok _ _ (eq-eqb _ _ its), (ok _ _ none, (ok _ _ good.whole, (ok _ _ fits, tt))))),
            ),
          ),
        )

    bound_is : bound_of k.answers x ≡ Some b
    bound_is = ap (λ t. if t then k.answers.bound x else None) usable ∙ at

    pub next_bound : (e : Event) → steps_of (shown_answers k n created) e ≡ taken ∷ binds x b.memory b.offset ∷ [] → next (shown k n created) e ≡ shown k n bound_too
    unfolding after
    next_bound e steps =
        ap (λ (ss : List Step). let r : Seen = record { answers = fold after (shown_answers k n created) ss; bytes = fold bytes_step (bytes_shown k created.bytes) ss } in r) steps
        ∙ ap (λ (w : View). let r : Seen = record { answers = w; bytes = bytes_shown k done } in r) (bound_shown k n created x b.memory b.offset (ap is_some (now created refl)) bound_is)

    -- it is usable in the section too
    pub usable_now : is_usable (shown_answers k n bound_too) x ≡ true
    usable_now =
        ap (λ (l : Option Object). is_some (option_and_then (λ (o : Object). detail_window (shown_answers k n bound_too) x o.detail) l)) (now bound_too refl)
        ∙ ap (λ (w : Option Window). is_some w) (rests (shown_answers k n bound_too))
        ∙ ap (λ (o : Option Binding). is_some (bound_window (shown_answers k n bound_too) size o)) (pick-in None (bound_of k.answers) (also x done) x (also-in x done) ∙ bound_is)
        ∙ bound_has_window (shown_answers k n bound_too) size b (is_live_shown k n bound_too kind.Memory b.memory memory_done memory)

  -- nothing more is to come
  module _ (m : (kind_number (kind_of detail) == 5) ≡ false) (c : (kind_number (kind_of detail) == 9) ≡ false)
      (s : has_signal detail ≡ false) (a : (kind_number (kind_of detail) == 12) ≡ false) (f : is_fetched detail ≡ false) where
    pub settles : (some other : ℕ → Bool) → pick None (bound_of k.answers) some ≡ pick None (bound_of k.answers) (also x done) →
        pick 0 (layout_of k.answers) other ≡ pick 0 (layout_of k.answers) (also x done) →
        Settles k x done (record created { bound = some; layout = other })
    settles some other b l = record {
      made = refl;
      bound = b;
      mapped = skip_one None k.answers.mapped done x (no_mapped k n orderly x parent detail is m);
      buffer = skip_one new_buffer (buffer_of k.answers) done x (no_buffer k n orderly x parent detail is c);
      signalled = skip_one false k.answers.signalled done x (no_signal k n orderly x parent detail is s);
      acquired = skip_one (λ index. false) k.answers.acquired done x (no_acquired k n orderly x parent detail is a);
      layout = l;
      bytes = skip_bytes k x done (no_bytes k n orderly x parent detail is m f);
    }

  pub bound_none : is_usable k.answers x ≡ false → bound_of k.answers x ≡ None
  bound_none u = ap (λ t. if t then k.answers.bound x else None) u

  pub layout_none : is_usable k.answers x ≡ false → layout_of k.answers x ≡ 0
  layout_none u = ap (λ t. if t then k.answers.layout x else 0) u

-- ---- buffers

module _ (k : Known) (n : ℕ) (orderly : IsOrderly k.answers) (done : ℕ → Bool) (x parent size usage : ℕ)
    (is : k.answers.live x ≡ Some (record { parent = parent; detail = a_buffer size usage })) (starts : Starts k.answers x 5 done)
    (no_layouts : k.answers.layout x ≡ 0) where
  abbrev d : Detail
  d = a_buffer size usage

  made_of : IsMadeOf k.answers parent (a_buffer size usage)
  made_of = orderly.made x (record { parent = parent; detail = a_buffer size usage }) is

  layout_zero : layout_of k.answers x ≡ 0
  layout_zero = cases (is_usable k.answers x)
    where
      cases : (t : Bool) → (if t then k.answers.layout x else 0) ≡ 0
      cases true = no_layouts
      cases false = refl

  ends_with : (some : ℕ → Bool) → pick None (bound_of k.answers) some ≡ pick None (bound_of k.answers) (also x done) →
      shown k n (record (only_made k n orderly done x parent) { bound = some }) ≡ shown k n (all (joined k.answers x done))
  ends_with some same =
      whole k n orderly done x parent (a_buffer size usage) is starts refl refl (record (only_made k n orderly done x parent) { bound = some })
      (settles k n orderly done x parent (a_buffer size usage) size is starts refl (omega arith) made_of.0 (λ w. refl) refl refl refl refl refl some done same
      (skip_one 0 (layout_of k.answers) done x layout_zero))

  buffer_bind : (t : Bool) → is_usable k.answers x ≡ t →
      Builds (shown k n (only_made k n orderly done x parent)) (when t (option_map_or (λ b. BindBufferMemory parent x b.memory b.offset ∷ []) (k.answers.bound x) [])) (shown k n (all (joined k.answers x done)))
  unfolding id_of place_of row_of effect_of
  buffer_bind true u =
      let b = binding k n orderly done x parent (a_buffer size usage) size is starts refl (omega arith) made_of.0 (λ w. refl) u in
      subst (λ (o : Option Binding). Builds (shown k n (only_made k n orderly done x parent)) (option_map_or (λ b. BindBufferMemory parent x b.memory b.offset ∷ []) o []) (shown k n (all (joined k.answers x done)))) (sym b.1)
      (builds_one _ _ (BindBufferMemory parent x (b.0).memory (b.0).offset)
      (bind_passes k n orderly done x parent (a_buffer size usage) size is starts refl (omega arith) made_of.0 (λ w. refl) u b.0 b.1 b.2 kind.Buffer (ap (passes (λ o. kind_number (kind_of o.detail) == 6)) is))
      (next_bound k n orderly done x parent (a_buffer size usage) size is starts refl (omega arith) made_of.0 (λ w. refl) u b.0 b.1 b.2 (BindBufferMemory parent x (b.0).memory (b.0).offset) refl
      ∙ ends_with (also x done) refl))
  buffer_bind false u =
      builds_none _ _ (ends_with done (skip_one None (bound_of k.answers) done x (bound_none k n orderly done x parent (a_buffer size usage) size is starts refl (omega arith) made_of.0 (λ w. refl) u)))

  pub buffer_block : Block k n x parent (a_buffer size usage) done
  unfolding id_of place_of row_of effect_of broken
  buffer_block =
      let off = new_here k n orderly done x parent d is starts refl in
      builds_call _ (shown k n (only_made k n orderly done x parent)) _ (CreateBuffer parent x size usage) (bind_event k (BindBufferMemory parent x) x) (
        live_ok k n (all done) kind.Device parent (parent_done k n orderly done x parent d size is starts refl (omega arith) made_of.0 (λ w. refl)) made_of.0,
        (new_ok k n orderly x parent d is (all done) off, (ok _ _ made_of.1, (room_ok k n orderly x parent d is (all done) off, tt))),
      )
      (made_first k n orderly done x parent d is starts refl (CreateBuffer parent x size usage) refl)
      (buffer_bind (is_usable k.answers x) refl)

-- ---- images

module _ (k : Known) (n : ℕ) (orderly : IsOrderly k.answers) (done : ℕ → Bool) (x parent format width height usage : ℕ)
    (is : k.answers.live x ≡ Some (record { parent = parent; detail = an_image format width height usage None })) (starts : Starts k.answers x 6 done) where
  abbrev e : Detail
  e = an_image format width height usage None

  abbrev area : ℕ
  area = image_size format width height

  image_made : IsMadeOf k.answers parent (an_image format width height usage None)
  image_made = orderly.made x (record { parent = parent; detail = an_image format width height usage None }) is

  abbrev goal : Seen
  goal = shown k n (all (joined k.answers x done))

  image_ends : (some other : ℕ → Bool) → pick None (bound_of k.answers) some ≡ pick None (bound_of k.answers) (also x done) →
      pick 0 (layout_of k.answers) other ≡ pick 0 (layout_of k.answers) (also x done) →
      shown k n (record (only_made k n orderly done x parent) { bound = some; layout = other }) ≡ goal
  image_ends some other same l =
      whole k n orderly done x parent e is starts refl refl (record (only_made k n orderly done x parent) { bound = some; layout = other })
      (settles k n orderly done x parent e area is starts refl (omega arith) image_made.0 (λ w. refl) refl refl refl refl refl some other same l)

  module _ (u : is_usable k.answers x ≡ true) (b : Binding) (at : k.answers.bound x ≡ Some b) (memory : is_live k.answers kind.Memory b.memory ≡ true) where
    abbrev after_bind : Cuts
    after_bind = bound_too k n orderly done x parent e area is starts refl (omega arith) image_made.0 (λ w. refl)

    image_now : (shown_answers k n after_bind).live x ≡ Some (record { parent = parent; detail = e })
    image_now = now k n orderly done x parent e area is starts refl (omega arith) image_made.0 (λ w. refl) after_bind refl

    layout_is : layout_of k.answers x ≡ k.answers.layout x
    layout_is = ap (λ t. if t then k.answers.layout x else 0) u

    layout_events : (t : Bool) → (k.answers.layout x == 0) ≡ t → Builds (shown k n after_bind) (when (not t) (InitImage x (k.answers.layout x) [] ∷ [])) goal
    unfolding id_of place_of row_of effect_of broken after
    layout_events true z = builds_none _ _ (image_ends (also x done) done refl (skip_one 0 (layout_of k.answers) done x (layout_is ∙ eqb-true (k.answers.layout x) 0 z)))
    layout_events false z =
        builds_one _ _ (InitImage x (k.answers.layout x) []) (
          refl,
          (
            live_ok k n after_bind kind.Image x (also-in x done) (ap (passes (λ o. kind_number (kind_of o.detail) == 7)) is),
            (
              ok _ _ (usable_now k n orderly done x parent e area is starts refl (omega arith) image_made.0 (λ w. refl) u b at memory),
              (ok _ _ (orderly.layouts x), (ok _ _ (ap (λ (l : Option Object). 0 == option_map_or (λ o. wanted_bytes o.detail (size_of (shown_answers k n after_bind) x)) l 0) image_now), tt)),
            ),
          ),
        )
        (ap (λ (l : Option Object). let r : Seen = record {
          answers = fold after (shown_answers k n after_bind) (taken ∷ changes (set_layout x (k.answers.layout x)) ∷ option_map_or (λ o. image_bytes_put o.detail x []) l []);
          bytes = fold bytes_step (bytes_shown k done) (taken ∷ changes (set_layout x (k.answers.layout x)) ∷ option_map_or (λ o. image_bytes_put o.detail x []) l []);
        } in r) image_now
        ∙ ap (λ (w : View). let r : Seen = record { answers = w; bytes = bytes_shown k done } in r) (layout_shown k n after_bind x (k.answers.layout x) (ap is_some image_now) layout_is)
        ∙ image_ends (also x done) (also x done) refl refl)

  image_events : (t : Bool) → is_usable k.answers x ≡ t →
      Builds (shown k n (only_made k n orderly done x parent))
      (when t (option_map_or (λ b. BindImageMemory parent x b.memory b.offset ∷ []) (k.answers.bound x) []) ++ when (t && not (k.answers.layout x == 0)) (InitImage x (k.answers.layout x) [] ∷ [])) goal
  unfolding id_of place_of row_of effect_of
  image_events true u =
      let b = binding k n orderly done x parent e area is starts refl (omega arith) image_made.0 (λ w. refl) u in
      subst (λ (o : Option Binding). Builds (shown k n (only_made k n orderly done x parent)) (option_map_or (λ b. BindImageMemory parent x b.memory b.offset ∷ []) o [] ++ when (not (k.answers.layout x == 0)) (InitImage x (k.answers.layout x) [] ∷ [])) goal) (sym b.1)
      (builds_call _ (shown k n (after_bind u b.0 b.1 b.2)) _ (BindImageMemory parent x (b.0).memory (b.0).offset) (when (not (k.answers.layout x == 0)) (InitImage x (k.answers.layout x) [] ∷ []))
      (bind_passes k n orderly done x parent e area is starts refl (omega arith) image_made.0 (λ w. refl) u b.0 b.1 b.2 kind.Image (ap (passes (λ o. kind_number (kind_of o.detail) == 7)) is))
      (next_bound k n orderly done x parent e area is starts refl (omega arith) image_made.0 (λ w. refl) u b.0 b.1 b.2 (BindImageMemory parent x (b.0).memory (b.0).offset) refl)
      (layout_events u b.0 b.1 b.2 (k.answers.layout x == 0) refl))
  image_events false u =
      builds_none _ _ (image_ends done done
      (skip_one None (bound_of k.answers) done x (bound_none k n orderly done x parent e area is starts refl (omega arith) image_made.0 (λ w. refl) u))
      (skip_one 0 (layout_of k.answers) done x (layout_none k n orderly done x parent e area is starts refl (omega arith) image_made.0 (λ w. refl) u)))

  pub image_block : Block k n x parent (an_image format width height usage None) done
  unfolding id_of place_of row_of effect_of broken
  image_block =
      let off = new_here k n orderly done x parent e is starts refl in
      builds_call _ (shown k n (only_made k n orderly done x parent)) _ (CreateImage parent x format width height usage) (bind_event k (BindImageMemory parent x) x ++ layout_event k x) (
        live_ok k n (all done) kind.Device parent (parent_done k n orderly done x parent e area is starts refl (omega arith) image_made.0 (λ w. refl)) image_made.0,
        (new_ok k n orderly x parent e is (all done) off, (ok _ _ image_made.1, (ok _ _ image_made.2, (room_ok k n orderly x parent e is (all done) off, tt)))),
      )
      (made_first k n orderly done x parent e is starts refl (CreateImage parent x format width height usage) refl)
      (image_events (is_usable k.answers x) refl)
