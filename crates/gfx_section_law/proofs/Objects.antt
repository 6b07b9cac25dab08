-- One object of a history: what it has, and how it is made anew.
use Rattle.std.proofs.Common.{◌≡◌, ℕ, ◌+◌, ◌≤◌, true, false, not, ◌&&◌, ◌==◌, nat_lt, fold, List, [], ◌∷◌, length, filter, Option, Some, None, if◌then◌else◌, ap, ◌∙◌, arith, is_some}
use mathlib.Core.Path.{fun_ext}
use Rattle.std.proofs.lemmas.Bool.{both_ways, false_from_ne_true}
use Rattle.std.proofs.lemmas.Bool.Decides.{nat_tests}
use Rattle.gfx_types.specs.declared.op.Place.{Place}
use Rattle.gfx_types.specs.declared.op.Place.TheVariants as place
use Rattle.gfx_types.specs.declared.names.Fault.TheVariants.{BadValue, IdTaken}
use Rattle.gfx_types.specs.declared.names.Kind.{Kind}
use Rattle.gfx_types.specs.declared.names.Kind.TheVariants as kind
use Rattle.gfx_model.specs.Events.{Event}
use Rattle.gfx_model.specs.Steps.{Step, Object, Detail, kind_of, kind_number}
use Rattle.gfx_model.specs.Steps.Step.{taken, creates}
use Rattle.gfx_model.specs.Questions.{new_buffer, is_kept, passes, insert_rising}
use Rattle.gfx_model.specs.Views.{View, is_live, is_usable, size_of, Window, detail_window}
use Rattle.gfx_model.specs.Checks.{broken, is_among, first, unless}
use Rattle.gfx_model.specs.Checks.Check.{new, room, live}
use Rattle.gfx_model.specs.Effects.{steps_of}
use Rattle.gfx_model.specs.After.{after}
use Rattle.gfx_model.specs.Section.{Known}
use Rattle.gfx_model.specs.Bytes.{byte}
use Rattle.std.specs.Prelude.{option_and_then}
use Rattle.gfx_model.specs.Covers.{is_fetched}
use Rattle.gfx_laws.proofs.Cases.{by_test, none_of, some_of}
use Rattle.gfx_section_law.specs.Orderly.{IsOrderly}
use Rattle.gfx_laws.specs.Lawful.{has_signal}
use Rattle.gfx_section_law.proofs.Picks.{also, pick-in, insert-filter, length-insert, length-filter}
use Rattle.gfx_section_law.proofs.Builds.{Seen, next, bytes_step, ok}
use Rattle.gfx_section_law.proofs.Shown.{Cuts, shown, shown_answers, bytes_shown, bound_of, buffer_of, layout_of, byte_of, id_of_place, made_shown}

-- what stands is as it was
pub live_shown : (k : Known) (n : ℕ) (c : Cuts) (y : ℕ) → c.made y ≡ true → (shown_answers k n c).live y ≡ k.answers.live y
live_shown k n c y e = pick-in None k.answers.live c.made y e

pub is_live_shown : (k : Known) (n : ℕ) (c : Cuts) (j : Kind) (y : ℕ) → c.made y ≡ true → is_live k.answers j y ≡ true → is_live (shown_answers k n c) j y ≡ true
is_live_shown k n c j y e l = ap (passes (λ o. kind_number (kind_of o.detail) == kind_number j)) (live_shown k n c y e) ∙ l

pub live_ok : (k : Known) (n : ℕ) (c : Cuts) (j : Kind) (y : ℕ) → c.made y ≡ true → is_live k.answers j y ≡ true → broken (shown_answers k n c) (live j y) ≡ None
unfolding broken
live_ok k n c j y e l = ok _ _ (is_live_shown k n c j y e l)

module _ (k : Known) (n : ℕ) (orderly : IsOrderly k.answers) (x parent : ℕ) (detail : Detail) (is : k.answers.live x ≡ Some (record { parent = parent; detail = detail })) where
  pub there : is_among x k.answers.ids ≡ true
  there = orderly.listed x ∙ ap is_some is

  -- answers that its kind does not have
  pub no_window : is_some (detail_window k.answers x detail) ≡ false → is_usable k.answers x ≡ false
  no_window e = ap (λ l. is_some (window_in l)) is ∙ e
    where
      window_in : Option Object → Option Window
      window_in l = option_and_then (λ (o : Object). detail_window k.answers x o.detail) l

  pub no_bound : is_some (detail_window k.answers x detail) ≡ false → bound_of k.answers x ≡ None
  no_bound e = ap (λ t. if t then k.answers.bound x else None) (no_window e)

  pub no_layout : is_some (detail_window k.answers x detail) ≡ false → layout_of k.answers x ≡ 0
  no_layout e = ap (λ t. if t then k.answers.layout x else 0) (no_window e)

  not_kind : (j : Kind) → (kind_number (kind_of detail) == kind_number j) ≡ false → is_live k.answers j x ≡ false
  not_kind j e = ap (passes (λ o. kind_number (kind_of o.detail) == kind_number j)) is ∙ e

  pub no_mapped : (kind_number (kind_of detail) == 5) ≡ false → k.answers.mapped x ≡ None
  no_mapped e = by_test (k.answers.mapped x ≡ None) (is_some (k.answers.mapped x))
      (λ s. let r = some_of (k.answers.mapped x) s in absurd (both_ways (is_live k.answers kind.Memory x) (not_kind kind.Memory e) (orderly.mapped x r.0 r.1).memory))
      (none_of (k.answers.mapped x))

  pub no_buffer : (kind_number (kind_of detail) == 9) ≡ false → buffer_of k.answers x ≡ new_buffer
  no_buffer e = ap (λ t. if t then k.answers.buffer x else new_buffer)
      (false_from_ne_true (is_kept (k.answers.buffer x).state) (λ s. both_ways (is_live k.answers kind.CommandBuffer x) (not_kind kind.CommandBuffer e) (orderly.buffers x s).is_buffer))

  pub no_signal : has_signal detail ≡ false → k.answers.signalled x ≡ false
  no_signal e = false_from_ne_true (k.answers.signalled x) (λ s.
      both_ways (passes (λ o. has_signal o.detail) (k.answers.live x)) (ap (passes (λ o. has_signal o.detail)) is ∙ e) (orderly.signalled x s))

  pub no_acquired : (kind_number (kind_of detail) == 12) ≡ false → k.answers.acquired x ≡ (λ index. false)
  no_acquired e = fun_ext (λ j. false_from_ne_true (k.answers.acquired x j) (λ s.
      both_ways (is_live k.answers kind.Swapchain x) (not_kind kind.Swapchain e) (orderly.acquired x j s).0))

  pub no_bytes : (kind_number (kind_of detail) == 5) ≡ false → is_fetched detail ≡ false → (at : Place) (i : ℕ) → id_of_place at ≡ x → byte_of k at i ≡ 0
  no_bytes e f (place.Memory m) i same =
      ap (λ t. if t && nat_lt i (size_of k.answers m) then byte k.es (place.Memory m) i else 0) (ap (is_live k.answers kind.Memory) same ∙ not_kind kind.Memory e)
  no_bytes e f (place.Image y) i same =
      ap (λ t. if t && nat_lt i (size_of k.answers y) then byte k.es (place.Image y) i else 0)
      (ap (λ z. passes (λ o. is_fetched o.detail) (k.answers.live z)) same ∙ ap (passes (λ o. is_fetched o.detail)) is ∙ f)

  -- ---- its creation

  module _ (c : Cuts) (new_here : c.made x ≡ false) where
    pub new_ok : broken (shown_answers k n c) (new [] x) ≡ None
    unfolding broken
    new_ok =
        ap (λ t. first (unless (not t) BadValue) (unless (not (c.made x) && not (is_among x [])) IdTaken)) (orderly.nonzero x (record { parent = parent; detail = detail }) is)
        ∙ ap (λ t. unless (not t && not (is_among x [])) IdTaken) new_here

    counted : length (filter c.made k.answers.ids) + 1 ≤ 65536
    counted =
        let a = length-insert x (filter c.made k.answers.ids) in
        let b : length (insert_rising x (filter c.made k.answers.ids)) ≡ length (filter (also x c.made) k.answers.ids) =
        ap (λ l. length l) (insert-filter x c.made k.answers.ids orderly.rising there new_here) in
        let d = length-filter (also x c.made) k.answers.ids in
        let e = orderly.few in
        omega (arith, a, b, d, e)

    pub room_ok : broken (shown_answers k n c) (room 1) ≡ None
    unfolding broken
    room_ok = let m = counted in ok _ _ (grind (arith, nat_tests, m))

    pub next_made : (e : Event) → c.bound x ≡ false → c.buffer x ≡ false → c.signalled x ≡ false → c.acquired x ≡ false → c.layout x ≡ false →
        steps_of (shown_answers k n c) e ≡ taken ∷ creates x parent detail ∷ [] → next (shown k n c) e ≡ shown k n (record c { made = also x c.made })
    unfolding after
    next_made e r b s a l steps =
        ap (λ (ss : List Step). let r : Seen = record { answers = fold after (shown_answers k n c) ss; bytes = fold bytes_step (bytes_shown k c.bytes) ss } in r) steps
        ∙ ap (λ (w : View). let r : Seen = record { answers = w; bytes = bytes_shown k c.bytes } in r) (made_shown k n c x parent detail orderly.rising there is new_here r b s a l)
