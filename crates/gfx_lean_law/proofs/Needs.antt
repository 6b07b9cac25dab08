-- What a range needs keeps what it depends on, and the range names nothing else that is live.
use Rattle.std.proofs.Common.{◌≡◌, ℕ, ◌+◌, ◌<◌, Bool, true, false, refl, sym, ◌∙◌, ap, subst, arith, List, ◌++◌, filter, flat_map, Option, Some, None, if◌then◌else◌, is_some, not, ◌==◌, ◌&&◌, ◌||◌, option_and_then}
use Rattle.std.specs.Prelude.{Contains, IsTrue}
use Rattle.std.specs.List.{AllByRecursion, range_with_len}
use Rattle.std.specs.Option.{option_map_or}
use Rattle.std.proofs.lemmas.Bool.{eq-eqb, and_from, or_left, or_right, both_ways}
use Rattle.gfx_types.specs.declared.names.Kind.TheVariants as kind
use Rattle.gfx_types.specs.declared.op.Place.TheVariants as place
use Rattle.gfx_model.specs.Events.{Event}
use Rattle.gfx_model.specs.Steps.{Object, Detail, Change, resources_of}
use Rattle.gfx_model.specs.Steps.Detail.{a_swapchain, a_buffer, an_image}
use Rattle.gfx_model.specs.Questions.{Binding, is_kept, passes, image_size}
use Rattle.gfx_model.specs.Views.{View, Window, is_live, is_one, parent_of, detail_window, bound_window, has_index, fetched, images_in, detail_images}
use Rattle.gfx_model.specs.Checks.{is_among}
use Rattle.gfx_model.specs.Covers.{is_fetched}
use Rattle.gfx_script_model.specs.Ids.{uses_of, defines_of}
use Rattle.gfx_feature_model.specs.Lean.{Needed, named_in, surface_of}
use Rattle.gfx_feature_model.specs.Lean.Needed.{by_name, as_parent, as_memory, as_surface, as_image, as_resource}
use Rattle.gfx_model.proofs.Lists.{all_along}
use Rattle.gfx_laws.specs.Lawful.{IsLawful, IsImageOf}
use Rattle.gfx_laws.proofs.Cases.{by_test}
use Rattle.gfx_laws.proofs.Lists.{all_before, all_behind, all_from_flat}
use Rattle.gfx_laws.proofs.LawfulIds.{among_filter}
use Rattle.gfx_laws.proofs.MoreObjects.{live_of_kind}
use Rattle.gfx_lean_law.proofs.Only.{IsClosed, Keeps, KeepsCommands, KeepsDetail, is_bound_kind}
use Rattle.gfx_lean_law.proofs.Rows.{KeepsEvent}
use Rattle.gfx_lean_law.proofs.Contained.{all_contained, contains_flat, contains_among, contains_range}

-- what is kept, and what was not live
abbrev pub kept_or_new : (ℕ → Bool) → View → ℕ → Bool
kept_or_new id v x = id x || not (is_some (v.live x))

module _ (v : View) (es : List Change) (range : List Event) (id : ℕ → Bool) (h : IsLawful v es)
    (needed : (x : ℕ) → Needed v range x → IsTrue (id x)) (only : (x : ℕ) → IsTrue (id x) → Needed v range x) where
  abbrev k : ℕ → Bool
  k x = kept_or_new id v x

  -- what is kept is needed, where it is live
  is_needed : (x : ℕ) (o : Object) → k x ≡ true → v.live x ≡ Some o → Needed v range x
  is_needed x o on e = only x (by (id x) on)
    where
      by : (t : Bool) → t || not (is_some (v.live x)) ≡ true → t ≡ true
      by true e = refl
      by false f = absurd (both_ways (not (is_some (v.live x))) (ap (λ (l : Option Object). not (is_some l)) e) f)

  -- and what is live is kept, where it is needed
  is_kept_if : (x : ℕ) → (is_some (v.live x) ≡ true → Needed v range x) → k x ≡ true
  is_kept_if x n = by_test (k x ≡ true) (is_some (v.live x))
      (λ e. or_left (id x) (not (is_some (v.live x))) (needed x (n e)))
      (λ e. or_right (id x) (not (is_some (v.live x))) (ap not e))

  parent_needed : (x : ℕ) (o : Object) → k x ≡ true → v.live x ≡ Some o → k o.parent ≡ true
  parent_needed x o on e =
      let up : parent_of v x ≡ o.parent = ap (λ l. option_map_or (λ (o : Object). o.parent) l 0) e in
      subst (λ y. k y ≡ true) up (is_kept_if (parent_of v x) (λ live. as_parent x live (is_needed x o on e)))

  detail_needed : (x p : ℕ) (d : Detail) → k x ≡ true → v.live x ≡ Some (record { parent = p; detail = d }) → KeepsDetail k d
  detail_needed x p (a_swapchain surface images format width height usage) on e =
      is_kept_if surface (λ live. as_surface x surface (ap (λ l. option_map_or (λ (o : Object). surface_of o.detail) l None) e) (is_needed x (record { parent = p; detail = a_swapchain surface images format width height usage }) on e))
  detail_needed x p _ on e = tt

  -- a fetched image is in the list of its swapchain
  fetched_has : (x p : ℕ) (d : Detail) → v.live x ≡ Some (record { parent = p; detail = d }) → is_fetched d ≡ true → IsImageOf d (v.live p) → Contains (fetched v p) x
  fetched_has x p (an_image format width height usage (Some index)) e f image =
      contains_flat (λ i. filter (is_one v (λ o. o.parent == p && has_index i o.detail)) v.ids) (range_with_len 0 (images_in v p)) index x
      (contains_range 0 (images_in v p) index (omega arith) (subst (λ n. index < 0 + n) (sym number) (let r = image.in_range in omega (arith, r))))
      (contains_among x _ (among_filter (is_one v (λ o. o.parent == p && has_index index o.detail)) x v.ids ∙ and_from (is_among x v.ids) _ ((h.ids).exact x ∙ ap is_some e) one))
    where
      number : images_in v p ≡ image.images
      number = ap (λ l. option_map_or (λ (o : Object). detail_images o.detail) l 0) image.is_live

      one : is_one v (λ o. o.parent == p && has_index index o.detail) x ≡ true
      one = ap (passes (λ o. o.parent == p && has_index index o.detail)) e ∙ and_from (p == p) (index == index) (eq-eqb p p refl) (eq-eqb index index refl)
  fetched_has x p (an_image format width height usage None) e f image = absurd (cc)
  fetched_has x p _ e f image = absurd (cc)

  images_needed : (x : ℕ) (o : Object) → k o.parent ≡ true → v.live x ≡ Some o → is_fetched o.detail ≡ true → k x ≡ true
  images_needed x o on e f =
      is_kept_if x (λ live. as_image o.parent x (fetched_has x o.parent o.detail e f ((h.objects).fetched x o e)) (chain (v.live o.parent) refl))
    where
      has : (d : Detail) (l : Option Object) → is_fetched d ≡ true → IsImageOf d l → is_some l ≡ true
      has (an_image format width height usage (Some index)) l f image = ap is_some image.is_live
      has (an_image format width height usage None) l f image = absurd (cc)
      has _ l f image = absurd (cc)

      chain : (l : Option Object) → v.live o.parent ≡ l → Needed v range o.parent
      chain (Some q) is = is_needed o.parent q on is
      chain None is = absurd (both_ways (is_some (v.live o.parent)) (ap is_some is) (has o.detail (v.live o.parent) f ((h.objects).fetched x o e)))

  memory_needed : (x : ℕ) (o : Object) (b : Binding) → k x ≡ true → v.live x ≡ Some o → is_bound_kind o.detail ≡ true → v.bound x ≡ Some b → is_live v kind.Memory b.memory ≡ true → k b.memory ≡ true
  memory_needed x o b on e d at m =
      is_kept_if b.memory (λ live. as_memory x b.memory (ap (λ (l : Option Object). is_some (option_and_then (λ (o : Object). detail_window v x o.detail) l)) e ∙ usable o.detail d)
      (ap (λ l. option_map_or (λ (b : Binding). Some b.memory) l None) at) (is_needed x o on e))
    where
      bound_there : (n : ℕ) → is_some (bound_window v n (v.bound x)) ≡ true
      bound_there n =
          ap (λ b. is_some (bound_window v n b)) at
          ∙ ap (λ t. is_some {T = Window} (if t then Some (record { place = place.Memory b.memory; offset = b.offset; length = n }) else None)) m

      usable : (d : Detail) → is_bound_kind d ≡ true → is_some (detail_window v x d) ≡ true
      usable (a_buffer size usage) e = bound_there size
      usable (an_image format width height usage None) e = bound_there (image_size format width height)
      usable (an_image format width height usage (Some index)) e = refl
      usable _ e = absurd (cc)

  commands_needed : (cb : ℕ) → k cb ≡ true → is_kept (v.buffer cb).state ≡ true → KeepsCommands k (v.buffer cb).commands
  commands_needed cb on e =
      let o = live_of_kind v _ cb ((h.buffers).owner cb e) in
      all_from_flat (λ x. k x ≡ true) resources_of (v.buffer cb).commands
      (all_contained (λ x. k x ≡ true) (flat_map resources_of (v.buffer cb).commands)
      (λ r there. is_kept_if r (λ live. as_resource cb r e there (is_needed cb o.0 on o.1))))

  pub closed_needed : IsClosed k v
  closed_needed = record {
    zero = is_kept_if 0 (λ live. absurd (both_ways (is_some (v.live 0)) (ap is_some (h.objects).zero) live));
    parent = parent_needed;
    detail = λ x o on e. detail_needed x o.parent o.detail on e;
    images = images_needed;
    memory = memory_needed;
    commands = commands_needed;
  }

  -- the range names and creates kept ids alone
  pub range_keeps : AllByRecursion (KeepsEvent k) range
  range_keeps =
      all_along (λ e. Keeps k (uses_of 2 e ++ defines_of 2 e)) (KeepsEvent k)
      (λ e a. (all_before (λ x. k x ≡ true) (uses_of 2 e) (defines_of 2 e) a, all_behind (λ x. k x ≡ true) (uses_of 2 e) (defines_of 2 e) a)) range
      (all_from_flat (λ x. k x ≡ true) (λ e. uses_of 2 e ++ defines_of 2 e) range
      (all_contained (λ x. k x ≡ true) (named_in range) (λ x there. is_kept_if x (λ live. by_name x live there))))
