-- What a live object depends on is what it leads to.
use Rattle.std.proofs.Common.{◌≡◌, ℕ, Bool, filter, option_and_then, true, false, refl, sym, ◌∙◌, ap, subst, List, [], ◌∷◌, ◌++◌, map, flat_map, append-nil, Option, Some, None, if◌then◌else◌, is_some, ◌==◌, ◌&&◌, ◌⊎◌, inl, inr}
use Rattle.std.specs.Prelude.{Contains}
use Rattle.std.specs.List.{AllByRecursion, range_with_len}
use Rattle.std.specs.Option.{option_map_or}
use Rattle.std.proofs.lemmas.Bool.{both_ways, eq-eqb}
use Rattle.gfx_types.specs.declared.lists.Barrier.{Barrier}
use Rattle.gfx_types.specs.declared.names.Kind.TheVariants as kind
use Rattle.gfx_types.specs.declared.op.Place.TheVariants as place
use Rattle.gfx_model.specs.Events.{Event}
use Rattle.gfx_model.specs.Events.Event.{CmdPipelineBarrier, CmdFillBuffer, CmdUpdateBuffer, CmdCopyBuffer, CmdCopyImage, CmdCopyBufferToImage, CmdCopyImageToBuffer, CmdClearColorImage}
use Rattle.gfx_model.specs.Steps.{Object, Detail, kind_of, kind_number, resources_of}
use Rattle.gfx_model.specs.Steps.Detail.{a_buffer, a_command_buffer, a_swapchain, an_image}
use Rattle.gfx_model.specs.Questions.{Binding, image_size, is_kept, passes}
use Rattle.gfx_model.specs.Views.{View, Window, bound_window, detail_images, detail_window, fetched, has_index, images_in, is_live, is_one, is_usable, parent_of}
use Rattle.gfx_model.specs.Fields.{barrier_atoms}
use Rattle.gfx_model.specs.Table.{cb_of}
use Rattle.gfx_script_model.specs.Ids.{atom_ids}
use Rattle.gfx_feature_model.specs.Lean.{surface_of}
use Rattle.gfx_laws.specs.Lawful.{IsCommandOf, IsLawful, base}
use Rattle.gfx_model.proofs.Lists.{all_along, all_flat_map}
use Rattle.gfx_laws.proofs.Covering.{kept_usable}
use Rattle.gfx_laws.proofs.Lists.{all_into_flat}
use Rattle.gfx_laws.proofs.LawfulLayouts.{usable_live}
use Rattle.gfx_laws.proofs.MoreObjects.{live_of_kind}
use Rattle.gfx_laws.proofs.SameFrames.{all_filter}
use Rattle.gfx_lean_law.proofs.Contained.{contains_before, contains_behind, contains_here, contains_later, contains_none, contains_one, contains_split}
use Rattle.gfx_lean_law.proofs.Marks.{StandsBy, by_stands, stands_by}
use Rattle.gfx_lean_law.specs.Computed.{stands_on}
use Rattle.gfx_needed.specs.Fields.{ids_in}
use Rattle.gfx_needed.specs.Grounds.{grounds, linked, memory_of, memory_under}
use Rattle.gfx_needed.proofs.Listed.{no_buffer_ids, no_image_ids, no_mixed_ids}

-- ---- what a command names

barrier_images : (bs : List Barrier) → flat_map (flat_map atom_ids) (map barrier_atoms bs) ≡ map (λ b. b.image) bs
barrier_images [] = refl
barrier_images (b ∷ bs) = ap (λ l. b.image ∷ l) (barrier_images bs)

-- a command names its buffer and its resources
command_ids : (c : Event) → (cb_of c ≡ 0 → ⊥) → ids_in c ≡ cb_of c ∷ resources_of c
unfolding ids_in resources_of
command_ids (CmdPipelineBarrier cb barriers) some = ap (λ l. cb ∷ l) (append-nil _ ∙ barrier_images barriers)
command_ids (CmdFillBuffer cb buffer offset size word) some = refl
command_ids (CmdUpdateBuffer cb buffer offset bytes) some = refl
command_ids (CmdCopyBuffer cb source target regions) some = ap (λ l. cb ∷ source ∷ target ∷ l) (append-nil _ ∙ no_buffer_ids regions)
command_ids (CmdCopyImage cb source source_layout target target_layout regions) some = ap (λ l. cb ∷ source ∷ target ∷ l) (append-nil _ ∙ no_image_ids regions)
command_ids (CmdCopyBufferToImage cb source target layout regions) some = ap (λ l. cb ∷ source ∷ target ∷ l) (append-nil _ ∙ no_mixed_ids regions)
command_ids (CmdCopyImageToBuffer cb source layout target regions) some = ap (λ l. cb ∷ source ∷ target ∷ l) (append-nil _ ∙ no_mixed_ids regions)
command_ids (CmdClearColorImage cb image layout c0 c1 c2 c3) some = refl
command_ids _ some = absurd (some refl)

-- the commands of a buffer name it and their resources
commands_name : (cb : ℕ) (cs : List Event) (y : ℕ) → (cb ≡ 0 → ⊥) → AllByRecursion (λ c. cb_of c ≡ cb) cs → Contains (flat_map ids_in cs) y → (cb ≡ y) ⊎ Contains (flat_map resources_of cs) y
commands_name cb [] y some own c = absurd (contains_none y c)
commands_name cb (e ∷ cs) y some own c = by (contains_split (ids_in e) (flat_map ids_in cs) y c) (commands_name cb cs y some own.1)
  where
    one : Contains (cb_of e ∷ resources_of e) y → (cb ≡ y) ⊎ Contains (flat_map resources_of (e ∷ cs)) y
    one c = first (contains_split (cb_of e ∷ []) (resources_of e) y c)
      where
        first : Contains (cb_of e ∷ []) y ⊎ Contains (resources_of e) y → (cb ≡ y) ⊎ Contains (flat_map resources_of (e ∷ cs)) y
        first (inl c) = inl (sym own.0 ∙ contains_one (cb_of e) y c)
        first (inr c) = inr (contains_before (resources_of e) (flat_map resources_of cs) y c)

    by : Contains (ids_in e) y ⊎ Contains (flat_map ids_in cs) y → (Contains (flat_map ids_in cs) y → (cb ≡ y) ⊎ Contains (flat_map resources_of cs) y) →
        (cb ≡ y) ⊎ Contains (flat_map resources_of (e ∷ cs)) y
    by (inl c) more = one (subst (λ l. Contains l y) (command_ids e (λ z. some (sym own.0 ∙ z))) c)
    by (inr c) more = elim (more c) [ inl same ↦ inl same | inr c ↦ inr (contains_behind (resources_of e) (flat_map resources_of cs) y c) ]

names_resources : (cb : ℕ) (cs : List Event) (y : ℕ) → (cb ≡ 0 → ⊥) → AllByRecursion (λ c. cb_of c ≡ cb) cs → Contains (flat_map resources_of cs) y → Contains (flat_map ids_in cs) y
names_resources cb [] y some own c = absurd (contains_none y c)
names_resources cb (e ∷ cs) y some own c = by (contains_split (resources_of e) (flat_map resources_of cs) y c) (names_resources cb cs y some own.1)
  where
    by : Contains (resources_of e) y ⊎ Contains (flat_map resources_of cs) y → (Contains (flat_map resources_of cs) y → Contains (flat_map ids_in cs) y) → Contains (flat_map ids_in (e ∷ cs)) y
    by (inl c) more =
        contains_before (ids_in e) (flat_map ids_in cs) y
        (subst (λ l. Contains l y) (sym (command_ids e (λ z. some (sym own.0 ∙ z)))) (contains_later (cb_of e) (resources_of e) y c))
    by (inr c) more = contains_behind (ids_in e) (flat_map ids_in cs) y (more c)

-- ---- what is bound, and under which window

-- the memory of a window is that of the binding
bound_memory : (v : View) (n y : ℕ) (o : Option Binding) → Contains (option_map_or (λ w. memory_of w.place) (bound_window v n o) []) y →
    (b : Binding) × (o ≡ Some b) × (b.memory ≡ y) × (is_live v kind.Memory b.memory ≡ true) × (is_some (bound_window v n o) ≡ true)
bound_memory v n y None c = absurd (contains_none y c)
bound_memory v n y (Some b) c = by (is_live v kind.Memory b.memory) refl c
  where
    shown : Bool → Option Window
    shown t = if t then Some (record { place = place.Memory b.memory; offset = b.offset; length = n }) else None

    by : (t : Bool) → is_live v kind.Memory b.memory ≡ t → Contains (option_map_or (λ w. memory_of w.place) (shown t) []) y →
        (q : Binding) × (Some b ≡ Some q) × (q.memory ≡ y) × (is_live v kind.Memory q.memory ≡ true) × (is_some (bound_window v n (Some b)) ≡ true)
    by true e c = (b, refl, contains_one b.memory y c, e, ap (λ t. is_some (shown t)) e)
    by false e c = absurd (contains_none y c)

-- and the other way round
memory_bound : (v : View) (n : ℕ) (b : Binding) → is_some (bound_window v n (Some b)) ≡ true →
    (is_live v kind.Memory b.memory ≡ true) × Contains (option_map_or (λ w. memory_of w.place) (bound_window v n (Some b)) []) b.memory
memory_bound v n b e = by (is_live v kind.Memory b.memory) refl (sym (ap (λ t. is_some (shown t)) refl) ∙ e)
  where
    shown : Bool → Option Window
    shown t = if t then Some (record { place = place.Memory b.memory; offset = b.offset; length = n }) else None

    by : (t : Bool) → is_live v kind.Memory b.memory ≡ t → is_some (shown (is_live v kind.Memory b.memory)) ≡ true →
        (is_live v kind.Memory b.memory ≡ true) × Contains (option_map_or (λ w. memory_of w.place) (bound_window v n (Some b)) []) b.memory
    by true is e = (is, subst (λ t. Contains (option_map_or (λ w. memory_of w.place) (shown t) []) b.memory) (sym is) (contains_here b.memory []))
    by false is e = absurd (both_ways (is_some (shown (is_live v kind.Memory b.memory))) (ap (λ t. is_some (shown t)) is) e)

-- what holds of all holds of each
held : {X : Type 0} (P : X → Type 0) (xs : List X) (x : X) → AllByRecursion P xs → Contains xs x → P x
held P [] x a c = absurd (contains_none x c)
held P (y ∷ ys) x a c = elim (contains_split (y ∷ []) ys x c) [ inl c ↦ subst P (contains_one y x c) a.0 | inr c ↦ held P ys x a.1 c ]

module _ (v : View) (h : IsLawful v []) where
  -- ---- kept buffers

  kept_owner : (cb : ℕ) → is_kept (v.buffer cb).state ≡ true → is_live v kind.CommandBuffer cb ≡ true
  kept_owner cb e = (h.buffers).owner cb e

  not_zero : (cb : ℕ) → is_kept (v.buffer cb).state ≡ true → cb ≡ 0 → ⊥
  not_zero cb e z =
      both_ways (is_live v kind.CommandBuffer cb)
      (ap (λ l. passes (λ o. kind_number (kind_of o.detail) == 9) l) (ap v.live z ∙ (h.objects).zero)) (kept_owner cb e)

  own_commands : (cb : ℕ) → is_kept (v.buffer cb).state ≡ true → AllByRecursion (λ c. cb_of c ≡ cb) (v.buffer cb).commands
  own_commands cb e = all_along (IsCommandOf (base v) cb) (λ c. cb_of c ≡ cb) (λ c is. is.0) (v.buffer cb).commands ((h.buffers).commands cb e)

  resource_live : (cb r : ℕ) → is_kept (v.buffer cb).state ≡ true → Contains (flat_map resources_of (v.buffer cb).commands) r → is_some (v.live r) ≡ true
  resource_live cb r e c =
      let usable = held (λ r. is_usable v r ≡ true) (flat_map resources_of (v.buffer cb).commands) r
      (all_into_flat (λ r. is_usable v r ≡ true) resources_of (v.buffer cb).commands (kept_usable v h.buffers cb e)) c in
      ap is_some (usable_live v r usable).1

  -- ---- images of a swapchain

  image_live : (x y : ℕ) → Contains (fetched v x) y → is_some (v.live y) ≡ true
  image_live x y c =
      held (λ y. is_some (v.live y) ≡ true) (fetched v x) y
      (all_flat_map (λ y. is_some (v.live y) ≡ true) _
      (λ k. all_filter (λ y. is_some (v.live y) ≡ true) _
      (λ z e. let o = live_of_kind v (λ o. o.parent == x && has_index k o.detail) z e in ap is_some o.1) v.ids) (range_with_len 0 (images_in v x))) c

  none_fetched : (x : ℕ) → images_in v x ≡ 0 → fetched v x ≡ []
  none_fetched x e = ap (λ n. flat_map (λ k. filter (is_one v (λ o. o.parent == x && has_index k o.detail)) v.ids) (range_with_len 0 n)) e

  -- ---- by the parameters of the object

  module _ (x p : ℕ) where
    abbrev of : Detail → Object
    of d = record { parent = p; detail = d }

    usable_by : (d : Detail) → v.live x ≡ Some (of d) → is_usable v x ≡ is_some (detail_window v x d)
    usable_by d e = ap (λ (l : Option Object). is_some (option_and_then (λ o. detail_window v x o.detail) l)) e

    -- the memory of its window is that to which it is bound
    window_memory : (y : ℕ) (d : Detail) → v.live x ≡ Some (of d) → Contains (option_map_or (λ w. memory_of w.place) (detail_window v x d) []) y → StandsBy v x y
    window_memory y (a_buffer size usage) e c =
        let b = bound_memory v size y (v.bound x) c in
        StandsBy.by_memory b.0 (usable_by (a_buffer size usage) e ∙ b.4) b.1 b.2
    window_memory y (an_image format width height usage None) e c =
        let b = bound_memory v (image_size format width height) y (v.bound x) c in
        StandsBy.by_memory b.0 (usable_by (an_image format width height usage None) e ∙ b.4) b.1 b.2
    window_memory y (an_image format width height usage (Some index)) e c = absurd (contains_none y c)
    window_memory y _ e c = absurd (contains_none y c)

    -- and the other way round
    memory_in : (b : Binding) (d : Detail) → v.live x ≡ Some (of d) → is_some (detail_window v x d) ≡ true → v.bound x ≡ Some b →
        (is_live v kind.Memory b.memory ≡ true) × Contains (option_map_or (λ w. memory_of w.place) (detail_window v x d) []) b.memory
    memory_in b (a_buffer size usage) e u at =
        subst (λ o. (is_live v kind.Memory b.memory ≡ true) × Contains (option_map_or (λ w. memory_of w.place) (bound_window v size o) []) b.memory) (sym at)
        (memory_bound v size b (ap (λ o. is_some (bound_window v size o)) (sym at) ∙ u))
    memory_in b (an_image format width height usage None) e u at =
        let n = image_size format width height in
        subst (λ o. (is_live v kind.Memory b.memory ≡ true) × Contains (option_map_or (λ w. memory_of w.place) (bound_window v n o) []) b.memory) (sym at)
        (memory_bound v n b (ap (λ o. is_some (bound_window v n o)) (sym at) ∙ u))
    memory_in b (an_image format width height usage (Some index)) e u at =
        let none = (h.objects).unbound x (of (an_image format width height usage (Some index))) e refl in absurd (cc)
    memory_in b _ e u at = absurd (cc)

    -- what is linked with it
    link_stands : (y : ℕ) (d : Detail) → v.live x ≡ Some (of d) → Contains (linked v x d) y → (x ≡ y) ⊎ StandsBy v x y
    link_stands y (a_swapchain surface images format width height usage) e c =
        elim (contains_split (surface ∷ []) (fetched v x) y c) [
          | inl c ↦ inr (StandsBy.by_surface (ap (λ l. option_map_or (λ (o : Object). surface_of o.detail) l None) e ∙ ap Some (contains_one surface y c)))
          | inr c ↦ inr (StandsBy.by_image c)
        ]
    link_stands y a_command_buffer e c = by (is_kept (v.buffer x).state) refl c
      where
        by : (t : Bool) → is_kept (v.buffer x).state ≡ t → Contains (if t then flat_map ids_in (v.buffer x).commands else []) y → (x ≡ y) ⊎ StandsBy v x y
        by true k c = elim (commands_name x (v.buffer x).commands y (not_zero x k) (own_commands x k) c) [ inl same ↦ inl same | inr c ↦ inr (StandsBy.by_resource k c) ]
        by false k c = absurd (contains_none y c)
    link_stands y _ e c = absurd (contains_none y c)

    surface_linked : (y : ℕ) (d : Detail) → v.live x ≡ Some (of d) → surface_of d ≡ Some y → Contains (linked v x d) y × (is_some (v.live y) ≡ true)
    surface_linked y (a_swapchain surface images format width height usage) e is =
        let same : surface ≡ y = cc in
        let there = (h.objects).surface x surface (of (a_swapchain surface images format width height usage)) e (eq-eqb surface surface refl) in
        let o = live_of_kind v (λ o. kind_number (kind_of o.detail) == 2) surface there.0 in (
          subst (Contains (surface ∷ fetched v x)) same (contains_here surface (fetched v x)),
          subst (λ y. is_some (v.live y) ≡ true) same (ap is_some o.1),
        )
    surface_linked y _ e is = absurd (cc)

    image_linked : (y : ℕ) (d : Detail) → v.live x ≡ Some (of d) → Contains (fetched v x) y → Contains (linked v x d) y
    image_linked y (a_swapchain surface images format width height usage) e c = contains_later surface (fetched v x) y c
    image_linked y _ e c =
        absurd (contains_none y (subst (λ l. Contains l y) (none_fetched x (ap (λ l. option_map_or (λ (o : Object). detail_images o.detail) l 0) e)) c))

    resource_linked : (y : ℕ) (d : Detail) → v.live x ≡ Some (of d) → is_kept (v.buffer x).state ≡ true → Contains (flat_map resources_of (v.buffer x).commands) y → Contains (linked v x d) y
    resource_linked y a_command_buffer e k c =
        subst (λ t. Contains (if t then flat_map ids_in (v.buffer x).commands else []) y) (sym k) (names_resources x (v.buffer x).commands y (not_zero x k) (own_commands x k) c)
    resource_linked y _ e k c = let is = kept_owner x k in absurd (cc)

    -- what a live object leads to
    grounds_are : (d : Detail) → v.live x ≡ Some (of d) → grounds v x ≡ (p ∷ []) ++ memory_under v x ++ linked v x d
    grounds_are d e = ap (λ l. option_map_or (λ (o : Object). (o.parent ∷ []) ++ memory_under v x ++ linked v x o.detail) l []) e

    under_is : (d : Detail) → v.live x ≡ Some (of d) → memory_under v x ≡ option_map_or (λ w. memory_of w.place) (detail_window v x d) []
    under_is d e = ap (λ (l : Option Object). option_map_or (λ w. memory_of w.place) (option_and_then (λ o. detail_window v x o.detail) l) []) e

    parent_is : (d : Detail) → v.live x ≡ Some (of d) → parent_of v x ≡ p
    parent_is d e = ap (λ l. option_map_or (λ (o : Object). o.parent) l 0) e

    -- each that is live has its reason
    lead_stands : (y : ℕ) (d : Detail) → v.live x ≡ Some (of d) → is_some (v.live y) ≡ true → Contains (grounds v x) y → (x ≡ y) ⊎ StandsBy v x y
    lead_stands y d e live c = last (contains_split ((p ∷ []) ++ memory_under v x) (linked v x d) y (subst (λ l. Contains l y) (grounds_are d e) c))
      where
        first : Contains (p ∷ []) y ⊎ Contains (memory_under v x) y → StandsBy v x y
        first (inl c) =
            let same : parent_of v x ≡ y = parent_is d e ∙ contains_one p y c in
            StandsBy.by_parent (ap (λ y. is_some (v.live y)) same ∙ live) same
        first (inr c) = window_memory y d e (subst (λ l. Contains l y) (under_is d e) c)

        last : Contains ((p ∷ []) ++ memory_under v x) y ⊎ Contains (linked v x d) y → (x ≡ y) ⊎ StandsBy v x y
        last (inl c) = inr (first (contains_split (p ∷ []) (memory_under v x) y c))
        last (inr c) = link_stands y d e c

    -- and each on which it stands is live, and is led to
    stand_leads : (y : ℕ) (d : Detail) → v.live x ≡ Some (of d) → StandsBy v x y → (is_some (v.live y) ≡ true) × Contains (grounds v x) y
    stand_leads y d e s = let r = by s in (r.0, subst (λ l. Contains l y) (sym (grounds_are d e)) r.1)
      where
        linked_last : Contains (linked v x d) y → Contains ((p ∷ []) ++ memory_under v x ++ linked v x d) y
        linked_last c = contains_behind ((p ∷ []) ++ memory_under v x) (linked v x d) y c

        by : StandsBy v x y → (is_some (v.live y) ≡ true) × Contains ((p ∷ []) ++ memory_under v x ++ linked v x d) y
        by (StandsBy.by_parent live same) = (
          ap (λ y. is_some (v.live y)) (sym same) ∙ live,
          contains_before ((p ∷ []) ++ memory_under v x) (linked v x d) y (contains_before (p ∷ []) (memory_under v x) y (subst (Contains (p ∷ [])) (sym (parent_is d e) ∙ same) (contains_here p []))),
        )
        by (StandsBy.by_memory b usable at same) =
            let m = memory_in b d e (sym (usable_by d e) ∙ usable) at in
            let o = live_of_kind v (λ o. kind_number (kind_of o.detail) == 5) b.memory m.0 in (
              subst (λ y. is_some (v.live y) ≡ true) same (ap is_some o.1),
              contains_before ((p ∷ []) ++ memory_under v x) (linked v x d) y (contains_behind (p ∷ []) (memory_under v x) y
                  (subst (λ l. Contains l y) (sym (under_is d e)) (subst (Contains (option_map_or (λ w. memory_of w.place) (detail_window v x d) [])) same m.1))),
            )
        by (StandsBy.by_surface is) =
            let s = surface_linked y d e (sym (ap (λ l. option_map_or (λ (o : Object). surface_of o.detail) l None) e) ∙ is) in
            (s.1, linked_last s.0)
        by (StandsBy.by_image c) = (image_live x y c, linked_last (image_linked y d e c))
        by (StandsBy.by_resource k c) = (resource_live x y k c, linked_last (resource_linked y d e k c))

  -- what a live object depends on is live, and it is what it leads to, but for itself
  pub leads_to : (x y : ℕ) → is_some (v.live x) ≡ true → is_some (v.live y) ≡ true → Contains (grounds v x) y → (x ≡ y) ⊎ Contains (stands_on v x) y
  leads_to x y live there c = by (v.live x) refl live
    where
      by : (l : Option Object) → v.live x ≡ l → is_some l ≡ true → (x ≡ y) ⊎ Contains (stands_on v x) y
      by None e live = absurd (cc)
      by (Some o) e live = elim (lead_stands x o.parent y o.detail e there c) [ inl same ↦ inl same | inr s ↦ inr (by_stands v x y s) ]

  pub led_to : (x y : ℕ) → is_some (v.live x) ≡ true → Contains (stands_on v x) y → (is_some (v.live y) ≡ true) × Contains (grounds v x) y
  led_to x y live c = by (v.live x) refl live
    where
      by : (l : Option Object) → v.live x ≡ l → is_some l ≡ true → (is_some (v.live y) ≡ true) × Contains (grounds v x) y
      by None e live = absurd (cc)
      by (Some o) e live = stand_leads x o.parent y o.detail e (stands_by v x y c)
