-- Images of swapchains are ready to be fetched.
use Rattle.std.proofs.Common.{◌≡◌, ℕ, ◌+◌, ◌<◌, Bool, true, false, refl, sym, ◌∙◌, ap, subst, List, [], ◌∷◌, ◌++◌, flat_map, length, Option, Some, None, cond, is_some, ◌&&◌, ◌==◌, nat_le, arith, inl, inr, ◌⊎◌, filter, zero, suc, ◌≤◌}
use Rattle.std.specs.List.{range_with_len}
use Rattle.std.proofs.lemmas.Bool.{eqb-true, both_ways, and_parts, or_cases, and_from, eq-eqb, eqb-false}
use Rattle.gfx_types.specs.declared.names.Kind.TheVariants as kind
use Rattle.gfx_model.specs.Steps.{Object, Detail, kind_of, kind_number}
use Rattle.gfx_model.specs.Steps.Step.{creates}
use Rattle.gfx_model.specs.Steps.Detail.{an_image, a_swapchain}
use Rattle.gfx_model.specs.Questions.{passes}
use Rattle.gfx_model.specs.Views.{View, has_index, is_one, is_live, fetched, images_in, format_at, width_of, height_of, usage_in, detail_format, detail_width, detail_height, detail_image_usage, detail_images}
use Rattle.gfx_model.specs.Checks.{new_faults, images_fault, is_among}
use Rattle.gfx_model.specs.Table.{is_positive}
use Rattle.gfx_types.specs.Names.{format_of}
use Rattle.gfx_model.specs.Effects.{fetches, first_fetch}
use Rattle.gfx_model.specs.After.{after}
use Rattle.gfx_model.proofs.Covered.{first_none, unless_none}
use Rattle.gfx_laws.specs.Lawful.{base, LawfulObjects, LawfulIds, Rivals, is_allowed}
use Rattle.gfx_laws.proofs.Ready.{AllReady, ReadyToCreate}
use Rattle.gfx_laws.proofs.MoreObjects.{with_object, split_create}
use Rattle.gfx_laws.proofs.Cases.{by_test}
use Rattle.gfx_laws.proofs.LastingChecks.{of_live}
use Rattle.gfx_laws.proofs.NewObjects.{is_new, stays_new, IsLater, later}

-- ---- fetched images

-- an image of a swapchain has parameters that a creation may have
allowed_image : (surface images format width height usage : ℕ) (index : Option ℕ) → is_allowed (a_swapchain surface images format width height usage) ≡ true → is_allowed (an_image format width height usage index) ≡ true
allowed_image surface images format width height usage index e =
    let both = and_parts _ (nat_le images 16 && nat_le width 4096 && nat_le height 4096) e in
    let fourth = and_parts (is_positive images && is_positive width && is_positive height && is_positive usage) (is_some (format_of format)) both.0 in
    let third = and_parts (is_positive images && is_positive width && is_positive height) (is_positive usage) fourth.0 in
    let second = and_parts (is_positive images && is_positive width) (is_positive height) third.0 in
    let first = and_parts (is_positive images) (is_positive width) second.0 in
    let limits = and_parts (nat_le images 16 && nat_le width 4096) (nat_le height 4096) both.1 in
    let limit = and_parts (nat_le images 16) (nat_le width 4096) limits.0 in
    and_from _ _ (and_from _ _ (and_from _ _ (and_from _ _ fourth.1 first.1) second.1) third.1) (and_from _ _ limit.1 limits.1)

-- each image of the swapchain has a lower index
abbrev pub IsBelow : View → ℕ → ℕ → Type 0
IsBelow u swapchain k = (x j : ℕ) (o : Object) → u.live x ≡ Some o → o.parent ≡ swapchain → has_index j o.detail ≡ true → j < k

-- the image at an index is new where all others have lower ones
new_image : (u : View) (swapchain k format width height usage : ℕ) → IsBelow u swapchain k →
    (x : ℕ) (o : Object) → u.live x ≡ Some o → Rivals (record { parent = swapchain; detail = an_image format width height usage (Some k) }) o → ⊥
new_image u swapchain k format width height usage below x o there (inl a) = let e : false ≡ true = a.0 in cc
new_image u swapchain k format width height usage below x o there (inr (inl a)) = let e : false ≡ true = a.1 in cc
new_image u swapchain k format width height usage below x o there (inr (inr a)) =
    let low = below x a.0 o there (sym a.3) a.2 in
    let same = eqb-true k a.0 a.1 in
    omega (arith, low, same)

below_next : (u : View) (x swapchain k format width height usage : ℕ) → IsBelow u swapchain k →
    IsBelow (with_object u x (record { parent = swapchain; detail = an_image format width height usage (Some k) })) swapchain (k + 1)
below_next u x swapchain k format width height usage below y j o e parent index =
    let new : Object = record { parent = swapchain; detail = an_image format width height usage (Some k) } in
    split_create (λ o. o.parent ≡ swapchain → has_index j o.detail ≡ true → j < k + 1) (x == y) (u.live y) new o
    (λ at parent index. let same = eqb-true k j index in omega (arith, same))
    (λ other was parent index. let low = below y j o was parent index in omega (arith, low))
    e parent index

fetches_ready : (v u : View) (swapchain k images : ℕ) (earlier xs : List ℕ) (parent surface format width height usage : ℕ) →
    u.live swapchain ≡ Some (record { parent = parent; detail = a_swapchain surface images format width height usage }) → v.used swapchain ≡ true →
    v.live swapchain ≡ Some (record { parent = parent; detail = a_swapchain surface images format width height usage }) →
    is_allowed (a_swapchain surface images format width height usage) ≡ true → k + length xs ≡ images → IsLater v u earlier → IsBelow u swapchain k →
    new_faults v earlier xs ≡ None → AllReady u (fetches v swapchain k xs)
unfolding after
fetches_ready v u swapchain k images earlier [] parent surface format width height usage there used was allowed count fresh below e = tt
fetches_ready v u swapchain k images earlier (x ∷ xs) parent surface format width height usage there used was allowed count fresh below e =
    let both = first_none _ _ e in
    let n = is_new v earlier x both.0 in
    let image : Detail = an_image (format_at v swapchain) (width_of v swapchain) (height_of v swapchain) (usage_in v swapchain) (Some k) in
    let wanted : Detail = an_image format width height usage (Some k) in
    let same : wanted ≡ image = ap (λ l. an_image (of_live detail_format l) (of_live detail_width l) (of_live detail_height l) (of_live detail_image_usage l) (Some k)) (sym was) in
    let one : ReadyToCreate (base u) x swapchain wanted = record {
      positive = n.positive;
      unused = fresh x n.unused n.elsewhere;
      parent = ap (passes (λ o. kind_number (kind_of o.detail) == 12)) there;
      image = record { parent = parent; surface = surface; images = images; is_live = there; in_range = omega arith };
      allowed = allowed_image surface images format width height usage (Some k) allowed;
      single = new_image u swapchain k format width height usage below;
      surface = λ s on. absurd (cc);
    } in (
      subst (ReadyToCreate (base u) x swapchain) same one,
      fetches_ready v (after u (creates x swapchain image)) swapchain (k + 1) images (x ∷ earlier) xs parent surface format width height usage
          (stays_new v u x swapchain (record { parent = swapchain; detail = image }) n.unused used ∙ there) used was allowed (omega arith)
          (later v u earlier x fresh)
          (below_next u x swapchain k (format_at v swapchain) (width_of v swapchain) (height_of v swapchain) (usage_in v swapchain) below) both.1,
    )

-- nothing passes where a filter keeps nothing
filter_none : (t : ℕ → Bool) (xs : List ℕ) (x : ℕ) → filter t xs ≡ [] → is_among x xs ≡ true → t x ≡ true → ⊥
filter_none t [] x f m e = cc
filter_none t (y ∷ ys) x f m e = by (t y) refl f (or_cases (y == x) (is_among x ys) m) (filter_none t ys x)
  where
    by : (b : Bool) → t y ≡ b → cond b (y ∷ filter t ys) (filter t ys) ≡ [] → ((y == x) ≡ true) ⊎ (is_among x ys ≡ true) → (filter t ys ≡ [] → is_among x ys ≡ true → t x ≡ true → ⊥) → ⊥
    by true k f m more = cc
    by false k f (inl same) more = both_ways (t y) k (ap t (eqb-true y x same) ∙ e)
    by false k f (inr rest) more = more f rest e

append_none : (xs ys : List ℕ) → xs ++ ys ≡ [] → (xs ≡ []) × (ys ≡ [])
append_none [] ys e = (refl, e)
append_none (x ∷ xs) ys e = absurd (cc)

-- no part is kept where all parts together are nothing
flat_none : (f : ℕ → List ℕ) (a n j : ℕ) → flat_map f (range_with_len a n) ≡ [] → a ≤ j → j < a + n → f j ≡ []
flat_none f a zero j e low high = absurd (omega arith)
flat_none f a (suc n) j e low high =
    let parts = append_none (f a) (flat_map f (range_with_len (a + 1) n)) e in
    by_test _ (a == j)
    (λ same. ap f (sym (eqb-true a j same)) ∙ parts.0)
    (λ other. let apart = eqb-false a j other in flat_none f (a + 1) n j parts.1 (omega arith) (omega arith))

-- a swapchain whose images aren't fetched has none
no_images : (v : View) → LawfulObjects (base v) → LawfulIds v.live v.ids → (swapchain : ℕ) → fetched v swapchain ≡ [] → IsBelow v swapchain 0
no_images v h ids swapchain none x j o there parent index = by o.parent o.detail there parent index
  where
    by : (p : ℕ) (d : Detail) → v.live x ≡ Some (record { parent = p; detail = d }) → p ≡ swapchain → has_index j d ≡ true → j < 0
    by p (an_image format width height usage (Some i)) live parent index =
        let image = h.fetched x (record { parent = p; detail = an_image format width height usage (Some i) }) live in
        let same = eqb-true i j index in
        let of : images_in v swapchain ≡ image.images = ap (images_in v) (sym parent) ∙ ap (of_live detail_images) image.is_live in
        let range = image.in_range in
        let inside : j < 0 + images_in v swapchain = omega (arith, range, same, of) in
        absurd (filter_none (is_one v (λ o. o.parent == swapchain && has_index j o.detail)) v.ids x
        (flat_none (λ k. filter (is_one v (λ o. o.parent == swapchain && has_index k o.detail)) v.ids) 0 (images_in v swapchain) j none (omega arith) inside)
        (ids.exact x ∙ ap is_some live)
        (ap (passes (λ o. o.parent == swapchain && has_index j o.detail)) live ∙ and_from _ _ (eq-eqb p swapchain parent) index))
    by p (an_image format width height usage None) live parent index = absurd (cc)
    by p _ live parent index = absurd (cc)

pub images_ready : (v : View) → LawfulObjects (base v) → LawfulIds v.live v.ids → (swapchain : ℕ) (ids before : List ℕ) → fetched v swapchain ≡ before → is_live v kind.Swapchain swapchain ≡ true → images_fault v (images_in v swapchain) before ids ≡ None →
    AllReady v (first_fetch before (fetches v swapchain 0 ids))
images_ready v h all swapchain ids (i ∷ before) none is_there e = tt
images_ready v h all swapchain ids [] none is_there e = by (v.live swapchain) refl is_there
  where
    both : (length ids == images_in v swapchain) ≡ true × (new_faults v [] ids ≡ None)
    both = let both = first_none _ _ e in let rest = first_none _ _ both.1 in (unless_none _ _ both.0, rest.0)

    by_detail : (p : ℕ) (d : Detail) → v.live swapchain ≡ Some (record { parent = p; detail = d }) → (kind_number (kind_of d) == 12) ≡ true → AllReady v (fetches v swapchain 0 ids)
    by_detail p (a_swapchain surface images format width height usage) live k =
        let o : Object = record { parent = p; detail = a_swapchain surface images format width height usage } in
        fetches_ready v v swapchain 0 images [] ids p surface format width height usage live (h.used swapchain o live) live (h.allowed swapchain o live)
        (let count : length ids ≡ images = eqb-true (length ids) (images_in v swapchain) both.0 ∙ ap (of_live detail_images) live in omega (arith, count))
        (λ x old among. old) (no_images v h all swapchain none) both.1
    by_detail p _ live k = absurd (cc)

    by : (l : Option Object) → v.live swapchain ≡ l → passes (λ o. kind_number (kind_of o.detail) == 12) l ≡ true → AllReady v (fetches v swapchain 0 ids)
    by None live k = absurd (cc)
    by (Some o) live k = by_detail o.parent o.detail live k
