-- The list of the fetched images of a swapchain.
use Rattle.std.proofs.Common.{◌≡◌, ℕ, zero, suc, ◌+◌, ◌<◌, Bool, true, false, refl, sym, ◌∙◌, ap, subst, List, [], ◌∷◌, ◌++◌, filter, flat_map, length, cond, is_some, ◌==◌, arith, ◌⊎◌, inl, inr}
use Rattle.std.specs.List.{AllByRecursion, range_with_len}
use Rattle.std.proofs.lemmas.Bool.{eqb-true, eq-eqb, and_parts, and_from, both_ways, or_cases, or_left, or_right, false_from_ne_true}
use Rattle.gfx_model.specs.Events.{Event}
use Rattle.gfx_model.specs.Questions.{passes}
use Rattle.gfx_model.specs.Checks.{is_among}
use Rattle.gfx_model.specs.Views.{View, is_one, has_index, fetched, images_in}
use Rattle.gfx_model.specs.History.{view, is_valid}
use Rattle.gfx_laws.specs.Lawful.{base, LawfulObjects, LawfulIds, IsRising}
use Rattle.gfx_laws.specs.Laws.{IsComplete, is_image_at, AreImagesFrom}
use Rattle.gfx_model.proofs.Lists.{all_flat_map}
use Rattle.gfx_laws.proofs.Cases.{by_test}
use Rattle.gfx_laws.proofs.MoreObjects.{live_of_kind}
use Rattle.gfx_laws.proofs.LawfulLimits.{not_among}
use Rattle.gfx_laws.proofs.SameFrames.{all_filter}
use Rattle.gfx_laws.proofs.Complete.{indexed_fetched, is_image_of, complete_history}
use Rattle.gfx_laws.proofs.ValidHistories.{lawful_history}

-- a filter that nothing passes
filter_nothing : (t : ℕ → Bool) (xs : List ℕ) → ((x : ℕ) → is_among x xs ≡ true → t x ≡ true → ⊥) → filter t xs ≡ []
filter_nothing t [] each = refl
filter_nothing t (x ∷ xs) each =
    let out : t x ≡ false = false_from_ne_true _ (each x (or_left (x == x) (is_among x xs) (eq-eqb x x refl))) in
    ap (λ b. cond b (x ∷ filter t xs) (filter t xs)) out ∙ filter_nothing t xs (λ y m. each y (or_right (x == y) (is_among y xs) m))

-- and one that one item passes alone
filter_one : (t : ℕ → Bool) (xs : List ℕ) (x : ℕ) → IsRising xs → is_among x xs ≡ true → t x ≡ true → ((y : ℕ) → t y ≡ true → y ≡ x) → filter t xs ≡ x ∷ []
filter_one t [] x r m e only = absurd (cc)
filter_one t (y ∷ ys) x r m e only =
    by_test _ (y == x)
    (λ same. let is = eqb-true y x same in
    ap (λ b. cond b (y ∷ filter t ys) (filter t ys)) (ap t is ∙ e)
    ∙ ap (λ l. y ∷ l) (filter_nothing t ys (λ z m pass. both_ways (is_among z ys) (subst (λ w. is_among w ys ≡ false) (is ∙ sym (only z pass)) (not_among y ys r.0)) m))
    ∙ ap (λ w. w ∷ []) is)
    (λ other. let out : t y ≡ false = false_from_ne_true _ (λ pass. both_ways (y == x) other (eq-eqb y x (only y pass))) in
    ap (λ b. cond b (y ∷ filter t ys) (filter t ys)) out
    ∙ filter_one t ys x r.1 (rest (or_cases (y == x) (is_among x ys) m) other) e only)
  where
    rest : ((y == x) ≡ true) ⊎ (is_among x ys ≡ true) → (y == x) ≡ false → is_among x ys ≡ true
    rest (inl same) other = absurd (both_ways (y == x) other same)
    rest (inr more) other = more

-- images that are each the one at its index
by_index : (v : View) (swapchain : ℕ) (f : ℕ → List ℕ) (a n : ℕ) → ((k : ℕ) → k < a + n → (x : ℕ) × (f k ≡ x ∷ []) × (passes (is_image_at swapchain k) (v.live x) ≡ true)) →
    (length (flat_map f (range_with_len a n)) ≡ n) × AreImagesFrom v swapchain a (flat_map f (range_with_len a n))
by_index v swapchain f a zero each = (refl, tt)
by_index v swapchain f a (suc n) each =
    let one = each a (omega arith) in
    let rest = by_index v swapchain f (a + 1) n (λ k below. each k (omega arith)) in
    let more = flat_map f (range_with_len (a + 1) n) in
    let count = rest.0 in (
      ap (λ l. length (l ++ more)) one.1 ∙ (let e : length (one.0 ∷ more) ≡ suc n = omega (arith, count) in e),
      subst (λ l. AreImagesFrom v swapchain a (l ++ more)) (sym one.1) (one.2, rest.1),
    )

-- the one image at an index
image_one : (v : View) → LawfulObjects (base v) → LawfulIds v.live v.ids → (swapchain k y : ℕ) → passes (is_image_at swapchain k) (v.live y) ≡ true → filter (is_one v (is_image_at swapchain k)) v.ids ≡ y ∷ []
image_one v h ids swapchain k y e =
    let at = live_of_kind v (is_image_at swapchain k) y e in
    filter_one (is_one v (is_image_at swapchain k)) v.ids y ids.rising (ids.exact y ∙ ap is_some at.1) e
    (λ z pass.
    let there = live_of_kind v (is_image_at swapchain k) z pass in
    let a = and_parts ((there.0).parent == swapchain) (has_index k (there.0).detail) (ap (passes (is_image_at swapchain k)) (sym there.1) ∙ pass) in
    let b = and_parts ((at.0).parent == swapchain) (has_index k (at.0).detail) (ap (passes (is_image_at swapchain k)) (sym at.1) ∙ e) in
    h.single z y there.0 at.0 there.1 at.1 (inr (inr (k, a.1, b.1, eqb-true (there.0).parent swapchain a.0 ∙ sym (eqb-true (at.0).parent swapchain b.0)))))

-- each that is listed is an image of the swapchain
listed : (v : View) (swapchain : ℕ) → AllByRecursion (λ x. passes (is_image_of swapchain) (v.live x) ≡ true) (fetched v swapchain)
listed v swapchain =
    all_flat_map (λ x. passes (is_image_of swapchain) (v.live x) ≡ true) _
    (λ k. all_filter (λ x. passes (is_image_of swapchain) (v.live x) ≡ true) (is_one v (is_image_at swapchain k)) (λ x e.
    let at = live_of_kind v (is_image_at swapchain k) x e in
    let parts = and_parts ((at.0).parent == swapchain) (has_index k (at.0).detail) (ap (passes (is_image_at swapchain k)) (sym at.1) ∙ e) in
    ap (passes (is_image_of swapchain)) at.1 ∙ and_from _ _ parts.0 (indexed_fetched k (at.0).detail parts.1)) v.ids)
    (range_with_len 0 (images_in v swapchain))

fetched_list : (v : View) → LawfulObjects (base v) → LawfulIds v.live v.ids → IsComplete v → (swapchain : ℕ) →
    (fetched v swapchain ≡ []) ⊎ ((length (fetched v swapchain) ≡ images_in v swapchain) × AreImagesFrom v swapchain 0 (fetched v swapchain))
fetched_list v h ids c swapchain = by (fetched v swapchain) refl (listed v swapchain)
  where
    all_of_them : (x : ℕ) → passes (is_image_of swapchain) (v.live x) ≡ true → (length (fetched v swapchain) ≡ images_in v swapchain) × AreImagesFrom v swapchain 0 (fetched v swapchain)
    all_of_them x e =
        by_index v swapchain (λ k. filter (is_one v (is_image_at swapchain k)) v.ids) 0 (images_in v swapchain)
        (λ k below. let found = c swapchain x k e (omega arith) in (found.0, image_one v h ids swapchain k found.0 found.1, found.1))

    by : (xs : List ℕ) → fetched v swapchain ≡ xs → AllByRecursion (λ x. passes (is_image_of swapchain) (v.live x) ≡ true) xs →
        (fetched v swapchain ≡ []) ⊎ ((length (fetched v swapchain) ≡ images_in v swapchain) × AreImagesFrom v swapchain 0 (fetched v swapchain))
    by [] is a = inl is
    by (x ∷ xs) is a = inr (all_of_them x a.0)

pub fetched_history : (h : List Event) → is_valid h ≡ true → (swapchain : ℕ) →
    (fetched (view h) swapchain ≡ []) ⊎ ((length (fetched (view h) swapchain) ≡ images_in (view h) swapchain) × AreImagesFrom (view h) swapchain 0 (fetched (view h) swapchain))
fetched_history h valid = let l = lawful_history h valid in fetched_list (view h) l.objects l.ids (complete_history h valid)
