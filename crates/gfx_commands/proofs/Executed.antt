-- The layouts that buffers leave, one buffer after the other.
use Rattle.std.proofs.Common.{◌≡◌, ℕ, ◌+◌, ◌-◌, ◌<◌, ◌≤◌, Bool, true, false, ◌&&◌, List, [], ◌∷◌, ◌++◌, length, take, get_or, Option, Some, unwrap_or, refl, ap, sym, ◌∙◌, subst, arith, append_assoc, append-nil}
use Rattle.std.specs.Prelude.{flat_map, slice_get, zero, suc}
use Rattle.std.proofs.Common.{add-one}
use Rattle.std.specs.Option.{option_map_or}
use Rattle.gfx_types.specs.declared.lists.Submit.{Submit}
use Rattle.gfx_model.specs.Questions.{Buffer}
use Rattle.gfx_model.specs.Checks.{layouts_after, meets}
use Rattle.gfx_model.specs.Layouts.{asked_in, cbs_at, executed_before, layouts_by}
use Rattle.gfx_commands.specs.Differing.{AreMet}
use Rattle.gfx_commands.proofs.Index.{layouts_after-append, meets-append}

-- ---- lists

flat_map-append : {X Y : Type 0} (f : X → List Y) (xs ys : List X) → flat_map f (xs ++ ys) ≡ flat_map f xs ++ flat_map f ys
flat_map-append f [] ys = refl
flat_map-append f (x ∷ xs) ys = ap (λ l. f x ++ l) (flat_map-append f xs ys) ∙ sym (append_assoc (f x) (flat_map f xs) (flat_map f ys))

module _ {X : Type 0} (x : X) where
  take_suc : (xs : List X) (n : ℕ) → slice_get xs n ≡ Some x → take (suc n) xs ≡ take n xs ++ x ∷ []
  take_suc [] n is = cc
  take_suc (y ∷ ys) zero is = ap (λ o. unwrap_or o y ∷ []) is
  take_suc (y ∷ ys) (suc n) is = ap (λ l. y ∷ l) (take_suc ys n is)

  pub take_next : (xs : List X) (n : ℕ) → slice_get xs n ≡ Some x → take (n + 1) xs ≡ take n xs ++ x ∷ []
  take_next xs n is = ap (λ k. take k xs) (add-one n) ∙ take_suc xs n is

pub get_at : {X : Type 0} (xs : List X) (n : ℕ) (x d : X) → n < length xs → x ≡ get_or xs n d → slice_get xs n ≡ Some x
get_at [] n x d h e = absurd (omega arith)
get_at (y ∷ ys) zero x d h e = ap Some (sym e)
get_at (y ∷ ys) (suc n) x d h e = get_at ys n x d (omega arith) e

-- ---- one buffer after the other

both_true : (a b : Bool) → (a && b) ≡ true → (a ≡ true) × (b ≡ true)
both_true true true e = (refl, refl)
both_true true false e = absurd cc
both_true false b e = absurd cc

-- the buffers of a submit, as they are read
pub part_of : (submits : List Submit) (submit : ℕ) (s : Submit) → slice_get submits submit ≡ Some s → (cbs : List ℕ) → cbs ≡ s.cbs → cbs_at submits submit ≡ cbs
part_of submits submit s here cbs is = ap (λ o. option_map_or (λ (s : Submit). s.cbs) o []) here ∙ sym is

abbrev cbs_of : List Submit → List ℕ
cbs_of submits = flat_map (λ (s : Submit). s.cbs) submits

-- the buffers of the first n + 1 submits
cbs_next : (submits : List Submit) (n : ℕ) (s : Submit) → slice_get submits n ≡ Some s → cbs_of (take (n + 1) submits) ≡ cbs_of (take n submits) ++ s.cbs
cbs_next submits n s at =
    ap cbs_of (take_next s submits n at) ∙ flat_map-append (λ (s : Submit). s.cbs) (take n submits) (s ∷ [])
    ∙ ap (λ l. cbs_of (take n submits) ++ l) (append-nil s.cbs)

take_whole : (xs : List ℕ) (n : ℕ) → length xs ≤ n → take n xs ≡ xs
take_whole [] zero h = refl
take_whole [] (suc n) h = refl
take_whole (x ∷ xs) zero h = absurd (omega arith)
take_whole (x ∷ xs) (suc n) h = ap (λ l. x ∷ l) (take_whole xs n (omega arith))

module _ (b : ℕ → Buffer) where
  by_append : (layout : ℕ → ℕ) (xs ys : List ℕ) → layouts_by b layout (xs ++ ys) ≡ layouts_by b (layouts_by b layout xs) ys
  by_append layout xs ys = ap (layouts_after layout) (flat_map-append (asked_in b) xs ys) ∙ layouts_after-append layout (flat_map (asked_in b) xs) (flat_map (asked_in b) ys)

  by_one : (layout : ℕ → ℕ) (cb : ℕ) → layouts_by b layout (cb ∷ []) ≡ layouts_after layout (asked_in b cb)
  by_one layout cb = ap (layouts_after layout) (append-nil (asked_in b cb))

  met_append : (layout : ℕ → ℕ) (xs ys : List ℕ)
      → meets layout (flat_map (asked_in b) (xs ++ ys)) ≡ (meets layout (flat_map (asked_in b) xs) && meets (layouts_by b layout xs) (flat_map (asked_in b) ys))
  met_append layout xs ys =
      ap (meets layout) (flat_map-append (asked_in b) xs ys) ∙ meets-append layout (flat_map (asked_in b) xs) (flat_map (asked_in b) ys)

  -- of buffers that meet their layouts the first ones do, and the others do after them
  met_parts : (layout : ℕ → ℕ) (xs ys : List ℕ) → AreMet b layout (xs ++ ys) → (AreMet b layout xs) × (AreMet b (layouts_by b layout xs) ys)
  met_parts layout xs ys met = both_true _ _ (sym (met_append layout xs ys) ∙ met)

  met_one : (layout : ℕ → ℕ) (cb : ℕ) → AreMet b layout (cb ∷ []) → meets layout (asked_in b cb) ≡ true
  met_one layout cb met = ap (meets layout) (sym (append-nil (asked_in b cb))) ∙ met

  -- the layouts after one more
  by_next : (layout : ℕ → ℕ) (xs : List ℕ) (cb : ℕ) → layouts_by b layout (xs ++ cb ∷ []) ≡ layouts_after (layouts_by b layout xs) (asked_in b cb)
  by_next layout xs cb = by_append layout xs (cb ∷ []) ∙ by_one (layouts_by b layout xs) cb

  -- one that meets its layouts after others that meet theirs
  met_more : (layout : ℕ → ℕ) (xs : List ℕ) (cb : ℕ) → AreMet b layout xs → meets (layouts_by b layout xs) (asked_in b cb) ≡ true → AreMet b layout (xs ++ cb ∷ [])
  met_more layout xs cb met one =
      met_append layout xs (cb ∷ []) ∙ ap (λ t. t && meets (layouts_by b layout xs) (asked_in b cb ++ [])) met
      ∙ ap (meets (layouts_by b layout xs)) (append-nil (asked_in b cb)) ∙ one

  -- the last buffer of the first n + 1 decides
  module _ (cbs : List ℕ) (n cb : ℕ) (at : slice_get cbs n ≡ Some cb) (layout : ℕ → ℕ) (met : AreMet b layout (take (n + 1) cbs)) where
    abbrev cut : AreMet b layout (take n cbs ++ cb ∷ [])
    cut = subst (AreMet b layout) (take_next cb cbs n at) met

    pub fewer_buffers : AreMet b layout (take n cbs)
    fewer_buffers = (met_parts layout (take n cbs) (cb ∷ []) cut).0

    pub last_buffer : (image : ℕ) (known : Option ℕ)
        → ((layout : ℕ → ℕ) → meets layout (asked_in b cb) ≡ true → layouts_after layout (asked_in b cb) image ≡ unwrap_or known (layout image))
        → layouts_by b layout (take (n + 1) cbs) image ≡ unwrap_or known (layouts_by b layout (take n cbs) image)
    last_buffer image known leaves =
        ap (λ l. layouts_by b layout l image) (take_next cb cbs n at)
        ∙ ap (λ f. f image) (by_append layout (take n cbs) (cb ∷ []))
        ∙ ap (λ f. f image) (by_one (layouts_by b layout (take n cbs)) cb)
        ∙ leaves (layouts_by b layout (take n cbs)) (met_one _ cb (met_parts layout (take n cbs) (cb ∷ []) cut).1)

  -- the last submit of the first n + 1 decides
  module _ (submits : List Submit) (n : ℕ) (s : Submit) (at : slice_get submits n ≡ Some s) (layout : ℕ → ℕ) (met : AreMet b layout (cbs_of (take (n + 1) submits))) where
    abbrev parts : (AreMet b layout (cbs_of (take n submits))) × (AreMet b (layouts_by b layout (cbs_of (take n submits))) s.cbs)
    parts = met_parts layout (cbs_of (take n submits)) s.cbs (subst (AreMet b layout) (cbs_next submits n s at) met)

    fewer_submits : AreMet b layout (cbs_of (take n submits))
    fewer_submits = parts.0

    last_submit : (image : ℕ) (known : Option ℕ)
        → ((layout : ℕ → ℕ) → AreMet b layout s.cbs → layouts_by b layout s.cbs image ≡ unwrap_or known (layout image))
        → layouts_by b layout (cbs_of (take (n + 1) submits)) image ≡ unwrap_or known (layouts_by b layout (cbs_of (take n submits)) image)
    last_submit image known leaves =
        ap (λ l. layouts_by b layout l image) (cbs_next submits n s at)
        ∙ ap (λ f. f image) (by_append layout (cbs_of (take n submits)) s.cbs)
        ∙ leaves (layouts_by b layout (cbs_of (take n submits))) parts.1

  -- of the submits up to `end` the last one decides, and those before it meet their layouts too
  pub one_submit_less : (submits : List Submit) (end : ℕ) (s : Submit) (layout : ℕ → ℕ) → 0 < end → end - 1 < length submits → s ≡ get_or submits (end - 1) s → AreMet b layout (cbs_of (take end submits)) →
      (cbs : List ℕ) → cbs ≡ s.cbs → (image : ℕ) (known : Option ℕ) → ((layout : ℕ → ℕ) → AreMet b layout cbs → layouts_by b layout cbs image ≡ unwrap_or known (layout image)) →
      (AreMet b layout (cbs_of (take (end - 1) submits))) × (layouts_by b layout (cbs_of (take end submits)) image ≡ unwrap_or known (layouts_by b layout (cbs_of (take (end - 1) submits)) image))
  one_submit_less submits end s layout some below is met cbs are image known leaves =
      let n = end - 1 in
      let next : end ≡ n + 1 = omega (arith, some) in
      let at = get_at submits n s s below is in
      let cut = subst (λ k. AreMet b layout (cbs_of (take k submits))) next met in (
        fewer_submits submits n s at layout cut,
        ap (λ k. layouts_by b layout (cbs_of (take k submits)) image) next
            ∙ last_submit submits n s at layout cut image known
            (subst (λ l. (layout : ℕ → ℕ) → AreMet b layout l → layouts_by b layout l image ≡ unwrap_or known (layout image)) are leaves),
      )

  -- the buffers before the place in its own submit decide
  module _ (submits : List Submit) (submit at : ℕ) (layout : ℕ → ℕ) (met : AreMet b layout (executed_before submits submit at)) where
    abbrev halves : (AreMet b layout (cbs_of (take submit submits))) × (AreMet b (layouts_by b layout (cbs_of (take submit submits))) (take at (cbs_at submits submit)))
    halves = met_parts layout (cbs_of (take submit submits)) (take at (cbs_at submits submit)) met

    pub submits_before : AreMet b layout (cbs_of (take submit submits))
    submits_before = halves.0

    pub last_part : (cbs : List ℕ) → cbs_at submits submit ≡ cbs → (image : ℕ) (known : Option ℕ)
        → ((layout : ℕ → ℕ) → AreMet b layout (take at cbs) → layouts_by b layout (take at cbs) image ≡ unwrap_or known (layout image))
        → layouts_by b layout (executed_before submits submit at) image ≡ unwrap_or known (layouts_by b layout (cbs_of (take submit submits)) image)
    last_part cbs are image known leaves =
        let before = layouts_by b layout (cbs_of (take submit submits)) in
        ap (λ f. f image) (by_append layout (cbs_of (take submit submits)) (take at (cbs_at submits submit)))
        ∙ ap (λ xs. layouts_by b before (take at xs) image) are
        ∙ leaves before (subst (λ xs. AreMet b before (take at xs)) are halves.1)

-- ---- one place more

-- behind the buffer at a place
executed_next : (submits : List Submit) (submit at cb : ℕ) → slice_get (cbs_at submits submit) at ≡ Some cb → executed_before submits submit (at + 1) ≡ executed_before submits submit at ++ cb ∷ []
executed_next submits submit at cb here =
    let before = cbs_of (take submit submits) in
    ap (λ l. before ++ l) (take_next cb (cbs_at submits submit) at here) ∙ sym (append_assoc before (take at (cbs_at submits submit)) (cb ∷ []))

-- behind all buffers of a submit
pub executed_whole : (submits : List Submit) (submit at : ℕ) (s : Submit) → slice_get submits submit ≡ Some s → length (cbs_at submits submit) ≤ at →
    executed_before submits submit at ≡ executed_before submits (submit + 1) 0
executed_whole submits submit at s here whole =
    let before = cbs_of (take submit submits) in
    ap (λ l. before ++ l) (take_whole (cbs_at submits submit) at whole ∙ part_of submits submit s here s.cbs refl)
    ∙ sym (cbs_next submits submit s here) ∙ sym (append-nil (cbs_of (take (submit + 1) submits)))

module _ (b : ℕ → Buffer) (layout : ℕ → ℕ) (submits : List Submit) (submit at : ℕ) where
  -- where the buffer at the place meets its layouts too
  pub place_more : AreMet b layout (executed_before submits submit at) → (cb : ℕ) → slice_get (cbs_at submits submit) at ≡ Some cb
      → meets (layouts_by b layout (executed_before submits submit at)) (asked_in b cb) ≡ true → AreMet b layout (executed_before submits submit (at + 1))
  place_more met cb here one = subst (AreMet b layout) (sym (executed_next submits submit at cb here)) (met_more b layout (executed_before submits submit at) cb met one)

  -- the layouts behind it
  pub laid_next : (cb : ℕ) → slice_get (cbs_at submits submit) at ≡ Some cb
      → layouts_by b layout (executed_before submits submit (at + 1)) ≡ layouts_after (layouts_by b layout (executed_before submits submit at)) (asked_in b cb)
  laid_next cb here = ap (layouts_by b layout) (executed_next submits submit at cb here) ∙ by_next b layout (executed_before submits submit at) cb
