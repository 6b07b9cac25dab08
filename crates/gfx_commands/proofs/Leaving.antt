-- The layouts in which a buffer leaves images, as its uses tell them.
use Rattle.std.proofs.Common.{◌≡◌, ℕ, ◌==◌, Bool, true, false, ◌&&◌, ◌||◌, List, [], ◌∷◌, ◌++◌, Option, Some, None, is_some, unwrap_or, refl, ap, sym, ◌∙◌, suc, arith, if◌then◌else◌}
use Rattle.std.specs.List.{AllByRecursion}
use Rattle.std.specs.Ordering.{nat_cmp}
use Rattle.std.specs.FinMap as map
use Rattle.std.specs.FinMap.{FinMap}
use Rattle.std.proofs.lemmas.Bool.Decides.{nat_tests}
use Rattle.std.proofs.lemmas.List.Folds.{list_any-append}
use Rattle.gfx_types.specs.declared.names.Kind.TheVariants as kind
use Rattle.gfx_table.specs.Dense.{is_listed}
use Rattle.gfx_table.specs.Rows.{got-insert}
use Rattle.gfx_model.specs.Steps.{Object, kind_of, kind_number}
use Rattle.gfx_model.specs.Steps.Step.{changes}
use Rattle.gfx_model.specs.Steps.Change.{set_layout}
use Rattle.gfx_model.specs.Questions.{passes}
use Rattle.gfx_model.specs.Views.{View, is_live}
use Rattle.gfx_model.specs.Checks.{Layouts, layouts_after, but}
use Rattle.gfx_model.specs.Checks.Layouts.{stays, goes}
use Rattle.gfx_model.specs.After.{after, is_alive}
use Rattle.gfx_objects.specs.Objects.{Kept, answers}
use Rattle.gfx_commands.specs.declared.uses.Use.{Use}
use Rattle.gfx_commands.specs.Laid.{laid_by, left_after, left_by}
use Rattle.gfx_commands.specs.Uses.{IsIndex, plain, use_of}
use Rattle.gfx_commands.specs.Differing.{SetsLive}

-- ---- the layout of a live image

-- to set it changes that layout, and nothing else once an effect was taken
pub set_live : (v : View) (i l : ℕ) → v.is_empty ≡ false → is_live v kind.Image i ≡ true → after v (changes (set_layout i l)) ≡ record v { layout = but i l v.layout }
unfolding after
set_live v i l began live =
    ap (λ f. record v { layout = f; is_empty = false }) (λ j x. each x j)
    ∙ ap (λ b. record v { layout = but i l v.layout; is_empty = b }) (sym began)
  where
    alive : (o : Option Object) → passes (λ o. kind_number (kind_of o.detail) == 7) o ≡ true → is_some o ≡ true
    alive None e = absurd cc
    alive (Some o) e = refl

    there : (x : ℕ) → i ≡ x → is_alive v x ≡ true
    there x same = ap (is_alive v) (sym same) ∙ alive (v.live i) live

    each : (x : ℕ) → (if i == x && is_alive v x then l else v.layout x) ≡ but i l v.layout x
    each x = let at = there x in grind (arith, nat_tests, at)

other_layout : (v : View) (i l x : ℕ) (layout : ℕ → ℕ) → is_live v kind.Image i ≡ true → is_live v kind.Image x ≡ false → but i l layout x ≡ layout x
other_layout v i l x layout live dead =
    let same : i ≡ x → is_live v kind.Image i ≡ is_live v kind.Image x = ap (is_live v kind.Image) in
    grind (arith, nat_tests, live, dead, same)

dead_stays : (v : View) (asks : List Layouts) → AllByRecursion (SetsLive v) asks → (x : ℕ) → is_live v kind.Image x ≡ false → (layout : ℕ → ℕ) → layouts_after layout asks x ≡ layout x
dead_stays v [] live x dead layout = refl
dead_stays v (stays i l ∷ asks) live x dead layout = dead_stays v asks live.1 x dead layout
dead_stays v (goes i before l ∷ asks) live x dead layout = dead_stays v asks live.1 x dead (but i l layout) ∙ other_layout v i l x layout live.0 dead

module _ (uses : FinMap nat_cmp Use) (agrees : Bool) (named : List ℕ) (asks : List Layouts) (index : IsIndex uses agrees named asks) where
  pub left_live : (v : View) → AllByRecursion (SetsLive v) asks → (x l : ℕ) → (use_of uses x).left ≡ Some l → is_live v kind.Image x ≡ true
  left_live v live x l left = by (is_live v kind.Image x) refl
    where
      by : (t : Bool) → is_live v kind.Image x ≡ t → t ≡ true
      by true e = refl
      by false e =
          let set = index.left (λ y. suc l) x ∙ ap (λ o. unwrap_or o (suc l)) left in
          let kept = dead_stays v asks live x e (λ y. suc l) in
          absurd (omega (arith, set, kept))

-- ---- one image more

module _ (uses : FinMap nat_cmp Use) (layout : ℕ → ℕ) (ids : List ℕ) (i : ℕ) where
  listed_more : (x : ℕ) → is_listed x (ids ++ i ∷ []) ≡ (is_listed x ids || i == x)
  listed_more x = let all = list_any-append (λ y. y == x) ids (i ∷ []) in grind (arith, nat_tests, all)

  pub none_more : (use_of uses i).left ≡ None → left_by uses layout ids ≡ left_by uses layout (ids ++ i ∷ [])
  none_more none = λ j x. each x j
    where
      here : (x : ℕ) → i ≡ x → unwrap_or (use_of uses x).left (layout x) ≡ layout x
      here x same = ap (λ y. unwrap_or (use_of uses y).left (layout x)) (sym same) ∙ ap (λ o. unwrap_or o (layout x)) none

      each : (x : ℕ) → left_by uses layout ids x ≡ left_by uses layout (ids ++ i ∷ []) x
      each x = let more = listed_more x in let at = here x in grind (arith, nat_tests, more, at)

  pub some_more : (l : ℕ) → (use_of uses i).left ≡ Some l → but i l (left_by uses layout ids) ≡ left_by uses layout (ids ++ i ∷ [])
  some_more l left = λ j x. each x j
    where
      here : (x : ℕ) → i ≡ x → unwrap_or (use_of uses x).left (layout x) ≡ l
      here x same = ap (λ y. unwrap_or (use_of uses y).left (layout x)) (sym same) ∙ ap (λ o. unwrap_or o (layout x)) left

      each : (x : ℕ) → but i l (left_by uses layout ids) x ≡ left_by uses layout (ids ++ i ∷ []) x
      each x = let more = listed_more x in let at = here x in grind (arith, nat_tests, more, at)

  pub one_more : (v : View) (l : ℕ) → v.is_empty ≡ false → is_live v kind.Image i ≡ true → (use_of uses i).left ≡ Some l →
      after (record v { layout = left_by uses layout ids }) (changes (set_layout i l)) ≡ record v { layout = left_by uses layout (ids ++ i ∷ []) }
  one_more v l began live left = set_live (record v { layout = left_by uses layout ids }) i l began live ∙ ap (λ f. record v { layout = f }) (some_more l left)

-- ---- all images

-- once those of all images with uses were set
pub left_all : (uses : FinMap nat_cmp Use) (layout : ℕ → ℕ) (ids : List ℕ) → ((x : ℕ) → is_listed x ids ≡ is_some (map.get uses x)) → left_by uses layout ids ≡ left_after uses layout
left_all uses layout ids all = λ j x. each x j
  where
    by : (o : Option Use) (x : ℕ) → map.get uses x ≡ o → is_some o ≡ false → (use_of uses x).left ≡ None
    by None x e none = ap (λ o. (unwrap_or o plain).left) e
    by (Some u) x e none = absurd cc

    each : (x : ℕ) → left_by uses layout ids x ≡ left_after uses layout x
    each x = split (is_listed x ids) refl
      where
        split : (t : Bool) → is_listed x ids ≡ t → (if t then left_after uses layout x else layout x) ≡ left_after uses layout x
        split true e = refl
        split false e = sym (ap (λ o. unwrap_or o (layout x)) (by (map.get uses x) x refl (sym (all x) ∙ e)))

-- they are the layouts after its commands
pub left_whole : (uses : FinMap nat_cmp Use) (agrees : Bool) (named : List ℕ) (asks : List Layouts) → IsIndex uses agrees named asks → (layout : ℕ → ℕ) → left_after uses layout ≡ layouts_after layout asks
left_whole uses agrees named asks index layout = λ j x. sym (index.left layout x) j

-- a layout that is set is that of its image
pub laid_insert : (set : FinMap nat_cmp ℕ) (i l : ℕ) (layout : ℕ → ℕ) → laid_by (map.insert set i l) layout ≡ but i l (laid_by set layout)
laid_insert set i l layout = λ j x. each x j
  where
    each : (x : ℕ) → laid_by (map.insert set i l) layout x ≡ but i l (laid_by set layout) x
    each x = let got = ap (λ f. f x) (got-insert set i l) in grind (arith, nat_tests, got)

-- ---- the answers that objects give alone

pub answers_began : (k : Kept) → (answers k).is_empty ≡ false
unfolding answers
answers_began k = refl
