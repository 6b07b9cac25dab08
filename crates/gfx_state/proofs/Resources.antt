-- Bindings and layouts of resources, as rows and as events.
use Rattle.std.proofs.Common.{◌≡◌, ◌≢◌, ℕ, ◌==◌, Bool, true, false, not, ◌&&◌, [], ◌∷◌, Option, Some, None, refl, ap, arith}
use Rattle.std.specs.Prelude.{option_and_then, if◌then◌else◌}
use Rattle.std.specs.Option.{option_map_or}
use Rattle.std.specs.FinMap as map
use Rattle.std.proofs.lemmas.Bool.Decides.{nat_tests}
use Rattle.gfx_model.specs.Events.{Event}
use Rattle.gfx_model.specs.Events.Event.{InitImage}
use Rattle.gfx_model.specs.Questions.{Binding}
use Rattle.gfx_model.specs.Views.{View, is_usable}
use Rattle.gfx_model.specs.Section.{bind_event, layout_event, when}
use Rattle.gfx_objects.specs.declared.object.Object.{Object}
use Rattle.gfx_objects.specs.Object.{bound_of, mapped_of, layout_of}
use Rattle.gfx_objects.specs.Objects.{Kept, answers}
use Rattle.gfx_state.specs.Known.{plain}

-- ---- rows

pub bound_answered : (k : Kept) (x : ℕ) (o : Object) → map.get k.rows x ≡ Some o → (answers k).bound x ≡ bound_of o.detail
unfolding answers
bound_answered k x o row = ap (option_and_then (λ (o : Object). bound_of o.detail)) row

pub mapped_answered : (k : Kept) (x : ℕ) (o : Object) → map.get k.rows x ≡ Some o → (answers k).mapped x ≡ mapped_of o.detail
unfolding answers
mapped_answered k x o row = ap (option_and_then (λ (o : Object). mapped_of o.detail)) row

pub layout_answered : (k : Kept) (x : ℕ) (o : Object) → map.get k.rows x ≡ Some o → (answers k).layout x ≡ layout_of o.detail
unfolding answers
layout_answered k x o row = ap (λ q. option_map_or (λ (o : Object). layout_of o.detail) q 0) row

pub layout_nowhere : (k : Kept) (x : ℕ) → map.get k.rows x ≡ None → (answers k).layout x ≡ 0
unfolding answers
layout_nowhere k x none = ap (λ q. option_map_or (λ (o : Object). layout_of o.detail) q 0) none

-- ---- usable resources

module _ (v : View) (bind : ℕ → ℕ → Event) (x : ℕ) where
  pub bound_nowhere : (if is_usable v x then v.bound x else None) ≡ None → bind_event (plain v) bind x ≡ []
  bound_nowhere none = by (is_usable v x) (v.bound x) none
    where
      by : (t : Bool) (o : Option Binding) → (if t then o else None) ≡ None → when t (option_map_or (λ b. bind b.memory b.offset ∷ []) o []) ≡ []
      by false o none = refl
      by true None none = refl
      by true (Some b) none = absurd (cc)

  pub bound_there : (b : Binding) → (if is_usable v x then v.bound x else None) ≡ Some b → bind_event (plain v) bind x ≡ bind b.memory b.offset ∷ []
  bound_there b some = by (is_usable v x) (v.bound x) some
    where
      by : (t : Bool) (o : Option Binding) → (if t then o else None) ≡ Some b → when t (option_map_or (λ b. bind b.memory b.offset ∷ []) o []) ≡ bind b.memory b.offset ∷ []
      by false o some = absurd (cc)
      by true None some = absurd (cc)
      by true (Some a) some = let same : a ≡ b = cc in ap (λ (z : Binding). bind z.memory z.offset ∷ []) same

-- ---- layouts

pub layout_unusable : (v : View) (x : ℕ) → is_usable v x ≡ false → layout_event (plain v) x ≡ []
layout_unusable v x unusable = ap (λ t. when (t && not (v.layout x == 0)) (InitImage x (v.layout x) [] ∷ [])) unusable

pub layout_unset : (v : View) (x : ℕ) → v.layout x ≡ 0 → layout_event (plain v) x ≡ []
layout_unset v x unset =
    let none : is_usable v x && not (v.layout x == 0) ≡ false = grind (arith, nat_tests, unset) in
    ap (λ t. when t (InitImage x (v.layout x) [] ∷ [])) none

pub layout_there : (v : View) (x : ℕ) → is_usable v x ≡ true → v.layout x ≢ 0 → layout_event (plain v) x ≡ InitImage x (v.layout x) [] ∷ []
layout_there v x usable set =
    let yes : is_usable v x && not (v.layout x == 0) ≡ true = grind (arith, nat_tests, usable, set) in
    ap (λ t. when t (InitImage x (v.layout x) [] ∷ [])) yes
