-- What the rows and the tables beside them answer.
use Rattle.std.proofs.Common.{◌≡◌, ℕ, ◌≤◌, ◌==◌, ◌&&◌, Bool, true, false, List, [], ◌∷◌, length, nat_lt, Option, Some, None, is_some, if◌then◌else◌, refl, ap, sym, ◌∙◌, arith}
use Rattle.std.specs.Prelude.{sum_by, count_by, option_map, option_and_then, map as each}
use Rattle.std.specs.Option.{option_map_or}
use Rattle.std.specs.List.{list_any}
use Rattle.std.specs.Ordering.{nat_cmp}
use Rattle.std.specs.FinMap as map
use Rattle.std.specs.FinMap.{FinMap, len-entries, entries}
use Rattle.std.proofs.lemmas.List.Sums.{count_by-le-length}
use Rattle.std.proofs.lemmas.Bool.Decides.{nat_tests}
use Rattle.std.proofs.lemmas.Grind.{common_steps}
use Rattle.gfx_table.specs.Rows.{ids, total, total-by_ids}
use Rattle.gfx_model.specs.Steps.{Detail as Parameters}
use Rattle.gfx_model.specs.Steps.Detail.{an_instance, a_surface, a_device, a_queue, a_memory, a_buffer, an_image, a_pool, a_command_buffer, a_fence, a_semaphore, a_swapchain}
use Rattle.gfx_model.specs.Questions.{Binding, is_owned, passes, rests_on}
use Rattle.gfx_model.specs.Views.{children, object_count, live_bytes, is_on, has_swapchain, detail_bytes}
use Rattle.gfx_objects.specs.declared.object.Object.{Object}
use Rattle.gfx_objects.specs.Children.{is_at}
use Rattle.gfx_objects.specs.Object.{made, detail_of, bound_of, is_owned_by, owner_of, memory_of, surface_of}
use Rattle.gfx_objects.specs.Objects.{Kept, answers, owner_mark, children_in, count_in, bytes_in}

weight_of : (o : Option Object) → option_map_or (λ o. detail_bytes (detail_of o.detail)) o 0 ≡ option_map_or (λ o. detail_bytes o.detail) (option_map made o) 0
weight_of None = refl
weight_of (Some o) = refl

pub bytes_answered : (k : Kept) → bytes_in k.rows ≡ live_bytes (answers k)
unfolding answers
bytes_answered k = total-by_ids (λ id o. detail_bytes (detail_of o.detail)) k.rows ∙ ap (λ f. sum_by f (ids k.rows)) (λ i x. (weight_of (map.get k.rows x)) i)

is_child : (p : ℕ) (o : Option Object) → ◌≡◌ {A = ℕ} (option_map_or (λ o. if o.parent == p then 1 else 0) o 0) (if option_map_or (λ o. o.parent == p) (option_map made o) false then 1 else 0)
is_child p None = refl
is_child p (Some o) = refl

pub children_answered : (k : Kept) (p : ℕ) → children_in k.rows p ≡ children (answers k) p
unfolding answers
children_answered k p = total-by_ids (λ id o. if o.parent == p then 1 else 0) k.rows ∙ ap (λ f. sum_by f (ids k.rows)) (λ i x. (is_child p (map.get k.rows x)) i)

keys_length : (es : List (ℕ × Object)) → length (each (λ e. e.0) es) ≡ length es
keys_length [] = refl
keys_length (e ∷ es) = let rest = keys_length es in omega arith

pub count_answered : (k : Kept) → map.len k.rows ≡ object_count (answers k)
unfolding answers
count_answered k = len-entries k.rows ∙ sym (keys_length (entries k.rows))

-- no more children than objects
pub children_few : (k : Kept) (p : ℕ) → children_in k.rows p ≤ map.len k.rows
unfolding answers
children_few k p =
    let few = count_by-le-length (λ x. option_map_or (λ o. o.parent == p) ((answers k).live x) false) (ids k.rows) in
    let is = children_answered k p in
    let all = count_answered k in
    omega (arith, few, is, all)

-- ---- groups

-- a test passes of no more rows than there are
pub few_pass : (test : Object → Bool) (m : FinMap nat_cmp Object) → total (λ id o. if test o then 1 else 0) m ≤ map.len m
few_pass test m =
    let few = count_by-le-length (λ (e : ℕ × Object). test e.1) (entries m) in
    let all = len-entries m in
    omega (arith, few, all)

is_owned_at : (group : ℕ) (o : Option Object) → is_at group (option_and_then owner_of o) ≡ passes (λ o. is_owned o.detail && group == o.parent) (option_map made o)
is_owned_at group None = refl
is_owned_at group (Some o) = let other : (o.parent == group) ≡ (group == o.parent) = grind (arith, nat_tests) in cases (is_owned (detail_of o.detail)) other
  where
    cases : (t : Bool) → (o.parent == group) ≡ (group == o.parent) → is_at group (if t then Some o.parent else None) ≡ (t && group == o.parent)
    cases true e = e
    cases false e = refl

pub owned_answered : (k : Kept) (group id : ℕ) → is_at group (option_and_then owner_of (map.get k.rows id)) ≡ passes (λ o. is_owned o.detail && group == o.parent) ((answers k).live id)
unfolding answers
owned_answered k group id = is_owned_at group (map.get k.rows id)

abbrev marked : Bool → Option (Unit {0})
marked t = if t then Some tt else None

is_marked : (t : Bool) → is_some (marked t) ≡ t
is_marked true = refl
is_marked false = refl

is_owner_marked : (owner x : ℕ) (o : Option Object) → is_some (option_and_then (owner_mark owner x) o) ≡ passes (λ o. is_owned o.detail && owner == o.parent) (option_map made o)
is_owner_marked owner x None = refl
is_owner_marked owner x (Some o) = is_marked (is_owned_by owner o)

pub owner_answered : (k : Kept) (owner x : ℕ) → is_some (option_and_then (owner_mark owner x) (map.get k.rows x)) ≡ passes (λ o. is_owned o.detail && owner == o.parent) ((answers k).live x)
unfolding answers
owner_answered k owner x = is_owner_marked owner x (map.get k.rows x)

rests_at : (memory : ℕ) (b : Option Binding) → is_at memory (option_map (λ b. b.memory) b) ≡ rests_on memory b
rests_at memory None = refl
rests_at memory (Some b) = refl

bound_at : (memory : ℕ) (o : Option Object) → is_at memory (option_and_then (λ o. memory_of o.detail) o) ≡ rests_on memory (option_and_then (λ o. bound_of o.detail) o)
bound_at memory None = refl
bound_at memory (Some o) = rests_at memory (bound_of o.detail)

pub resting_answered : (k : Kept) (memory id : ℕ) → is_at memory (option_and_then (λ o. memory_of o.detail) (map.get k.rows id)) ≡ rests_on memory ((answers k).bound id)
unfolding answers
resting_answered k memory id = bound_at memory (map.get k.rows id)

is_on_at : (surface : ℕ) (d : Parameters) → is_at surface (surface_of d) ≡ is_on surface d
is_on_at surface (an_instance _) = refl
is_on_at surface a_surface = refl
is_on_at surface a_device = refl
is_on_at surface a_queue = refl
is_on_at surface (a_memory _) = refl
is_on_at surface (a_buffer _ _) = refl
is_on_at surface (an_image _ _ _ _ _) = refl
is_on_at surface (a_pool _) = refl
is_on_at surface a_command_buffer = refl
is_on_at surface a_fence = refl
is_on_at surface a_semaphore = refl
is_on_at surface (a_swapchain _ _ _ _ _ _) = refl

some_counted : (test : ℕ → Bool) (xs : List ℕ) → nat_lt 0 (count_by test xs) ≡ list_any test xs
some_counted test [] = refl
some_counted test (x ∷ xs) = let rest = some_counted test xs in grind (arith, nat_tests, common_steps, rest)

on_surface : (surface : ℕ) (o : Option Object) → ◌≡◌ {A = ℕ} (option_map_or (λ o. if is_at surface (surface_of (detail_of o.detail)) then 1 else 0) o 0) (if passes (λ o. is_on surface o.detail) (option_map made o) then 1 else 0)
on_surface surface None = refl
on_surface surface (Some o) = ap (λ t. if t then 1 else 0) (is_on_at surface (detail_of o.detail))

pub swapchains_answered : (k : Kept) (surface : ℕ) → nat_lt 0 (count_in (λ o. surface_of (detail_of o.detail)) k.rows surface) ≡ has_swapchain (answers k) surface
unfolding answers
swapchains_answered k surface =
    ap (nat_lt 0) (total-by_ids (λ id o. if is_at surface (surface_of (detail_of o.detail)) then 1 else 0) k.rows
    ∙ ap (λ f. sum_by f (ids k.rows)) (λ i x. (on_surface surface (map.get k.rows x)) i))
    ∙ some_counted (λ x. passes (λ o. is_on surface o.detail) (option_map made (map.get k.rows x))) (ids k.rows)
