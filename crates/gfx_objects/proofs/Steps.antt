-- What each change of the rows makes of the answers: what the step of the capture makes of them.
use Rattle.std.proofs.Common.{◌≡◌, ℕ, ◌==◌, Bool, true, false, not, ◌&&◌, ◌||◌, List, [], ◌∷◌, Option, Some, None, is_some, if◌then◌else◌, refl, ap, sym, ◌∙◌, arith}
use Rattle.std.specs.Prelude.{option_map, option_and_then, filter, length, map as each}
use Rattle.std.specs.Option.{option_map_or}
use Rattle.std.specs.Ordering.{nat_cmp}
use Rattle.std.specs.FinMap as map
use Rattle.std.specs.FinMap.{FinMap, get-empty, len-entries, len-empty}
use Rattle.std.proofs.lemmas.Bool.Decides.{nat_tests}
use Rattle.gfx_table.specs.IdSet.{holds}
use Rattle.gfx_table.specs.Values.{with_rows, get-with_rows, kept_rows}
use Rattle.gfx_table.specs.Rows.{ids, in_order, ids-insert_new, ids-insert_over, ids-with_rows, got-insert, same_rows}
use Rattle.gfx_model.specs.Steps.Step.{creates, ends, binds, maps, unmaps, changes}
use Rattle.gfx_model.specs.Steps.Change.{set_layout}
use Rattle.gfx_model.specs.Questions as asked
use Rattle.gfx_model.specs.Questions.{Binding, Range, Buffer, new_buffer, insert_rising, goes_with, after_end, passes, is_owned}
use Rattle.gfx_model.specs.Views.{View, view_of}
use Rattle.gfx_model.specs.After.{after}
use Rattle.gfx_objects.specs.declared.object.Object.{Object}
use Rattle.gfx_objects.specs.declared.object.Detail.{Detail}
use Rattle.gfx_objects.specs.declared.object.Detail.TheVariants as declared
use Rattle.gfx_objects.specs.Object.{made, detail_of, bound_of, mapped_of, layout_of, IsNew}
use Rattle.gfx_objects.specs.Objects.{Kept, answers, was_used}
use Rattle.gfx_objects.proofs.Kept.{used_same}

view_ext : (v w : View) → ((x : ℕ) → v.live x ≡ w.live x) → v.ids ≡ w.ids → ((x : ℕ) → v.used x ≡ w.used x)
    → ((x : ℕ) → v.bound x ≡ w.bound x) → ((x : ℕ) → v.mapped x ≡ w.mapped x) → ((x : ℕ) → v.layout x ≡ w.layout x)
    → ((x : ℕ) → v.buffer x ≡ w.buffer x) → ((x : ℕ) → v.signalled x ≡ w.signalled x) → ((x : ℕ) → v.acquired x ≡ w.acquired x)
    → v.next_frame ≡ w.next_frame → v.is_empty ≡ w.is_empty → v.section ≡ w.section → v ≡ w
view_ext v w live ids used bound mapped layout buffer signalled acquired next_frame is_empty section i = record {
  live = λ x. live x i;
  ids = ids i;
  used = λ x. used x i;
  bound = λ x. bound x i;
  mapped = λ x. mapped x i;
  layout = λ x. layout x i;
  buffer = λ x. buffer x i;
  signalled = λ x. signalled x i;
  acquired = λ x. acquired x i;
  next_frame = next_frame i;
  is_empty = is_empty i;
  section = section i;
}

same_either : {X : Type 0} (t : Bool) (x : X) → x ≡ (if t then x else x)
same_either true x = refl
same_either false x = refl

in_order-rising : (x : ℕ) (ys : List ℕ) → in_order x ys ≡ insert_rising x ys
in_order-rising x [] = refl
in_order-rising x (y ∷ ys) = let rest = in_order-rising x ys in grind (arith, nat_tests, rest)

at_insert : {X : Type 0} (m n : FinMap nat_cmp X) (id : ℕ) (o : X) → n ≡ map.insert m id o → (q : ℕ) → map.get n q ≡ (if id == q then Some o else map.get m q)
at_insert m n id o is q = ap (λ m. map.get m q) is ∙ ap (λ f. f q) (got-insert m id o)

-- ---- a new object

module _ (k n : Kept) (id : ℕ) (o : Object) (rows : n.rows ≡ map.insert k.rows id o) (used : was_used n ≡ (λ other. id == other || was_used k other))
    (none : map.get k.rows id ≡ None) (is_new : IsNew o.detail) where
  pub created : answers n ≡ after (answers k) (creates id o.parent (detail_of o.detail))
  unfolding answers after
  created =
      let unbound = is_new.unbound in
      let unmapped = is_new.unmapped in
      let undefined = is_new.undefined in
      view_ext _ _
      (λ x. let a = at_insert k.rows n.rows id o rows x in grind (arith, nat_tests, a))
      (ap map.keys rows ∙ ids-insert_new k.rows id o none ∙ in_order-rising id (ids k.rows))
      (λ x. ap (λ f. f x) used)
      (λ x. let a = at_insert k.rows n.rows id o rows x in grind (arith, nat_tests, a, unbound))
      (λ x. let a = at_insert k.rows n.rows id o rows x in let here : id ≡ x → map.get k.rows x ≡ None = λ p. rw (sym p) none in grind (arith, nat_tests, a, unmapped, here))
      (λ x. let a = at_insert k.rows n.rows id o rows x in grind (arith, nat_tests, a, undefined))
      (λ x. same_either (id == x) new_buffer)
      (λ x. same_either (id == x) false)
      (λ x. same_either (id == x) (λ index. false))
      refl refl refl

-- ---- an object that is bound, mapped or gets a layout

module _ (k n : Kept) (id : ℕ) (o : Object) (d : Detail) (rows : n.rows ≡ map.insert k.rows id (record o { detail = d })) (ended : n.ended ≡ k.ended)
    (some : map.get k.rows id ≡ Some o) (parameters : detail_of d ≡ detail_of o.detail) where
  here : (x : ℕ) → id ≡ x → map.get k.rows x ≡ Some o
  here x p = rw (sym p) some

  same_made : made (record o { detail = d }) ≡ made o
  same_made = λ i. record { parent = o.parent; detail = parameters i }

  live_same : (x : ℕ) → option_map made (map.get n.rows x) ≡ option_map made (map.get k.rows x)
  live_same x =
      let a = at_insert k.rows n.rows id (record o { detail = d }) rows x in
      let h = here x in
      let m = same_made in
      grind (arith, nat_tests, a, h, m)

  used_now : (x : ℕ) → was_used n x ≡ was_used k x
  used_now x =
      let a = at_insert k.rows n.rows id (record o { detail = d }) rows x in
      let h = here x in
      let e = ap (λ s. holds s x) ended in
      grind (arith, nat_tests, a, h, e)

  ids_same : map.keys n.rows ≡ map.keys k.rows
  ids_same = ap map.keys rows ∙ ids-insert_over k.rows id (record o { detail = d }) (ap is_some some)

  bound_now : (b : Option Binding) → bound_of d ≡ b → (x : ℕ) → option_and_then (λ o. bound_of o.detail) (map.get n.rows x)
      ≡ (if id == x then b else option_and_then (λ o. bound_of o.detail) (map.get k.rows x))
  bound_now b is x = let a = at_insert k.rows n.rows id (record o { detail = d }) rows x in grind (arith, nat_tests, a, is)

  bound_same : bound_of d ≡ bound_of o.detail → (x : ℕ) → option_and_then (λ o. bound_of o.detail) (map.get n.rows x) ≡ option_and_then (λ o. bound_of o.detail) (map.get k.rows x)
  bound_same is x = let a = at_insert k.rows n.rows id (record o { detail = d }) rows x in let h = here x in grind (arith, nat_tests, a, h, is)

  mapped_now : (r : Option Range) → mapped_of d ≡ r → (x : ℕ) → option_and_then (λ o. mapped_of o.detail) (map.get n.rows x)
      ≡ (if id == x then r else option_and_then (λ o. mapped_of o.detail) (map.get k.rows x))
  mapped_now r is x = let a = at_insert k.rows n.rows id (record o { detail = d }) rows x in grind (arith, nat_tests, a, is)

  mapped_same : mapped_of d ≡ mapped_of o.detail → (x : ℕ) → option_and_then (λ o. mapped_of o.detail) (map.get n.rows x) ≡ option_and_then (λ o. mapped_of o.detail) (map.get k.rows x)
  mapped_same is x = let a = at_insert k.rows n.rows id (record o { detail = d }) rows x in let h = here x in grind (arith, nat_tests, a, h, is)

  layout_now : (l : ℕ) → layout_of d ≡ l → (x : ℕ) → option_map_or (λ o. layout_of o.detail) (map.get n.rows x) 0
      ≡ (if id == x then l else option_map_or (λ o. layout_of o.detail) (map.get k.rows x) 0)
  layout_now l is x = let a = at_insert k.rows n.rows id (record o { detail = d }) rows x in grind (arith, nat_tests, a, is)

  layout_same : layout_of d ≡ layout_of o.detail → (x : ℕ) → option_map_or (λ o. layout_of o.detail) (map.get n.rows x) 0 ≡ option_map_or (λ o. layout_of o.detail) (map.get k.rows x) 0
  layout_same is x = let a = at_insert k.rows n.rows id (record o { detail = d }) rows x in let h = here x in grind (arith, nat_tests, a, h, is)

  -- what holds at the live id alone is at a live id
  at_its_id : {X : Type 0} (x : ℕ) (now old : X) → (if id == x then now else old) ≡ (if id == x && is_some (option_map made (map.get k.rows x)) then now else old)
  at_its_id x now old = let h = here x in grind (arith, nat_tests, h)

  pub bound : (memory offset : ℕ) → bound_of d ≡ Some (record { memory = memory; offset = offset }) → mapped_of d ≡ mapped_of o.detail → layout_of d ≡ layout_of o.detail
      → answers n ≡ after (answers k) (binds id memory offset)
  unfolding answers after
  bound memory offset b m l =
      view_ext _ _ live_same ids_same used_now
      (λ x. bound_now _ b x ∙ at_its_id x _ _) (mapped_same m) (layout_same l)
      (λ x. refl) (λ x. refl) (λ x. refl) refl refl refl

  pub mapped : (offset length : ℕ) → mapped_of d ≡ Some (record { offset = offset; length = length }) → bound_of d ≡ bound_of o.detail → layout_of d ≡ layout_of o.detail
      → answers n ≡ after (answers k) (maps id offset length)
  unfolding answers after
  mapped offset length m b l =
      view_ext _ _ live_same ids_same used_now
      (bound_same b) (mapped_now _ m) (layout_same l)
      (λ x. refl) (λ x. refl) (λ x. refl) refl refl refl

  pub unmapped : mapped_of d ≡ None → bound_of d ≡ bound_of o.detail → layout_of d ≡ layout_of o.detail → answers n ≡ after (answers k) (unmaps id)
  unfolding answers after
  unmapped m b l =
      view_ext _ _ live_same ids_same used_now
      (bound_same b) (mapped_now _ m) (layout_same l)
      (λ x. refl) (λ x. refl) (λ x. refl) refl refl refl

  pub laid_out : (layout : ℕ) → layout_of d ≡ layout → bound_of d ≡ bound_of o.detail → mapped_of d ≡ mapped_of o.detail
      → answers n ≡ after (answers k) (changes (set_layout id layout))
  unfolding answers after
  laid_out layout l b m =
      view_ext _ _ live_same ids_same used_now
      (bound_same b) (mapped_same m) (λ x. layout_now _ l x ∙ at_its_id x _ _)
      (λ x. refl) (λ x. refl) (λ x. refl) refl refl refl

-- the layout that an image has is set
pub laid_so : (k : Kept) (id : ℕ) (o : Object) (layout : ℕ) → map.get k.rows id ≡ Some o → layout_of o.detail ≡ layout → answers k ≡ after (answers k) (changes (set_layout id layout))
unfolding answers after
laid_so k id o layout some is =
    view_ext _ _ (λ x. refl) refl (λ x. refl) (λ x. refl) (λ x. refl)
    (λ x. let here : id ≡ x → map.get k.rows x ≡ Some o = λ p. rw (sym p) some in grind (arith, nat_tests, here, is))
    (λ x. refl) (λ x. refl) (λ x. refl) refl refl refl

-- ---- the same rows

pub answers_same : (k n : Kept) → n.rows ≡ k.rows → holds n.ended ≡ holds k.ended → answers n ≡ answers k
unfolding answers
answers_same k n rows ended =
    view_ext _ _ (λ x. ap (λ m. option_map made (map.get m x)) rows) (ap map.keys rows) (λ x. ap (λ f. f x) (used_same k n rows ended))
    (λ x. ap (λ m. option_and_then (λ o. bound_of o.detail) (map.get m x)) rows)
    (λ x. ap (λ m. option_and_then (λ o. mapped_of o.detail) (map.get m x)) rows)
    (λ x. ap (λ m. option_map_or (λ o. layout_of o.detail) (map.get m x) 0) rows)
    (λ x. refl) (λ x. refl) (λ x. refl) refl refl refl

-- ---- an object that ends, with what it owns

owned_unmapped : (d : Detail) → is_owned (detail_of d) ≡ true → mapped_of d ≡ None
owned_unmapped (declared.Instance api) h = refl
owned_unmapped declared.Surface h = refl
owned_unmapped declared.Device h = refl
owned_unmapped declared.Queue h = refl
owned_unmapped (declared.Memory size mapped) h = cc
owned_unmapped (declared.Buffer size usage bound) h = refl
owned_unmapped (declared.Image format width height usage layout bound index) h = refl
owned_unmapped (declared.Pool flags) h = refl
owned_unmapped declared.CommandBuffer h = refl
owned_unmapped declared.Fence h = refl
owned_unmapped declared.Semaphore h = refl
owned_unmapped (declared.Swapchain surface images format width height usage) h = refl

filter-filter : (p q : ℕ → Bool) (xs : List ℕ) → filter p (filter q xs) ≡ filter (λ x. q x && p x) xs
filter-filter p q [] = refl
filter-filter p q (x ∷ xs) = let rest = filter-filter p q xs in cases (p x) (q x) refl refl rest
  where
    cases : (a b : Bool) → p x ≡ a → q x ≡ b → filter p (filter q xs) ≡ filter (λ x. q x && p x) xs → filter p (filter q (x ∷ xs)) ≡ filter (λ x. q x && p x) (x ∷ xs)
    cases a b pa qb rest = grind (arith, pa, qb, rest)

module _ (m : FinMap nat_cmp Object) (stays : ℕ → Object → Bool) where
  -- a row and whether it stays
  abbrev kept : ℕ → Object → Option Object
  kept x o = if stays x o then Some o else None

  abbrev all : ℕ → Object → Option Object
  all x o = Some o

  whole : with_rows all m ≡ m
  whole = same_rows _ _ (λ x. get-with_rows all m x ∙ some_or_none (map.get m x))
    where
      some_or_none : (o : Option Object) → option_and_then (λ o. Some o) o ≡ o
      some_or_none None = refl
      some_or_none (Some o) = refl

  members : filter (λ x. is_some (option_and_then (all x) (map.get m x))) (ids m) ≡ ids m
  members = sym (ids-with_rows all m) ∙ ap ids whole

  -- the ids that stay, by a test that is right for live ids
  ids_kept : (test : ℕ → Bool) → ((x : ℕ) (o : Object) → map.get m x ≡ Some o → test x ≡ stays x o) → ids (kept_rows stays m) ≡ filter test (ids m)
  ids_kept test right =
      ids-with_rows kept m ∙ ap (λ f. filter f (ids m)) (λ i x. (each_id x (map.get m x) refl) i)
      ∙ sym (filter-filter test (λ x. is_some (option_and_then (all x) (map.get m x))) (ids m)) ∙ ap (filter test) members
    where
      each_id : (x : ℕ) (o : Option Object) → map.get m x ≡ o → is_some (option_and_then (kept x) o) ≡ (is_some (option_and_then (all x) o) && test x)
      each_id x None none = refl
      each_id x (Some o) some = let r = right x o some in grind (arith, r)

module _ (k n : Kept) (gone : ℕ) (rows : n.rows ≡ kept_rows (λ x o. not (goes_with gone x (made o))) k.rows) (used : was_used n ≡ was_used k) where
  at_end : (x : ℕ) → map.get n.rows x ≡ option_and_then (λ o. if not (goes_with gone x (made o)) then Some o else None) (map.get k.rows x)
  at_end x = ap (λ m. map.get m x) rows ∙ get-with_rows (λ x o. if not (goes_with gone x (made o)) then Some o else None) k.rows x

  live_at_end : (x : ℕ) (q r : Option Object) → r ≡ option_and_then (λ o. if not (goes_with gone x (made o)) then Some o else None) q
      → option_map made r ≡ after_end gone x (option_map made q)
  live_at_end x None r is = ap (option_map made) is
  live_at_end x (Some o) r is = ap (option_map made) is ∙ cases (goes_with gone x (made o))
    where
      cases : (t : Bool) → option_map made (if not t then Some o else None) ≡ (if t then None else Some (made o))
      cases true = refl
      cases false = refl

  bound_at_end : (x : ℕ) (q r : Option Object) → r ≡ option_and_then (λ o. if not (goes_with gone x (made o)) then Some o else None) q
      → option_and_then (λ o. bound_of o.detail) r ≡ (if passes (goes_with gone x) (option_map made q) then None else option_and_then (λ o. bound_of o.detail) q)
  bound_at_end x None r is = ap (option_and_then (λ o. bound_of o.detail)) is
  bound_at_end x (Some o) r is = ap (option_and_then (λ o. bound_of o.detail)) is ∙ cases (goes_with gone x (made o))
    where
      cases : (t : Bool) → option_and_then (λ o. bound_of o.detail) (if not t then Some o else None) ≡ (if t then None else bound_of o.detail)
      cases true = refl
      cases false = refl

  layout_at_end : (x : ℕ) (q r : Option Object) → r ≡ option_and_then (λ o. if not (goes_with gone x (made o)) then Some o else None) q
      → option_map_or (λ o. layout_of o.detail) r 0 ≡ (if passes (goes_with gone x) (option_map made q) then 0 else option_map_or (λ o. layout_of o.detail) q 0)
  layout_at_end x None r is = ap (λ r. option_map_or (λ o. layout_of o.detail) r 0) is
  layout_at_end x (Some o) r is = ap (λ r. option_map_or (λ o. layout_of o.detail) r 0) is ∙ cases (goes_with gone x (made o))
    where
      cases : (t : Bool) → ◌≡◌ {A = ℕ} (option_map_or (λ o. layout_of o.detail) (if not t then Some o else None) 0) (if t then 0 else layout_of o.detail)
      cases true = refl
      cases false = refl

  -- a map goes with its memory alone: what is owned has none
  mapped_at_end : (x : ℕ) (q r : Option Object) → r ≡ option_and_then (λ o. if not (goes_with gone x (made o)) then Some o else None) q
      → option_and_then (λ o. mapped_of o.detail) r ≡ (if gone == x then None else option_and_then (λ o. mapped_of o.detail) q)
  mapped_at_end x None r is = ap (option_and_then (λ o. mapped_of o.detail)) is ∙ same_either (gone == x) None
  mapped_at_end x (Some o) r is =
      ap (option_and_then (λ o. mapped_of o.detail)) is ∙ cases (gone == x) (is_owned (detail_of o.detail)) (gone == o.parent) (owned_unmapped o.detail)
    where
      cases : (here owned child : Bool) → (owned ≡ true → mapped_of o.detail ≡ None)
          → option_and_then (λ o. mapped_of o.detail) (if not (here || owned && child) then Some o else None) ≡ (if here then None else mapped_of o.detail)
      cases true owned child none = refl
      cases false true true none = sym (none refl)
      cases false true false none = refl
      cases false false child none = refl

  ids_at_end : map.keys n.rows ≡ filter (λ x. not (passes (goes_with gone x) (option_map made (map.get k.rows x)))) (ids k.rows)
  ids_at_end =
      ap map.keys rows ∙ ids_kept k.rows (λ x o. not (goes_with gone x (made o)))
      (λ x. not (passes (goes_with gone x) (option_map made (map.get k.rows x))))
      (λ x o some. ap (λ q. not (passes (goes_with gone x) (option_map made q))) some)

  pub ended : answers n ≡ after (answers k) (ends gone)
  unfolding answers after
  ended =
      view_ext _ _
      (λ x. live_at_end x (map.get k.rows x) (map.get n.rows x) (at_end x))
      ids_at_end
      (λ x. ap (λ f. f x) used)
      (λ x. bound_at_end x (map.get k.rows x) (map.get n.rows x) (at_end x))
      (λ x. mapped_at_end x (map.get k.rows x) (map.get n.rows x) (at_end x))
      (λ x. layout_at_end x (map.get k.rows x) (map.get n.rows x) (at_end x))
      (λ x. same_either (passes (goes_with gone x) (option_map made (map.get k.rows x))) new_buffer)
      (λ x. same_either (passes (goes_with gone x) (option_map made (map.get k.rows x))) false)
      (λ x. same_either (passes (goes_with gone x) (option_map made (map.get k.rows x))) (λ index. false))
      refl refl refl

-- ---- no objects

pub answers_none : (k : Kept) → k.rows ≡ map.empty → holds k.ended ≡ (λ id. false) → answers k ≡ record (view_of []) { is_empty = false }
unfolding answers asked.live asked.ids asked.used asked.bound asked.mapped asked.layout asked.buffer asked.signalled asked.acquired asked.next_frame asked.open_section
answers_none k rows ended =
    let none = λ (x : ℕ). ap (λ m. map.get m x) rows ∙ get-empty nat_cmp x in
    view_ext _ _
    (λ x. ap (option_map made) (none x))
    (ap map.keys rows ∙ no_keys)
    (λ x. let row = none x in let e = ap (λ f. f x) ended in grind (arith, row, e))
    (λ x. ap (option_and_then (λ o. bound_of o.detail)) (none x))
    (λ x. ap (option_and_then (λ o. mapped_of o.detail)) (none x))
    (λ x. ap (λ q. option_map_or (λ o. layout_of o.detail) q 0) (none x))
    (λ x. refl) (λ x. refl) (λ x. refl) refl refl refl
  where
    no_entries : (es : List (ℕ × Object)) → length es ≡ 0 → es ≡ []
    no_entries [] e = refl
    no_entries (x ∷ es) e = absurd (omega arith)

    no_keys : map.keys (map.empty {K = ℕ} {X = Object} {R = nat_cmp}) ≡ []
    no_keys = ap (each (λ e. e.0)) (no_entries _ (sym (len-entries (map.empty {K = ℕ} {X = Object} {R = nat_cmp})) ∙ len-empty nat_cmp Object))
