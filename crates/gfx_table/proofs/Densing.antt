-- What a change of the list of rows, or of the places of their ids, makes of the rows under ids.
use Rattle.std.proofs.Common.{◌≡◌, Bool, Bor, IsSome, ◌≢◌, ℕ, zero, suc, ◌<◌, ◌+◌, ◌-◌, ◌==◌, nat_lt, ◌||◌, true, false, if◌then◌else◌, is_some, List, [], ◌∷◌, ◌++◌, length, slice_set, slice_get, take, option_and_then, Option, Some, None, refl, sym, ap, ◌∙◌, arith}
use Rattle.std.specs.List.{slice_index_or, swap_remove}
use Rattle.std.specs.Ordering.{nat_cmp}
use Rattle.std.specs.Cmp.{nat_cmp_total}
use Rattle.std.proofs.lemmas.Bool.Decides.{nat_tests}
use Rattle.std.proofs.lemmas.Option.{slice_get_within, slice_get_past, slice_get-get_or, slice_get_read}
use Rattle.std.specs.Slice.{IsItemAt}
use Rattle.std.specs.Option.{option_copied}
use Rattle.std.proofs.lemmas.List.{length-append}
use Rattle.std.specs.FinMap as map
use Rattle.std.specs.FinMap.{FinMap, get-insert, get-remove, get-empty}
use Rattle.gfx_table.specs.Values.{get-with_rows}
use Rattle.gfx_table.specs.Dense.{is_listed, rows_of, settled, IsDense}
use Rattle.gfx_table.proofs.Joining.{same_keys, none_where_missing}

-- ---- an id in the list of ids

pub listed_at : (ids : List ℕ) (p id : ℕ) → slice_get ids p ≡ Some id → is_listed id ids ≡ true
listed_at [] p id at = cc
listed_at (x ∷ ids) zero id at = grind (arith, nat_tests, at)
listed_at (x ∷ ids) (suc p) id at = let rest = listed_at ids p id at in grind (arith, rest)

place_behind : (x : ℕ) (ids : List ℕ) (id : ℕ) (b : Bool) → (x == id) ≡ b → is_listed id (x ∷ ids) ≡ true → (is_listed id ids ≡ true → (p : ℕ) × (slice_get ids p ≡ Some id)) → (p : ℕ) × (slice_get (x ∷ ids) p ≡ Some id)
place_behind x ids id true is listed rest = (0, grind (arith, nat_tests, is))
place_behind x ids id false is listed rest = let place = rest (grind (arith, listed, is)) in (suc place.0, place.1)

pub place_of : (ids : List ℕ) (id : ℕ) → is_listed id ids ≡ true → (p : ℕ) × (slice_get ids p ≡ Some id)
place_of [] id listed = cc
place_of (x ∷ ids) id listed = place_behind x ids id (x == id) refl listed (place_of ids id)

pub unlisted : (ids : List ℕ) (id : ℕ) → ((p : ℕ) → slice_get ids p ≡ Some id → ⊥) → (b : Bool) → is_listed id ids ≡ b → is_listed id ids ≡ false
unlisted ids id none false e = e
unlisted ids id none true e = let place = place_of ids id e in absurd (none place.0 place.1)

-- ---- the one at a place of a list

module _ {X : Type 0} where
  pub get_set : (xs : List X) (p i : ℕ) (x : X) → p < length xs → slice_get (slice_set xs p x) i ≡ (if i == p then Some x else slice_get xs i)
  get_set [] p i x lt = grind (arith, nat_tests, lt)
  get_set (y ∷ xs) zero zero x lt = grind (arith, nat_tests)
  get_set (y ∷ xs) zero (suc i) x lt = grind (arith, nat_tests)
  get_set (y ∷ xs) (suc p) zero x lt = grind (arith, nat_tests)
  get_set (y ∷ xs) (suc p) (suc i) x lt = let rest = get_set xs p i x (omega (arith, lt)) in grind (arith, nat_tests, rest)

  pub get_push : (xs : List X) (x : X) (i : ℕ) → slice_get (xs ++ x ∷ []) i ≡ (if i == length xs then Some x else slice_get xs i)
  get_push [] x zero = grind (arith, nat_tests)
  get_push [] x (suc i) = grind (arith, nat_tests)
  get_push (y ∷ xs) x zero = grind (arith, nat_tests)
  get_push (y ∷ xs) x (suc i) = let rest = get_push xs x i in grind (arith, nat_tests, rest)

  pub get_take : (xs : List X) (n i : ℕ) → slice_get (take n xs) i ≡ (if nat_lt i n then slice_get xs i else None)
  get_take xs zero i = grind (arith, nat_tests)
  get_take [] (suc n) i = grind (arith, nat_tests)
  get_take (x ∷ xs) (suc n) zero = grind (arith, nat_tests)
  get_take (x ∷ xs) (suc n) (suc i) = let rest = get_take xs n i in grind (arith, nat_tests, rest)

  -- a list from which the one at a place is taken: the last one is there then
  abbrev pub IsMoved : List X → ℕ → List X → Type 0
  IsMoved old p new = (length new + 1 ≡ length old)
      × ((k : ℕ) → slice_get new k ≡ (if nat_lt (k + 1) (length old) then slice_get old (if k == p then length old - 1 else k) else None))

  pub moved : (old new : List X) (p : ℕ) (x : X) → p < length old → length new + 1 ≡ length old → new ≡ swap_remove old p x → IsMoved old p new
  moved old new p x lt len is = (
    len,
    λ k.
        let last = length old - 1 in
        let a = get_take (slice_set old p (slice_index_or old last x)) last k in
        let b = get_set old p k (slice_index_or old last x) lt in
        let c = slice_get-get_or old last x (omega (arith, lt)) in
        let d : slice_get new k ≡ slice_get (take last (slice_set old p (slice_index_or old last x))) k = ap (λ l. slice_get l k) is in
        grind (arith, nat_tests, a, b, c, d, lt),
  )

-- what is at a place, and none past the last
pub item_at : {X : Type 0} (xs : List X) (i : ℕ) (o : Option (Bor X)) → IsItemAt xs i o → option_copied o ≡ slice_get xs i
item_at xs i None is = sym (slice_get_past xs i is.3)
item_at xs i (Some x) is = sym (slice_get_read xs (length xs) i x.now refl is.3.0 is.1)

-- ---- rows

at_last : (ids ids2 : List ℕ) (p : ℕ) → p < length ids → IsMoved ids p ids2 → slice_get ids2 p ≡ None → p + 1 ≡ length ids
at_last ids ids2 p lt moved none =
    let a = moved.1 p in
    let b = slice_get-get_or ids (length ids - 1) 0 (omega (arith, lt)) in
    grind (arith, nat_tests, a, b, none, lt)

module _ {X : Type 0} where
  pub get-rows_of : (rows : List X) (places : FinMap nat_cmp ℕ) (q : ℕ) → map.get (rows_of rows places) q ≡ option_and_then (slice_get rows) (map.get places q)
  unfolding rows_of
  get-rows_of rows places q = get-with_rows (λ id place. slice_get rows place) places q

  -- ---- the list of ids, the number of rows and the places belong together

  pub start : (ids : List ℕ) (rows : List X) (places : FinMap nat_cmp ℕ) → ids ≡ [] → rows ≡ [] → places ≡ map.empty
      → IsDense ids (length rows) places × (rows_of rows places ≡ map.empty)
  start ids rows places i r p =
      let none : (q : ℕ) → map.get places q ≡ None = λ q. ap (λ m. map.get m q) p ∙ get-empty nat_cmp q in
      let no_id : (k : ℕ) → slice_get ids k ≡ None = λ k. ap (λ l. slice_get l k) i in (
        record {
          found = λ id place is. let n = none id in grind (arith, n, is);
          placed = λ id place is. let n = no_id place in grind (arith, n, is);
          each = ap length i ∙ sym (ap length r);
        },
        same_keys _ _ (λ q. get-rows_of rows places q ∙ ap (option_and_then (slice_get rows)) (none q) ∙ sym (get-empty nat_cmp q)),
      )

  row_at : (rows : List X) (p : ℕ) → p < length rows → is_some (slice_get rows p) ≡ true
  row_at [] p lt = grind (arith, nat_tests, lt)
  row_at (x ∷ rows) zero lt = refl
  row_at (x ∷ rows) (suc p) lt = row_at rows p (omega (arith, lt))

  listed_cases : (ids : List ℕ) (rows : List X) (places : FinMap nat_cmp ℕ) → IsDense ids (length rows) places
      → (id : ℕ) (o : Option ℕ) → map.get places id ≡ o → is_listed id ids ≡ is_some (option_and_then (slice_get rows) o)
  listed_cases ids rows places dense id (Some p) is =
      let at = dense.found id p is in
      let lt = slice_get_within ids p id at in
      let each = dense.each in
      listed_at ids p id at ∙ sym (row_at rows p (omega (arith, lt, each)))
  listed_cases ids rows places dense id None is =
      unlisted ids id (λ p at. let there = dense.placed id p at in grind (arith, is, there)) (is_listed id ids) refl

  -- an id is listed where it has a row
  pub listed_some : (ids : List ℕ) (rows : List X) (places : FinMap nat_cmp ℕ) → IsDense ids (length rows) places
      → (id : ℕ) → is_listed id ids ≡ is_some (map.get (rows_of rows places) id)
  listed_some ids rows places dense id = listed_cases ids rows places dense id (map.get places id) refl ∙ sym (ap is_some (get-rows_of rows places id))

  -- the row of an id is another
  pub set_row : (ids : List ℕ) (rows : List X) (places : FinMap nat_cmp ℕ) → IsDense ids (length rows) places
      → (id p : ℕ) (row : X) → map.get places id ≡ Some p → rows_of (slice_set rows p row) places ≡ map.insert (rows_of rows places) id row
  set_row ids rows places dense id p row is = same_keys _ _ (λ q.
      let a = get-rows_of (slice_set rows p row) places q in
      let b = get-rows_of rows places q in
      let c = get-insert nat_cmp_total (rows_of rows places) id row q in
      let d = set_cases q (map.get places q) refl in
      grind (arith, nat_tests, a, b, c, d))
    where
      set_cases : (q : ℕ) (o : Option ℕ) → map.get places q ≡ o → option_and_then (slice_get (slice_set rows p row)) o ≡ (if q == id then Some row else option_and_then (slice_get rows) o)
      set_cases q None at = let here : q ≡ id → map.get places q ≡ Some p = λ s. rw s is in grind (arith, nat_tests, at, here)
      set_cases q (Some k) at =
          let mine = dense.found id p is in
          let its = dense.found q k at in
          let lt = slice_get_within ids p id mine in
          let each = dense.each in
          let set = get_set rows p k row (omega (arith, lt, each)) in
          let same : k ≡ p → slice_get ids k ≡ slice_get ids p = λ s. ap (slice_get ids) s in
          let here : q ≡ id → map.get places q ≡ Some p = λ s. rw s is in
          grind (arith, nat_tests, set, mine, its, same, here, at)

  -- a new id at the end
  pub push_row : (ids : List ℕ) (rows : List X) (places : FinMap nat_cmp ℕ) → IsDense ids (length rows) places
      → (id : ℕ) (row : X) → map.get places id ≡ None
      → IsDense (ids ++ id ∷ []) (length (rows ++ row ∷ [])) (map.insert places id (length ids))
      × (rows_of (rows ++ row ∷ []) (map.insert places id (length ids)) ≡ map.insert (rows_of rows places) id row)
  push_row ids rows places dense id row none =
      let n = length ids in
      let each = dense.each in
      let put = get-insert nat_cmp_total places id n in (
        record {
          found = λ q k is.
              let a = put q in
              let was = dense.found q k in
              let b = get_push ids id k in
              let within = slice_get_within ids k q in
              grind (arith, nat_tests, is, a, was, b, within);
          placed = λ q k is.
              let a = put q in
              let b = get_push ids id k in
              let was = dense.placed q k in
              let here : q ≡ id → map.get places q ≡ None = λ s. rw s none in
              grind (arith, nat_tests, is, a, b, was, here, none);
          each = length-append ids (id ∷ []) ∙ ap (λ n. n + 1) each ∙ sym (length-append rows (row ∷ []));
        },
        same_keys _ _ (λ q.
            let a = get-rows_of (rows ++ row ∷ []) (map.insert places id n) q in
            let b = get-rows_of rows places q in
            let c = get-insert nat_cmp_total (rows_of rows places) id row q in
            let d = put q in
            let e = push_cases q (map.get places q) refl in
            let f = get_push rows row n in
            grind (arith, nat_tests, a, b, c, d, e, f, each)),
      )
    where
      push_cases : (q : ℕ) (o : Option ℕ) → map.get places q ≡ o → option_and_then (slice_get (rows ++ row ∷ [])) o ≡ option_and_then (slice_get rows) o
      push_cases q None at = refl
      push_cases q (Some k) at =
          let its = dense.found q k at in
          let lt = slice_get_within ids k q its in
          let each = dense.each in
          let push = get_push rows row k in
          grind (arith, nat_tests, lt, each, push)

  -- the row at a place is taken, and the last one is there then, if it was not the last itself
  pub remove_row : (ids ids2 : List ℕ) (rows rows2 : List X) (places : FinMap nat_cmp ℕ) → IsDense ids (length rows) places
      → (id p : ℕ) → map.get places id ≡ Some p → IsMoved ids p ids2 → IsMoved rows p rows2 → (o : Option ℕ) → slice_get ids2 p ≡ o
      → IsDense ids2 (length rows2) (settled (map.remove places id) o p) × (rows_of rows2 (settled (map.remove places id) o p) ≡ map.remove (rows_of rows places) id)
  remove_row ids ids2 rows rows2 places dense id p is mids mrows None last =
      let mine = dense.found id p is in
      let lt = slice_get_within ids p id mine in
      let each = dense.each in
      let lid = mids.0 in
      let lrow = mrows.0 in
      let here = mids.1 p in
      let shut : (k : ℕ) → slice_get ids k ≡ Some id → k ≡ p = λ k at. let there = dense.placed id k at in grind (arith, there, is) in
      let at_end : p + 1 ≡ length ids = at_last ids ids2 p lt mids last in (
        record {
          found = λ q k got.
              let a = get-remove nat_cmp_total places id q in
              let was = dense.found q k in
              let b = mids.1 k in
              let within = slice_get_within ids k q in
              let same : k ≡ p → slice_get ids k ≡ slice_get ids p = λ s. ap (slice_get ids) s in
              grind (arith, nat_tests, got, a, was, b, within, same, mine, at_end);
          placed = λ q k got.
              let a = get-remove nat_cmp_total places id q in
              let b = mids.1 k in
              let was = dense.placed q k in
              let not : q ≡ id → slice_get ids k ≡ Some q → k ≡ p = λ s at. shut k (at ∙ ap Some s) in
              grind (arith, nat_tests, got, a, b, was, not, at_end);
          each = omega (arith, each, lid, lrow);
        },
        same_keys _ _ (λ q.
            let a = get-rows_of rows2 (map.remove places id) q in
            let b = get-rows_of rows places q in
            let c = get-remove nat_cmp_total (rows_of rows places) id q in
            let d = get-remove nat_cmp_total places id q in
            let e = kept q (map.get places q) refl in
            grind (arith, nat_tests, a, b, c, d, e)),
      )
    where
      kept : (q : ℕ) (o : Option ℕ) → map.get places q ≡ o → q ≢ id → option_and_then (slice_get rows2) o ≡ option_and_then (slice_get rows) o
      kept q None got not = refl
      kept q (Some k) got not =
          let mine = dense.found id p is in
          let its = dense.found q k got in
          let lt = slice_get_within ids p id mine in
          let within = slice_get_within ids k q its in
          let each = dense.each in
          let end = at_last ids ids2 p lt mids last in
          let b = mrows.1 k in
          let same : k ≡ p → slice_get ids k ≡ slice_get ids p = λ s. ap (slice_get ids) s in
          grind (arith, nat_tests, mine, its, within, each, end, b, same, not)
  remove_row ids ids2 rows rows2 places dense id p is mids mrows (Some m) at =
      let mine = dense.found id p is in
      let lt = slice_get_within ids p id mine in
      let each = dense.each in
      let lid = mids.0 in
      let lrow = mrows.0 in
      let in2 = slice_get_within ids2 p m at in
      let here = mids.1 p in
      let last : slice_get ids (length ids - 1) ≡ Some m = grind (arith, nat_tests, here, at, in2, lid) in
      let its = dense.placed m (length ids - 1) last in
      let two : (q : ℕ) → map.get (settled (map.remove places id) (Some m) p) q ≡ (if q == m then Some p else if q == id then None else map.get places q) = λ q.
      let a = get-insert nat_cmp_total (map.remove places id) m p q in
      let b = get-remove nat_cmp_total places id q in
      grind (arith, nat_tests, a, b) in (
        record {
          found = λ q k got.
              let a = two q in
              let was = dense.found q k in
              let b = mids.1 k in
              let within = slice_get_within ids k q in
              let same : k ≡ p → slice_get ids k ≡ slice_get ids p = λ s. ap (slice_get ids) s in
              let end : k ≡ length ids - 1 → slice_get ids k ≡ slice_get ids (length ids - 1) = λ s. ap (slice_get ids) s in
              let there : k ≡ p → slice_get ids2 k ≡ slice_get ids2 p = λ s. ap (slice_get ids2) s in
              grind (arith, nat_tests, got, a, was, b, within, same, end, there, at, mine, last, lt);
          placed = λ q k got.
              let a = two q in
              let b = mids.1 k in
              let was = dense.placed q k in
              let same : k ≡ p → slice_get ids2 k ≡ slice_get ids2 p = λ s. ap (slice_get ids2) s in
              let is_m : q ≡ m → map.get places q ≡ Some (length ids - 1) = λ s. rw s its in
              let is_id : q ≡ id → map.get places q ≡ Some p = λ s. rw s is in
              grind (arith, nat_tests, got, a, b, was, same, is_m, is_id, at, lt);
          each = omega (arith, each, lid, lrow);
        },
        same_keys _ _ (λ q.
            let a = get-rows_of rows2 (settled (map.remove places id) (Some m) p) q in
            let b = get-rows_of rows places q in
            let c = get-remove nat_cmp_total (rows_of rows places) id q in
            let d = two q in
            let e = kept q (map.get places q) refl in
            let f = mrows.1 p in
            let g : q ≡ m → map.get places q ≡ Some (length ids - 1) = λ s. rw s its in
            let apart : m ≡ id → length ids - 1 ≡ p = λ s. let there : map.get places m ≡ Some p = rw s is in grind (arith, there, its) in
            grind (arith, nat_tests, a, b, c, d, e, f, g, apart, each, lid, in2)),
      )
    where
      kept : (q : ℕ) (o : Option ℕ) → map.get places q ≡ o → q ≢ id → q ≢ m → option_and_then (slice_get rows2) o ≡ option_and_then (slice_get rows) o
      kept q None got not other = refl
      kept q (Some k) got not other =
          let mine = dense.found id p is in
          let its = dense.found q k got in
          let within = slice_get_within ids k q its in
          let each = dense.each in
          let in2 = slice_get_within ids2 p m at in
          let lid = mids.0 in
          let here = mids.1 p in
          let last : slice_get ids (length ids - 1) ≡ Some m = grind (arith, nat_tests, here, at, in2, lid) in
          let b = mrows.1 k in
          let same : k ≡ p → slice_get ids k ≡ slice_get ids p = λ s. ap (slice_get ids) s in
          let end : k ≡ length ids - 1 → slice_get ids k ≡ slice_get ids (length ids - 1) = λ s. ap (slice_get ids) s in
          grind (arith, nat_tests, mine, its, within, each, b, same, end, last, not, other)

pub is_zero : (n : ℕ) → (n == 0) ≡ true → n ≡ 0
is_zero n is = grind (arith, nat_tests, is)

pub nothing_of : (xs : List ℕ) → length xs ≡ 0 → xs ≡ []
nothing_of [] none = refl
nothing_of (x ∷ xs) none = absurd (omega (arith, none))

-- ids that are all listed, none of which is, are none
pub none_placed_in : (ids : List ℕ) (places : FinMap nat_cmp ℕ) → ids ≡ [] → ((q : ℕ) → is_some (map.get places q) ≡ true → is_listed q ids ≡ true) → places ≡ map.empty
none_placed_in ids places none listed = same_keys _ _ (λ q.
    let a = listed q in
    let b : is_listed q ids ≡ false = ap (is_listed q) none in
    none_where_missing places q (grind (arith, a, b)) ∙ sym (get-empty nat_cmp q))

-- the first id and its place are taken
pub less_placed : (ids ids2 : List ℕ) (places : FinMap nat_cmp ℕ) (id : ℕ) → ids ≡ id ∷ ids2 → ((q : ℕ) → is_some (map.get places q) ≡ true → is_listed q ids ≡ true)
    → (q : ℕ) → is_some (map.get (map.remove places id) q) ≡ true → is_listed q ids2 ≡ true
less_placed ids ids2 places id is listed q some =
    let a = get-remove nat_cmp_total places id q in
    let b = listed q in
    let c : is_listed q ids ≡ ((id == q) || is_listed q ids2) = ap (is_listed q) is in
    grind (arith, nat_tests, a, b, c, some)

-- the one that is at the place of an id which goes has a place still
pub still_placed : (ids ids2 : List ℕ) (count : ℕ) (places : FinMap nat_cmp ℕ) → IsDense ids count places
    → (id p : ℕ) → map.get places id ≡ Some p → IsMoved ids p ids2 → (m : ℕ) → slice_get ids2 p ≡ Some m → IsSome (map.get (map.remove places id) m)
still_placed ids ids2 count places dense id p is mids m at =
    let mine = dense.found id p is in
    let lt = slice_get_within ids p id mine in
    let lid = mids.0 in
    let in2 = slice_get_within ids2 p m at in
    let here = mids.1 p in
    let last : slice_get ids (length ids - 1) ≡ Some m = grind (arith, nat_tests, here, at, in2, lid) in
    let its = dense.placed m (length ids - 1) last in
    let a = get-remove nat_cmp_total places id m in
    let apart : m ≡ id → length ids - 1 ≡ p = λ s. let there : map.get places m ≡ Some p = rw s is in grind (arith, there, its) in
    grind (arith, nat_tests, a, its, apart, lid, in2)

pub remove_missing : {X : Type 0} (m : FinMap nat_cmp X) (k : ℕ) → map.get m k ≡ None → map.remove m k ≡ m
remove_missing m k none = same_keys _ _ (λ q.
    let a = get-remove nat_cmp_total m k q in
    let here : q ≡ k → map.get m q ≡ None = λ s. rw s none in
    grind (arith, nat_tests, a, here))
