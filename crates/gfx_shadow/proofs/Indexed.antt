-- Memories with their places, after a write and after the first fill went.
use Rattle.std.proofs.Common.{◌≡◌, ℕ, zero, suc, ◌+◌, ◌-◌, ◌<◌, false, refl, ap, sym, subst, ◌∙◌, List, [], ◌∷◌, ◌++◌, length, set, get_or, drop, ◌⊎◌, Some, None, arith}
use Rattle.std.specs.List.{slice_get}
use Rattle.std.specs.Ordering.{nat_cmp}
use Rattle.std.specs.FinMap as fin
use Rattle.std.proofs.lemmas.List.{map-append, length-map, length-append, drop-append-le, get_or-drop, length-drop, drop-drop}
use Rattle.std.proofs.Math.Seq.{drop-length}
use Rattle.gfx_model.specs.Checks.{is_among}
use Rattle.gfx_shadow.specs.declared.memory.MemoryBytes.{MemoryBytes}
use Rattle.gfx_shadow.specs.declared.memories.Memories.{Memories}
use Rattle.gfx_shadow.specs.Writes.{write_of, MayHold, fills}
use Rattle.gfx_shadow.specs.Overlay.{nothing, overlay, IsFirst as IsFirstRun, IsDropped}
use Rattle.gfx_shadow.specs.Rows.{AreRows, rows_fills}
use Rattle.gfx_shadow.specs.Stretches.{stretches_byte}
use Rattle.gfx_shadow.specs.Memories.{rows_of, numbers_of, fills_of}
use Rattle.gfx_shadow.specs.Places.{left_of, held_by, IsAt, ArePlaces, AreIndexed, IsFirst}
use Rattle.gfx_shadow.proofs.Places.{numbers_left, set_left, numbers_set, inside_left, stands_left, row_left, number_at, places_new, places_fewer, places_none}
use Rattle.gfx_shadow.proofs.MemoryRows.{there_same, there_rows, there_fills, new_rows, new_fills, rows-numbers, first_fill, first_held, dropped_fills, dropped_rows, dropped_last, was_dropped}

-- ---- a memory that is left

module _ (m n : Memories) (at memory o : ℕ) (bs : List ℕ) (r x : MemoryBytes) (h : AreIndexed m) (place : IsAt m.first (numbers_of m.rows.items) memory at)
    (is : r ≡ get_or m.rows.items at r) (same : x.memory ≡ r.memory) (rows : n.rows.items ≡ set m.rows.items at x) (first : n.first ≡ m.first) (places : n.places.map ≡ m.places.map) where
  inside : at < length m.rows.items
  inside = let l = place.inside in let e = length-map m.rows.items (λ m. m.memory) in omega (arith, l, e)

  number : (d : MemoryBytes) → x.memory ≡ (get_or m.rows.items at d).memory
  number d = same ∙ ap (λ m. m.memory) is ∙ number_at m.rows.items at r inside ∙ sym (number_at m.rows.items at d inside)

  numbers_same : numbers_of n.rows.items ≡ numbers_of m.rows.items
  numbers_same = ap numbers_of rows ∙ numbers_set m.rows.items at x number

  left_is : left_of n ≡ set (left_of m) (at - m.first) x
  left_is = (λ i. drop (first i) (rows i)) ∙ set_left m.first at m.rows.items x place.left

  indexed_by : AreRows (rows_of (left_of n)) → AreIndexed n
  indexed_by g =
      let e = ap length numbers_same in
      let a = length-map n.rows.items (λ m. m.memory) in
      let b = length-map m.rows.items (λ m. m.memory) in
      let f = h.front in
      record {
        front = omega (arith, e, a, b, f, first);
        rows = g;
        places = subst (λ k. ArePlaces k (numbers_of n.rows.items) n.places.map) (sym first)
            (subst (λ l. ArePlaces m.first l n.places.map) (sym numbers_same) (subst (ArePlaces m.first (numbers_of m.rows.items)) (sym places) h.places));
      }

  module _ (bytes : stretches_byte x.stretches ≡ stretches_byte r.stretches) where
    same_rows : rows_of (left_of n) ≡ rows_of (left_of m)
    same_rows =
        ap rows_of left_is
        ∙ there_same (left_of m) (at - m.first) memory o bs r x h.rows (inside_left m.rows.items m.first memory at place) (stands_left m.rows.items m.first memory at place)
        (row_left m.rows.items m.first memory at place r is) same bytes

    pub kept_indexed : AreIndexed n
    kept_indexed = indexed_by (subst AreRows (sym same_rows) h.rows)

    pub kept_fills : held_by n ≡ held_by m
    kept_fills = ap rows_fills same_rows

  module _ (may : MayHold (write_of memory o bs)) (bytes : stretches_byte x.stretches ≡ overlay o bs (stretches_byte r.stretches)) where
    pub written_indexed : AreIndexed n
    written_indexed = indexed_by (subst (λ l. AreRows (rows_of l)) (sym left_is)
        (there_rows (left_of m) (at - m.first) memory o bs r x h.rows (inside_left m.rows.items m.first memory at place) (stands_left m.rows.items m.first memory at place)
        (row_left m.rows.items m.first memory at place r is) same may bytes))

    pub written_fills : held_by n ≡ fills (held_by m ++ write_of memory o bs ∷ [])
    written_fills =
        ap fills_of left_is
        ∙ there_fills (left_of m) (at - m.first) memory o bs r x h.rows (inside_left m.rows.items m.first memory at place) (stands_left m.rows.items m.first memory at place)
        (row_left m.rows.items m.first memory at place r is) same may bytes

-- ---- a memory that is new

module _ (m n : Memories) (memory o : ℕ) (bs : List ℕ) (x : MemoryBytes) (h : AreIndexed m) (new : is_among memory (drop m.first (numbers_of m.rows.items)) ≡ false)
    (number : x.memory ≡ memory) (may : MayHold (write_of memory o bs)) (bytes : stretches_byte x.stretches ≡ overlay o bs nothing)
    (rows : n.rows.items ≡ m.rows.items ++ x ∷ []) (first : n.first ≡ m.first) (places : n.places.map ≡ fin.insert m.places.map memory (length m.rows.items)) where
  longer_left : left_of n ≡ left_of m ++ x ∷ []
  longer_left = (λ i. drop (first i) (rows i)) ∙ drop-append-le m.first m.rows.items (x ∷ []) h.front

  absent : is_among memory (numbers_of (left_of m)) ≡ false
  absent = ap (is_among memory) (numbers_left m.first m.rows.items) ∙ new

  longer_numbers : numbers_of n.rows.items ≡ numbers_of m.rows.items ++ memory ∷ []
  longer_numbers = ap numbers_of rows ∙ map-append (λ m. m.memory) m.rows.items (x ∷ []) ∙ ap (λ k. numbers_of m.rows.items ++ k ∷ []) number

  all_places : ArePlaces m.first (numbers_of m.rows.items ++ memory ∷ []) (fin.insert m.places.map memory (length (numbers_of m.rows.items)))
  all_places =
      let f = h.front in let e = length-map m.rows.items (λ m. m.memory) in
      places_new m.first memory (numbers_of m.rows.items) m.places.map (omega (arith, f, e)) h.places

  pub longer_indexed : AreIndexed n
  longer_indexed =
      let f = h.front in let e = ap length rows in let a = length-append m.rows.items (x ∷ []) in
      record {
        front = omega (arith, f, e, a, first);
        rows = subst (λ l. AreRows (rows_of l)) (sym longer_left) (new_rows (left_of m) memory o bs x h.rows absent number may bytes);
        places = subst (λ k. ArePlaces k (numbers_of n.rows.items) n.places.map) (sym first)
            (subst (λ l. ArePlaces m.first l n.places.map) (sym longer_numbers)
            (subst (ArePlaces m.first (numbers_of m.rows.items ++ memory ∷ [])) (ap (fin.insert m.places.map memory) (length-map m.rows.items (λ m. m.memory)) ∙ sym places) all_places));
      }

  pub longer_fills : held_by n ≡ fills (held_by m ++ write_of memory o bs ∷ [])
  longer_fills = ap fills_of longer_left ∙ new_fills (left_of m) memory o bs x h.rows absent number may bytes

-- ---- the first memory goes

module _ (m n : Memories) (memory : ℕ) (h : IsFirst m memory) (places : n.places.map ≡ fin.remove m.places.map memory) where
  fewer : ArePlaces (m.first + 1) (numbers_of m.rows.items) n.places.map
  fewer =
      let l = h.some in let e = length-map m.rows.items (λ m. m.memory) in
      subst (ArePlaces (m.first + 1) (numbers_of m.rows.items)) (sym places)
      (places_fewer m.first memory (numbers_of m.rows.items) m.places.map (omega (arith, l, e)) h.same (ap (is_among memory) (sym (numbers_left (m.first + 1) m.rows.items)) ∙ h.other) h.places)

  behind : drop (m.first + 1) m.rows.items ≡ drop 1 (left_of m)
  behind = sym (drop-drop 1 m.first m.rows.items)

  module _ (rows : n.rows.items ≡ m.rows.items) (first : n.first ≡ m.first + 1) where
    pub fewer_left : left_of n ≡ drop 1 (left_of m)
    fewer_left = (λ i. drop (first i) (rows i)) ∙ behind

    pub fewer_indexed : AreIndexed n
    fewer_indexed =
        let l = h.some in let e = ap length rows in
        record {
          front = omega (arith, l, e, first);
          rows = subst (λ l. AreRows (rows_of l)) ((λ i. drop (sym first i) (sym rows i))) h.rows;
          places = subst (λ k. ArePlaces k (numbers_of n.rows.items) n.places.map) (sym first) (subst (λ l. ArePlaces (m.first + 1) (numbers_of l) n.places.map) (sym rows) fewer);
        }

  module _ (rows : n.rows.items ≡ []) (first : n.first ≡ 0) (last : m.first + 1 ≡ length m.rows.items) where
    pub none_left : left_of n ≡ drop 1 (left_of m)
    none_left = (λ i. drop (first i) (rows i)) ∙ sym (drop-length m.rows.items) ∙ ap (λ k. drop k m.rows.items) (sym last) ∙ behind

    pub none_indexed : AreIndexed n
    none_indexed =
        let e = length-map m.rows.items (λ m. m.memory) in
        record {
          front = omega (arith, first);
          rows = subst (λ l. AreRows (rows_of l)) (λ i. drop (sym first i) (sym rows i)) tt;
          places = subst (λ k. ArePlaces k (numbers_of n.rows.items) n.places.map) (sym first) (subst (λ l. ArePlaces 0 (numbers_of l) n.places.map) (sym rows)
              (places_none n.places.map (m.first + 1) (numbers_of m.rows.items) (omega (arith, last, e)) fewer));
        }

-- ---- the first fill goes

module _ (m n : Memories) (r x : MemoryBytes) (h : AreIndexed m) (some : m.first < length m.rows.items) (is : r ≡ get_or m.rows.items m.first r) (same : x.memory ≡ r.memory)
    (rows : n.rows.items ≡ set m.rows.items m.first x) (first : n.first ≡ m.first) (places : n.places.map ≡ m.places.map)
    (went : IsDropped (stretches_byte r.stretches) (stretches_byte x.stretches) ⊎ ((stretches_byte r.stretches ≡ nothing) × (stretches_byte x.stretches ≡ nothing))) where
  at_front : IsAt m.first (numbers_of m.rows.items) r.memory m.first
  at_front =
      let e = length-map m.rows.items (λ m. m.memory) in
      record {
        left = omega arith;
        inside = omega (arith, some, e);
        same = λ d. by m.rows.items m.first some is d;
      }
    where
      by : (ms : List MemoryBytes) (at : ℕ) → at < length ms → r ≡ get_or ms at r → (d : ℕ) → get_or (numbers_of ms) at d ≡ r.memory
      by [] at l e d = absurd (omega (arith, l))
      by (m ∷ ms) zero l e d = ap (λ y. y.memory) (sym e)
      by (m ∷ ms) (suc at) l e d = by ms at (omega (arith, l)) e d

  front_is : r ≡ get_or (left_of m) 0 r
  front_is = let e : m.first ≡ m.first + 0 = omega arith in is ∙ ap (λ k. get_or m.rows.items k r) e ∙ sym (get_or-drop m.first m.rows.items 0 r)

  not_empty : length (left_of m) ≡ 0 → ⊥
  not_empty z = let e = length-drop m.first m.rows.items in omega (arith, e, some, z)

  dropped : IsDropped (stretches_byte r.stretches) (stretches_byte x.stretches)
  dropped = was_dropped (left_of m) r (stretches_byte x.stretches) not_empty front_is h.rows went

  left_set : left_of n ≡ set (left_of m) 0 x
  left_set =
      let e : m.first - m.first ≡ 0 = omega arith in
      left_is m n m.first r.memory 0 [] r x h at_front is same rows first places ∙ ap (λ k. set (left_of m) k x) e

  -- more is held for the memory
  pub shorter_indexed : (stretches_byte x.stretches ≡ nothing → ⊥) → AreIndexed n
  shorter_indexed more = indexed_by m n m.first r.memory 0 [] r x h at_front is same rows first places
      (subst (λ l. AreRows (rows_of l)) (sym left_set) (dropped_rows (left_of m) r x not_empty front_is h.rows same dropped more))

  pub shorter_fills : held_by n ≡ drop 1 (held_by m)
  shorter_fills = ap fills_of left_set ∙ dropped_fills (left_of m) r x not_empty front_is h.rows same dropped

  -- nothing more is held for the memory
  pub is_first : IsFirst n r.memory
  is_first =
      let numbers = numbers_same m n m.first r.memory 0 [] r x h at_front is same rows first places in
      let e = ap length numbers in
      let a = length-map n.rows.items (λ m. m.memory) in
      let b = length-map m.rows.items (λ m. m.memory) in
      record {
        some = omega (arith, e, a, b, some, first);
        same = λ d. (λ i. get_or (numbers i) (first i) d) ∙ at_front.same d;
        rows = subst (λ l. AreRows (rows_of l)) (sym behind_front) (tail (left_of m) h.rows);
        other = ap (λ l. is_among r.memory (numbers_of l)) behind_front ∙ head (left_of m) front_is h.rows;
        places = subst (λ k. ArePlaces k (numbers_of n.rows.items) n.places.map) (sym first)
            (subst (λ l. ArePlaces m.first l n.places.map) (sym numbers) (subst (ArePlaces m.first (numbers_of m.rows.items)) (sym places) h.places));
      }
    where
      behind_front : drop (n.first + 1) n.rows.items ≡ drop 1 (left_of m)
      behind_front = sym (drop-drop 1 n.first n.rows.items) ∙ ap (drop 1) left_set ∙ by (left_of m)
        where
          by : (l : List MemoryBytes) → drop 1 (set l 0 x) ≡ drop 1 l
          by [] = refl
          by (y ∷ l) = refl

      tail : (l : List MemoryBytes) → AreRows (rows_of l) → AreRows (rows_of (drop 1 l))
      tail [] g = g
      tail (y ∷ l) g = g.2

      head : (l : List MemoryBytes) → r ≡ get_or l 0 r → AreRows (rows_of l) → is_among r.memory (numbers_of (drop 1 l)) ≡ false
      head [] e g = refl
      head (y ∷ l) e g = ap (λ k. is_among k.memory (numbers_of l)) e ∙ ap (is_among y.memory) (sym (rows-numbers l)) ∙ g.1

  pub last_fills : (n' : Memories) → left_of n' ≡ drop 1 (left_of n) → stretches_byte x.stretches ≡ nothing → held_by n' ≡ drop 1 (held_by m)
  last_fills n' left none =
      ap fills_of (left ∙ ap (drop 1) left_set) ∙ dropped_last (left_of m) r x not_empty front_is h.rows same dropped none

-- ---- the first fill

module _ (m : Memories) (r : MemoryBytes) (h : AreIndexed m) (some : m.first < length m.rows.items) (is : r ≡ get_or m.rows.items m.first r) where
  front_here : r ≡ get_or (left_of m) 0 r
  front_here = let e : m.first ≡ m.first + 0 = omega arith in is ∙ ap (λ k. get_or m.rows.items k r) e ∙ sym (get_or-drop m.first m.rows.items 0 r)

  some_left : length (left_of m) ≡ 0 → ⊥
  some_left z = let e = length-drop m.first m.rows.items in omega (arith, e, some, z)

  pub first_is_held : (a : ℕ) (bytes : List ℕ) → IsFirstRun (stretches_byte r.stretches) a bytes → slice_get (held_by m) 0 ≡ Some (write_of r.memory a bytes)
  first_is_held a bytes run = first_fill (left_of m) r a bytes some_left front_here run

  pub first_has_bytes : stretches_byte r.stretches ≡ nothing → ⊥
  first_has_bytes none = first_held (left_of m) r some_left front_here h.rows none

-- no memory
pub none_indexed_new : (m : Memories) → m.rows.items ≡ [] → m.first ≡ 0 → m.places.map ≡ fin.empty → AreIndexed m
none_indexed_new m rows first places = record {
  front = omega (arith, first);
  rows = subst (λ l. AreRows (rows_of l)) (λ i. drop (sym first i) (sym rows i)) tt;
  places = subst (λ k. ArePlaces k (numbers_of m.rows.items) m.places.map) (sym first)
      (subst (λ l. ArePlaces 0 (numbers_of l) m.places.map) (sym rows) (subst (ArePlaces 0 []) (sym places) no_places));
}
  where
    no_places : ArePlaces 0 [] fin.empty
    no_places = record {
      found = λ memory at e. absurd (let none : None ≡ Some at = sym (fin.get-empty nat_cmp memory) ∙ e in cc);
      missing = λ memory e. refl;
    }
