-- Memories with their bytes, as rows.
use Rattle.std.proofs.Common.{◌≡◌, ℕ, zero, suc, ◌+◌, ◌-◌, ◌<◌, ◌≤◌, false, cond, refl, ap, sym, subst, ◌∙◌, List, [], ◌∷◌, ◌++◌, map, length, set, get_or, drop, nat_lt, ◌&&◌, Option, Some, None, arith, ◌⊎◌, inl, inr}
use Rattle.std.specs.List.{slice_get}
use Rattle.std.proofs.lemmas.List.{map-append, set-get_or}
use Rattle.std.proofs.lemmas.Bool.{cases_lt, lt-ltb, le-leb}
use Rattle.gfx_model.specs.Checks.{is_among}
use Rattle.gfx_shadow.specs.declared.stretches.Stretches.{Stretches}
use Rattle.gfx_shadow.specs.declared.memory.MemoryBytes.{MemoryBytes}
use Rattle.gfx_shadow.specs.Writes.{write_of, MayHold, fills, runs, in_memory, memory_limit}
use Rattle.gfx_shadow.specs.Overlay.{nothing, overlay, IsFirst, IsDropped}
use Rattle.gfx_shadow.specs.Rows.{Row, rows_fills, AreRows}
use Rattle.gfx_shadow.specs.Stretches.{stretches_byte}
use Rattle.gfx_shadow.specs.Memories.{row_of, rows_of, numbers_of, fills_of}
use Rattle.gfx_shadow.proofs.Bytes.{run_byte, run_byte-runs}
use Rattle.gfx_shadow.proofs.ByEnd.{all_below}
use Rattle.gfx_shadow.proofs.First.{runs_is_first, runs_dropped, first_below}
use Rattle.gfx_shadow.proofs.Rows.{numbers, rows_added}
use Rattle.gfx_shadow.proofs.Adding.{written, written_is, adds_there, rows_set, row_at, adds_new, rows_new}

pub stretches_below : (w : Stretches) (i : ℕ) → memory_limit ≤ i → stretches_byte w i ≡ None
unfolding stretches_byte
stretches_below w i l = all_below w.by_end.map i l

-- ---- lists of rows

rows-set : (ms : List MemoryBytes) (at : ℕ) (x : MemoryBytes) → rows_of (set ms at x) ≡ set (rows_of ms) at (row_of x)
rows-set [] at x = refl
rows-set (m ∷ ms) zero x = refl
rows-set (m ∷ ms) (suc at) x = ap (λ rs. row_of m ∷ rs) (rows-set ms at x)

rows-at : (ms : List MemoryBytes) (at : ℕ) (d : MemoryBytes) → get_or (rows_of ms) at (row_of d) ≡ row_of (get_or ms at d)
rows-at [] at d = refl
rows-at (m ∷ ms) zero d = refl
rows-at (m ∷ ms) (suc at) d = rows-at ms at d

rows-length : (ms : List MemoryBytes) → length (rows_of ms) ≡ length ms
rows-length [] = refl
rows-length (m ∷ ms) = ap suc (rows-length ms)

pub rows-numbers : (ms : List MemoryBytes) → numbers (rows_of ms) ≡ numbers_of ms
rows-numbers [] = refl
rows-numbers (m ∷ ms) = ap (λ l. m.memory ∷ l) (rows-numbers ms)

-- ---- a memory that is there

module _ (ms : List MemoryBytes) (at memory o : ℕ) (bs : List ℕ) (r x : MemoryBytes) (rows : AreRows (rows_of ms)) (low : at < length ms) (stands : (d : MemoryBytes) → (get_or ms at d).memory ≡ memory) (is : r ≡ get_or ms at r) (same : x.memory ≡ r.memory) where
  pub there_same : stretches_byte x.stretches ≡ stretches_byte r.stretches → rows_of (set ms at x) ≡ rows_of ms
  there_same h =
      rows-set ms at x
      ∙ (λ i. set (rows_of ms) at (record { memory = same i; byte = h i }))
      ∙ ap (λ y. set (rows_of ms) at y) (ap row_of is ∙ sym (rows-at ms at r))
      ∙ set-get_or (rows_of ms) at (row_of r)

  module _ (may : MayHold (write_of memory o bs)) (bytes : stretches_byte x.stretches ≡ overlay o bs (stretches_byte r.stretches)) where
    old : Row
    old = get_or (rows_of ms) at (row_of r)

    old_is : old ≡ row_of r
    unfolding old
    old_is = rows-at ms at r ∙ ap row_of (sym is)

    inside : at < length (rows_of ms)
    inside = let l = rows-length ms in omega arith

    number : r.memory ≡ memory
    number = ap (λ m. m.memory) is ∙ stands r

    old_number : old.memory ≡ memory
    old_number = ap (λ y. y.memory) old_is ∙ number

    next : List Row
    next = set (rows_of ms) at (written (write_of memory o bs) old.byte)

    next_is : rows_of (set ms at x) ≡ next
    unfolding next
    next_is =
        let e = same ∙ number in
        let h = bytes ∙ ap (λ y. overlay o bs y.byte) (sym old_is) in
        rows-set ms at x ∙ (λ i. set (rows_of ms) at (record { memory = e i; byte = h i }))

    next_rows : AreRows next
    unfolding next old
    next_rows =
        rows_set (rows_of ms) at (row_of r) (written (write_of memory o bs) old.byte) rows inside old_number
        (written_is (write_of memory o bs) old.byte may (row_at (rows_of ms) at (row_of r) rows inside).below)

    pub there_rows : AreRows (rows_of (set ms at x))
    there_rows = subst AreRows (sym next_is) next_rows

    pub there_fills : fills_of (set ms at x) ≡ fills (fills_of ms ++ write_of memory o bs ∷ [])
    unfolding next old
    there_fills =
        ap rows_fills next_is
        ∙ rows_added (rows_of ms) next (write_of memory o bs) rows next_rows (adds_there (rows_of ms) at (row_of r) (write_of memory o bs) rows inside old_number)

-- ---- a memory that is new

module _ (ms : List MemoryBytes) (memory o : ℕ) (bs : List ℕ) (x : MemoryBytes) (rows : AreRows (rows_of ms)) (new : is_among memory (numbers_of ms) ≡ false)
    (number : x.memory ≡ memory) (may : MayHold (write_of memory o bs)) (bytes : stretches_byte x.stretches ≡ overlay o bs nothing) where
  absent : is_among memory (numbers (rows_of ms)) ≡ false
  absent = ap (is_among memory) (rows-numbers ms) ∙ new

  longer : rows_of (ms ++ x ∷ []) ≡ rows_of ms ++ written (write_of memory o bs) nothing ∷ []
  longer = map-append row_of ms (x ∷ []) ∙ (λ i. rows_of ms ++ record { memory = number i; byte = bytes i } ∷ [])

  longer_rows : AreRows (rows_of ms ++ written (write_of memory o bs) nothing ∷ [])
  longer_rows = rows_new (rows_of ms) (written (write_of memory o bs) nothing) rows absent (written_is (write_of memory o bs) nothing may (λ i l. refl))

  pub new_rows : AreRows (rows_of (ms ++ x ∷ []))
  new_rows = subst AreRows (sym longer) longer_rows

  pub new_fills : fills_of (ms ++ x ∷ []) ≡ fills (fills_of ms ++ write_of memory o bs ∷ [])
  new_fills = ap rows_fills longer ∙ rows_added (rows_of ms) _ (write_of memory o bs) rows longer_rows (adds_new (rows_of ms) (write_of memory o bs) rows absent)

-- ---- the first fill

runs_nothing : (n a : ℕ) → runs nothing a n ≡ []
unfolding runs
runs_nothing zero a = refl
runs_nothing (suc n) a = runs_nothing n (a + 1)

no_runs : (f : ℕ → Option ℕ) (n : ℕ) → ((i : ℕ) → n ≤ i → f i ≡ None) → runs f 0 n ≡ [] → f ≡ nothing
no_runs f n below none = λ j i. each i j
  where
    each : (i : ℕ) → f i ≡ None
    each i = elim (cases_lt i n) [
      | inl low ↦
          sym (run_byte-runs f 0 n i ∙ ap (λ t. cond (t && nat_lt i (0 + n)) (f i) None) (le-leb 0 i (omega arith)) ∙ ap (λ t. cond t (f i) None) (lt-ltb i (0 + n) (omega arith)))
          ∙ ap (λ rs. run_byte rs i) none
      | inr high ↦ below i high
    ]

pub first_fill : (ms : List MemoryBytes) (r : MemoryBytes) (a : ℕ) (bytes : List ℕ) → (length ms ≡ 0 → ⊥) → r ≡ get_or ms 0 r → IsFirst (stretches_byte r.stretches) a bytes → slice_get (fills_of ms) 0 ≡ Some (write_of r.memory a bytes)
first_fill [] r a bytes some is first = absurd (some refl)
first_fill (m ∷ ms) r a bytes some is first =
    let l = first_below (stretches_byte r.stretches) a bytes memory_limit first (stretches_below r.stretches) in
    ap (λ y. slice_get (map (in_memory y.memory) (runs (stretches_byte y.stretches) 0 memory_limit) ++ fills_of ms) 0) (sym is)
    ∙ ap (λ rs. slice_get (map (in_memory r.memory) rs ++ fills_of ms) 0) (runs_is_first (stretches_byte r.stretches) a bytes memory_limit (memory_limit - (a + length bytes)) first (omega arith))

pub first_held : (ms : List MemoryBytes) (r : MemoryBytes) → (length ms ≡ 0 → ⊥) → r ≡ get_or ms 0 r → AreRows (rows_of ms) → stretches_byte r.stretches ≡ nothing → ⊥
first_held [] r some is rows none = some refl
first_held (m ∷ ms) r some is rows none = rows.0.some (ap (λ y. runs (stretches_byte y.stretches) 0 memory_limit) (sym is) ∙ ap (λ f. runs f 0 memory_limit) none ∙ runs_nothing memory_limit 0)

-- ---- the first fill is gone

module _ (ms : List MemoryBytes) (r x : MemoryBytes) (some : length ms ≡ 0 → ⊥) (is : r ≡ get_or ms 0 r) (rows : AreRows (rows_of ms)) (same : x.memory ≡ r.memory)
    (dropped : IsDropped (stretches_byte r.stretches) (stretches_byte x.stretches)) where
  pub dropped_fills : fills_of (set ms 0 x) ≡ drop 1 (fills_of ms)
  dropped_fills = by ms some is
    where
      by : (l : List MemoryBytes) → (length l ≡ 0 → ⊥) → r ≡ get_or l 0 r → fills_of (set l 0 x) ≡ drop 1 (fills_of l)
      by [] s e = absurd (s refl)
      by (m ∷ l) s e =
          ap (λ k. map (in_memory k) (runs (stretches_byte x.stretches) 0 memory_limit) ++ fills_of l) same
          ∙ sym (
          ap (λ y. drop 1 (map (in_memory y.memory) (runs (stretches_byte y.stretches) 0 memory_limit) ++ fills_of l)) (sym e)
          ∙ ap (λ rs. drop 1 (map (in_memory r.memory) rs ++ fills_of l)) (runs_dropped (stretches_byte r.stretches) (stretches_byte x.stretches) memory_limit dropped (stretches_below r.stretches)))

  pub dropped_rows : (stretches_byte x.stretches ≡ nothing → ⊥) → AreRows (rows_of (set ms 0 x))
  dropped_rows more = by ms some is rows
    where
      by : (l : List MemoryBytes) → (length l ≡ 0 → ⊥) → r ≡ get_or l 0 r → AreRows (rows_of l) → AreRows (rows_of (set l 0 x))
      by [] s e h = absurd (s refl)
      by (m ∷ l) s e h = (
        record {
          below = stretches_below x.stretches;
          some = λ none. more (no_runs (stretches_byte x.stretches) memory_limit (stretches_below x.stretches) none);
        },
        ap (λ k. is_among k (numbers (rows_of l))) (same ∙ ap (λ y. y.memory) e) ∙ h.1,
        h.2,
      )

  pub dropped_last : stretches_byte x.stretches ≡ nothing → fills_of (drop 1 (set ms 0 x)) ≡ drop 1 (fills_of ms)
  dropped_last none = by ms some is ∙ dropped_fills
    where
      by : (l : List MemoryBytes) → (length l ≡ 0 → ⊥) → r ≡ get_or l 0 r → fills_of (drop 1 (set l 0 x)) ≡ fills_of (set l 0 x)
      by [] s e = absurd (s refl)
      by (m ∷ l) s e = sym (ap (λ f. map (in_memory x.memory) (runs f 0 memory_limit) ++ fills_of l) none ∙ ap (λ rs. map (in_memory x.memory) rs ++ fills_of l) (runs_nothing memory_limit 0))

-- something was held, so the first fill went
pub was_dropped : (ms : List MemoryBytes) (r : MemoryBytes) (g : ℕ → Option ℕ) → (length ms ≡ 0 → ⊥) → r ≡ get_or ms 0 r → AreRows (rows_of ms)
    → IsDropped (stretches_byte r.stretches) g ⊎ ((stretches_byte r.stretches ≡ nothing) × (g ≡ nothing)) → IsDropped (stretches_byte r.stretches) g
was_dropped ms r g some is rows (inl d) = d
was_dropped ms r g some is rows (inr n) = absurd (first_held ms r some is rows n.0)
