-- A write added to rows of memories.
use Rattle.std.proofs.Common.{◌≡◌, ℕ, zero, suc, ◌+◌, ◌<◌, ◌≤◌, Bool, true, false, cond, not, refl, ap, sym, ◌∙◌, List, [], ◌∷◌, ◌++◌, length, set, get_or, nat_le, nat_lt, ◌&&◌, ◌==◌, Option, Some, None, arith}
use Rattle.std.specs.Option.{option_or}
use Rattle.std.proofs.lemmas.List.{map-append, append-nil}
use Rattle.std.proofs.lemmas.Bool.{ne_eqb, eq-eqb, eqb-true, le-leb, lt-ltb, or_parts, or_left, or_right, or_from}
use Rattle.std.proofs.lemmas.Bool.Decides.{nat_tests}
use Rattle.gfx_model.specs.Checks.{is_among}
use Rattle.gfx_shadow.specs.Writes.{Write, MayHold, byte_of, firsts, memory_limit}
use Rattle.gfx_shadow.specs.Overlay.{overlay, nothing}
use Rattle.gfx_shadow.specs.Rows.{Row, IsRow, AreRows}
use Rattle.gfx_shadow.proofs.Bytes.{given}
use Rattle.gfx_shadow.proofs.Serve.{firsts_both, some_runs}
use Rattle.gfx_shadow.proofs.Rows.{numbers, rows_byte, Adds, firsts_rows}

-- ---- one row

-- the row of a memory after a write
abbrev pub written : Write → (ℕ → Option ℕ) → Row
written w f = record { memory = w.memory; byte = overlay w.offset w.bytes f }

overlay_at : (w : Write) (f : ℕ → Option ℕ) (i : ℕ) → (t : Bool) → (nat_le w.offset i && nat_lt i (w.offset + length w.bytes)) ≡ t → overlay w.offset w.bytes f i ≡ cond t (Some (byte_of i w)) (f i)
unfolding overlay
overlay_at w f i t e = ap (λ t. cond t (Some (byte_of i w)) (f i)) e

given_here : (w : Write) (f : ℕ → Option ℕ) (m i : ℕ) → (w.memory == m) ≡ true → overlay w.offset w.bytes f i ≡ option_or (given m i w) (f i)
given_here w f m i e = by (nat_le w.offset i && nat_lt i (w.offset + length w.bytes)) refl
  where
    by : (t : Bool) → (nat_le w.offset i && nat_lt i (w.offset + length w.bytes)) ≡ t → overlay w.offset w.bytes f i ≡ option_or (given m i w) (f i)
    by true g =
        overlay_at w f i true g
        ∙ sym (ap (λ t. option_or (cond (t && nat_le w.offset i && nat_lt i (w.offset + length w.bytes)) (Some (byte_of i w)) None) (f i)) e
        ∙ ap (λ t. option_or (cond t (Some (byte_of i w)) None) (f i)) g)
    by false g =
        overlay_at w f i false g
        ∙ sym (ap (λ t. option_or (cond (t && nat_le w.offset i && nat_lt i (w.offset + length w.bytes)) (Some (byte_of i w)) None) (f i)) e
        ∙ ap (λ t. option_or (cond t (Some (byte_of i w)) None) (f i)) g)

given_elsewhere : (w : Write) (m i : ℕ) → (w.memory == m) ≡ false → given m i w ≡ None
given_elsewhere w m i e = ap (λ t. cond (t && nat_le w.offset i && nat_lt i (w.offset + length w.bytes)) (Some (byte_of i w)) None) e

pub written_is : (w : Write) (f : ℕ → Option ℕ) → MayHold w → ((i : ℕ) → memory_limit ≤ i → f i ≡ None) → IsRow (written w f)
unfolding overlay
written_is w f h below =
    let some = h.some in let inside = h.inside in
    record {
      below = λ i l. let z = below i l in grind (arith, nat_tests);
      some = some_runs (overlay w.offset w.bytes f) memory_limit w.offset (byte_of w.offset w) (omega arith)
          (overlay_at w f w.offset true (ap (λ t. t && nat_lt w.offset (w.offset + length w.bytes)) (le-leb w.offset w.offset (omega arith)) ∙ lt-ltb w.offset (w.offset + length w.bytes) (omega arith)));
    }

-- ---- a row that is there

numbers_set : (rows : List Row) (at : ℕ) (d r : Row) → r.memory ≡ (get_or rows at d).memory → at < length rows → numbers (set rows at r) ≡ numbers rows
numbers_set [] at d r e l = absurd (omega arith)
numbers_set (x ∷ xs) zero d r e l = ap (λ m. m ∷ numbers xs) e
numbers_set (x ∷ xs) (suc at) d r e l = ap (λ ms. x.memory ∷ ms) (numbers_set xs at d r e (omega arith))

pub among_at : (rows : List Row) (at : ℕ) (d : Row) (m : ℕ) → at < length rows → (get_or rows at d).memory ≡ m → is_among m (numbers rows) ≡ true
among_at [] at d m l e = absurd (omega arith)
among_at (x ∷ xs) zero d m l e = or_left (x.memory == m) (is_among m (numbers xs)) (eq-eqb x.memory m e)
among_at (x ∷ xs) (suc at) d m l e = or_right (x.memory == m) (is_among m (numbers xs)) (among_at xs at d m (omega arith) e)

bytes_set : (rows : List Row) (at : ℕ) (d : Row) (w : Write) → AreRows rows → at < length rows → (get_or rows at d).memory ≡ w.memory
    → (m i : ℕ) → rows_byte (set rows at (written w (get_or rows at d).byte)) m i ≡ option_or (given m i w) (rows_byte rows m i)
bytes_set [] at d w h l e m i = absurd (omega arith)
bytes_set (x ∷ xs) zero d w h l e m i = by (w.memory == m) refl
  where
    by : (t : Bool) → (w.memory == m) ≡ t → cond (w.memory == m) (overlay w.offset w.bytes x.byte i) (rows_byte xs m i) ≡ option_or (given m i w) (cond (x.memory == m) (x.byte i) (rows_byte xs m i))
    by true g =
        ap (λ t. cond t (overlay w.offset w.bytes x.byte i) (rows_byte xs m i)) g
        ∙ given_here w x.byte m i g
        ∙ ap (λ t. option_or (given m i w) (cond t (x.byte i) (rows_byte xs m i))) (sym (ap (λ n. n == m) e ∙ g))
    by false g =
        ap (λ t. cond t (overlay w.offset w.bytes x.byte i) (rows_byte xs m i)) g
        ∙ ap (λ t. cond t (x.byte i) (rows_byte xs m i)) (sym (ap (λ n. n == m) e ∙ g))
        ∙ ap (λ o. option_or o (cond (x.memory == m) (x.byte i) (rows_byte xs m i))) (sym (given_elsewhere w m i g))
bytes_set (x ∷ xs) (suc at) d w h l e m i =
    ap (cond (x.memory == m) (x.byte i)) (bytes_set xs at d w h.2 (omega arith) e m i) ∙ by (x.memory == m) refl
  where
    apart : (x.memory == m) ≡ true → (w.memory == m) ≡ false
    apart g = ne_eqb w.memory m (λ s. let a = among_at xs at d x.memory (omega arith) (e ∙ s ∙ sym (eqb-true x.memory m g)) in absurd (let b = h.1 in cc))

    by : (t : Bool) → (x.memory == m) ≡ t → cond t (x.byte i) (option_or (given m i w) (rows_byte xs m i)) ≡ option_or (given m i w) (cond t (x.byte i) (rows_byte xs m i))
    by true g = ap (λ o. option_or o (x.byte i)) (sym (given_elsewhere w m i (apart g)))
    by false g = refl

firsts_known : (xs : List ℕ) (m : ℕ) → is_among m xs ≡ true → firsts (xs ++ m ∷ []) ≡ firsts xs
unfolding firsts
firsts_known xs m h = firsts_both xs (m ∷ []) ∙ ap (λ t. firsts xs ++ cond (not t) (m ∷ []) []) h ∙ append-nil (firsts xs)

firsts_new : (xs : List ℕ) (m : ℕ) → is_among m xs ≡ false → firsts (xs ++ m ∷ []) ≡ firsts xs ++ m ∷ []
unfolding firsts
firsts_new xs m h = firsts_both xs (m ∷ []) ∙ ap (λ t. firsts xs ++ cond (not t) (m ∷ []) []) h

pub adds_there : (rows : List Row) (at : ℕ) (d : Row) (w : Write) → AreRows rows → at < length rows → (get_or rows at d).memory ≡ w.memory
    → Adds rows w (set rows at (written w (get_or rows at d).byte))
adds_there rows at d w h l e = (
  firsts_known (numbers rows) w.memory (among_at rows at d w.memory l e)
      ∙ firsts_rows rows h
      ∙ sym (numbers_set rows at d (written w (get_or rows at d).byte) (sym e) l),
  bytes_set rows at d w h l e,
)

pub rows_set : (rows : List Row) (at : ℕ) (d r : Row) → AreRows rows → at < length rows → (get_or rows at d).memory ≡ r.memory → IsRow r → AreRows (set rows at r)
rows_set [] at d r h l e g = absurd (omega arith)
rows_set (x ∷ xs) zero d r h l e g = (g, ap (λ m. is_among m (numbers xs)) (sym e) ∙ h.1, h.2)
rows_set (x ∷ xs) (suc at) d r h l e g =
    (h.0, ap (is_among x.memory) (numbers_set xs at d r (sym e) (omega arith)) ∙ h.1, rows_set xs at d r h.2 (omega arith) e g)

pub row_at : (rows : List Row) (at : ℕ) (d : Row) → AreRows rows → at < length rows → IsRow (get_or rows at d)
row_at [] at d h l = absurd (omega arith)
row_at (x ∷ xs) zero d h l = h.0
row_at (x ∷ xs) (suc at) d h l = row_at xs at d h.2 (omega arith)

-- ---- a row that is new

bytes_new : (rows : List Row) (w : Write) → is_among w.memory (numbers rows) ≡ false → (m i : ℕ) → rows_byte (rows ++ written w nothing ∷ []) m i ≡ option_or (given m i w) (rows_byte rows m i)
bytes_new [] w h m i = by (w.memory == m) refl
  where
    by : (t : Bool) → (w.memory == m) ≡ t → cond t (overlay w.offset w.bytes nothing i) None ≡ option_or (given m i w) None
    by true g = given_here w nothing m i g
    by false g = ap (λ o. option_or o None) (sym (given_elsewhere w m i g))
bytes_new (x ∷ xs) w h m i =
    ap (cond (x.memory == m) (x.byte i)) (bytes_new xs w (or_parts (x.memory == w.memory) (is_among w.memory (numbers xs)) h).1 m i) ∙ by (x.memory == m) refl
  where
    apart : (x.memory == m) ≡ true → (w.memory == m) ≡ false
    apart g = ne_eqb w.memory m (λ s. absurd (
        let a = eq-eqb x.memory w.memory (eqb-true x.memory m g ∙ sym s) in
        let b = (or_parts (x.memory == w.memory) (is_among w.memory (numbers xs)) h).0 in cc))

    by : (t : Bool) → (x.memory == m) ≡ t → cond t (x.byte i) (option_or (given m i w) (rows_byte xs m i)) ≡ option_or (given m i w) (cond t (x.byte i) (rows_byte xs m i))
    by true g = ap (λ o. option_or o (x.byte i)) (sym (given_elsewhere w m i (apart g)))
    by false g = refl

pub adds_new : (rows : List Row) (w : Write) → AreRows rows → is_among w.memory (numbers rows) ≡ false → Adds rows w (rows ++ written w nothing ∷ [])
adds_new rows w h e = (
  firsts_new (numbers rows) w.memory e
      ∙ ap (λ l. l ++ w.memory ∷ []) (firsts_rows rows h)
      ∙ sym (map-append (λ s. s.memory) rows (written w nothing ∷ [])),
  bytes_new rows w e,
)

pub among-append : (xs : List ℕ) (m n : ℕ) → is_among m xs ≡ false → (n == m) ≡ false → is_among m (xs ++ n ∷ []) ≡ false
among-append [] m n h e = or_from (n == m) false e refl
among-append (x ∷ xs) m n h e = let parts = or_parts (x == m) (is_among m xs) h in or_from (x == m) (is_among m (xs ++ n ∷ [])) parts.0 (among-append xs m n parts.1 e)

pub rows_new : (rows : List Row) (r : Row) → AreRows rows → is_among r.memory (numbers rows) ≡ false → IsRow r → AreRows (rows ++ r ∷ [])
rows_new [] r h e g = (g, refl, tt)
rows_new (x ∷ xs) r h e g =
    let parts = or_parts (x.memory == r.memory) (is_among r.memory (numbers xs)) e in
    let other : (r.memory == x.memory) ≡ false = ne_eqb r.memory x.memory (λ s. absurd (let a = eq-eqb x.memory r.memory (sym s) in let b = parts.0 in cc)) in (
      h.0,
      ap (is_among x.memory) (map-append (λ s. s.memory) xs (r ∷ [])) ∙ among-append (numbers xs) x.memory r.memory h.1 other,
      rows_new xs r h.2 parts.1 g,
    )
