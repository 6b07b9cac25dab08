-- The lines of an image's rows, one after another.
use Rattle.std.proofs.Common.{◌≡◌, ℕ, zero, suc, ◌+◌, ◌-◌, ◌*◌, ◌≤◌, ◌<◌, List, ◌++◌, ◌∷◌, take, drop, refl, sym, ap, subst, ◌∙◌, arith, Option}
use Rattle.std.specs.Prelude.{flat_map}
use Rattle.std.specs.List.{range_with_len, slice_range}
use Rattle.std.specs.Io.KnownBytes.{Appends}
use Rattle.std.proofs.lemmas.Grind.{flat_map-append}
use Rattle.std.proofs.lemmas.List.{append-nil}
use Rattle.gfx_io.specs.Pieces.{AppendsPart}
use Rattle.gfx_types.specs.declared.frame.Picture.{Picture}
use Rattle.gfx_model.specs.Text.{line, hex_text, row_bytes, row_lines}
use Rattle.gfx_io.proofs.Appending.{appends_then, part_then, part_of, whole_part}

-- the line of row k
abbrev pub row_at : Picture → ℕ → List ℕ
row_at p k = line (hex_text (take (row_bytes p) (drop (k * row_bytes p) p.pixels)))

-- the lines of n rows, from row a on
abbrev rows_from : Picture → ℕ → ℕ → List ℕ
rows_from p a n = flat_map (row_at p) (range_with_len a n)

-- the lines of the first n rows
abbrev pub rows_to : Picture → ℕ → List ℕ
rows_to p n = rows_from p 0 n

range_split : (a k n m : ℕ) → k + n ≡ m → range_with_len a m ≡ range_with_len a k ++ range_with_len (a + k) n
range_split a zero n m is =
    let same : m ≡ n = omega arith in
    let here : a ≡ a + 0 = omega arith in
    ap (range_with_len a) same ∙ ap (λ b. range_with_len b n) here
range_split a (suc k) n zero is = absurd (omega arith)
range_split a (suc k) n (suc m) is =
    let later : a + 1 + k ≡ a + suc k = omega arith in
    ap (λ xs. a ∷ xs) (range_split (a + 1) k n m (omega arith) ∙ ap (λ b. range_with_len (a + 1) k ++ range_with_len b n) later)

rows_split : (p : Picture) (k n m : ℕ) → k + n ≡ m → rows_to p m ≡ rows_to p k ++ rows_from p (0 + k) n
rows_split p k n m is = ap (flat_map (row_at p)) (range_split 0 k n m is) ∙ flat_map-append (row_at p) (range_with_len 0 k) (range_with_len (0 + k) n)

rows_more : (p : Picture) (k : ℕ) → rows_to p k ++ row_at p k ≡ rows_to p (k + 1)
rows_more p k =
    let here : k ≡ 0 + k = omega arith in
    ap (λ l. rows_to p k ++ l) (ap (row_at p) here ∙ sym (append-nil (row_at p (0 + k)))) ∙ sym (rows_split p k 1 (k + 1) refl)

-- the line of the row that was read
row_read : (p : Picture) (k n : ℕ) (row : List ℕ) → n ≡ row_bytes p → row ≡ slice_range p.pixels (k * n) (k * n + n) → line (hex_text row) ≡ row_at p k
row_read p k n row size is =
    let long : k * n + n - k * n ≡ n = omega arith in
    ap (λ r. line (hex_text r)) (is ∙ ap (λ m. take m (drop (k * n) p.pixels)) long) ∙ ap (λ n. line (hex_text (take n (drop (k * n) p.pixels)))) size

-- ---- what the sink took

pub took_row : (a b c : Option (List ℕ)) (p : Picture) (k n : ℕ) (row text : List ℕ) → n ≡ row_bytes p → row ≡ slice_range p.pixels (k * n) (k * n + n) → text ≡ line (hex_text row) →
    Appends a b (rows_to p k) → Appends b c text → Appends a c (rows_to p (k + 1))
took_row a b c p k n row text size is written took more =
    subst (Appends a c) (rows_more p k)
    (appends_then a b c (rows_to p k) (row_at p k) took (subst (Appends b c) (written ∙ row_read p k n row size is) more))

pub part_before : (a b : Option (List ℕ)) (p : Picture) (k : ℕ) → k ≤ p.height → Appends a b (rows_to p k) → AppendsPart a b (row_lines p)
part_before a b p k below took =
    let all : k + (p.height - k) ≡ p.height = omega arith in
    subst (AppendsPart a b) (sym (rows_split p k (p.height - k) p.height all)) (part_of a b (rows_to p k) (rows_from p (0 + k) (p.height - k)) (whole_part a b (rows_to p k) took))

pub part_row : (a b c : Option (List ℕ)) (p : Picture) (k n : ℕ) (row text : List ℕ) → k < p.height → n ≡ row_bytes p → row ≡ slice_range p.pixels (k * n) (k * n + n) → text ≡ line (hex_text row) →
    Appends a b (rows_to p k) → AppendsPart b c text → AppendsPart a c (row_lines p)
part_row a b c p k n row text below size is written took more =
    let all : k + 1 + (p.height - (k + 1)) ≡ p.height = omega arith in
    let part : AppendsPart a c (rows_to p (k + 1)) = subst (AppendsPart a c) (rows_more p k)
    (part_then a b c (rows_to p k) (row_at p k) took (subst (AppendsPart b c) (written ∙ row_read p k n row size is) more)) in
    subst (AppendsPart a c) (sym (rows_split p (k + 1) (p.height - (k + 1)) p.height all)) (part_of a c (rows_to p (k + 1)) (rows_from p (0 + (k + 1)) (p.height - (k + 1))) part)
