-- Rows of 640 texels that are copied from the memory to an image.
use Rattle.std.proofs.Common.{◌≡◌, ◌≤◌, ◌<◌, ◌+◌, ◌-◌, ◌*◌, nat_le, nat_lt, ℕ, zero, suc, Bool, true, false, ◌&&◌, ◌==◌, if◌then◌else◌, List, map, fold, refl, ap, ◌∙◌, arith}
use Rattle.std.specs.List.{range_with_len}
use Rattle.std.proofs.lemmas.Bool.{eq-eqb, leb-true, leb-false, ltb-true, ltb-false}
use Rattle.gfx_types.specs.declared.op.Place.{Place}
use Rattle.gfx_types.specs.declared.op.Place.TheVariants as place
use Rattle.gfx_model.specs.Steps.{Step}
use Rattle.gfx_model.specs.Steps.Step.{changes}
use Rattle.gfx_model.specs.Steps.Change.{copy}
use Rattle.gfx_section_law.proofs.Builds.{bytes_step}

-- n rows from row a on
unfoldable pub rows : (image a n : ℕ) → List Step
rows image a n = map changes (map (λ k. copy (place.Image image) (k * 2560) (place.Memory 8) (k * 2560) 2560) (range_with_len a n))

abbrev pub Bytes : Type 0
Bytes = Place → ℕ → ℕ

-- and after row a alone
abbrev after_row : Bytes → (image a : ℕ) → Bytes
after_row f image a = bytes_step f (changes (copy (place.Image image) (a * 2560) (place.Memory 8) (a * 2560) 2560))

pub memory_stays : (n image a : ℕ) (f : Bytes) (j : ℕ) → fold bytes_step f (rows image a n) (place.Memory 8) j ≡ f (place.Memory 8) j
unfolding rows
memory_stays zero image a f j = refl
memory_stays (suc n) image a f j = memory_stays n image (a + 1) (after_row f image a) j

-- a byte of the row, and one of another
row_byte : (image a : ℕ) (f : Bytes) (j : ℕ) → a * 2560 ≤ j → j < (a + 1) * 2560 → after_row f image a (place.Image image) j ≡ f (place.Memory 8) j
row_byte image a f j low high =
    ap (λ b. if b && nat_le (a * 2560) j && nat_lt j (a * 2560 + 2560) then f (place.Memory 8) (a * 2560 + (j - a * 2560)) else f (place.Image image) j) (eq-eqb image image refl)
    ∙ by (nat_le (a * 2560) j) (nat_lt j (a * 2560 + 2560)) refl refl
  where
    by : (c d : Bool) → nat_le (a * 2560) j ≡ c → nat_lt j (a * 2560 + 2560) ≡ d →
        (if c && d then f (place.Memory 8) (a * 2560 + (j - a * 2560)) else f (place.Image image) j) ≡ f (place.Memory 8) j
    by true true l h = let same : a * 2560 + (j - a * 2560) ≡ j = omega (arith, low) in ap (f (place.Memory 8)) same
    by true false l h = let over = ltb-false j (a * 2560 + 2560) h in absurd (omega (arith, high, over))
    by false d l h = let over = leb-false (a * 2560) j l in absurd (omega (arith, low, over))

before_row : (image a : ℕ) (f : Bytes) (j : ℕ) → j < a * 2560 → after_row f image a (place.Image image) j ≡ f (place.Image image) j
before_row image a f j low = by (image == image) (nat_le (a * 2560) j) (nat_lt j (a * 2560 + 2560)) refl
  where
    by : (b c d : Bool) → nat_le (a * 2560) j ≡ c →
        (if b && c && d then f (place.Memory 8) (a * 2560 + (j - a * 2560)) else f (place.Image image) j) ≡ f (place.Image image) j
    by true true d l = let over = leb-true (a * 2560) j l in absurd (omega (arith, low, over))
    by true false d l = refl
    by false c d l = refl

before_rows : (n image a : ℕ) (f : Bytes) (j : ℕ) → j < a * 2560 → fold bytes_step f (rows image a n) (place.Image image) j ≡ f (place.Image image) j
unfolding rows
before_rows zero image a f j low = refl
before_rows (suc n) image a f j low = before_rows n image (a + 1) (after_row f image a) j (omega (arith, low)) ∙ before_row image a f j low

pub row_bytes : (n image a : ℕ) (f : Bytes) (j : ℕ) → a * 2560 ≤ j → j < (a + n) * 2560 → fold bytes_step f (rows image a n) (place.Image image) j ≡ f (place.Memory 8) j
unfolding rows
row_bytes zero image a f j low high = absurd (omega (arith, low, high))
row_bytes (suc n) image a f j low high = by (nat_lt j ((a + 1) * 2560)) refl (row_bytes n image (a + 1) (after_row f image a) j)
  where
    by : (b : Bool) → nat_lt j ((a + 1) * 2560) ≡ b →
        ((a + 1) * 2560 ≤ j → j < (a + 1 + n) * 2560 → fold bytes_step (after_row f image a) (rows image (a + 1) n) (place.Image image) j ≡ after_row f image a (place.Memory 8) j) →
        fold bytes_step (after_row f image a) (rows image (a + 1) n) (place.Image image) j ≡ f (place.Memory 8) j
    by true e later = let here = ltb-true j ((a + 1) * 2560) e in before_rows n image (a + 1) (after_row f image a) j here ∙ row_byte image a f j low here
    by false e later = let over = ltb-false j ((a + 1) * 2560) e in later over (omega (arith, high))
