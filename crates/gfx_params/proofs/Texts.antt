-- The bytes of fields that are written one after the other.
use Rattle.std.proofs.Common.{◌≡◌, ℕ, ◌+◌, ◌<◌, ◌≤◌, zero, suc, List, [], ◌∷◌, ◌++◌, length, take, get_or, refl, ap, ◌∙◌, arith}
use Rattle.std.specs.Prelude.{flat_map}
use Rattle.std.proofs.lemmas.Grind.{flat_map-append}
use Rattle.std.proofs.lemmas.List.{take_more, append-nil}
use Rattle.std.proofs.lemmas.List.Folds.{length-flat_map-take}
use Rattle.gfx_model.specs.Spelling.{Field, field_bytes}
use Rattle.gfx_grammar.specs.Reads.{Fits, text_of}

-- the bytes of the items are those of each of them
text_of-items : {X : Type 0} (f : X → List Field) (xs : List X) → text_of (flat_map f xs) ≡ flat_map (λ x. text_of (f x)) xs
text_of-items f [] = refl
text_of-items f (x ∷ xs) = flat_map-append field_bytes (f x) (flat_map f xs) ∙ ap (λ bytes. text_of (f x) ++ bytes) (text_of-items f xs)

-- the bytes of one item more
pub text_more : {X : Type 0} (f : X → List Field) (xs : List X) (i : ℕ) (d : X) → i < length xs
    → text_of (flat_map f (take (i + 1) xs)) ≡ text_of (flat_map f (take i xs)) ++ text_of (f (get_or xs i d))
text_more f xs i d there =
    ap (λ items. text_of (flat_map f items)) (take_more xs i d there)
    ∙ ap text_of (flat_map-append f (take i xs) (get_or xs i d ∷ []))
    ∙ flat_map-append field_bytes (flat_map f (take i xs)) (f (get_or xs i d) ++ [])
    ∙ ap (λ fields. text_of (flat_map f (take i xs)) ++ text_of fields) (append-nil (f (get_or xs i d)))

-- an item and those before it take no more bytes than all
pub item_fits_in : {X : Type 0} (f : X → List Field) (xs : List X) (i : ℕ) (d : X) → i < length xs
    → length (text_of (flat_map f (take i xs))) + length (text_of (f (get_or xs i d))) ≤ length (text_of (flat_map f xs))
item_fits_in f xs i d there =
    omega (arith, length-flat_map-take (λ x. text_of (f x)) xs i d there, ap length (text_of-items f (take i xs)), ap length (text_of-items f xs))

-- of fields that have a spelling, the first ones and the last ones have one
pub fits_first : (first last : List Field) → Fits (first ++ last) → Fits first
fits_first [] last fits = tt
fits_first (f ∷ first) last fits = (fits.0, fits_first first last fits.1)

pub fits_last : (first last : List Field) → Fits (first ++ last) → Fits last
fits_last [] last fits = fits
fits_last (f ∷ first) last fits = fits_last first last fits.1

-- and each item has one
pub item_has_spelling : {X : Type 0} (f : X → List Field) (xs : List X) (i : ℕ) (d : X) → i < length xs → Fits (flat_map f xs) → Fits (f (get_or xs i d))
item_has_spelling f [] i d there fits = absurd (omega arith)
item_has_spelling f (x ∷ xs) zero d there fits = fits_first (f x) (flat_map f xs) fits
item_has_spelling f (x ∷ xs) (suc i) d there fits = item_has_spelling f xs i d (omega arith) (fits_last (f x) (flat_map f xs) fits)
