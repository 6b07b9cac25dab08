-- Laws of the lines of listings, which functions with empty bodies promise.
use Rattle.std.specs.Prelude.{◌≡◌, ◌⊎◌, ◌<◌, ℕ, true, List, ◌++◌, length, Some}
use Rattle.gfx_feature_model.specs.Listing.{IsListing}
use Rattle.gfx_grammar.specs.Framing.{Part}
use Rattle.gfx_grammar.specs.Reads.{AreBytes}
use Rattle.gfx_text_grammar.specs.Lines.{read_line}
use Rattle.gfx_text_grammar.specs.Listings.{read_header}
use Rattle.gfx_text_grammar.specs.Splits.{is_without}
use Rattle.gfx_listing_law.specs.Fronts.{BeginsWith, IsBadAtLine, IsLongLine, IsNoLine, bytes_in, max_line_bytes, unlisted}

-- no line of a header or of a block is too long
abbrev pub LinesAreShort : Type 0
LinesAreShort = ((text bytes : List ℕ) → read_header text ≡ Some bytes → length text < max_line_bytes)
    × ((m : ℕ) (text : List ℕ) (p : Part) → read_line m text ≡ Some p → length text < max_line_bytes)

-- what first lines of a text list is a prefix of what the text lists
abbrev pub FrontsAreUnlisted : Type 0
FrontsAreUnlisted = (lines : List (List ℕ)) (rest text : List ℕ) → BeginsWith lines rest text
    → (more : List ℕ) × (unlisted text ≡ bytes_in lines ++ more)

-- and it is all, where the next line is none, or there is none
abbrev pub AllIsUnlisted : Type 0
AllIsUnlisted = (lines : List (List ℕ)) (rest text : List ℕ) → BeginsWith lines rest text
    → IsNoLine lines rest ⊎ ((is_without 10 rest ≡ true) ⊎ IsLongLine rest) → unlisted text ≡ bytes_in lines

-- a listing lists its file
abbrev pub ListingsAreUnlisted : Type 0
ListingsAreUnlisted = (bytes text : List ℕ) → AreBytes bytes → IsListing bytes text → unlisted text ≡ bytes

-- a listing has no bad line
abbrev pub ListingsAreGood : Type 0
ListingsAreGood = (bytes text : List ℕ) (number : ℕ) → AreBytes bytes → IsListing bytes text → IsBadAtLine number text → ⊥

-- a text has one first bad line
abbrev pub OneBadLine : Type 0
OneBadLine = (text : List ℕ) (number other : ℕ) → IsBadAtLine number text → IsBadAtLine other text → number ≡ other
