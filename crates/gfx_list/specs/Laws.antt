-- Laws of listings, which functions with empty bodies promise.
use Rattle.std.specs.Prelude.{◌≡◌, ℕ, List}
use Rattle.gfx_model.specs.Blocks.{clean}
use Rattle.gfx_grammar.specs.Reads.{AreBytes}
use Rattle.gfx_grammar.specs.Splitting.{blocks_of}
use Rattle.gfx_feature_model.specs.Listing.{IsListing}
use Rattle.gfx_list.specs.Lists.{listed}

-- the text is the listing of the bytes, and of no others
pub record IsListingOnlyOf (bytes text : List ℕ) : Type 0 where
  pub is : IsListing bytes text
  pub only : (other : List ℕ) → AreBytes other → IsListing other text → other ≡ bytes

-- what is written of a file that ends cleanly is its listing, and the listing of no other file: so this file is given back
abbrev pub ListedIsGivenBack : Type 0
ListedIsGivenBack = (bytes : List ℕ) → AreBytes bytes → (blocks_of bytes).end ≡ clean → IsListingOnlyOf bytes (listed bytes)
