-- A file of which a lean cut is made, as it is read.
use Rattle.std.specs.Prelude.{◌≡◌, ℕ, List, [], ◌∷◌, ◌++◌, Option}
use Rattle.gfx_model.specs.Blocks.{Whole}
use Rattle.gfx_model.specs.Trimmed.{boundary, range_from}
use Rattle.gfx_player.specs.Walks.{HasRead}
use Rattle.gfx_player.specs.declared.player.Player.{Player}
use Rattle.gfx_trim.specs.Cutters.{Ends}
use Rattle.gfx_lean.specs.Leaner.{HasRangeOf, IsAfter}
use Rattle.gfx_lean.specs.declared.leaner.Leaner.{Leaner}

-- blocks of a file were read and taken, none of them the last of the range
pub record Leaning (first last : ℕ) (p : Player) (c : Leaner) (fed : List Whole) (file left : Option (List ℕ)) : Type 0 where
  pub stands : IsAfter c p fed
  pub read : HasRead p fed file left
  pub first_is : c.first ≡ first
  pub last_is : c.last ≡ last
  pub minor_is : c.minor ≡ p.minor

-- blocks of a file were read and taken up to the last of the range, and all of the range were gathered
pub record Leaned (first last : ℕ) (p : Player) (c : Leaner) (file left : Option (List ℕ)) : Type 0 where
  pub fed : List Whole
  pub block : Whole
  pub ends : Ends first last fed block
  pub has : HasRangeOf c.first c.range p (fed ++ block ∷ [])
  pub all : range_from last (boundary first (fed ++ block ∷ [])) ≡ (boundary first (fed ++ block ∷ [])).rest
  pub read : HasRead p (fed ++ block ∷ []) file left
  pub first_is : c.first ≡ first
  pub minor_is : c.minor ≡ p.minor
