-- The frames that are asked for.
use Rattle.std.specs.Prelude.{◌≡◌, ℕ, Bool, true, false, ◌&&◌, ◌==◌, nat_le, List, [], ◌∷◌, ◌++◌, filter, unwrap_or}
use Rattle.std.specs.List.{list_any}
use Rattle.gfx_types.specs.declared.frame.Frame.{Frame}
use Rattle.gfx_model.specs.Blocks.{Whole}
use Rattle.gfx_model.specs.Frames.{frames}
use Rattle.gfx_player.specs.Fed.{IsReadThrough, history_of}
use Rattle.gfx_player.specs.Meanings.{first_of}
use Rattle.gfx_player.specs.declared.asked.Asked.{Asked}
use Rattle.gfx_player.specs.declared.asked.Asked.TheVariants as asked

-- a frame of this number is asked for, where the first frame of the file has this one: none where that is above the range
abbrev pub is_asked : Asked → ℕ → ℕ → Bool
is_asked asked.All first n = true
is_asked (asked.Between a b) first n = nat_le first a && nat_le a n && nat_le n b

-- the frames that are asked for among all that a file shows
abbrev pub asked_of : Asked → List Frame → List Frame
asked_of a fs = filter (λ f. is_asked a (unwrap_or (first_of fs) 0) f.number) fs

-- frame n is the last that is asked for, and nothing behind it is read
abbrev pub is_last : Asked → ℕ → ℕ → Bool
is_last asked.All first n = false
is_last (asked.Between a b) first n = nat_le first a && n == b

-- the last frame that is asked for is among those that a file shows
abbrev pub has_last : Asked → List Frame → Bool
has_last a fs = list_any (λ f. is_last a (unwrap_or (first_of fs) 0) f.number) fs

-- what is left follows the block that shows the last frame
pub record IsBehindLast (a : Asked) (bytes left : List ℕ) : Type 0 where
  pub fed : List Whole
  pub block : Whole
  pub through : IsReadThrough fed block bytes left
  pub before : has_last a (frames (history_of fed)) ≡ false
  pub there : has_last a (frames (history_of (fed ++ block ∷ []))) ≡ true
