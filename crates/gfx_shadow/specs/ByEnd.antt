-- Stretches of bytes, each kept under the offset behind its last byte.
use Rattle.std.specs.Prelude.{◌≡◌, ℕ, ◌-◌, ◌<◌, ◌≤◌, ◌⊎◌, Option, Some}
use Rattle.std.specs.Option.{option_and_then}
use Rattle.std.specs.Ordering.{nat_cmp}
use Rattle.std.specs.FinMap as map
use Rattle.gfx_table.specs.Slots.{least_above}
use Rattle.gfx_shadow.specs.Stretch.{stretch_byte, HasRoom}
use Rattle.gfx_shadow.specs.declared.stretch.Stretch.{Stretch}

-- the byte at an offset: the one that the first stretch which ends behind it has there
unfoldable pub byte_of : map.FinMap nat_cmp Stretch → ℕ → Option ℕ
byte_of m i = option_and_then (λ s. stretch_byte s i) (option_and_then (map.get m) (least_above m i))

-- each stretch has bytes and is under its end, and before each there is an offset without a byte
pub record AreApart (m : map.FinMap nat_cmp Stretch) : Type 0 where
  pub some : (key : ℕ) (s : Stretch) → map.get m key ≡ Some s → s.start < s.end
  pub ends : (key : ℕ) (s : Stretch) → map.get m key ≡ Some s → s.end ≡ key
  pub apart : (p q : ℕ) (r s : Stretch) → map.get m p ≡ Some r → map.get m q ≡ Some s → p < q → p < s.start

-- this one of the stretches touches the offsets from one up to another
pub record Touches (m : map.FinMap nat_cmp Stretch) (from to : ℕ) (s : Stretch) : Type 0 where
  pub here : map.get m s.end ≡ Some s
  pub low : from ≤ s.end
  pub high : s.start ≤ to

-- no stretch touches them
abbrev pub IsClear : map.FinMap nat_cmp Stretch → ℕ → ℕ → Type 0
IsClear m from to = (key : ℕ) (s : Stretch) → map.get m key ≡ Some s → (key < from) ⊎ (to < s.start)

-- no stretch that touches an offset is longer than this one
abbrev pub IsLongestAt : map.FinMap nat_cmp Stretch → ℕ → Stretch → Type 0
IsLongestAt m offset s = (t : Stretch) → Touches m offset offset t → t.end - t.start ≤ s.end - s.start

-- this one of the stretches touches a piece, and none that touches one of its ends is longer
pub record IsLongest (m : map.FinMap nat_cmp Stretch) (offset end : ℕ) (s : Stretch) : Type 0 where
  pub touches : Touches m offset end s
  pub left : IsLongestAt m offset s
  pub right : IsLongestAt m end s

-- the stretches that touch the offsets from one up to another lie among them
pub record IsHull (m : map.FinMap nat_cmp Stretch) (from to : ℕ) : Type 0 where
  pub low : (key : ℕ) (s : Stretch) → map.get m key ≡ Some s → from ≤ key → from ≤ s.start
  pub high : (key : ℕ) (s : Stretch) → map.get m key ≡ Some s → s.start ≤ to → key ≤ to

-- a stretch has room for all that it touches
pub record Fits (m : map.FinMap nat_cmp Stretch) (s : Stretch) : Type 0 where
  pub from : ℕ
  pub to : ℕ
  pub hull : IsHull m from to
  pub room : HasRoom s from to
  pub low : from ≤ s.start
  pub high : s.end ≤ to
