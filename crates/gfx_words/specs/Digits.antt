-- Digits without sign or leading zero.
use Rattle.std.specs.Prelude.{ℕ, ◌==◌, nat_le, ◌&&◌, Bool, if◌then◌else◌, List, length, slice_index}

-- a zero alone, or what begins with another digit
unfoldable pub is_plain : List ℕ → Bool
is_plain ds = if slice_index ds 0 == 48 then length ds == 1 else nat_le 49 (slice_index ds 0) && nat_le (slice_index ds 0) 57
