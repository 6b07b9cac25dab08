-- Numbers, digit by digit.
use Rattle.std.specs.Prelude.{◌^◌, ℕ, ◌+◌, ◌-◌, ◌*◌, nat_lt, nat_le, ◌&&◌, if◌then◌else◌, Option, Some, None}

-- the number with a decimal digit more, where the byte is a digit and the number is below 2^64
abbrev pub with_digit : ℕ → ℕ → Option ℕ
with_digit n c =
    if (nat_le 48 c && nat_le c 57) && nat_lt (n * 10 + (c - 48)) (2 ^ 64) then Some (n * 10 + (c - 48)) else None
