-- The least id of a list above a given one.
use Rattle.std.specs.Prelude.{ℕ, min, nat_lt, Option, Some, if◌then◌else◌}
use Rattle.std.specs.Option.{option_map_or}

-- the lesser of an id and the one that was found before, where one was
abbrev pub lesser_of : Option ℕ → ℕ → ℕ
lesser_of found id = option_map_or (λ other. min other id) found id

-- the least so far, once one more id was looked at
abbrev pub least_with : ℕ → Option ℕ → ℕ → Option ℕ
least_with after found id = if nat_lt after id then Some (lesser_of found id) else found
