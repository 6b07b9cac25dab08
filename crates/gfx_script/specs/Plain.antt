-- Forms of lines that are no statements.
use Rattle.std.specs.Prelude.{ℕ, ◌+◌, ◌*◌, ◌-◌, ◌==◌, ◌&&◌, nat_le, nat_lt, if◌then◌else◌, Option, Some, None}
use Rattle.gfx_grammar.specs.Reading.{◌>>=◌}
use Rattle.gfx_script_model.specs.Statements.{Form}
use Rattle.gfx_script_model.specs.Statements.Form.{skips, sets_version, begins_phase, begins_thread}
use Rattle.gfx_script.specs.declared.plain.Plain.{Plain}
use Rattle.gfx_script.specs.declared.plain.Plain.TheVariants.{Skips, SetsVersion, BeginsPhase, BeginsThread}

-- the form
abbrev pub form_of_plain : Plain → Form
form_of_plain Skips = skips
form_of_plain SetsVersion = sets_version
form_of_plain BeginsPhase = begins_phase
form_of_plain (BeginsThread n) = begins_thread n

-- the value of a decimal digit
abbrev pub digit_value : ℕ → Option ℕ
digit_value c = if nat_le 48 c && nat_le c 57 then Some (c - 48) else None

-- a number below 64
abbrev pub thread_in : ℕ → Option ℕ
thread_in n = if nat_lt n 64 then Some n else None

-- the thread of one digit
abbrev pub one_digit : ℕ → Option ℕ
one_digit a = digit_value a >>= thread_in

-- the thread of two digits, the first of which is not 0
abbrev pub two_digits : ℕ → ℕ → Option ℕ
two_digits a b = if a == 48 then None else (digit_value a >>= λ t. digit_value b >>= λ o. thread_in (10 * t + o))
