-- Faults that come before a line's form is looked at.
use Rattle.std.specs.Prelude.{ℕ, ◌||◌, nat_lt, not, if◌then◌else◌, List, length, Option, Some, None}
use Rattle.std.specs.List.{list_all}
use Rattle.gfx_model.specs.Limits.{max_line, max_lines, max_script}
use Rattle.gfx_script_model.specs.Scripts.{Kind, bad_byte, line_too_long, too_many, is_printable}

-- the fault that a line's bytes have, or its place; `through` is the length of the text through the line
abbrev pub text_fault : ℕ → ℕ → List ℕ → Option Kind
text_fault number through line =
    if not (list_all is_printable line) then Some bad_byte
    else (if nat_lt max_line (length line) then Some line_too_long
    else (if nat_lt max_lines number || nat_lt max_script through then Some too_many
    else None))
