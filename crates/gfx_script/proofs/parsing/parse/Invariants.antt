use Rattle.std.proofs.Common.{◌≡◌, ◌≤◌, ◌+◌, ◌-◌, ◌^◌, length}
use Rattle.gfx_script_model.specs.Statements.{lines_of}
use Rattle.gfx_text_grammar.specs.Parsing.{parse_from, parse_of}
use Rattle.gfx_script.specs.State.{reading_of}
use Rattle.gfx_script.proofs.parsing.parse.Given as goal

-- the text parses to what the lines that are left give after those that were read
abbrev pub invariant-lines : goal.invariant-lines
invariant-lines l = record {
  number : l.number ≤ 2 ^ 20 + 1;
  within : length l.rest ≤ length l.text;
  parsed : parse_of l.text ≡ parse_from (length l.text) l.number (length l.text - length l.rest) (reading_of l.reading) (lines_of l.rest);
}

abbrev pub decreases-lines : goal.decreases-lines
decreases-lines l = length l.rest
