-- A text parsed line by line.
use Rattle.std.proofs.Common.{◌≡◌, ℕ, ◌+◌, ◌-◌, ◌≤◌, min, List, [], length, sym, ap, subst, ◌∙◌, arith, Err}
use Rattle.gfx_script_model.specs.Statements.{lines_of}
use Rattle.gfx_script_model.specs.Scripts.{Kind, Reading, Parsed, reads, refuses, parses, fails, in_order, at_first}
use Rattle.gfx_text_grammar.specs.Parsing.{line_outcome, after_outcome, parse_from, parse_of}
use Rattle.gfx_text_grammar.proofs.TextLaws.{parses_are_computed}
use Rattle.gfx_script.specs.Answers.{IsRefusal, fault_at}
use Rattle.gfx_script.specs.Cuts.{IsFirstLine}
use Rattle.gfx_script.specs.Kinds.{kind_of}
use Rattle.gfx_script.specs.State.{IsParsed, ParsesAs}
use Rattle.gfx_script.specs.declared.line_fault.LineFault.{LineFault}
use Rattle.gfx_script.specs.declared.line_fault.LineFault.TheVariants.{Refused, WantMemory}

-- what is computed of a text is what it parses to, and nothing else
pub parsed_as : (text : List ℕ) (parsed : Parsed) → parse_of text ≡ parsed → ParsesAs text parsed
parsed_as text parsed e = subst (ParsesAs text) e (parses_are_computed text)

-- where a line ends in the text
ends_at : (total rest line behind : ℕ) → rest ≤ total → rest ≡ min rest (line + 1) + behind → min total (total - rest + line + 1) ≡ total - behind
ends_at total rest line behind within cut = omega (arith, cut)

-- nothing is read yet
pub parse_begins : (text : List ℕ) (r : Reading) → r ≡ at_first → parse_of text ≡ parse_from (length text) 1 (length text - length text) r (lines_of text)
unfolding parse_of
parse_begins text r e =
    let none : length text - length text ≡ 0 = omega arith in
    (λ i. parse_from (length text) 1 (sym none i) (sym e i) (lines_of text))

module _ (text rest line behind : List ℕ) (number : ℕ) (r : Reading) (within : length rest ≤ length text) (cut : IsFirstLine rest line behind) where
  first : parse_from (length text) number (length text - length rest) r (lines_of rest)
      ≡ after_outcome number (λ next. parse_from (length text) (number + 1) (length text - length behind) next (lines_of behind)) (line_outcome number (length text - length behind) r line)
  unfolding parse_from
  first =
      let at = ends_at (length text) (length rest) (length line) (length behind) within cut.through in
      ap (parse_from (length text) number (length text - length rest) r) cut.lines
      ∙ ap (λ n. after_outcome number (λ next. parse_from (length text) (number + 1) n next (lines_of behind)) (line_outcome number n r line)) at

  -- a line is read
  pub parse_goes_on : (next : Reading) → line_outcome number (length text - length behind) r line ≡ reads next
      → parse_from (length text) number (length text - length rest) r (lines_of rest) ≡ parse_from (length text) (number + 1) (length text - length behind) next (lines_of behind)
  parse_goes_on next h = first ∙ ap (after_outcome number (λ next. parse_from (length text) (number + 1) (length text - length behind) next (lines_of behind))) h

  -- a line is refused
  pub parse_stops : (kind : Kind) → line_outcome number (length text - length behind) r line ≡ refuses kind
      → parse_from (length text) number (length text - length rest) r (lines_of rest) ≡ fails number kind
  parse_stops kind h = first ∙ ap (after_outcome number (λ next. parse_from (length text) (number + 1) (length text - length behind) next (lines_of behind))) h

  -- its fault is the text's
  pub fault_stops : parse_of text ≡ parse_from (length text) number (length text - length rest) r (lines_of rest) → (fault : LineFault)
      → IsRefusal (line_outcome number (length text - length behind) r line) fault → IsParsed text (Err (fault_at number fault))
  fault_stops parsed (Refused kind) h = parsed_as text (fails number (kind_of kind)) (parsed ∙ parse_stops (kind_of kind) h)
  fault_stops parsed WantMemory h = tt

-- all lines are read
pub parse_ends : (total number before : ℕ) (r : Reading) (rest : List ℕ) → rest ≡ [] → parse_from total number before r (lines_of rest) ≡ parses r.minor (in_order r.phases)
unfolding parse_from
parse_ends total number before r rest e = ap (λ (z : List ℕ). parse_from total number before r (lines_of z)) e
