-- Reading of scripts: the form of a line, and what a text parses to.
use Rattle.std.specs.Prelude.{ℕ, ◌+◌, if◌then◌else◌, List, [], ◌∷◌, length, Option, Some, None, codes}
use Rattle.gfx_model.specs.Checks.{same_list}
use Rattle.gfx_script_model.specs.Statements.{Form, lines_of, tokens_of, is_skipped}
use Rattle.gfx_script_model.specs.Statements.Form.{skips, sets_version, begins_phase, begins_thread, states}
use Rattle.gfx_script_model.specs.Scripts.{Kind, Reading, Outcome, reads, refuses, bad_line, outcome_of, early_fault, Parsed, parses, fails, in_order, through_line, at_first}
use Rattle.gfx_grammar.specs.Reading.{◌>>=◌}
use Rattle.gfx_text_grammar.specs.Words.{number_in}
use Rattle.gfx_text_grammar.specs.Lines.{or_else}
use Rattle.gfx_text_grammar.specs.StatementReading.{read_statement}

-- ---- the form of a line

-- `version 2`, or a thread
abbrev pub two_words : List ℕ → List ℕ → Option Form
two_words t u =
    if same_list t (codes "version") then (if same_list u (codes "2") then Some sets_version else None)
    else if same_list t (codes "thread") then (number_in 64 u >>= λ n. Some (begins_thread n)) else None

-- a line that is no statement
abbrev pub plain_form : List (List ℕ) → Option Form
plain_form [] = None
plain_form (t ∷ []) = if same_list t (codes "phase") then Some begins_phase else None
plain_form (t ∷ u ∷ []) = two_words t u
plain_form (t ∷ u ∷ v ∷ ts) = None

-- the form of the tokens in minor version m, where they have one
unfoldable pub form_of : ℕ → List (List ℕ) → Option Form
form_of m tokens =
    if is_skipped tokens then Some skips else or_else (read_statement m tokens >>= λ e. Some (states e)) (plain_form tokens)

-- ---- a line

-- what the form gives, or bad_line where there is none
abbrev pub form_outcome : ℕ → Reading → Option Form → Outcome
form_outcome number r (Some f) = outcome_of number r f
form_outcome number r None = refuses bad_line

-- the early fault, or what the form gives
abbrev pub late_outcome : ℕ → Reading → List ℕ → Option Kind → Outcome
late_outcome number r line (Some k) = refuses k
late_outcome number r line None = form_outcome number r (form_of r.minor (tokens_of line))

-- what a line gives
unfoldable pub line_outcome : (number through : ℕ) → Reading → List ℕ → Outcome
line_outcome number through r line = late_outcome number r line (early_fault number through r line)

-- ---- a text

-- what a text parses to whose line with this number gives this outcome, where `rest` is what its other lines give
abbrev pub after_outcome : ℕ → (Reading → Parsed) → Outcome → Parsed
after_outcome number rest (reads next) = rest next
after_outcome number rest (refuses kind) = fails number kind

-- what the lines of a text of so many bytes give, from a number on, after what has been read
unfoldable pub parse_from : (total number before : ℕ) → Reading → List (List ℕ) → Parsed
parse_from total number before r [] = parses r.minor (in_order r.phases)
parse_from total number before r (l ∷ ls) =
    after_outcome number (λ next. parse_from total (number + 1) (through_line total before l) next ls)
    (line_outcome number (through_line total before l) r l)

-- what a text parses to
unfoldable pub parse_of : List ℕ → Parsed
parse_of text = parse_from (length text) 1 0 at_first (lines_of text)
