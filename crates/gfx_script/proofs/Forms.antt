-- The form of a line, and its early fault, as they are found.
use Rattle.std.proofs.Common.{◌≡◌, ℕ, nat_lt, nat_le, ◌&&◌, ◌||◌, not, Bool, true, false, cond, List, [], ◌∷◌, length, Option, Some, None, refl, ap, subst, ◌∙◌, arith, codes, inl, inr}
use Rattle.std.specs.List.{list_all}
use Rattle.std.proofs.lemmas.Option.{cond_some}
use Rattle.std.proofs.lemmas.Bool.{cond-true}
use Rattle.gfx_model.specs.Checks.{same_list}
use Rattle.gfx_model.specs.Limits.{max_line, max_lines, max_script, max_phases}
use Rattle.gfx_script_model.specs.Statements.{is_skipped, tokens_of, Form, IsForm}
use Rattle.gfx_script_model.specs.Statements.Form.{skips, sets_version, begins_phase, begins_thread, states}
use Rattle.gfx_script_model.specs.Scripts.{Kind, Reading, refuses, outcome_of, bad_byte, line_too_long, too_many, is_printable, is_phase, early_fault}
use Rattle.gfx_grammar.specs.Reading.{◌>>=◌}
use Rattle.gfx_grammar.proofs.NumberLaws.{bind_some, some_is}
use Rattle.gfx_grammar.proofs.EventLaws.{chosen}
use Rattle.gfx_text_grammar.specs.Words.{number_in}
use Rattle.gfx_text_grammar.specs.Lines.{or_else}
use Rattle.gfx_text_grammar.specs.Parsing.{plain_form, form_of, form_outcome, late_outcome, line_outcome}
use Rattle.gfx_text_grammar.specs.StatementReading.{read_statement}
use Rattle.gfx_text_grammar.proofs.WordLaws.{number_takes}
use Rattle.gfx_text_grammar.proofs.ParseLaws.{form_again}
use Rattle.gfx_text_grammar.proofs.Lists.{same_list-true}
use Rattle.gfx_script.specs.Early.{text_fault}
use Rattle.gfx_script.specs.State.{stated_form}

plain_takes : (m : ℕ) (tokens : List (List ℕ)) (f : Form) → plain_form tokens ≡ Some f → IsForm m tokens f
plain_takes m [] f is = absurd cc
plain_takes m (t ∷ []) f is =
    let h = cond_some (same_list t (codes "phase")) begins_phase f is in
    subst (λ (z : Form). IsForm m (t ∷ []) z) h.1 (ap (λ (z : List ℕ). z ∷ []) (same_list-true t (codes "phase") h.0))
plain_takes m (t ∷ u ∷ v ∷ ts) f is = absurd cc
plain_takes m (t ∷ u ∷ []) f is =
    elim (chosen (same_list t (codes "version")) _ _ _ is) [
      | inl version ↦
          let h = cond_some (same_list u (codes "2")) sets_version f version.1 in
          subst (λ (z : Form). IsForm m (t ∷ u ∷ []) z) h.1
          (ap (λ (z : List ℕ). z ∷ u ∷ []) (same_list-true t (codes "version") version.0) ∙ ap (λ (z : List ℕ). codes "version" ∷ z ∷ []) (same_list-true u (codes "2") h.0))
      | inr rest ↦ elim (chosen (same_list t (codes "thread")) _ _ _ rest.1) [
        | inl thread ↦
            let a = bind_some (number_in 64 u) (λ n. Some (begins_thread n)) f thread.1 in
            let n = number_takes 64 u a.0 (omega arith) a.1 in
            subst (λ (z : Form). IsForm m (t ∷ u ∷ []) z) (some_is (begins_thread a.0) f a.2)
            (omega (arith, n.1), ap (λ (z : List ℕ). z ∷ u ∷ []) (same_list-true t (codes "thread") thread.0) ∙ ap (λ (z : List ℕ). codes "thread" ∷ z ∷ []) n.0)
        | inr none ↦ absurd (let no : None ≡ Some f = none.1 in cc)
      ]
    ]

-- the form of tokens that are skipped or no statement
abbrev pub plain_of : List (List ℕ) → Option Form
plain_of tokens = cond (is_skipped tokens) (Some skips) (plain_form tokens)

-- a form that is found without looking for a statement is the form
pub plain_is : (m : ℕ) (tokens : List (List ℕ)) (f : Form) → plain_of tokens ≡ Some f → form_of m tokens ≡ Some f
unfolding form_of
plain_is m tokens f is =
    elim (chosen (is_skipped tokens) _ _ _ is) [
      | inl skipped ↦ cond-true (is_skipped tokens) _ _ skipped.0 ∙ skipped.1
      | inr rest ↦ form_again m tokens f (plain_takes m tokens f rest.1)
    ]

-- otherwise the line is a statement, or has no form
pub statement_is : (m : ℕ) (tokens : List (List ℕ)) → plain_of tokens ≡ None → form_of m tokens ≡ (read_statement m tokens >>= λ e. Some (states e))
unfolding form_of
statement_is m tokens is = by (is_skipped tokens) refl is
  where
    by : (b : Bool) → is_skipped tokens ≡ b → cond b (Some skips) (plain_form tokens) ≡ None
        → cond b (Some skips) (or_else (read_statement m tokens >>= λ e. Some (states e)) (plain_form tokens)) ≡ (read_statement m tokens >>= λ e. Some (states e))
    by true e h = absurd cc
    by false e h = ap (or_else (read_statement m tokens >>= λ e. Some (states e))) h ∙ alone (read_statement m tokens >>= λ e. Some (states e))
      where
        alone : (o : Option Form) → or_else o None ≡ o
        alone None = refl
        alone (Some f) = refl

-- ---- early faults

module _ (number through : ℕ) (r : Reading) (line : List ℕ) where
  abbrev pub begins_too_many : Bool
  begins_too_many = is_phase (tokens_of line) && nat_le max_phases (length r.phases)

  faults : (a b c d : Bool) → cond a (Some bad_byte) (cond b (Some line_too_long) (cond c (Some too_many) None)) ≡ None
      → cond a (Some bad_byte) (cond b (Some line_too_long) (cond (c || d) (Some too_many) None)) ≡ cond d (Some too_many) None
  faults true b c d h = absurd cc
  faults false true c d h = absurd cc
  faults false false true d h = absurd cc
  faults false false false d h = refl

  -- a line whose bytes and place have no fault is refused only where it begins one phase too many
  pub early_is : text_fault number through line ≡ None → early_fault number through r line ≡ cond begins_too_many (Some too_many) None
  early_is h = faults (not (list_all is_printable line)) (nat_lt max_line (length line)) (nat_lt max_lines number || nat_lt max_script through) begins_too_many h

  first_fault : (k : Kind) (a b c d : Bool) → cond a (Some bad_byte) (cond b (Some line_too_long) (cond c (Some too_many) None)) ≡ Some k
      → cond a (Some bad_byte) (cond b (Some line_too_long) (cond (c || d) (Some too_many) None)) ≡ Some k
  first_fault k true b c d h = h
  first_fault k false true c d h = h
  first_fault k false false true d h = h
  first_fault k false false false d h = absurd cc

  -- the fault of the bytes or the place is the early fault
  pub early_fault_is : (k : Kind) → text_fault number through line ≡ Some k → early_fault number through r line ≡ Some k
  early_fault_is k h = first_fault k (not (list_all is_printable line)) (nat_lt max_line (length line)) (nat_lt max_lines number || nat_lt max_script through) begins_too_many h

  -- ---- what a line gives

  -- it is refused for the fault of its bytes or its place
  pub line_early : (k : Kind) → text_fault number through line ≡ Some k → line_outcome number through r line ≡ refuses k
  unfolding line_outcome
  line_early k h = ap (late_outcome number r line) (early_fault_is k h)

  -- or for the phase that it begins
  pub line_many : text_fault number through line ≡ None → begins_too_many ≡ true → line_outcome number through r line ≡ refuses too_many
  unfolding line_outcome
  line_many h e = ap (late_outcome number r line) (early_is h ∙ ap (λ b. cond b (Some too_many) None) e)

  -- otherwise its form decides
  pub line_formed : text_fault number through line ≡ None → begins_too_many ≡ false → line_outcome number through r line ≡ form_outcome number r (form_of r.minor (tokens_of line))
  unfolding line_outcome
  line_formed h e = ap (late_outcome number r line) (early_is h ∙ ap (λ b. cond b (Some too_many) None) e)

-- what the tokens of a line give that is no statement
pub plain_outcome : (number : ℕ) (r : Reading) (tokens : List (List ℕ)) (f : Form) → plain_of tokens ≡ Some f → form_outcome number r (form_of r.minor tokens) ≡ outcome_of number r f
plain_outcome number r tokens f h = ap (form_outcome number r) (plain_is r.minor tokens f h)

-- and of one that may be one
pub stated_outcome : (number : ℕ) (r : Reading) (tokens : List (List ℕ)) → plain_of tokens ≡ None → form_outcome number r (form_of r.minor tokens) ≡ form_outcome number r (stated_form r.minor tokens)
stated_outcome number r tokens h = ap (form_outcome number r) (statement_is r.minor tokens h)
