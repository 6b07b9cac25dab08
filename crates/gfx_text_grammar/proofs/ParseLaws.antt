-- The form of a line is read, and what a text parses to is computed.
use Rattle.std.proofs.Common.{◌≡◌, ℕ, ◌+◌, ◌≤◌, nat_le, ◌&&◌, not, Bool, true, false, cond, List, [], ◌∷◌, ◌++◌, length, map, filter, flat_map, Option, Some, None, refl, sym, ap, subst, ◌∙◌, arith, codes, decimal, inl, inr, append-nil}
use Rattle.std.proofs.lemmas.Option.{cond_some}
use Rattle.std.specs.List.{AllByRecursion, list_all, join_with_byte}
use Rattle.std.proofs.lemmas.Bool.{cond-true, cond-false, and_parts}
use Rattle.std.proofs.lemmas.Bool.Decides.{nat_tests}
use Rattle.gfx_model.specs.Events.{Event}
use Rattle.gfx_model.specs.Checks.{same_list}
use Rattle.gfx_model.specs.Fields.{Value, Named, is_made, named_fields}
use Rattle.gfx_model.specs.Fields.Value.{makes, makes_each}
use Rattle.gfx_script_model.specs.FieldText.{field_text, IdFits, ValueFits, FieldsFit}
use Rattle.gfx_script_model.specs.Ids.{made_by, defines_of}
use Rattle.gfx_script_model.specs.Names.{is_letter, is_letter_or_digit, is_name, name_of, is_code}
use Rattle.gfx_script_model.specs.Statements.{is_skipped, lines_of, tokens_of, statement_word, Form, IsForm, IsStatement, defining, statement_tokens}
use Rattle.gfx_script_model.specs.Statements.Form.{skips, sets_version, begins_phase, begins_thread, states}
use Rattle.gfx_script_model.specs.Scripts.{Kind, Reading, Outcome, reads, refuses, bad_line, early_fault, IsLateOutcome, IsOutcome, Parsed, fails, through_line, ParsesFrom, at_first, Parses}
use Rattle.gfx_grammar.specs.Reading.{◌>>=◌}
use Rattle.gfx_grammar.proofs.NumberLaws.{bind_some, some_is}
use Rattle.gfx_grammar.proofs.EventLaws.{chosen}
use Rattle.gfx_text_grammar.specs.Words.{number_in}
use Rattle.gfx_text_grammar.specs.Lines.{or_else}
use Rattle.gfx_text_grammar.specs.Styles.{named}
use Rattle.gfx_text_grammar.specs.Parsing.{plain_form, form_of, form_outcome, late_outcome, line_outcome, after_outcome, parse_from, parse_of}
use Rattle.gfx_text_grammar.specs.FieldReading.{Left}
use Rattle.gfx_text_grammar.specs.StatementReading.{read_behind, read_statement}
use Rattle.gfx_text_grammar.proofs.WordLaws.{number_takes, number_again, decimal_letters}
use Rattle.gfx_text_grammar.proofs.StatementLaws.{spoken, statement_takes, statement_again}
use Rattle.gfx_text_grammar.proofs.Lists.{same_list-true}
use Rattle.gfx_model.proofs.Lists.{all_append}
use Rattle.gfx_text_grammar.proofs.SkippedLaws.{or_else_some}

-- ---- a statement is no skipped line

letter_no_mark : (w rest : List ℕ) (ts : List (List ℕ)) → is_name w ≡ true → is_skipped ((w ++ rest) ∷ ts) ≡ false
letter_no_mark [] rest ts h = absurd cc
letter_no_mark (c ∷ cs) rest ts h =
    let p = and_parts (is_letter c && list_all is_letter_or_digit cs) (nat_le (length cs) 31) h in
    let q = and_parts (is_letter c) (list_all is_letter_or_digit cs) p.0 in
    grind (arith, nat_tests, q.0)

join_no_mark : (k : ℕ) (ks : List ℕ) (ts : List (List ℕ)) → is_code k ≡ true → is_skipped (join_with_byte 44 (map name_of (k ∷ ks)) ∷ ts) ≡ false
join_no_mark k [] ts h =
    ap (λ (z : List ℕ). is_skipped (z ∷ ts)) (sym (append-nil (name_of k))) ∙ letter_no_mark (name_of k) [] ts (and_parts _ _ h).0
join_no_mark k (j ∷ ks) ts h = letter_no_mark (name_of k) (44 ∷ join_with_byte 44 (map name_of (j ∷ ks))) ts (and_parts _ _ h).0

made_fit : (v : Value) → ValueFits named.ids v → AllByRecursion (IdFits named.ids) (made_by v)
made_fit (makes n) h = (h, tt)
made_fit (makes_each xs) h = h.1.1
made_fit _ h = tt

all_made_fit : (fs : List Named) → FieldsFit named.ids fs → AllByRecursion (IdFits named.ids) (flat_map (λ f. made_by f.value) fs)
all_made_fit [] h = tt
all_made_fit (f ∷ fs) h = all_append (IdFits named.ids) (made_by f.value) (flat_map (λ f. made_by f.value) fs) (made_fit f.value h.0) (all_made_fit fs h.1)

statement_not_skipped : (m : ℕ) (tokens : List (List ℕ)) (e : Event) → IsStatement m tokens e → is_skipped tokens ≡ false
unfolding defines_of statement_tokens
statement_not_skipped m tokens e h =
    ap is_skipped h.same ∙ by (defines_of m e) (all_made_fit (named_fields m e) h.fits) (λ ts. word ts)
  where
    word : (ts : List (List ℕ)) → is_skipped (statement_word e ∷ ts) ≡ false
    word ts =
        elim (spoken e h.written) [
          | inl w ↦ ap (λ (z : List ℕ). is_skipped (z ∷ ts)) w.0
          | inr c ↦ ap (λ (z : List ℕ). is_skipped (z ∷ ts)) c.0
        ]

    by : (ks : List ℕ) → AllByRecursion (IdFits named.ids) ks → ((ts : List (List ℕ)) → is_skipped (statement_word e ∷ ts) ≡ false)
        → is_skipped (defining ks ++ statement_word e ∷ map (field_text name_of) (filter (λ f. not (is_made f.value)) (named_fields m e))) ≡ false
    by [] fits w = w (map (field_text name_of) (filter (λ f. not (is_made f.value)) (named_fields m e)))
    by (k ∷ ks) fits w = join_no_mark k ks (codes "=" ∷ statement_word e ∷ map (field_text name_of) (filter (λ f. not (is_made f.value)) (named_fields m e))) fits.0

-- ---- the other forms are no statements

no_version : (m : ℕ) → read_statement m (codes "version" ∷ codes "2" ∷ []) ≡ None
unfolding read_statement
no_version m = refl

no_phase : (m : ℕ) → read_statement m (codes "phase" ∷ []) ≡ None
unfolding read_statement
no_phase m = refl

letters_not_equals : (word : List ℕ) → list_all is_letter_or_digit word ≡ true → same_list word (codes "=") ≡ false
letters_not_equals word all = by (same_list word (codes "=")) refl
  where
    by : (b : Bool) → same_list word (codes "=") ≡ b → b ≡ false
    by true e = let no : false ≡ true = sym (ap (λ (z : List ℕ). list_all is_letter_or_digit z) (same_list-true word (codes "=") e)) ∙ all in absurd cc
    by false e = refl

no_thread : (m n : ℕ) → n ≤ 63 → read_statement m (codes "thread" ∷ decimal n ∷ []) ≡ None
unfolding read_statement
no_thread m n small =
    ap (λ b. read_behind m (cond {A = Left} b (codes "thread" ∷ [], []) ([], codes "thread" ∷ decimal n ∷ [])).0 (cond {A = Left} b (codes "thread" ∷ [], []) ([], codes "thread" ∷ decimal n ∷ [])).1)
    (letters_not_equals (decimal n) (decimal_letters n (omega (arith, small))))

-- ---- a form that is read is the tokens' form

plain_takes : (m : ℕ) (tokens : List (List ℕ)) (f : Form) → plain_form tokens ≡ Some f → IsForm m tokens f
plain_takes m [] f is = absurd cc
plain_takes m (t ∷ []) f is =
    let h = cond_some (same_list t (codes "phase")) begins_phase f is in
    subst (λ (z : Form). IsForm m (t ∷ []) z) h.1 (ap (λ (z : List ℕ). z ∷ []) (same_list-true t (codes "phase") h.0))
plain_takes m (t ∷ u ∷ v ∷ ts) f is = absurd cc
plain_takes m (t ∷ u ∷ []) f is =
    elim (chosen (same_list t (codes "version")) _ _ _ is) [
      | inl version ↦
          let h = cond_some (same_list u (codes "2")) sets_version f version.1 in
          subst (λ (z : Form). IsForm m (t ∷ u ∷ []) z) h.1
          (ap (λ (z : List ℕ). z ∷ u ∷ []) (same_list-true t (codes "version") version.0) ∙ ap (λ (z : List ℕ). codes "version" ∷ z ∷ []) (same_list-true u (codes "2") h.0))
      | inr rest ↦ elim (chosen (same_list t (codes "thread")) _ _ _ rest.1) [
        | inl thread ↦
            let a = bind_some (number_in 64 u) (λ n. Some (begins_thread n)) f thread.1 in
            let n = number_takes 64 u a.0 (omega arith) a.1 in
            subst (λ (z : Form). IsForm m (t ∷ u ∷ []) z) (some_is (begins_thread a.0) f a.2)
            (omega (arith, n.1), ap (λ (z : List ℕ). z ∷ u ∷ []) (same_list-true t (codes "thread") thread.0) ∙ ap (λ (z : List ℕ). codes "thread" ∷ z ∷ []) n.0)
        | inr none ↦ absurd (let no : None ≡ Some f = none.1 in cc)
      ]
    ]

pub form_takes : (m : ℕ) (tokens : List (List ℕ)) (f : Form) → form_of m tokens ≡ Some f → IsForm m tokens f
unfolding form_of
form_takes m tokens f is =
    elim (chosen (is_skipped tokens) _ _ _ is) [
      | inl skipped ↦ subst (λ (z : Form). IsForm m tokens z) (some_is skips f skipped.1) skipped.0
      | inr rest ↦ elim (or_else_some (read_statement m tokens >>= λ e. Some (states e)) (plain_form tokens) f rest.1) [
        | inl statement ↦
            let a = bind_some (read_statement m tokens) (λ e. Some (states e)) f statement in
            subst (λ (z : Form). IsForm m tokens z) (some_is (states a.0) f a.2) (statement_takes m tokens a.0 a.1)
        | inr plain ↦ plain_takes m tokens f plain
      ]
    ]

-- ---- and the tokens' form is read

plain_again : (m : ℕ) (tokens : List (List ℕ)) (f : Form) → is_skipped tokens ≡ false → read_statement m tokens ≡ None → plain_form tokens ≡ Some f → form_of m tokens ≡ Some f
unfolding form_of
plain_again m tokens f not_skipped none is =
    cond-false (is_skipped tokens) _ _ not_skipped ∙ ap (λ o. or_else (o >>= λ e. Some (states e)) (plain_form tokens)) none ∙ is

pub form_again : (m : ℕ) (tokens : List (List ℕ)) (f : Form) → IsForm m tokens f → form_of m tokens ≡ Some f
unfolding form_of
form_again m tokens skips h = cond-true (is_skipped tokens) _ _ h
form_again m tokens sets_version h = ap (form_of m) h ∙ plain_again m (codes "version" ∷ codes "2" ∷ []) sets_version refl (no_version m) refl
form_again m tokens begins_phase h = ap (form_of m) h ∙ plain_again m (codes "phase" ∷ []) begins_phase refl (no_phase m) refl
form_again m tokens (begins_thread n) h =
    ap (form_of m) h.1 ∙ plain_again m (codes "thread" ∷ decimal n ∷ []) (begins_thread n) refl (no_thread m n h.0)
    (ap (λ o. o >>= λ n. Some (begins_thread n)) (number_again 64 n (omega arith) (omega (arith, h.0))))
form_again m tokens (states e) h =
    cond-false (is_skipped tokens) _ _ (statement_not_skipped m tokens e h)
    ∙ ap (λ o. or_else (o >>= λ e. Some (states e)) (plain_form tokens)) (statement_again m tokens e h)

-- ---- a line

form_late : (number : ℕ) (r : Reading) (line : List ℕ) (o : Option Form) → form_of r.minor (tokens_of line) ≡ o → IsLateOutcome number r line None (form_outcome number r o)
form_late number r line (Some f) is = inl (f, form_takes r.minor (tokens_of line) f is, refl)
form_late number r line None is = inr (λ f h. let no : None ≡ Some f = sym is ∙ form_again r.minor (tokens_of line) f h in cc, refl)

line_late : (number : ℕ) (r : Reading) (line : List ℕ) (o : Option Kind) → IsLateOutcome number r line o (late_outcome number r line o)
line_late number r line (Some k) = refl
line_late number r line None = form_late number r line (form_of r.minor (tokens_of line)) refl

-- what a line gives is computed
pub line_takes : (number through : ℕ) (r : Reading) (line : List ℕ) → IsOutcome number through r line (line_outcome number through r line)
unfolding line_outcome
line_takes number through r line = line_late number r line (early_fault number through r line)

-- and it gives nothing else
late_only : (number : ℕ) (r : Reading) (line : List ℕ) (o : Option Kind) (outcome : Outcome) → IsLateOutcome number r line o outcome → outcome ≡ late_outcome number r line o
late_only number r line (Some k) outcome h = h
late_only number r line None outcome (inl h) = h.2 ∙ ap (form_outcome number r) (sym (form_again r.minor (tokens_of line) h.0 h.1))
late_only number r line None outcome (inr h) = h.1 ∙ by (form_of r.minor (tokens_of line)) refl
  where
    by : (o : Option Form) → form_of r.minor (tokens_of line) ≡ o → refuses bad_line ≡ form_outcome number r o
    by (Some f) is = absurd (h.0 f (form_takes r.minor (tokens_of line) f is))
    by None is = refl

pub line_only : (number through : ℕ) (r : Reading) (line : List ℕ) (outcome : Outcome) → IsOutcome number through r line outcome → outcome ≡ line_outcome number through r line
unfolding line_outcome
line_only number through r line outcome h = late_only number r line (early_fault number through r line) outcome h

-- ---- a text

-- what holds behind an outcome
abbrev Follows : ℕ → (Reading → Parsed → Type 0) → Parsed → Outcome → Type 0
Follows number P parsed (reads next) = P next parsed
Follows number P parsed (refuses kind) = parsed ≡ fails number kind

goes_on : (number : ℕ) (P : Reading → Parsed → Type 0) (rest : Reading → Parsed) → ((next : Reading) → P next (rest next)) → (o : Outcome) → Follows number P (after_outcome number rest o) o
goes_on number P rest each (reads next) = each next
goes_on number P rest each (refuses kind) = refl

from_takes : (total number before : ℕ) (r : Reading) (ls : List (List ℕ)) → ParsesFrom total number before r ls (parse_from total number before r ls)
unfolding parse_from
from_takes total number before r [] = refl
from_takes total number before r (l ∷ ls) =
    let through = through_line total before l in (
      line_outcome number through r l,
      line_takes number through r l,
      goes_on number (λ next parsed. ParsesFrom total (number + 1) through next ls parsed) (λ next. parse_from total (number + 1) through next ls)
          (λ next. from_takes total (number + 1) through next ls) (line_outcome number through r l),
    )

ends_so : (number : ℕ) (P : Reading → Parsed → Type 0) (rest : Reading → Parsed) (parsed : Parsed) → ((next : Reading) → P next parsed → parsed ≡ rest next) → (o : Outcome)
    → Follows number P parsed o → parsed ≡ after_outcome number rest o
ends_so number P rest parsed each (reads next) h = each next h
ends_so number P rest parsed each (refuses kind) h = h

from_only : (total number before : ℕ) (r : Reading) (ls : List (List ℕ)) (parsed : Parsed) → ParsesFrom total number before r ls parsed → parsed ≡ parse_from total number before r ls
unfolding parse_from
from_only total number before r [] parsed h = h
from_only total number before r (l ∷ ls) parsed h =
    let through = through_line total before l in
    let rest = λ (next : Reading). parse_from total (number + 1) through next ls in
    ends_so number (λ next parsed. ParsesFrom total (number + 1) through next ls parsed) rest parsed (λ next q. from_only total (number + 1) through next ls parsed q) h.0 h.2
    ∙ ap (after_outcome number rest) (line_only number through r l h.0 h.1)

pub parse_takes : (text : List ℕ) → Parses text (parse_of text)
unfolding parse_of
parse_takes text = from_takes (length text) 1 0 at_first (lines_of text)

pub parse_only : (text : List ℕ) (parsed : Parsed) → Parses text parsed → parsed ≡ parse_of text
unfolding parse_of
parse_only text parsed h = from_only (length text) 1 0 at_first (lines_of text) parsed h
