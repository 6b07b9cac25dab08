-- The numbers of names, by their texts.
use Rattle.std.proofs.Common.{◌≡◌, ℕ, nat_eq, Bool, true, false, cond, List, Option, Some, None, refl, sym, ap, ◌∙◌, arith}
use Rattle.std.specs.Option.{unwrap_or}
use Rattle.std.proofs.lemmas.Bool.Decides.{nat_tests}
use Rattle.gfx_script_model.specs.Names.{code, is_name, is_code, name_of}
use Rattle.gfx_script_model.specs.Scripts.{Defined, number_of, may_use}
use Rattle.gfx_grammar.specs.Reading.{◌>>=◌}
use Rattle.gfx_text_grammar.specs.Styles.{read_name}
use Rattle.gfx_text_grammar.proofs.StyleLaws.{name_back}
use Rattle.gfx_script.specs.Resolved.{unknown, number_for}

-- the number of a name
pub name_number : (phase thread : ℕ) (names : List Defined) (word : List ℕ) (o : Option ℕ) → is_name word ≡ true → o ≡ number_of (may_use phase thread) names word
    → (read_name word >>= λ n. Some (number_for phase thread names n)) ≡ Some (unwrap_or o unknown)
name_number phase thread names word o h e =
    let back = name_back word h in
    ap (λ b. cond b (Some (code word)) None >>= λ n. Some (number_for phase thread names n)) h
    ∙ ap Some (by (nat_eq (code word) 0) refl back.1 ∙ ap (λ (z : List ℕ). unwrap_or (number_of (may_use phase thread) names z) unknown) back.0 ∙ ap (λ p. unwrap_or p unknown) (sym e))
  where
    by : (b : Bool) → nat_eq (code word) 0 ≡ b → is_code (code word) ≡ true
        → cond b 0 (unwrap_or (number_of (may_use phase thread) names (name_of (code word))) unknown) ≡ unwrap_or (number_of (may_use phase thread) names (name_of (code word))) unknown
    by false k c = refl
    by true k c =
        let zero : code word ≡ 0 = grind (arith, nat_tests, k) in
        absurd (let no : false ≡ true = ap is_code (sym zero) ∙ c in cc)
