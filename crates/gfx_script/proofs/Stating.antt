-- What a statement defines and uses, by the texts of its tokens and the numbers of its names.
use Rattle.std.proofs.Common.{◌≡◌, ℕ, ◌<◌, nat_eq, ◌&&◌, ◌||◌, not, Bool, true, false, cond, List, [], ◌∷◌, ◌++◌, map, filter, flat_map, length, Option, Some, None, is_some, refl, sym, ap, ◌∙◌, arith, codes}
use Rattle.std.specs.Option.{unwrap_or}
use Rattle.std.specs.List.{AllByRecursion, list_all, list_any, join_with_byte, slice_split, onto_first}
use Rattle.std.proofs.lemmas.Bool.{cond-true, cond-false, and_parts}
use Rattle.std.proofs.lemmas.Bool.Decides.{nat_tests}
use Rattle.gfx_model.specs.Events.{Event}
use Rattle.gfx_model.specs.Checks.{same_list}
use Rattle.gfx_model.specs.Fields.{Value, Named, is_made, named_fields}
use Rattle.gfx_model.specs.Fields.Value.{names, makes, makes_each}
use Rattle.gfx_script_model.specs.FieldText.{field_text, value_text, IdFits, ValueFits, FieldsFit}
use Rattle.gfx_script_model.specs.Ids.{made_by, defines_of, map_ids}
use Rattle.gfx_script_model.specs.Names.{is_letter_or_digit, is_name, is_code, name_of, named_ids}
use Rattle.gfx_script_model.specs.Scripts.{Defined, number_of, may_use, is_known, without_0, renumber}
use Rattle.gfx_script_model.specs.Statements.{defining, statement_word, statement_tokens, IsStatement}
use Rattle.gfx_grammar.specs.Reading.{◌>>=◌}
use Rattle.gfx_text_grammar.specs.StatementReading.{apart_of, read_worded, read_behind, read_statement}
use Rattle.gfx_text_grammar.specs.Styles.{named}
use Rattle.gfx_text_grammar.proofs.StyleLaws.{name_letters, name_long, fields_named}
use Rattle.gfx_model.proofs.Lists.{all_append}
use Rattle.gfx_text_grammar.specs.FieldReading.{Left, without_front}
use Rattle.gfx_text_grammar.specs.Rows.{read_event}
use Rattle.gfx_script.specs.Resolved.{unknown, is_unknown, number_for, worded_by, behind_by, statement_by, made_texts}
use Rattle.gfx_text.specs.Renumbered.{renumbered}
use Rattle.gfx_text.proofs.Renumbering.{events_renumbered}

-- ---- the numbers of what it uses

module _ (phase thread : ℕ) (names : List Defined) where
  -- each name that is found has its number among all names, and it is no large one
  pub record FindsAll (after : List Defined) : Type 0 where
    pub only : (text : List ℕ) (n : ℕ) → number_of (may_use phase thread) names text ≡ Some n → number_of (λ d. true) after text ≡ Some n
    pub small : (text : List ℕ) (n : ℕ) → number_of (may_use phase thread) names text ≡ Some n → n < unknown

  -- a name that is used is known where its number is one that a name has
  known_one : (after : List Defined) → FindsAll after → (k : ℕ) → nat_eq k 0 ≡ false
      → is_known names (may_use phase thread) (name_of k) ≡ not (is_unknown (number_for phase thread names k))
  known_one after finds k e =
      by (number_of (may_use phase thread) names (name_of k)) refl
      ∙ ap (λ n. not (is_unknown n)) (sym (cond-false (nat_eq k 0) 0 (unwrap_or (number_of (may_use phase thread) names (name_of k)) unknown) e))
    where
      by : (o : Option ℕ) → number_of (may_use phase thread) names (name_of k) ≡ o → is_some o ≡ not (is_unknown (unwrap_or o unknown))
      by None h = refl
      by (Some n) h = let l = finds.small (name_of k) n h in let other : nat_eq n unknown ≡ false = grind (arith, nat_tests, l) in ap not (sym other)

  none_known : (k : ℕ) → nat_eq k 0 ≡ true → is_unknown (number_for phase thread names k) ≡ false
  none_known k e = ap is_unknown (cond-true (nat_eq k 0) 0 (unwrap_or (number_of (may_use phase thread) names (name_of k)) unknown) e)

  -- all names that are used are known where no number is unknown
  pub all_known : (after : List Defined) → FindsAll after → (ks : List ℕ)
      → list_all (is_known names (may_use phase thread)) (map name_of (without_0 ks)) ≡ not (list_any is_unknown (map (number_for phase thread names) ks))
  all_known after finds [] = refl
  all_known after finds (k ∷ ks) = by (nat_eq k 0) refl (all_known after finds ks)
    where
      by : (b : Bool) → nat_eq k 0 ≡ b
          → list_all (is_known names (may_use phase thread)) (map name_of (without_0 ks)) ≡ not (list_any is_unknown (map (number_for phase thread names) ks))
          → list_all (is_known names (may_use phase thread)) (map name_of (cond (not b) (k ∷ without_0 ks) (without_0 ks)))
          ≡ not (is_unknown (number_for phase thread names k) || list_any is_unknown (map (number_for phase thread names) ks))
      by true e more = more ∙ ap (λ c. not (c || list_any is_unknown (map (number_for phase thread names) ks))) (sym (none_known k e))
      by false e more =
          ap (λ c. c && list_all (is_known names (may_use phase thread)) (map name_of (without_0 ks))) (known_one after finds k e)
          ∙ ap (λ c. not (is_unknown (number_for phase thread names k)) && c) more
          ∙ both (is_unknown (number_for phase thread names k)) (list_any is_unknown (map (number_for phase thread names) ks))
        where
          both : (a c : Bool) → (not a && not c) ≡ not (a || c)
          both true c = refl
          both false c = refl

  -- the number of a known name is its number among all
  same_one : (after : List Defined) → FindsAll after → (k : ℕ) → is_unknown (number_for phase thread names k) ≡ false → number_for phase thread names k ≡ renumber after k
  same_one after finds k known = by (nat_eq k 0) refl
    where
      by : (b : Bool) → nat_eq k 0 ≡ b
          → cond b 0 (unwrap_or (number_of (may_use phase thread) names (name_of k)) unknown) ≡ cond b 0 (unwrap_or (number_of (λ d. true) after (name_of k)) 0)
      by true e = refl
      by false e = found (number_of (may_use phase thread) names (name_of k)) refl
        where
          found : (o : Option ℕ) → number_of (may_use phase thread) names (name_of k) ≡ o → unwrap_or o unknown ≡ unwrap_or (number_of (λ d. true) after (name_of k)) 0
          found (Some n) h = ap (λ o. unwrap_or o 0) (sym (finds.only (name_of k) n h))
          found None h =
              let is : number_for phase thread names k ≡ unknown = cond-false (nat_eq k 0) 0 (unwrap_or (number_of (may_use phase thread) names (name_of k)) unknown) e ∙ ap (λ o. unwrap_or o unknown) h in
              absurd (let no : true ≡ false = sym (ap is_unknown is) ∙ known in cc)

  -- the numbers of known names are those among all names
  pub all_same : (after : List Defined) → FindsAll after → (ks : List ℕ) → list_any is_unknown (map (number_for phase thread names) ks) ≡ false
      → map (number_for phase thread names) ks ≡ map (renumber after) ks
  all_same after finds [] h = refl
  all_same after finds (k ∷ ks) h =
      let parts = or_false (is_unknown (number_for phase thread names k)) (list_any is_unknown (map (number_for phase thread names) ks)) h in
      λ i. same_one after finds k parts.0 i ∷ all_same after finds ks parts.1 i
    where
      or_false : (a b : Bool) → (a || b) ≡ false → (a ≡ false) × (b ≡ false)
      or_false true b e = absurd cc
      or_false false b e = (refl, e)

-- ---- the names that it defines

-- a name has no comma
no_comma : (c : ℕ) → is_letter_or_digit c ≡ true → nat_eq c 44 ≡ false
no_comma c h = grind (arith, nat_tests, h)

-- a name before a comma is the first part
split_name : (word rest : List ℕ) → list_all is_letter_or_digit word ≡ true → slice_split (λ c. nat_eq c 44) (word ++ 44 ∷ rest) ≡ word ∷ slice_split (λ c. nat_eq c 44) rest
split_name [] rest h = refl
split_name (c ∷ cs) rest h =
    let p = and_parts (is_letter_or_digit c) (list_all is_letter_or_digit cs) h in
    cond-false (nat_eq c 44) _ _ (no_comma c p.0) ∙ ap (onto_first c) (split_name cs rest p.1)

split_alone : (word : List ℕ) → list_all is_letter_or_digit word ≡ true → slice_split (λ c. nat_eq c 44) word ≡ word ∷ []
split_alone [] h = refl
split_alone (c ∷ cs) h =
    let p = and_parts (is_letter_or_digit c) (list_all is_letter_or_digit cs) h in
    cond-false (nat_eq c 44) _ _ (no_comma c p.0) ∙ ap (onto_first c) (split_alone cs p.1)

letters_of : (k : ℕ) → is_code k ≡ true → list_all is_letter_or_digit (name_of k) ≡ true
letters_of k h = name_letters (name_of k) (and_parts _ _ h).0

-- names with commas between them are cut where they were joined
split_names : (k : ℕ) (ks : List ℕ) → AllByRecursion (IdFits named_ids) (k ∷ ks) → slice_split (λ c. nat_eq c 44) (join_with_byte 44 (map name_of (k ∷ ks))) ≡ map name_of (k ∷ ks)
split_names k [] h = split_alone (name_of k) (letters_of k h.0)
split_names k (j ∷ ks) h =
    split_name (name_of k) (join_with_byte 44 (map name_of (j ∷ ks))) (letters_of k h.0) ∙ ap (λ (z : List (List ℕ)). name_of k ∷ z) (split_names j ks h.1)

made_fit : (v : Value) → ValueFits named_ids v → AllByRecursion (IdFits named_ids) (made_by v)
made_fit (makes n) h = (h, tt)
made_fit (makes_each xs) h = h.1.1
made_fit _ h = tt

pub all_made_fit : (fs : List Named) → FieldsFit named_ids fs → AllByRecursion (IdFits named_ids) (flat_map (λ f. made_by f.value) fs)
all_made_fit [] h = tt
all_made_fit (f ∷ fs) h = all_append (IdFits named_ids) (made_by f.value) (flat_map (λ f. made_by f.value) fs) (made_fit f.value h.0) (all_made_fit fs h.1)

-- a token of a field is no equals sign
long_token : (name rest : List ℕ) → 0 < length name → same_list (name ++ codes "=" ++ rest) (codes "=") ≡ false
long_token [] rest h = absurd (omega arith)
long_token (c ∷ []) rest h = both (nat_eq c 61)
  where
    both : (b : Bool) → (b && false) ≡ false
    both true = refl
    both false = refl
long_token (c ∷ d ∷ cs) rest h = both (nat_eq c 61)
  where
    both : (b : Bool) → (b && false) ≡ false
    both true = refl
    both false = refl

-- nothing is written apart of a statement that defines nothing
none_apart : (word : List ℕ) (fs : List Named) → list_all (λ f. is_name f.name) fs ≡ true
    → (apart_of (word ∷ map (field_text name_of) (filter (λ f. not (is_made f.value)) fs))).0 ≡ []
none_apart word [] h = refl
none_apart word (f ∷ fs) h =
    let p = and_parts (is_name f.name) (list_all (λ f. is_name f.name) fs) h in
    by (not (is_made f.value)) (long_token f.name (value_text name_of f.value) (name_long f.name p.0).0) (none_apart word fs p.1)
  where
    by : (b : Bool) → same_list (field_text name_of f) (codes "=") ≡ false
        → (apart_of (word ∷ map (field_text name_of) (filter (λ f. not (is_made f.value)) fs))).0 ≡ []
        → (apart_of (word ∷ map (field_text name_of) (cond b (f ∷ filter (λ f. not (is_made f.value)) fs) (filter (λ f. not (is_made f.value)) fs)))).0 ≡ []
    by true this more = ap (λ (z : List (List ℕ) × List (List ℕ)). z.0) (cond-false (same_list (field_text name_of f) (codes "=")) _ _ this)
    by false this more = more

defining_texts : (ks : List ℕ) (word : List ℕ) (fs : List Named) → AllByRecursion (IdFits named_ids) ks → list_all (λ f. is_name f.name) fs ≡ true
    → made_texts (apart_of (defining ks ++ word ∷ map (field_text name_of) (filter (λ f. not (is_made f.value)) fs))).0 ≡ map name_of ks
defining_texts [] word fs fits h = ap made_texts (none_apart word fs h)
defining_texts (k ∷ ks) word fs fits h = split_names k ks fits

-- the texts that are written apart are the names that the statement defines
pub made_names : (m : ℕ) (tokens : List (List ℕ)) (e : Event) → IsStatement m tokens e → made_texts (apart_of tokens).0 ≡ map name_of (defines_of m e)
unfolding defines_of statement_tokens
made_names m tokens e h =
    ap (λ (z : List (List ℕ)). made_texts (apart_of z).0) h.same
    ∙ defining_texts (defines_of m e) (statement_word e) (named_fields m e) (all_made_fit (named_fields m e) h.fits) (fields_named m e)

-- ---- numbers in place of codes

worded_numbered : (f : ℕ → ℕ) (m : ℕ) (word : List ℕ) (left : Left)
    → worded_by (renumbered f named) m word left ≡ (read_worded m word left >>= λ e. Some (map_ids f e))
worded_numbered f m word left = by (same_list word (codes "write")) (without_front (codes "vk") word)
  where
    by : (b : Bool) (o : Option (List ℕ))
        → cond b (read_event (renumbered f named) m 3 (codes "FillMemory") left) (o >>= λ call. read_event (renumbered f named) m 4 call left)
        ≡ (cond b (read_event named m 3 (codes "FillMemory") left) (o >>= λ call. read_event named m 4 call left) >>= λ e. Some (map_ids f e))
    by true o = events_renumbered f named m 3 (codes "FillMemory") left
    by false None = refl
    by false (Some call) = events_renumbered f named m 4 call left

-- a statement that is read with numbers is the statement with numbers in place of its codes
pub statement_numbered : (f : ℕ → ℕ) (m : ℕ) (tokens : List (List ℕ))
    → statement_by (renumbered f named) m tokens ≡ (read_statement m tokens >>= λ e. Some (map_ids f e))
unfolding statement_by read_statement
statement_numbered f m tokens = by (apart_of tokens).0 (apart_of tokens).1
  where
    by : (made ts : List (List ℕ)) → behind_by (renumbered f named) m made ts ≡ (read_behind m made ts >>= λ e. Some (map_ids f e))
    by made [] = refl
    by made (word ∷ ts) = worded_numbered f m word (made, ts)
