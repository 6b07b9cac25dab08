-- What is known of the line that a statement gives.
use Rattle.std.proofs.Common.{◌≡◌, ℕ, ◌+◌, ◌<◌, ◌≤◌, ◌^◌, ◌==◌, Bool, true, false, not, cond, List, [], ◌∷◌, map, filter, flat_map, length, sym, refl, ap, ◌∙◌, subst, arith, codes}
use Rattle.std.specs.Prelude.{◌||◌}
use Rattle.std.specs.List.{AllByRecursion, list_all, list_any, slice_split, onto_first}
use Rattle.std.proofs.lemmas.Bool.{eqb-true}
use Rattle.std.proofs.lemmas.List.{length-map}
use Rattle.gfx_model.specs.Events.{Event}
use Rattle.gfx_model.specs.Events.Event.{FillMemory}
use Rattle.gfx_model.specs.Spelling.{type_of}
use Rattle.gfx_model.specs.Fields.{named_fields}
use Rattle.gfx_script_model.specs.FieldText.{IdFits, FieldsFit}
use Rattle.gfx_script_model.specs.Ids.{made_by, map_ids, uses_of, defines_of}
use Rattle.gfx_script_model.specs.Names.{name_of, named_ids}
use Rattle.gfx_script_model.specs.Scripts.{Defined, may_use, is_known, repeats, without_0, define, renumber}
use Rattle.gfx_script_model.specs.Statements.{IsStatement, is_empty, tokens_of, defining, statement_word, statement_tokens, may_be_written}
use Rattle.gfx_script.specs.Puts.{AreWide}
use Rattle.gfx_script.proofs.Fitting.{alike_spelled}
use Rattle.gfx_script.proofs.Numbered.{alike_written}
use Rattle.gfx_script.proofs.Renaming.{uses_renamed, defines_renamed, blank_renamed, uses_in_versions, defines_in_versions}
use Rattle.gfx_script.proofs.Stating.{all_made_fit}
use Rattle.gfx_script_law.specs.Playable.{HasBlocks, AreNumbered, numbers_from}
use Rattle.gfx_script_law.proofs.Renumbered.{uses-below, new-numbers}
use Rattle.gfx_script_law.proofs.Sizes.{texts, texts-append, shown, joined-many, same-spelling, spelling-size, payload-size}

-- ---- the bytes of a line

onto-texts : (x : ℕ) (parts : List (List ℕ)) → texts (onto_first x parts) ≤ 1 + texts parts
onto-texts x [] = omega arith
onto-texts x (p ∷ ps) = omega arith

split-texts : (p : ℕ → Bool) (line : List ℕ) → texts (slice_split p line) ≤ length line
split-texts p [] = omega arith
split-texts p (x ∷ xs) = by (p x) (split-texts p xs)
  where
    by : (b : Bool) → texts (slice_split p xs) ≤ length xs → texts (cond b ([] ∷ slice_split p xs) (onto_first x (slice_split p xs))) ≤ length (x ∷ xs)
    by true r = omega arith
    by false r = let a = onto-texts x (slice_split p xs) in omega arith

kept-texts : (q : List ℕ → Bool) (ts : List (List ℕ)) → texts (filter q ts) ≤ texts ts
kept-texts q [] = omega arith
kept-texts q (t ∷ ts) = by (q t) (kept-texts q ts)
  where
    by : (b : Bool) → texts (filter q ts) ≤ texts ts → texts (cond b (t ∷ filter q ts) (filter q ts)) ≤ texts (t ∷ ts)
    by true r = omega arith
    by false r = omega arith

-- tokens have no more bytes than their line
pub token-texts : (line : List ℕ) → texts (tokens_of line) ≤ length line
token-texts line =
    let a = kept-texts (λ t. not (is_empty t)) (slice_split (λ c. c == 32) line) in let b = split-texts (λ c. c == 32) line in omega arith

-- ---- the tokens of a statement

defining-texts : (ks : List ℕ) → length ks ≤ texts (defining ks)
defining-texts [] = omega arith
defining-texts (k ∷ ks) = let a = joined-many (map name_of (k ∷ ks)) in let b = length-map (k ∷ ks) name_of in let c : length (codes "=") ≡ 1 = refl in omega arith

statement-texts : (m : ℕ) (e : Event) → texts (shown (named_fields m e)) + length (defines_of m e) ≤ texts (statement_tokens m e)
unfolding statement_tokens
statement-texts m e =
    let a = texts-append (defining (defines_of m e)) (statement_word e ∷ shown (named_fields m e)) in let b = defining-texts (defines_of m e) in omega arith

-- what is written is no marker
written-unmarked : (e : Event) → may_be_written e ≡ true → (type_of e == 2) ≡ false
unfolding type_of
written-unmarked (FillMemory memory offset bytes) h = refl
written-unmarked e h = other (type_of e) h
  where
    other : (n : ℕ) → (n == 4) ≡ true → (n == 2) ≡ false
    other n is = ap (λ k. k == 2) (eqb-true n 4 is)

all-wide : (ids : ℕ → ℕ) → ((k : ℕ) → ids k < 2 ^ 64) → (ks : List ℕ) → AreWide (map ids ks)
all-wide ids wide [] = tt
all-wide ids wide (k ∷ ks) = (wide k, all-wide ids wide ks)

made-are : (m : ℕ) (e : Event) → length (flat_map (λ f. made_by f.value) (named_fields m e)) ≡ length (defines_of m e)
unfolding defines_of
made-are m e = refl

made-fit : (m : ℕ) (e : Event) → FieldsFit named_ids (named_fields m e) → AllByRecursion (IdFits named_ids) (defines_of m e)
unfolding defines_of
made-fit m e fits = all_made_fit (named_fields m e) fits

module _ (m : ℕ) (tokens : List (List ℕ)) (e : Event) (s : IsStatement m tokens e) where
  -- it defines no more names than its tokens have bytes
  pub few-names : length (defines_of m e) ≤ texts tokens
  few-names = let a = statement-texts m e in let b = ap texts s.same in omega arith

  -- whatever its names stand for, it has a block
  pub has-blocks : (number : ℕ) (numbers : ℕ → ℕ) → texts tokens ≤ 2 ^ 20 → HasBlocks m (record { number = number; event = map_ids numbers e })
  has-blocks number numbers short ids wide =
      let b = map_ids ids (map_ids numbers e) in
      let blank : map_ids (λ _. 0) b ≡ map_ids (λ _. 0) e = blank_renamed ids (map_ids numbers e) ∙ blank_renamed numbers e in record {
        fits = alike_spelled m e b s.fits s.version blank
            (subst AreWide (sym (uses_renamed m ids (map_ids numbers e))) (all-wide ids wide (uses_of m (map_ids numbers e))))
            (subst AreWide (sym (defines_renamed m ids (map_ids numbers e))) (all-wide ids wide (defines_of m (map_ids numbers e))));
        unmarked = written-unmarked b (alike_written e b blank ∙ s.written);
        small =
            let p = payload-size m b in let q = same-spelling m ids (map_ids numbers e) in let r = same-spelling m numbers e in
            let t = spelling-size m e s.fits in let u = statement-texts m e in let v = ap texts s.same in let made = made-are m e in omega arith;
      }

  module _ (phase thread : ℕ) (names : List Defined) where
    abbrev after : List Defined
    after = define phase thread names (map name_of (defines_of m e))

    -- its names are numbered behind those before
    pub is-numbered : (number : ℕ) → list_all (is_known names (may_use phase thread)) (map name_of (without_0 (uses_of m e))) ≡ true
        → (list_any (is_known names (λ d. true)) (map name_of (defines_of m e)) || repeats (map name_of (defines_of m e))) ≡ false
        → AreNumbered (1 + length names) (record { number = number; event = map_ids (renumber after) e } ∷ [])
    is-numbered number known new =
        let uses : uses_of 2 (map_ids (renumber after) e) ≡ map (renumber after) (uses_of m e) = uses_renamed 2 (renumber after) e ∙ ap (map (renumber after)) (sym (uses_in_versions m e s.version)) in
        let defines : defines_of 2 (map_ids (renumber after) e) ≡ map (renumber after) (defines_of m e) = defines_renamed 2 (renumber after) e ∙ ap (map (renumber after)) (sym (defines_in_versions m e)) in
        let numbers : map (renumber after) (defines_of m e) ≡ numbers_from (1 + length names) (length (defines_of m e)) = new-numbers phase thread names (defines_of m e) (made-fit m e s.fits) new in
        let long : length (defines_of 2 (map_ids (renumber after) e)) ≡ length (defines_of m e) = ap length defines ∙ length-map (defines_of m e) (renumber after) in (
          subst (AllByRecursion (λ k. k < 1 + length names)) (sym uses) (uses-below phase thread names (map name_of (defines_of m e)) (uses_of m e) known),
          defines ∙ (numbers ∙ ap (numbers_from (1 + length names)) (sym long)),
          tt,
        )

    -- as many as it defines
    pub defined-count : (number : ℕ) → length (defines_of 2 (map_ids (renumber after) e)) ≡ length (defines_of m e)
    defined-count number = ap length (defines_renamed 2 (renumber after) e) ∙ (length-map (defines_of 2 e) (renumber after) ∙ ap length (sym (defines_in_versions m e)))
