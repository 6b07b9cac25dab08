-- The line of a statement, by the numbers of its names.
use Rattle.std.proofs.Common.{◌≡◌, ℕ, ◌<◌, ◌^◌, nat_eq, not, Bool, true, false, cond, List, [], ◌∷◌, ◌++◌, map, length, Some, None, Result, Ok, Err, refl, sym, ap, subst, ◌∙◌, arith}
use Rattle.std.specs.List.{AllByRecursion, list_all, list_any}
use Rattle.std.specs.Option.{unwrap_or}
use Rattle.std.proofs.lemmas.List.{length-map}
use Rattle.std.specs.Result.{IsErrAnd}
use Rattle.std.proofs.lemmas.Result.{err_from_is_err_and}
use Rattle.std.proofs.lemmas.Bool.{and_parts, and_from}
use Rattle.std.proofs.lemmas.Bool.Decides.{nat_tests}
use Rattle.gfx_model.specs.Events.{Event}
use Rattle.gfx_model.specs.Events.Event.{FillMemory}
use Rattle.gfx_model.specs.Fields.{named_fields}
use Rattle.gfx_model.specs.Spelling.{HasSpelling, type_of}
use Rattle.gfx_script_model.specs.FieldText.{IdFits}
use Rattle.gfx_script_model.specs.Ids.{uses_of, defines_of, map_ids}
use Rattle.gfx_script_model.specs.Names.{is_name, is_code, name_of, named_ids}
use Rattle.gfx_script_model.specs.Scripts.{Defined, number_of, may_use, is_known, without_0, renumber, define, name_unknown, name_taken}
use Rattle.gfx_script_model.specs.Statements.{may_be_written}
use Rattle.gfx_script.specs.Puts.{HasIds, AreWide}
use Rattle.gfx_script.specs.Resolved.{is_unknown, number_for}
use Rattle.gfx_script.specs.Numbered.{clashes}
use Rattle.gfx_script.specs.Answers.{DefinesAll}
use Rattle.gfx_script.specs.Line.{line_of, event_of_line}
use Rattle.gfx_script.specs.Stated.{Stated, NumbersLine, name_fault, names_after}
use Rattle.gfx_script.specs.declared.line.Line.{Line}
use Rattle.gfx_script.specs.declared.line_fault.LineFault.{LineFault}
use Rattle.gfx_script.specs.declared.line_fault.LineFault.TheVariants.{Refused, WantMemory}
use Rattle.gfx_script.proofs.NamePlaces.{number-stays, number-within}
use Rattle.gfx_script.specs.declared.numbering.Place.{Place}
use Rattle.gfx_script.proofs.Renaming.{uses_renamed, defines_renamed, uses_in_versions, defines_in_versions, blank_renamed, renamed}
use Rattle.gfx_script.proofs.Fitting.{alike_version, alike_spelled}
use Rattle.gfx_script.proofs.Stating.{FindsAll, all_known, all_same, all_made_fit}

-- ---- what may be written

written_renamed : (f : ℕ → ℕ) (e : Event) → may_be_written (map_ids f e) ≡ may_be_written e
unfolding map_ids type_of
written_renamed f (FillMemory memory offset bytes) = refl
written_renamed f _ = refl

-- events that are alike may be written alike
pub alike_written : (a b : Event) → map_ids (λ _. 0) b ≡ map_ids (λ _. 0) a → may_be_written b ≡ may_be_written a
alike_written a b same = sym (written_renamed (λ _. 0) b) ∙ ap may_be_written same ∙ written_renamed (λ _. 0) a

-- each name that may be used has its number among all names, also when more are defined
pub finds : (phase thread : ℕ) (names more : List Defined)
    → ((phase thread : ℕ) (name : List ℕ) (n : ℕ) → number_of (may_use phase thread) names name ≡ Some n → number_of (λ d. true) names name ≡ Some n)
    → length names < 2 ^ 63 → FindsAll phase thread names (names ++ more)
finds phase thread names more once few = record {
  only = λ text n h. number-stays names more text n (once phase thread text n h);
  small = λ text n h. let w = number-within (may_use phase thread) names text n h in omega (arith, w.1, few);
}

module _ (at : Place) (names : List Defined) (texts : List (List ℕ)) (seen e : Event) (s : Stated at names texts seen e) where
  abbrev f : ℕ → ℕ
  f = number_for at.phase at.thread names

  -- what is seen is alike
  pub seen_alike : map_ids (λ _. 0) seen ≡ map_ids (λ _. 0) e
  seen_alike = ap (map_ids (λ _. 0)) s.numbered ∙ blank_renamed f e

  pub seen_written : may_be_written seen ≡ true
  seen_written = alike_written e seen seen_alike ∙ s.written

  -- the numbers of what it uses
  pub seen_uses : uses_of 2 seen ≡ map f (uses_of at.minor e)
  seen_uses = ap (uses_of 2) s.numbered ∙ uses_renamed 2 f e ∙ ap (map f) (sym (uses_in_versions at.minor e s.version))

  seen_defines : defines_of 2 seen ≡ map f (defines_of at.minor e)
  seen_defines = ap (defines_of 2) s.numbered ∙ defines_renamed 2 f e ∙ ap (map f) (sym (defines_in_versions at.minor e))

  -- all that it uses is known where no number is unknown
  pub known_is : (after : List Defined) → FindsAll at.phase at.thread names after → (b : Bool) → list_any is_unknown (uses_of 2 seen) ≡ b
      → list_all (is_known names (may_use at.phase at.thread)) (map name_of (without_0 (uses_of at.minor e))) ≡ not b
  known_is after finds b h =
      all_known at.phase at.thread names after finds (uses_of at.minor e) ∙ ap (λ ns. not (list_any is_unknown ns)) (sym seen_uses) ∙ ap not h

  -- as many names as it defines
  pub as_many : (after : List Defined) (numbers : List ℕ) → map (number_of (λ d. true) after) texts ≡ map Some numbers → length numbers ≡ length (defines_of 2 seen)
  as_many after numbers h =
      sym (length-map numbers Some) ∙ ap length (sym h) ∙ length-map texts (number_of (λ d. true) after) ∙ ap length s.defined ∙ length-map (defines_of at.minor e) name_of
      ∙ sym (length-map (defines_of at.minor e) f) ∙ ap length (sym seen_defines)

  -- the number of a code
  code_number : (after : List Defined) (k n : ℕ) → is_code k ≡ true → number_of (λ d. true) after (name_of k) ≡ Some n → n ≡ renumber after k
  code_number after k n code h = by (nat_eq k 0) refl
    where
      by : (b : Bool) → nat_eq k 0 ≡ b → n ≡ cond b 0 (unwrap_or (number_of (λ d. true) after (name_of k)) 0)
      by false e = ap (λ o. unwrap_or o 0) (sym h)
      by true e =
          let zero : k ≡ 0 = grind (arith, nat_tests, e) in
          absurd (let no : false ≡ true = ap is_code (sym zero) ∙ code in cc)

  codes_numbers : (after : List Defined) (ks numbers : List ℕ) → AllByRecursion (IdFits named_ids) ks → map (number_of (λ d. true) after) (map name_of ks) ≡ map Some numbers
      → numbers ≡ map (renumber after) ks
  codes_numbers after [] [] fits h = refl
  codes_numbers after [] (n ∷ ns) fits h = absurd cc
  codes_numbers after (k ∷ ks) [] fits h = absurd cc
  codes_numbers after (k ∷ ks) (n ∷ ns) fits h =
      let first : number_of (λ d. true) after (name_of k) ≡ Some n = cc in
      let rest : map (number_of (λ d. true) after) (map name_of ks) ≡ map Some ns = cc in
      λ i. code_number after k n fits.0 first i ∷ codes_numbers after ks ns fits.1 rest i

  made_codes : AllByRecursion (IdFits named_ids) (defines_of at.minor e)
  unfolding defines_of
  made_codes = all_made_fit (named_fields at.minor e) s.fits

  -- what it defines are names
  pub texts_named : list_all is_name texts ≡ true
  texts_named = ap (list_all is_name) s.defined ∙ by (defines_of at.minor e) made_codes
    where
      by : (ks : List ℕ) → AllByRecursion (IdFits named_ids) ks → list_all is_name (map name_of ks) ≡ true
      by [] fits = refl
      by (k ∷ ks) fits = and_from _ _ (and_parts _ _ fits.0).0 (by ks fits.1)

  -- the event with the numbers of the names then
  pub numbered_is : (after : List Defined) (numbers : List ℕ) (out : Event) → FindsAll at.phase at.thread names after → list_any is_unknown (uses_of 2 seen) ≡ false
      → map (number_of (λ d. true) after) texts ≡ map Some numbers → HasIds seen (uses_of 2 seen) numbers out → out ≡ map_ids (renumber after) e
  numbered_is after numbers out finds known made h =
      let alike : HasIds e (uses_of 2 seen) numbers out = record { uses = h.uses; defines = h.defines; others = h.others ∙ seen_alike } in
      let same = all_same at.phase at.thread names after finds (uses_of at.minor e) (ap (list_any is_unknown) (sym seen_uses) ∙ known) in
      renamed (renumber after) e out (uses_of 2 seen) numbers alike
      (seen_uses ∙ same ∙ ap (map (renumber after)) (uses_in_versions at.minor e s.version))
      (codes_numbers after (defines_of at.minor e) numbers made_codes (ap (map (number_of (λ d. true) after)) (sym s.defined) ∙ made) ∙ ap (map (renumber after)) (defines_in_versions at.minor e))

  -- it has a spelling
  pub made_spelled : (named made : List ℕ) (out : Event) → HasIds seen named made out → AreWide named → AreWide made → HasSpelling at.minor out
  made_spelled named made out h wide_named wide_made =
      let alike : map_ids (λ _. 0) out ≡ map_ids (λ _. 0) e = h.others ∙ seen_alike in
      let version = alike_version at.minor e out alike s.version in
      alike_spelled at.minor e out s.fits s.version alike
      (subst AreWide (sym (uses_in_versions at.minor out version ∙ h.uses)) wide_named)
      (subst AreWide (sym (defines_in_versions at.minor out ∙ h.defines)) wide_made)

  -- ---- the faults of its names

  pub unknown_fault : (after : List Defined) → FindsAll at.phase at.thread names after → list_any is_unknown (uses_of 2 seen) ≡ true → name_fault at names e ≡ Some name_unknown
  unknown_fault after finds h =
      ap (λ b. cond (not b) (Some name_unknown) (cond (clashes names (map name_of (defines_of at.minor e))) (Some name_taken) None)) (known_is after finds true h)

  known_fault : (after : List Defined) → FindsAll at.phase at.thread names after → list_any is_unknown (uses_of 2 seen) ≡ false → (b : Bool) → clashes names texts ≡ b
      → name_fault at names e ≡ cond b (Some name_taken) None
  known_fault after finds h b clash =
      ap (λ b. cond (not b) (Some name_unknown) (cond (clashes names (map name_of (defines_of at.minor e))) (Some name_taken) None)) (known_is after finds false h)
      ∙ ap (λ z. cond (clashes names z) (Some name_taken) None) (sym s.defined) ∙ ap (λ b. cond b (Some name_taken) None) clash

  pub taken_fault : (after : List Defined) → FindsAll at.phase at.thread names after → list_any is_unknown (uses_of 2 seen) ≡ false → clashes names texts ≡ true
      → name_fault at names e ≡ Some name_taken
  taken_fault after finds h clash = known_fault after finds h true clash

  pub no_fault : (after : List Defined) → FindsAll at.phase at.thread names after → list_any is_unknown (uses_of 2 seen) ≡ false → clashes names texts ≡ false
      → name_fault at names e ≡ None
  no_fault after finds h clash = known_fault after finds h false clash

  abbrev pub Numbers : Type 0
  Numbers = (phase thread : ℕ) (name : List ℕ) (n : ℕ) → number_of (may_use phase thread) names name ≡ Some n → number_of (λ d. true) names name ≡ Some n

  -- its names are refused
  pub refused_names : Numbers → length names < 2 ^ 63 → list_any is_unknown (uses_of 2 seen) ≡ false
      → (r : Result Line LineFault) (fault : LineFault) (after : List Defined) → DefinesAll at.phase at.thread names texts (Err fault) after → IsErrAnd r (λ f. f ≡ fault)
      → NumbersLine at names e r after
  refused_names once few known r fault after h out =
      let p = err_from_is_err_and r out in
      subst (λ (z : Result Line LineFault). NumbersLine at names e z after) (sym (p.1 ∙ ap (λ f. Err f) p.2)) (by fault h)
    where
      by : (f : LineFault) → DefinesAll at.phase at.thread names texts (Err f) after → NumbersLine at names e (Err f) after
      by (Refused kind) k =
          taken_fault (names ++ []) (finds at.phase at.thread names [] once few) known k.1 ∙ ap Some (sym k.0)
      by WantMemory k = tt

  -- the names then
  pub after_is : define at.phase at.thread names texts ≡ names_after at names e
  after_is = ap (define at.phase at.thread names) s.defined

  -- the line of the statement
  pub numbered_line : Numbers → length names < 2 ^ 63 → list_any is_unknown (uses_of 2 seen) ≡ false
      → (used : List ℕ) → used ≡ uses_of 2 seen → (numbers : List ℕ) (after : List Defined) → DefinesAll at.phase at.thread names texts (Ok numbers) after
      → (out : Event) → HasIds seen used numbers out → (line : Line) → line.number ≡ at.number → event_of_line line ≡ out
      → (name_fault at names e ≡ None) × (after ≡ names_after at names e) × (line_of line ≡ record { number = at.number; event = map_ids (renumber (names_after at names e)) e })
  numbered_line once few known used same numbers after d out h line number event =
      let more = map (λ (t : List ℕ). record { name = t; phase = at.phase; thread = at.thread }) texts in
      let found : FindsAll at.phase at.thread names after = subst (FindsAll at.phase at.thread names) (sym d.1) (finds at.phase at.thread names more once few) in
      let names_now : after ≡ names_after at names e = d.1 ∙ after_is in
      let whole : HasIds seen (uses_of 2 seen) numbers out = subst (λ (z : List ℕ). HasIds seen z numbers out) same h in
      let is = numbered_is after numbers out found known d.2 whole ∙ ap (λ (z : List Defined). map_ids (renumber z) e) names_now in
      (no_fault after found known d.0, names_now, (λ i. record { number = number i; event = (event ∙ is) i }))
