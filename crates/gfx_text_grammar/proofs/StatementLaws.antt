-- What is read of a statement shows so, and what shows so is read.
use Rattle.std.proofs.Common.{◌≡◌, ℕ, ◌≤◌, nat_eq, not, Bool, true, false, cond, List, [], ◌∷◌, ◌++◌, length, map, filter, flat_map, IsTrue, Some, refl, sym, ap, subst, ◌∙◌, arith, ◌⊎◌, inl, inr, codes, append-nil}
use Rattle.std.specs.List.{AllByRecursion, list_all}
use Rattle.std.proofs.lemmas.Bool.{cond-false, and_parts, and_right}
use Rattle.gfx_types.specs.declared.lists.Present.{Present}
use Rattle.gfx_model.specs.Events.{Event}
use Rattle.gfx_model.specs.Events.Event.{QueuePresentKHR, FillMemory, InitImage, SetSwapchainState, SetSemaphoreState, BeginSection, EndSection}
use Rattle.gfx_model.specs.Checks.{same_list}
use Rattle.gfx_model.specs.Spelling.{IsOfVersion, type_of}
use Rattle.gfx_script_model.specs.EventNames.{event_name}
use Rattle.gfx_model.specs.Fields.{Value, Named, is_made, field, named_fields, one_present}
use Rattle.gfx_model.specs.Fields.Records.{presents}
use Rattle.gfx_model.specs.Fields.Value.{names, makes, maybe, wide, short, raw, names_each, makes_each, shorts, records, submitted}
use Rattle.gfx_script_model.specs.FieldText.{field_text, value_text, ValueFits, FieldsFit}
use Rattle.gfx_script_model.specs.Ids.{defines_of, made_by}
use Rattle.gfx_script_model.specs.Statements.{statement_word, may_be_written, defining, statement_tokens, IsStatement}
use Rattle.gfx_grammar.specs.Reading.{◌>>=◌}
use Rattle.gfx_grammar.proofs.NumberLaws.{bind_some}
use Rattle.gfx_grammar.proofs.EventLaws.{chosen}
use Rattle.gfx_text_grammar.specs.Reads.{begins_item}
use Rattle.gfx_text_grammar.specs.FieldReading.{Left, without_front, with_fields, made_text, nothing}
use Rattle.gfx_text_grammar.specs.Rows.{read_event}
use Rattle.gfx_script_model.specs.Names.{name_of, is_name}
use Rattle.gfx_text_grammar.specs.Styles.{named}
use Rattle.gfx_text_grammar.specs.StatementReading.{apart_of, read_worded, read_behind, read_statement}
use Rattle.gfx_text_grammar.proofs.FieldLaws.{without_front_some, without_front-same}
use Rattle.gfx_text_grammar.proofs.EventLaws.{read_is_shown, shown_is_read}
use Rattle.gfx_text_grammar.proofs.Lists.{same_list-true}
use Rattle.gfx_text_grammar.proofs.StyleLaws.{named_style, name_letters, name_long, fields_named}
use Rattle.gfx_text_grammar.proofs.ValueLaws.{letter_begins}

-- ---- the texts of fields where made ids are written apart

abbrev others : List Named → List Named
others fs = filter (λ f. not (is_made f.value)) fs

others_left : (fs : List Named) → (with_fields named fs nothing).1 ≡ map (field_text name_of) (others fs)
others_left [] = refl
others_left (f ∷ fs) = by (is_made f.value) (others_left fs)
  where
    by : (b : Bool) → (with_fields named fs nothing).1 ≡ map (field_text name_of) (others fs)
        → (cond {A = Left} b (made_text named f.value ∷ (with_fields named fs nothing).0, (with_fields named fs nothing).1)
        ((with_fields named fs nothing).0, field_text name_of f ∷ (with_fields named fs nothing).1)).1
        ≡ map (field_text name_of) (cond (not b) (f ∷ others fs) (others fs))
    by true h = h
    by false h = ap (λ (z : List (List ℕ)). field_text name_of f ∷ z) h

-- the text and the equals sign
abbrev equals : List (List ℕ) → List (List ℕ)
equals [] = []
equals (t ∷ ts) = t ∷ codes "=" ∷ []

-- a value that is not made creates nothing, and one that fits and is made creates an id
made_nothing : (v : Value) → is_made v ≡ false → made_by v ≡ []
made_nothing (makes n) h = absurd cc
made_nothing (makes_each xs) h = absurd cc
made_nothing _ h = refl

made_some : (v : Value) → is_made v ≡ true → ValueFits named.ids v → defining (made_by v) ≡ made_text named v ∷ codes "=" ∷ []
made_some (makes n) h fits = refl
made_some (makes_each []) h fits = absurd (let no = fits.0 refl in omega (arith, no))
made_some (makes_each (x ∷ xs)) h fits = refl
made_some (names n) h fits = absurd cc
made_some (maybe n) h fits = absurd cc
made_some (wide n) h fits = absurd cc
made_some (short n) h fits = absurd cc
made_some (raw n) h fits = absurd cc
made_some (names_each n) h fits = absurd cc
made_some (shorts n) h fits = absurd cc
made_some (records n) h fits = absurd cc
made_some (submitted n) h fits = absurd cc

abbrev all_made : List Named → List ℕ
all_made fs = flat_map (λ f. made_by f.value) fs

none_made : (fs : List Named) → length (with_fields named fs nothing).0 ≤ 0 → all_made fs ≡ []
none_made [] few = refl
none_made (f ∷ fs) few = by (is_made f.value) refl few (none_made fs)
  where
    by : (b : Bool) → is_made f.value ≡ b
        → length (cond {A = Left} b (made_text named f.value ∷ (with_fields named fs nothing).0, (with_fields named fs nothing).1)
        ((with_fields named fs nothing).0, field_text name_of f ∷ (with_fields named fs nothing).1)).0 ≤ 0
        → (length (with_fields named fs nothing).0 ≤ 0 → all_made fs ≡ []) → made_by f.value ++ all_made fs ≡ []
    by true e h more = absurd (omega (arith, h))
    by false e h more = ap (λ (z : List ℕ). z ++ all_made fs) (made_nothing f.value e) ∙ more h

made_left : (fs : List Named) → FieldsFit named.ids fs → length (with_fields named fs nothing).0 ≤ 1 → equals (with_fields named fs nothing).0 ≡ defining (all_made fs)
made_left [] fits few = refl
made_left (f ∷ fs) fits few = by (is_made f.value) refl few (made_left fs fits.1)
  where
    by : (b : Bool) → is_made f.value ≡ b
        → length (cond {A = Left} b (made_text named f.value ∷ (with_fields named fs nothing).0, (with_fields named fs nothing).1)
        ((with_fields named fs nothing).0, field_text name_of f ∷ (with_fields named fs nothing).1)).0 ≤ 1
        → (length (with_fields named fs nothing).0 ≤ 1 → equals (with_fields named fs nothing).0 ≡ defining (all_made fs))
        → equals (cond {A = Left} b (made_text named f.value ∷ (with_fields named fs nothing).0, (with_fields named fs nothing).1)
        ((with_fields named fs nothing).0, field_text name_of f ∷ (with_fields named fs nothing).1)).0 ≡ defining (made_by f.value ++ all_made fs)
    by true e h more =
        sym (ap (λ (z : List ℕ). defining (made_by f.value ++ z)) (none_made fs (omega (arith, h))) ∙ ap (defining) (append-nil (made_by f.value)) ∙ made_some f.value e fits.0)
    by false e h more = more h ∙ ap (λ (z : List ℕ). defining (z ++ all_made fs)) (sym (made_nothing f.value e))

-- a call creates ids in one field at most
one_made : (m : ℕ) (e : Event) → length (with_fields named (named_fields m e) nothing).0 ≤ 1
one_made m (QueuePresentKHR queue waits ps) = by (nat_eq m 1) ps
  where
    by : (b : Bool) (ps : List Present) → length (with_fields named (cond b (one_present ps) (field "presents" (records (presents ps)) ∷ [])) nothing).0 ≤ 1
    by true [] = omega arith
    by true (p ∷ []) = omega arith
    by true (p ∷ q ∷ ps) = omega arith
    by false ps = omega arith
one_made m _ = omega arith

-- the tokens of an event in this style
tokens_left : (m : ℕ) (e : Event) → FieldsFit named.ids (named_fields m e)
    → equals (with_fields named (named_fields m e) nothing).0 ++ statement_word e ∷ (with_fields named (named_fields m e) nothing).1 ≡ statement_tokens m e
unfolding defines_of statement_tokens
tokens_left m e fits =
    ap (λ (z : List (List ℕ)). z ++ statement_word e ∷ (with_fields named (named_fields m e) nothing).1) (made_left (named_fields m e) fits (one_made m e))
    ∙ ap (λ (z : List (List ℕ)). defining (all_made (named_fields m e)) ++ statement_word e ∷ z) (others_left (named_fields m e))

-- ---- words

fill_word : (e : Event) → event_name e ≡ codes "FillMemory" → type_of e ≡ 3 → (codes "write" ≡ statement_word e) × (may_be_written e ≡ true)
unfolding event_name type_of
fill_word (FillMemory a b c) name type = (refl, refl)
fill_word (InitImage a b c) name type = absurd cc
fill_word (SetSwapchainState a b) name type = absurd cc
fill_word (SetSemaphoreState a b) name type = absurd cc
fill_word _ name type = absurd (omega (arith, type))

call_word : (e : Event) → type_of e ≡ 4 → (codes "vk" ++ event_name e ≡ statement_word e) × (may_be_written e ≡ true)
unfolding event_name type_of
call_word (FillMemory a b c) type = absurd (omega (arith, type))
call_word (InitImage a b c) type = absurd (omega (arith, type))
call_word (SetSwapchainState a b) type = absurd (omega (arith, type))
call_word (SetSemaphoreState a b) type = absurd (omega (arith, type))
call_word (BeginSection a) type = absurd (omega (arith, type))
call_word (EndSection a) type = absurd (omega (arith, type))
call_word _ type = (refl, refl)

-- ---- what is read is shown

worded_takes : (m : ℕ) (word : List ℕ) (made ts : List (List ℕ)) (e : Event) → read_worded m word (made, ts) ≡ Some e
    → IsTrue (may_be_written e) × FieldsFit named.ids (named_fields m e) × IsOfVersion m e × ((made, ts) ≡ with_fields named (named_fields m e) nothing) × (word ≡ statement_word e)
worded_takes m word made ts e is =
    elim (chosen (same_list word (codes "write")) _ _ _ is) [
      | inl write ↦
          let h = read_is_shown named named_style m 3 (codes "FillMemory") (made, ts) e write.1 in
          let w = fill_word e h.3 h.4 in
          (w.1, h.0, h.2, h.1, same_list-true word (codes "write") write.0 ∙ w.0)
      | inr call ↦
          let a = bind_some (without_front (codes "vk") word) (λ call. read_event named m 4 call (made, ts)) e call.1 in
          let h = read_is_shown named named_style m 4 a.0 (made, ts) e a.2 in
          let w = call_word e h.4 in
          (w.1, h.0, h.2, h.1, without_front_some (codes "vk") word a.0 a.1 ∙ ap (λ (z : List ℕ). codes "vk" ++ z) (sym h.3) ∙ w.0)
    ]

apart_takes : (tokens : List (List ℕ)) → tokens ≡ equals (apart_of tokens).0 ++ (apart_of tokens).1
apart_takes [] = refl
apart_takes (t ∷ []) = refl
apart_takes (t ∷ u ∷ ts) = by (same_list u (codes "=")) refl
  where
    by : (b : Bool) → same_list u (codes "=") ≡ b
        → t ∷ u ∷ ts ≡ equals (cond {A = Left} b (t ∷ [], ts) ([], t ∷ u ∷ ts)).0 ++ (cond {A = Left} b (t ∷ [], ts) ([], t ∷ u ∷ ts)).1
    by true e = ap (λ (z : List ℕ). t ∷ z ∷ ts) (same_list-true u (codes "=") e)
    by false e = refl

behind_takes : (m : ℕ) (made tokens : List (List ℕ)) (e : Event) → read_behind m made tokens ≡ Some e → IsStatement m (equals made ++ tokens) e
behind_takes m made [] e is = absurd cc
behind_takes m made (word ∷ ts) e is =
    let h = worded_takes m word made ts e is in
    record {
      written = h.0;
      fits = h.1;
      version = h.2;
      same =
          ap (λ (z : List ℕ). equals made ++ z ∷ ts) h.4
          ∙ ap (λ (z : Left). equals z.0 ++ statement_word e ∷ z.1) h.3
          ∙ tokens_left m e h.1;
    }

pub statement_takes : (m : ℕ) (tokens : List (List ℕ)) (e : Event) → read_statement m tokens ≡ Some e → IsStatement m tokens e
unfolding read_statement
statement_takes m tokens e is =
    subst (λ (z : List (List ℕ)). IsStatement m z e) (sym (apart_takes tokens)) (behind_takes m (apart_of tokens).0 (apart_of tokens).1 e is)

-- ---- what is shown is read

pub spoken : (e : Event) → IsTrue (may_be_written e)
    → ((statement_word e ≡ codes "write") × (type_of e ≡ 3) × (event_name e ≡ codes "FillMemory")) ⊎ ((statement_word e ≡ codes "vk" ++ event_name e) × (type_of e ≡ 4))
unfolding event_name type_of
spoken (FillMemory a b c) h = inl (refl, refl, refl)
spoken (InitImage a b c) h = absurd cc
spoken (SetSwapchainState a b) h = absurd cc
spoken (SetSemaphoreState a b) h = absurd cc
spoken (BeginSection a) h = absurd cc
spoken (EndSection a) h = absurd cc
spoken _ h = inr (refl, refl)

worded_again : (m : ℕ) (e : Event) → IsTrue (may_be_written e) → FieldsFit named.ids (named_fields m e) → IsOfVersion m e
    → read_worded m (statement_word e) (with_fields named (named_fields m e) nothing) ≡ Some e
worded_again m e written fits version =
    let left = with_fields named (named_fields m e) nothing in
    let read = shown_is_read named named_style m e version fits in
    elim (spoken e written) [
      | inl w ↦
          ap (λ (z : List ℕ). read_worded m z left) w.0
          ∙ ap (λ (z : List ℕ). read_event named m 3 z left) (sym w.2) ∙ ap (λ k. read_event named m k (event_name e) left) (sym w.1) ∙ read
      | inr c ↦
          ap (λ (z : List ℕ). read_worded m z left) c.0
          ∙ ap (λ o. o >>= λ call. read_event named m 4 call left) (without_front-same (codes "vk") (event_name e))
          ∙ ap (λ k. read_event named m k (event_name e) left) (sym c.1) ∙ read
    ]

-- a field's token is not the equals sign
long_not_equals : (name rest : List ℕ) → begins_item name ≡ true → same_list (name ++ codes "=" ++ rest) (codes "=") ≡ false
long_not_equals [] rest h = absurd cc
long_not_equals (c ∷ []) rest h = and_right (nat_eq c 61) false refl
long_not_equals (c ∷ d ∷ cs) rest h = and_right (nat_eq c 61) false refl

no_equals : (fs : List Named) → list_all (λ f. is_name f.name) fs ≡ true → AllByRecursion (λ t. same_list t (codes "=") ≡ false) (map (field_text name_of) (others fs))
no_equals [] h = tt
no_equals (f ∷ fs) h =
    let names = and_parts (is_name f.name) (list_all (λ f. is_name f.name) fs) h in
    let begins = letter_begins f.name (name_long f.name names.0).0 (name_letters f.name names.0) in
    by (is_made f.value) (no_equals fs names.1) (long_not_equals f.name (value_text name_of f.value) begins)
  where
    by : (b : Bool) → AllByRecursion (λ t. same_list t (codes "=") ≡ false) (map (field_text name_of) (others fs)) → same_list (field_text name_of f) (codes "=") ≡ false
        → AllByRecursion (λ t. same_list t (codes "=") ≡ false) (map (field_text name_of) (cond (not b) (f ∷ others fs) (others fs)))
    by true more this = more
    by false more this = (this, more)

apart_again : (made : List (List ℕ)) (word : List ℕ) (ts : List (List ℕ)) → length made ≤ 1 → AllByRecursion (λ t. same_list t (codes "=") ≡ false) ts
    → apart_of (equals made ++ word ∷ ts) ≡ (made, word ∷ ts)
apart_again [] word [] few h = refl
apart_again [] word (t ∷ ts) few h = cond-false (same_list t (codes "=")) _ _ h.0
apart_again (n ∷ []) word ts few h = refl
apart_again (n ∷ k ∷ ns) word ts few h = absurd (omega (arith, few))

pub statement_again : (m : ℕ) (tokens : List (List ℕ)) (e : Event) → IsStatement m tokens e → read_statement m tokens ≡ Some e
unfolding read_statement
statement_again m tokens e h =
    let left = with_fields named (named_fields m e) nothing in
    let plain = subst (λ (z : List (List ℕ)). AllByRecursion (λ t. same_list t (codes "=") ≡ false) z) (sym (others_left (named_fields m e))) (no_equals (named_fields m e) (fields_named m e)) in
    let split : apart_of tokens ≡ (left.0, statement_word e ∷ left.1) =
    ap apart_of (h.same ∙ sym (tokens_left m e h.fits)) ∙ apart_again left.0 (statement_word e) left.1 (one_made m e) plain in
    ap (λ (z : Left). read_behind m z.0 z.1) split ∙ worded_again m e h.written h.fits h.version
