-- An event whose fields have a text in a script has a spelling with numbers of eight bytes as its ids.
use Rattle.std.proofs.Common.{◌≡◌, ℕ, suc, get_or, ◌<◌, ◌^◌, true, false, List, [], ◌∷◌, ◌++◌, map, flat_map, length, refl, sym, ap, subst, ◌∙◌, arith}
use Rattle.std.specs.List.{AllByRecursion}
use Rattle.std.proofs.lemmas.List.{length-map}
use Rattle.std.proofs.lemmas.Bool.{lt-ltb}
use Rattle.gfx_types.specs.declared.lists.Barrier.{Barrier}
use Rattle.gfx_types.specs.declared.lists.Present.{Present}
use Rattle.gfx_types.specs.declared.lists.Submit.{Submit}
use Rattle.gfx_model.specs.Events.{Event}
use Rattle.gfx_model.specs.Events.Event.{QueuePresentKHR}
use Rattle.gfx_model.specs.Spelling.{HasSpelling, IsOfVersion}
use Rattle.gfx_model.specs.Fields.{Atom, Value, Named, named_fields, atoms_of, barrier_atoms, present_atoms}
use Rattle.gfx_model.specs.Fields.Atom.{an_id, a_wide, a_short}
use Rattle.gfx_model.specs.Fields.Records.{barriers, buffer_regions, image_regions, mixed_regions, presents}
use Rattle.gfx_model.specs.Fields.Value.{names, makes, maybe, wide, short, raw, names_each, makes_each, shorts, records, submitted}
use Rattle.gfx_script_model.specs.FieldText.{IdStyle, IdFits, AtomFits, SubmitFits, ValueFits, FieldsFit}
use Rattle.gfx_script_model.specs.Ids.{atom_ids, named_by, made_by, barrier_ids, present_ids, submit_ids, uses_of, defines_of, map_ids}
use Rattle.gfx_script_model.specs.Names.{named_ids}
use Rattle.gfx_text_grammar.specs.Styles.{numbered}
use Rattle.gfx_text_grammar.proofs.Lists.{all_parts}
use Rattle.gfx_text_grammar.proofs.SpellingLaws.{text-spelling}
use Rattle.gfx_script.specs.Puts.{AreWide}
use Rattle.gfx_script.proofs.Renaming.{value_ids, field_ids, fields_renamed}

-- every id fits
abbrev pub any_ids : IdStyle
any_ids = record { show = λ _. []; is_id = λ _. true; is_maybe = λ _. true; apart = false }

weaker : {X : Type 0} {P Q : X → Type 0} → ((x : X) → P x → Q x) → (xs : List X) → AllByRecursion P xs → AllByRecursion Q xs
weaker each [] h = tt
weaker each (x ∷ xs) h = (each x h.0, weaker each xs h.1)

any_id : (xs : List ℕ) → AllByRecursion (IdFits any_ids) xs
any_id [] = tt
any_id (x ∷ xs) = (refl, any_id xs)

-- ---- whatever the ids are

atom_any : (a : Atom) → AtomFits named_ids a → AtomFits any_ids a
atom_any (an_id n) h = refl
atom_any (a_wide n) h = h
atom_any (a_short n) h = h

submit_any : (s : Submit) → SubmitFits named_ids s → SubmitFits any_ids s
submit_any s h = ((h.0.0, any_id s.waits), ((h.1.0.0, any_id s.cbs), (h.1.1.0, any_id s.signals)))

value_any : (v : Value) → ValueFits named_ids v → ValueFits any_ids v
value_any (names n) h = refl
value_any (makes n) h = refl
value_any (maybe n) h = refl
value_any (wide n) h = h
value_any (short n) h = h
value_any (raw bytes) h = h
value_any (names_each xs) h = (h.0, any_id xs)
value_any (makes_each xs) h = (λ e. absurd (let no : false ≡ true = e in cc), (h.1.0, any_id xs))
value_any (shorts ns) h = h
value_any (records rs) h = (h.0, weaker (λ r k. weaker atom_any r k) (atoms_of rs) h.1)
value_any (submitted ss) h = (h.0, weaker submit_any ss h.1)

fields_any : (fs : List Named) → FieldsFit named_ids fs → FieldsFit any_ids fs
fields_any fs h = weaker (λ f k. value_any f.value k) fs h

-- ---- with other ids, and back

few : {X Y : Type 0} (g : X → Y) (xs : List X) → length xs < 2 ^ 32 → length (map g xs) < 2 ^ 32
few g xs h = omega (arith, h, length-map xs g)

few_back : {X Y : Type 0} (g : X → Y) (xs : List X) → length (map g xs) < 2 ^ 32 → length xs < 2 ^ 32
few_back g xs h = omega (arith, h, length-map xs g)

-- what holds of each item holds of each renamed one
over : {X : Type 0} {P : X → Type 0} (g : X → X) → ((x : X) → P x → P (g x)) → (xs : List X) → AllByRecursion P xs → AllByRecursion P (map g xs)
over g each [] h = tt
over g each (x ∷ xs) h = (each x h.0, over g each xs h.1)

back : {X : Type 0} {P : X → Type 0} (g : X → X) → ((x : X) → P (g x) → P x) → (xs : List X) → AllByRecursion P (map g xs) → AllByRecursion P xs
back g each [] h = tt
back g each (x ∷ xs) h = (each x h.0, back g each xs h.1)

abbrev AllFit : {X : Type 0} → (X → List Atom) → List X → Type 0
AllFit atoms xs = AllByRecursion (AllByRecursion (AtomFits any_ids)) (map atoms xs)

barriers_over : (f : ℕ → ℕ) (bs : List Barrier) → AllFit barrier_atoms bs → AllFit barrier_atoms (map (barrier_ids f) bs)
barriers_over f [] h = tt
barriers_over f (b ∷ bs) h = ((refl, (h.0.1.0, (h.0.1.1.0, tt))), barriers_over f bs h.1)

barriers_back : (f : ℕ → ℕ) (bs : List Barrier) → AllFit barrier_atoms (map (barrier_ids f) bs) → AllFit barrier_atoms bs
barriers_back f [] h = tt
barriers_back f (b ∷ bs) h = ((refl, (h.0.1.0, (h.0.1.1.0, tt))), barriers_back f bs h.1)

presents_over : (f : ℕ → ℕ) (ps : List Present) → AllFit present_atoms ps → AllFit present_atoms (map (present_ids f) ps)
presents_over f [] h = tt
presents_over f (p ∷ ps) h = ((refl, (h.0.1.0, tt)), presents_over f ps h.1)

presents_back : (f : ℕ → ℕ) (ps : List Present) → AllFit present_atoms (map (present_ids f) ps) → AllFit present_atoms ps
presents_back f [] h = tt
presents_back f (p ∷ ps) h = ((refl, (h.0.1.0, tt)), presents_back f ps h.1)

records_few : {X : Type 0} (atoms : X → List Atom) (g : X → X) (xs : List X) → length (map atoms xs) < 2 ^ 32 → length (map atoms (map g xs)) < 2 ^ 32
records_few atoms g xs h = omega (arith, h, length-map xs atoms, length-map xs g, length-map (map g xs) atoms)

records_few_back : {X : Type 0} (atoms : X → List Atom) (g : X → X) (xs : List X) → length (map atoms (map g xs)) < 2 ^ 32 → length (map atoms xs) < 2 ^ 32
records_few_back atoms g xs h = omega (arith, h, length-map xs atoms, length-map xs g, length-map (map g xs) atoms)

submit_over : (f : ℕ → ℕ) (s : Submit) → SubmitFits any_ids s → SubmitFits any_ids (submit_ids f s)
submit_over f s h =
    ((few f s.waits h.0.0, any_id (map f s.waits)), ((few f s.cbs h.1.0.0, any_id (map f s.cbs)), (few f s.signals h.1.1.0, any_id (map f s.signals))))

submit_back : (f : ℕ → ℕ) (s : Submit) → SubmitFits any_ids (submit_ids f s) → SubmitFits any_ids s
submit_back f s h =
    ((few_back f s.waits h.0.0, any_id s.waits), ((few_back f s.cbs h.1.0.0, any_id s.cbs), (few_back f s.signals h.1.1.0, any_id s.signals)))

value_over : (f : ℕ → ℕ) (v : Value) → ValueFits any_ids v → ValueFits any_ids (value_ids f v)
value_over f (names n) h = refl
value_over f (makes n) h = refl
value_over f (maybe n) h = refl
value_over f (wide n) h = h
value_over f (short n) h = h
value_over f (raw bytes) h = h
value_over f (names_each xs) h = (few f xs h.0, any_id (map f xs))
value_over f (makes_each xs) h = (λ e. absurd (let no : false ≡ true = e in cc), (few f xs h.1.0, any_id (map f xs)))
value_over f (shorts ns) h = h
value_over f (records (barriers bs)) h = (records_few barrier_atoms (barrier_ids f) bs h.0, barriers_over f bs h.1)
value_over f (records (presents ps)) h = (records_few present_atoms (present_ids f) ps h.0, presents_over f ps h.1)
value_over f (records (buffer_regions rs)) h = h
value_over f (records (image_regions rs)) h = h
value_over f (records (mixed_regions rs)) h = h
value_over f (submitted ss) h = (few (submit_ids f) ss h.0, over (submit_ids f) (submit_over f) ss h.1)

value_back : (f : ℕ → ℕ) (v : Value) → ValueFits any_ids (value_ids f v) → ValueFits any_ids v
value_back f (names n) h = refl
value_back f (makes n) h = refl
value_back f (maybe n) h = refl
value_back f (wide n) h = h
value_back f (short n) h = h
value_back f (raw bytes) h = h
value_back f (names_each xs) h = (few_back f xs h.0, any_id xs)
value_back f (makes_each xs) h = (λ e. absurd (let no : false ≡ true = e in cc), (few_back f xs h.1.0, any_id xs))
value_back f (shorts ns) h = h
value_back f (records (barriers bs)) h = (records_few_back barrier_atoms (barrier_ids f) bs h.0, barriers_back f bs h.1)
value_back f (records (presents ps)) h = (records_few_back present_atoms (present_ids f) ps h.0, presents_back f ps h.1)
value_back f (records (buffer_regions rs)) h = h
value_back f (records (image_regions rs)) h = h
value_back f (records (mixed_regions rs)) h = h
value_back f (submitted ss) h = (few_back (submit_ids f) ss h.0, back (submit_ids f) (submit_back f) ss h.1)

fields_over : (f : ℕ → ℕ) (fs : List Named) → FieldsFit any_ids fs → FieldsFit any_ids (map (field_ids f) fs)
fields_over f [] h = tt
fields_over f (g ∷ fs) h = (value_over f g.value h.0, fields_over f fs h.1)

fields_back : (f : ℕ → ℕ) (fs : List Named) → FieldsFit any_ids (map (field_ids f) fs) → FieldsFit any_ids fs
fields_back f [] h = tt
fields_back f (g ∷ fs) h = (value_back f g.value h.0, fields_back f fs h.1)

-- events that are alike without their ids fit alike
alike_fit : (m : ℕ) (a b : Event) → map_ids (λ _. 0) b ≡ map_ids (λ _. 0) a → FieldsFit any_ids (named_fields m a) → FieldsFit any_ids (named_fields m b)
alike_fit m a b same h =
    fields_back (λ _. 0) (named_fields m b)
    (subst (FieldsFit any_ids) (sym (fields_renamed m (λ _. 0) a) ∙ ap (named_fields m) (sym same) ∙ fields_renamed m (λ _. 0) b)
    (fields_over (λ _. 0) (named_fields m a) h))

-- ---- numbers of eight bytes

-- a list of numbers of eight bytes
pub all_wide : (xs : List ℕ) → ((i : ℕ) → get_or xs i 0 < 2 ^ 64) → AreWide xs
all_wide [] h = tt
all_wide (x ∷ xs) h = (h 0, all_wide xs (λ i. h (suc i)))

wide_ids : (xs : List ℕ) → AreWide xs → AllByRecursion (IdFits numbered.ids) xs
wide_ids xs h = weaker (λ n k. lt-ltb _ _ k) xs h

atoms_wide : (xs : List Atom) → AllByRecursion (AtomFits any_ids) xs → AreWide (flat_map atom_ids xs) → AllByRecursion (AtomFits numbered.ids) xs
atoms_wide [] h w = tt
atoms_wide (an_id n ∷ xs) h w = (lt-ltb _ _ w.0, atoms_wide xs h.1 w.1)
atoms_wide (a_wide n ∷ xs) h w = (h.0, atoms_wide xs h.1 w)
atoms_wide (a_short n ∷ xs) h w = (h.0, atoms_wide xs h.1 w)

records_wide : (rs : List (List Atom)) → AllByRecursion (AllByRecursion (AtomFits any_ids)) rs → AreWide (flat_map (flat_map atom_ids) rs)
    → AllByRecursion (AllByRecursion (AtomFits numbered.ids)) rs
records_wide [] h w = tt
records_wide (r ∷ rs) h w =
    let parts = all_parts (λ (n : ℕ). n < 2 ^ 64) (flat_map atom_ids r) (flat_map (flat_map atom_ids) rs) w in
    (atoms_wide r h.0 parts.0, records_wide rs h.1 parts.1)

submits_wide : (ss : List Submit) → AllByRecursion (SubmitFits any_ids) ss → AreWide (flat_map (λ s. s.waits ++ s.cbs ++ s.signals) ss) → AllByRecursion (SubmitFits numbered.ids) ss
submits_wide [] h w = tt
submits_wide (s ∷ ss) h w =
    let P : ℕ → Type 0 = λ n. n < 2 ^ 64 in
    let parts = all_parts P (s.waits ++ s.cbs ++ s.signals) (flat_map (λ s. s.waits ++ s.cbs ++ s.signals) ss) w in
    let last = all_parts P (s.waits ++ s.cbs) s.signals parts.0 in
    let first = all_parts P s.waits s.cbs last.0 in
    (((h.0.0.0, wide_ids s.waits first.0), ((h.0.1.0.0, wide_ids s.cbs first.1), (h.0.1.1.0, wide_ids s.signals last.1))), submits_wide ss h.1 parts.1)

value_wide : (v : Value) → ValueFits any_ids v → AreWide (named_by v) → AreWide (made_by v) → ValueFits numbered.ids v
value_wide (names n) h a b = lt-ltb _ _ a.0
value_wide (makes n) h a b = lt-ltb _ _ b.0
value_wide (maybe n) h a b = lt-ltb _ _ a.0
value_wide (wide n) h a b = h
value_wide (short n) h a b = h
value_wide (raw bytes) h a b = h
value_wide (names_each xs) h a b = (h.0, wide_ids xs a)
value_wide (makes_each xs) h a b = (λ e. absurd (let no : false ≡ true = e in cc), (h.1.0, wide_ids xs b))
value_wide (shorts ns) h a b = h
value_wide (records rs) h a b = (h.0, records_wide (atoms_of rs) h.1 a)
value_wide (submitted ss) h a b = (h.0, submits_wide ss h.1 a)

fields_wide : (fs : List Named) → FieldsFit any_ids fs → AreWide (flat_map (λ f. named_by f.value) fs) → AreWide (flat_map (λ f. made_by f.value) fs) → FieldsFit numbered.ids fs
fields_wide [] h a b = tt
fields_wide (f ∷ fs) h a b =
    let P : ℕ → Type 0 = λ n. n < 2 ^ 64 in
    let named = all_parts P (named_by f.value) (flat_map (λ f. named_by f.value) fs) a in
    let made = all_parts P (made_by f.value) (flat_map (λ f. made_by f.value) fs) b in
    (value_wide f.value h.0 named.0 made.0, fields_wide fs h.1 named.1 made.1)

-- ---- events

version_over : (m : ℕ) (f : ℕ → ℕ) (e : Event) → IsOfVersion m e → IsOfVersion m (map_ids f e)
unfolding map_ids
version_over m f (QueuePresentKHR queue waits ps) h = λ e. length-map ps (present_ids f) ∙ h e
version_over m f _ h = tt

version_back : (m : ℕ) (f : ℕ → ℕ) (e : Event) → IsOfVersion m (map_ids f e) → IsOfVersion m e
unfolding map_ids
version_back m f (QueuePresentKHR queue waits ps) h = λ e. sym (length-map ps (present_ids f)) ∙ h e
version_back m f _ h = tt

-- an event that is alike is of the same version
pub alike_version : (m : ℕ) (a b : Event) → map_ids (λ _. 0) b ≡ map_ids (λ _. 0) a → IsOfVersion m a → IsOfVersion m b
alike_version m a b same h = version_back m (λ _. 0) b (subst (IsOfVersion m) (sym same) (version_over m (λ _. 0) a h))

-- an event that has a text in a script has a spelling, whatever numbers of eight bytes stand for its names
pub alike_spelled : (m : ℕ) (a b : Event) → FieldsFit named_ids (named_fields m a) → IsOfVersion m a → map_ids (λ _. 0) b ≡ map_ids (λ _. 0) a
    → AreWide (uses_of m b) → AreWide (defines_of m b) → HasSpelling m b
unfolding uses_of defines_of
alike_spelled m a b fits version same named made = record {
  version = alike_version m a b same version;
  fields = text-spelling m b (fields_wide (named_fields m b) (alike_fit m a b same (fields_any (named_fields m a) fits)) named made);
}
