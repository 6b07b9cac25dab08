-- In a listing the fields that have a text are those that have a spelling.
use Rattle.std.proofs.Common.{ℕ, ◌<◌, ◌^◌, List, [], ◌∷◌, ◌++◌, map, flat_map, arith}
use Rattle.std.specs.List.{AllByRecursion}
use Rattle.std.proofs.lemmas.Bool.{lt-ltb, ltb-true}
use Rattle.gfx_types.specs.declared.lists.Submit.{Submit}
use Rattle.gfx_model.specs.Events.{Event}
use Rattle.gfx_model.specs.Spelling.{Field, FieldFits, fields_of, list_of, id_fields, word_fields, submit_fields, value_fields, atom_field, spelled_by}
use Rattle.gfx_model.specs.Fields.{Atom, Value, Named, named_fields, barrier_atoms, buffer_region_atoms, image_region_atoms, mixed_region_atoms, present_atoms}
use Rattle.gfx_model.specs.Fields.Atom.{an_id, a_wide, a_short}
use Rattle.gfx_model.specs.Fields.Value.{names, makes, maybe, wide, short, raw, names_each, makes_each, shorts, records, submitted}
use Rattle.gfx_grammar.specs.Reads.{Fits}
use Rattle.gfx_grammar.proofs.ReaderLaws.{Fits-append, Fits-parts}
use Rattle.gfx_script_model.specs.FieldText.{IdFits, AtomFits, ListFits, SubmitFits, ValueFits, FieldsFit}
use Rattle.gfx_text_grammar.specs.Styles.{numbered}
use Rattle.gfx_model.specs.Fields.Records.{barriers, buffer_regions, image_regions, mixed_regions, presents}
use Rattle.std.proofs.lemmas.List.{length-map}
use Rattle.gfx_text_grammar.proofs.Lists.{all_of_map, map_of_all}

-- ---- lists

items_fit : {X : Type 0} (P : X → Type 0) (fields : X → List Field) → ((x : X) → P x → Fits (fields x)) → (xs : List X) → AllByRecursion P xs → Fits (flat_map fields xs)
items_fit P fields each [] h = tt
items_fit P fields each (x ∷ xs) h = Fits-append (fields x) (flat_map fields xs) (each x h.0) (items_fit P fields each xs h.1)

fit_items : {X : Type 0} (P : X → Type 0) (fields : X → List Field) → ((x : X) → Fits (fields x) → P x) → (xs : List X) → Fits (flat_map fields xs) → AllByRecursion P xs
fit_items P fields each [] h = tt
fit_items P fields each (x ∷ xs) h = let parts = Fits-parts (fields x) (flat_map fields xs) h in (each x parts.0, fit_items P fields each xs parts.1)

list_fits : {X : Type 0} (P : X → Type 0) (fields : X → List Field) → ((x : X) → P x → Fits (fields x)) → (xs : List X) → ListFits P xs → Fits (list_of fields xs)
list_fits P fields each xs h = (h.0, items_fit P fields each xs h.1)

fits_list : {X : Type 0} (P : X → Type 0) (fields : X → List Field) → ((x : X) → Fits (fields x) → P x) → (xs : List X) → Fits (list_of fields xs) → ListFits P xs
fits_list P fields each xs h = (h.0, fit_items P fields each xs h.1)

ids_fit : (xs : List ℕ) → ListFits (IdFits numbered.ids) xs → Fits (list_of id_fields xs)
ids_fit xs h = list_fits (IdFits numbered.ids) id_fields (λ x p. (ltb-true _ _ p, tt)) xs h

fit_ids : (xs : List ℕ) → Fits (list_of id_fields xs) → ListFits (IdFits numbered.ids) xs
fit_ids xs h = fits_list (IdFits numbered.ids) id_fields (λ x p. lt-ltb _ _ p.0) xs h

atoms_fit : (atoms : List Atom) → AllByRecursion (AtomFits numbered.ids) atoms → Fits (map atom_field atoms)
atoms_fit [] h = tt
atoms_fit (an_id n ∷ atoms) h = (ltb-true _ _ h.0, atoms_fit atoms h.1)
atoms_fit (a_wide n ∷ atoms) h = (h.0, atoms_fit atoms h.1)
atoms_fit (a_short n ∷ atoms) h = (h.0, atoms_fit atoms h.1)

fit_atoms : (atoms : List Atom) → Fits (map atom_field atoms) → AllByRecursion (AtomFits numbered.ids) atoms
fit_atoms [] h = tt
fit_atoms (an_id n ∷ atoms) h = (lt-ltb _ _ h.0, fit_atoms atoms h.1)
fit_atoms (a_wide n ∷ atoms) h = (h.0, fit_atoms atoms h.1)
fit_atoms (a_short n ∷ atoms) h = (h.0, fit_atoms atoms h.1)

records_fit : {X : Type 0} (atoms : X → List Atom) (xs : List X) → ListFits (AllByRecursion (AtomFits numbered.ids)) (map atoms xs) → Fits (list_of (λ x. map atom_field (atoms x)) xs)
records_fit atoms xs h =
    list_fits (λ x. AllByRecursion (AtomFits numbered.ids) (atoms x)) (λ x. map atom_field (atoms x)) (λ x p. atoms_fit (atoms x) p) xs
    (omega (arith, h.0, length-map xs atoms), all_of_map (AllByRecursion (AtomFits numbered.ids)) atoms xs h.1)

fits_records : {X : Type 0} (atoms : X → List Atom) (xs : List X) → Fits (list_of (λ x. map atom_field (atoms x)) xs) → ListFits (AllByRecursion (AtomFits numbered.ids)) (map atoms xs)
fits_records atoms xs h =
    let g = fits_list (λ x. AllByRecursion (AtomFits numbered.ids) (atoms x)) (λ x. map atom_field (atoms x)) (λ x p. fit_atoms (atoms x) p) xs h in
    (omega (arith, g.0, length-map xs atoms), map_of_all (AllByRecursion (AtomFits numbered.ids)) atoms xs g.1)

submit_fits : (x : Submit) → SubmitFits numbered.ids x → Fits (submit_fields x)
submit_fits x h =
    Fits-append (list_of id_fields x.waits ++ list_of id_fields x.cbs) (list_of id_fields x.signals)
    (Fits-append (list_of id_fields x.waits) (list_of id_fields x.cbs) (ids_fit x.waits h.0) (ids_fit x.cbs h.1.0)) (ids_fit x.signals h.1.1)

fits_submit : (x : Submit) → Fits (submit_fields x) → SubmitFits numbered.ids x
fits_submit x h =
    let a = Fits-parts (list_of id_fields x.waits ++ list_of id_fields x.cbs) (list_of id_fields x.signals) h in
    let b = Fits-parts (list_of id_fields x.waits) (list_of id_fields x.cbs) a.0 in
    (fit_ids x.waits b.0, (fit_ids x.cbs b.1, fit_ids x.signals a.1))

-- ---- fields

value_fits : (v : Value) → ValueFits numbered.ids v → Fits (value_fields v)
value_fits (names n) h = (ltb-true _ _ h, tt)
value_fits (makes n) h = (ltb-true _ _ h, tt)
value_fits (maybe n) h = (ltb-true _ _ h, tt)
value_fits (wide n) h = (h, tt)
value_fits (short n) h = (h, tt)
value_fits (raw bytes) h = (h, tt)
value_fits (names_each xs) h = ids_fit xs h
value_fits (makes_each xs) h = ids_fit xs h.1
value_fits (shorts xs) h = list_fits (λ n. n < 2 ^ 32) word_fields (λ x p. (p, tt)) xs h
value_fits (records (barriers xs)) h = records_fit barrier_atoms xs h
value_fits (records (buffer_regions xs)) h = records_fit buffer_region_atoms xs h
value_fits (records (image_regions xs)) h = records_fit image_region_atoms xs h
value_fits (records (mixed_regions xs)) h = records_fit mixed_region_atoms xs h
value_fits (records (presents xs)) h = records_fit present_atoms xs h
value_fits (submitted xs) h = list_fits (SubmitFits numbered.ids) submit_fields submit_fits xs h

fits_value : (v : Value) → Fits (value_fields v) → ValueFits numbered.ids v
fits_value (names n) h = lt-ltb _ _ h.0
fits_value (makes n) h = lt-ltb _ _ h.0
fits_value (maybe n) h = lt-ltb _ _ h.0
fits_value (wide n) h = h.0
fits_value (short n) h = h.0
fits_value (raw bytes) h = h.0
fits_value (names_each xs) h = fit_ids xs h
fits_value (makes_each xs) h = (λ e. let no : ⊥ = cc in absurd no, fit_ids xs h)
fits_value (shorts xs) h = fits_list (λ n. n < 2 ^ 32) word_fields (λ x p. p.0) xs h
fits_value (records (barriers xs)) h = fits_records barrier_atoms xs h
fits_value (records (buffer_regions xs)) h = fits_records buffer_region_atoms xs h
fits_value (records (image_regions xs)) h = fits_records image_region_atoms xs h
fits_value (records (mixed_regions xs)) h = fits_records mixed_region_atoms xs h
fits_value (records (presents xs)) h = fits_records present_atoms xs h
fits_value (submitted xs) h = fits_list (SubmitFits numbered.ids) submit_fields fits_submit xs h

fields_fit : (fs : List Named) → FieldsFit numbered.ids fs → Fits (spelled_by fs)
fields_fit [] h = tt
fields_fit (f ∷ []) h = value_fits f.value h.0
fields_fit (f ∷ g ∷ fs) h = Fits-append (value_fields f.value) (spelled_by (g ∷ fs)) (value_fits f.value h.0) (fields_fit (g ∷ fs) h.1)

fit_fields : (fs : List Named) → Fits (spelled_by fs) → FieldsFit numbered.ids fs
fit_fields [] h = tt
fit_fields (f ∷ []) h = (fits_value f.value h, tt)
fit_fields (f ∷ g ∷ fs) h =
    let parts = Fits-parts (value_fields f.value) (spelled_by (g ∷ fs)) h in
    (fits_value f.value parts.0, fit_fields (g ∷ fs) parts.1)

-- the fields have a text exactly where they have a spelling
pub text-spelling : (m : ℕ) (e : Event) → FieldsFit numbered.ids (named_fields m e) → AllByRecursion FieldFits (fields_of m e)
unfolding fields_of
text-spelling m e h = fields_fit (named_fields m e) h

pub spelling-text : (m : ℕ) (e : Event) → AllByRecursion FieldFits (fields_of m e) → FieldsFit numbered.ids (named_fields m e)
unfolding fields_of
spelling-text m e h = fit_fields (named_fields m e) h
