-- How many bytes a statement's call has: no more than twelve for each byte of its tokens.
use Rattle.std.proofs.Common.{◌≡◌, ℕ, ◌+◌, ◌*◌, ◌≤◌, Bool, true, false, not, cond, List, [], ◌∷◌, ◌++◌, map, filter, flat_map, length, sym, refl, ap, ◌∙◌, arith, append-nil, length-append, nat_eq, codes, decimal}
use Rattle.std.specs.List.{join_with_byte}
use Rattle.std.proofs.lemmas.List.{length-map}
use Rattle.std.proofs.lemmas.List.Concat.{flat_map-append}
use Rattle.std.specs.Int.{to_le_bytes, w32, w64}
use Rattle.gfx_types.specs.declared.lists.Submit.{Submit}
use Rattle.gfx_model.specs.Text.{hex_byte, hex_text}
use Rattle.gfx_model.specs.Events.{Event}
use Rattle.gfx_model.specs.Spelling.{Field, field_bytes, list_of, id_fields, word_fields, atom_field, submit_fields, value_fields, spelled_by, fields_of, spelling, payload, type_of, id_of}
use Rattle.gfx_model.specs.Fields.{Atom, Value, Named, named_fields, is_made, barrier_atoms, buffer_region_atoms, image_region_atoms, mixed_region_atoms, present_atoms}
use Rattle.gfx_model.specs.Fields.Atom.{an_id, a_wide, a_short}
use Rattle.gfx_model.specs.Fields.Records.{barriers, buffer_regions, image_regions, mixed_regions, presents}
use Rattle.gfx_model.specs.Fields.Value.{names, makes, maybe, wide, short, raw, names_each, makes_each, shorts, records, submitted}
use Rattle.gfx_script_model.specs.FieldText.{ValueFits, FieldsFit, list_text, record_text, atom_text, submit_text, value_text, field_text}
use Rattle.gfx_script_model.specs.Ids.{made_by, map_ids, barrier_ids, present_ids, submit_ids}
use Rattle.gfx_script_model.specs.Names.{name_of, named_ids}
use Rattle.gfx_script.proofs.Renaming.{value_ids, field_ids, fields_renamed}

-- the bytes of fields
abbrev size : List Field → ℕ
size fs = length (flat_map field_bytes fs)

size-append : (a b : List Field) → size (a ++ b) ≡ size a + size b
size-append a b = ap length (flat_map-append field_bytes a b) ∙ length-append (flat_map field_bytes a) (flat_map field_bytes b)

-- the bytes of texts
abbrev pub texts : List (List ℕ) → ℕ
texts [] = 0
texts (t ∷ ts) = length t + texts ts

pub texts-append : (a b : List (List ℕ)) → texts (a ++ b) ≡ texts a + texts b
texts-append [] b = omega arith
texts-append (t ∷ a) b = let r = texts-append a b in omega arith

-- ---- lists of texts

-- what is joined is at least as long as its parts, and as they are many
joined-long : (items : List (List ℕ)) → texts items ≤ length (join_with_byte 44 items)
joined-long [] = omega arith
joined-long (x ∷ []) = omega arith
joined-long (x ∷ y ∷ xs) = let r = joined-long (y ∷ xs) in let a = length-append x (44 ∷ join_with_byte 44 (y ∷ xs)) in omega arith

pub joined-many : (items : List (List ℕ)) → length items ≤ length (join_with_byte 44 items) + 1
joined-many [] = omega arith
joined-many (x ∷ []) = omega arith
joined-many (x ∷ y ∷ xs) = let r = joined-many (y ∷ xs) in let a = length-append x (44 ∷ join_with_byte 44 (y ∷ xs)) in omega arith

list-long : (items : List (List ℕ)) → length (list_text items) ≡ length (join_with_byte 44 items) + 2
list-long items = let a = length-append (codes "[" ++ join_with_byte 44 items) (codes "]") in omega arith

record-long : (items : List (List ℕ)) → length (record_text items) ≡ length (join_with_byte 44 items) + 2
record-long items = let a = length-append (codes "(" ++ join_with_byte 44 items) (codes ")") in omega arith

-- ---- values

ids-size : (xs : List ℕ) → size (flat_map id_fields xs) ≡ 8 * length xs
ids-size [] = refl
ids-size (x ∷ xs) = let r = ids-size xs in let a = size-append (id_fields x) (flat_map id_fields xs) in let b : size (id_fields x) ≡ 8 = refl in omega arith

words-size : (xs : List ℕ) → size (flat_map word_fields xs) ≡ 4 * length xs
words-size [] = refl
words-size (x ∷ xs) = let r = words-size xs in let a = size-append (word_fields x) (flat_map word_fields xs) in let b : size (word_fields x) ≡ 4 = refl in omega arith

-- a list of texts of ids
ids-text : (show : ℕ → List ℕ) (xs : List ℕ) → length xs + 1 ≤ length (list_text (map show xs))
ids-text show xs = let a = list-long (map show xs) in let b = joined-many (map show xs) in let c = length-map xs show in omega arith

hex-long : (bytes : List ℕ) → length bytes ≤ length (hex_text bytes)
hex-long [] = omega arith
hex-long (b ∷ bs) = let r = hex-long bs in let a = length-append (hex_byte b) (hex_text bs) in omega arith

atom-size : (a : Atom) → size (atom_field a ∷ []) ≤ 8
atom-size (an_id n) = let b : size (atom_field (an_id n) ∷ []) ≡ 8 = refl in omega arith
atom-size (a_wide n) = let b : size (atom_field (a_wide n) ∷ []) ≡ 8 = refl in omega arith
atom-size (a_short n) = let b : size (atom_field (a_short n) ∷ []) ≡ 4 = refl in omega arith

atoms-size : (row : List Atom) → size (map atom_field row) ≤ 8 * length row
atoms-size [] = omega arith
atoms-size (a ∷ row) = let r = atoms-size row in let b = atom-size a in let c = size-append (atom_field a ∷ []) (map atom_field row) in omega arith

module _ (show : ℕ → List ℕ) where
  record-size : (row : List Atom) → size (map atom_field row) ≤ 8 * length (record_text (map (atom_text show) row))
  record-size row =
      let a = atoms-size row in let b = record-long (map (atom_text show) row) in let c = joined-many (map (atom_text show) row) in let d = length-map row (atom_text show) in omega arith

  records-each : {X : Type 0} (atoms : X → List Atom) (xs : List X) → size (flat_map (λ x. map atom_field (atoms x)) xs) ≤ 8 * texts (map (λ r. record_text (map (atom_text show) r)) (map atoms xs))
  records-each atoms [] = omega arith
  records-each atoms (x ∷ xs) = let r = records-each atoms xs in let a = record-size (atoms x) in let b = size-append (map atom_field (atoms x)) (flat_map (λ x. map atom_field (atoms x)) xs) in omega arith

  records-size : {X : Type 0} (atoms : X → List Atom) (xs : List X) → size (list_of (λ x. map atom_field (atoms x)) xs) ≤ 8 * length (list_text (map (λ r. record_text (map (atom_text show) r)) (map atoms xs)))
  records-size atoms xs =
      let items = map (λ r. record_text (map (atom_text show) r)) (map atoms xs) in
      let a = records-each atoms xs in let b = joined-long items in let c = list-long items in
      let d = size-append (Field.u32 (length xs) ∷ []) (flat_map (λ x. map atom_field (atoms x)) xs) in let e : size (Field.u32 (length xs) ∷ []) ≡ 4 = refl in omega arith

  submit-size : (s : Submit) → size (submit_fields s) ≤ 8 * length (submit_text show s)
  submit-size s =
      let items = list_text (map show s.waits) ∷ list_text (map show s.cbs) ∷ list_text (map show s.signals) ∷ [] in
      let one = ids-text show s.waits in let two = ids-text show s.cbs in let three = ids-text show s.signals in
      let a = joined-long items in let b = record-long items in
      let c = size-append (list_of id_fields s.waits ++ list_of id_fields s.cbs) (list_of id_fields s.signals) in
      let d = size-append (list_of id_fields s.waits) (list_of id_fields s.cbs) in
      let x = list-size s.waits in let y = list-size s.cbs in let z = list-size s.signals in omega arith
    where
      list-size : (xs : List ℕ) → size (list_of id_fields xs) ≡ 4 + 8 * length xs
      list-size xs = let a = ids-size xs in let b = size-append (Field.u32 (length xs) ∷ []) (flat_map id_fields xs) in let c : size (Field.u32 (length xs) ∷ []) ≡ 4 = refl in omega arith

  submits-each : (ss : List Submit) → size (flat_map submit_fields ss) ≤ 8 * texts (map (submit_text show) ss)
  submits-each [] = omega arith
  submits-each (s ∷ ss) = let r = submits-each ss in let a = submit-size s in let b = size-append (submit_fields s) (flat_map submit_fields ss) in omega arith

  -- a value that is in its field
  value-size : (v : Value) → is_made v ≡ false → size (value_fields v) ≤ 8 * length (value_text show v) + 8
  value-size (names n) h = let b : size (value_fields (names n)) ≡ 8 = refl in omega arith
  value-size (makes n) h = absurd cc
  value-size (maybe n) h = let b : size (value_fields (maybe n)) ≡ 8 = refl in omega arith
  value-size (wide n) h = let b : size (value_fields (wide n)) ≡ 8 = refl in omega arith
  value-size (short n) h = let b : size (value_fields (short n)) ≡ 4 = refl in omega arith
  value-size (raw bytes) h =
      let a = hex-long bytes in
      let b : size (value_fields (raw bytes)) ≡ length ((to_le_bytes w64 (length bytes) ++ bytes) ++ []) = refl in
      let c : length ((to_le_bytes w64 (length bytes) ++ bytes) ++ []) ≡ length (to_le_bytes w64 (length bytes) ++ bytes) = ap length (append-nil (to_le_bytes w64 (length bytes) ++ bytes)) in
      let d = length-append (to_le_bytes w64 (length bytes)) bytes in let e : length (to_le_bytes w64 (length bytes)) ≡ 8 = refl in omega arith
  value-size (names_each xs) h =
      let a = ids-size xs in let b = size-append (Field.u32 (length xs) ∷ []) (flat_map id_fields xs) in let c : size (Field.u32 (length xs) ∷ []) ≡ 4 = refl in let d = ids-text show xs in omega arith
  value-size (makes_each xs) h = absurd cc
  value-size (shorts ns) h =
      let a = words-size ns in let b = size-append (Field.u32 (length ns) ∷ []) (flat_map word_fields ns) in let c : size (Field.u32 (length ns) ∷ []) ≡ 4 = refl in let d = ids-text decimal ns in omega arith
  value-size (records (barriers xs)) h = let a = records-size barrier_atoms xs in omega arith
  value-size (records (buffer_regions xs)) h = let a = records-size buffer_region_atoms xs in omega arith
  value-size (records (image_regions xs)) h = let a = records-size image_region_atoms xs in omega arith
  value-size (records (mixed_regions xs)) h = let a = records-size mixed_region_atoms xs in omega arith
  value-size (records (presents xs)) h = let a = records-size present_atoms xs in omega arith
  value-size (submitted ss) h =
      let a = submits-each ss in let b = joined-long (map (submit_text show) ss) in let c = list-long (map (submit_text show) ss) in
      let d = size-append (Field.u32 (length ss) ∷ []) (flat_map submit_fields ss) in let e : size (Field.u32 (length ss) ∷ []) ≡ 4 = refl in omega arith

-- a value whose ids are written apart
made-size : (v : Value) → ValueFits named_ids v → is_made v ≡ true → size (value_fields v) ≤ 12 * length (made_by v)
made-size (makes n) fits h = let b : size (value_fields (makes n)) ≡ 8 = refl in omega arith
made-size (makes_each xs) fits h =
    let some : 1 ≤ length xs = fits.0 refl in
    let a = ids-size xs in let b = size-append (Field.u32 (length xs) ∷ []) (flat_map id_fields xs) in let c : size (Field.u32 (length xs) ∷ []) ≡ 4 = refl in omega arith
made-size (names n) fits h = absurd cc
made-size (maybe n) fits h = absurd cc
made-size (wide n) fits h = absurd cc
made-size (short n) fits h = absurd cc
made-size (raw bytes) fits h = absurd cc
made-size (names_each xs) fits h = absurd cc
made-size (shorts ns) fits h = absurd cc
made-size (records rs) fits h = absurd cc
made-size (submitted ss) fits h = absurd cc

-- ---- fields

spelled-cons : (f : Named) (fs : List Named) → spelled_by (f ∷ fs) ≡ value_fields f.value ++ spelled_by fs
spelled-cons f [] = sym (append-nil (value_fields f.value))
spelled-cons f (g ∷ fs) = refl

-- the texts of the fields that don't are written apart
abbrev pub shown : List Named → List (List ℕ)
shown fs = map (field_text name_of) (filter (λ f. not (is_made f.value)) fs)

fields-size : (fs : List Named) → FieldsFit named_ids fs → size (spelled_by fs) ≤ 8 * texts (shown fs) + 12 * length (flat_map (λ f. made_by f.value) fs)
fields-size [] h = omega arith
fields-size (f ∷ fs) h =
    let r = fields-size fs h.1 in let a = ap size (spelled-cons f fs) in let b = size-append (value_fields f.value) (spelled_by fs) in
    let c = length-append (made_by f.value) (flat_map (λ f. made_by f.value) fs) in
    by (is_made f.value) refl (omega arith)
  where
    by : (b : Bool) → is_made f.value ≡ b → size (spelled_by (f ∷ fs)) ≤ size (value_fields f.value) + (8 * texts (shown fs) + 12 * length (flat_map (λ f. made_by f.value) fs))
        → size (spelled_by (f ∷ fs)) ≤ 8 * texts (map (field_text name_of) (cond (not b) (f ∷ filter (λ f. not (is_made f.value)) fs) (filter (λ f. not (is_made f.value)) fs))) + 12 * length (made_by f.value ++ flat_map (λ f. made_by f.value) fs)
    by true made rest = let a = made-size f.value h.0 made in let c = length-append (made_by f.value) (flat_map (λ f. made_by f.value) fs) in omega arith
    by false made rest =
        let a = value-size name_of f.value made in let c = length-append (made_by f.value) (flat_map (λ f. made_by f.value) fs) in
        let d = length-append (f.name ++ codes "=") (value_text name_of f.value) in let e = length-append f.name (codes "=") in omega arith

-- ---- with other ids

same-each : {X : Type 0} (fields : X → List Field) (g : X → X) → ((x : X) → size (fields (g x)) ≡ size (fields x)) → (xs : List X) → size (flat_map fields (map g xs)) ≡ size (flat_map fields xs)
same-each fields g same [] = refl
same-each fields g same (x ∷ xs) =
    let r = same-each fields g same xs in let a = size-append (fields (g x)) (flat_map fields (map g xs)) in let b = size-append (fields x) (flat_map fields xs) in let c = same x in omega arith

same-list-of : {X : Type 0} (fields : X → List Field) (g : X → X) → ((x : X) → size (fields (g x)) ≡ size (fields x)) → (xs : List X) → size (list_of fields (map g xs)) ≡ size (list_of fields xs)
same-list-of fields g same xs =
    let r = same-each fields g same xs in
    let a = size-append (Field.u32 (length (map g xs)) ∷ []) (flat_map fields (map g xs)) in let b = size-append (Field.u32 (length xs) ∷ []) (flat_map fields xs) in
    let c : size (Field.u32 (length (map g xs)) ∷ []) ≡ 4 = refl in let d : size (Field.u32 (length xs) ∷ []) ≡ 4 = refl in omega arith

same-submit : (f : ℕ → ℕ) (s : Submit) → size (submit_fields (submit_ids f s)) ≡ size (submit_fields s)
same-submit f s =
    let one = same-list-of id_fields f (λ x. refl) s.waits in let two = same-list-of id_fields f (λ x. refl) s.cbs in let three = same-list-of id_fields f (λ x. refl) s.signals in
    let a = size-append (list_of id_fields (map f s.waits) ++ list_of id_fields (map f s.cbs)) (list_of id_fields (map f s.signals)) in
    let b = size-append (list_of id_fields (map f s.waits)) (list_of id_fields (map f s.cbs)) in
    let c = size-append (list_of id_fields s.waits ++ list_of id_fields s.cbs) (list_of id_fields s.signals) in
    let d = size-append (list_of id_fields s.waits) (list_of id_fields s.cbs) in omega arith

same-value : (f : ℕ → ℕ) (v : Value) → size (value_fields (value_ids f v)) ≡ size (value_fields v)
same-value f (names n) = refl
same-value f (makes n) = refl
same-value f (maybe n) = refl
same-value f (wide n) = refl
same-value f (short n) = refl
same-value f (raw bytes) = refl
same-value f (names_each xs) = same-list-of id_fields f (λ x. refl) xs
same-value f (makes_each xs) = same-list-of id_fields f (λ x. refl) xs
same-value f (shorts ns) = refl
same-value f (records (barriers xs)) = same-list-of (λ b. map atom_field (barrier_atoms b)) (barrier_ids f) (λ b. refl) xs
same-value f (records (presents xs)) = same-list-of (λ p. map atom_field (present_atoms p)) (present_ids f) (λ p. refl) xs
same-value f (records (buffer_regions xs)) = refl
same-value f (records (image_regions xs)) = refl
same-value f (records (mixed_regions xs)) = refl
same-value f (submitted ss) = same-list-of submit_fields (submit_ids f) (same-submit f) ss

same-fields : (f : ℕ → ℕ) (fs : List Named) → size (spelled_by (map (field_ids f) fs)) ≡ size (spelled_by fs)
same-fields f [] = refl
same-fields f (g ∷ fs) =
    let r = same-fields f fs in let v = same-value f g.value in
    let a = ap size (spelled-cons (field_ids f g) (map (field_ids f) fs)) in let b = ap size (spelled-cons g fs) in
    let c = size-append (value_fields (value_ids f g.value)) (spelled_by (map (field_ids f) fs)) in let d = size-append (value_fields g.value) (spelled_by fs) in omega arith

-- other ids leave the bytes of an event as many
pub same-spelling : (m : ℕ) (f : ℕ → ℕ) (e : Event) → length (spelling m (map_ids f e)) ≡ length (spelling m e)
unfolding spelling fields_of
same-spelling m f e = ap (λ fs. size (spelled_by fs)) (fields_renamed m f e) ∙ same-fields f (named_fields m e)

-- a statement's call has twelve bytes at most for each byte of its fields' texts and for each id that it creates
pub spelling-size : (m : ℕ) (e : Event) → FieldsFit named_ids (named_fields m e) → length (spelling m e) ≤ 12 * (texts (shown (named_fields m e)) + length (flat_map (λ f. made_by f.value) (named_fields m e)))
unfolding spelling fields_of
spelling-size m e h = let a = fields-size (named_fields m e) h in omega arith

pub payload-size : (m : ℕ) (e : Event) → length (payload m 0 e) ≤ 12 + length (spelling m e)
unfolding payload
payload-size m e =
    let a = length-append (to_le_bytes w32 (id_of e) ++ cond (nat_eq (type_of e) 2) [] (to_le_bytes w64 0)) (spelling m e) in
    let b = length-append (to_le_bytes w32 (id_of e)) (cond (nat_eq (type_of e) 2) [] (to_le_bytes w64 0)) in
    let c : length (to_le_bytes w32 (id_of e)) ≡ 4 = refl in let d = by (nat_eq (type_of e) 2) in omega arith
  where
    by : (t : Bool) → length (cond t [] (to_le_bytes w64 0)) ≤ 8
    by true = omega arith
    by false = let e : length (to_le_bytes w64 0) ≡ 8 = refl in omega arith
