-- How long the lines of a listing are: at most three bytes for each byte of a block, and some for the names.
use Rattle.std.proofs.Common.{◌≡◌, ℕ, zero, suc, ◌+◌, ◌*◌, ◌<◌, ◌≤◌, ◌^◌, ◌==◌, nat_eq, Bool, true, false, cond, List, [], ◌∷◌, ◌++◌, map, flat_map, length, refl, ap, ◌∙◌, arith, append-nil, length-append, length-drop, length-take, codes, decimal, drop, take}
use Rattle.std.specs.List.{AllByRecursion, join_with_byte}
use Rattle.std.specs.Int.{to_le_bytes, w32, w64}
use Rattle.std.proofs.lemmas.Bool.{ltb-true}
use Rattle.std.proofs.lemmas.Fmt.{length-decimal-le}
use Rattle.std.proofs.lemmas.List.Concat.{flat_map-append}
use Rattle.gfx_types.specs.declared.lists.Present.{Present}
use Rattle.gfx_types.specs.declared.lists.Submit.{Submit}
use Rattle.gfx_model.specs.Text.{hex_byte, hex_text}
use Rattle.gfx_model.specs.Events.{Event}
use Rattle.gfx_model.specs.Spelling.{Field, field_bytes, list_of, id_fields, word_fields, atom_field, submit_fields, value_fields, spelled_by, fields_of, spelling, payload, type_of, id_of}
use Rattle.gfx_model.specs.Fields.{Atom, Value, Named, field, named_fields, one_present, barrier_atoms, buffer_region_atoms, image_region_atoms, mixed_region_atoms, present_atoms}
use Rattle.gfx_model.specs.Fields.Atom.{an_id, a_wide, a_short}
use Rattle.gfx_model.specs.Fields.Records.{barriers, buffer_regions, image_regions, mixed_regions, presents}
use Rattle.gfx_model.specs.Fields.Value.{names, makes, maybe, wide, short, raw, names_each, makes_each, shorts, records, submitted}
use Rattle.gfx_script_model.specs.EventNames.{event_name}
use Rattle.gfx_script_model.specs.FieldText.{IdFits, AtomFits, ListFits, SubmitFits, ValueFits, FieldsFit, list_text, record_text, atom_text, submit_text, value_text, field_text}
use Rattle.gfx_model.specs.Blocks.{u32_at, minor_of, option_count, size_field, type_field, payload_field, Content, skipped, effect, IsContent, SpellsPayload}
use Rattle.gfx_model.specs.Limits.{max_payload}
use Rattle.gfx_feature_model.specs.Listing.{option_texts, header_text, skipped_name, skipped_bytes, skipped_text, event_words, event_text, block_text}
use Rattle.gfx_grammar.specs.Reads.{AreBytes}
use Rattle.gfx_grammar.specs.Framing.{IsHeader, IsBlock, Part}
use Rattle.gfx_grammar.proofs.NumberLaws.{AreBytes-take, AreBytes-drop, wide32}
use Rattle.gfx_grammar.proofs.FramingLaws.{head-bounds}
use Rattle.gfx_grammar.proofs.HeaderLaws.{start_options}
use Rattle.gfx_grammar.proofs.ContentLaws.{read_is_content}
use Rattle.gfx_text_grammar.specs.Styles.{numbered}
use Rattle.gfx_text_grammar.proofs.SpellingLaws.{spelling-text}

-- the bytes of fields
abbrev size : List Field → ℕ
size fs = length (flat_map field_bytes fs)

size-append : (a b : List Field) → size (a ++ b) ≡ size a + size b
size-append a b = ap length (flat_map-append field_bytes a b) ∙ length-append (flat_map field_bytes a) (flat_map field_bytes b)

-- the bytes of texts, each with a byte behind it
abbrev pub separated : List (List ℕ) → ℕ
separated [] = 0
separated (t ∷ ts) = length t + 1 + separated ts

pub separated-append : (a b : List (List ℕ)) → separated (a ++ b) ≡ separated a + separated b
separated-append [] b = omega arith
separated-append (t ∷ a) b = let r = separated-append a b in omega arith

pub joined-short : (c : ℕ) (items : List (List ℕ)) → length (join_with_byte c items) ≤ separated items
joined-short c [] = omega arith
joined-short c (x ∷ []) = omega arith
joined-short c (x ∷ y ∷ xs) = let r = joined-short c (y ∷ xs) in let a = length-append x (c ∷ join_with_byte c (y ∷ xs)) in omega arith

joined-less : (c : ℕ) (x : List ℕ) (xs : List (List ℕ)) → length (join_with_byte c (x ∷ xs)) + 1 ≤ separated (x ∷ xs)
joined-less c x [] = omega arith
joined-less c x (y ∷ xs) = let r = joined-less c y xs in let a = length-append x (c ∷ join_with_byte c (y ∷ xs)) in omega arith

list-short : (items : List (List ℕ)) → length (list_text items) ≤ separated items + 2
list-short items = let a = length-append (codes "[" ++ join_with_byte 44 items) (codes "]") in let b = joined-short 44 items in omega arith

record-long : (items : List (List ℕ)) → length (record_text items) ≡ length (join_with_byte 44 items) + 2
record-long items = let a = length-append (codes "(" ++ join_with_byte 44 items) (codes ")") in omega arith

-- ---- numbers

pub wide-short : (n : ℕ) → n < 2 ^ 64 → length (decimal n) ≤ 20
wide-short n small = length-decimal-le 20 n (omega arith) (omega (arith, small)) small

pub short-short : (n : ℕ) → n < 2 ^ 32 → length (decimal n) ≤ 10
short-short n small = length-decimal-le 10 n (omega arith) (omega (arith, small)) (omega (arith, small))

id-short : (n : ℕ) → IdFits numbered.ids n → length (decimal n) ≤ 20
id-short n fits = wide-short n (ltb-true _ _ fits)

-- ---- values

ids-size : (xs : List ℕ) → size (flat_map id_fields xs) ≡ 8 * length xs
ids-size [] = refl
ids-size (x ∷ xs) = let r = ids-size xs in let a = size-append (id_fields x) (flat_map id_fields xs) in let b : size (id_fields x) ≡ 8 = refl in omega arith

words-size : (xs : List ℕ) → size (flat_map word_fields xs) ≡ 4 * length xs
words-size [] = refl
words-size (x ∷ xs) = let r = words-size xs in let a = size-append (word_fields x) (flat_map word_fields xs) in let b : size (word_fields x) ≡ 4 = refl in omega arith

list-size : {X : Type 0} (fields : X → List Field) (xs : List X) → size (list_of fields xs) ≡ 4 + size (flat_map fields xs)
list-size fields xs = let a = size-append (Field.u32 (length xs) ∷ []) (flat_map fields xs) in let b : size (Field.u32 (length xs) ∷ []) ≡ 4 = refl in omega arith

ids-short : (xs : List ℕ) → AllByRecursion (IdFits numbered.ids) xs → separated (map decimal xs) ≤ 21 * length xs
ids-short [] fit = omega arith
ids-short (x ∷ xs) fit = let r = ids-short xs fit.1 in let a = id-short x fit.0 in omega arith

words-short : (xs : List ℕ) → AllByRecursion (λ n. n < 2 ^ 32) xs → separated (map decimal xs) ≤ 11 * length xs
words-short [] fit = omega arith
words-short (x ∷ xs) fit = let r = words-short xs fit.1 in let a = short-short x fit.0 in omega arith

id-list-short : (xs : List ℕ) → ListFits (IdFits numbered.ids) xs → length (list_text (map decimal xs)) ≤ 21 * length xs + 2
id-list-short xs fit = let a = list-short (map decimal xs) in let b = ids-short xs fit.1 in omega arith

id-list-size : (xs : List ℕ) → size (list_of id_fields xs) ≡ 4 + 8 * length xs
id-list-size xs = let a = list-size id_fields xs in let b = ids-size xs in omega arith

pub hex-long : (bytes : List ℕ) → length (hex_text bytes) ≡ 2 * length bytes
hex-long [] = omega arith
hex-long (b ∷ bs) = let r = hex-long bs in let a = length-append (hex_byte b) (hex_text bs) in omega arith

atom-short : (a : Atom) → AtomFits numbered.ids a → length (atom_text decimal a) + 2 ≤ 3 * size (atom_field a ∷ [])
atom-short (an_id n) fit = let b : size (atom_field (an_id n) ∷ []) ≡ 8 = refl in let c = id-short n fit in omega arith
atom-short (a_wide n) fit = let b : size (atom_field (a_wide n) ∷ []) ≡ 8 = refl in let c = wide-short n fit in omega arith
atom-short (a_short n) fit = let b : size (atom_field (a_short n) ∷ []) ≡ 4 = refl in let c = short-short n fit in omega arith

atoms-short : (row : List Atom) → AllByRecursion (AtomFits numbered.ids) row → separated (map (atom_text decimal) row) + length row ≤ 3 * size (map atom_field row)
atoms-short [] fit = omega arith
atoms-short (a ∷ row) fit = let r = atoms-short row fit.1 in let b = atom-short a fit.0 in let c = size-append (atom_field a ∷ []) (map atom_field row) in omega arith

-- a record has two values or more
record-short : (a b : Atom) (row : List Atom) → AllByRecursion (AtomFits numbered.ids) (a ∷ b ∷ row)
    → length (record_text (map (atom_text decimal) (a ∷ b ∷ row))) + 1 ≤ 3 * size (map atom_field (a ∷ b ∷ row))
record-short a b row fit =
    let all = a ∷ b ∷ row in
    let long = record-long (map (atom_text decimal) all) in
    let less = joined-less 44 (atom_text decimal a) (map (atom_text decimal) (b ∷ row)) in
    let short = atoms-short all fit in
    omega arith

abbrev IsShort : {X : Type 0} → (X → List Atom) → X → Type 0
IsShort atoms x = AllByRecursion (AtomFits numbered.ids) (atoms x) → length (record_text (map (atom_text decimal) (atoms x))) + 1 ≤ 3 * size (map atom_field (atoms x))

records-each : {X : Type 0} (atoms : X → List Atom) → ((x : X) → IsShort atoms x) → (xs : List X) → AllByRecursion (AllByRecursion (AtomFits numbered.ids)) (map atoms xs)
    → separated (map (λ r. record_text (map (atom_text decimal) r)) (map atoms xs)) ≤ 3 * size (flat_map (λ x. map atom_field (atoms x)) xs)
records-each atoms each [] fit = omega arith
records-each atoms each (x ∷ xs) fit =
    let r = records-each atoms each xs fit.1 in let a = each x fit.0 in let b = size-append (map atom_field (atoms x)) (flat_map (λ x. map atom_field (atoms x)) xs) in omega arith

records-short : {X : Type 0} (atoms : X → List Atom) → ((x : X) → IsShort atoms x) → (xs : List X) → ListFits (AllByRecursion (AtomFits numbered.ids)) (map atoms xs)
    → length (list_text (map (λ r. record_text (map (atom_text decimal) r)) (map atoms xs))) ≤ 3 * size (list_of (λ x. map atom_field (atoms x)) xs)
records-short atoms each xs fit =
    let a = records-each atoms each xs fit.1 in let b = list-short (map (λ r. record_text (map (atom_text decimal) r)) (map atoms xs)) in
    let c = list-size (λ x. map atom_field (atoms x)) xs in omega arith

submit-short : (s : Submit) → SubmitFits numbered.ids s → length (submit_text decimal s) + 1 ≤ 3 * size (submit_fields s)
submit-short s fit =
    let waits = list_text (map decimal s.waits) in
    let cbs = list_text (map decimal s.cbs) in
    let signals = list_text (map decimal s.signals) in
    let one = id-list-short s.waits fit.0 in let two = id-list-short s.cbs fit.1.0 in let three = id-list-short s.signals fit.1.1 in
    let long = record-long (waits ∷ cbs ∷ signals ∷ []) in
    let less = joined-less 44 waits (cbs ∷ signals ∷ []) in
    let a = size-append (list_of id_fields s.waits ++ list_of id_fields s.cbs) (list_of id_fields s.signals) in
    let b = size-append (list_of id_fields s.waits) (list_of id_fields s.cbs) in
    let x = id-list-size s.waits in let y = id-list-size s.cbs in let z = id-list-size s.signals in
    omega arith

submits-each : (ss : List Submit) → AllByRecursion (SubmitFits numbered.ids) ss → separated (map (submit_text decimal) ss) ≤ 3 * size (flat_map submit_fields ss)
submits-each [] fit = omega arith
submits-each (s ∷ ss) fit = let r = submits-each ss fit.1 in let a = submit-short s fit.0 in let b = size-append (submit_fields s) (flat_map submit_fields ss) in omega arith

raw-size : (bytes : List ℕ) → size (value_fields (raw bytes)) ≡ 8 + length bytes
raw-size bytes =
    let a : size (value_fields (raw bytes)) ≡ length ((to_le_bytes w64 (length bytes) ++ bytes) ++ []) = refl in
    let b = ap length (append-nil (to_le_bytes w64 (length bytes) ++ bytes)) in
    let c = length-append (to_le_bytes w64 (length bytes)) bytes in let d : length (to_le_bytes w64 (length bytes)) ≡ 8 = refl in omega arith

value-short : (v : Value) → ValueFits numbered.ids v → length (value_text decimal v) ≤ 3 * size (value_fields v)
value-short (names n) fit = let a = id-short n fit in let b : size (value_fields (names n)) ≡ 8 = refl in omega arith
value-short (makes n) fit = let a = id-short n fit in let b : size (value_fields (makes n)) ≡ 8 = refl in omega arith
value-short (maybe n) fit = let a = id-short n fit in let b : size (value_fields (maybe n)) ≡ 8 = refl in omega arith
value-short (wide n) fit = let a = wide-short n fit in let b : size (value_fields (wide n)) ≡ 8 = refl in omega arith
value-short (short n) fit = let a = short-short n fit in let b : size (value_fields (short n)) ≡ 4 = refl in omega arith
value-short (raw bytes) fit = let a = hex-long bytes in let b = raw-size bytes in omega arith
value-short (names_each xs) fit = let a = id-list-short xs fit in let b = id-list-size xs in omega arith
value-short (makes_each xs) fit = let a = id-list-short xs fit.1 in let b = id-list-size xs in omega arith
value-short (shorts xs) fit = let a = list-short (map decimal xs) in let b = words-short xs fit.1 in let c = list-size word_fields xs in let d = words-size xs in omega arith
value-short (records (barriers xs)) fit = records-short barrier_atoms (λ x. record-short (an_id x.image) (a_short x.before) (a_short x.after ∷ [])) xs fit
value-short (records (buffer_regions xs)) fit = records-short buffer_region_atoms (λ x. record-short (a_wide x.from) (a_wide x.to) (a_wide x.size ∷ [])) xs fit
value-short (records (image_regions xs)) fit = records-short image_region_atoms (λ x. record-short (a_short x.from_x) (a_short x.from_y) (a_short x.to_x ∷ a_short x.to_y ∷ a_short x.width ∷ a_short x.height ∷ [])) xs fit
value-short (records (mixed_regions xs)) fit = records-short mixed_region_atoms (λ x. record-short (a_wide x.offset) (a_short x.row) (a_short x.rows ∷ a_short x.x ∷ a_short x.y ∷ a_short x.width ∷ a_short x.height ∷ [])) xs fit
value-short (records (presents xs)) fit = records-short present_atoms (λ x. record-short (an_id x.swapchain) (a_short x.index) []) xs fit
value-short (submitted ss) fit = let a = submits-each ss fit.1 in let b = list-short (map (submit_text decimal) ss) in let c = list-size submit_fields ss in omega arith

-- ---- events

-- what the names of fields take, each with its equals sign and a space
abbrev cost : List Named → ℕ
cost [] = 0
cost (f ∷ fs) = length f.name + 2 + cost fs

field-long : (f : Named) → length (field_text decimal f) ≡ length f.name + 1 + length (value_text decimal f.value)
field-long f = let a = length-append (f.name ++ codes "=") (value_text decimal f.value) in let b = length-append f.name (codes "=") in omega arith

fields-short : (fs : List Named) → FieldsFit numbered.ids fs → separated (map (field_text decimal) fs) ≤ 3 * size (spelled_by fs) + cost fs
fields-short [] fit = omega arith
fields-short (f ∷ []) fit = let a = field-long f in let b = value-short f.value fit.0 in omega arith
fields-short (f ∷ g ∷ fs) fit =
    let r = fields-short (g ∷ fs) fit.1 in let a = field-long f in let b = value-short f.value fit.0 in let c = size-append (value_fields f.value) (spelled_by (g ∷ fs)) in omega arith

-- the names of the fields of an event take little
cost-small : (m : ℕ) (e : Event) → cost (named_fields m e) ≤ 120
cost-small m (Event.QueuePresentKHR queue waits ps) = let behind = by (m == 1) ps in omega (arith, behind)
  where
    by : (b : Bool) (ps : List Present) → cost (cond b (one_present ps) (field "presents" (records (presents ps)) ∷ [])) ≤ 50
    by true [] = omega arith
    by true (p ∷ []) = omega arith
    by true (p ∷ q ∷ ps) = omega arith
    by false ps = omega arith
cost-small m _ = omega arith

name-small : (e : Event) → length (event_name e) ≤ 30
unfolding event_name
name-small (Event.CreateInstance instance api) = omega arith
name-small _ = omega arith

-- the words before the fields
front-short : (kind t : ℕ) (e : Event) → t < 2 ^ 64 → separated (event_words kind t e) ≤ 70
front-short kind t e small = by (nat_eq kind 2) (nat_eq kind 4)
  where
    thread : length (codes "thread=" ++ decimal t) ≤ 27
    thread = let a = length-append (codes "thread=") (decimal t) in let b = wide-short t small in omega arith

    name : (b : Bool) → length (cond b (codes "vk" ++ event_name e) (event_name e)) ≤ 32
    name true = let a = length-append (codes "vk") (event_name e) in let b = name-small e in omega arith
    name false = let b = name-small e in omega arith

    by : (a b : Bool) → separated (cond a (event_name e ∷ []) ((codes "thread=" ++ decimal t) ∷ cond b (codes "vk" ++ event_name e) (event_name e) ∷ [])) ≤ 70
    by true b = let n = name-small e in omega arith
    by false b = let w = thread in let n = name b in omega arith

-- the line of an event
event-short : (m kind t : ℕ) (load : List ℕ) (e : Event) → SpellsPayload m kind load t e → length (event_text m t e) ≤ 3 * length load + 190
unfolding fields_of spelling payload
event-short m kind t load e spelled =
    let fields = named_fields m e in
    let words = front-short (type_of e) t e spelled.thread_fits.0 in
    let behind = fields-short fields (spelling-text m e spelled.fits.fields) in
    let a = separated-append (event_words (type_of e) t e) (map (field_text decimal) fields) in
    let b = joined-short 32 (event_words (type_of e) t e ++ map (field_text decimal) fields) in
    let c = cost-small m e in
    let d = length-append (to_le_bytes w32 (id_of e) ++ thread_bytes) (spelling m e) in
    let g = ap length spelled.same in
    omega arith
  where
    thread_bytes : List ℕ
    thread_bytes = cond (nat_eq (type_of e) 2) [] (to_le_bytes w64 t)

-- the line of a block that is skipped
skipped-short : (kind : ℕ) (load : List ℕ) → length (skipped_text kind load) ≤ 2 * length load + 20
skipped-short kind load =
    let a = length-append (skipped_name kind ++ codes " bytes=") (hex_text (skipped_bytes kind load)) in
    let b = length-append (skipped_name kind) (codes " bytes=") in
    let c = hex-long (skipped_bytes kind load) in
    let d : length (skipped_name kind) ≤ 10 = name (nat_eq kind 1) (nat_eq kind 5) in
    let e : length (skipped_bytes kind load) ≤ length load = bytes (nat_eq kind 3) in
    omega arith
  where
    name : (a b : Bool) → length (cond a (codes "frame") (cond b (codes "annotation") (codes "message"))) ≤ 10
    name true b = omega arith
    name false true = omega arith
    name false false = omega arith

    bytes : (b : Bool) → length (cond b (drop 4 load) load) ≤ length load
    bytes true = let a = length-drop 4 load in omega arith
    bytes false = omega arith

content-short : (m kind : ℕ) (bytes : List ℕ) (c : Content) → length (payload_field bytes) ≤ max_payload → IsContent m kind (payload_field bytes) c → length (block_text m bytes c) < 2 ^ 29
content-short m kind bytes skipped small is = let a = skipped-short (type_field bytes) (payload_field bytes) in omega (arith, a, small)
content-short m kind bytes (effect t e) small is = let a = event-short m kind t (payload_field bytes) e is in omega (arith, a, small)

-- the line of a block
pub line_short : (m : ℕ) (p : Part) → IsBlock m p.bytes p.content → AreBytes p.bytes → length (block_text m p.bytes p.content) < 2 ^ 29
line_short m p h fit =
    let bytes = p.bytes in
    let bounds = head-bounds bytes h.head in
    let load_fit : AreBytes (payload_field bytes) = AreBytes-take (size_field bytes) (drop 12 bytes) (AreBytes-drop 12 bytes fit) in
    let small : length (payload_field bytes) ≤ max_payload = omega (arith, bounds.0, length-take (size_field bytes) (drop 12 bytes)) in
    content-short m (type_field bytes) bytes p.content small (read_is_content m (type_field bytes) (payload_field bytes) p.content load_fit h.payload)

-- ---- headers

u32-small : (bytes : List ℕ) (at : ℕ) → AreBytes bytes → u32_at bytes at < 2 ^ 32
u32-small bytes at fit = wide32.below (take 4 (drop at bytes)) (AreBytes-take 4 (drop at bytes) (AreBytes-drop at bytes fit))

options-short : (bytes : List ℕ) (at n : ℕ) → AreBytes bytes → separated (option_texts bytes at n) ≤ 22 * n
options-short bytes at zero fit = omega arith
options-short bytes at (suc n) fit =
    let r = options-short bytes (at + 8) n fit in
    let a = length-append (decimal (u32_at bytes at) ++ codes "=") (decimal (u32_at bytes (at + 4))) in
    let b = length-append (decimal (u32_at bytes at)) (codes "=") in
    let c = short-short (u32_at bytes at) (u32-small bytes at fit) in
    let d = short-short (u32_at bytes (at + 4)) (u32-small bytes (at + 4) fit) in
    omega arith

-- the line of a header
pub header_short : (bytes : List ℕ) → IsHeader bytes → AreBytes bytes → length (header_text bytes) < 2 ^ 29
header_short bytes h fit =
    let n = option_count bytes in
    let version = codes "1000." ++ decimal (minor_of bytes) in
    let a = joined-short 32 (codes "gfxr" ∷ version ∷ option_texts bytes 16 n) in
    let b = options-short bytes 16 n fit in
    let c = start_options bytes h.start in
    let d = length-append (codes "1000.") (decimal (minor_of bytes)) in
    let e = short-short (minor_of bytes) (u32-small bytes 8 fit) in
    omega (arith, a, b, c, d, e)
