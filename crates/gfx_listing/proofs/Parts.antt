-- The blocks of lines, as they are appended.
use Rattle.std.proofs.Common.{◌≡◌, ℕ, ◌+◌, ◌-◌, ◌<◌, ◌≤◌, ◌^◌, nat_le, nat_eq, Bool, true, false, cond, List, [], ◌++◌, length, take, drop, Option, Some, None, Result, Ok, Err, refl, sym, ap, subst, ◌∙◌, arith, append-nil, append_assoc, length-append}
use Rattle.std.specs.Prelude.{OnOk, OnErr}
use Rattle.std.specs.Result.{IsErrAnd}
use Rattle.std.specs.Int.{to_le_bytes, w32, w64}
use Rattle.std.proofs.lemmas.Result.{err_from_is_err_and}
use Rattle.std.proofs.lemmas.Bool.{cond-false, lt-leb}
use Rattle.std.proofs.lemmas.List.{take_at, drop_at}
use Rattle.gfx_text_writer.proofs.Grown.{front_stays}
use Rattle.gfx_model.specs.Limits.{max_payload}
use Rattle.gfx_types.specs.declared.effect.Effect.TheVariants.{Marker}
use Rattle.gfx_model.specs.Events.{Event, event_of}
use Rattle.gfx_model.specs.Spelling.{HasSpelling, fields_of, spelling, id_of, type_of, payload, block_bytes, encoding}
use Rattle.gfx_model.specs.Blocks.{Content, skipped, effect}
use Rattle.gfx_blocks.proofs.Writing.{threaded}
use Rattle.gfx_grammar.specs.Framing.{Part, CanBeWritten}
use Rattle.gfx_grammar.specs.Reading.{◌>>=◌}
use Rattle.gfx_text.specs.declared.fault.TextFault.{TextFault}
use Rattle.gfx_text.specs.declared.fault.TextFault.TheVariants as text
use Rattle.gfx_text.specs.Gives.{Fails}
use Rattle.gfx_text_grammar.specs.FieldReading.{Left}
use Rattle.gfx_text_grammar.specs.Lines.{block_of, skipped_payload, event_block}
use Rattle.gfx_text_grammar.specs.Rows.{read_event}
use Rattle.gfx_text_grammar.specs.Styles.{numbered}
use Rattle.gfx_text_grammar.specs.Words.{raw_in}
use Rattle.gfx_text_grammar.proofs.EventLaws.{read_is_shown}
use Rattle.gfx_text_grammar.proofs.SkippedLaws.{of_block}
use Rattle.gfx_text_grammar.proofs.SpellingLaws.{text-spelling}
use Rattle.gfx_text_grammar.proofs.StyleLaws.{numbered_style}
use Rattle.gfx_listing.specs.declared.fault.LineFault.{LineFault}
use Rattle.gfx_listing.specs.declared.fault.LineFault.TheVariants.{BadLine, WantMemory}
use Rattle.gfx_listing.specs.Answers.{fault_of, Refuses, AppendsRead, AppendsPart}

-- ---- answers

-- what was before still is first
pub old_stays : (old more new : List ℕ) → new ≡ old ++ more → take (length old) new ≡ old
old_stays old more new grown = ap (take (length old)) grown ∙ take_at old more (length old) refl

pub all_stays : (old : List ℕ) → take (length old) old ≡ old
all_stays old = old_stays old [] old (sym (append-nil old))

-- memory was needed
pub wants : {A X : Type 0} (result : Result A LineFault) (read : Option X) (bytes : X → List ℕ) (old new : List ℕ)
    → IsErrAnd result (λ fault. fault ≡ WantMemory) → take (length old) new ≡ old → AppendsRead result read bytes old new
wants {A} {X} result read bytes old new is stays =
    let p = err_from_is_err_and result is in
    subst (λ (r : Result A LineFault). AppendsRead r read bytes old new) (sym (p.1 ∙ ap Err p.2)) stays

-- what a part answers, that answers for the whole
pub along_read : {A X : Type 0} (result : Result A LineFault) (read other : Option X) (bytes : X → List ℕ) (old new : List ℕ)
    → read ≡ other → AppendsRead result other bytes old new → AppendsRead result read bytes old new
along_read {A} {X} result read other bytes old new same h = subst (λ (o : Option X). AppendsRead result o bytes old new) (sym same) h

-- a line whose fields are bad, or for which memory is needed
pub fails : (fault : TextFault) (read : Option Event) (next : Event → Option Part) (old : List ℕ) → Fails fault read
    → Refuses (fault_of fault) (read >>= next) old old
fails text.Bad read next old none = (ap (λ (o : Option Event). o >>= next) none, all_stays old)
fails text.WantMemory read next old none = all_stays old

pub fields_fail : {A : Type 0} (result : Result A LineFault) (fault : TextFault) (read : Option Event) (next : Event → Option Part) (old : List ℕ)
    → IsErrAnd result (λ f. f ≡ fault_of fault) → Fails fault read → AppendsPart result (read >>= next) old old
fields_fail {A} result fault read next old is none =
    let p = err_from_is_err_and result is in
    subst (λ (r : Result A LineFault). AppendsPart r (read >>= next) old old) (sym (p.1 ∙ ap Err p.2)) (fails fault read next old none)

-- of a bad line nothing is read
pub refused : {X : Type 0} (fault : LineFault) (read : Option X) (old new : List ℕ) → Refuses fault read old new → fault ≡ BadLine → read ≡ None
refused BadLine read old new h is = h.0
refused WantMemory read old new h is = absurd cc

-- after a fault the old bytes are first
pub fault_stays : {X : Type 0} (fault : LineFault) (read : Option X) (old new : List ℕ) → Refuses fault read old new → take (length old) new ≡ old
fault_stays BadLine read old new h = h.1
fault_stays WantMemory read old new h = h

-- ---- the end of a block

-- the head of a block follows the old bytes
pub head_there : (kind start : ℕ) (load old mid : List ℕ) → start ≡ length old → mid ≡ old ++ to_le_bytes w64 0 ++ to_le_bytes w32 kind ++ load → start + 12 ≤ length mid
head_there kind start load old mid from grown =
    let parts = ap length (grown ∙ append_assoc (old ++ to_le_bytes w64 0) (to_le_bytes w32 kind) load) in
    let whole = length-append (old ++ to_le_bytes w64 0) (to_le_bytes w32 kind ++ load) in
    let front = length-append old (to_le_bytes w64 0) in
    let back = length-append (to_le_bytes w32 kind) load in
    omega (arith, parts, whole, front, back, from)

-- the size in the place of the 0
pub closed : (old mid new load : List ℕ) (kind start : ℕ) → start ≡ length old → mid ≡ old ++ to_le_bytes w64 0 ++ to_le_bytes w32 kind ++ load
    → new ≡ take start mid ++ to_le_bytes w64 (length mid - start - 12) ++ drop (start + 8) mid → new ≡ old ++ block_bytes kind load
closed old mid new load kind start from grown sized =
    let zero8 = to_le_bytes w64 0 in
    let rest = to_le_bytes w32 kind ++ load in
    let parts : mid ≡ old ++ (zero8 ++ rest) = grown ∙ simp append_assoc in
    let behind : mid ≡ (old ++ zero8) ++ rest = grown ∙ append_assoc (old ++ zero8) (to_le_bytes w32 kind) load in
    let long : length mid ≡ length old + (8 + (4 + length load)) =
    ap length parts ∙ length-append old (zero8 ++ rest) ∙ ap (λ n. length old + n) (length-append zero8 rest ∙ ap (λ n. 8 + n) (length-append (to_le_bytes w32 kind) load)) in
    let before : take start mid ≡ old = ap (take start) parts ∙ take_at old (zero8 ++ rest) start (sym from) in
    let after : drop (start + 8) mid ≡ rest = ap (drop (start + 8)) behind ∙ drop_at (old ++ zero8) rest (start + 8) (length-append old zero8 ∙ ap (λ n. n + 8) (sym from)) in
    let size : length mid - start - 12 ≡ length load = omega (arith, long, from) in
    sized
    ∙ ap (λ (z : List ℕ). z ++ to_le_bytes w64 (length mid - start - 12) ++ drop (start + 8) mid) before
    ∙ ap (λ (n : ℕ). old ++ to_le_bytes w64 n ++ drop (start + 8) mid) size
    ∙ ap (λ (z : List ℕ). old ++ to_le_bytes w64 (length load) ++ z) after
    ∙ simp append_assoc

-- a block that is ended, or is too large
pub ended : {A : Type 0} (kind start : ℕ) (load : List ℕ) (content : Content) (result : Result A LineFault) (old mid new : List ℕ)
    → start ≡ length old → mid ≡ old ++ to_le_bytes w64 0 ++ to_le_bytes w32 kind ++ load
    → OnOk result (length mid ≤ start + 12 + max_payload)
    → OnOk result (new ≡ take start mid ++ to_le_bytes w64 (length mid - start - 12) ++ drop (start + 8) mid)
    → OnErr result (start + 12 + max_payload < length mid) → OnErr result (new ≡ mid)
    → AppendsPart result (block_of kind load content) old new
ended {A} kind start load content result old mid new from grown = by result
  where
    long : length mid ≡ start + 12 + length load
    long =
        ap length (grown ∙ append_assoc (old ++ to_le_bytes w64 0) (to_le_bytes w32 kind) load)
        ∙ length-append (old ++ to_le_bytes w64 0) (to_le_bytes w32 kind ++ load)
        ∙ (let a = length-append old (to_le_bytes w64 0) in let b = length-append (to_le_bytes w32 kind) load in omega (arith, a, b, from))

    stays : new ≡ mid → take (length old) new ≡ old
    stays same = old_stays old (to_le_bytes w64 0 ++ (to_le_bytes w32 kind ++ load)) new (same ∙ grown ∙ simp append_assoc)

    by : (result : Result A LineFault) → OnOk result (length mid ≤ start + 12 + max_payload)
        → OnOk result (new ≡ take start mid ++ to_le_bytes w64 (length mid - start - 12) ++ drop (start + 8) mid)
        → OnErr result (start + 12 + max_payload < length mid) → OnErr result (new ≡ mid)
        → AppendsPart result (block_of kind load content) old new
    by (Ok u) small sized large same = (
      record { bytes = block_bytes kind load; content = content },
      of_block kind load content (omega (arith, small, long)),
      closed old mid new load kind start from grown sized,
    )
    by (Err BadLine) small sized large same = (too_large (omega (arith, large, long)), stays same)
      where
        too_large : max_payload < length load → block_of kind load content ≡ None
        too_large much = cond-false (nat_le (length load) max_payload) _ None (lt-leb (length load) max_payload much)
    by (Err WantMemory) small sized large same = stays same

-- ---- events

-- an event that is read has a spelling
pub spelled : (m kind : ℕ) (name : List ℕ) (left : Left) (e : Event) → read_event numbered m kind name left ≡ Some e → HasSpelling m e
spelled m kind name left e is =
    let h = read_is_shown numbered numbered_style m kind name left e is in
    record { version = h.2; fields = text-spelling m e h.0 }

-- ---- skipped blocks

-- the bytes follow what a message has first
pub payload-bytes : (kind : ℕ) (bytes : List ℕ) → skipped_payload kind [] ++ bytes ≡ skipped_payload kind bytes
payload-bytes kind bytes = by (nat_eq kind 3)
  where
    by : (b : Bool) → cond b (to_le_bytes w32 1 ++ []) [] ++ bytes ≡ cond b (to_le_bytes w32 1 ++ bytes) bytes
    by true = append_assoc (to_le_bytes w32 1) [] bytes
    by false = refl

-- ---- skipped blocks, from their digits

abbrev skipped_read : ℕ → List ℕ → Option Part
skipped_read kind digits = raw_in digits >>= λ bytes. block_of kind (skipped_payload kind bytes) skipped

-- what is there before the bytes of a skipped block
abbrev begun : ℕ → List ℕ → List ℕ
begun kind old = old ++ to_le_bytes w64 0 ++ to_le_bytes w32 kind ++ skipped_payload kind []

begun_parts : (kind : ℕ) (old : List ℕ) → begun kind old ≡ old ++ (to_le_bytes w64 0 ++ (to_le_bytes w32 kind ++ skipped_payload kind []))
begun_parts kind old =
    append_assoc (old ++ to_le_bytes w64 0) (to_le_bytes w32 kind) (skipped_payload kind [])
    ∙ append_assoc old (to_le_bytes w64 0) (to_le_bytes w32 kind ++ skipped_payload kind [])

-- the digits are no bytes, or memory was needed
pub skipped_breaks : {A : Type 0} (kind : ℕ) (digits old mid new : List ℕ) (result : Result A LineFault) (fault : LineFault) → result ≡ Err fault → mid ≡ begun kind old
    → Refuses fault (raw_in digits) mid new → AppendsPart result (skipped_read kind digits) old new
skipped_breaks {A} kind digits old mid new result fault is grown h =
    subst (λ (r : Result A LineFault). AppendsPart r (skipped_read kind digits) old new) (sym is) (by fault h)
  where
    stays : take (length mid) new ≡ mid → take (length old) new ≡ old
    stays kept = front_stays old mid (to_le_bytes w64 0 ++ (to_le_bytes w32 kind ++ skipped_payload kind [])) new (grown ∙ begun_parts kind old) kept

    by : (f : LineFault) → Refuses f (raw_in digits) mid new → Refuses f (skipped_read kind digits) old new
    by BadLine k = (ap (λ (o : Option (List ℕ)). o >>= λ bytes. block_of kind (skipped_payload kind bytes) skipped) k.0, stays k.1)
    by WantMemory k = stays k

-- the bytes are there, and the block is ended
pub skipped_ends : {A : Type 0} (kind start : ℕ) (digits : List ℕ) (result : Result A LineFault) (old front mid new : List ℕ) → start ≡ length old → front ≡ begun kind old
    → (bytes : List ℕ) × (raw_in digits ≡ Some bytes) × (mid ≡ front ++ bytes)
    → OnOk result (length mid ≤ start + 12 + max_payload)
    → OnOk result (new ≡ take start mid ++ to_le_bytes w64 (length mid - start - 12) ++ drop (start + 8) mid)
    → OnErr result (start + 12 + max_payload < length mid) → OnErr result (new ≡ mid)
    → AppendsPart result (skipped_read kind digits) old new
skipped_ends kind start digits result old front mid new from grown read small sized large same =
    let load : mid ≡ old ++ to_le_bytes w64 0 ++ to_le_bytes w32 kind ++ skipped_payload kind read.0 =
    read.2 ∙ ap (λ (z : List ℕ). z ++ read.0) grown
    ∙ append_assoc (old ++ to_le_bytes w64 0 ++ to_le_bytes w32 kind) (skipped_payload kind []) read.0
    ∙ ap (λ (z : List ℕ). (old ++ to_le_bytes w64 0 ++ to_le_bytes w32 kind) ++ z) (payload-bytes kind read.0) in
    along_read result (skipped_read kind digits) (block_of kind (skipped_payload kind read.0) skipped) (λ p. p.bytes) old new
    (ap (λ (o : Option (List ℕ)). o >>= λ bytes. block_of kind (skipped_payload kind bytes) skipped) read.1)
    (ended kind start (skipped_payload kind read.0) skipped result old mid new from load small sized large same)

-- ---- events, from their fields

-- an event without its size
pub event_written : (m t kind id : ℕ) (e : Event) (old front mid : List ℕ) → type_of e ≡ kind → nat_eq kind 2 ≡ false → id ≡ id_of e
    → front ≡ old ++ to_le_bytes w64 0 ++ to_le_bytes w32 kind ++ to_le_bytes w32 id ++ to_le_bytes w64 t → mid ≡ front ++ spelling m e
    → mid ≡ old ++ to_le_bytes w64 0 ++ to_le_bytes w32 kind ++ payload m t e
event_written m t kind id e old front mid type other number grown more =
    threaded m t kind id e old front mid type other number grown more ∙ ap (λ k. old ++ to_le_bytes w64 0 ++ to_le_bytes w32 k ++ payload m t e) type

-- the fields of a call or a metadata are there, and the block is ended
pub event_ends : {A : Type 0} (m t kind id start : ℕ) (e : Event) (result : Result A LineFault) (old front mid new : List ℕ) → type_of e ≡ kind → nat_eq kind 2 ≡ false → id ≡ id_of e
    → start ≡ length old → front ≡ old ++ to_le_bytes w64 0 ++ to_le_bytes w32 kind ++ to_le_bytes w32 id ++ to_le_bytes w64 t → mid ≡ front ++ spelling m e
    → OnOk result (length mid ≤ start + 12 + max_payload)
    → OnOk result (new ≡ take start mid ++ to_le_bytes w64 (length mid - start - 12) ++ drop (start + 8) mid)
    → OnErr result (start + 12 + max_payload < length mid) → OnErr result (new ≡ mid)
    → AppendsPart result (event_block m kind t e) old new
event_ends m t kind id start e result old front mid new type other number from grown more small sized large same =
    ended kind start (payload m t e) (effect t e) result old mid new from
    (event_written m t kind id e old front mid type other number grown more) small sized large same

-- what is before the fields follows the old bytes
pub effect_begun : (kind id t : ℕ) (old front new : List ℕ) → front ≡ old ++ to_le_bytes w64 0 ++ to_le_bytes w32 kind ++ to_le_bytes w32 id ++ to_le_bytes w64 t → new ≡ front
    → take (length old) new ≡ old
effect_begun kind id t old front new grown same =
    let a = to_le_bytes w64 0 in
    let b = to_le_bytes w32 kind in
    let c = to_le_bytes w32 id in
    let d = to_le_bytes w64 t in
    old_stays old (a ++ (b ++ (c ++ d))) new
    (same ∙ grown ∙ append_assoc (old ++ a ++ b) c d ∙ append_assoc (old ++ a) b (c ++ d) ∙ append_assoc old a (b ++ (c ++ d)))

-- a marker has a block
pub marker_writes : (m : ℕ) (begin : Bool) (frame : ℕ) → frame < 2 ^ 64 → CanBeWritten m 0 (event_of (Marker begin frame))
unfolding fields_of spelling payload type_of id_of
marker_writes m true frame small = record { fits = record { version = tt; fields = (small, tt) }; thread_fits = (omega arith, λ z. refl); small = omega arith }
marker_writes m false frame small = record { fits = record { version = tt; fields = (small, tt) }; thread_fits = (omega arith, λ z. refl); small = omega arith }

-- the block that is written of a marker
pub marker_written : (m : ℕ) (begin : Bool) (frame : ℕ) (old new : List ℕ) → new ≡ old ++ encoding m 0 (event_of (Marker begin frame))
    → (p : Part) × (event_block m 2 0 (event_of (Marker begin frame)) ≡ Some p) × (new ≡ old ++ p.bytes)
unfolding encoding type_of fields_of spelling payload id_of
marker_written m true frame old new is = (record { bytes = block_bytes 2 (payload m 0 (event_of (Marker true frame))); content = effect 0 (event_of (Marker true frame)) }, of_block 2 (payload m 0 (event_of (Marker true frame))) (effect 0 (event_of (Marker true frame))) (omega arith), is)
marker_written m false frame old new is = (record { bytes = block_bytes 2 (payload m 0 (event_of (Marker false frame))); content = effect 0 (event_of (Marker false frame)) }, of_block 2 (payload m 0 (event_of (Marker false frame))) (effect 0 (event_of (Marker false frame))) (omega arith), is)
