-- Where a block stands to the section, by what it says.
use Rattle.std.proofs.Common.{◌≡◌, ℕ, Bool, true, false, ◌&&◌, ◌||◌, cond, nat_eq, nat_le, List, ◌++◌, length, take, drop, refl, sym, ap, subst, ◌∙◌, arith, take-append-drop, length-drop}
use Rattle.std.proofs.lemmas.Bool.Decides.{nat_tests}
use Rattle.std.proofs.lemmas.List.{take_all, length-take-le}
use Rattle.gfx_model.specs.Events.{Event}
use Rattle.gfx_model.specs.Events.Event.{BeginSection, EndSection}
use Rattle.gfx_model.specs.Spelling.{type_of, id_of, payload, spelling, fields_of}
use Rattle.gfx_model.specs.Blocks.{u32_at, Position, size_field, type_field, payload_field, is_marker, side_count, next_position, Content, skipped, effect, IsContent}
use Rattle.gfx_grammar.specs.Reads.{AreBytes}
use Rattle.gfx_grammar.proofs.NumberLaws.{AreBytes-drop, AreBytes-take}
use Rattle.gfx_grammar.specs.Framing.{head_fault, IsHead, marks, side, past, says_begin, says_end, event_begins, event_ends, IsBlock}
use Rattle.gfx_grammar.proofs.FramingLaws.{size_field-append, type_field-append, head_fault-append, is_marker-marks}
use Rattle.gfx_grammar.proofs.ContentLaws.{read_is_content, payload_number}

-- the first twelve bytes of a block are a head in order
pub block-head : (m : ℕ) (bytes : List ℕ) (c : Content) → IsBlock m bytes c → IsHead (type_field bytes) (size_field bytes) (take 12 bytes)
block-head m bytes c h =
    let head = take 12 bytes in
    let there : length head ≡ 12 = length-take-le 12 bytes (omega (arith, h.long)) in
    let parts : head ++ drop 12 bytes ≡ bytes = take-append-drop 12 bytes in
    record {
      there = there;
      good = sym (head_fault-append head (drop 12 bytes) (omega (arith, there))) ∙ ap head_fault parts ∙ h.head;
      kind_is = sym (type_field-append head (drop 12 bytes) (omega (arith, there))) ∙ ap type_field parts;
      size_is = sym (size_field-append head (drop 12 bytes) (omega (arith, there))) ∙ ap size_field parts;
    }

-- the rest of it is its payload
pub block-payload : (m : ℕ) (bytes : List ℕ) (c : Content) → IsBlock m bytes c → payload_field bytes ≡ drop 12 bytes
block-payload m bytes c h = take_all (size_field bytes) (drop 12 bytes) (omega (arith, length-drop 12 bytes, h.long))

block-marks : (m mark : ℕ) (bytes : List ℕ) (c : Content) → IsBlock m bytes c → is_marker mark bytes ≡ marks mark (type_field bytes) (size_field bytes) (payload_field bytes)
block-marks m mark bytes c h =
    ap (is_marker mark) (sym (take-append-drop 12 bytes))
    ∙ is_marker-marks mark (type_field bytes) (size_field bytes) (take 12 bytes) (drop 12 bytes) (block-head m bytes c h)
    ∙ ap (marks mark (type_field bytes) (size_field bytes)) (sym (block-payload m bytes c h))

no_skipped_marker : (kind n size : ℕ) (b c d : Bool) → (nat_eq kind 1 || nat_eq kind 5 || nat_eq kind 3 && b && nat_eq n 1) ≡ true → (nat_eq kind 2 && nat_eq size 12 && c && d) ≡ false
no_skipped_marker kind n size b c d is = grind (arith, nat_tests)

-- of an event's payload
abbrev Marks : Event → List ℕ → Type 0
Marks e load =
    (marks 1 (type_of e) (length load) load ≡ event_begins e) × (marks 2 (type_of e) (length load) load ≡ event_ends e)

marker_marks : (mark n : ℕ) (load : List ℕ) → length load ≡ 12 → u32_at load 0 ≡ n → marks mark 2 (length load) load ≡ nat_eq n mark
marker_marks mark n load long number =
    ap (λ k. nat_eq k 12 && nat_le 12 k && nat_eq (u32_at load 0) mark) long ∙ ap (λ k. nat_eq k mark) number

event_marks : (m t : ℕ) (e : Event) (load : List ℕ) → load ≡ payload m t e → Marks e load
unfolding type_of id_of payload spelling fields_of
event_marks m t (BeginSection frame) load same =
    let number : u32_at load 0 ≡ 1 = payload_number m t (BeginSection frame) load same in
    (marker_marks 1 1 load (ap length same) number, marker_marks 2 1 load (ap length same) number)
event_marks m t (EndSection frame) load same =
    let number : u32_at load 0 ≡ 2 = payload_number m t (EndSection frame) load same in
    (marker_marks 1 2 load (ap length same) number, marker_marks 2 2 load (ap length same) number)
event_marks m t e load same = (refl, refl)

content_marks : (m kind : ℕ) (load : List ℕ) (c : Content) → IsContent m kind load c
    → (marks 1 kind (length load) load ≡ says_begin c) × (marks 2 kind (length load) load ≡ says_end c)
content_marks m kind load skipped is = (
  no_skipped_marker kind (u32_at load 0) (length load) (nat_le 4 (length load)) (nat_le 12 (length load)) (nat_eq (u32_at load 0) 1) is,
  no_skipped_marker kind (u32_at load 0) (length load) (nat_le 4 (length load)) (nat_le 12 (length load)) (nat_eq (u32_at load 0) 2) is,
)
content_marks m kind load (effect t e) is =
    subst (λ k. (marks 1 k (length load) load ≡ event_begins e) × (marks 2 k (length load) load ≡ event_ends e)) is.type (event_marks m t e load is.same)

-- a block is a marker where it says so
pub block-says_content : (m : ℕ) (bytes : List ℕ) (c : Content) → IsBlock m bytes c → IsContent m (type_field bytes) (payload_field bytes) c
    → (is_marker 1 bytes ≡ says_begin c) × (is_marker 2 bytes ≡ says_end c)
block-says_content m bytes c h content =
    let load = payload_field bytes in
    let long : length load ≡ size_field bytes = length-take-le (size_field bytes) (drop 12 bytes) (omega (arith, length-drop 12 bytes, h.long)) in
    let says = content_marks m (type_field bytes) load c content in (
      block-marks m 1 bytes c h ∙ ap (λ n. marks 1 (type_field bytes) n load) (sym long) ∙ says.0,
      block-marks m 2 bytes c h ∙ ap (λ n. marks 2 (type_field bytes) n load) (sym long) ∙ says.1,
    )

pub block-says : (m : ℕ) (bytes : List ℕ) (c : Content) → AreBytes bytes → IsBlock m bytes c → (is_marker 1 bytes ≡ says_begin c) × (is_marker 2 bytes ≡ says_end c)
block-says m bytes c fit h =
    block-says_content m bytes c h
    (read_is_content m (type_field bytes) (payload_field bytes) c (AreBytes-take (size_field bytes) (drop 12 bytes) (AreBytes-drop 12 bytes fit)) h.payload)

-- the side that it counts on, and the position behind it
pub block-side : (m : ℕ) (at : Position) (bytes : List ℕ) (c : Content) → AreBytes bytes → IsBlock m bytes c → side_count at bytes ≡ side at (says_begin c)
block-side m at bytes c fit h = ap (λ b. cond (at.in_section || b) at.inside at.outside) (block-says m bytes c fit h).0

pub block-past : (m : ℕ) (at : Position) (bytes : List ℕ) (c : Content) → AreBytes bytes → IsBlock m bytes c
    → next_position at bytes ≡ past at (size_field bytes) (says_begin c) (says_end c)
block-past m at bytes c fit h =
    let says = block-says m bytes c fit h in
    ap (λ b. past at (size_field bytes) b (is_marker 2 bytes)) says.0 ∙ ap (past at (size_field bytes) (says_begin c)) says.1
