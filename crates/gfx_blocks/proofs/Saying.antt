-- What a payload says, as it is read: a number, a thread where there is one, and fields.
use Rattle.std.proofs.Common.{◌≡◌, ◌≢◌, ℕ, ◌⊎◌, inl, inr, Bool, true, false, ◌&&◌, nat_eq, nat_le, nat_lt, cond, List, length, take, Option, Some, None, refl, sym, ap, ◌∙◌, arith}
use Rattle.std.proofs.lemmas.Bool.Decides.{nat_tests}
use Rattle.std.specs.Int.{w32, w64, from_le_bytes}
use Rattle.gfx_types.specs.declared.names.Fault.{Fault}
use Rattle.gfx_types.specs.declared.names.Fault.TheVariants.{UnknownBlock, BadParams}
use Rattle.gfx_model.specs.Events.{Event}
use Rattle.gfx_model.specs.Events.Event.{BeginSection, EndSection}
use Rattle.gfx_model.specs.Blocks.{Content, skipped, effect, is_skipped, u32_at}
use Rattle.gfx_model.specs.Spelling.{call_count, metadata_count}
use Rattle.gfx_grammar.specs.Reading.{◌>>=◌, read_number}
use Rattle.gfx_grammar.specs.Rows.{with1, by_row, read_event, read_content, read_payload}
use Rattle.gfx_grammar.specs.Splitting.{payload_fault}
use Rattle.gfx_grammar.proofs.NoRowLaws.{others_are_not_read}
use Rattle.gfx_blocks.specs.Payloads.{IsNumber, IsNoNumber}

-- nothing is said, for this reason
abbrev pub SaysNothing : (m kind : ℕ) → List ℕ → Fault → Type 0
SaysNothing m kind bytes fault = (read_content m kind bytes ≡ None) × (fault ≡ payload_fault kind bytes)

-- ---- the number before it

short_steps : (b : Bool) (x : ℕ × List ℕ) → cond b None (Some x) ≡ None → b ≡ true
short_steps true x is = refl
short_steps false x is = absurd cc

-- four bytes are not there
pub no_front : (bytes : List ℕ) → read_number w32 bytes ≡ None → nat_lt (length bytes) 4 ≡ true
unfolding read_number
no_front bytes is = short_steps (nat_lt (length bytes) 4) _ is

-- what was read
first_of : Option (ℕ × List ℕ) → ℕ
first_of None = 0
first_of (Some x) = x.0

front_steps : (b : Bool) (n id : ℕ) (rest behind : List ℕ) → let read : Option (ℕ × List ℕ) = Some (n, rest) in cond b None read ≡ Some (id, behind) → (b ≡ false) × (n ≡ id)
unfolding first_of
front_steps true n id rest behind is = absurd cc
front_steps false n id rest behind is = (refl, ap first_of is)

-- the number in the first four bytes
pub front_is : (bytes behind : List ℕ) (id : ℕ) → read_number w32 bytes ≡ Some (id, behind) → (nat_le 4 (length bytes) ≡ true) × (u32_at bytes 0 ≡ id)
unfolding read_number
front_is bytes behind id is =
    let steps = front_steps (nat_lt (length bytes) 4) (from_le_bytes w32 (take 4 bytes)) id _ behind is in
    (let here : nat_lt (length bytes) 4 ≡ false = steps.0 in grind (arith, nat_tests), steps.1)

not_four : (n : ℕ) → nat_lt n 4 ≡ true → nat_le 4 n ≡ false
not_four n is = grind (arith, nat_tests)

-- ---- no number before it

unread : (m kind : ℕ) (bytes : List ℕ) → is_skipped kind bytes ≡ false → read_number w32 bytes ≡ None → read_content m kind bytes ≡ None
unfolding read_content read_payload
unread m kind bytes kept none = rw (kept, none) refl

pub call_cut : (m : ℕ) (bytes : List ℕ) → read_number w32 bytes ≡ None → SaysNothing m 4 bytes BadParams
call_cut m bytes none =
    let few : nat_le 4 (length bytes) ≡ false = not_four (length bytes) (no_front bytes none) in
    (unread m 4 bytes refl none, rw few refl)

pub meta_cut : (m : ℕ) (bytes : List ℕ) → read_number w32 bytes ≡ None → SaysNothing m 3 bytes BadParams
meta_cut m bytes none =
    let few : nat_le 4 (length bytes) ≡ false = not_four (length bytes) (no_front bytes none) in
    (unread m 3 bytes (rw few refl) none, rw few refl)

pub marker_cut : (m : ℕ) (bytes : List ℕ) → read_number w32 bytes ≡ None → SaysNothing m 2 bytes BadParams
marker_cut m bytes none =
    let few : nat_le 4 (length bytes) ≡ false = not_four (length bytes) (no_front bytes none) in
    (unread m 2 bytes refl none, rw few refl)

-- ---- a number, a thread and fields

-- what is said behind a number and a thread
said : ℕ → ℕ → ℕ → Option (ℕ × List ℕ) → Option Content
said m kind id thread = thread >>= λ t. read_event m kind id t.1 >>= λ e. Some (effect t.0 e)

reads : (m kind : ℕ) (bytes behind : List ℕ) (id : ℕ) → nat_eq kind 2 ≡ false → is_skipped kind bytes ≡ false → read_number w32 bytes ≡ Some (id, behind)
    → read_content m kind bytes ≡ said m kind id (read_number w64 behind)
unfolding read_content read_payload said
reads m kind bytes behind id threaded kept front = rw (kept, front, threaded) refl

no_thread : (m kind id : ℕ) (behind : List ℕ) → read_number w64 behind ≡ None → said m kind id (read_number w64 behind) ≡ None
unfolding said
no_thread m kind id behind none = rw none refl

no_event : (m kind id : ℕ) (thread : Option (ℕ × List ℕ)) → ((t : ℕ) (fields : List ℕ) → thread ≡ Some (t, fields) → read_event m kind id fields ≡ None) → said m kind id thread ≡ None
unfolding said
no_event m kind id None none = refl
no_event m kind id (Some (t, fields)) none = rw (none t fields refl) refl

an_event : (m kind id t : ℕ) (behind fields : List ℕ) (e : Event) → read_number w64 behind ≡ Some (t, fields) → read_event m kind id fields ≡ Some e
    → said m kind id (read_number w64 behind) ≡ Some (effect t e)
unfolding said
an_event m kind id t behind fields e thread event = rw (thread, event) refl

bad_fields : (m kind id t : ℕ) (behind fields : List ℕ) → read_number w64 behind ≡ Some (t, fields) → read_event m kind id fields ≡ None
    → said m kind id (read_number w64 behind) ≡ None
unfolding said
bad_fields m kind id t behind fields thread event = rw (thread, event) refl

-- where one is made of the other, it is there with it
pub there_with : {X Y : Type 0} (from : Option X) (to : Option Y) (made : X → Y) → ((x : X) → from ≡ Some x → to ≡ Some (made x)) → from ≢ None → to ≢ None
there_with None to made into some none = some refl
there_with (Some x) to made into some none = let is : to ≡ Some (made x) = into x refl in cc

-- ---- calls

pub known_call : (m : ℕ) (bytes behind : List ℕ) (id : ℕ) → read_number w32 bytes ≡ Some (id, behind) → (nat_le 1 id && nat_le id call_count) ≡ true → payload_fault 4 bytes ≡ BadParams
known_call m bytes behind id front known =
    let at = front_is bytes behind id front in
    rw (at.0, at.1, known) refl

pub unknown_call : (m : ℕ) (bytes behind : List ℕ) (id : ℕ) → read_number w32 bytes ≡ Some (id, behind) → (nat_le 1 id && nat_le id call_count) ≡ false → SaysNothing m 4 bytes UnknownBlock
unknown_call m bytes behind id front unknown =
    let at = front_is bytes behind id front in (
      reads m 4 bytes behind id refl refl front ∙ no_event m 4 id (read_number w64 behind) (λ t fields is. others_are_not_read m 4 id fields (rw unknown refl)),
      rw (at.0, at.1, unknown) refl,
    )

pub call_without_thread : (m : ℕ) (bytes behind : List ℕ) (id : ℕ) → read_number w32 bytes ≡ Some (id, behind) → (nat_le 1 id && nat_le id call_count) ≡ true → read_number w64 behind ≡ None
    → SaysNothing m 4 bytes BadParams
call_without_thread m bytes behind id front known none =
    (reads m 4 bytes behind id refl refl front ∙ no_thread m 4 id behind none, sym (known_call m bytes behind id front known))

pub call_refused : (m : ℕ) (bytes behind fields : List ℕ) (id t : ℕ) → read_number w32 bytes ≡ Some (id, behind) → (nat_le 1 id && nat_le id call_count) ≡ true → read_number w64 behind ≡ Some (t, fields)
    → read_event m 4 id fields ≡ None → SaysNothing m 4 bytes BadParams
call_refused m bytes behind fields id t front known thread none =
    (reads m 4 bytes behind id refl refl front ∙ bad_fields m 4 id t behind fields thread none, sym (known_call m bytes behind id front known))

pub call_said : (m : ℕ) (bytes behind fields : List ℕ) (id t : ℕ) (e : Event) → read_number w32 bytes ≡ Some (id, behind) → read_number w64 behind ≡ Some (t, fields)
    → read_event m 4 id fields ≡ Some e → read_content m 4 bytes ≡ Some (effect t e)
call_said m bytes behind fields id t e front thread event = reads m 4 bytes behind id refl refl front ∙ an_event m 4 id t behind fields e thread event

-- ---- metadata

-- a metadata of this id isn't a message
meta_kept : (bytes behind : List ℕ) (id : ℕ) → read_number w32 bytes ≡ Some (id, behind) → id ≢ 1 → is_skipped 3 bytes ≡ false
meta_kept bytes behind id front other =
    let at = front_is bytes behind id front in
    let some : nat_eq id 1 ≡ false = grind (arith, nat_tests) in
    rw (at.0, at.1, some) refl

pub message_said : (m : ℕ) (bytes behind : List ℕ) (id : ℕ) → read_number w32 bytes ≡ Some (id, behind) → id ≡ 1 → read_content m 3 bytes ≡ Some skipped
unfolding read_content
message_said m bytes behind id front is =
    let at = front_is bytes behind id front in rw (at.0, at.1, is) refl

pub known_meta : (bytes behind : List ℕ) (id : ℕ) → read_number w32 bytes ≡ Some (id, behind) → (nat_le 1 id && nat_le id metadata_count) ≡ true → payload_fault 3 bytes ≡ BadParams
known_meta bytes behind id front known =
    let at = front_is bytes behind id front in
    rw (at.0, at.1, known) refl

no_row : (id : ℕ) → id ≢ 1 → (nat_le 1 id && nat_le id metadata_count) ≡ false → (nat_le 2 id && nat_le id metadata_count) ≡ false
no_row id other unknown = grind (arith, nat_tests)

pub unknown_meta : (m : ℕ) (bytes behind : List ℕ) (id : ℕ) → read_number w32 bytes ≡ Some (id, behind) → id ≢ 1 → (nat_le 1 id && nat_le id metadata_count) ≡ false → SaysNothing m 3 bytes UnknownBlock
unknown_meta m bytes behind id front other unknown =
    let at = front_is bytes behind id front in
    let none : (nat_le 2 id && nat_le id metadata_count) ≡ false = no_row id other unknown in (
      reads m 3 bytes behind id refl (meta_kept bytes behind id front other) front
          ∙ no_event m 3 id (read_number w64 behind) (λ t fields is. others_are_not_read m 3 id fields (rw none refl)),
      rw (at.0, at.1, unknown) refl,
    )

-- metadata are spelled alike in all versions
pub read_meta-version : (m n id : ℕ) (fields : List ℕ) → read_event m 3 id fields ≡ read_event n 3 id fields
unfolding read_event
read_meta-version m n id fields = refl

pub meta_without_thread : (m : ℕ) (bytes behind : List ℕ) (id : ℕ) → read_number w32 bytes ≡ Some (id, behind) → id ≢ 1 → (nat_le 1 id && nat_le id metadata_count) ≡ true → read_number w64 behind ≡ None
    → SaysNothing m 3 bytes BadParams
meta_without_thread m bytes behind id front other known none =
    (reads m 3 bytes behind id refl (meta_kept bytes behind id front other) front ∙ no_thread m 3 id behind none, sym (known_meta bytes behind id front known))

pub meta_refused : (m : ℕ) (bytes behind fields : List ℕ) (id t : ℕ) → read_number w32 bytes ≡ Some (id, behind) → id ≢ 1 → (nat_le 1 id && nat_le id metadata_count) ≡ true → read_number w64 behind ≡ Some (t, fields)
    → read_event m 3 id fields ≡ None → SaysNothing m 3 bytes BadParams
meta_refused m bytes behind fields id t front other known thread none =
    (reads m 3 bytes behind id refl (meta_kept bytes behind id front other) front ∙ bad_fields m 3 id t behind fields thread none, sym (known_meta bytes behind id front known))

pub meta_said : (m : ℕ) (bytes behind fields : List ℕ) (id t : ℕ) (e : Event) → read_number w32 bytes ≡ Some (id, behind) → id ≢ 1 → read_number w64 behind ≡ Some (t, fields)
    → read_event m 3 id fields ≡ Some e → read_content m 3 bytes ≡ Some (effect t e)
meta_said m bytes behind fields id t e front other thread event =
    reads m 3 bytes behind id refl (meta_kept bytes behind id front other) front ∙ an_event m 3 id t behind fields e thread event

-- ---- markers

marks_so : (m : ℕ) (bytes behind : List ℕ) (kind : ℕ) → read_number w32 bytes ≡ Some (kind, behind)
    → read_content m 2 bytes ≡ (read_event m 2 kind behind >>= λ e. Some (effect 0 e))
unfolding read_content read_payload
marks_so m bytes behind kind front = rw front refl

built : (o : Option Event) (e : Event) → o ≡ Some e → (o >>= λ x. Some (effect 0 x)) ≡ Some (effect 0 e)
built o e is = rw is refl

unbuilt : (o : Option Event) → o ≡ None → (o >>= λ x. Some (effect 0 x)) ≡ None
unbuilt o is = rw is refl

pub begin_said : (m : ℕ) (bytes behind : List ℕ) (kind frame : ℕ) → read_number w32 bytes ≡ Some (kind, behind) → kind ≡ 1 → IsNumber behind frame
    → read_content m 2 bytes ≡ Some (effect 0 (BeginSection frame))
unfolding by_row read_event
begin_said m bytes behind kind frame front is number =
    marks_so m bytes behind kind front
    ∙ built (read_event m 2 kind behind) (BeginSection frame) (ap (λ k. read_event m 2 k behind) is ∙ number (with1 BeginSection))

pub end_said : (m : ℕ) (bytes behind : List ℕ) (kind frame : ℕ) → read_number w32 bytes ≡ Some (kind, behind) → kind ≡ 2 → IsNumber behind frame
    → read_content m 2 bytes ≡ Some (effect 0 (EndSection frame))
unfolding by_row read_event
end_said m bytes behind kind frame front is number =
    marks_so m bytes behind kind front
    ∙ built (read_event m 2 kind behind) (EndSection frame) (ap (λ k. read_event m 2 k behind) is ∙ number (with1 EndSection))

no_number : (m kind : ℕ) (behind : List ℕ) → IsNoNumber behind → (one two : Bool) → nat_eq 1 kind ≡ one → nat_eq 2 kind ≡ two → read_event m 2 kind behind ≡ None
unfolding by_row read_event
no_number m kind behind none true two is also = rw is (none (with1 BeginSection))
no_number m kind behind none false true is also = rw (is, also) (none (with1 EndSection))
no_number m kind behind none false false is also = rw (is, also) refl

-- a marker's fault is never an unknown id
pub marker_without_frame : (m : ℕ) (bytes behind : List ℕ) (kind : ℕ) → read_number w32 bytes ≡ Some (kind, behind) → IsNoNumber behind → SaysNothing m 2 bytes BadParams
marker_without_frame m bytes behind kind front none =
    let at = front_is bytes behind kind front in
    (marks_so m bytes behind kind front ∙ unbuilt (read_event m 2 kind behind) (no_number m kind behind none (nat_eq 1 kind) (nat_eq 2 kind) refl refl), rw at.0 refl)

no_mark : (kind : ℕ) → kind ≢ 1 → kind ≢ 2 → (nat_le 1 kind && nat_le kind 2) ≡ false
no_mark kind first second = grind (arith, nat_tests)

pub marker_of_no_kind : (m : ℕ) (bytes behind : List ℕ) (kind : ℕ) → read_number w32 bytes ≡ Some (kind, behind) → kind ≢ 1 → kind ≢ 2 → SaysNothing m 2 bytes BadParams
marker_of_no_kind m bytes behind kind front first second =
    let at = front_is bytes behind kind front in
    let none : (nat_le 1 kind && nat_le kind 2) ≡ false = no_mark kind first second in
    (marks_so m bytes behind kind front ∙ unbuilt (read_event m 2 kind behind) (others_are_not_read m 2 kind behind (rw none refl)), rw at.0 refl)

-- ---- blocks of other types

skips : (kind : ℕ) (bytes : List ℕ) → (kind ≡ 1) ⊎ (kind ≡ 5) → is_skipped kind bytes ≡ true
skips kind bytes (inl is) = rw is refl
skips kind bytes (inr is) = rw is refl

pub skipped_said : (m kind : ℕ) (bytes : List ℕ) → (kind ≡ 1) ⊎ (kind ≡ 5) → read_content m kind bytes ≡ Some skipped
unfolding read_content
skipped_said m kind bytes is = rw (skips kind bytes is) refl

other_types : (kind : ℕ) → kind ≢ 1 → kind ≢ 2 → kind ≢ 3 → kind ≢ 4 → kind ≢ 5
    → (nat_eq kind 1 ≡ false) × ((nat_eq kind 2 ≡ false) × ((nat_eq kind 3 ≡ false) × ((nat_eq kind 4 ≡ false) × (nat_eq kind 5 ≡ false))))
other_types kind a b c d e = (grind (arith, nat_tests), (grind (arith, nat_tests), (grind (arith, nat_tests), (grind (arith, nat_tests), grind (arith, nat_tests)))))

unsaid : (m kind : ℕ) (bytes : List ℕ) → is_skipped kind bytes ≡ false → nat_eq kind 2 ≡ false → ((n : ℕ) (fields : List ℕ) → read_event m kind n fields ≡ None)
    → (front : Option (ℕ × List ℕ)) → read_number w32 bytes ≡ front → read_content m kind bytes ≡ None
unsaid m kind bytes kept threaded none None is = unread m kind bytes kept is
unsaid m kind bytes kept threaded none (Some (id, behind)) is =
    reads m kind bytes behind id threaded kept is ∙ no_event m kind id (read_number w64 behind) (λ t fields there. none id fields)

neither : (b : Bool) → BadParams ≡ cond (b && false) UnknownBlock BadParams
neither true = refl
neither false = refl

-- a block of no type says nothing
pub type_unsaid : (m kind : ℕ) (bytes : List ℕ) → kind ≢ 1 → kind ≢ 2 → kind ≢ 3 → kind ≢ 4 → kind ≢ 5 → SaysNothing m kind bytes BadParams
type_unsaid m kind bytes a b c d e =
    let (one, (two, (three, (four, five)))) = other_types kind a b c d e in (
      unsaid m kind bytes (rw (one, five, three) refl) two (λ n fields. others_are_not_read m kind n fields (rw (four, three, two) refl)) (read_number w32 bytes) refl,
      rw (four, three) (neither (nat_le 4 (length bytes))),
    )
