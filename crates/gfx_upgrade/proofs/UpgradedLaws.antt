-- A file that is written anew in minor version 2 says the same.
use Rattle.std.proofs.Common.{◌≡◌, ◌≢◌, ℕ, ◌+◌, ◌*◌, ◌^◌, ◌<◌, ◌≤◌, ◌⊎◌, Bool, true, false, not, ◌&&◌, ◌||◌, cond, nat_eq, List, [], ◌∷◌, ◌++◌, length, map, drop, Option, Some, None, refl, sym, ap, subst, ◌∙◌, arith, inl, inr, length-append}
use Rattle.std.specs.Prelude.{flat_map}
use Rattle.std.specs.Int.{w32, w64, to_le_bytes}
use Rattle.std.specs.List.{AllByRecursion}
use Rattle.std.proofs.lemmas.List.{take_at, drop_at, length-take}
use Rattle.gfx_types.specs.declared.names.Fault.{Fault}
use Rattle.gfx_types.specs.declared.lists.Present.{Present}
use Rattle.gfx_types.specs.declared.call.Call.{Call}
use Rattle.gfx_types.specs.declared.call.Call.TheVariants as call
use Rattle.gfx_types.specs.declared.effect.Meta.{Meta}
use Rattle.gfx_types.specs.declared.effect.Meta.TheVariants as meta
use Rattle.gfx_types.specs.declared.effect.Effect.TheVariants as of_block
use Rattle.gfx_model.specs.Events.{Event, event_of, event_of_call, event_of_meta}
use Rattle.gfx_model.specs.Events.Event.{QueuePresentKHR}
use Rattle.gfx_model.specs.Spelling.{Field, HasSpelling, spelling, fields_of, payload, type_of, id_of, id_fields, present_fields, list_of, encoding, header}
use Rattle.gfx_upgrade.specs.Upgraded.{is_present, upgraded_by, upgraded_block, upgraded_event}
use Rattle.gfx_model.specs.Blocks.{IsThread, IsContent, Content, skipped, effect, Whole, End, clean, header_fault, header_length, minor_of, first_position, Position, type_field, payload_field, size_field, is_marker, is_inside, side_count, next_position}
use Rattle.gfx_model.specs.Limits.{max_payload}
use Rattle.gfx_grammar.specs.Reads.{AreBytes, text_of}
use Rattle.gfx_grammar.proofs.NumberLaws.{AreBytes-drop, AreBytes-take}
use Rattle.gfx_grammar.proofs.ReaderLaws.{text_of-append, Fits-parts, Fits-append}
use Rattle.gfx_grammar.specs.Framing.{IsBlock, CanBeWritten, Part, placed, HaveRoom, Splits, side, says_begin, says_end}
use Rattle.gfx_grammar.proofs.FramingLaws.{head-bounds}
use Rattle.gfx_grammar.proofs.SaidLaws.{block-says}
use Rattle.gfx_grammar.proofs.ContentLaws.{read_is_content, content_is_read}
use Rattle.gfx_grammar.proofs.WrittenLaws.{encoding-block, encoding-says, header-good, blocks_of-parts}
use Rattle.gfx_grammar.proofs.RoomLaws.{placed-says}
use Rattle.gfx_grammar.proofs.SplitLaws.{splits_in_one_way}
use Rattle.gfx_grammar.proofs.HeaderLaws.{header_good, start_minor, blocks_of-good, blocks_of-bad}
use Rattle.gfx_grammar.specs.Splitting.{Blocks, blocks_from, blocks_of}
use Rattle.gfx_upgrade.specs.Laws.{upgraded_part, UpgradedIsRead}

-- ---- the versions spell all but presents alike

spelled-alike : (m n : ℕ) (e : Event) → is_present e ≡ false → HasSpelling m e → HasSpelling n e × (spelling n e ≡ spelling m e)
unfolding spelling fields_of
spelled-alike m n (QueuePresentKHR queue waits presents) not h = absurd cc
spelled-alike m n e not h = (record { version = tt; fields = h.fields }, refl)

content-alike : (m n kind t : ℕ) (bytes : List ℕ) (e : Event) → is_present e ≡ false → IsContent m kind bytes (effect t e) → IsContent n kind bytes (effect t e)
unfolding payload
content-alike m n kind t bytes e not h =
    let alike = spelled-alike m n e not h.fits in
    record {
      type = h.type;
      fits = alike.0;
      thread_fits = h.thread_fits;
      same = h.same ∙ ap (λ (xs : List ℕ). (to_le_bytes w32 (id_of e) ++ cond (nat_eq (type_of e) 2) [] (to_le_bytes w64 t)) ++ xs) (sym alike.1);
    }

-- ---- presents

text-length : (a b : List Field) → length (text_of (a ++ b)) ≡ length (text_of a) + length (text_of b)
text-length a b = ap length (text_of-append a b) ∙ length-append (text_of a) (text_of b)

ids-length : (xs : List ℕ) → length (text_of (flat_map id_fields xs)) ≡ 8 * length xs
ids-length [] = refl
ids-length (x ∷ xs) = omega (arith, ids-length xs)

-- a present of one image, by its waits: the number of its items is what version 2 adds
abbrev one_present : ℕ → List ℕ → Present → Event
one_present queue waits p = QueuePresentKHR queue waits (p ∷ [])

length-1 : (queue : ℕ) (waits : List ℕ) (p : Present) → length (spelling 1 (one_present queue waits p)) ≡ 24 + 8 * length waits
unfolding spelling fields_of
length-1 queue waits p = omega (arith, text-length (flat_map id_fields waits) (present_fields p), ids-length waits)

length-2 : (queue : ℕ) (waits : List ℕ) (p : Present) → length (spelling 2 (one_present queue waits p)) ≡ 28 + 8 * length waits
unfolding spelling fields_of
length-2 queue waits p = omega (arith, text-length (flat_map id_fields waits) (list_of present_fields (p ∷ [])), ids-length waits)

call-length : (m t : ℕ) (queue : ℕ) (waits : List ℕ) (presents : List Present) → length (payload m t (QueuePresentKHR queue waits presents)) ≡ 12 + length (spelling m (QueuePresentKHR queue waits presents))
unfolding payload type_of
call-length m t queue waits presents = omega arith

-- a present of version 1 that has a block has one in version 2
present-fits : (queue : ℕ) (waits : List ℕ) (p : Present) → HasSpelling 1 (one_present queue waits p) → HasSpelling 2 (one_present queue waits p)
unfolding fields_of
present-fits queue waits p h =
    let waits_fit = Fits-parts (flat_map id_fields waits) (present_fields p) h.fields.1.1 in
    record {
      version = λ two. absurd cc;
      fields = (h.fields.0, (h.fields.1.0, Fits-append (flat_map id_fields waits) (list_of present_fields (p ∷ [])) waits_fit.0 (omega arith, waits_fit.1)));
    }

one-upgrades : (t queue : ℕ) (waits : List ℕ) (p : Present) → CanBeWritten 1 t (one_present queue waits p) → CanBeWritten 2 t (one_present queue waits p)
one-upgrades t queue waits p h = record {
  fits = present-fits queue waits p h.fits;
  thread_fits = h.thread_fits;
  small = omega (arith, h.small, call-length 1 t queue waits (p ∷ []), call-length 2 t queue waits (p ∷ []), length-1 queue waits p, length-2 queue waits p);
}

present-upgrades : (t queue : ℕ) (waits : List ℕ) (presents : List Present) → CanBeWritten 1 t (QueuePresentKHR queue waits presents) → CanBeWritten 2 t (QueuePresentKHR queue waits presents)
present-upgrades t queue waits [] h = absurd (let one = h.fits.version refl in omega (arith, one))
present-upgrades t queue waits (p ∷ []) h = one-upgrades t queue waits p h
present-upgrades t queue waits (p ∷ q ∷ ps) h = absurd (let one = h.fits.version refl in omega (arith, one))

-- ---- a block

-- its payload is no longer than 2^27
block-small : (m t : ℕ) (bytes : List ℕ) (e : Event) → IsBlock m bytes (effect t e) → IsContent m (type_field bytes) (payload_field bytes) (effect t e) → CanBeWritten m t e
block-small m t bytes e h content =
    let bounds = head-bounds bytes h.head in
    record {
      fits = content.fits;
      thread_fits = subst (λ k. IsThread k t) (sym content.type) content.thread_fits;
      small = omega (arith, bounds.0, ap length (sym content.same), length-take (size_field bytes) (drop 12 bytes));
    }

content_of : (m : ℕ) (bytes : List ℕ) (c : Content) → AreBytes bytes → IsBlock m bytes c → IsContent m (type_field bytes) (payload_field bytes) c
content_of m bytes c fit h =
    read_is_content m (type_field bytes) (payload_field bytes) c (AreBytes-take (size_field bytes) (drop 12 bytes) (AreBytes-drop 12 bytes fit)) h.payload

-- a present is written anew
pub other_bytes : (bytes : List ℕ) (t : ℕ) (e : Event) → is_present e ≡ true → upgraded_event bytes t e ≡ encoding 2 t e
other_bytes bytes t (QueuePresentKHR queue waits presents) is = refl
other_bytes bytes t e is = absurd cc

-- what stands as it was
stands : (m : ℕ) (bytes : List ℕ) (c : Content) → IsBlock m bytes c → IsContent 2 (type_field bytes) (payload_field bytes) c → IsBlock 2 bytes c
stands m bytes c h content = record { long = h.long; head = h.head; payload = content_is_read 2 (type_field bytes) (payload_field bytes) c content }

-- a block of version 2 that says the same, and marks the same
record Upgrades (bytes : List ℕ) (c : Content) : Type 0 where
  pub block : IsBlock 2 bytes c
  pub says : (is_marker 1 bytes ≡ says_begin c) × (is_marker 2 bytes ≡ says_end c)

anew : (t : ℕ) (e : Event) → CanBeWritten 2 t e → Upgrades (encoding 2 t e) (effect t e)
anew t e can = record { block = encoding-block 2 t e can; says = encoding-says 2 t e can }

kept : (m : ℕ) (bytes : List ℕ) (c : Content) → AreBytes bytes → IsBlock m bytes c → IsContent 2 (type_field bytes) (payload_field bytes) c → Upgrades bytes c
kept m bytes c fit h content =
    let block = stands m bytes c h content in
    record { block = block; says = block-says 2 bytes c fit block }

by_version : (m t queue : ℕ) (waits : List ℕ) (presents : List Present) → (m ≡ 1) ⊎ (m ≡ 2)
    → CanBeWritten m t (QueuePresentKHR queue waits presents) → CanBeWritten 2 t (QueuePresentKHR queue waits presents)
by_version m t queue waits presents (inl one) can = present-upgrades t queue waits presents (subst (λ m. CanBeWritten m t (QueuePresentKHR queue waits presents)) one can)
by_version m t queue waits presents (inr two) can = subst (λ m. CanBeWritten m t (QueuePresentKHR queue waits presents)) two can

-- what a block says has a block in version 2
fits_two : (m t : ℕ) (e : Event) → (m ≡ 1) ⊎ (m ≡ 2) → CanBeWritten m t e → CanBeWritten 2 t e
unfolding payload
fits_two m t (QueuePresentKHR queue waits presents) version can = by_version m t queue waits presents version can
fits_two m t e version can =
    let alike = spelled-alike m 2 e refl can.fits in
    record {
      fits = alike.0;
      thread_fits = can.thread_fits;
      small = subst (λ (xs : List ℕ). length ((to_le_bytes w32 (id_of e) ++ cond (nat_eq (type_of e) 2) [] (to_le_bytes w64 t)) ++ xs) ≤ max_payload) (sym alike.1) can.small;
    }

pub block_fits_two : (m t : ℕ) (bytes : List ℕ) (e : Event) → (m ≡ 1) ⊎ (m ≡ 2) → AreBytes bytes → IsBlock m bytes (effect t e) → CanBeWritten 2 t e
block_fits_two m t bytes e version fit h = fits_two m t e version (block-small m t bytes e h (content_of m bytes (effect t e) fit h))

event-upgrades : (m t : ℕ) (bytes : List ℕ) (e : Event) → (m ≡ 1) ⊎ (m ≡ 2) → AreBytes bytes → IsBlock m bytes (effect t e)
    → IsContent m (type_field bytes) (payload_field bytes) (effect t e) → Upgrades (upgraded_event bytes t e) (effect t e)
event-upgrades m t bytes (QueuePresentKHR queue waits presents) version fit h content =
    anew t (QueuePresentKHR queue waits presents) (by_version m t queue waits presents version (block-small m t bytes (QueuePresentKHR queue waits presents) h content))
event-upgrades m t bytes e version fit h content =
    kept m bytes (effect t e) fit h (content-alike m 2 (type_field bytes) t (payload_field bytes) e refl content)

block-upgrades : (m : ℕ) (w : Whole) (c : Content) → (m ≡ 1) ⊎ (m ≡ 2) → AreBytes w.bytes → IsBlock m w.bytes c → Upgrades (upgraded_block w c) c
block-upgrades m w skipped version fit h = kept m w.bytes skipped fit h (content_of m w.bytes skipped fit h)
block-upgrades m w (effect t e) version fit h = event-upgrades m t w.bytes e version fit h (content_of m w.bytes (effect t e) fit h)

-- ---- the file

are-upgraded : (m : ℕ) (ws : List Whole) → (m ≡ 1) ⊎ (m ≡ 2) → AllByRecursion (λ w. AreBytes w.bytes × IsBlock m w.bytes w.content) ws
    → AllByRecursion (λ p. IsBlock 2 p.bytes p.content) (map upgraded_part ws)
are-upgraded m [] version are = tt
are-upgraded m (w ∷ ws) version are = ((block-upgrades m w w.content version are.0.0 are.0.1).block, are-upgraded m ws version are.1)

-- the blocks that were counted are counted on the same sides
side-same : (at other : Position) (b : Bool) → other.in_section ≡ at.in_section → other.inside ≡ at.inside → other.outside ≡ at.outside → side other b ≡ side at b
side-same at other b s i o = ap (λ x. cond (x || b) other.inside other.outside) s ∙ ap (λ x. cond (at.in_section || b) x other.outside) i ∙ ap (λ x. cond (at.in_section || b) at.inside x) o

room-upgraded : (m : ℕ) (at other : Position) (bytes : List ℕ) (ws : List Whole) (end : End) → (m ≡ 1) ⊎ (m ≡ 2) → AreBytes bytes → Splits m at bytes ws end
    → other.in_section ≡ at.in_section → other.inside ≡ at.inside → other.outside ≡ at.outside
    → AllByRecursion (λ w. AreBytes w.bytes × IsBlock m w.bytes w.content) ws × HaveRoom other (map upgraded_part ws)
room-upgraded m at other bytes [] end version fit is s i o = (tt, tt)
room-upgraded m at other bytes (w ∷ ws) end version fit is s i o =
    let (rest, parts, here, block, room, more) = is in
    let whole : AreBytes (w.bytes ++ rest) = subst AreBytes parts fit in
    let own : AreBytes w.bytes = subst AreBytes (take_at w.bytes rest (length w.bytes) refl) (AreBytes-take (length w.bytes) (w.bytes ++ rest) whole) in
    let others : AreBytes rest = subst AreBytes (drop_at w.bytes rest (length w.bytes) refl) (AreBytes-drop (length w.bytes) (w.bytes ++ rest) whole) in
    let old = block-says m w.bytes w.content own block in
    let new = (block-upgrades m w w.content version own block).says in
    let next = next_position at w.bytes in
    let new_next = next_position other (upgraded_block w w.content) in
    let begins : is_marker 1 (upgraded_block w w.content) ≡ is_marker 1 w.bytes = new.0 ∙ sym old.0 in
    let ends : is_marker 2 (upgraded_block w w.content) ≡ is_marker 2 w.bytes = new.1 ∙ sym old.1 in
    let inner : is_inside other (upgraded_block w w.content) ≡ is_inside at w.bytes = ap (λ b. other.in_section || b) begins ∙ ap (λ b. b || is_marker 1 w.bytes) s in
    let later = room-upgraded m next new_next rest ws end version others more
    (ap (λ b. is_inside other (upgraded_block w w.content) && not b) ends ∙ ap (λ b. b && not (is_marker 2 w.bytes)) inner)
    (ap (λ n. cond (is_inside other (upgraded_block w w.content)) (n + 1) n) i ∙ ap (λ b. cond b (at.inside + 1) at.inside) inner)
    (ap (λ n. cond (is_inside other (upgraded_block w w.content)) n (n + 1)) o ∙ ap (λ b. cond b at.outside (at.outside + 1)) inner) in
    let count : side_count other (upgraded_block w w.content) ≡ side_count at w.bytes =
    ap (λ b. side other b) begins ∙ side-same at other (is_marker 1 w.bytes) s i o in
    (((own, block), later.0), (subst (λ n. n < 2 ^ 32) (sym count) room, later.1))

contents : (ws : List Whole) → map (λ (p : Part). p.content) (map upgraded_part ws) ≡ map (λ (w : Whole). w.content) ws
contents [] = refl
contents (w ∷ ws) = ap (λ (cs : List Content). w.content ∷ cs) (contents ws)

upgraded-text : (ws : List Whole) → flat_map (λ (p : Part). p.bytes) (map upgraded_part ws) ≡ flat_map (λ (w : Whole). upgraded_block w w.content) ws
upgraded-text [] = refl
upgraded-text (w ∷ ws) = ap (λ (xs : List ℕ). upgraded_block w w.content ++ xs) (upgraded-text ws)

upgraded-splits : (m : ℕ) (at : Position) (bytes : List ℕ) (ws : List Whole) (end : End) → (m ≡ 1) ⊎ (m ≡ 2) → AreBytes bytes → Splits m at bytes ws end
    → at.in_section ≡ false → at.inside ≡ 0 → at.outside ≡ 0
    → blocks_of (upgraded_by ws) ≡ record { items = placed (first_position (header 2)) (map upgraded_part ws); end = clean }
upgraded-splits m at bytes ws end version fit is s i o =
    let room = room-upgraded m at (first_position (header 2)) bytes ws end version fit is (sym s) (sym i) (sym o) in
    ap (λ (xs : List ℕ). blocks_of (header 2 ++ xs)) (sym (upgraded-text ws))
    ∙ blocks_of-parts (header 2) (map upgraded_part ws) (header-good 2 (inr refl)) (are-upgraded m ws version room.0) room.1

by_header : (bytes : List ℕ) → AreBytes bytes → (o : Option Fault) → header_fault bytes ≡ o
    → blocks_of (upgraded_by (blocks_of bytes).items) ≡ record { items = placed (first_position (header 2)) (map upgraded_part (blocks_of bytes).items); end = clean }
by_header bytes fit None good =
    let m = minor_of bytes in
    let at = first_position bytes in
    let rest = drop (header_length bytes) bytes in
    let start = (header_good bytes good).1 in
    subst (λ (b : Blocks). blocks_of (upgraded_by b.items) ≡ record { items = placed (first_position (header 2)) (map upgraded_part b.items); end = clean }) (sym (blocks_of-good bytes good))
    (upgraded-splits m at rest (blocks_from m at rest).items (blocks_from m at rest).end (start_minor bytes start) (AreBytes-drop (header_length bytes) bytes fit) (splits_in_one_way m at rest).0 refl refl refl)
by_header bytes fit (Some f) is =
    subst (λ (b : Blocks). blocks_of (upgraded_by b.items) ≡ record { items = placed (first_position (header 2)) (map upgraded_part b.items); end = clean }) (sym (blocks_of-bad bytes f is))
    (blocks_of-parts (header 2) [] (header-good 2 (inr refl)) tt tt)

pub upgraded_is_read : UpgradedIsRead
upgraded_is_read bytes fit = by_header bytes fit (header_fault bytes) refl

-- and they say the same
pub same_contents : (bytes : List ℕ) → AreBytes bytes
    → map (λ (w : Whole). w.content) (blocks_of (upgraded_by (blocks_of bytes).items)).items ≡ map (λ (w : Whole). w.content) (blocks_of bytes).items
same_contents bytes fit =
    ap (λ (b : Blocks). map (λ (w : Whole). w.content) b.items) (upgraded_is_read bytes fit)
    ∙ placed-says (first_position (header 2)) (map upgraded_part (blocks_of bytes).items)
    ∙ contents (blocks_of bytes).items

-- ---- presents among the effects of blocks

-- another call is none
pub other_call : (c : Call) → ((queue : ℕ) (waits : List ℕ) (presents : List Present) → c ≢ call.QueuePresentKHR queue waits presents) → is_present (event_of_call c) ≡ false
other_call (call.QueuePresentKHR queue waits presents) not = absurd (not queue waits presents refl)
other_call _ not = refl

pub no_meta : (m : Meta) → is_present (event_of_meta m) ≡ false
no_meta (meta.FillMemory memory offset bytes) = refl
no_meta (meta.InitImage image layout bytes) = refl
no_meta (meta.SetSwapchainState swapchain acquired) = refl
no_meta (meta.SetSemaphoreState semaphore signalled) = refl

pub no_marker : (begin : Bool) (frame : ℕ) → is_present (event_of (of_block.Marker begin frame)) ≡ false
no_marker true frame = refl
no_marker false frame = refl
