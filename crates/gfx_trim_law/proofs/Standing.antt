-- The blocks of a file by themselves, and on which side of the section they count.
use Rattle.std.proofs.Common.{◌≡◌, ℕ, ◌+◌, ◌^◌, ◌≤◌, ◌&&◌, ◌||◌, not, cond, Bool, true, false, refl, sym, ◌∙◌, ap, subst, List, [], ◌∷◌, ◌++◌, map, length, is_some, ◌⊎◌, inl, inr, arith}
use Rattle.std.specs.List.{AllByRecursion}
use Rattle.std.proofs.lemmas.List.{take_at, drop_at}
use Rattle.gfx_model.specs.Events.{Event}
use Rattle.gfx_model.specs.Events.Event.{CreateInstance, BeginSection, EndSection, QueuePresentKHR}
use Rattle.gfx_model.specs.Spelling.{HasSpelling}
use Rattle.gfx_model.specs.Blocks.{Position, Whole, Content, End, IsContent, type_field, payload_field, size_field, is_inside, is_marker, side_count, next_position}
use Rattle.gfx_model.specs.Blocks.Content.{skipped, effect}
use Rattle.gfx_model.specs.History.{view}
use Rattle.gfx_model.specs.Meaning.{content_onto, events_onto}
use Rattle.gfx_grammar.specs.Reads.{AreBytes}
use Rattle.gfx_grammar.proofs.NumberLaws.{AreBytes-take, AreBytes-drop}
use Rattle.gfx_grammar.proofs.ContentLaws.{read_is_content}
use Rattle.gfx_grammar.proofs.SaidLaws.{block-says, block-past}
use Rattle.gfx_grammar.specs.Framing.{IsBlock, Part, part_of, place_after, HaveRoom, Splits, says_begin, says_end}
use Rattle.gfx_trim_law.proofs.Clock.{quiet_event, present_event, begun, ended}

-- a block by itself, of bytes
abbrev pub IsStanding : ℕ → Whole → Type 0
IsStanding m w = IsBlock m w.bytes w.content × AreBytes w.bytes

-- the blocks of a file are such blocks, and their sides have room
pub splits-standing : (m : ℕ) (at : Position) (bytes : List ℕ) (ws : List Whole) (end : End) → AreBytes bytes → Splits m at bytes ws end →
    AllByRecursion (IsStanding m) ws × HaveRoom at (map part_of ws)
splits-standing m at bytes [] end fit is = (tt, tt)
splits-standing m at bytes (w ∷ ws) end fit is =
    let (rest, parts, here, block, room, more) = is in
    let whole : AreBytes (w.bytes ++ rest) = subst AreBytes parts fit in
    let own : AreBytes w.bytes = subst AreBytes (take_at w.bytes rest (length w.bytes) refl) (AreBytes-take (length w.bytes) (w.bytes ++ rest) whole) in
    let others : AreBytes rest = subst AreBytes (drop_at w.bytes rest (length w.bytes) refl) (AreBytes-drop (length w.bytes) (w.bytes ++ rest) whole) in
    let later = splits-standing m (next_position at w.bytes) rest ws end others more in
    (((block, own), later.0), (room, later.1))

pub room-before : (at : Position) (ps qs : List Part) → HaveRoom at (ps ++ qs) → HaveRoom at ps
room-before at [] qs room = tt
room-before at (p ∷ ps) qs room = (room.0, room-before (next_position at p.bytes) ps qs room.1)

pub room-behind : (at : Position) (ps qs : List Part) → HaveRoom at (ps ++ qs) → HaveRoom (place_after at ps) qs
room-behind at [] qs room = room
room-behind at (p ∷ ps) qs room = room-behind (next_position at p.bytes) ps qs room.1

pub parts-append : (xs ys : List Whole) → map part_of (xs ++ ys) ≡ map part_of xs ++ map part_of ys
parts-append [] ys = refl
parts-append (w ∷ xs) ys = ap (λ (ps : List Part). part_of w ∷ ps) (parts-append xs ys)

-- what a block says has a spelling
pub spelled_onto : (m : ℕ) (ws : List Whole) (h : List Event) → AllByRecursion (IsStanding m) ws → AllByRecursion (HasSpelling m) h → AllByRecursion (HasSpelling m) (events_onto ws h)
spelled_onto m [] h are spelled = spelled
spelled_onto m (w ∷ ws) h are spelled = spelled_onto m ws (content_onto w.content h) are.1 (by w.content (content_of m w are.0))
  where
    content_of : (m : ℕ) (w : Whole) → IsStanding m w → IsContent m (type_field w.bytes) (payload_field w.bytes) w.content
    content_of m w is =
        read_is_content m (type_field w.bytes) (payload_field w.bytes) w.content (AreBytes-take (size_field w.bytes) _ (AreBytes-drop 12 w.bytes is.1)) (is.0).payload

    by : (c : Content) → IsContent m (type_field w.bytes) (payload_field w.bytes) c → AllByRecursion (HasSpelling m) (content_onto c h)
    by skipped is = spelled
    by (effect thread e) is = (is.fits, spelled)

-- ---- sides of the section

plain_side : (b : Bool) → ((b || false) && true) ≡ b
plain_side true = refl
plain_side false = refl

begun_side : (b : Bool) → ((b || true) && true) ≡ true
begun_side true = refl
begun_side false = refl

ended_side : (b : Bool) → ((b || false) && false) ≡ false
ended_side true = refl
ended_side false = refl

-- a block stands inside the section where one is open
open_after : (h : List Event) (c : Content) (b : Bool) → is_some (view h).section ≡ b →
    is_some (view (content_onto c h)).section ≡ ((b || says_begin c) && not (says_end c))
open_after h skipped b is = is ∙ sym (plain_side b)
open_after h (effect thread (BeginSection frame)) b is = ap is_some (begun frame h).1 ∙ sym (begun_side b)
open_after h (effect thread (EndSection frame)) b is = ap is_some (ended frame h).1 ∙ sym (ended_side b)
open_after h (effect thread (QueuePresentKHR queue waits images)) b is = ap is_some (present_event queue waits images h).section ∙ is ∙ sym (plain_side b)
open_after h (effect thread (CreateInstance instance api)) b is = ap is_some (quiet_event (CreateInstance instance api) h tt).section ∙ is ∙ sym (plain_side b)
open_after h (effect thread e) b is = ap is_some (quiet_event e h tt).section ∙ is ∙ sym (plain_side b)

pub open_behind : (m : ℕ) (ws : List Whole) (at : Position) (h : List Event) → AllByRecursion (IsStanding m) ws → is_some (view h).section ≡ at.in_section →
    is_some (view (events_onto ws h)).section ≡ (place_after at (map part_of ws)).in_section
open_behind m [] at h are is = is
open_behind m (w ∷ ws) at h are is =
    let next = next_position at w.bytes in
    let moved : next.in_section ≡ ((at.in_section || says_begin w.content) && not (says_end w.content)) =
    ap (λ (p : Position). p.in_section) (block-past m at w.bytes w.content are.0.1 are.0.0) in
    open_behind m ws next (content_onto w.content h) are.1 (open_after h w.content at.in_section is ∙ sym moved)

-- blocks outside the section that begin none: no more than the side has room for
pub few_outside : (m : ℕ) (ws : List Whole) (at : Position) → AllByRecursion (IsStanding m) ws → AllByRecursion (λ w. says_begin w.content ≡ false) ws → at.in_section ≡ false →
    HaveRoom at (map part_of ws) → (length ws ≡ 0) ⊎ (at.outside + length ws ≤ 2 ^ 32)
few_outside m [] at are none outside room = inl refl
few_outside m (w ∷ ws) at are none outside room =
    let begins : is_marker 1 w.bytes ≡ false = (block-says m w.bytes w.content are.0.1 are.0.0).0 ∙ none.0 in
    let here : is_inside at w.bytes ≡ false = ap (λ b. b || is_marker 1 w.bytes) outside ∙ begins in
    let next = next_position at w.bytes in
    let still : next.in_section ≡ false = ap (λ b. b && not (is_marker 2 w.bytes)) here in
    let count : next.outside ≡ at.outside + 1 = ap (λ b. cond b at.outside (at.outside + 1)) here in
    let side : side_count at w.bytes ≡ at.outside = ap (λ b. cond b at.inside at.outside) here in
    by (few_outside m ws next are.1 none.1 still room.1) count side
  where
    by : (length ws ≡ 0) ⊎ ((next_position at w.bytes).outside + length ws ≤ 2 ^ 32) → (next_position at w.bytes).outside ≡ at.outside + 1 → side_count at w.bytes ≡ at.outside →
        (length (w ∷ ws) ≡ 0) ⊎ (at.outside + length (w ∷ ws) ≤ 2 ^ 32)
    by (inl last) count side = inr (omega (arith, last, side, room.0))
    by (inr more) count side = inr (omega (arith, more, count))
