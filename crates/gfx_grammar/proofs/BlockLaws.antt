-- The computed blocks are the one list of blocks of the bytes.
use Rattle.std.proofs.Common.{◌≡◌, ◌≢◌, ℕ, zero, suc, ◌+◌, ◌<◌, Bool, true, false, cond, List, [], ◌∷◌, length, take, drop, Option, Some, None, refl, sym, ap, subst, ◌∙◌, arith, inl, inr, length-drop}
use Rattle.std.specs.Prelude.{MatchBool, MatchOption}
use Rattle.gfx_types.specs.declared.names.Fault.{Fault}
use Rattle.gfx_types.specs.declared.names.Fault.TheVariants.{UnknownBlock, BadParams}
use Rattle.gfx_model.specs.Blocks.{header_fault, header_length, minor_of, Position, size_field, type_field, payload_field, framing_fault, Content, is_unknown, IsContent, Whole, End, clean, bad, EndsHere, IsFront, next_position, first_position, AreBlocksFrom}
use Rattle.gfx_grammar.specs.Rows.{read_content}
use Rattle.gfx_grammar.specs.Splitting.{Front, Stops, Finds, payload_fault, with_content, with_framing, front, Blocks, after_front, blocks_within, blocks_from, after_header, blocks_of}
use Rattle.gfx_grammar.specs.Laws.{EndsAreComputed, FrontsAreComputed, BlocksAreComputed, BlocksGoOn}
use Rattle.gfx_grammar.specs.Reads.{AreBytes}
use Rattle.gfx_grammar.proofs.NumberLaws.{AreBytes-drop, AreBytes-take}
use Rattle.gfx_grammar.proofs.FrontLaws.{front-framing}
use Rattle.gfx_grammar.proofs.ContentLaws.{read_is_content, content_is_read, content_known}

payload_bytes : (bytes : List ℕ) → AreBytes bytes → AreBytes (payload_field bytes)
payload_bytes bytes h = AreBytes-take (size_field bytes) (drop 12 bytes) (AreBytes-drop 12 bytes h)

-- ---- the computed prefix is one of the definitions

breaks : (m kind : ℕ) (bytes : List ℕ) → read_content m kind bytes ≡ None → (b : Bool)
    → MatchBool b (cond b UnknownBlock BadParams ≡ UnknownBlock) ((cond b UnknownBlock BadParams ≡ BadParams) × ((c : Content) → IsContent m kind bytes c → ⊥))
breaks m kind bytes unread true = refl
breaks m kind bytes unread false = (refl, λ c is. let read = content_is_read m kind bytes c is in cc)

content_ends : (m : ℕ) (at : Position) (bytes : List ℕ) (e : End) → bytes ≢ [] → framing_fault at bytes ≡ None
    → (o : Option Content) → read_content m (type_field bytes) (payload_field bytes) ≡ o → with_content at bytes o ≡ Stops e → EndsHere m at bytes e
content_ends m at bytes e some framed (Some c) read eq = absurd cc
content_ends m at bytes e some framed None read eq =
    let kind = type_field bytes in
    let load = payload_field bytes in
    let is : bad (payload_fault kind load) at.number at.offset ≡ e = cc in
    subst (λ z. EndsHere m at bytes z) is (some, refl, refl, inr (framed, breaks m kind load read (is_unknown kind load)))

framing_ends : (m : ℕ) (at : Position) (bytes : List ℕ) (e : End) → bytes ≢ []
    → (o : Option Fault) → framing_fault at bytes ≡ o → with_framing m at bytes o ≡ Stops e → EndsHere m at bytes e
framing_ends m at bytes e some (Some f) framed eq =
    let is : bad f at.number at.offset ≡ e = cc in
    subst (λ z. EndsHere m at bytes z) is (some, refl, refl, inl framed)
framing_ends m at bytes e some None framed eq =
    content_ends m at bytes e some framed (read_content m (type_field bytes) (payload_field bytes)) refl eq

front_ends : (m : ℕ) (at : Position) (bytes : List ℕ) (e : End) → front m at bytes ≡ Stops e → EndsHere m at bytes e
unfolding front
front_ends m at [] e eq = let is : clean ≡ e = cc in subst (λ z. EndsHere m at [] z) is refl
front_ends m at (b ∷ bytes) e eq = framing_ends m at (b ∷ bytes) e (λ is. cc) (framing_fault at (b ∷ bytes)) refl eq

content_block : (m : ℕ) (at : Position) (bytes : List ℕ) (w : Whole) → AreBytes bytes → bytes ≢ [] → framing_fault at bytes ≡ None
    → (o : Option Content) → read_content m (type_field bytes) (payload_field bytes) ≡ o → with_content at bytes o ≡ Finds w → IsFront m at bytes w
content_block m at bytes w h some framed None read eq = absurd cc
content_block m at bytes w h some framed (Some c) read eq =
    let is : record { number = at.number; offset = at.offset; bytes = take (12 + size_field bytes) bytes; content = c } ≡ w = cc in
    subst (λ z. IsFront m at bytes z) is (record {
      some_left = some;
      framed = framed;
      number = refl;
      offset = refl;
      same = refl;
      content = read_is_content m (type_field bytes) (payload_field bytes) c (payload_bytes bytes h) read;
    })

framing_block : (m : ℕ) (at : Position) (bytes : List ℕ) (w : Whole) → AreBytes bytes → bytes ≢ []
    → (o : Option Fault) → framing_fault at bytes ≡ o → with_framing m at bytes o ≡ Finds w → IsFront m at bytes w
framing_block m at bytes w h some (Some f) framed eq = absurd cc
framing_block m at bytes w h some None framed eq =
    content_block m at bytes w h some framed (read_content m (type_field bytes) (payload_field bytes)) refl eq

front_block : (m : ℕ) (at : Position) (bytes : List ℕ) (w : Whole) → AreBytes bytes → front m at bytes ≡ Finds w → IsFront m at bytes w
unfolding front
front_block m at [] w h eq = absurd cc
front_block m at (b ∷ bytes) w h eq = framing_block m at (b ∷ bytes) w h (λ is. cc) (framing_fault at (b ∷ bytes)) refl eq

-- ---- and what is one of the definitions is the computed prefix

some_bytes : (bytes : List ℕ) → bytes ≢ [] → 0 < length bytes
some_bytes [] some = absurd (some refl)
some_bytes (b ∷ bytes) some = omega arith

no_content : (m kind : ℕ) (bytes : List ℕ) → AreBytes bytes → ((c : Content) → IsContent m kind bytes c → ⊥)
    → (o : Option Content) → read_content m kind bytes ≡ o → o ≡ None
no_content m kind bytes h not (Some c) read = absurd (not c (read_is_content m kind bytes c h read))
no_content m kind bytes h not None read = refl

broken_payload : (m kind : ℕ) (bytes : List ℕ) (f : Fault) → AreBytes bytes → (b : Bool) → is_unknown kind bytes ≡ b
    → MatchBool b (f ≡ UnknownBlock) ((f ≡ BadParams) × ((c : Content) → IsContent m kind bytes c → ⊥))
    → (read_content m kind bytes ≡ None) × (payload_fault kind bytes ≡ f)
broken_payload m kind bytes f h true unknown is =
    (no_content m kind bytes h (λ c has. let known = content_known m kind bytes c has in cc) (read_content m kind bytes) refl, rw unknown (sym is))
broken_payload m kind bytes f h false known is =
    (no_content m kind bytes h is.1 (read_content m kind bytes) refl, rw known (sym is.0))

ends_front : (m : ℕ) (at : Position) (bytes : List ℕ) (e : End) → AreBytes bytes → EndsHere m at bytes e → front m at bytes ≡ Stops e
unfolding front
ends_front m at bytes clean h is = ap (front m at) is
ends_front m at bytes (bad f number offset) h is =
    let placed : bad f at.number at.offset ≡ bad f number offset =
    ap (λ n. bad f n at.offset) (sym is.1) ∙ ap (λ n. bad f number n) (sym is.2) in
    front-framing m at bytes (some_bytes bytes is.0) ∙ elim is.3 [
      | inl framed ↦ ap (with_framing m at bytes) framed ∙ ap Stops placed
      | inr payload ↦
          let found = broken_payload m (type_field bytes) (payload_field bytes) f (payload_bytes bytes h) (is_unknown (type_field bytes) (payload_field bytes)) refl payload.1 in
          ap (with_framing m at bytes) payload.0
          ∙ ap (with_content at bytes) found.0
          ∙ ap (λ g. Stops (bad g at.number at.offset)) found.1
          ∙ ap Stops placed
    ]

block_front : (m : ℕ) (at : Position) (bytes : List ℕ) (w : Whole) → IsFront m at bytes w → front m at bytes ≡ Finds w
block_front m at bytes w is =
    let long = take (12 + size_field bytes) bytes in
    front-framing m at bytes (some_bytes bytes is.some_left)
    ∙ ap (with_framing m at bytes) is.framed
    ∙ ap (with_content at bytes) (content_is_read m (type_field bytes) (payload_field bytes) w.content is.content)
    ∙ ap (λ n. Finds (record { number = n; offset = at.offset; bytes = long; content = w.content })) (sym is.number)
    ∙ ap (λ n. Finds (record { number = w.number; offset = n; bytes = long; content = w.content })) (sym is.offset)
    ∙ ap (λ (xs : List ℕ). Finds (record { number = w.number; offset = w.offset; bytes = xs; content = w.content })) (sym is.same)

pub ends_are_computed : EndsAreComputed
ends_are_computed m at bytes end h = (front_ends m at bytes end, ends_front m at bytes end h)

pub fronts_are_computed : FrontsAreComputed
fronts_are_computed m at bytes w h = (front_block m at bytes w h, block_front m at bytes w)

-- ---- all blocks

shorter : (turns n : ℕ) (bytes : List ℕ) → bytes ≢ [] → length bytes < suc turns → length (drop (12 + n) bytes) < turns
shorter turns n bytes some few = let long = some_bytes bytes some in omega (arith, length-drop (12 + n) bytes, long, few)

from_front : (m : ℕ) (at : Position) (bytes : List ℕ) (rest : Blocks) → AreBytes bytes
    → (bytes ≢ [] → AreBlocksFrom m (next_position at bytes) (drop (12 + size_field bytes) bytes) rest.items rest.end)
    → (f : Front) → front m at bytes ≡ f → AreBlocksFrom m at bytes (after_front f rest).items (after_front f rest).end
from_front m at bytes rest h later (Stops e) is = front_ends m at bytes e is
from_front m at bytes rest h later (Finds w) is =
    let first = front_block m at bytes w h is in
    (first, later first.some_left)

within_are : (turns m : ℕ) (at : Position) (bytes : List ℕ) → AreBytes bytes → length bytes < turns
    → AreBlocksFrom m at bytes (blocks_within turns m at bytes).items (blocks_within turns m at bytes).end
unfolding blocks_within
within_are zero m at bytes h few = absurd (omega arith)
within_are (suc turns) m at bytes h few =
    from_front m at bytes (blocks_within turns m (next_position at bytes) (drop (12 + size_field bytes) bytes)) h
    (λ some. within_are turns m (next_position at bytes) (drop (12 + size_field bytes) bytes) (AreBytes-drop (12 + size_field bytes) bytes h) (shorter turns (size_field bytes) bytes some few))
    (front m at bytes) refl

are_within : (turns m : ℕ) (at : Position) (bytes : List ℕ) (ws : List Whole) (end : End) → AreBytes bytes → length bytes < turns
    → AreBlocksFrom m at bytes ws end → blocks_within turns m at bytes ≡ record { items = ws; end = end }
unfolding blocks_within
are_within zero m at bytes ws end h few are = absurd (omega arith)
are_within (suc turns) m at bytes [] end h few are =
    ap (λ f. after_front f (blocks_within turns m (next_position at bytes) (drop (12 + size_field bytes) bytes))) (ends_front m at bytes end h are)
are_within (suc turns) m at bytes (w ∷ ws) end h few are =
    ap (λ f. after_front f (blocks_within turns m (next_position at bytes) (drop (12 + size_field bytes) bytes))) (block_front m at bytes w are.0)
    ∙ ap (λ (r : Blocks). after_front (Finds w) r)
    (are_within turns m (next_position at bytes) (drop (12 + size_field bytes) bytes) ws end (AreBytes-drop (12 + size_field bytes) bytes h)
    (shorter turns (size_field bytes) bytes are.0.some_left few) are.1)

few_left : (bytes : List ℕ) → length bytes < suc (length bytes)
few_left bytes = omega arith

header_are : (bytes : List ℕ) → AreBytes bytes → (o : Option Fault)
    → MatchOption o
    (AreBlocksFrom (minor_of bytes) (first_position bytes) (drop (header_length bytes) bytes) (after_header o bytes).items (after_header o bytes).end)
    (λ f. ((after_header o bytes).items ≡ []) × ((after_header o bytes).end ≡ bad f 0 0))
unfolding blocks_from
header_are bytes h None = within_are (suc (length (drop (header_length bytes) bytes))) (minor_of bytes) (first_position bytes) (drop (header_length bytes) bytes) (AreBytes-drop (header_length bytes) bytes h) (few_left (drop (header_length bytes) bytes))
header_are bytes h (Some f) = (refl, refl)

are_header : (bytes : List ℕ) (ws : List Whole) (end : End) → AreBytes bytes → (o : Option Fault)
    → MatchOption o (AreBlocksFrom (minor_of bytes) (first_position bytes) (drop (header_length bytes) bytes) ws end) (λ f. (ws ≡ []) × (end ≡ bad f 0 0))
    → after_header o bytes ≡ record { items = ws; end = end }
unfolding blocks_from
are_header bytes ws end h None are = are_within (suc (length (drop (header_length bytes) bytes))) (minor_of bytes) (first_position bytes) (drop (header_length bytes) bytes) ws end (AreBytes-drop (header_length bytes) bytes h) (few_left (drop (header_length bytes) bytes)) are
are_header bytes ws end h (Some f) are =
    ap (λ (xs : List Whole). record { items = xs; end = bad f 0 0 }) (sym are.0) ∙ ap (λ (e : End). record { items = ws; end = e }) (sym are.1)

pub blocks_are_computed : BlocksAreComputed
unfolding blocks_of
blocks_are_computed bytes h = (header_are bytes h (header_fault bytes), λ ws end are. are_header bytes ws end h (header_fault bytes) are)

-- more turns than there are bytes are as good as any
enough : (t u m : ℕ) (at : Position) (bytes : List ℕ) → length bytes < t → length bytes < u → blocks_within t m at bytes ≡ blocks_within u m at bytes
unfolding blocks_within front
enough zero u m at bytes h k = absurd (omega arith)
enough (suc t) zero m at bytes h k = absurd (omega arith)
enough (suc t) (suc u) m at [] h k = refl
enough (suc t) (suc u) m at (b ∷ bytes) h k =
    let n = size_field (b ∷ bytes) in
    let rest = drop (12 + n) (b ∷ bytes) in
    ap (λ (r : Blocks). after_front (front m at (b ∷ bytes)) r)
    (enough t u m (next_position at (b ∷ bytes)) rest (shorter t n (b ∷ bytes) (λ is. cc) h) (shorter u n (b ∷ bytes) (λ is. cc) k))

pub blocks_go_on : BlocksGoOn
unfolding blocks_from blocks_within front
blocks_go_on m at [] = refl
blocks_go_on m at (b ∷ bytes) =
    let n = size_field (b ∷ bytes) in
    let rest = drop (12 + n) (b ∷ bytes) in
    ap (λ (r : Blocks). after_front (front m at (b ∷ bytes)) r)
    (enough (length (b ∷ bytes)) (suc (length rest)) m (next_position at (b ∷ bytes)) rest (shorter (length (b ∷ bytes)) n (b ∷ bytes) (λ is. cc) (omega arith)) (omega arith))
