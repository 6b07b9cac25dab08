-- A block is one by itself: what follows it does not matter for it, and where it stands matters by the counts alone.
use Rattle.std.proofs.Common.{◌≡◌, ℕ, ◌+◌, ◌^◌, ◌<◌, ◌≤◌, List, [], ◌∷◌, ◌++◌, length, take, drop, refl, sym, ap, subst, ◌∙◌, arith, append_assoc, take-append-drop, length-append}
use Rattle.std.specs.Prelude.{flat_map}
use Rattle.std.specs.List.{AllByRecursion}
use Rattle.std.proofs.lemmas.List.{take_at, drop_at, length-take-le}
use Rattle.gfx_model.specs.Blocks.{Position, size_field, type_field, payload_field, side_count, next_position, Content, Whole}
use Rattle.gfx_grammar.specs.Rows.{read_content}
use Rattle.gfx_grammar.specs.Splitting.{Front, Finds, block_at, front, with_item, after_front, blocks_from}
use Rattle.gfx_grammar.specs.Framing.{IsWhole, IsBlock, IsFound, Part, placed, place_after, HaveRoom, with_items}
use Rattle.gfx_grammar.proofs.FramingLaws.{size_field-append, type_field-append, head_fault-append, payload_field-append, side_count-append, next_position-append}
use Rattle.gfx_grammar.proofs.FrontLaws.{whole-front, front-whole}
use Rattle.gfx_grammar.proofs.BlockLaws.{blocks_go_on}

-- ---- a block is at the start of whatever it begins

pub block-front : (m : ℕ) (at : Position) (bytes rest : List ℕ) (c : Content) → IsBlock m bytes c → side_count at bytes < 2 ^ 32
    → front m at (bytes ++ rest) ≡ Finds (block_at at bytes c)
block-front m at bytes rest c h room =
    let all = bytes ++ rest in
    let there : 12 ≤ length bytes = omega (arith, h.long) in
    let size : size_field all ≡ size_field bytes = size_field-append bytes rest there in
    let kind : type_field all ≡ type_field bytes = type_field-append bytes rest there in
    let load : payload_field all ≡ payload_field bytes = payload_field-append bytes rest (omega (arith, h.long)) in
    front-whole m at all (block_at at bytes c) (record {
      there = omega (arith, there, length-append bytes rest);
      head = head_fault-append bytes rest there ∙ h.head;
      counted = rw (side_count-append at bytes rest (omega (arith, h.long))) room;
      payload_there = omega (arith, size, h.long, length-append bytes rest);
      payload = ap (λ k. read_content m k (payload_field all)) kind ∙ ap (read_content m (type_field bytes)) load ∙ h.payload;
      same = ap (λ (xs : List ℕ). block_at at xs c) (sym (take_at bytes rest (12 + size_field all) (omega (arith, size, h.long))));
    })

found : (m : ℕ) (at : Position) (one rest : List ℕ) (w : Whole) → IsWhole m at (one ++ rest) w → length one ≡ 12 + size_field (one ++ rest) → IsFound m at (one ++ rest) w
found m at one rest w h long =
    let all = one ++ rest in
    let there : 12 ≤ length one = omega (arith, long) in
    let size : size_field all ≡ size_field one = size_field-append one rest there in
    let own : length one ≡ 12 + size_field one = omega (arith, size, long) in
    let kind : type_field all ≡ type_field one = type_field-append one rest there in
    let load : payload_field all ≡ payload_field one = payload_field-append one rest (omega (arith, own)) in
    let same : w ≡ block_at at one w.content =
    h.same ∙ ap (λ (xs : List ℕ). block_at at xs w.content) (take_at one rest (12 + size_field all) long) in
    let is : IsFound m at all (block_at at one w.content) = record {
      block = record {
        long = own;
        head = sym (head_fault-append one rest there) ∙ h.head;
        payload = ap (read_content m (type_field one)) (sym load) ∙ ap (λ k. read_content m k (payload_field all)) (sym kind) ∙ h.payload;
      };
      counted = rw (side_count-append at one rest (omega (arith, own))) at h.counted;
      parts = ap (λ (xs : List ℕ). one ++ xs) (sym (drop_at one rest (length one) refl));
      here = refl;
      long = long;
      next = next_position-append at one rest (omega (arith, own));
    } in
    subst (λ (z : Whole). IsFound m at all z) (sym same) is

pub front-found : (m : ℕ) (at : Position) (bytes : List ℕ) (w : Whole) → front m at bytes ≡ Finds w → IsFound m at bytes w
front-found m at bytes w is =
    let h = whole-front m at bytes w is in
    let n = 12 + size_field bytes in
    let parts : take n bytes ++ drop n bytes ≡ bytes = take-append-drop n bytes in
    subst (λ (xs : List ℕ). IsFound m at xs w) parts
    (found m at (take n bytes) (drop n bytes) w (subst (λ (xs : List ℕ). IsWhole m at xs w) (sym parts) h)
    (length-take-le n bytes h.payload_there ∙ ap (λ (xs : List ℕ). 12 + size_field xs) (sym parts)))

-- and whatever follows it
pub front-append : (m : ℕ) (at : Position) (bytes rest : List ℕ) (w : Whole) → front m at bytes ≡ Finds w → front m at (w.bytes ++ rest) ≡ Finds w
front-append m at bytes rest w is =
    let h = front-found m at bytes w is in
    block-front m at w.bytes rest w.content h.block h.counted ∙ ap Finds (sym h.here)

-- ---- all blocks

-- the blocks are what is at the start, and then the blocks of what follows it
pub blocks_from-as : (m : ℕ) (at : Position) (bytes : List ℕ) (f : Front) → front m at bytes ≡ f
    → blocks_from m at bytes ≡ after_front f (blocks_from m (next_position at bytes) (drop (12 + size_field bytes) bytes))
blocks_from-as m at bytes f is =
    blocks_go_on m at bytes ∙ ap (λ (g : Front). after_front g (blocks_from m (next_position at bytes) (drop (12 + size_field bytes) bytes))) is

-- a block before them is the first
pub blocks_from-append : (m : ℕ) (at : Position) (bytes rest : List ℕ) (c : Content) → IsBlock m bytes c → side_count at bytes < 2 ^ 32
    → blocks_from m at (bytes ++ rest) ≡ with_item (block_at at bytes c) (blocks_from m (next_position at bytes) rest)
blocks_from-append m at bytes rest c h room =
    let all = bytes ++ rest in
    let size : size_field all ≡ size_field bytes = size_field-append bytes rest (omega (arith, h.long)) in
    blocks_from-as m at all (Finds (block_at at bytes c)) (block-front m at bytes rest c h room)
    ∙ ap (λ (p : Position). with_item (block_at at bytes c) (blocks_from m p (drop (12 + size_field all) all))) (next_position-append at bytes rest (omega (arith, h.long)))
    ∙ ap (λ (xs : List ℕ). with_item (block_at at bytes c) (blocks_from m (next_position at bytes) xs)) (drop_at bytes rest (12 + size_field all) (omega (arith, size, h.long)))

-- parts that are blocks are the blocks of what they make together, while the sides have room
pub blocks_from-parts : (m : ℕ) (at : Position) (ps : List Part) (rest : List ℕ) → AllByRecursion (λ p. IsBlock m p.bytes p.content) ps → HaveRoom at ps
    → blocks_from m at (flat_map (λ p. p.bytes) ps ++ rest) ≡ with_items (placed at ps) (blocks_from m (place_after at ps) rest)
blocks_from-parts m at [] rest are room = refl
blocks_from-parts m at (p ∷ ps) rest are room =
    ap (blocks_from m at) (append_assoc p.bytes (flat_map (λ p. p.bytes) ps) rest)
    ∙ blocks_from-append m at p.bytes (flat_map (λ p. p.bytes) ps ++ rest) p.content are.0 room.0
    ∙ ap (with_item (block_at at p.bytes p.content)) (blocks_from-parts m (next_position at p.bytes) ps rest are.1 room.1)
