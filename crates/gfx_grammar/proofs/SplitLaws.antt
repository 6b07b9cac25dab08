-- All bytes split into whole blocks and an end in one way, and this is what is computed.
use Rattle.std.proofs.Common.{◌≡◌, ℕ, zero, suc, ◌+◌, ◌<◌, List, [], ◌∷◌, length, drop, refl, sym, ap, subst, ◌∙◌, arith, length-drop}
use Rattle.gfx_model.specs.Blocks.{Position, size_field, next_position, Whole, End}
use Rattle.gfx_grammar.specs.Splitting.{Front, Stops, Finds, front, Blocks, with_item, after_front, blocks_from}
use Rattle.gfx_grammar.specs.Framing.{Splits}
use Rattle.gfx_grammar.specs.Laws.{SplitsInOneWay}
use Rattle.gfx_grammar.proofs.BlockLaws.{blocks_go_on}
use Rattle.gfx_grammar.proofs.FrontLaws.{whole-front}
use Rattle.gfx_grammar.proofs.AloneLaws.{front-found, blocks_from-as, blocks_from-append}

-- what splits so is what is computed
pub splits-only : (m : ℕ) (at : Position) (bytes : List ℕ) (ws : List Whole) (end : End) → Splits m at bytes ws end → blocks_from m at bytes ≡ record { items = ws; end = end }
splits-only m at bytes [] end is = blocks_from-as m at bytes (Stops end) is
splits-only m at bytes (w ∷ ws) end is =
    let (rest, parts, here, block, room, more) = is in
    ap (blocks_from m at) parts
    ∙ blocks_from-append m at w.bytes rest w.content block room
    ∙ ap (λ (z : Whole). with_item z (blocks_from m (next_position at w.bytes) rest)) (sym here)
    ∙ ap (with_item w) (splits-only m (next_position at w.bytes) rest ws end more)

-- what is computed splits so
splits-front : (m : ℕ) (at : Position) (bytes : List ℕ) (rest : Blocks) (f : Front) → front m at bytes ≡ f
    → ((w : Whole) → f ≡ Finds w → Splits m (next_position at bytes) (drop (12 + size_field bytes) bytes) rest.items rest.end)
    → Splits m at bytes (after_front f rest).items (after_front f rest).end
splits-front m at bytes rest (Stops e) is more = is
splits-front m at bytes rest (Finds w) is more =
    let h = front-found m at bytes w is in (
      drop (length w.bytes) bytes,
      h.parts,
      h.here,
      h.block,
      h.counted,
      subst (λ (p : Position). Splits m p (drop (length w.bytes) bytes) rest.items rest.end) h.next
          (subst (λ n. Splits m (next_position at bytes) (drop n bytes) rest.items rest.end) (sym h.long) (more w refl)),
    )

splits-within : (turns m : ℕ) (at : Position) (bytes : List ℕ) → length bytes < turns → Splits m at bytes (blocks_from m at bytes).items (blocks_from m at bytes).end
splits-within zero m at bytes few = absurd (omega arith)
splits-within (suc turns) m at bytes few =
    let next = next_position at bytes in
    let rest = drop (12 + size_field bytes) bytes in
    subst (λ (b : Blocks). Splits m at bytes b.items b.end) (sym (blocks_go_on m at bytes))
    (splits-front m at bytes (blocks_from m next rest) (front m at bytes) refl (λ w is.
    let h = whole-front m at bytes w is in
    splits-within turns m next rest (omega (arith, length-drop (12 + size_field bytes) bytes, h.there))))

pub splits_in_one_way : SplitsInOneWay
splits_in_one_way m at bytes =
    (splits-within (suc (length bytes)) m at bytes (omega arith), λ ws end is. splits-only m at bytes ws end is)
