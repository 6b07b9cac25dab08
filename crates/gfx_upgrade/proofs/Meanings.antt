-- A file in version 2 has the history of the file, and the same first bad block.
use Rattle.std.proofs.Common.{◌≡◌, ℕ, ◌+◌, List, [], ◌∷◌, map, drop, Option, Some, None, refl, sym, ap, subst, ◌∙◌}
use Rattle.std.specs.Prelude.{if◌then◌else◌, is_none}
use Rattle.gfx_types.specs.declared.names.Fault.{Fault}
use Rattle.gfx_model.specs.Events.{Event}
use Rattle.gfx_model.specs.Frames.{frames}
use Rattle.gfx_model.specs.Blocks.{End, Position, Whole, clean, bad, first_position, header_fault, header_length, minor_of, next_position}
use Rattle.gfx_model.specs.Meaning.{Judged, content_fault, content_onto, judge, judged}
use Rattle.gfx_model.specs.Spelling.{header}
use Rattle.gfx_grammar.specs.Reads.{AreBytes}
use Rattle.gfx_grammar.specs.Framing.{Splits, placed}
use Rattle.gfx_grammar.specs.Splitting.{Blocks, block_at, blocks_of}
use Rattle.gfx_grammar.proofs.BlockLaws.{blocks_are_computed}
use Rattle.gfx_grammar.proofs.HeaderLaws.{blocks_of-bad, blocks_of-good}
use Rattle.gfx_grammar.proofs.SplitLaws.{splits_in_one_way}
use Rattle.gfx_player.specs.Meanings.{judged_of}
use Rattle.gfx_upgrade.specs.Laws.{IsSameEnd, SaysTheSame, UpgradedSaysTheSame, upgraded_part}
use Rattle.gfx_upgrade.specs.Upgraded.{upgraded_block, upgraded_by}
use Rattle.gfx_upgrade.proofs.UpgradedLaws.{same_contents, upgraded_is_read}

-- the same history, and the same end but for its place
abbrev JudgedAlike : Judged → Judged → Type 0
JudgedAlike a b = (b.history ≡ a.history) × IsSameEnd a.end b.end

-- blocks that say the same and have the same numbers are judged alike
judged_alike : (m : ℕ) (at other : Position) (bytes : List ℕ) (ws : List Whole) (end : End) (h : List Event) → other.number ≡ at.number → Splits m at bytes ws end
    → JudgedAlike (judge h ws clean) (judge h (placed other (map upgraded_part ws)) clean)
unfolding judge
judged_alike m at other bytes [] end h n s = (refl, tt)
judged_alike m at other bytes (w ∷ ws) end h n s =
    let (rest, parts, here, block, room, more) = s in
    by (content_fault h w.content) (ap (λ (x : Whole). x.number) here ∙ sym n)
    (judged_alike m (next_position at w.bytes) (next_position other (upgraded_block w w.content)) rest ws end (content_onto w.content h) (ap (λ k. k + 1) n) more)
  where
    by : (o : Option Fault) → w.number ≡ other.number
        → JudgedAlike (judge (content_onto w.content h) ws clean) (judge (content_onto w.content h) (placed (next_position other (upgraded_block w w.content)) (map upgraded_part ws)) clean)
        → JudgedAlike (judged h w o (judge (content_onto w.content h) ws clean))
        (judged h (block_at other (upgraded_block w w.content) w.content) o (judge (content_onto w.content h) (placed (next_position other (upgraded_block w w.content)) (map upgraded_part ws)) clean))
    by (Some f) number later = (refl, (refl, number))
    by None number later = later

-- behind a good header
says_the_same : (bytes : List ℕ) → AreBytes bytes → (blocks_of bytes).end ≡ clean → header_fault bytes ≡ None → SaysTheSame bytes (upgraded_by (blocks_of bytes).items)
says_the_same bytes fit ends good =
    let ws = (blocks_of bytes).items in
    let rest = drop (header_length bytes) bytes in
    let read = upgraded_is_read bytes fit in
    let splits : Splits (minor_of bytes) (first_position bytes) rest ws (blocks_of bytes).end =
    subst (λ (b : Blocks). Splits (minor_of bytes) (first_position bytes) rest b.items b.end) (sym (blocks_of-good bytes good)) (splits_in_one_way (minor_of bytes) (first_position bytes) rest).0 in
    let alike : JudgedAlike (judge [] ws clean) (judge [] (placed (first_position (header 2)) (map upgraded_part ws)) clean) =
    judged_alike (minor_of bytes) (first_position bytes) (first_position (header 2)) rest ws (blocks_of bytes).end [] refl splits in
    let both : JudgedAlike (judged_of (blocks_of bytes)) (judged_of (blocks_of (upgraded_by ws))) =
    subst (λ (a : Judged). JudgedAlike a (judged_of (blocks_of (upgraded_by ws)))) (sym (ap (judge [] ws) ends))
    (subst (JudgedAlike (judge [] ws clean)) (sym (ap judged_of read)) alike) in
    record {
      is = record { blocks = ws; end = (blocks_of bytes).end; are = (blocks_are_computed bytes fit).0; same = refl };
      clean_end = ap (λ (b : Blocks). b.end) read;
      says = same_contents bytes fit;
      history = both.0;
      shows = ap frames both.0;
      ends = both.1;
    }

pub upgraded_says_the_same : UpgradedSaysTheSame
upgraded_says_the_same bytes fit ends = by (header_fault bytes) refl
  where
    by : (o : Option Fault) → header_fault bytes ≡ o → SaysTheSame bytes (if is_none o then upgraded_by (blocks_of bytes).items else [])
    by (Some f) is = absurd (let e : bad f 0 0 ≡ clean = sym (ap (λ (b : Blocks). b.end) (blocks_of-bad bytes f is)) ∙ ends in cc)
    by None is = says_the_same bytes fit ends is
