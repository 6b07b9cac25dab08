-- A file that shows a frame: its header is good, and its blocks are by themselves.
use Rattle.std.proofs.Common.{◌≡◌, ℕ, ◌⊎◌, ◌==◌, ◌||◌, cond, Bool, true, false, refl, sym, ◌∙◌, ap, subst, List, [], ◌∷◌, map, filter, drop, if◌then◌else◌, Option, Some, None}
use Rattle.std.specs.List.{AllByRecursion}
use Rattle.std.proofs.lemmas.Bool.{or_right}
use Rattle.gfx_types.specs.declared.names.Fault.{Fault}
use Rattle.gfx_types.specs.declared.frame.Frame.{Frame}
use Rattle.gfx_model.specs.Blocks.{Whole, End, AreBlocks, header_fault, header_length, minor_of, first_position}
use Rattle.gfx_model.specs.Blocks.End.{bad}
use Rattle.gfx_model.specs.Frames.{frames}
use Rattle.gfx_model.specs.Meaning.{MeansUpTo, RangeEnd, events_onto, judge, frames_to, has_frame}
use Rattle.gfx_grammar.specs.Reads.{AreBytes}
use Rattle.gfx_grammar.proofs.NumberLaws.{AreBytes-drop}
use Rattle.gfx_grammar.specs.Splitting.{Blocks, blocks_from, blocks_of, only_end}
use Rattle.gfx_grammar.specs.Framing.{HaveRoom, Splits, part_of}
use Rattle.gfx_grammar.proofs.BlockLaws.{blocks_are_computed}
use Rattle.gfx_grammar.proofs.SplitLaws.{splits_in_one_way}
use Rattle.gfx_grammar.proofs.HeaderLaws.{header_good, start_minor, blocks_of-good, blocks_of-bad}
use Rattle.gfx_trim_law.proofs.Prefix.{Prefix, prefix}
use Rattle.gfx_trim_law.proofs.Standing.{IsStanding, splits-standing}

-- the blocks of a file with a good header
pub record IsFile (bytes : List ℕ) (ws : List Whole) (end : End) : Type 0 where
  pub good : header_fault bytes ≡ None
  pub splits : Splits (minor_of bytes) (first_position bytes) (drop (header_length bytes) bytes) ws end
  pub version : (minor_of bytes ≡ 1) ⊎ (minor_of bytes ≡ 2)
  pub standing : AllByRecursion (IsStanding (minor_of bytes)) ws
  pub room : HaveRoom (first_position bytes) (map part_of ws)

pub computed : (bytes : List ℕ) (ws : List Whole) (end : End) → AreBytes bytes → AreBlocks bytes ws end → blocks_of bytes ≡ record { items = ws; end = end }
computed bytes ws end fit are = (blocks_are_computed bytes fit).1 ws end are

some_block : (ws : List Whole) (end : End) (n : ℕ) (f : Fault) → record { items = ws; end = end } ≡ only_end (bad f 0 0) → has_frame n (frames (judge [] ws end).history) ≡ true → ⊥
unfolding judge frames
some_block [] end n f is shown = absurd cc
some_block (w ∷ ws) end n f is shown = let none : w ∷ ws ≡ [] = ap (λ (b : Blocks). b.items) is in absurd cc

pub file_of_blocks : (bytes : List ℕ) (ws : List Whole) (end : End) (n : ℕ) → AreBytes bytes → AreBlocks bytes ws end →
    has_frame n (frames (judge [] ws end).history) ≡ true → IsFile bytes ws end
file_of_blocks bytes ws end n fit are shown = by (header_fault bytes) refl
  where
    by : (o : Option Fault) → header_fault bytes ≡ o → IsFile bytes ws end
    by (Some f) is = absurd (some_block ws end n f (sym (computed bytes ws end fit are) ∙ blocks_of-bad bytes f is) shown)
    by None is =
        let m = minor_of bytes in
        let at = first_position bytes in
        let body = drop (header_length bytes) bytes in
        let same : blocks_from m at body ≡ record { items = ws; end = end } = sym (blocks_of-good bytes is) ∙ computed bytes ws end fit are in
        let splits = subst (λ (b : Blocks). Splits m at body b.items b.end) same (splits_in_one_way m at body).0 in
        let all = splits-standing m at body ws end (AreBytes-drop (header_length bytes) bytes fit) splits in
        record { good = is; splits = splits; version = start_minor bytes (header_good bytes is).1; standing = all.0; room = all.1 }

-- ---- frames up to a last one

-- a frame that is kept was there
pub kept_frame : (t : Frame → Bool) (n : ℕ) (fs : List Frame) → has_frame n (filter t fs) ≡ true → has_frame n fs ≡ true
kept_frame t n [] has = has
kept_frame t n (f ∷ fs) has = by (t f) has (kept_frame t n fs)
  where
    or_along : (c x y : Bool) → (x ≡ true → y ≡ true) → (c || x) ≡ true → (c || y) ≡ true
    or_along true x y along e = refl
    or_along false x y along e = along e

    by : (b : Bool) → has_frame n (cond b (f ∷ filter t fs) (filter t fs)) ≡ true → (has_frame n (filter t fs) ≡ true → has_frame n fs ≡ true) →
        ((f.number == n) || has_frame n fs) ≡ true
    by true has later = or_along (f.number == n) (has_frame n (filter t fs)) (has_frame n fs) later has
    by false has later = or_right (f.number == n) (has_frame n fs) (later has)

-- the frames up to `last` are whole where it is there
pub last_there : (last : ℕ) (all : List Frame) (end : End) → RangeEnd.whole ≡ (if has_frame last all then RangeEnd.whole else RangeEnd.ended end) → has_frame last all ≡ true
last_there last all end is = by (has_frame last all) is
  where
    by : (b : Bool) → RangeEnd.whole ≡ cond b RangeEnd.whole (RangeEnd.ended end) → b ≡ true
    by true is = refl
    by false is = absurd cc

-- ---- its valid prefix

-- a file that shows frame `last` with these frames up to it, by the blocks before the first with a fault
pub record Shows (last : ℕ) (bytes : List ℕ) (shown : List Frame) : Type 0 where
  pub blocks : List Whole
  pub end : End
  pub are : AreBlocks bytes blocks end
  pub file : IsFile bytes blocks end
  pub valid : Prefix [] blocks end
  pub last_is : has_frame last (frames (events_onto valid.good [])) ≡ true
  pub shown_is : shown ≡ frames_to last (frames (events_onto valid.good []))

pub shows : (last : ℕ) (bytes : List ℕ) (shown : List Frame) → AreBytes bytes → MeansUpTo last bytes shown RangeEnd.whole → Shows last bytes shown
shows last bytes shown fit m =
    let blocks = (m.means).blocks in
    let end = (m.means).blocks_end in
    let p = prefix blocks [] end refl in
    let all : m.all ≡ frames (events_onto p.good []) = (m.means).shows ∙ ap frames p.history in
    let has = last_there last m.all m.file_end m.ends in
    record {
      blocks = blocks;
      end = end;
      are = (m.means).are;
      file = file_of_blocks bytes blocks end last fit (m.means).are (ap (λ (fs : List Frame). has_frame last fs) (sym (m.means).shows) ∙ has);
      valid = p;
      last_is = ap (λ (fs : List Frame). has_frame last fs) (sym all) ∙ has;
      shown_is = m.shows ∙ ap (λ (fs : List Frame). frames_to last fs) all;
    }
