-- What follows frame `last` in a file does not matter, for its frames up to it and for the trimmed file of a range up to it.
use Rattle.std.proofs.Common.{◌≡◌, ℕ, ◌+◌, ◌*◌, ◌<◌, false, refl, sym, ◌∙◌, ap, subst, List, [], ◌∷◌, ◌++◌, length, take, drop, if◌then◌else◌, None, arith, append_assoc, take-append-drop}
use Rattle.std.proofs.lemmas.List.{length-take-le}
use Rattle.gfx_types.specs.declared.frame.Frame.{Frame}
use Rattle.gfx_model.specs.Blocks.{Position, Whole, End, AreBlocks, header_fault, header_length, option_count, options_fault, minor_of, first_position, next_position}
use Rattle.gfx_model.specs.Blocks.End.{clean}
use Rattle.gfx_model.specs.Frames.{frames}
use Rattle.gfx_model.specs.Meaning.{Judged, events_onto, RangeEnd, judge, frames_to, has_frame}
use Rattle.gfx_model.specs.Trimmed.{boundary, trimmed_by}
use Rattle.gfx_model.proofs.Following.{what_follows}
use Rattle.gfx_grammar.specs.Reads.{AreBytes}
use Rattle.gfx_grammar.proofs.NumberLaws.{all_bytes}
use Rattle.gfx_grammar.specs.Splitting.{Blocks, blocks_from, blocks_of, with_item, block_at}
use Rattle.gfx_grammar.specs.Framing.{IsHeader, Splits, start_fault, with_items}
use Rattle.gfx_grammar.proofs.HeaderLaws.{minor_of-append, option_count-append, start_fault-append, options_fault-append, header_good, blocks_of-header}
use Rattle.gfx_grammar.proofs.BlockLaws.{blocks_are_computed}
use Rattle.gfx_grammar.proofs.AloneLaws.{blocks_from-append}
use Rattle.gfx_model.proofs.Lists.{all_append}
use Rattle.gfx_trim_law.specs.Law.{RestLeavesFrames, RestLeavesTrimmed}
use Rattle.gfx_grammar.proofs.ByteLaws.{are_bytes}
use Rattle.gfx_trim_law.proofs.Prefix.{judge-valid}
use Rattle.gfx_trim_law.proofs.Files.{IsFile, computed, Shows, shows}
use Rattle.gfx_trim_law.proofs.Keeps.{trimmed_good}

-- ---- more bytes behind a file

pub both_bytes : (bytes rest : List ℕ) → AreBytes bytes → AreBytes rest → AreBytes (bytes ++ rest)
both_bytes bytes rest fit others = are_bytes (bytes ++ rest) (all_append (λ b. b < 256) bytes rest (all_bytes bytes fit) (all_bytes rest others))

-- the header by itself
record HasHeader (bytes : List ℕ) : Type 0 where
  header : IsHeader (take (header_length bytes) bytes)
  minor : minor_of (take (header_length bytes) bytes) ≡ minor_of bytes
  long : header_length (take (header_length bytes) bytes) ≡ header_length bytes

has_header : (bytes : List ℕ) → header_fault bytes ≡ None → HasHeader bytes
has_header bytes good =
    let n = header_length bytes in
    let head = take n bytes in
    let body = drop n bytes in
    let parts : head ++ body ≡ bytes = take-append-drop n bytes in
    let g = header_good bytes good in
    let there : length head ≡ n = length-take-le n bytes g.2 in
    let count : option_count head ≡ option_count bytes = sym (option_count-append head body (omega (arith, there))) ∙ ap option_count parts in
    let long : header_length head ≡ n = ap (λ k. 16 + 8 * k) count in
    record {
      header = record {
        there = omega (arith, there);
        start = sym (start_fault-append head body (omega (arith, there))) ∙ ap start_fault parts ∙ g.1;
        long = there ∙ sym long;
        options = sym (options_fault-append (option_count head) 16 0 head body (omega (arith, there, count)))
            ∙ ap (λ (xs : List ℕ). options_fault xs 16 0 (option_count head)) parts ∙ ap (options_fault bytes 16 0) count ∙ g.3;
      };
      minor = sym (minor_of-append head body (omega (arith, there))) ∙ ap minor_of parts;
      long = long;
    }

-- whole blocks, and then the blocks of what follows them
record More (bytes : List ℕ) (ws : List Whole) (found : Blocks) : Type 0 where
  others : Blocks
  is : found ≡ with_items ws others

splits_more : (m : ℕ) (at : Position) (bytes rest : List ℕ) (ws : List Whole) (end : End) → Splits m at bytes ws end → More bytes ws (blocks_from m at (bytes ++ rest))
splits_more m at bytes rest [] end is = record { others = blocks_from m at (bytes ++ rest); is = refl }
splits_more m at bytes rest (w ∷ ws) end is =
    let (behind, parts, here, block, room, splits) = is in
    let next = next_position at w.bytes in
    let later = splits_more m next behind rest ws end splits in
    record {
      others = later.others;
      is = ap (λ (xs : List ℕ). blocks_from m at (xs ++ rest)) parts ∙ ap (blocks_from m at) (append_assoc w.bytes behind rest)
          ∙ blocks_from-append m at w.bytes (behind ++ rest) w.content block room
          ∙ ap (with_item (block_at at w.bytes w.content)) later.is ∙ ap (λ (z : Whole). with_item z (with_items ws later.others)) (sym here);
    }

file_more : (bytes rest : List ℕ) (ws : List Whole) (end : End) → IsFile bytes ws end → More bytes ws (blocks_of (bytes ++ rest))
file_more bytes rest ws end file =
    let n = header_length bytes in
    let head = take n bytes in
    let body = drop n bytes in
    let h = has_header bytes file.good in
    let later = splits_more (minor_of bytes) (first_position bytes) body rest ws end file.splits in
    record {
      others = later.others;
      is = ap (λ (xs : List ℕ). blocks_of (xs ++ rest)) (sym (take-append-drop n bytes)) ∙ ap blocks_of (append_assoc head body rest)
          ∙ blocks_of-header head (body ++ rest) h.header
          ∙ ap (λ m. blocks_from m (first_position head) (body ++ rest)) h.minor
          ∙ ap (λ k. blocks_from (minor_of bytes) (record { number = 1; offset = k; in_section = false; inside = 0; outside = 0 }) (body ++ rest)) h.long
          ∙ later.is;
    }

-- ---- the laws

-- the blocks of the longer file, which begin with those without a fault of the shorter
pub record Longer (last : ℕ) (bytes rest : List ℕ) (shown : List Frame) (s : Shows last bytes shown) : Type 0 where
  pub others : List Whole
  pub end : End
  pub are : AreBlocks (bytes ++ rest) ((s.valid).good ++ others) end

pub longer : (last : ℕ) (bytes rest : List ℕ) (shown : List Frame) (s : Shows last bytes shown) → AreBytes (bytes ++ rest) → Longer last bytes rest shown s
longer last bytes rest shown s fit =
    let more = file_more bytes rest s.blocks s.end s.file in
    let good = (s.valid).good in
    let items : (blocks_of (bytes ++ rest)).items ≡ good ++ ((s.valid).others ++ (more.others).items) =
    ap (λ (b : Blocks). b.items) more.is ∙ ap (λ (ws : List Whole). ws ++ (more.others).items) (sym (s.valid).parts) ∙ append_assoc good (s.valid).others (more.others).items in
    record {
      others = (s.valid).others ++ (more.others).items;
      end = (blocks_of (bytes ++ rest)).end;
      are = subst (λ (ws : List Whole). AreBlocks (bytes ++ rest) ws (blocks_of (bytes ++ rest)).end) items (blocks_are_computed (bytes ++ rest) fit).0;
    }

pub rest_leaves_frames : RestLeavesFrames
rest_leaves_frames last bytes rest shown fit others m =
    let s = shows last bytes shown fit m in
    let good = (s.valid).good in
    let l = longer last bytes rest shown s (both_bytes bytes rest fit others) in
    let blocks = good ++ l.others in
    let whole : judge [] good clean ≡ record { history = events_onto good []; end = clean } = judge-valid good [] clean (s.valid).valid in
    let f = what_follows good l.others l.end last (ap (λ (j : Judged). j.end) whole) (ap (λ (j : Judged). has_frame last (frames j.history)) whole ∙ s.last_is) in
    record {
      all = frames (judge [] blocks l.end).history;
      file_end = (judge [] blocks l.end).end;
      means = record { blocks = blocks; blocks_end = l.end; are = l.are; shows = refl; ends = refl };
      shows = s.shown_is ∙ sym (f.0 ∙ ap (λ (j : Judged). frames_to last (frames j.history)) whole);
      ends = sym (ap (λ b. if b then RangeEnd.whole else RangeEnd.ended (judge [] blocks l.end).end) f.1);
    }

pub rest_leaves_trimmed : RestLeavesTrimmed
rest_leaves_trimmed first last bytes rest taken shown r others t =
    let s = shows last bytes shown r.bytes_fit r.means in
    let good = (s.valid).good in
    let l = longer last bytes rest shown s (both_bytes bytes rest r.bytes_fit others) in
    let same_blocks : t.blocks ≡ good ++ (s.valid).others =
    ap (λ (b : Blocks). b.items) (sym (computed bytes t.blocks t.end r.bytes_fit t.are) ∙ computed bytes s.blocks s.end r.bytes_fit s.are) ∙ sym (s.valid).parts in
    let minor : minor_of (bytes ++ rest) ≡ minor_of bytes = minor_of-append bytes rest (header_good bytes (s.file).good).0 in
    record {
      blocks = good ++ l.others;
      end = l.end;
      are = l.are;
      same = t.same ∙ ap (λ (ws : List Whole). trimmed_by (minor_of bytes) first last (boundary first ws)) same_blocks
          ∙ trimmed_good first last bytes shown r s (s.valid).others
          ∙ sym (trimmed_good first last bytes shown r s l.others)
          ∙ ap (λ k. trimmed_by k first last (boundary first (good ++ l.others))) (sym minor);
    }
