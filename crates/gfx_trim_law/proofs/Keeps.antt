-- Trimming keeps the frames.
use Rattle.std.proofs.Common.{◌≡◌, ℕ, ◌+◌, ◌^◌, ◌≤◌, ◌⊎◌, inl, inr, false, refl, sym, ◌∙◌, ap, subst, List, [], ◌++◌, map, length, is_some, arith}
use Rattle.std.specs.List.{AllByRecursion}
use Rattle.gfx_types.specs.declared.frame.Frame.{Frame}
use Rattle.gfx_model.specs.Blocks.{Whole, Position, first_position, minor_of}
use Rattle.gfx_model.specs.Blocks.End.{clean}
use Rattle.gfx_model.specs.Events.{Event}
use Rattle.gfx_model.specs.History.{view}
use Rattle.gfx_model.specs.Frames.{frames}
use Rattle.gfx_model.specs.Meaning.{Means, events_onto, has_frame}
use Rattle.gfx_model.specs.Section.{section}
use Rattle.gfx_model.specs.Trimmed.{Cut, boundary, history_to, range_from, file_of, trimmed_by}
use Rattle.gfx_model.proofs.Cutting.{trimmed_follows}
use Rattle.gfx_grammar.specs.Framing.{part_of, place_after, HaveRoom}
use Rattle.gfx_grammar.specs.Splitting.{Blocks}
use Rattle.gfx_laws.specs.Laws.{frames_after}
use Rattle.gfx_laws.proofs.Lists.{all_before, all_behind}
use Rattle.gfx_trim_law.specs.Law.{frames_from, HasRange, TrimmingKeepsFrames}
use Rattle.gfx_trim_law.proofs.Clock.{at_start}
use Rattle.gfx_trim_law.proofs.Cuts.{events_in}
use Rattle.gfx_trim_law.proofs.Boundary.{boundary_there}
use Rattle.gfx_trim_law.proofs.Range.{IsRange, in_range}
use Rattle.gfx_trim_law.proofs.Standing.{IsStanding, room-before, room-behind, parts-append, spelled_onto, open_behind, few_outside}
use Rattle.gfx_trim_law.proofs.Reading.{none_begin, IsWritten, file_means}
use Rattle.gfx_trim_law.proofs.Files.{computed, kept_frame, Shows, shows}

-- few blocks follow a section
few : (n at : ℕ) → (n ≡ 0) ⊎ (at + n ≤ 2 ^ 32) → n ≤ 2 ^ 32
few n at (inl none) = omega (arith, none)
few n at (inr some) = omega (arith, some)

-- the range of a file can be written behind the section for what is before it
pub written : (m : ℕ) (at : Position) (first last : ℕ) (ws : List Whole) (c : Cut) → (m ≡ 1) ⊎ (m ≡ 2) → at.in_section ≡ false → AllByRecursion (IsStanding m) ws → HaveRoom at (map part_of ws) →
    IsRange first last ws c → IsWritten m (history_to c) (range_from last c)
written m at first last ws c version outside standing room is =
    let range = range_from last c in
    let parts = (is.start).parts in
    let all = subst (AllByRecursion (IsStanding m)) (sym parts) standing in
    let front_standing = all_before (IsStanding m) c.front c.rest all in
    let rest_standing = subst (AllByRecursion (IsStanding m)) (sym is.parts) (all_behind (IsStanding m) c.front c.rest all) in
    let range_standing = all_before (IsStanding m) range is.behind rest_standing in
    let front = map part_of c.front in
    let here = place_after at front in
    let rest_room : HaveRoom here (map part_of c.rest) =
    room-behind at front (map part_of c.rest) (subst (HaveRoom at) (ap (map part_of) (sym parts) ∙ parts-append c.front c.rest) room) in
    let range_room : HaveRoom here (map part_of range) =
    room-before here (map part_of range) (map part_of is.behind) (subst (HaveRoom here) (ap (map part_of) (sym is.parts) ∙ parts-append range is.behind) rest_room) in
    let closed : here.in_section ≡ false =
    sym (open_behind m c.front at [] front_standing (ap is_some at_start.1 ∙ sym outside)) ∙ ap is_some (is.start).closed in
    let unbegun = none_begin range is.markers in
    record {
      version = version;
      at = is.at;
      spelled = spelled_onto m c.front [] front_standing tt;
      behind = record {
        standing = range_standing;
        few = few (length range) here.outside (few_outside m range here range_standing unbegun closed range_room);
        unbegun = unbegun;
      };
    }

-- the range of a file that has it
pub file_range : (first last : ℕ) (bytes : List ℕ) (shown : List Frame) (r : HasRange first last bytes shown) (s : Shows last bytes shown) →
    IsRange first last (s.valid).good (boundary first (s.valid).good)
file_range first last bytes shown r s =
    let all = frames (events_onto (s.valid).good []) in
    in_range first last (s.valid).good (s.valid).valid r.ordered
    (kept_frame _ first all (ap (λ (fs : List Frame). has_frame first fs) (sym s.shown_is) ∙ r.first_there)) s.last_is

-- its trimmed file is that of the blocks without a fault
pub trimmed_good : (first last : ℕ) (bytes : List ℕ) (shown : List Frame) (r : HasRange first last bytes shown) (s : Shows last bytes shown) (others : List Whole) →
    trimmed_by (minor_of bytes) first last (boundary first ((s.valid).good ++ others)) ≡ trimmed_by (minor_of bytes) first last (boundary first (s.valid).good)
trimmed_good first last bytes shown r s others =
    let good = (s.valid).good in
    let all = frames (events_onto good []) in
    let is = file_range first last bytes shown r s in
    trimmed_follows (minor_of bytes) first last good others
    (boundary_there first good (s.valid).valid (kept_frame _ first all (ap (λ (fs : List Frame). has_frame first fs) (sym s.shown_is) ∙ r.first_there))) is.reached

pub trimming_keeps_frames : TrimmingKeepsFrames
trimming_keeps_frames first last bytes taken shown r t =
    let s = shows last bytes shown r.bytes_fit r.means in
    let good = (s.valid).good in
    let m = minor_of bytes in
    let is = file_range first last bytes shown r s in
    let c : Cut = boundary first good in
    let h : List Event = history_to c in
    let range = range_from last c in
    let standing = subst (AllByRecursion (IsStanding m)) (sym (s.valid).parts) (s.file).standing in
    let room = subst (HaveRoom (first_position bytes)) (ap (map part_of) (sym (s.valid).parts) ∙ parts-append good (s.valid).others) (s.file).room in
    let w = written m (first_position bytes) first last good c (s.file).version refl (all_before (IsStanding m) good (s.valid).others standing)
    (room-before (first_position bytes) (map part_of good) (map part_of (s.valid).others) room) is in
    let same_blocks : t.blocks ≡ good ++ (s.valid).others =
    ap (λ (b : Blocks). b.items) (sym (computed bytes t.blocks t.end r.bytes_fit t.are) ∙ computed bytes s.blocks s.end r.bytes_fit s.are) ∙ sym (s.valid).parts in
    let file : taken ≡ file_of m (section h (view h).next_frame) range =
    t.same ∙ ap (λ (ws : List Whole). trimmed_by m first last (boundary first ws)) same_blocks ∙ trimmed_good first last bytes shown r s (s.valid).others
    ∙ ap (λ n. file_of m (section h n) range) (sym (is.start).number) in
    let kept : frames_after h (events_in range) ≡ frames_from first shown = sym (ap (frames_from first) s.shown_is ∙ is.shown) in
    subst (λ (out : List ℕ). Means out (frames_from first shown) clean) (sym file)
    (subst (λ (fs : List Frame). Means (file_of m (section h (view h).next_frame) range) fs clean) kept (file_means m h range w is.markers is.valid))
