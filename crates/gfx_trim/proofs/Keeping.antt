-- The trimmed file keeps the frames of its range.
use Rattle.std.proofs.Common.{◌≡◌, ◌≤◌, ◌+◌, ◌==◌, ◌||◌, ℕ, Bool, true, false, cond, if◌then◌else◌, List, [], ◌∷◌, Option, refl, sym, ap, ◌∙◌, arith}
use Rattle.std.specs.Prelude.{nat_le}
use Rattle.std.specs.Io.KnownBytes.{Appends}
use Rattle.std.proofs.lemmas.Bool.{eqb-true, le-leb, or_left, or_right}
use Rattle.gfx_types.specs.declared.frame.Frame.{Frame}
use Rattle.gfx_model.specs.Blocks.{Whole, minor_of}
use Rattle.gfx_model.specs.Frames.{frames}
use Rattle.gfx_model.specs.History.{is_valid}
use Rattle.gfx_model.specs.Meaning.{RangeEnd, frames_to, has_frame}
use Rattle.gfx_model.specs.Trimmed.{reaches, boundary, has_boundary, history_to, IsTrimmed, trimmed_by}
use Rattle.gfx_model.proofs.Lists.{any_append}
use Rattle.gfx_model.proofs.Cutting.{trimmed_follows}
use Rattle.gfx_laws.specs.Laws.{frames_after}
use Rattle.gfx_grammar.proofs.BlockLaws.{blocks_are_computed}
use Rattle.gfx_grammar.specs.Reads.{AreBytes}
use Rattle.gfx_grammar.specs.Splitting.{Blocks, blocks_of}
use Rattle.gfx_trim_law.specs.Law.{HasRange}
use Rattle.gfx_trim_law.proofs.Cuts.{events_in}
use Rattle.gfx_trim_law.proofs.Each.{begun_is_shown}
use Rattle.gfx_trim_law.proofs.Keeps.{trimming_keeps_frames}
use Rattle.gfx_player.specs.Ends.{BeginsWith}
use Rattle.gfx_player.specs.Fed.{history_of}
use Rattle.gfx_player.specs.Meanings.{end_of, frames_in}
use Rattle.gfx_player.proofs.Judging.{longer}
use Rattle.gfx_trim.specs.Keeps.{Keeps}

-- blocks without a fault in which frame `first` begins and frame `last` is shown
pub record HasShown (first last : ℕ) (ws : List Whole) : Type 0 where
  pub valid : is_valid (history_of ws) ≡ true
  pub there : has_boundary first ws ≡ true
  pub reached : reaches (last + 1) (history_to (boundary first ws)) (boundary first ws).rest ≡ true
  pub shown : has_frame last (frames (history_of ws)) ≡ true

-- what is behind these blocks does not matter for the trimmed file
pub trimmed_then : (first last : ℕ) (ws : List Whole) (all : List ℕ) → HasShown first last ws → BeginsWith ws all →
    trimmed_by (minor_of all) first last (boundary first (blocks_of all).items) ≡ trimmed_by (minor_of all) first last (boundary first ws)
trimmed_then first last ws all h b =
    ap (λ (b : Blocks). trimmed_by (minor_of all) first last (boundary first b.items)) b.is
    ∙ trimmed_follows (minor_of all) first last ws b.later.items h.there h.reached

-- a frame that these blocks show is one of the file
pub file_shows : (n : ℕ) (ws : List Whole) (all : List ℕ) → is_valid (history_of ws) ≡ true → BeginsWith ws all → has_frame n (frames (history_of ws)) ≡ true → has_frame n (frames_in all) ≡ true
file_shows n ws all valid b has =
    let l = longer ws all b valid in
    ap (has_frame n) l.is ∙ any_append (λ (f : Frame). f.number == n) (frames (history_of ws)) (frames_after (history_of ws) (events_in l.good)) has

-- a frame up to `last` is among those up to `last`
up_to : (n last : ℕ) (fs : List Frame) → n ≤ last → has_frame n fs ≡ true → has_frame n (frames_to last fs) ≡ true
up_to n last [] low has = absurd cc
up_to n last (f ∷ fs) low has = by (f.number == n) refl (nat_le f.number last) refl has (up_to n last fs low)
  where
    by : (a : Bool) → (f.number == n) ≡ a → (b : Bool) → nat_le f.number last ≡ b → (a || has_frame n fs) ≡ true → (has_frame n fs ≡ true → has_frame n (frames_to last fs) ≡ true) →
        has_frame n (cond b (f ∷ frames_to last fs) (frames_to last fs)) ≡ true
    by true is true own has later = or_left (f.number == n) (has_frame n (frames_to last fs)) is
    by true is false own has later = let within = le-leb f.number last (omega (arith, low, eqb-true f.number n is)) in absurd cc
    by false is true own has later = or_right (f.number == n) (has_frame n (frames_to last fs)) (later has)
    by false is false own has later = later has

-- the whole file has the range
pub has_range : (first last : ℕ) (ws : List Whole) (all : List ℕ) → first ≤ last → HasShown first last ws → BeginsWith ws all → AreBytes all →
    HasRange first last all (frames_to last (frames_in all))
has_range first last ws all ordered h b fit =
    let last_there = file_shows last ws all h.valid b h.shown in
    let first_there = file_shows first ws all h.valid b (begun_is_shown first last ws h.valid h.there ordered h.shown) in
    record {
      bytes_fit = fit;
      ordered = ordered;
      means = record {
        all = frames_in all;
        file_end = end_of all;
        means = record { blocks = (blocks_of all).items; blocks_end = (blocks_of all).end; are = (blocks_are_computed all fit).0; shows = refl; ends = refl };
        shows = refl;
        ends = sym (ap (λ b. if b then RangeEnd.whole else RangeEnd.ended (end_of all)) last_there);
      };
      first_there = up_to first last (frames_in all) ordered first_there;
    }

-- what was taken is the trimmed file, which keeps the frames
pub kept : (first last : ℕ) (ws : List Whole) (all : List ℕ) (before after : Option (List ℕ)) → first ≤ last → HasShown first last ws → BeginsWith ws all → AreBytes all →
    Appends before after (trimmed_by (minor_of all) first last (boundary first (blocks_of all).items)) → Keeps first last before after all
kept first last ws all before after ordered h b fit took =
    let out = trimmed_by (minor_of all) first last (boundary first (blocks_of all).items) in
    let range = has_range first last ws all ordered h b fit in
    let is : IsTrimmed first last all out = record { blocks = (blocks_of all).items; end = (blocks_of all).end; are = (blocks_are_computed all fit).0; same = refl } in
    record {
      out = out;
      took = took;
      trimmed = is;
      shown = frames_to last (frames_in all);
      range = range;
      means = trimming_keeps_frames first last all out (frames_to last (frames_in all)) range is;
    }
