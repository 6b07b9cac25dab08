-- What the file of the capture means.
use Rattle.std.proofs.Common.{◌≡◌, ◌+◌, ◌*◌, ℕ, suc, [], ◌∷◌, List, length, map, cond, refl, ap, sym, subst, ◌∙◌, arith, inl, append-nil}
use Rattle.std.proofs.lemmas.List.{length-map}
use Rattle.gfx_types.specs.declared.frame.Frame.{Frame}
use Rattle.gfx_model.specs.Events.{Event}
use Rattle.gfx_model.specs.Spelling.{HasSpelling, header}
use Rattle.gfx_model.specs.Blocks.{Position, first_position, next_position}
use Rattle.gfx_model.specs.Blocks.End.{clean}
use Rattle.gfx_model.specs.History.{onto, is_valid}
use Rattle.gfx_model.specs.Frames.{frames}
use Rattle.gfx_model.specs.Meaning.{Judged, judge, Means, RangeEnd, events_onto}
use Rattle.gfx_model.specs.Trimmed.{file_of}
use Rattle.gfx_model.proofs.Lists.{all_along}
use Rattle.gfx_grammar.specs.Framing.{Part, CanBeWritten, placed, made_part, file_parts}
use Rattle.gfx_grammar.specs.Splitting.{Blocks, blocks_of}
use Rattle.gfx_grammar.proofs.BlockLaws.{blocks_are_computed}
use Rattle.gfx_grammar.proofs.FileLaws.{file_is_read}
use Rattle.gfx_grammar.proofs.RoomLaws.{few-room}
use Rattle.gfx_grammar.specs.Reads.{AreBytes}
use Rattle.gfx_trim_law.proofs.Keeps.{trimming_keeps_frames}
use Rattle.gfx_trim_law.proofs.Prefix.{judge-valid}
use Rattle.gfx_trim_law.proofs.Bytes.{file_bytes}
use Rattle.gfx_make.specs.Made.{made, made_file, blocks}
use Rattle.gfx_make.specs.Shown.{shown_from}
use Rattle.gfx_make.specs.Laws.{MadeIsRead, MadeIsCounted, MadeIsJudged, MadeIsMeant, MadeHasRange, MadeIsTrimmed}
use Rattle.gfx_make.proofs.Valid.{made_is_valid}
use Rattle.gfx_make.proofs.Counting.{made_length}
use Rattle.gfx_make.proofs.Shows.{made_shows}
use Rattle.gfx_make.proofs.Kept.{shown_to, range_shown, is_there}
use Rattle.gfx_make.proofs.Writable.{made_writable}

module _ (n : ℕ) where
  -- the file is one that is made of events, with no blocks behind them
  made_is_file : made_file n ≡ file_of 1 (made n) []
  unfolding made_file blocks
  made_is_file = sym (append-nil (made_file n))

  made_parts : file_parts 1 (made n) [] ≡ map (made_part 1) (made n)
  made_parts = append-nil (map (made_part 1) (made n))

  made_bytes : AreBytes (made_file n)
  made_bytes = subst AreBytes (sym made_is_file)
      (file_bytes 1 (made n) [] (all_along (CanBeWritten 1 0) (HasSpelling 1) (λ e w. w.fits) (made n) (made_writable n)) tt)

-- what the blocks say are the events
said_onto : (at : Position) (es h : List Event) → events_onto (placed at (map (made_part 1) es)) h ≡ onto es h
said_onto at [] h = refl
said_onto at (e ∷ es) h = said_onto (next_position at (made_part 1 e).bytes) es (e ∷ h)

pub made_is_read : MadeIsRead
made_is_read n low =
    let first = first_position (header 1) in
    let parts = file_parts 1 (made n) [] in
    let long : length parts ≡ 25 + 6 * n = ap length (made_parts n) ∙ length-map (made n) (made_part 1) ∙ made_length n in
    ap blocks_of (made_is_file n)
    ∙ file_is_read 1 (made n) [] (inl refl) (made_writable n) tt (few-room first parts (omega (arith, long, low)) (omega (arith, long, low)))
    ∙ ap (λ ps. record { items = placed first ps; end = clean }) (made_parts n)

length-placed : (at : Position) (ps : List Part) → length (placed at ps) ≡ length ps
length-placed at [] = refl
length-placed at (p ∷ ps) = ap (λ n. suc n) (length-placed (next_position at p.bytes) ps)

pub made_is_counted : MadeIsCounted
made_is_counted n low =
    let parts = map (made_part 1) (made n) in
    ap (λ (b : Blocks). length b.items) (made_is_read n low) ∙ length-placed (first_position (header 1)) parts ∙ length-map (made n) (made_part 1) ∙ made_length n

pub made_is_judged : MadeIsJudged
made_is_judged n low =
    let ws = placed (first_position (header 1)) (map (made_part 1) (made n)) in
    let said : events_onto ws [] ≡ onto (made n) [] = said_onto (first_position (header 1)) (made n) [] in
    ap (λ (b : Blocks). judge [] b.items b.end) (made_is_read n low) ∙ judge-valid ws [] clean (ap is_valid said ∙ made_is_valid n low)
    ∙ ap (λ h. record { history = h; end = clean }) said

pub made_is_meant : MadeIsMeant
made_is_meant n low = record {
  blocks = (blocks_of (made_file n)).items;
  blocks_end = (blocks_of (made_file n)).end;
  are = (blocks_are_computed (made_file n) (made_bytes n)).0;
  shows = sym (ap (λ (j : Judged). frames j.history) (made_is_judged n low) ∙ made_shows n low);
  ends = sym (ap (λ (j : Judged). j.end) (made_is_judged n low));
}

-- ---- ranges

pub made_has_range : MadeHasRange
made_has_range n first last low one ordered within = record {
  bytes_fit = made_bytes n;
  ordered = ordered;
  means = record {
    all = shown_from 1 n;
    file_end = clean;
    means = made_is_meant n low;
    shows = sym (shown_to n last within);
    ends = sym (ap (λ b. cond b RangeEnd.whole (RangeEnd.ended clean)) (is_there n 1 last (omega (arith, one, ordered)) (omega (arith, within))));
  };
  first_there = is_there last 1 first one (omega (arith, ordered));
}

pub made_is_trimmed : MadeIsTrimmed
made_is_trimmed n first last taken low one ordered within is =
    subst (λ (fs : List Frame). Means taken fs clean) (range_shown first last one ordered)
    (trimming_keeps_frames first last (made_file n) taken (shown_from 1 last) (made_has_range n first last low one ordered within) is)
