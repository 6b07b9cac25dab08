-- A file of which a lean cut is made, block by block, and what the call answers where it stops.
use Rattle.std.proofs.Common.{◌≡◌, ◌≤◌, inl, inr, ℕ, true, List, [], ◌∷◌, ◌++◌, flat_map, Option, Result, Ok, Err, refl, sym, ap, subst, ◌∙◌, arith}
use Rattle.std.specs.Prelude.{⊤, IfErr, OnOk}
use Rattle.gfx_io.specs.Told.{IfTold}
use Rattle.gfx_model.specs.Events.{Event}
use Rattle.gfx_model.specs.Blocks.{Whole, minor_of}
use Rattle.gfx_model.specs.Blocks.End.{clean}
use Rattle.gfx_model.specs.History.{is_valid, view}
use Rattle.gfx_model.specs.Meaning.{frames_to}
use Rattle.gfx_model.specs.Spelling.{header}
use Rattle.gfx_model.specs.Trimmed.{Cut, boundary, file_of, history_to, range_from}
use Rattle.gfx_model.proofs.Cutting.{cut_follows}
use Rattle.gfx_feature_model.specs.Lean.{IsLean, Keep, KeepsNeeded, events_in, kept_section}
use Rattle.gfx_grammar.proofs.BlockLaws.{blocks_are_computed}
use Rattle.gfx_grammar.specs.Reads.{AreBytes}
use Rattle.gfx_grammar.specs.Splitting.{Blocks, blocks_of}
use Rattle.gfx_section_law.specs.Law.{IsAtBoundary}
use Rattle.gfx_trim_law.proofs.Each.{begun_is_shown}
use Rattle.gfx_trim_law.proofs.Range.{in_range}
use Rattle.gfx_lean_law.proofs.LeanFiles.{lean_keeps_frames}
use Rattle.gfx_decode.proofs.Told.{told_if}
use Rattle.gfx_state.proofs.Versions.{kept_in_versions}
use Rattle.gfx_player.specs.declared.fault.PlayFault.{PlayFault}
use Rattle.gfx_player.specs.declared.fault.PlayFault.TheVariants as play
use Rattle.gfx_player.specs.declared.player.Player.{Player}
use Rattle.gfx_player.specs.Ends.{BeginsWith, EndsBehind, StopsBehind}
use Rattle.gfx_player.specs.Fed.{IsUnfinished, history_of}
use Rattle.gfx_player.specs.Meanings.{first_in, frames_in, history_in, last_in}
use Rattle.gfx_player.specs.Walks.{HasRead, IsReadAlike}
use Rattle.gfx_player.proofs.Judging.{judged_given}
use Rattle.gfx_player.proofs.Walking.{fed_begins, read_alike, refused_stops}
use Rattle.gfx_range.specs.Follower.{Refuses}
use Rattle.gfx_range.specs.Range.{IsGathered}
use Rattle.gfx_replay.specs.Replayer.{StandsFor}
use Rattle.gfx_replay.specs.declared.replayer.Replayer.{Replayer}
use Rattle.gfx_trim.specs.Cutters.{Ends}
use Rattle.gfx_trim.specs.Numbers.{IsInside, IsOutside}
use Rattle.gfx_trim.proofs.Files.{behind_last, has_shown, none_outside, outside_phase, valid_history}
use Rattle.gfx_trim.proofs.Keeping.{HasShown, file_shows, has_range}
use Rattle.gfx_trim.proofs.Numbers.{inside}
use Rattle.gfx_lean.specs.Leaner.{GoesOn, HasRangeOf, IsFailed, IsWhole, Wrote, WrotePart}
use Rattle.gfx_lean.specs.Leans.{Answers, AnswersIfBytes, IsPart}
use Rattle.gfx_lean.specs.Reading.{Leaned, Leaning}
use Rattle.gfx_lean.specs.Written.{lean_text}
use Rattle.gfx_lean.specs.declared.leaner.Leaner.{Leaner}

-- ---- the lean file

-- the text is that of the file
text_is : (m n first : ℕ) (keep : Keep) (h range : List Event) (ws : List Whole) → IsAtBoundary h → KeepsNeeded h range keep → (view h).next_frame ≡ first → m ≡ n →
    lean_text m keep h first (flat_map (λ w. w.bytes) ws) ≡ file_of n (kept_section keep h first) ws
unfolding lean_text
text_is m n first keep h range ws at needs number same =
    let versions = kept_in_versions m first keep h at.valid in
    ap (λ e. header m ++ e ++ flat_map (λ (w : Whole). w.bytes) ws) (sym versions) ∙ ap (λ m. file_of m (kept_section keep h first) ws) same

pub is_lean : (first last m : ℕ) (all : List ℕ) (ws : List Whole) (keep : Keep) → first ≤ last → HasShown first last ws → BeginsWith ws all → AreBytes all → m ≡ minor_of all →
    range_from last (boundary first ws) ≡ (boundary first ws).rest → KeepsNeeded (history_to (boundary first ws)) (events_in (boundary first ws).rest) keep →
    IsLean first last all (lean_text m keep (history_to (boundary first ws)) first (flat_map (λ w. w.bytes) (boundary first ws).rest))
is_lean first last m all ws keep ordered h b fit same whole needs =
    let c : Cut = boundary first ws in
    let cut = cut_follows first last ws b.later.items h.there h.reached in
    let items : (blocks_of all).items ≡ ws ++ b.later.items = ap (λ (b : Blocks). b.items) b.is in
    let before : history_to (boundary first (blocks_of all).items) ≡ history_to c = ap (λ (ws : List Whole). history_to (boundary first ws)) items ∙ cut.0 in
    let range : range_from last (boundary first (blocks_of all).items) ≡ c.rest = ap (λ (ws : List Whole). range_from last (boundary first ws)) items ∙ cut.1 ∙ whole in
    let is = in_range first last ws h.valid ordered (begun_is_shown first last ws h.valid h.there ordered h.shown) h.shown in
    let text = text_is m (minor_of all) first keep (history_to c) (events_in c.rest) c.rest is.at needs (is.start).number same in
    record {
      blocks = (blocks_of all).items;
      end = (blocks_of all).end;
      are = (blocks_are_computed all fit).0;
      keep = keep;
      keeps = subst (λ h. KeepsNeeded h (events_in (range_from last (boundary first (blocks_of all).items))) keep) (sym before)
          (subst (λ ws. KeepsNeeded (history_to c) (events_in ws) keep) (sym range) needs);
      same = text ∙ ap (λ h. file_of (minor_of all) (kept_section keep h first) c.rest) (sym before)
          ∙ ap (file_of (minor_of all) (kept_section keep (history_to (boundary first (blocks_of all).items)) first)) (sym range);
    }

-- ---- a file that is being cut

outside_of : (first last : ℕ) (p : Player) (c : Leaner) (fed : List Whole) (file left : Option (List ℕ)) → first ≤ last → Leaning first last p c fed file left → IsOutside first last (history_of fed)
outside_of first last p c fed file left ordered g =
    let low : c.first ≤ c.last = omega (arith, ordered, g.first_is, g.last_is) in
    let far = outside_phase c.phase c.first c.last c.range.blocks.items fed g.stands.follows.valid low g.stands.phase in
    subst (λ a. IsOutside a last (history_of fed)) g.first_is (subst (λ b. IsOutside c.first b (history_of fed)) g.last_is far)

-- one block more
pub lean_more : (first last : ℕ) (p mid q : Player) (old new : Leaner) (fed : List Whole) (w : Whole) (file left rest : Option (List ℕ)) → Leaning first last p old fed file left →
    HasRead mid (fed ++ w ∷ []) file rest → mid.minor ≡ p.minor → IsReadAlike mid q → GoesOn old new q fed w → Leaning first last q new (fed ++ w ∷ []) file rest
lean_more first last p mid q old new fed w file left rest c read minor same goes = record {
  stands = goes.after;
  read = read_alike mid q (fed ++ w ∷ []) file rest same read;
  first_is = goes.range.first ∙ c.first_is;
  last_is = goes.range.last ∙ c.last_is;
  minor_is = goes.range.minor ∙ c.minor_is ∙ sym minor ∙ sym same.minor;
}

-- ---- no further block is taken

failed : (first last : ℕ) (before after : Option (List ℕ)) (why : PlayFault) (all left : List ℕ) → Answers first last before after (Err why) all left → AnswersIfBytes first last before after (Err why) all left
failed first last before after why all left a = λ fit. (a, tt)

stops : (first last : ℕ) (fed : List Whole) (why : PlayFault) (taken : Option (List ℕ)) (all rest : List ℕ) → is_valid (history_of fed) ≡ true → IsOutside first last (history_of fed) →
    StopsBehind fed why all rest → Answers first last taken taken (Err why) all rest
stops first last fed (play.Bad fault block offset) taken all rest valid far s = record {
  end = s.stops.ends;
  outside = subst (IsOutside first last) (sym s.stops.history) far;
  none = refl;
}
stops first last fed (play.NoSuchFrame low high) taken all rest valid far s = absurd s.stops
stops first last fed play.ReadFault taken all rest valid far s =
    let g = s.stops in
    let judged = judged_given fed all rest g valid in
    record {
      given = g.given;
      parts = g.parts;
      cut = subst (λ ws. IsUnfinished ws g.given) (sym g.blocks) g.cut;
      lawful = judged.ends;
      outside = subst (IsOutside first last) (sym judged.history) far;
      none = refl;
    }
stops first last fed play.SinkFault taken all rest valid far s = absurd s.stops
stops first last fed play.WantMemory taken all rest valid far s = inl refl

-- the header
pub open_fails : (first last : ℕ) (why : PlayFault) (file rest taken : Option (List ℕ)) → first ≤ last → IfTold file rest (StopsBehind [] why) → IfTold file rest (AnswersIfBytes first last taken taken (Err why))
open_fails first last why file rest taken ordered told =
    told_if file rest (StopsBehind [] why) (AnswersIfBytes first last taken taken (Err why)) told
    (λ all rest s. failed first last taken taken why all rest (stops first last [] why taken all rest refl (none_outside first last ordered) s))

-- the next block
pub next_fails : (first last : ℕ) (p : Player) (c : Leaner) (fed : List Whole) (why : PlayFault) (file left rest taken : Option (List ℕ)) → first ≤ last → Leaning first last p c fed file left →
    IfTold file rest (StopsBehind fed why) → IfTold file rest (AnswersIfBytes first last taken taken (Err why))
next_fails first last p c fed why file left rest taken ordered g told =
    told_if file rest (StopsBehind fed why) (AnswersIfBytes first last taken taken (Err why)) told
    (λ all rest s. failed first last taken taken why all rest (stops first last fed why taken all rest g.stands.follows.valid (outside_of first last p c fed file left ordered g) s))

-- a block that is not taken
pub take_fails : (first last : ℕ) (p mid : Player) (c : Leaner) (fed : List Whole) (w : Whole) (why : PlayFault) (file left rest taken : Option (List ℕ)) → first ≤ last → Leaning first last p c fed file left →
    HasRead mid (fed ++ w ∷ []) file rest → Refuses (history_of fed) w why → IfTold file rest (AnswersIfBytes first last taken taken (Err why))
take_fails first last p mid c fed w (play.Bad fault block offset) file left rest taken ordered g read refuses =
    next_fails first last p c fed (play.Bad fault block offset) file left rest taken ordered g
    (refused_stops mid fed w (play.Bad fault block offset) file rest g.stands.follows.valid read tt refuses)
take_fails first last p mid c fed w (play.NoSuchFrame low high) file left rest taken ordered g read refuses = absurd refuses
take_fails first last p mid c fed w play.ReadFault file left rest taken ordered g read refuses = absurd refuses
take_fails first last p mid c fed w play.SinkFault file left rest taken ordered g read refuses = absurd refuses
take_fails first last p mid c fed w play.WantMemory file left rest taken ordered g read refuses =
    told_if file rest _ (AnswersIfBytes first last taken taken (Err play.WantMemory)) read.told (λ all rest was. failed first last taken taken play.WantMemory all rest (inl refl))

-- a range that is not there
abbrev pub IsNoSuchFrame : PlayFault → Type 0
IsNoSuchFrame (play.Bad fault block offset) = ⊥
IsNoSuchFrame (play.NoSuchFrame low high) = ⊤
IsNoSuchFrame play.ReadFault = ⊥
IsNoSuchFrame play.SinkFault = ⊥
IsNoSuchFrame play.WantMemory = ⊥

-- the clean end of the file
pub file_ends : (first last : ℕ) (p : Player) (c : Leaner) (fed : List Whole) (why : PlayFault) (file left rest taken : Option (List ℕ)) → first ≤ last → Leaning first last p c fed file left →
    IfTold file rest (λ all rest. EndsBehind fed clean all × (rest ≡ [])) → why ≡ play.NoSuchFrame (first_in (history_of fed)) (last_in (history_of fed)) → IfTold file rest (AnswersIfBytes first last taken taken (Err why))
file_ends first last p c fed why file left rest taken ordered g told is =
    subst (λ e. IfTold file rest (AnswersIfBytes first last taken taken (Err e))) (sym is)
    (told_if file rest (λ all rest. EndsBehind fed clean all × (rest ≡ [])) (AnswersIfBytes first last taken taken (Err (play.NoSuchFrame (first_in (history_of fed)) (last_in (history_of fed))))) told
    (λ all rest end. failed first last taken taken (play.NoSuchFrame (first_in (history_of fed)) (last_in (history_of fed))) all rest (record {
      end = end.0.ends;
      outside = subst (IsOutside first last) (sym end.0.history) (outside_of first last p c fed file left ordered g);
      low_is = ap first_in (sym end.0.history);
      high_is = ap last_in (sym end.0.history);
      none = refl;
      read = end.1;
    })))

-- ---- the last block of the range

-- it was taken
pub lean_whole : (first last : ℕ) (p mid q : Player) (old new : Leaner) (fed : List Whole) (w : Whole) (file left rest : Option (List ℕ)) → Leaning first last p old fed file left →
    HasRead mid (fed ++ w ∷ []) file rest → mid.minor ≡ p.minor → IsReadAlike mid q → IsWhole old new q fed w → Leaned first last q new file rest
lean_whole first last p mid q old new fed w file left rest c read minor same is =
    let ws : List Whole = fed ++ w ∷ [] in
    record {
      fed = fed;
      block = w;
      ends = subst (λ a. Ends a last fed w) c.first_is (subst (λ b. Ends old.first b fed w) c.last_is is.ends);
      has = subst (λ a. HasRangeOf a new.range q ws) (sym is.range.first) is.has;
      all = subst (λ a. range_from last (boundary a ws) ≡ (boundary a ws).rest) c.first_is
          (subst (λ b. range_from b (boundary old.first ws) ≡ (boundary old.first ws).rest) c.last_is is.all);
      read = read_alike mid q ws file rest same read;
      first_is = is.range.first ∙ c.first_is;
      minor_is = is.range.minor ∙ c.minor_is ∙ sym minor ∙ sym same.minor;
    }

module _ (first last : ℕ) (p : Player) (c : Leaner) (file rest before after : Option (List ℕ)) (ordered : first ≤ last) (g : Leaned first last p c file rest) where
  abbrev ws : List Whole
  ws = g.fed ++ g.block ∷ []

  lean_as : (keep : Keep) (all : List ℕ) → BeginsWith ws all → AreBytes all → p.minor ≡ minor_of all → KeepsNeeded (history_to (boundary c.first ws)) (events_in (boundary c.first ws).rest) keep →
      IsLean first last all (lean_text c.minor keep (history_to (boundary c.first ws)) c.first (flat_map (λ w. w.bytes) (boundary c.first ws).rest))
  lean_as keep all b fit same needs =
      subst (λ a. IsLean first last all (lean_text c.minor keep (history_to (boundary a ws)) a (flat_map (λ w. w.bytes) (boundary a ws).rest))) (sym g.first_is)
      (is_lean first last c.minor all ws keep ordered (has_shown first last g.fed g.block g.ends) b fit (g.minor_is ∙ same) g.all
      (subst (λ a. KeepsNeeded (history_to (boundary a ws)) (events_in (boundary a ws).rest) keep) g.first_is needs))

  in_file : (all : List ℕ) → BeginsWith ws all → IsInside first last (history_in all)
  in_file all b =
      let h = has_shown first last g.fed g.block g.ends in
      inside first last (history_in all) (valid_history all)
      (file_shows first ws all h.valid b (begun_is_shown first last ws h.valid h.there ordered h.shown))
      (file_shows last ws all h.valid b h.shown)

  lean_done : Wrote c.minor c.first (history_to (boundary c.first ws)) (boundary c.first ws).rest before after → IfTold file rest (AnswersIfBytes first last before after (Ok tt))
  lean_done wrote =
      told_if file rest _ (AnswersIfBytes first last before after (Ok tt)) g.read.told
      (λ all rest was fit.
      let b = fed_begins ws p.decoder all rest was.0 in
      let h = has_shown first last g.fed g.block g.ends in
      let out = lean_text c.minor wrote.keep (history_to (boundary c.first ws)) c.first (flat_map (λ w. w.bytes) (boundary c.first ws).rest) in
      let lean = lean_as wrote.keep all b fit was.1 wrote.keeps in
      let range = has_range first last ws all ordered h b fit in (
        record {
          inside = in_file all b;
          out = out;
          took = wrote.file;
          lean = lean;
          behind = behind_last last p all rest g.fed g.block was.0 g.ends.shows;
        },
        record {
          out = out;
          took = wrote.file;
          lean = lean;
          shown = frames_to last (frames_in all);
          range = range;
          means = lean_keeps_frames first last all out (frames_to last (frames_in all)) range lean;
        },
      ))

  part_of_lean : (all : List ℕ) → BeginsWith ws all → AreBytes all → p.minor ≡ minor_of all → WrotePart c.minor c.first (history_to (boundary c.first ws)) (boundary c.first ws).rest before after →
      IsPart first last before after all
  part_of_lean all b fit same wrote = record {
    inside = in_file all b;
    out = lean_text c.minor wrote.keep (history_to (boundary c.first ws)) c.first (flat_map (λ w. w.bytes) (boundary c.first ws).rest);
    took = wrote.file;
    lean = lean_as wrote.keep all b fit same wrote.keeps;
  }

  write_fails : (why : PlayFault) → IsFailed c.minor c.first (history_to (boundary c.first ws)) (boundary c.first ws).rest before after why → IfTold file rest (AnswersIfBytes first last before after (Err why))
  write_fails (play.Bad fault block offset) left = absurd left
  write_fails (play.NoSuchFrame low high) left = absurd left
  write_fails play.ReadFault left = absurd left
  write_fails play.SinkFault left =
      told_if file rest _ (AnswersIfBytes first last before after (Err play.SinkFault)) g.read.told
      (λ all rest was fit. (part_of_lean all (fed_begins ws p.decoder all rest was.0) fit was.1 left, tt))
  write_fails play.WantMemory (inl none) =
      told_if file rest _ (AnswersIfBytes first last before after (Err play.WantMemory)) g.read.told (λ all rest was fit. (inl none, tt))
  write_fails play.WantMemory (inr part) =
      told_if file rest _ (AnswersIfBytes first last before after (Err play.WantMemory)) g.read.told
      (λ all rest was fit. (inr (part_of_lean all (fed_begins ws p.decoder all rest was.0) fit was.1 part), tt))

  -- what the write of the lean file leaves
  pub write_ends : (s : Replayer) (r : Result (Unit {0}) PlayFault) → StandsFor s (history_to (boundary c.first ws)) →
      OnOk r ((h : List Event) (ws : List Whole) → StandsFor s h → IsGathered c.range h ws → Wrote c.minor c.first h ws before after) →
      IfErr r (λ why. (h : List Event) (ws : List Whole) → StandsFor s h → IsGathered c.range h ws → IsFailed c.minor c.first h ws before after why) → IfTold file rest (AnswersIfBytes first last before after r)
  write_ends s (Ok u) stands wrote left = lean_done (wrote (history_to (boundary c.first ws)) (boundary c.first ws).rest stands g.has.gathered)
  write_ends s (Err why) stands wrote left = write_fails why (left (history_to (boundary c.first ws)) (boundary c.first ws).rest stands g.has.gathered)
