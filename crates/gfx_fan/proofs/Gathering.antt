-- Frames that were shown, the lines of which the sink took or an album keeps.
use Rattle.std.proofs.Common.{◌≡◌, ◌⊎◌, ◌+◌, inl, inr, ℕ, Bool, true, false, if◌then◌else◌, List, [], ◌∷◌, ◌++◌, Option, Err, refl, sym, ap, subst, ◌∙◌}
use Rattle.std.specs.Io.KnownBytes.{Appends}
use Rattle.std.proofs.lemmas.List.{append-nil}
use Rattle.gfx_io.specs.Pieces.{AppendsPart}
use Rattle.gfx_io.specs.Told.{IfTold}
use Rattle.gfx_types.specs.declared.frame.Frame.{Frame}
use Rattle.gfx_frames.specs.Texts.{text_of}
use Rattle.gfx_frames.proofs.SoFar.{SoFar, so_far_all, so_far_more, so_far_none, so_far_part}
use Rattle.gfx_replay.specs.Replayer.{bytes_of}
use Rattle.gfx_replay.specs.Shown.{frame_of}
use Rattle.gfx_replay.specs.declared.shown.ShownFrame.{ShownFrame}
use Rattle.gfx_decode.proofs.Told.{told_if}
use Rattle.gfx_player.specs.declared.asked.Asked.TheVariants as asked
use Rattle.gfx_player.specs.declared.fault.PlayFault.{PlayFault}
use Rattle.gfx_player.specs.declared.fault.PlayFault.TheVariants as play
use Rattle.gfx_player.specs.declared.player.Player.{Player}
use Rattle.gfx_player.specs.Asked.{has_last, is_asked}
use Rattle.gfx_player.specs.Ends.{IsStopped}
use Rattle.gfx_player.specs.Faults.{IsReplayFault, IsUnwritten}
use Rattle.gfx_player.specs.Walks.{Plays, ShowsNext, first_frame_of}
use Rattle.gfx_player.proofs.Asking.{count_more}
use Rattle.gfx_player.proofs.Later.{never_last}
use Rattle.gfx_player.proofs.Playing.{plays_first, told_beside}
use Rattle.gfx_play.specs.declared.screen.Screen.{Screen}
use Rattle.gfx_play.specs.Screens.{text_by}
use Rattle.gfx_play.specs.Shows.{Answers}
use Rattle.gfx_play.proofs.Lines.{lines_front, lines_none, lines_then}
use Rattle.gfx_play.proofs.Showing.{Showing, next_fails, stops, write_fails}
use Rattle.gfx_fan.specs.declared.album.Album.{Album}
use Rattle.gfx_fan.specs.Gathered.{Gathering, StopsAny, all_lines}
use Rattle.gfx_fan.specs.Kept.{IsBare, TakesFrame, kept_lines, plain}
use Rattle.gfx_fan.proofs.Keeping.{bare_lines, bare_small, part_on, so_far_on}

-- ---- one frame more

pub gathered_none : (p : Player) (k : Album) (file left taken : Option (List ℕ)) → Plays p [] file left → k.screen.asked ≡ asked.All → k.screen.listing ≡ plain p.minor → k.screen.count ≡ 0 → IsBare k →
    Gathering p k [] file left taken taken
gathered_none p k file left taken plays all listing count bare = record {
  plays = plays;
  small = bare_small k bare;
  asked_is = all;
  listing = listing;
  count = count;
  text = subst (λ t. SoFar taken taken t (kept_lines k)) (sym (lines_none (plain p.minor))) (subst (SoFar taken taken []) (sym (bare_lines k bare)) (so_far_none taken []));
}

-- where all frames are asked for, the text of a frame is that of the album's listing
text_all : (s : Screen) (p : Player) (f : ShownFrame) → s.asked ≡ asked.All → text_by s p f ≡ text_of (bytes_of p.replayer) s.listing f
text_all s p f all = ap (λ a. if is_asked a (first_frame_of p) f.number then text_of (bytes_of p.replayer) s.listing f else []) all

-- the lines with those of the next frame
lines_next : (was p : Player) (k : Album) (shown : List Frame) (f : ShownFrame) (file left rest before middle : Option (List ℕ)) → Gathering was k shown file left before middle → ShowsNext p shown f file rest →
    p.minor ≡ was.minor → all_lines was.minor shown ++ text_of (bytes_of p.replayer) k.screen.listing f ≡ all_lines p.minor (shown ++ frame_of (bytes_of p.replayer) f ∷ [])
lines_next was p k shown f file left rest before middle s next minor =
    let listed = s.listing ∙ ap plain (sym minor) in
    ap (λ t. all_lines was.minor shown ++ t) (sym (text_all k.screen p f s.asked_is))
    ∙ ap (λ m. all_lines m shown ++ text_by k.screen p f) (sym minor)
    ∙ lines_then asked.All k.screen (plain p.minor) p shown f file rest next.plays s.asked_is listed

pub gathered_more : (was p : Player) (old new : Album) (shown : List Frame) (f : ShownFrame) (file left rest before middle after : Option (List ℕ)) → Gathering was old shown file left before middle →
    ShowsNext p shown f file rest → p.minor ≡ was.minor → TakesFrame old new (text_of (bytes_of p.replayer) old.screen.listing f) middle after →
    Gathering p new (shown ++ frame_of (bytes_of p.replayer) f ∷ []) file rest before after
gathered_more was p old new shown f file left rest before middle after s next minor took = record {
  plays = next.plays;
  small = took.small;
  asked_is = took.asked ∙ s.asked_is;
  listing = took.listing ∙ s.listing ∙ ap plain (sym minor);
  count = took.count ∙ ap (λ n. n + 1) s.count ∙ count_more asked.All shown (frame_of (bytes_of p.replayer) f);
  text = subst (λ t. SoFar before after t (kept_lines new)) (lines_next was p old shown f file left rest before middle s next minor)
      (so_far_on before middle after (all_lines was.minor shown) (kept_lines old) (text_of (bytes_of p.replayer) old.screen.listing f) (kept_lines new) s.text took.text_is);
}

-- a walk that stands elsewhere in the same file, and has shown the same
pub gathered_on : (was p : Player) (k : Album) (shown : List Frame) (file left rest before after : Option (List ℕ)) → Gathering was k shown file left before after → Plays p shown file rest → p.minor ≡ was.minor →
    Gathering p k shown file rest before after
gathered_on was p k shown file left rest before after s plays minor = record {
  plays = plays;
  small = s.small;
  asked_is = s.asked_is;
  listing = s.listing ∙ ap plain (sym minor);
  count = s.count;
  text = subst (λ m. SoFar before after (all_lines m shown) (kept_lines k)) (sym minor) s.text;
}

-- ---- what isn't written whole

-- a prefix of the lines of these frames was written, and no more
pub unwritten : (p : Player) (shown : List Frame) (why : PlayFault) (file left before after : Option (List ℕ)) → Plays p shown file left → IsUnwritten why → AppendsPart before after (all_lines p.minor shown) →
    IfTold file left (Answers asked.All false before after (Err why))
unwritten p shown why file left before after plays kind part =
    told_if file left _ (Answers asked.All false before after (Err why)) (plays_first p shown file left plays)
    (λ all rest is. write_fails asked.All false why before after all rest kind
    (lines_front asked.All false shown all before after is.0 (subst (λ m. AppendsPart before after (all_lines m shown)) is.1 part)))

pub frame_unwritten : (was p : Player) (k : Album) (shown : List Frame) (f : ShownFrame) (why : PlayFault) (file left rest before middle after : Option (List ℕ)) → Gathering was k shown file left before middle →
    ShowsNext p shown f file rest → p.minor ≡ was.minor → IsUnwritten why → AppendsPart middle after (kept_lines k ++ text_of (bytes_of p.replayer) k.screen.listing f) →
    IfTold file rest (Answers asked.All false before after (Err why))
frame_unwritten was p k shown f why file left rest before middle after s next minor kind part =
    unwritten p (shown ++ frame_of (bytes_of p.replayer) f ∷ []) why file rest before after next.plays kind
    (subst (AppendsPart before after) (lines_next was p k shown f file left rest before middle s next minor)
    (part_on before middle after (all_lines was.minor shown) (kept_lines k) (text_of (bytes_of p.replayer) k.screen.listing f) s.text part))

kept_part : (a b c : Option (List ℕ)) (text kept : List ℕ) → SoFar a b text kept → AppendsPart b c kept → AppendsPart a c text
kept_part a b c text kept s part = so_far_part a b c text kept [] (subst (SoFar a b text) (sym (append-nil kept)) s) part

kept_all : (a b c : Option (List ℕ)) (text kept : List ℕ) → SoFar a b text kept → Appends b c kept → Appends a c text
kept_all a b c text kept s took = so_far_all a c text (so_far_more a b c text kept [] (subst (SoFar a b text) (sym (append-nil kept)) s) took)

-- what is kept isn't written whole
pub kept_unwritten : (p : Player) (k : Album) (shown : List Frame) (why : PlayFault) (file left before middle after : Option (List ℕ)) → Gathering p k shown file left before middle → IsUnwritten why →
    AppendsPart middle after (kept_lines k) → IfTold file left (Answers asked.All false before after (Err why))
kept_unwritten p k shown why file left before middle after s kind part =
    unwritten p shown why file left before after s.plays kind (kept_part before middle after (all_lines p.minor shown) (kept_lines k) s.text part)

-- ---- what is kept is written

not_last : (shown : List Frame) → has_last asked.All shown ≡ false
not_last shown = by (has_last asked.All shown) refl
  where
    by : (t : Bool) → has_last asked.All shown ≡ t → has_last asked.All shown ≡ false
    by true is = absurd (never_last shown is)
    by false is = is

pub all_written : (p : Player) (k : Album) (shown : List Frame) (file left before middle after : Option (List ℕ)) → Gathering p k shown file left before middle → Appends middle after (kept_lines k) →
    Showing asked.All false p k.screen shown false file left before after
all_written p k shown file left before middle after s took = record {
  plays = s.plays;
  asked = s.asked_is;
  listing = s.listing;
  count = s.count;
  last = not_last shown;
  text = kept_all before middle after (all_lines p.minor shown) (kept_lines k) s.text took;
}

-- what an album answers where a walk stops for a reason
abbrev pub StopsSo : PlayFault → PlayFault → Album → Option (List ℕ) → Option (List ℕ) → Type 0
StopsSo why answer k middle after = ((answer ≡ why) × Appends middle after (kept_lines k)) ⊎ (IsUnwritten answer × AppendsPart middle after (kept_lines k))

-- facts of a file that was read further
pub told_later : (file left rest : Option (List ℕ)) (P Q R : List ℕ → List ℕ → Type 0) → IfTold file left P → IfTold file rest Q → ((all left rest : List ℕ) → P all left → R all rest) → IfTold file rest R
told_later file left rest P Q R p q f = told_beside file left rest P Q R p q (λ all left rest p q. f all left rest p)

-- no answer to a write that failed looks at what is left
part_answers : (why : PlayFault) (before after : Option (List ℕ)) (all left rest : List ℕ) → IsUnwritten why → Answers asked.All false before after (Err why) all left → Answers asked.All false before after (Err why) all rest
part_answers (play.Bad fault block offset) before after all left rest kind is = absurd kind
part_answers (play.NoSuchFrame first last) before after all left rest kind is = absurd kind
part_answers play.ReadFault before after all left rest kind is = absurd kind
part_answers play.SinkFault before after all left rest kind is = is
part_answers play.WantMemory before after all left rest kind is = is

pub stopped_so : (p : Player) (k : Album) (shown : List Frame) (why answer : PlayFault) (file left rest before middle after : Option (List ℕ)) → Gathering p k shown file left before middle →
    IfTold file rest (IsStopped shown why) → StopsSo why answer k middle after → IfTold file rest (Answers asked.All false before after (Err answer))
stopped_so p k shown why answer file left rest before middle after s stops (inl (same, took)) =
    subst (λ e. IfTold file rest (Answers asked.All false before after (Err e))) (sym same)
    (next_fails asked.All false p k.screen shown why file left rest before after (all_written p k shown file left before middle after s took) stops)
stopped_so p k shown why answer file left rest before middle after s stops (inr (kind, part)) =
    told_later file left rest _ _ _ (kept_unwritten p k shown answer file left before middle after s kind part) stops
    (λ all left rest is. part_answers answer before after all left rest kind is)

-- what is kept isn't written whole, where the file was read further
pub later_unwritten : (p : Player) (k : Album) (shown : List Frame) (why : PlayFault) (Q : List ℕ → List ℕ → Type 0) (file left rest before middle after : Option (List ℕ)) → Gathering p k shown file left before middle →
    IfTold file rest Q → IsUnwritten why → AppendsPart middle after (kept_lines k) → IfTold file rest (Answers asked.All false before after (Err why))
later_unwritten p k shown why Q file left rest before middle after s told kind part =
    told_later file left rest _ Q _ (kept_unwritten p k shown why file left before middle after s kind part) told
    (λ all left rest is. part_answers why before after all left rest kind is)

-- ---- whatever is left

any_rest : (why : PlayFault) (shown : List Frame) (all left rest : List ℕ) → IsReplayFault why → IsStopped shown why all left → IsStopped shown why all rest
any_rest (play.Bad fault block offset) shown all left rest kind s = record { first = s.first; stops = s.stops }
any_rest (play.NoSuchFrame first last) shown all left rest kind s = absurd kind
any_rest play.ReadFault shown all left rest kind s = absurd kind
any_rest play.SinkFault shown all left rest kind s = absurd kind
any_rest play.WantMemory shown all left rest kind s = record { first = s.first; stops = tt }

-- a bad block, behind which nothing is looked at
pub stopped_any : (p : Player) (k : Album) (shown : List Frame) (why answer : PlayFault) (file left rest before middle after : Option (List ℕ)) → Gathering p k shown file left before middle →
    IfTold file rest (IsStopped shown why) → IsReplayFault why → StopsSo why answer k middle after → IfTold file rest (StopsAny answer before after)
stopped_any p k shown why answer file left rest before middle after s stopped kind (inl (same, took)) =
    let text = kept_all before middle after (all_lines p.minor shown) (kept_lines k) s.text took in
    subst (λ e. IfTold file rest (StopsAny e before after)) (sym same)
    (told_beside file left rest _ (IsStopped shown why) (StopsAny why before after) (plays_first p shown file left s.plays) stopped
    (λ all left rest is stop more. stops asked.All false shown why before after all more (not_last shown) (subst (λ m. Appends before after (all_lines m shown)) is.1 text) (any_rest why shown all rest more kind stop)))
stopped_any p k shown why answer file left rest before middle after s stopped kind (inr (unwritten_kind, part)) =
    told_later file left rest _ _ _ (kept_unwritten p k shown answer file left before middle after s unwritten_kind part) stopped
    (λ all left rest is more. part_answers answer before after all left more unwritten_kind is)

-- a frame that isn't written whole
pub frame_any : (was p : Player) (k : Album) (shown : List Frame) (f : ShownFrame) (why : PlayFault) (file left rest before middle after : Option (List ℕ)) → Gathering was k shown file left before middle →
    ShowsNext p shown f file rest → p.minor ≡ was.minor → IsUnwritten why → AppendsPart middle after (kept_lines k ++ text_of (bytes_of p.replayer) k.screen.listing f) → IfTold file rest (StopsAny why before after)
frame_any was p k shown f why file left rest before middle after s next minor kind part =
    told_if file rest _ (StopsAny why before after) (frame_unwritten was p k shown f why file left rest before middle after s next minor kind part)
    (λ all rest is more. part_answers why before after all rest more kind is)
