-- A walk, one block after another, and the frames that it shows.
use Rattle.std.proofs.Common.{◌≡◌, ◌≢◌, ◌<◌, ◌≤◌, ◌+◌, ◌^◌, ℕ, inl, inr, List, [], ◌∷◌, ◌++◌, length, Option, Some, None, Result, Ok, Err, true, refl, sym, ap, subst, ◌∙◌, append-nil, arith, length-append}
use Rattle.std.specs.Prelude.{IfSome, unwrap_or}
use Rattle.std.specs.Io.KnownBytes.{Consumes, IsAtEnd}
use Rattle.gfx_types.specs.declared.frame.Frame.{Frame}
use Rattle.gfx_io.specs.Told.{IfTold}
use Rattle.gfx_model.specs.Events.{Event}
use Rattle.gfx_model.specs.Events.Event.{QueuePresentKHR}
use Rattle.gfx_model.specs.Blocks.{Content, Position, Whole, minor_of}
use Rattle.gfx_model.specs.Blocks.Content.{skipped, effect}
use Rattle.gfx_model.specs.Blocks.End.{bad, clean}
use Rattle.gfx_model.specs.Checks.{first_broken}
use Rattle.gfx_model.specs.Frames.{frames}
use Rattle.gfx_model.specs.History.{is_valid, view}
use Rattle.gfx_model.specs.Meaning.{content_fault, content_onto}
use Rattle.gfx_model.specs.Table.{checks_of}
use Rattle.gfx_model.specs.Views.{View}
use Rattle.gfx_laws.specs.Laws.{frames_after}
use Rattle.gfx_grammar.specs.Framing.{with_items}
use Rattle.gfx_grammar.specs.Splitting.{blocks_of, with_item}
use Rattle.gfx_trim_law.proofs.Cuts.{events_in, onto_parts}
use Rattle.gfx_tracker.specs.Tracker.{answers}
use Rattle.gfx_replay.specs.Fed.{broken_by, frame_by}
use Rattle.gfx_replay.specs.Replayer.{IsFed as IsReplayed, StandsFor, bytes_of}
use Rattle.gfx_replay.specs.Shown.{frame_of}
use Rattle.gfx_replay.specs.declared.replayer.Replayer.{Replayer}
use Rattle.gfx_replay.specs.declared.shown.ShownFrame.{ShownFrame}
use Rattle.gfx_blocks.specs.declared.header.Header.{Header}
use Rattle.gfx_decode.specs.Decoding.{Gives, GivesHeader, Goes, IsBlockAt, behind, coming, item_of, start_of}
use Rattle.gfx_decode.specs.Reachable.{IsBehind, blocks_ahead}
use Rattle.gfx_decode.specs.Reading.{IsHeader, StopsAt, StopsInHeader}
use Rattle.gfx_decode.specs.Stage.{Stage, Fresh, At, Failed}
use Rattle.gfx_decode.specs.declared.decoder.Raw.{Raw}
use Rattle.gfx_decode.specs.declared.fault.DecodeFault.{DecodeFault}
use Rattle.gfx_decode.specs.declared.fault.DecodeFault.TheVariants as decoder
use Rattle.gfx_decode.proofs.Ahead.{behind_more, few_behind, fewer_ahead, none_behind}
use Rattle.gfx_decode.proofs.Told.{told_bytes, told_end, told_if, told_through}
use Rattle.gfx_player.specs.declared.fault.PlayFault.{PlayFault}
use Rattle.gfx_player.specs.declared.fault.PlayFault.TheVariants as play
use Rattle.gfx_player.specs.declared.player.Player.{Player}
use Rattle.gfx_player.specs.Ends.{BeginsWith, EndsBehind, IsBehindFrame, IsStopped, ShowsFirst, Stops, StopsBehind, StopsShowing}
use Rattle.gfx_player.specs.Faults.{IsReplayFault, IsWalkFault, of_decoder}
use Rattle.gfx_player.specs.Fed.{IsUnfinished, IsFed, IsGiven, history_of}
use Rattle.gfx_player.specs.Meanings.{first_of}
use Rattle.gfx_player.specs.Walks.{HasAll, HasRead, HasReplayed, IsReadAlike, IsReplayedAlike, Plays, Refuses, Replays, ShowsNext}
use Rattle.gfx_player.proofs.Feeding.{block_comes, fed_blocks, fed_more, fed_none, fed_with, read_through}
use Rattle.gfx_player.proofs.Judging.{judged_end, judged_fault, judged_given, longer}
use Rattle.gfx_player.proofs.Stopping.{GivesNone, header_stops, stops_behind, told_stop}

-- ---- the header

pub replayed_none : (p : Player) → StandsFor p.replayer [] → p.first ≡ None → HasReplayed p []
unfolding frames
replayed_none p stands first = record { replays = stands; first = first }

pub read_none : (p : Player) (header : Header) (bytes : List ℕ) (old new : Option (List ℕ)) → p.decoder ≡ At header.minor (start_of header) → p.minor ≡ header.minor →
    IsHeader header bytes → Consumes old new bytes → IfTold old new (GivesHeader (Ok header)) → HasRead p [] old new
read_none p header bytes old new place minor is reads gives = record {
  place = subst (IsBehind 0) (sym place) (none_behind header 0 refl);
  told = told_if old new (λ all left. GivesHeader (Ok header) all left × (all ≡ bytes ++ left)) (λ all left. IsFed [] p.decoder all left × (p.minor ≡ minor_of all))
      (told_bytes old new bytes (GivesHeader (Ok header)) gives reads)
      (λ all left came. (subst (λ s. IsFed [] s all left) (sym place) (fed_none header all left bytes is came.1), minor ∙ came.0.1));
}

pub plays_none : (p : Player) (file left : Option (List ℕ)) → HasReplayed p [] → HasRead p [] file left → Plays p [] file left
unfolding frames
plays_none p file left replayed read = record { fed = []; replayed = replayed; read = read; shows = refl; few = omega arith; bound = omega arith }

none_begins : (all : List ℕ) → BeginsWith [] all
none_begins all = record { later = blocks_of all; is = refl }

pub header_stops_walk : (why : DecodeFault) (old new : Option (List ℕ)) → IfTold old new (GivesHeader (Err why)) → StopsInHeader old new why → IfTold old new (StopsBehind [] (of_decoder why))
header_stops_walk (decoder.Bad fault block offset) old new gives stops =
    told_if old new (GivesHeader (Err (decoder.Bad fault block offset))) (StopsBehind [] (play.Bad fault block offset)) gives
    (λ all left is. record { begins = none_begins all; stops = judged_end [] all (bad fault block offset) refl is })
header_stops_walk decoder.ReadFault old new gives stops =
    told_if old new (IsGiven []) (StopsBehind [] play.ReadFault) (header_stops old new (GivesHeader (Err decoder.ReadFault)) gives stops)
    (λ all left given. record { begins = none_begins all; stops = given })
header_stops_walk decoder.WantMemory old new gives stops = absurd stops

-- ---- the next block

pub fed_begins : (fed : List Whole) (stage : Stage) (all rest : List ℕ) → IsFed fed stage all rest → BeginsWith fed all
fed_begins fed stage all rest f = record { later = coming stage rest; is = fed_blocks fed stage all rest f }

longer_by : (fed : List Whole) (w : Whole) → length (fed ++ w ∷ []) ≡ length fed + 1
longer_by fed w = length-append fed (w ∷ [])

pub read_more : (old new : Player) (fed : List Whole) (raw : Raw) (file left rest : Option (List ℕ)) → HasRead old fed file left → IsBlockAt old.decoder raw →
    new.decoder ≡ behind old.decoder raw → new.minor ≡ old.minor → IfTold left rest (Gives old.decoder (Ok (Some raw))) → Consumes left rest raw.bytes.now → HasRead new (fed ++ item_of raw ∷ []) file rest
read_more old new fed raw file left rest r here goes minor gives reads = record {
  place = subst (IsBehind (length (fed ++ item_of raw ∷ []))) (sym goes) (behind_more (length fed) (length (fed ++ item_of raw ∷ [])) old.decoder raw r.place (omega (arith, longer_by fed (item_of raw))));
  told = told_through file left rest (λ all left. IsFed fed old.decoder all left × (old.minor ≡ minor_of all)) (λ left rest. Gives old.decoder (Ok (Some raw)) left rest × (left ≡ raw.bytes.now ++ rest))
      (λ all rest. IsFed (fed ++ item_of raw ∷ []) new.decoder all rest × (new.minor ≡ minor_of all)) r.told (told_bytes left rest raw.bytes.now (Gives old.decoder (Ok (Some raw))) gives reads)
      (λ all left rest was came. (
        subst (λ s. IsFed (fed ++ item_of raw ∷ []) s all rest) (sym goes) (fed_more fed (item_of raw) old.decoder (behind old.decoder raw) all left rest was.0 (block_comes old.decoder raw here) came.1),
        minor ∙ was.1,
      ));
}

valid_of : (p : Player) (fed : List Whole) → HasReplayed p fed → is_valid (history_of fed) ≡ true
valid_of p fed r = r.replays.stands.valid

pub read_stops : (p : Player) (fed : List Whole) (why : DecodeFault) (file left rest : Option (List ℕ)) → is_valid (history_of fed) ≡ true → HasRead p fed file left → IfTold left rest (Gives p.decoder (Err why)) →
    ((minor : ℕ) (at : Position) → p.decoder ≡ At minor at → StopsAt minor at left rest why) → IfTold file rest (StopsBehind fed (of_decoder why))
read_stops p fed (decoder.Bad fault block offset) file left rest valid r gives stops =
    told_through file left rest _ (Gives p.decoder (Err (decoder.Bad fault block offset))) (StopsBehind fed (play.Bad fault block offset)) r.told gives
    (λ all left rest was is. record {
      begins = fed_begins fed p.decoder all left was.0;
      stops = judged_end fed all (bad fault block offset) valid (fed_blocks fed p.decoder all left was.0 ∙ ap (with_items fed) is);
    })
read_stops p fed decoder.ReadFault file left rest valid r gives stops =
    told_through file left rest _ (GivesNone p.decoder) (StopsBehind fed play.ReadFault) r.told (told_stop (length fed) p.decoder left rest (Gives p.decoder (Err decoder.ReadFault)) r.place gives stops)
    (λ all left rest was none. record { begins = fed_begins fed p.decoder all left was.0; stops = stops_behind fed p.decoder all left rest was.0 none })
read_stops p fed decoder.WantMemory file left rest valid r gives stops =
    told_through file left rest _ (Gives p.decoder (Err decoder.WantMemory)) (StopsBehind fed play.WantMemory) r.told gives
    (λ all left rest was is. record { begins = fed_begins fed p.decoder all left was.0; stops = tt })

pub read_ends : (p : Player) (fed : List Whole) (file left rest : Option (List ℕ)) → is_valid (history_of fed) ≡ true → HasRead p fed file left → IfTold left rest (Gives p.decoder (Ok None)) → IsAtEnd rest →
    IfTold file rest (λ all rest. EndsBehind fed clean all × (rest ≡ []))
read_ends p fed file left rest valid r gives ends =
    told_through file left rest _ (λ left rest. Gives p.decoder (Ok None) left rest × (rest ≡ [])) (λ all rest. EndsBehind fed clean all × (rest ≡ [])) r.told
    (told_end left rest (Gives p.decoder (Ok None)) gives ends)
    (λ all left rest was none. (judged_end fed all clean valid (fed_blocks fed p.decoder all left was.0 ∙ ap (with_items fed) none.0), none.1))

-- ---- a block that is replayed

-- a list of one frame, or of none
abbrev pub list_of : Option Frame → List Frame
list_of None = []
list_of (Some f) = f ∷ []

frames_more : (h : List Event) (c : Content) → frames (content_onto c h) ≡ frames h ++ list_of (frame_by h c)
unfolding frames
frames_more h skipped = sym (append-nil (frames h))
frames_more h (effect thread (QueuePresentKHR queue waits presents)) = refl
frames_more h (effect thread _) = sym (append-nil (frames h))

-- the history of one block more
pub history_more : (fed : List Whole) (w : Whole) → history_of (fed ++ w ∷ []) ≡ content_onto w.content (history_of fed)
history_more fed w = onto_parts fed (w ∷ []) []

-- and its frames
pub frames_with : (fed : List Whole) (w : Whole) (o : Option Frame) → frame_by (history_of fed) w.content ≡ o → frames (history_of (fed ++ w ∷ [])) ≡ frames (history_of fed) ++ list_of o
frames_with fed w o is = ap frames (history_more fed w) ∙ frames_more (history_of fed) w.content ∙ ap (λ o. frames (history_of fed) ++ list_of o) is

frames_same : (fed : List Whole) (w : Whole) → frame_by (history_of fed) w.content ≡ None → frames (history_of (fed ++ w ∷ [])) ≡ frames (history_of fed)
frames_same fed w is = frames_with fed w None is ∙ append-nil (frames (history_of fed))

pub first_more : (fs : List Frame) (f : Frame) → Some (unwrap_or (first_of fs) f.number) ≡ first_of (fs ++ f ∷ [])
first_more [] f = refl
first_more (g ∷ fs) f = refl

pub fault_is : (r : Replayer) (h : List Event) (c : Content) → StandsFor r h → broken_by (answers r.tracker) c ≡ content_fault h c
fault_is r h skipped s = refl
fault_is r h (effect thread e) s = ap (λ (v : View). first_broken v (checks_of e)) s.stands.answers_same

-- a block that shows a frame
pub one_replayed : (old new : Player) (fed : List Whole) (w : Whole) (shown : ShownFrame) → HasReplayed old fed → IsReplayed new.replayer (history_of fed) w.content (Some shown) →
    new.first ≡ Some (unwrap_or old.first shown.number) → content_fault (history_of fed) w.content ≡ None → Replays new fed w (Some shown)
one_replayed old new fed w shown was took first fine =
    let f = frame_of (bytes_of new.replayer) shown in
    record {
      replayed = record {
        replays = subst (StandsFor new.replayer) (sym (history_more fed w)) took.stands;
        first = first ∙ ap (λ o. Some (unwrap_or o shown.number)) was.first ∙ first_more (frames (history_of fed)) f ∙ ap first_of (sym (frames_with fed w (Some f) (sym took.shows.same)));
      };
      shows = took.shows;
      fine = fine;
    }

-- a block that shows none
pub none_replayed : (old new : Player) (fed : List Whole) (w : Whole) → HasReplayed old fed → IsReplayed new.replayer (history_of fed) w.content None →
    new.first ≡ old.first → content_fault (history_of fed) w.content ≡ None → Replays new fed w None
none_replayed old new fed w was took first fine = record {
  replayed = record {
    replays = subst (StandsFor new.replayer) (sym (history_more fed w)) took.stands;
    first = first ∙ was.first ∙ ap first_of (sym (frames_same fed w (sym took.shows.same)));
  };
  shows = took.shows;
  fine = fine;
}

-- what was replayed, or read, of a player that is alike
pub replayed_alike : (old new : Player) (fed : List Whole) → IsReplayedAlike old new → HasReplayed old fed → HasReplayed new fed
replayed_alike old new fed same r = record {
  replays = subst (λ r. StandsFor r (history_of fed)) (sym same.replayer) r.replays;
  first = same.first ∙ r.first;
}

pub read_alike : (old new : Player) (fed : List Whole) (file left : Option (List ℕ)) → IsReadAlike old new → HasRead old fed file left → HasRead new fed file left
read_alike old new fed file left same r = record {
  place = subst (IsBehind (length fed)) (sym same.decoder) r.place;
  told = told_if file left _ (λ all rest. IsFed fed new.decoder all rest × (new.minor ≡ minor_of all)) r.told
      (λ all rest was. (subst (λ s. IsFed fed s all rest) (sym same.decoder) was.0, same.minor ∙ was.1));
}

pub refused_stops : (new : Player) (fed : List Whole) (w : Whole) (why : PlayFault) (file left : Option (List ℕ)) → is_valid (history_of fed) ≡ true → HasRead new (fed ++ w ∷ []) file left →
    IsReplayFault why → Refuses (history_of fed) w why → IfTold file left (StopsBehind fed why)
refused_stops new fed w (play.Bad fault block offset) file left valid r kind refuses =
    told_if file left _ (StopsBehind fed (play.Bad fault block offset)) r.told
    (λ all rest was.
    let is = fed_with fed w new.decoder all rest was.0 in
    let end : EndsBehind fed (bad fault w.number w.offset) all = judged_fault fed w (coming new.decoder rest) all fault valid is refuses.2 in
    record {
      begins = record { later = with_item w (coming new.decoder rest); is = is };
      stops = subst (λ n. EndsBehind fed (bad fault n offset) all) (sym refuses.0) (subst (λ n. EndsBehind fed (bad fault w.number n) all) (sym refuses.1) end);
    })
refused_stops new fed w (play.NoSuchFrame first last) file left valid r kind refuses = absurd kind
refused_stops new fed w play.ReadFault file left valid r kind refuses = absurd kind
refused_stops new fed w play.SinkFault file left valid r kind refuses = absurd kind
refused_stops new fed w play.WantMemory file left valid r kind refuses =
    told_if file left _ (StopsBehind fed play.WantMemory) r.told
    (λ all rest was. record { begins = record { later = with_item w (coming new.decoder rest); is = fed_with fed w new.decoder all rest was.0 }; stops = tt })

-- ---- frame by frame

frames_none : (fed : List Whole) → fed ≡ [] → frames (history_of fed) ≡ []
unfolding frames
frames_none fed is = ap (λ fed. frames (history_of fed)) is

-- where a walk stops behind blocks, no frame follows theirs
pub stops_showing : (fed : List Whole) (why : PlayFault) (all left : List ℕ) → is_valid (history_of fed) ≡ true → Stops fed why all left → StopsShowing (frames (history_of fed)) why all left
stops_showing fed (play.Bad fault block offset) all left valid is = record { shows = ap frames is.history; ends = is.ends }
stops_showing fed (play.NoSuchFrame first last) all left valid is = absurd is
stops_showing fed play.ReadFault all left valid g =
    let judged = judged_given fed all left g valid in
    record {
      given = g.given;
      parts = g.parts;
      cut = subst (λ ws. IsUnfinished ws g.given) (sym g.blocks) g.cut;
      lawful = judged.ends;
      shows = ap frames judged.history;
      minor = elim g.minor [ inl none ↦ inl (frames_none fed none) | inr same ↦ inr same ];
    }
stops_showing fed play.SinkFault all left valid is = absurd is
stops_showing fed play.WantMemory all left valid is = tt

pub shows_first : (fed : List Whole) (all : List ℕ) → is_valid (history_of fed) ≡ true → BeginsWith fed all → ShowsFirst (frames (history_of fed)) all
shows_first fed all valid begins =
    let l = longer fed all begins valid in record { later = frames_after (history_of fed) (events_in l.good); is = l.is }

pub stops_shown : (fed : List Whole) (why : PlayFault) (file left : Option (List ℕ)) (p : Player) (shown : List Frame) → HasReplayed p fed → frames (history_of fed) ≡ shown →
    IfTold file left (StopsBehind fed why) → IfTold file left (IsStopped shown why)
stops_shown fed why file left p shown done is told =
    told_if file left (StopsBehind fed why) (IsStopped shown why) told
    (λ all left s. subst (λ fs. IsStopped fs why all left) is
    (record { first = shows_first fed all (valid_of p fed done) s.begins; stops = stops_showing fed why all left (valid_of p fed done) s.stops }))

-- a block more that shows no frame
pub plays_on : (old mid new : Player) (shown : List Frame) (file left rest : Option (List ℕ)) (w : Whole) (p : Plays old shown file left) → HasRead mid (p.fed ++ w ∷ []) file rest → IsReadAlike mid new →
    length p.fed ≤ 2 ^ 33 → Replays new p.fed w None → Plays new shown file rest
plays_on old mid new shown file left rest w p read same few took = record {
  fed = p.fed ++ w ∷ [];
  replayed = took.replayed;
  read = read_alike mid new (p.fed ++ w ∷ []) file rest same read;
  shows = frames_same p.fed w (sym took.shows.same) ∙ p.shows;
  few = omega (arith, p.few, longer_by p.fed w);
  bound = omega (arith, few, longer_by p.fed w);
}

-- and one that shows the next
pub plays_next : (old mid new : Player) (shown : List Frame) (file left rest : Option (List ℕ)) (w : Whole) (frame : ShownFrame) (p : Plays old shown file left) → HasRead mid (p.fed ++ w ∷ []) file rest →
    IsReadAlike mid new → length p.fed ≤ 2 ^ 33 → Replays new p.fed w (Some frame) → ShowsNext new shown frame file rest
plays_next old mid new shown file left rest w frame p read same few took =
    let f = frame_of (bytes_of new.replayer) frame in
    let more : frames (history_of (p.fed ++ w ∷ [])) ≡ shown ++ f ∷ [] = frames_with p.fed w (Some f) (sym took.shows.same) ∙ ap (λ fs. fs ++ f ∷ []) p.shows in
    let here = read_alike mid new (p.fed ++ w ∷ []) file rest same read in
    record {
      plays = record {
        fed = p.fed ++ w ∷ [];
        replayed = took.replayed;
        read = here;
        shows = more;
        few = omega (arith, p.few, longer_by p.fed w, length-append shown (f ∷ []));
        bound = omega (arith, few, longer_by p.fed w);
      };
      there = took.shows.there;
      behind = told_if file rest _ (IsBehindFrame shown f) here.told
          (λ all rest was. record { fed = p.fed; block = w; through = read_through p.fed w new.decoder all rest was.0; before = p.shows; there = more });
    }

-- the file was read to its end
pub has_all : (old new : Player) (shown : List Frame) (file left rest : Option (List ℕ)) (p : Plays old shown file left) → IsReplayedAlike old new →
    IfTold file rest (λ all rest. EndsBehind p.fed clean all × (rest ≡ [])) → IfTold file rest (HasAll new shown)
has_all old new shown file left rest p same told =
    let done = replayed_alike old new p.fed same p.replayed in
    told_if file rest _ (HasAll new shown) told
    (λ all rest end. record {
      just = record { shows = ap frames end.0.history ∙ p.shows; ends = end.0.ends };
      first = done.first ∙ ap first_of p.shows;
      next = ap (λ (v : View). v.next_frame) done.replays.stands.answers_same ∙ ap (λ h. (view h).next_frame) (sym end.0.history);
      read = end.1;
    })

-- no fault came yet
pub still_going : (count : ℕ) (stage : Stage) → IsBehind count stage → IsBehind 0 stage
still_going count Fresh place = absurd place
still_going count (At minor at) place = omega (arith, place)
still_going count (Failed why) place = absurd place

pub going_on : (stage : Stage) (raw : Raw) → IsBehind 0 stage → IsBehind 0 (behind stage raw)
going_on stage raw place = behind_more 0 0 stage raw place (omega arith)

-- no frame was shown before the header
pub none_shown : (why : PlayFault) (old new : Option (List ℕ)) → IfTold old new (StopsBehind [] why) → IfTold old new (IsStopped [] why)
unfolding frames
none_shown why old new told =
    told_if old new (StopsBehind [] why) (IsStopped [] why) told
    (λ all left s. record { first = shows_first [] all refl s.begins; stops = stops_showing [] why all left refl s.stops })

-- the kinds of faults
pub decoder_kind : (why : DecodeFault) → IsWalkFault (of_decoder why)
decoder_kind (decoder.Bad fault block offset) = tt
decoder_kind decoder.ReadFault = tt
decoder_kind decoder.WantMemory = tt

-- ---- what the decoder answers

pub not_fresh : (stage : Stage) → IsBehind 0 stage → stage ≢ Fresh
not_fresh Fresh place is = place
not_fresh (At minor at) place is = cc
not_fresh (Failed why) place is = place

pub not_failed : (stage : Stage) (why : DecodeFault) → IsBehind 0 stage → stage ≢ Failed why
not_failed Fresh why place is = place
not_failed (At minor at) why place is = cc
not_failed (Failed other) why place is = place

pub read_failed : (why : DecodeFault) → of_decoder why ≡ play.ReadFault → why ≡ decoder.ReadFault
read_failed (decoder.Bad fault block offset) is = absurd cc
read_failed decoder.ReadFault is = refl
read_failed decoder.WantMemory is = absurd cc

pub next_some : (old new : Player) (found : Option Raw) (left rest : Option (List ℕ)) → IfSome found (IsBlockAt old.decoder) → Goes old.decoder (Ok found) new.decoder → new.minor ≡ old.minor →
    IfTold left rest (Gives old.decoder (Ok found)) → IfSome found (λ raw. Consumes left rest raw.bytes.now) →
    IfSome found (λ raw. (fed : List Whole) (file : Option (List ℕ)) → HasRead old fed file left → HasRead new (fed ++ item_of raw ∷ []) file rest)
next_some old new None left rest here goes minor gives reads = tt
next_some old new (Some raw) left rest here goes minor gives reads = λ fed file r. read_more old new fed raw file left rest r here goes minor gives reads

pub next_few : (old : Player) (found : Option Raw) (left : Option (List ℕ)) → IfSome found (IsBlockAt old.decoder) → IfSome found (λ raw. raw.number ≤ 2 ^ 33 + 1) →
    IfSome found (λ raw. (fed : List Whole) (file : Option (List ℕ)) → HasRead old fed file left → length fed ≤ 2 ^ 33)
next_few old None left here few = tt
next_few old (Some raw) left here few = λ fed file r. few_behind (length fed) old.decoder raw r.place here few

pub next_fewer : (old new : Stage) (found : Option Raw) → IsBehind 0 old → IfSome found (IsBlockAt old) → IfSome found (λ raw. raw.number ≤ 2 ^ 33 + 1) → Goes old (Ok found) new →
    IfSome found (λ raw. IsBehind 0 new × (blocks_ahead new < blocks_ahead old))
next_fewer old new None place here few goes = tt
next_fewer old new (Some raw) place here few goes = (
  subst (IsBehind 0) (sym goes) (going_on old raw place),
  subst (λ s. blocks_ahead s < blocks_ahead old) (sym goes) (fewer_ahead old raw here few),
)

-- the answer with this block, or the end
abbrev pub ok_of : Option Raw → Result (Option Raw) DecodeFault
ok_of found = Ok found

-- as the walk answers it
abbrev pub walked : Option Raw → Result (Option Raw) PlayFault
walked found = Ok found

pub ok_same : (found : Option Raw) → walked found ≡ Ok None → ok_of found ≡ Ok None
ok_same None is = refl
ok_same (Some raw) is = absurd cc

pub next_none : (p : Player) (found : Option Raw) (left rest : Option (List ℕ)) → ok_of found ≡ Ok None → IfTold left rest (Gives p.decoder (Ok found)) → IsAtEnd rest → (fed : List Whole) (file : Option (List ℕ)) →
    is_valid (history_of fed) ≡ true → HasRead p fed file left → IfTold file rest (λ all rest. EndsBehind fed clean all × (rest ≡ []))
next_none p None left rest is gives ends fed file valid r = read_ends p fed file left rest valid r gives ends
next_none p (Some raw) left rest is gives ends fed file valid r = absurd cc
