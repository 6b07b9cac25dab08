-- A block that is fed to a player, whatever stage of reading it is thought to be at.
use Rattle.std.proofs.Common.{◌≢◌, ℕ, inl, inr, List, [], ◌∷◌, ◌++◌, Option, Some, None, refl, sym, subst, ◌∙◌}
use Rattle.gfx_io.specs.Told.{IfTold}
use Rattle.gfx_types.specs.declared.frame.Frame.{Frame}
use Rattle.gfx_model.specs.Blocks.{Whole}
use Rattle.gfx_replay.specs.declared.shown.ShownFrame.{ShownFrame}
use Rattle.gfx_decode.specs.Stage.{Stage}
use Rattle.gfx_player.specs.declared.fault.PlayFault.{PlayFault}
use Rattle.gfx_player.specs.declared.fault.PlayFault.TheVariants as play
use Rattle.gfx_player.specs.declared.player.Player.{Player}
use Rattle.gfx_player.specs.Ends.{IsStopped}
use Rattle.gfx_player.specs.Faults.{IsReplayFault, IsUnwritten}
use Rattle.gfx_player.specs.Fed.{history_of}
use Rattle.gfx_player.specs.Walks.{HasReplayed, IsReadAlike, IsReplayedAlike, Refuses, Replays, ShowsNext}
use Rattle.gfx_player.proofs.Walking.{plays_next, plays_on, refused_stops, replayed_alike, stops_shown}
use Rattle.gfx_fan.specs.declared.album.Album.{Album}
use Rattle.gfx_fan.specs.Gathered.{Gathering, IsFeedFault, ReadsOn, with_stage}
use Rattle.gfx_fan.proofs.Gathering.{StopsSo, gathered_on}

-- ---- the stage of a player is looked at by reading alone

pub staged_alike : (p : Player) (s : Stage) → IsReplayedAlike (with_stage p s) p
staged_alike p s = record { replayer = refl; first = refl; minor = refl }

alike_staged : (p : Player) (s : Stage) → IsReplayedAlike p (with_stage p s)
alike_staged p s = record { replayer = refl; first = refl; minor = refl }

replays_at : (p : Player) (s : Stage) (fed : List Whole) (w : Whole) (shown : Option ShownFrame) → Replays p fed w shown → Replays (with_stage p s) fed w shown
replays_at p s fed w shown took = record { replayed = replayed_alike p (with_stage p s) (fed ++ w ∷ []) (alike_staged p s) took.replayed; shows = took.shows; fine = took.fine }

pub alike_then : (a b c : Player) → IsReadAlike a b → IsReadAlike b c → IsReadAlike a c
alike_then a b c p q = record { decoder = q.decoder ∙ p.decoder; minor = q.minor ∙ p.minor }

pub alike_none : (a : Player) → IsReadAlike a a
alike_none a = record { decoder = refl; minor = refl }

-- ---- a block more

-- it shows a frame
pub shows_next : (old new : Player) (k : Album) (stage next : Stage) (w : Whole) (f : ShownFrame) (shown : List Frame) (file left rest before middle : Option (List ℕ)) →
    (s : Gathering (with_stage old stage) k shown file left before middle) → ReadsOn old stage next w file left rest → IsReadAlike old new →
    ((fed : List Whole) → HasReplayed old fed → Replays new fed w (Some f)) → ShowsNext (with_stage new next) shown f file rest
shows_next old new k stage next w f shown file left rest before middle s reads same took =
    let fed = s.plays.fed in
    let (read, few) = reads fed s.plays.read in
    plays_next (with_stage old stage) (with_stage old next) (with_stage new next) shown file left rest w f s.plays read (record { decoder = refl; minor = same.minor }) few
    (replays_at new next fed w (Some f) (took fed (replayed_alike (with_stage old stage) old fed (staged_alike old stage) s.plays.replayed)))

-- it shows none
pub shows_none : (old new : Player) (k : Album) (stage next : Stage) (w : Whole) (shown : List Frame) (file left rest before middle : Option (List ℕ)) →
    (s : Gathering (with_stage old stage) k shown file left before middle) → ReadsOn old stage next w file left rest → IsReadAlike old new →
    ((fed : List Whole) → HasReplayed old fed → Replays new fed w None) → Gathering (with_stage new next) k shown file rest before middle
shows_none old new k stage next w shown file left rest before middle s reads same took =
    let fed = s.plays.fed in
    let (read, few) = reads fed s.plays.read in
    gathered_on (with_stage old stage) (with_stage new next) k shown file left rest before middle s
    (plays_on (with_stage old stage) (with_stage old next) (with_stage new next) shown file left rest w s.plays read (record { decoder = refl; minor = same.minor }) few
    (replays_at new next fed w None (took fed (replayed_alike (with_stage old stage) old fed (staged_alike old stage) s.plays.replayed))))
    same.minor

-- it has a rule fault, or there was no memory
pub is_refused : (old : Player) (k : Album) (stage next : Stage) (w : Whole) (why : PlayFault) (shown : List Frame) (file left rest before middle : Option (List ℕ)) →
    (s : Gathering (with_stage old stage) k shown file left before middle) → ReadsOn old stage next w file left rest → IsReplayFault why →
    ((fed : List Whole) → HasReplayed old fed → Refuses (history_of fed) w why) → IfTold file rest (IsStopped shown why)
is_refused old k stage next w why shown file left rest before middle s reads kind refuses =
    let fed = s.plays.fed in
    let (read, few) = reads fed s.plays.read in
    stops_shown fed why file rest (with_stage old stage) shown s.plays.replayed s.plays.shows
    (refused_stops (with_stage old next) fed w why file rest s.plays.replayed.replays.stands.valid read kind (refuses fed (replayed_alike (with_stage old stage) old fed (staged_alike old stage) s.plays.replayed)))

-- ---- the kinds of faults

pub replay_feed : (why : PlayFault) → IsReplayFault why → IsFeedFault why
replay_feed (play.Bad fault block offset) kind = tt
replay_feed (play.NoSuchFrame first last) kind = absurd kind
replay_feed play.ReadFault kind = absurd kind
replay_feed play.SinkFault kind = absurd kind
replay_feed play.WantMemory kind = tt

pub unwritten_feed : (why : PlayFault) → IsUnwritten why → IsFeedFault why
unwritten_feed (play.Bad fault block offset) kind = absurd kind
unwritten_feed (play.NoSuchFrame first last) kind = absurd kind
unwritten_feed play.ReadFault kind = absurd kind
unwritten_feed play.SinkFault kind = tt
unwritten_feed play.WantMemory kind = tt

pub stop_feed : (why answer : PlayFault) (k : Album) (middle after : Option (List ℕ)) → IsReplayFault why → StopsSo why answer k middle after → IsFeedFault answer
stop_feed why answer k middle after kind (inl (same, took)) = subst IsFeedFault (sym same) (replay_feed why kind)
stop_feed why answer k middle after kind (inr (unwritten, part)) = unwritten_feed answer unwritten

pub replay_writes : (why : PlayFault) → IsReplayFault why → why ≢ play.SinkFault
replay_writes (play.Bad fault block offset) kind is = cc
replay_writes (play.NoSuchFrame first last) kind is = kind
replay_writes play.ReadFault kind is = kind
replay_writes play.SinkFault kind is = kind
replay_writes play.WantMemory kind is = cc
