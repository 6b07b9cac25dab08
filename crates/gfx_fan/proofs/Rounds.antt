-- A file that is read and fed group by group.
use Rattle.std.proofs.Common.{◌≡◌, ◌≢◌, ◌⊎◌, ℕ, inl, inr, false, List, length, Option, Some, None, Result, Ok, Err, refl, sym, ap, subst, ◌∙◌, arith}
use Rattle.std.specs.Io.KnownBytes.{Consumes, IsAtEnd}
use Rattle.gfx_io.specs.Told.{IfTold}
use Rattle.gfx_types.specs.declared.frame.Frame.{Frame}
use Rattle.gfx_model.specs.Blocks.{Position, minor_of}
use Rattle.gfx_frames.proofs.SoFar.{so_far_front}
use Rattle.gfx_decode.specs.Decoding.{Gives}
use Rattle.gfx_decode.specs.Reachable.{IsBehind}
use Rattle.gfx_decode.specs.Reading.{ReadsSome, StopsAt}
use Rattle.gfx_decode.specs.Stage.{Stage, At}
use Rattle.gfx_decode.specs.declared.fault.DecodeFault.{DecodeFault}
use Rattle.gfx_decode.specs.declared.fault.DecodeFault.TheVariants as decoder
use Rattle.gfx_decode.proofs.Finding.{one_of_two, stops_there}
use Rattle.gfx_decode.proofs.Told.{told_if}
use Rattle.gfx_player.specs.declared.asked.Asked.TheVariants as asked
use Rattle.gfx_player.specs.declared.fault.PlayFault.{PlayFault}
use Rattle.gfx_player.specs.declared.fault.PlayFault.TheVariants as play
use Rattle.gfx_player.specs.declared.player.Player.{Player}
use Rattle.gfx_player.specs.Ends.{IsStopped}
use Rattle.gfx_player.specs.Faults.{IsUnwritten, of_decoder}
use Rattle.gfx_player.specs.Fed.{IsFed}
use Rattle.gfx_player.specs.Walks.{HasAll, IsAtBlock, IsReadAlike, IsReplayedAlike}
use Rattle.gfx_player.proofs.Playing.{plays_going, room_for}
use Rattle.gfx_player.proofs.Walking.{has_all, read_alike, read_ends, read_stops, replayed_alike, stops_shown}
use Rattle.gfx_play.specs.Shows.{Answers}
use Rattle.gfx_fan.specs.declared.album.Album.{Album}
use Rattle.gfx_fan.specs.declared.group.Ending.{Ending}
use Rattle.gfx_fan.specs.declared.group.Ending.TheVariants.{Full, Clean, Stopped}
use Rattle.gfx_fan.specs.Gathered.{Gathering, IsReplaying, StopsAny, with_stage}
use Rattle.gfx_fan.specs.Groups.{Ends, held}
use Rattle.gfx_fan.specs.Walked.{Came, IsReady}
use Rattle.gfx_fan.proofs.Feeding.{staged_alike}
use Rattle.gfx_fan.proofs.Gathering.{StopsSo, gathered_on, unwritten}
use Rattle.gfx_fan.proofs.Grouping.{held_told}

-- ---- before the blocks of a group are fed

-- the walk was before the blocks of the group, in the same file
pub gathered_held : (was p : Player) (k : Album) (shown : List Frame) (at : Position) (bytes : List ℕ) (file left middle before after : Option (List ℕ)) → Gathering was k shown file left before after →
    was.decoder ≡ At was.minor at → IsReplayedAlike was p → Consumes left middle bytes → Gathering (with_stage p (At p.minor at)) k shown file (held bytes middle) before after
gathered_held was p k shown at bytes file left middle before after s place same took =
    let v = with_stage p (At p.minor at) in
    let here : was.decoder ≡ At p.minor at = place ∙ ap (λ m. At m at) (sym same.minor) in
    gathered_on was v k shown file left (held bytes middle) before after s
    (record {
      fed = s.plays.fed;
      replayed = replayed_alike was v s.plays.fed (record { replayer = same.replayer; first = same.first; minor = same.minor }) s.plays.replayed;
      read = record {
        place = subst (IsBehind (length s.plays.fed)) here s.plays.read.place;
        told = held_told bytes file left middle (λ all rest. IsFed s.plays.fed (At p.minor at) all rest × (p.minor ≡ minor_of all)) took
            (told_if file left _ (λ all rest. IsFed s.plays.fed (At p.minor at) all rest × (p.minor ≡ minor_of all)) s.plays.read.told
            (λ all rest was_so. (subst (λ t. IsFed s.plays.fed t all rest) here was_so.0, same.minor ∙ was_so.1)));
      };
      shows = s.plays.shows;
      few = s.plays.few;
      bound = s.plays.bound;
    })
    same.minor

pub still_replaying : (was p : Player) → IsReplaying was → IsReplayedAlike was p → IsReplaying p
still_replaying was p (fed, replayed) same = (fed, replayed_alike was p fed same replayed)

pub has_version : (was p : Player) → IsAtBlock was → IsReplayedAlike was p → (p.minor ≡ 1) ⊎ (p.minor ≡ 2)
has_version was p here same = one_of_two p.minor (omega (arith, here.low, same.minor)) (omega (arith, here.high, same.minor))

pub is_ready : (p : Player) (k : Album) (shown : List Frame) (file left before after : Option (List ℕ)) → Gathering p k shown file left before after → IsAtBlock p → IsReady p k
is_ready p k shown file left before after s place = record {
  place = place;
  going = plays_going p shown file left s.plays;
  replaying = (s.plays.fed, s.plays.replayed);
  listed = record { small = s.small; plain_is = ap (λ l. l.pixels) s.listing };
  room = omega (arith, room_for asked.All p shown file left k.screen.count s.plays s.count);
}

-- ---- no memory for a group

told_reads : (file left rest : Option (List ℕ)) (P Q : List ℕ → List ℕ → Type 0) → IfTold file left P → ReadsSome left rest → ((all left rest : List ℕ) → P all left → Q all rest) → IfTold file rest Q
told_reads None left rest P Q told reads f = tt
told_reads (Some all) None rest P Q told reads f = absurd told
told_reads (Some all) (Some left) None P Q told reads f = absurd reads.1
told_reads (Some all) (Some left) (Some rest) P Q told reads f = f all left rest told

pub no_group : (p : Player) (k : Album) (shown : List Frame) (file left rest before after : Option (List ℕ)) → Gathering p k shown file left before after → ReadsSome left rest →
    IfTold file rest (Answers asked.All false before after (Err play.WantMemory))
no_group p k shown file left rest before after s reads =
    told_reads file left rest _ (Answers asked.All false before after (Err play.WantMemory)) (unwritten p shown play.WantMemory file left before after s.plays tt (so_far_front before after _ _ s.text)) reads (λ all left rest is. is)

-- ---- after a group that wasn't fed whole

ends_told : (m : ℕ) (end : Position) (ending : Ending) (stage : Stage) (file middle new : Option (List ℕ)) (P Q : List ℕ → List ℕ → Type 0) → Ends m end ending stage middle new → IfTold file middle P →
    ((all left rest : List ℕ) → P all left → Q all rest) → IfTold file new Q
ends_told m end Full stage file middle new P Q ends told f = subst (λ l. IfTold file l Q) (sym ends.1) (told_if file middle P Q told (λ all left is. f all left left is))
ends_told m end Clean stage None middle new P Q ends told f = tt
ends_told m end Clean stage (Some all) None new P Q ends told f = absurd told
ends_told m end Clean stage (Some all) (Some left) None P Q ends told f = absurd ends.0
ends_told m end Clean stage (Some all) (Some left) (Some rest) P Q ends told f = f all left rest told
ends_told m end (Stopped why) stage None middle new P Q ends told f = tt
ends_told m end (Stopped why) stage (Some all) None new P Q ends told f = absurd told
ends_told m end (Stopped why) stage (Some all) (Some left) None P Q ends told f = absurd ends.0
ends_told m end (Stopped why) stage (Some all) (Some left) (Some rest) P Q ends told f = f all left rest told

pub group_stops : (m : ℕ) (end : Position) (ending : Ending) (stage : Stage) (why : PlayFault) (file middle new before after : Option (List ℕ)) → Ends m end ending stage middle new → IfTold file middle (StopsAny why before after) →
    IfTold file new (Answers asked.All false before after (Err why))
group_stops m end ending stage why file middle new before after ends told =
    ends_told m end ending stage file middle new (StopsAny why before after) (Answers asked.All false before after (Err why)) ends told (λ all left rest is. is rest)

-- ---- after a group that was

-- the walk goes on behind it
pub gathered_whole : (p : Player) (k : Album) (m : ℕ) (end : Position) (shown : List Frame) (file middle before after : Option (List ℕ)) → Gathering (with_stage p (At m end)) k shown file middle before after →
    p.decoder ≡ At m end → Gathering p k shown file middle before after
gathered_whole p k m end shown file middle before after s place =
    let v = with_stage p (At m end) in
    gathered_on v p k shown file middle middle before after s
    (record {
      fed = s.plays.fed;
      replayed = replayed_alike v p s.plays.fed (staged_alike p (At m end)) s.plays.replayed;
      read = read_alike v p s.plays.fed file middle (record { decoder = place; minor = refl }) s.plays.read;
      shows = s.plays.shows;
      few = s.plays.few;
      bound = s.plays.bound;
    })
    refl

-- the file ends behind it
pub all_fed : (p : Player) (k : Album) (m : ℕ) (end : Position) (shown : List Frame) (file middle new before after : Option (List ℕ)) → Gathering (with_stage p (At m end)) k shown file middle before after →
    IfTold middle new (Gives (At m end) (Ok None)) → IsAtEnd new → IfTold file new (HasAll p shown)
all_fed p k m end shown file middle new before after s gives ends =
    has_all (with_stage p (At m end)) p shown file middle new s.plays (staged_alike p (At m end))
    (read_ends (with_stage p (At m end)) s.plays.fed file middle new s.plays.replayed.replays.stands.valid s.plays.read gives ends)

-- the next block has a fault
pub next_stops : (p : Player) (k : Album) (m : ℕ) (end : Position) (why : DecodeFault) (shown : List Frame) (file middle new before after : Option (List ℕ)) → Gathering (with_stage p (At m end)) k shown file middle before after →
    IfTold middle new (Gives (At m end) (Err why)) → StopsAt m end middle new why → IfTold file new (IsStopped shown (of_decoder why))
next_stops p k m end why shown file middle new before after s gives stops =
    stops_shown s.plays.fed (of_decoder why) file new (with_stage p (At m end)) shown s.plays.replayed s.plays.shows
    (read_stops (with_stage p (At m end)) s.plays.fed why file middle new s.plays.replayed.replays.stands.valid s.plays.read gives
    (λ n there is. stops_there (At m end) m n end there middle new why refl is stops))

-- where the walk came to
pub came_to : (n : ℕ) (q p : Player) (k : Album) (end : Position) (ending : Ending) (shown : List Frame) (file middle new before after : Option (List ℕ)) → q.minor ≡ n → IsReadAlike q p →
    Gathering (with_stage p (At q.minor end)) k shown file middle before after → Ends n end ending q.decoder middle new → Came ending p k shown file new before after
came_to n q p k end ending shown file middle new before after same alike s ends =
    by ending (subst (λ m. Ends m end ending q.decoder middle new) (sym same) ends)
  where
    by : (e : Ending) → Ends q.minor end e q.decoder middle new → Came e p k shown file new before after
    by Full (place, none) = subst (λ l. Gathering p k shown file l before after) (sym none) (gathered_whole p k q.minor end shown file middle before after s (alike.decoder ∙ place))
    by Clean (gives, stops) = (with_stage p (At q.minor end), middle, s, all_fed p k q.minor end shown file middle new before after s gives stops)
    by (Stopped why) (gives, stops) = (with_stage p (At q.minor end), middle, s, next_stops p k q.minor end why shown file middle new before after s gives stops)

ok_of : {T E : Type 0} → T → Result T E → T
ok_of d (Ok x) = x
ok_of d (Err e) = d

-- what was answered is one
pub ok_same : {T E : Type 0} (a b : T) (r : Result T E) → r ≡ Ok a → r ≡ Ok b → a ≡ b
unfolding ok_of
ok_same a b r p q = ap (ok_of a) (sym p ∙ q)

-- it is before a block again
pub walks_on : (was q p : Player) (end : Position) (ending : Ending) (middle new : Option (List ℕ)) → IsAtBlock was → q.minor ≡ was.minor → IsReadAlike q p → ending ≡ Full →
    Ends was.minor end ending q.decoder middle new → IsAtBlock p
walks_on was q p end ending middle new here same alike is ends = by ending is ends
  where
    by : (e : Ending) → e ≡ Full → Ends was.minor end e q.decoder middle new → IsAtBlock p
    by Full is (place, none) = record {
      at = end;
      place = alike.decoder ∙ place ∙ ap (λ m. At m end) (sym same ∙ sym alike.minor);
      low = omega (arith, here.low, same, alike.minor);
      high = omega (arith, here.high, same, alike.minor);
    }
    by Clean is ends = absurd cc
    by (Stopped why) is ends = absurd cc

-- ---- causes

pub decoder_writes : (why : DecodeFault) → of_decoder why ≢ play.SinkFault
decoder_writes (decoder.Bad fault block offset) is = cc
decoder_writes decoder.ReadFault is = cc
decoder_writes decoder.WantMemory is = cc

-- a walk that stops for this reason had a failed read
pub stops_reading : (why answer : PlayFault) (k : Album) (middle after : Option (List ℕ)) → StopsSo why answer k middle after → answer ≡ play.ReadFault → why ≡ play.ReadFault
stops_reading why answer k middle after (inl (same, took)) is = sym same ∙ is
stops_reading why answer k middle after (inr (kind, part)) is = absurd (subst IsUnwritten is kind)
