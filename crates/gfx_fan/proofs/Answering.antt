-- What comes of the payloads of a group: a bad block, or as many blocks as places.
use Rattle.std.proofs.Common.{◌≡◌, ◌+◌, ◌<◌, ◌≤◌, ℕ, List, [], ◌∷◌, ◌++◌, length, map, take, drop, get_or, Option, Some, None, refl, sym, ap, subst, ◌∙◌, length-append, drop_at, length-take-le, arith}
use Rattle.std.specs.List.{All}
use Rattle.std.proofs.lemmas.List.{length-map}
use Rattle.std.proofs.lemmas.List.Elements.{All-take}
use Rattle.gfx_io.specs.Told.{IfTold}
use Rattle.gfx_types.specs.declared.effect.Block.{Block}
use Rattle.gfx_types.specs.declared.names.Fault.{Fault}
use Rattle.gfx_types.specs.declared.frame.Frame.{Frame}
use Rattle.gfx_model.specs.Blocks.{Position}
use Rattle.gfx_grammar.specs.Rows.{read_content}
use Rattle.gfx_grammar.specs.Splitting.{breaks, front, payload_fault}
use Rattle.gfx_blocks.specs.Payloads.{content_of}
use Rattle.gfx_decode.specs.Reading.{StopsAt}
use Rattle.gfx_decode.specs.Stage.{At}
use Rattle.gfx_decode.specs.declared.fault.DecodeFault.TheVariants as decoder
use Rattle.gfx_decode.proofs.Finding.{breaks_payload, gives_fault, room_left, stops_there}
use Rattle.gfx_decode.proofs.Steps.{stops_behind}
use Rattle.gfx_player.specs.declared.fault.PlayFault.{PlayFault}
use Rattle.gfx_player.specs.declared.fault.PlayFault.TheVariants as play
use Rattle.gfx_player.specs.declared.player.Player.{Player}
use Rattle.gfx_player.specs.Ends.{IsStopped}
use Rattle.gfx_player.proofs.Walking.{read_stops, stops_shown}
use Rattle.gfx_fan.specs.declared.album.Album.{Album}
use Rattle.gfx_fan.specs.declared.decode.Framed.{Framed}
use Rattle.gfx_fan.specs.declared.group.Group.{Group}
use Rattle.gfx_fan.specs.declared.group.Spot.{Spot}
use Rattle.gfx_fan.specs.Decoded.{IsFirstBad, IsInside, payload_at, said}
use Rattle.gfx_frames.proofs.SoFar.{so_far_front}
use Rattle.gfx_fan.specs.Gathered.{Gathering, IsGathered, StopsAny, with_stage}
use Rattle.gfx_fan.proofs.Gathering.{StopsSo, stopped_any, unwritten}
use Rattle.gfx_fan.specs.Groups.{AreKept, IsKept, Remains, held}
use Rattle.gfx_fan.proofs.Grouping.{took_none, payload_is, held_takes, told_held, drop_here}

-- ---- a bad block

-- the next block of a group says nothing
pub record BadBlock (m : ℕ) (s : Spot) (fault : Fault) (at : Position) (rest : List ℕ) : Type 0 where
  pub from : ℕ
  pub block : List ℕ
  pub later : List ℕ
  pub here : Framed
  pub parts : rest ≡ block ++ later
  pub is : IsKept at from block here s
  pub none : read_content m here.framing.kind (drop 12 block) ≡ None
  pub because : fault ≡ payload_fault here.framing.kind (drop 12 block)

bad_of : (m : ℕ) (all : List ℕ) (end at : Position) (front rest : List ℕ) (f : Framed) (s : Spot) (fs : List Framed) (ss : List Spot) (fault : Fault) → all ≡ front ++ rest →
    AreKept at (length front) rest (f ∷ fs) (s ∷ ss) end → said m all f ≡ None → fault ≡ payload_fault f.framing.kind (payload_at all f) → BadBlock m s fault at rest
bad_of m all end at front rest f s fs ss fault parts (block, later, is, here, more) none because =
    let whole : all ≡ front ++ (block ++ later) = parts ∙ ap (λ l. front ++ l) is in
    let payload = payload_is at front block later all f s here whole in
    record {
      from = length front;
      block = block;
      later = later;
      here = f;
      parts = is;
      is = here;
      none = ap (read_content m f.framing.kind) (sym payload) ∙ none;
      because = because ∙ ap (payload_fault f.framing.kind) payload;
    }

pub bad_block : (m : ℕ) (p : Player) (k : Album) (g : Group) (i : ℕ) (end : Position) (s : Spot) (fault : Fault) (file middle before after : Option (List ℕ)) → (r : Remains m p k g i end file middle before after) →
    IsFirstBad m g.bytes.items g.places.items fault i → i < length g.spots.items → s ≡ get_or g.spots.items i s → BadBlock m s fault r.at r.rest
bad_block m p k g i end s fault file middle before after r bad below is =
    let spots : drop i g.spots.items ≡ s ∷ drop (i + 1) g.spots.items = drop_here g.spots.items i s below ∙ ap (λ t. t ∷ drop (i + 1) g.spots.items) (sym is) in
    let places : drop i g.places.items ≡ bad.here ∷ bad.later = ap (drop i) bad.parts ∙ drop_at bad.before (bad.here ∷ bad.later) i (sym bad.counted) in
    bad_of m g.bytes.items end r.at r.front r.rest bad.here s bad.later (drop (i + 1) g.spots.items) fault r.parts
    (subst (λ ts. AreKept r.at (length r.front) r.rest (bad.here ∷ bad.later) ts end) spots (subst (λ es. AreKept r.at (length r.front) r.rest es (drop i g.spots.items) end) places r.kept))
    bad.none bad.because

-- the first bad place is one of the places
pub bad_below : (m : ℕ) (bytes : List ℕ) (places : List Framed) (fault : Fault) (i : ℕ) → IsFirstBad m bytes places fault i → i < length places
bad_below m bytes places fault i bad = omega (arith, bad.counted, ap length bad.parts, length-append bad.before (bad.here ∷ bad.later))

pub first_bad_of : (m n : ℕ) (bytes all : List ℕ) (places some : List Framed) (fault : Fault) (i : ℕ) → n ≡ m → all ≡ bytes → some ≡ places → IsFirstBad n all some fault i → IsFirstBad m bytes places fault i
first_bad_of m n bytes all places some fault i version same front bad =
    subst (λ fs. IsFirstBad m bytes fs fault i) front (subst (λ bs. IsFirstBad m bs some fault i) same (subst (λ v. IsFirstBad v all some fault i) version bad))

front_breaks : (m : ℕ) (s : Spot) (fault : Fault) (at : Position) (rest : List ℕ) (left : Option (List ℕ)) → (b : BadBlock m s fault at rest) →
    StopsAt m at (held (b.block ++ b.later) left) (held (b.block ++ b.later) left) (decoder.Bad fault s.number s.offset)
front_breaks m s fault at rest left b =
    let f = b.here in
    let framed = b.is.framed in (
      b.is.number,
      b.is.offset,
      stops_behind (λ xs. front m at xs ≡ breaks at fault) (held (b.block ++ b.later) left) (held b.later left) b.block (held_takes b.block b.later left)
          (λ more. breaks_payload m at f.framing.kind f.framing.size b.block (drop 12 b.block) more fault framed refl (room_left at f.framing.kind f.framing.size b.block (drop 12 b.block) framed refl b.is.counted) b.none b.because),
    )

-- the file ends there
pub bad_stops : (m : ℕ) (p : Player) (k : Album) (s : Spot) (fault : Fault) (at : Position) (rest : List ℕ) (shown : List Frame) (file left before after : Option (List ℕ)) → BadBlock m s fault at rest →
    (g : Gathering (with_stage p (At m at)) k shown file (held rest left) before after) → IfTold file (held rest left) (IsStopped shown (play.Bad fault s.number s.offset))
bad_stops m p k s fault at rest shown file left before after b g =
    let why = decoder.Bad fault s.number s.offset in
    let here = subst (λ l. StopsAt m at (held l left) (held l left) why) (sym b.parts) (front_breaks m s fault at rest left b) in
    stops_shown g.plays.fed (play.Bad fault s.number s.offset) file (held rest left) (with_stage p (At m at)) shown g.plays.replayed g.plays.shows
    (read_stops (with_stage p (At m at)) g.plays.fed why file (held rest left) (held rest left) g.plays.replayed.replays.stands.valid g.plays.read
    (gives_fault (At m at) m at (held rest left) (held rest left) why refl ([], took_none (held rest left)) here)
    (λ n there is. stops_there (At m at) m n at there (held rest left) (held rest left) why refl is here))

-- ---- as many blocks as places

-- the blocks of the first places
pub record AreDecoded (m : ℕ) (bytes : List ℕ) (places : List Framed) (found : List Block) (n : ℕ) : Type 0 where
  pub count : length found ≡ n
  pub said_so : map (said m bytes) (take (length found) places) ≡ map (λ b. Some (content_of b)) found

pub are_decoded : (m k : ℕ) (bytes all : List ℕ) (places some : List Framed) (blocks found : List Block) (n : ℕ) → n ≤ length places → k ≡ m → all ≡ bytes → some ≡ take n places → found ≡ blocks →
    map (said k all) some ≡ map (λ (b : Block). Some (content_of b)) blocks → AreDecoded m bytes places found n
are_decoded m k bytes all places some blocks found n few version same front lent said_so =
    let count : length found ≡ n =
    ap length lent ∙ sym (length-map blocks (λ (b : Block). Some (content_of b))) ∙ sym (ap length said_so) ∙ length-map some (said k all) ∙ ap length front ∙ length-take-le n places few in
    record {
      count = count;
      said_so = ap (λ j. map (said m bytes) (take j places)) count ∙ ap (map (said m bytes)) (sym front) ∙ ap (λ bs. map (said m bs) some) (sym same) ∙ ap (λ v. map (said v all) some) (sym version) ∙ said_so
          ∙ ap (map (λ (b : Block). Some (content_of b))) (sym lent);
    }

-- the first payloads lie in the bytes, as all do
pub inside_front : (bytes all : List ℕ) (places some : List Framed) (n : ℕ) → all ≡ bytes → some ≡ take n places → All (IsInside bytes) places → All (IsInside all) some
inside_front bytes all places some n same front inside =
    subst (λ fs. All (IsInside all) fs) (sym front) (subst (λ bs. All (IsInside bs) (take n places)) (sym same) (All-take (IsInside bytes) n places inside))

-- there was no memory for the blocks
pub no_blocks : (p : Player) (k : Album) (shown : List Frame) (bytes : List ℕ) (file left before after : Option (List ℕ)) → Gathering p k shown file (held bytes left) before after →
    IfTold file left (StopsAny play.WantMemory before after)
no_blocks p k shown bytes file left before after s =
    told_held bytes file left _ (StopsAny play.WantMemory before after) (unwritten p shown play.WantMemory file (held bytes left) before after s.plays tt (so_far_front before after _ _ s.text)) (λ all some rest is more. is)

-- the answer to a bad block of a group
pub bad_answers : (m : ℕ) (p : Player) (k : Album) (s : Spot) (fault : Fault) (why answer : PlayFault) (at : Position) (rest : List ℕ) (file left before middle after : Option (List ℕ)) → BadBlock m s fault at rest →
    IsGathered p k (At m at) file (held rest left) before middle → why ≡ play.Bad fault s.number s.offset → StopsSo why answer k middle after → IfTold file left (StopsAny answer before after)
bad_answers m p k s fault why answer at rest file left before middle after b (shown, g) is so =
    told_held rest file left (StopsAny answer before after) (StopsAny answer before after)
    (stopped_any (with_stage p (At m at)) k shown (play.Bad fault s.number s.offset) answer file (held rest left) (held rest left) before middle after g
    (bad_stops m p k s fault at rest shown file left before middle b g) tt (subst (λ y. StopsSo y answer k middle after) is so))
    (λ all some rest is more. is more)
