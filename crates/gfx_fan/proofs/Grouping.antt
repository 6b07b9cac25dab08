-- Blocks of a group: read one after another, and fed one after another.
use Rattle.std.proofs.Common.{◌≡◌, ◌⊎◌, ◌+◌, ◌-◌, ◌*◌, ◌<◌, ◌≤◌, ◌^◌, ◌||◌, nat_le, ℕ, zero, suc, inl, inr, Bool, true, false, List, [], ◌∷◌, ◌++◌, length, map, take, drop, get_or, Option, Some, None, Result, refl, sym, ap, subst, ◌∙◌, append_assoc, append-nil, length-append, take_at, drop_at, drop-cons, arith}
use Rattle.std.specs.List.{All}
use Rattle.std.specs.Io.KnownBytes.{Consumes}
use Rattle.std.proofs.KnownBytes.{Consumes-trans}
use Rattle.std.proofs.lemmas.Bool.Decides.{nat_tests}
use Rattle.std.proofs.lemmas.List.Elements.{All-cons, All-nil}
use Rattle.std.proofs.lemmas.List.Sums.{sum_by_push}
use Rattle.gfx_io.specs.Told.{IfTold}
use Rattle.gfx_types.specs.declared.effect.Block.{Block}
use Rattle.gfx_model.specs.Blocks.{Position, Whole, minor_of, next_position}
use Rattle.gfx_grammar.specs.Rows.{read_content}
use Rattle.gfx_grammar.specs.Splitting.{blocks_from, with_item}
use Rattle.gfx_grammar.proofs.AloneLaws.{blocks_from-append}
use Rattle.gfx_grammar.proofs.FramingLaws.{head-bounds}
use Rattle.gfx_blocks.specs.Payloads.{content_of}
use Rattle.gfx_decode.specs.Decoding.{Gives, IsFramedHere, IsFramedAt, behind_framed}
use Rattle.gfx_decode.specs.Reachable.{IsBehind, blocks_ahead}
use Rattle.gfx_decode.specs.Reading.{ReadsSome}
use Rattle.gfx_decode.specs.Stage.{Stage, Fresh, At, Failed}
use Rattle.gfx_decode.specs.declared.decoder.FramedBlock.{FramedBlock}
use Rattle.gfx_decode.specs.declared.decoder.Raw.{Raw}
use Rattle.gfx_decode.specs.declared.fault.DecodeFault.{DecodeFault}
use Rattle.gfx_decode.proofs.Finding.{framed-block, framed-long, framed-payload}
use Rattle.gfx_player.specs.declared.player.Player.{Player}
use Rattle.gfx_player.specs.Fed.{ComesNext, IsFed}
use Rattle.gfx_player.specs.Walks.{whole_of}
use Rattle.gfx_player.proofs.Feeding.{fed_more}
use Rattle.gfx_fan.specs.declared.album.Album.{Album}
use Rattle.gfx_fan.specs.declared.decode.Framed.{Framed}
use Rattle.gfx_fan.specs.declared.group.Group.{Group}
use Rattle.gfx_fan.specs.declared.group.Spot.{Spot}
use Rattle.gfx_fan.specs.Decoded.{IsInside, payload_at, said}
use Rattle.gfx_fan.specs.Gathered.{IsGathered, ReadsOn}
use Rattle.gfx_fan.specs.Groups.{AreKept, HasBlocks, IsFull, IsKept, IsLimited, Remains, framed_at, held, payload_bytes, spot_of}

-- ---- a block more was read

pub none_kept : (at : Position) → AreKept at 0 [] [] [] at
none_kept at = (refl, refl)

-- behind the blocks of a group stands one more
pub one_kept : (at : Position) (from : ℕ) (bytes : List ℕ) (fs : List Framed) (ss : List Spot) (end : Position) (block : List ℕ) (f : Framed) (s : Spot) → AreKept at from bytes fs ss end →
    IsKept end (from + length bytes) block f s → AreKept at from (bytes ++ block) (fs ++ f ∷ []) (ss ++ s ∷ []) (next_position end block)
one_kept at from bytes [] [] end block f s kept here =
    let none : from + length bytes ≡ from = omega (arith, ap length kept.0) in (
      block,
      [],
      ap (λ l. l ++ block) kept.0 ∙ sym (append-nil block),
      subst (λ p. IsKept p from block f s) kept.1 (subst (λ n. IsKept end n block f s) none here),
      (refl, ap (λ p. next_position p block) kept.1),
    )
one_kept at from bytes [] (t ∷ ss) end block f s kept here = absurd kept
one_kept at from bytes (e ∷ fs) [] end block f s kept here = absurd kept
one_kept at from bytes (e ∷ fs) (t ∷ ss) end block f s (first, rest, parts, is, more) here =
    let further : from + length bytes ≡ from + length first + length rest = omega (arith, ap length parts, length-append first rest) in (
      first,
      rest ++ block,
      ap (λ l. l ++ block) parts ∙ append_assoc first rest block,
      is,
      one_kept (next_position at first) (from + length first) rest fs ss end block f s more (subst (λ n. IsKept end n block f s) further here),
    )

-- a block that was read follows them
pub block_kept : (end : Position) (b : FramedBlock) (bytes : List ℕ) → IsFramedHere end b → b.number ≤ 2 ^ 33 + 1 → IsKept end (0 + length bytes) b.bytes.now (framed_at (length bytes) b) (spot_of b)
block_kept end b bytes here few = record {
  framed = here.framed;
  counted = here.counted;
  few = omega (arith, here.number, few);
  place = omega arith;
  number = here.number;
  offset = here.offset;
}

-- what a group has, and where the reading stands
pub record Reading (m : ℕ) (at : Position) (g : Group) (stage : Stage) (old new : Option (List ℕ)) : Type 0 where
  pub end : Position
  pub blocks : HasBlocks g at end
  pub place : stage ≡ At m end
  pub took : Consumes old new g.bytes.items

pub took_none : (old : Option (List ℕ)) → Consumes old old []
took_none None = tt
took_none (Some bytes) = refl

pub reading_none : (m : ℕ) (at : Position) (g : Group) (stage : Stage) (old : Option (List ℕ)) → g.bytes.items ≡ [] → g.places.items ≡ [] → g.spots.items ≡ [] → stage ≡ At m at → Reading m at g stage old old
reading_none m at g stage old bytes places spots place = record {
  end = at;
  blocks = subst (λ ss. AreKept at 0 g.bytes.items g.places.items ss at) (sym spots)
      (subst (λ fs. AreKept at 0 g.bytes.items fs [] at) (sym places) (subst (λ bs. AreKept at 0 bs [] [] at) (sym bytes) (none_kept at)));
  place = place;
  took = subst (Consumes old old) (sym bytes) (took_none old);
}

pub reading_more : (m : ℕ) (at : Position) (g h : Group) (b : FramedBlock) (stage next : Stage) (old middle new : Option (List ℕ)) → Reading m at g stage old middle → IsFramedAt stage b → b.number ≤ 2 ^ 33 + 1 →
    next ≡ behind_framed stage b → Consumes middle new b.bytes.now → h.bytes.items ≡ g.bytes.items ++ b.bytes.now → h.places.items ≡ g.places.items ++ framed_at (length g.bytes.items) b ∷ [] →
    h.spots.items ≡ g.spots.items ++ spot_of b ∷ [] → Reading m at h next old new
reading_more m at g h b stage next old middle new r here few goes took bytes places spots =
    let kept = one_kept at 0 g.bytes.items g.places.items g.spots.items r.end b.bytes.now (framed_at (length g.bytes.items) b) (spot_of b) r.blocks
    (block_kept r.end b g.bytes.items (subst (λ s. IsFramedAt s b) r.place here) few) in
    let end = next_position r.end b.bytes.now in
    record {
      end = end;
      blocks = subst (λ ss. AreKept at 0 h.bytes.items h.places.items ss end) (sym spots)
          (subst (λ fs. AreKept at 0 h.bytes.items fs (g.spots.items ++ spot_of b ∷ []) end) (sym places)
          (subst (λ bs. AreKept at 0 bs (g.places.items ++ framed_at (length g.bytes.items) b ∷ []) (g.spots.items ++ spot_of b ∷ []) end) (sym bytes) kept));
      place = goes ∙ ap (λ s. behind_framed s b) r.place;
      took = subst (Consumes old new) (sym bytes) (Consumes-trans old middle new g.bytes.items b.bytes.now r.took took);
    }

-- the end of the file, or a fault, is told by the stage that reading came to
pub gives_at : (m : ℕ) (stage : Stage) (end : Position) (answer : Result (Option Raw) DecodeFault) (old new : Option (List ℕ)) → stage ≡ At m end → IfTold old new (Gives stage answer) → IfTold old new (Gives (At m end) answer)
gives_at m stage end answer old new place told = subst (λ s. IfTold old new (Gives s answer)) place told

-- ---- how much a group has

-- whether it is full, as it is looked at
abbrev looks_full : (count long : ℕ) → Bool
looks_full count long = nat_le 65536 count || nat_le (4194304 + 12 * count) long

full_by : (count long size : ℕ) → long ≡ 12 * count + size → looks_full count long ≡ true → (65536 ≤ count) ⊎ (2 ^ 22 ≤ size)
full_by count long size is full = by (nat_le 65536 count) refl
  where
    by : (b : Bool) → nat_le 65536 count ≡ b → (65536 ≤ count) ⊎ (2 ^ 22 ≤ size)
    by true many = inl (grind (arith, nat_tests))
    by false few = inr (grind (arith, nat_tests))

pub is_full : (g : Group) → IsLimited g → looks_full (length g.places.items) (length g.bytes.items) ≡ true → IsFull g
is_full g w full = full_by (length g.places.items) (length g.bytes.items) (payload_bytes g.places.items) w.long full

few_by : (count long : ℕ) → looks_full count long ≡ false → (count < 65536) × (long < 4194304 + 12 * count)
few_by count long under = (grind (arith, nat_tests), grind (arith, nat_tests))

-- a group that is full has some blocks
pub full_some : (g : Group) → IsFull g → 0 < length g.places.items
full_some g (inl many) = omega (arith, many)
full_some g (inr much) = by g.places.items much
  where
    by : (fs : List Framed) → 2 ^ 22 ≤ payload_bytes fs → 0 < length fs
    by [] much = absurd (omega (arith, much))
    by (f ∷ fs) much = omega arith

pub limited_none : (g : Group) → g.bytes.items ≡ [] → g.places.items ≡ [] → IsLimited g
limited_none g bytes places =
    let size : payload_bytes g.places.items ≡ 0 = ap payload_bytes places in
    let count : length g.places.items ≡ 0 = ap length places in
    record { few = omega (arith, count); long = omega (arith, ap length bytes, count, size); small = omega (arith, size) }

-- no payload has more than 2^27 bytes
small_payload : (stage : Stage) (b : FramedBlock) → IsFramedAt stage b → (b.framing.size ≤ 2 ^ 27) × (length b.bytes.now ≡ 12 + b.framing.size)
small_payload Fresh b here = absurd here
small_payload (At minor at) b here =
    let is = here.framed in
    let bound = (head-bounds is.head is.good.good).0 in
    (omega (arith, bound, is.good.size_is), framed-long b.framing.kind b.framing.size b.bytes.now is)
small_payload (Failed why) b here = absurd here

-- a block more was read, of a group that wasn't full
pub limited_more : (g h : Group) (stage : Stage) (b : FramedBlock) → IsLimited g → IsFramedAt stage b → looks_full (length g.places.items) (length g.bytes.items) ≡ false →
    h.bytes.items ≡ g.bytes.items ++ b.bytes.now → h.places.items ≡ g.places.items ++ framed_at (length g.bytes.items) b ∷ [] → IsLimited h
limited_more g h stage b w here under bytes places =
    let f = framed_at (length g.bytes.items) b in
    let (small, long) = small_payload stage b here in
    let (few, room) = few_by (length g.places.items) (length g.bytes.items) under in
    let count : length h.places.items ≡ length g.places.items + 1 = omega (arith, ap length places, length-append g.places.items (f ∷ [])) in
    let size : payload_bytes h.places.items ≡ payload_bytes g.places.items + b.framing.size = ap payload_bytes places ∙ sum_by_push (λ (f : Framed). f.framing.size) g.places.items f in
    record {
      few = omega (arith, count, few);
      long = omega (arith, w.long, count, size, long, ap length bytes, length-append g.bytes.items b.bytes.now);
      small = omega (arith, size, small, w.long, room);
    }

-- each block leaves fewer to come
pub framed_fewer : (stage : Stage) (b : FramedBlock) → IsBehind 0 stage → IsFramedAt stage b → b.number ≤ 2 ^ 33 + 1 → IsBehind 0 (behind_framed stage b) × (blocks_ahead (behind_framed stage b) < blocks_ahead stage)
framed_fewer Fresh b place here few = absurd here
framed_fewer (At minor at) b place here few = (omega (arith, place), omega (arith, place, here.number, few))
framed_fewer (Failed why) b place here few = absurd here

pub some_none : (old : Option (List ℕ)) → ReadsSome old old
some_none old = ([], took_none old)

pub some_then : (a b c : Option (List ℕ)) → ReadsSome a b → ReadsSome b c → ReadsSome a c
some_then a b c p q = (p.0 ++ q.0, Consumes-trans a b c p.0 q.0 p.1 q.1)

-- ---- the payloads lie in the bytes

-- the payload of a block behind others
pub payload_is : (at : Position) (front block rest bytes : List ℕ) (f : Framed) (s : Spot) → IsKept at (length front) block f s → bytes ≡ front ++ (block ++ rest) → payload_at bytes f ≡ drop 12 block
payload_is at front block rest bytes f s is parts =
    let h = is.framed in
    let size = f.framing.size in
    let whole : bytes ≡ (front ++ h.head) ++ (h.payload ++ rest) =
    parts ∙ ap (λ l. front ++ (l ++ rest)) h.parts ∙ ap (λ l. front ++ l) (append_assoc h.head h.payload rest) ∙ sym (append_assoc front h.head (h.payload ++ rest)) in
    let before : length (front ++ h.head) ≡ f.at = omega (arith, length-append front h.head, h.good.there, is.place) in
    let long : length h.payload ≡ f.at + size - f.at = omega (arith, h.long) in
    ap (λ l. take (f.at + size - f.at) (drop f.at l)) whole
    ∙ ap (take (f.at + size - f.at)) (drop_at (front ++ h.head) (h.payload ++ rest) f.at before)
    ∙ take_at h.payload rest (f.at + size - f.at) long
    ∙ sym (framed-payload f.framing.kind size block h)

pub kept_inside : (at : Position) (front bytes all : List ℕ) (fs : List Framed) (ss : List Spot) (end : Position) → AreKept at (length front) bytes fs ss end → all ≡ front ++ bytes → All (IsInside all) fs
kept_inside at front bytes all [] ss end kept parts = All-nil (IsInside all)
kept_inside at front bytes all (f ∷ fs) [] end kept parts = absurd kept
kept_inside at front bytes all (f ∷ fs) (s ∷ ss) end (block, rest, is, here, more) parts =
    let long : length all ≡ length front + (length block + length rest) = omega (arith, ap length parts, length-append front bytes, ap length is, length-append block rest) in
    let next : length front + length block ≡ length (front ++ block) = sym (length-append front block) in
    All-cons (IsInside all) f fs (omega (arith, long, framed-long f.framing.kind f.framing.size block here.framed, here.place))
    (kept_inside (next_position at block) (front ++ block) rest all fs ss end (subst (λ n. AreKept (next_position at block) n rest fs ss end) next more)
    (parts ∙ ap (λ l. front ++ l) is ∙ sym (append_assoc front block rest)))

pub kept_paired : (at : Position) (from : ℕ) (bytes : List ℕ) (fs : List Framed) (ss : List Spot) (end : Position) → AreKept at from bytes fs ss end → length ss ≡ length fs
kept_paired at from bytes [] [] end kept = refl
kept_paired at from bytes [] (s ∷ ss) end kept = absurd kept
kept_paired at from bytes (f ∷ fs) [] end kept = absurd kept
kept_paired at from bytes (f ∷ fs) (s ∷ ss) end (block, rest, is, here, more) = ap suc (kept_paired (next_position at block) (from + length block) rest fs ss end more)

-- ---- what is left, with bytes before it

pub held_none : (left : Option (List ℕ)) → held [] left ≡ left
held_none None = refl
held_none (Some rest) = refl

pub held_takes : (block rest : List ℕ) (left : Option (List ℕ)) → Consumes (held (block ++ rest) left) (held rest left) block
held_takes block rest None = tt
held_takes block rest (Some bytes) = append_assoc block rest bytes

-- what holds with the bytes that were read before what is left
pub held_told : (bytes : List ℕ) (file old new : Option (List ℕ)) (P : List ℕ → List ℕ → Type 0) → Consumes old new bytes → IfTold file old P → IfTold file (held bytes new) P
held_told bytes None old new P took told = tt
held_told bytes (Some all) None new P took told = absurd told
held_told bytes (Some all) (Some left) None P took told = absurd took
held_told bytes (Some all) (Some left) (Some rest) P took told = subst (P all) took told

-- it is told what is left, too
pub told_held : (bytes : List ℕ) (file left : Option (List ℕ)) (P Q : List ℕ → List ℕ → Type 0) → IfTold file (held bytes left) P → ((all some rest : List ℕ) → P all some → Q all rest) → IfTold file left Q
told_held bytes None left P Q told f = tt
told_held bytes (Some all) None P Q told f = absurd told
told_held bytes (Some all) (Some rest) P Q told f = f all (bytes ++ rest) rest told

-- ---- a block of a group is fed

comes_next : (m : ℕ) (at : Position) (from : ℕ) (block : List ℕ) (f : Framed) (s : Spot) (b : Block) → IsKept at from block f s → read_content m f.framing.kind (drop 12 block) ≡ Some (content_of b) →
    ComesNext (At m at) (At m (next_position at block)) (whole_of s.number s.offset block b)
comes_next m at from block f s b is says more =
    let c = content_of b in
    blocks_from-append m at block more c (framed-block m f.framing.kind f.framing.size block (drop 12 block) c is.framed refl says) is.counted
    ∙ ap (λ n. with_item (record { number = n; offset = at.offset; bytes = block; content = c }) (blocks_from m (next_position at block) more)) (sym is.number)
    ∙ ap (λ n. with_item (record { number = s.number; offset = n; bytes = block; content = c }) (blocks_from m (next_position at block) more)) (sym is.offset)

fed_held : (m : ℕ) (p : Player) (at next : Position) (w : Whole) (block rest : List ℕ) (fed : List Whole) (file left : Option (List ℕ)) → w.bytes ≡ block → ComesNext (At m at) (At m next) w →
    IfTold file (held (block ++ rest) left) (λ all rest. IsFed fed (At m at) all rest × (p.minor ≡ minor_of all)) →
    IfTold file (held rest left) (λ all rest. IsFed (fed ++ w ∷ []) (At m next) all rest × (p.minor ≡ minor_of all))
fed_held m p at next w block rest fed None left same comes told = tt
fed_held m p at next w block rest fed (Some all) None same comes told = absurd told
fed_held m p at next w block rest fed (Some all) (Some bytes) same comes told = (
  fed_more fed w (At m at) (At m next) all ((block ++ rest) ++ bytes) (rest ++ bytes) told.0 comes (append_assoc block rest bytes ∙ ap (λ l. l ++ (rest ++ bytes)) (sym same)),
  told.1,
)

pub reads_on : (m : ℕ) (p : Player) (at : Position) (from : ℕ) (block rest : List ℕ) (f : Framed) (s : Spot) (b : Block) (file left : Option (List ℕ)) → IsKept at from block f s →
    read_content m f.framing.kind (drop 12 block) ≡ Some (content_of b) → ReadsOn p (At m at) (At m (next_position at block)) (whole_of s.number s.offset block b) file (held (block ++ rest) left) (held rest left)
reads_on m p at from block rest f s b file left is says fed read =
    let w = whole_of s.number s.offset block b in (
      record {
        place = omega (arith, length-append fed (w ∷ []), read.place);
        told = fed_held m p at (next_position at block) w block rest fed file left refl (comes_next m at from block f s b is says) read.told;
      },
      omega (arith, read.place, is.few),
    )

-- ---- the blocks of a group, one after another

-- what is said at a place
pub record SaysHere (m : ℕ) (bytes : List ℕ) (places : List Framed) (i : ℕ) (b : Block) : Type 0 where
  pub here : Framed
  pub later : List Framed
  pub parts : drop i places ≡ here ∷ later
  pub says : said m bytes here ≡ Some (content_of b)

pub says_at : (m : ℕ) (bytes : List ℕ) (places : List Framed) (blocks : List Block) (n i : ℕ) (b : Block) → map (said m bytes) (take n places) ≡ map (λ (b : Block). Some (content_of b)) blocks → i < length blocks →
    b ≡ get_or blocks i b → SaysHere m bytes places i b
says_at m bytes places [] n i b same below is = absurd (omega (arith, below))
says_at m bytes places (c ∷ blocks) zero i b same below is = absurd cc
says_at m bytes [] (c ∷ blocks) (suc n) i b same below is = absurd cc
says_at m bytes (f ∷ places) (c ∷ blocks) (suc n) zero b same below is =
    let here : said m bytes f ≡ Some (content_of c) = cc in
    record { here = f; later = places; parts = refl; says = here ∙ ap (λ x. Some (content_of x)) (sym is) }
says_at m bytes (f ∷ places) (c ∷ blocks) (suc n) (suc i) b same below is =
    let rest : map (said m bytes) (take n places) ≡ map (λ (b : Block). Some (content_of b)) blocks = cc in
    let more = says_at m bytes places blocks n i b rest (omega (arith, below)) is in
    record { here = more.here; later = more.later; parts = more.parts; says = more.says }

drop_next : {X : Type 0} (xs : List X) (i : ℕ) (x : X) (later : List X) → drop i xs ≡ x ∷ later → drop (i + 1) xs ≡ later
drop_next [] zero x later is = absurd cc
drop_next [] (suc i) x later is = absurd cc
drop_next (y ∷ xs) zero x later is = cc
drop_next (y ∷ xs) (suc i) x later is =
    let next : suc i + 1 ≡ suc (i + 1) = omega arith in
    ap (λ n. drop n (y ∷ xs)) next ∙ drop_next xs i x later is

pub drop_here : {X : Type 0} (xs : List X) (i : ℕ) (d : X) → i < length xs → drop i xs ≡ get_or xs i d ∷ drop (i + 1) xs
drop_here xs i d below =
    let next : suc i ≡ i + 1 = omega arith in
    drop-cons xs i d below ∙ ap (λ n. get_or xs i d ∷ drop n xs) next

-- whatever stands for what isn't there
pub picked : {X : Type 0} (xs : List X) (i : ℕ) (d e : X) → i < length xs → get_or xs i d ≡ get_or xs i e
picked [] i d e below = absurd (omega (arith, below))
picked (x ∷ xs) zero d e below = refl
picked (x ∷ xs) (suc i) d e below = picked xs i d e (omega (arith, below))

-- an item of a list that was lent
pub picked_as : {X : Type 0} (xs ys : List X) (i : ℕ) (d : X) → ys ≡ xs → i < length xs → get_or ys i d ≡ get_or xs i (get_or ys i d)
picked_as xs ys i d same below = ap (λ l. get_or l i d) same ∙ picked xs i d (get_or ys i d) below

-- the next block of a group, and the others behind it
pub record NextBlock (m : ℕ) (p : Player) (g : Group) (i : ℕ) (end : Position) (s : Spot) (b : Block) (at : Position) (front rest : List ℕ) : Type 0 where
  pub block : List ℕ
  pub later : List ℕ
  pub parts : g.bytes.items ≡ (front ++ block) ++ later
  pub kept : AreKept (next_position at block) (length (front ++ block)) later (drop (i + 1) g.places.items) (drop (i + 1) g.spots.items) end
  pub reads : (file middle : Option (List ℕ)) → ReadsOn p (At m at) (At m (next_position at block)) (whole_of s.number s.offset block b) file (held rest middle) (held later middle)

next_of : (m : ℕ) (p : Player) (g : Group) (i : ℕ) (end : Position) (b : Block) (at : Position) (front rest : List ℕ) (f : Framed) (s : Spot) (fs : List Framed) (ss : List Spot) → g.bytes.items ≡ front ++ rest →
    AreKept at (length front) rest (f ∷ fs) (s ∷ ss) end → drop (i + 1) g.places.items ≡ fs → drop (i + 1) g.spots.items ≡ ss → said m g.bytes.items f ≡ Some (content_of b) → NextBlock m p g i end s b at front rest
next_of m p g i end b at front rest f s fs ss parts (block, later, is, here, more) places spots says =
    let whole : g.bytes.items ≡ front ++ (block ++ later) = parts ∙ ap (λ l. front ++ l) is in
    let said_here : read_content m f.framing.kind (drop 12 block) ≡ Some (content_of b) = ap (read_content m f.framing.kind) (sym (payload_is at front block later g.bytes.items f s here whole)) ∙ says in
    record {
      block = block;
      later = later;
      parts = whole ∙ sym (append_assoc front block later);
      kept = subst (λ ts. AreKept (next_position at block) (length (front ++ block)) later (drop (i + 1) g.places.items) ts end) (sym spots)
          (subst (λ es. AreKept (next_position at block) (length (front ++ block)) later es ss end) (sym places)
          (subst (λ n. AreKept (next_position at block) n later fs ss end) (sym (length-append front block)) more));
      reads = λ file middle.
          subst (λ l. ReadsOn p (At m at) (At m (next_position at block)) (whole_of s.number s.offset block b) file (held l middle) (held later middle)) (sym is)
          (reads_on m p at (length front) block later f s b file middle here said_here);
    }

pub next_block : (m : ℕ) (p q : Player) (k : Album) (g : Group) (i : ℕ) (end : Position) (s : Spot) (b : Block) (file middle before after : Option (List ℕ)) → (r : Remains m p k g i end file middle before after) →
    SaysHere m g.bytes.items g.places.items i b → i < length g.spots.items → s ≡ get_or g.spots.items i s → NextBlock m q g i end s b r.at r.front r.rest
next_block m p q k g i end s b file middle before after r says below is =
    let spots : drop i g.spots.items ≡ s ∷ drop (i + 1) g.spots.items = drop_here g.spots.items i s below ∙ ap (λ t. t ∷ drop (i + 1) g.spots.items) (sym is) in
    next_of m q g i end b r.at r.front r.rest says.here s says.later (drop (i + 1) g.spots.items) r.parts
    (subst (λ ts. AreKept r.at (length r.front) r.rest (says.here ∷ says.later) ts end) spots (subst (λ es. AreKept r.at (length r.front) r.rest es (drop i g.spots.items) end) says.parts r.kept))
    (drop_next g.places.items i says.here says.later says.parts) refl says.says

-- no block was fed yet
pub remains_all : (m : ℕ) (p : Player) (k : Album) (g : Group) (at end : Position) (file middle before after : Option (List ℕ)) → HasBlocks g at end → IsGathered p k (At m at) file (held g.bytes.items middle) before after →
    Remains m p k g 0 end file middle before after
remains_all m p k g at end file middle before after blocks gathered = record { at = at; front = []; rest = g.bytes.items; parts = refl; kept = blocks; gathered = gathered }

-- one block more was
pub remains_next : (m : ℕ) (p q : Player) (k l : Album) (g : Group) (i : ℕ) (end : Position) (s : Spot) (b : Block) (file middle before after : Option (List ℕ)) (at : Position) (front rest : List ℕ) →
    (n : NextBlock m p g i end s b at front rest) → IsGathered q l (At m (next_position at n.block)) file (held n.later middle) before after → Remains m q l g (i + 1) end file middle before after
remains_next m p q k l g i end s b file middle before after at front rest n gathered = record {
  at = next_position at n.block;
  front = front ++ n.block;
  rest = n.later;
  parts = n.parts;
  kept = n.kept;
  gathered = gathered;
}

-- all blocks were
pub remains_none : (m : ℕ) (p : Player) (k : Album) (g : Group) (i : ℕ) (end : Position) (file middle before after : Option (List ℕ)) → (r : Remains m p k g i end file middle before after) → drop i g.places.items ≡ [] →
    IsGathered p k (At m end) file middle before after
remains_none m p k g i end file middle before after r none =
    by (drop i g.spots.items) (subst (λ es. AreKept r.at (length r.front) r.rest es (drop i g.spots.items) end) none r.kept)
  where
    by : (ss : List Spot) → AreKept r.at (length r.front) r.rest [] ss end → IsGathered p k (At m end) file middle before after
    by [] kept =
        subst (λ s. IsGathered p k s file middle before after) (ap (At m) (sym kept.1))
        (subst (λ l. IsGathered p k (At m r.at) file l before after) (ap (λ bs. held bs middle) kept.0 ∙ held_none middle) r.gathered)
    by (s ∷ ss) kept = absurd kept
