-- Frames that are hashed one after another, and how hashing ends.
use Rattle.std.proofs.Common.{◌≡◌, ◌+◌, ◌-◌, ℕ, Bool, true, false, if◌then◌else◌, List, [], ◌∷◌, ◌++◌, length, Option, Ok, Err, refl, sym, ap, subst, ◌∙◌}
use Rattle.std.proofs.lemmas.List.{append-nil}
use Rattle.std.proofs.lemmas.Grind.{flat_map-append}
use Rattle.sha2.specs.Hashers.{Holds256}
use Rattle.sha2.specs.Sha256.{sha256}
use Rattle.gfx_types.specs.declared.frame.Frame.{Frame}
use Rattle.gfx_io.specs.Told.{IfTold}
use Rattle.gfx_replay.specs.Replayer.{bytes_of}
use Rattle.gfx_replay.specs.Shown.{frame_of}
use Rattle.gfx_replay.specs.declared.shown.ShownFrame.{ShownFrame}
use Rattle.gfx_decode.proofs.Told.{told_if}
use Rattle.gfx_player.specs.declared.asked.Asked.{Asked}
use Rattle.gfx_player.specs.declared.fault.PlayFault.{PlayFault}
use Rattle.gfx_player.specs.declared.fault.PlayFault.TheVariants as play
use Rattle.gfx_player.specs.declared.player.Player.{Player}
use Rattle.gfx_player.specs.Asked.{asked_of, has_last, is_asked, is_last}
use Rattle.gfx_player.specs.Ends.{IsBehindFrame, IsStopped}
use Rattle.gfx_player.specs.Walks.{HasAll, Plays, ShowsNext, first_frame_of, next_frame_of}
use Rattle.gfx_player.proofs.Asking.{asked_more, behind_last, count_more, first_with, if_asked, last_more, one_if}
use Rattle.gfx_player.proofs.Later.{last_shown}
use Rattle.gfx_player.proofs.Playing.{first_is, highest_is, lowest_is, told_beside}
use Rattle.gfx_digest.specs.declared.digest.Digested.{Digested}
use Rattle.gfx_digest.specs.declared.hasher.FrameHasher.{FrameHasher}
use Rattle.gfx_digest.specs.Digests.{DigestsAsked}
use Rattle.gfx_digest.specs.Images.{frame_bytes, image_bytes}

-- ---- the bytes of one frame more

bytes_more : (fs gs : List Frame) → image_bytes (fs ++ gs) ≡ image_bytes fs ++ image_bytes gs
unfolding image_bytes
bytes_more fs gs = flat_map-append frame_bytes fs gs

pub bytes_none : image_bytes [] ≡ []
unfolding image_bytes
bytes_none = refl

-- the bytes of a frame, where it is asked for
abbrev pub bytes_if : Bool → Frame → List ℕ
bytes_if t f = if t then frame_bytes f else []

bytes_picked : (t : Bool) (f : Frame) → bytes_if t f ≡ image_bytes (if_asked t f)
unfolding image_bytes
bytes_picked true f = sym (append-nil (frame_bytes f))
bytes_picked false f = refl

hashed_more : (a : Asked) (fs : List Frame) (f : Frame) → image_bytes (asked_of a fs) ++ bytes_if (is_asked a (first_with fs f.number) f.number) f ≡ image_bytes (asked_of a (fs ++ f ∷ []))
hashed_more a fs f =
    let t = is_asked a (first_with fs f.number) f.number in
    ap (λ l. image_bytes (asked_of a fs) ++ l) (bytes_picked t f) ∙ sym (bytes_more (asked_of a fs) (if_asked t f)) ∙ ap image_bytes (sym (asked_more a fs f))

-- ---- one frame more

-- these frames were shown, and what is asked for of them was hashed; the last that is asked for is among them or isn't
pub record Hashing (a : Asked) (p : Player) (s : FrameHasher) (shown : List Frame) (seen : Bool) (file left : Option (List ℕ)) : Type 0 where
  pub plays : Plays p shown file left
  pub asked : s.asked ≡ a
  pub count : s.count ≡ length (asked_of a shown)
  pub last : has_last a shown ≡ seen
  pub holds : Holds256 s.hasher (image_bytes (asked_of a shown))

pub hashed_none : (a : Asked) (p : Player) (s : FrameHasher) (file left : Option (List ℕ)) → Plays p [] file left → s.asked ≡ a → s.count ≡ 0 → Holds256 s.hasher [] → Hashing a p s [] false file left
hashed_none a p s file left plays asked count holds = record { plays = plays; asked = asked; count = count; last = refl; holds = subst (Holds256 s.hasher) (sym bytes_none) holds }

-- what a hasher does with a frame
pub record Counts (old new : FrameHasher) (p : Player) (f : ShownFrame) (answer : Bool) : Type 0 where
  pub asked : new.asked ≡ old.asked
  pub count : new.count ≡ old.count + one_if (is_asked old.asked (first_frame_of p) f.number)
  pub last : answer ≡ is_last old.asked (first_frame_of p) f.number
  pub holds : (before : List ℕ) → Holds256 old.hasher before → Holds256 new.hasher (before ++ bytes_if (is_asked old.asked (first_frame_of p) f.number) (frame_of (bytes_of p.replayer) f))

pub hashed_next : (a : Asked) (was p : Player) (old new : FrameHasher) (shown : List Frame) (f : ShownFrame) (last : Bool) (file left rest : Option (List ℕ)) → Hashing a was old shown false file left →
    ShowsNext p shown f file rest → Counts old new p f last → Hashing a p new (shown ++ frame_of (bytes_of p.replayer) f ∷ []) last file rest
hashed_next a was p old new shown f last file left rest s next c =
    let g = frame_of (bytes_of p.replayer) f in
    let first = first_is p shown g file rest next.plays in
    record {
      plays = next.plays;
      asked = c.asked ∙ s.asked;
      count = c.count ∙ ap (λ n. n + one_if (is_asked old.asked (first_frame_of p) f.number)) s.count
          ∙ ap (λ a'. length (asked_of a shown) + one_if (is_asked a' (first_frame_of p) f.number)) s.asked
          ∙ ap (λ n. length (asked_of a shown) + one_if (is_asked a n f.number)) first
          ∙ count_more a shown g;
      last = last_more a shown g s.last ∙ sym (c.last ∙ ap (λ a. is_last a (first_frame_of p) f.number) s.asked ∙ ap (λ n. is_last a n f.number) first);
      holds = subst (Holds256 new.hasher)
          (ap (λ a'. image_bytes (asked_of a shown) ++ bytes_if (is_asked a' (first_frame_of p) f.number) g) s.asked
          ∙ ap (λ n. image_bytes (asked_of a shown) ++ bytes_if (is_asked a n f.number) g) first
          ∙ hashed_more a shown g)
          (c.holds (image_bytes (asked_of a shown)) s.holds);
    }

-- ---- where it ends

pub stops : (a : Asked) (shown : List Frame) (why : PlayFault) (all rest : List ℕ) → has_last a shown ≡ false → IsStopped shown why all rest → DigestsAsked a (Err why) all rest
stops a shown (play.Bad fault block offset) all rest unseen s = record { end = s.stops.ends; unseen = ap (has_last a) s.stops.shows ∙ unseen }
stops a shown (play.NoSuchFrame first last) all rest unseen s = absurd s.stops
stops a shown play.ReadFault all rest unseen s =
    let c = s.stops in record { given = c.given; parts = c.parts; cut = c.cut; lawful = c.lawful; unseen = ap (has_last a) c.shows ∙ unseen }
stops a shown play.SinkFault all rest unseen s = absurd s.stops
stops a shown play.WantMemory all rest unseen s = tt

pub hashing_stops : (a : Asked) (shown : List Frame) (why : PlayFault) (file rest : Option (List ℕ)) → has_last a shown ≡ false → IfTold file rest (IsStopped shown why) → IfTold file rest (DigestsAsked a (Err why))
hashing_stops a shown why file rest unseen told = told_if file rest (IsStopped shown why) (DigestsAsked a (Err why)) told (λ all rest s. stops a shown why all rest unseen s)

-- the last frame that is asked for was shown
pub hashed_last : (a : Asked) (p : Player) (s : FrameHasher) (shown : List Frame) (f : Frame) (d : Digested) (file rest : Option (List ℕ)) → has_last a shown ≡ false → Hashing a p s (shown ++ f ∷ []) true file rest →
    IfTold file rest (IsBehindFrame shown f) → ((bytes : List ℕ) → Holds256 s.hasher bytes → d.digest ≡ sha256 bytes) → d.frames ≡ s.count → IfTold file rest (DigestsAsked a (Ok d))
hashed_last a p s shown f d file rest unseen w behind digest counted =
    told_beside file rest rest _ (IsBehindFrame shown f) (DigestsAsked a (Ok d)) (last_shown a p (shown ++ f ∷ []) file rest w.plays w.last) behind
    (λ all left rest l b. record {
      complete = l.last;
      digest = digest (image_bytes (asked_of a (shown ++ f ∷ []))) w.holds ∙ ap (λ fs. sha256 (image_bytes fs)) (sym l.asked);
      frames = counted ∙ w.count ∙ ap length (sym l.asked);
      behind = behind_last a shown f all rest b unseen w.last;
    })

-- the file is at its clean end
pub hashed_end : (a : Asked) (p : Player) (shown : List Frame) (why : PlayFault) (file rest : Option (List ℕ)) → has_last a shown ≡ false → IfTold file rest (HasAll p shown) →
    why ≡ play.NoSuchFrame (first_frame_of p) (next_frame_of p - 1) → IfTold file rest (DigestsAsked a (Err why))
hashed_end a p shown why file rest unseen told is =
    subst (λ e. IfTold file rest (DigestsAsked a (Err e))) (sym is)
    (told_if file rest (HasAll p shown) (DigestsAsked a (Err (play.NoSuchFrame (first_frame_of p) (next_frame_of p - 1)))) told
    (λ all rest h. record {
      end = h.just.ends;
      unseen = ap (has_last a) h.just.shows ∙ unseen;
      lowest_is = lowest_is p shown all rest h;
      highest_is = highest_is p shown all rest h;
      read = h.read;
    }))
