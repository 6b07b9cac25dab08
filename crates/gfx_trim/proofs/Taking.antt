-- A block that a cutter takes.
use Rattle.std.proofs.Common.{◌≡◌, ◌≢◌, ℕ, ◌+◌, ◌==◌, ◌&&◌, ◌||◌, cond, Bool, true, false, List, [], ◌∷◌, ◌++◌, Option, Some, None, Result, Ok, Err, OnOk, refl, sym, ap, subst, ◌∙◌}
use Rattle.std.specs.Prelude.{flat_map, IfErr, IfOk, option_map}
use Rattle.std.specs.Io.KnownBytes.{Appends}
use Rattle.std.proofs.lemmas.Bool.{eq-eqb, eqb-true}
use Rattle.gfx_io.specs.Pieces.{AppendsPart}
use Rattle.gfx_types.specs.declared.frame.Frame.{Frame}
use Rattle.gfx_model.specs.Events.{Event}
use Rattle.gfx_model.specs.Blocks.{Whole}
use Rattle.gfx_model.specs.Blocks.Content.{skipped}
use Rattle.gfx_model.specs.Trimmed.{Cut, content_begins, cut_before, cuts_before, is_first, boundary}
use Rattle.gfx_replay.specs.Replayer.{bytes_of}
use Rattle.gfx_replay.specs.Shown.{frame_of}
use Rattle.gfx_replay.specs.declared.shown.ShownFrame.{ShownFrame}
use Rattle.gfx_player.specs.Fed.{history_of}
use Rattle.gfx_player.specs.Walks.{HasReplayed, IsReplayedAlike, Replays}
use Rattle.gfx_player.specs.declared.player.Player.{Player}
use Rattle.gfx_player.proofs.Walking.{replayed_alike}
use Rattle.gfx_trim.specs.declared.cutter.Cutter.{Cutter}
use Rattle.gfx_trim.specs.declared.phase.Phase.{Phase}
use Rattle.gfx_trim.specs.declared.phase.Phase.TheVariants as phase
use Rattle.gfx_trim.specs.Cutters.{GoesOn, IsAfter, IsFed, IsOfSameRange, Takes, is_number, number_by, number_of, opening, text_by}
use Rattle.gfx_trim.specs.Phases.{Continues, IsBefore, IsPhase, IsWaiting, IsWriting}
use Rattle.gfx_trim.specs.Written.{has_effect}
use Rattle.gfx_io.proofs.Appending.{part_of, whole_part}
use Rattle.gfx_trim.proofs.Growing.{grown, text_going, text_waiting}
use Rattle.gfx_trim.proofs.Fronts.{opening_file}
use Rattle.gfx_trim.proofs.Phases.{closed_at}
use Rattle.gfx_trim.proofs.Steps.{ends_frame, extends, now_before, now_waiting, reached_by, still_before, still_waiting, still_writing, writing_continues}

-- ---- a block that was replayed

pub fed_so : (q : Player) (fed : List Whole) (w : Whole) (shown : Option ShownFrame) → Replays q fed w shown → IsFed q fed w
fed_so q fed w shown r = record { replayed = r.replayed; fine = r.fine }

-- the number of what is shown is that of the block's frame
pub number_is : (q : Player) (fed : List Whole) (w : Whole) (shown : Option ShownFrame) → Replays q fed w shown → number_of shown ≡ number_by (history_of fed) w.content
number_is q fed w shown r = of_frames shown ∙ ap (option_map (λ (f : Frame). f.number)) r.shows.same
  where
    of_frames : (shown : Option ShownFrame) → number_of shown ≡ option_map (λ (f : Frame). f.number) (option_map (frame_of (bytes_of q.replayer)) shown)
    of_frames None = refl
    of_frames (Some f) = refl

-- ---- how far the cut is

-- nothing was read
none_rest : (first : ℕ) → (boundary first []).rest ≡ []
unfolding cut_before
none_rest first = by (is_first first [])
  where
    by : (b : Bool) → (cond {A = Cut} b (record { front = []; rest = [] }) (record { front = []; rest = [] })).rest ≡ []
    by true = refl
    by false = refl

pub start_waiting : (first last : ℕ) (kept : List ℕ) (p : Phase) → first ≡ 1 → kept ≡ [] → p ≡ phase.Waiting → IsPhase p first last kept []
start_waiting first last kept p one none is = subst (λ p. IsPhase p first last kept []) (sym is) (record {
  there = ap (λ b. b && true || false) (eq-eqb first 1 one);
  quiet = ap has_effect (none_rest first);
  same = none ∙ ap (λ (ws : List Whole). flat_map (λ w. w.bytes) ws) (sym (none_rest first));
})

other_number : (n m : ℕ) → n ≢ m → (n == m) ≡ false
other_number n m other = by (n == m) refl
  where
    by : (b : Bool) → (n == m) ≡ b → b ≡ false
    by true is = absurd (other (eqb-true n m is))
    by false is = refl

pub start_before : (first last : ℕ) (kept : List ℕ) (p : Phase) → first ≢ 1 → kept ≡ [] → p ≡ phase.Before → IsPhase p first last kept []
start_before first last kept p other none is = subst (λ p. IsPhase p first last kept []) (sym is) (record { ahead = ap (λ b. b && true || false) (other_number first 1 other); none = none })

-- its phase
pub before_phase : (c : Cutter) (p : Player) (fed : List Whole) → c.phase ≡ phase.Before → IsAfter c p fed → IsBefore c.first c.kept.items fed
before_phase c p fed is a = subst (λ p. IsPhase p c.first c.last c.kept.items fed) is a.phase

pub waiting_phase : (c : Cutter) (p : Player) (fed : List Whole) → c.phase ≡ phase.Waiting → IsAfter c p fed → IsWaiting c.first c.kept.items fed
waiting_phase c p fed is a = subst (λ p. IsPhase p c.first c.last c.kept.items fed) is a.phase

pub writing_phase : (c : Cutter) (p : Player) (fed : List Whole) → c.phase ≡ phase.Writing → IsAfter c p fed → IsWriting c.first c.last fed
writing_phase c p fed is a = subst (λ p. IsPhase p c.first c.last c.kept.items fed) is a.phase

same_range : (c : Cutter) → IsOfSameRange c c
same_range c = record { first = refl; last = refl; minor = refl }

-- ---- before the range

pub passes_cut : (old : Cutter) (p q : Player) (fed : List Whole) (w : Whole) → old.phase ≡ phase.Before → IsAfter old p fed → IsFed q fed w →
    cuts_before old.first (history_of fed) w.content ≡ true → GoesOn old (record old { phase = phase.Waiting }) q fed w
passes_cut old p q fed w is a f cuts = record {
  after = record { replayed = f.replayed; phase = now_waiting old.first old.kept.items fed w (before_phase old p fed is a) cuts };
  range = record { first = refl; last = refl; minor = refl };
}

pub passes_on : (old : Cutter) (p q : Player) (fed : List Whole) (w : Whole) → old.phase ≡ phase.Before → IsAfter old p fed → IsFed q fed w →
    cuts_before old.first (history_of fed) w.content ≡ false → GoesOn old old q fed w
passes_on old p q fed w is a f none = record {
  after = record {
    replayed = f.replayed;
    phase = subst (λ p. IsPhase p old.first old.last old.kept.items (fed ++ w ∷ [])) (sym is) (still_before old.first old.kept.items fed w (before_phase old p fed is a) none);
  };
  range = same_range old;
}

-- ---- where the range begins

pub keeps_on : (old new : Cutter) (p q : Player) (fed : List Whole) (w : Whole) → old.phase ≡ phase.Waiting → IsAfter old p fed → w.content ≡ skipped → IsOfSameRange old new → new.phase ≡ old.phase →
    new.kept.items ≡ old.kept.items ++ w.bytes → HasReplayed q (fed ++ w ∷ []) → GoesOn old new q fed w
keeps_on old new p q fed w is a skips range same kept replayed =
    let g = still_waiting old.first old.kept.items fed w (waiting_phase old p fed is a) skips in
    record {
      after = record {
        replayed = replayed;
        phase = subst (λ p. IsPhase p new.first new.last new.kept.items (fed ++ w ∷ [])) (sym (same ∙ is))
            (subst (λ n. IsWaiting n new.kept.items (fed ++ w ∷ [])) (sym range.first) (subst (λ k. IsWaiting old.first k (fed ++ w ∷ [])) (sym kept) g));
      };
      range = range;
    }

pub restarts : (old new : Cutter) (q : Player) (fed : List Whole) (w : Whole) → content_begins w.content false ≡ true → new.phase ≡ phase.Before → new.kept.items ≡ [] → IsOfSameRange old new → IsFed q fed w →
    GoesOn old new q fed w
restarts old new q fed w begins is kept range f = record {
  after = record {
    replayed = f.replayed;
    phase = subst (λ p. IsPhase p new.first new.last new.kept.items (fed ++ w ∷ [])) (sym is)
        (subst (λ k. IsBefore new.first k (fed ++ w ∷ [])) (sym kept) (now_before new.first fed w begins f.fine));
  };
  range = range;
}

-- ---- in the range

number_there : (last : ℕ) (o : Option ℕ) → is_number last o ≡ true → o ≡ Some last
number_there last None is = absurd cc
number_there last (Some n) is = ap Some (eqb-true n last is)

pub writes : (t : Bool) (old : Cutter) (p q : Player) (fed : List Whole) (w : Whole) (number : Option ℕ) → t ≡ is_number old.last number → number ≡ number_by (history_of fed) w.content → HasReplayed p fed →
    old.phase ≡ phase.Writing → Continues old.first old.last fed w → IsFed q fed w → Takes t old old q fed w
writes t old p q fed w number answer shows was is g f = by t (answer ∙ ap (is_number old.last) shows)
  where
    h : List Event
    h = history_of fed

    reached : cuts_before (old.last + 1) h w.content ≡ is_number old.last (number_by h w.content)
    reached = ends_frame old.last h w.content (closed_at old.first fed was.replays.stands.valid g.there) f.fine

    by : (t : Bool) → t ≡ is_number old.last (number_by h w.content) → Takes t old old q fed w
    by true same =
        let e = extends old.minor old.first old.last fed w g in
        record {
          valid = f.replayed.replays.stands.valid;
          there = e.there;
          reached = reached_by old.first old.last fed w g ∙ reached ∙ sym same;
          some = e.range;
          shows = number_there old.last (number_by h w.content) (sym same);
        }
    by false same = record {
      after = record {
        replayed = f.replayed;
        phase = subst (λ p. IsPhase p old.first old.last old.kept.items (fed ++ w ∷ [])) (sym is) (still_writing old.first old.last fed w g (reached ∙ sym same));
      };
      range = same_range old;
    }

-- ---- what is written

-- a prefix of what is written of more blocks
pub front_on : (c : Cutter) (fed : List Whole) (w : Whole) (a b : Option (List ℕ)) → Appends a b (text_by c fed) → AppendsPart a b (text_by c (fed ++ w ∷ []))
front_on c fed w a b text =
    let g = grown c.minor c.first c.last fed (w ∷ []) in
    subst (AppendsPart a b) (sym g.is) (part_of a b (text_by c fed) g.tail (whole_part a b (text_by c fed) text))

-- a block of a range that goes on
pub text_on : (c : Cutter) (fed : List Whole) (w : Whole) → IsWriting c.first c.last fed → text_by c (fed ++ w ∷ []) ≡ text_by c fed ++ w.bytes
text_on c fed w g =
    (extends c.minor c.first c.last fed w (writing_continues c.first c.last fed w g)).text ∙ ap (λ l. l ++ w.bytes) (sym (text_going c.minor c.first c.last fed g.some g.going))

-- and of one that begins
pub text_first : (c : Cutter) (fed : List Whole) (w : Whole) → IsWaiting c.first c.kept.items fed → Continues c.first c.last fed w →
    text_by c (fed ++ w ∷ []) ≡ text_by c fed ++ (opening c.minor (history_of fed) c.first c.kept.items ++ w.bytes)
text_first c fed w g goes =
    (extends c.minor c.first c.last fed w goes).text ∙ ap (λ l. l ++ w.bytes) (opening_file c.minor c.first c.kept.items fed g)
    ∙ ap (λ l. l ++ (opening c.minor (history_of fed) c.first c.kept.items ++ w.bytes)) (sym (text_waiting c.minor c.first c.last fed g.quiet))

-- ---- what holds where a call was done

pub if_ok : {E : Type 0} (r : Result Bool E) (P Q : Bool → Type 0) → IfOk r P → ((b : Bool) → P b → Q b) → IfOk r Q
if_ok (Ok b) P Q p f = f b p
if_ok (Err e) P Q p f = tt

pub on_ok : {E : Type 0} (r : Result Bool E) (P : Bool → Type 0) (Q : Type 0) → IfOk r P → ((b : Bool) → P b → Q) → OnOk r Q
on_ok (Ok b) P Q p f = f b p
on_ok (Err e) P Q p f = tt

pub still_ok : {E : Type 0} (r : Result Bool E) (P Q : Type 0) → OnOk r P → (P → Q) → OnOk r Q
still_ok (Ok b) P Q p f = f p
still_ok (Err e) P Q p f = tt

pub if_err : {T E : Type 0} (r : Result T E) (P Q : E → Type 0) → IfErr r P → ((e : E) → P e → Q e) → IfErr r Q
if_err (Ok b) P Q p f = tt
if_err (Err e) P Q p f = f e p

-- a cut that goes on
pub goes_takes : (t : Bool) (old new : Cutter) (q : Player) (fed : List Whole) (w : Whole) → t ≡ false → GoesOn old new q fed w → Takes t old new q fed w
goes_takes t old new q fed w is g = subst (λ t. Takes t old new q fed w) (sym is) g

-- a player that replayed alike
pub after_alike : (c : Cutter) (p q : Player) (fed : List Whole) → IsReplayedAlike p q → IsAfter c p fed → IsAfter c q fed
after_alike c p q fed same a = record { replayed = replayed_alike p q fed same a.replayed; phase = a.phase }
