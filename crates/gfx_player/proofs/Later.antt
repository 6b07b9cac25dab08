-- Nothing behind the last frame that is asked for is asked for.
use Rattle.std.proofs.Common.{◌≡◌, ◌≤◌, ◌<◌, ◌&&◌, ◌||◌, ◌==◌, if◌then◌else◌, ℕ, Bool, true, false, List, [], ◌∷◌, ◌++◌, Option, refl, sym, ap, subst, ◌∙◌, arith}
use Rattle.std.specs.Prelude.{nat_le, filter, unwrap_or}
use Rattle.std.specs.List.{list_any, AllByRecursion}
use Rattle.std.proofs.lemmas.List.{append-nil}
use Rattle.std.proofs.lemmas.List.Elements.{filter-append}
use Rattle.std.proofs.lemmas.Bool.{lt-leb}
use Rattle.gfx_types.specs.declared.frame.Frame.{Frame}
use Rattle.gfx_model.specs.Events.{Event}
use Rattle.gfx_model.specs.Blocks.{Whole}
use Rattle.gfx_model.specs.History.{is_valid, view}
use Rattle.gfx_model.specs.Frames.{frames}
use Rattle.gfx_model.specs.Meaning.{has_frame}
use Rattle.gfx_model.proofs.Lists.{any_append}
use Rattle.gfx_laws.specs.Laws.{frames_after}
use Rattle.gfx_trim_law.proofs.Cuts.{events_in, onto_events}
use Rattle.gfx_trim_law.proofs.Numbers.{IsShownBefore, numbered, rises, no_begins, number_of}
use Rattle.gfx_trim_law.proofs.Clock.{some_after}
use Rattle.gfx_io.specs.Told.{IfTold}
use Rattle.gfx_decode.proofs.Told.{told_if}
use Rattle.gfx_player.specs.declared.player.Player.{Player}
use Rattle.gfx_player.specs.Ends.{BeginsWith}
use Rattle.gfx_player.specs.Walks.{Plays}
use Rattle.gfx_player.specs.declared.asked.Asked.{Asked}
use Rattle.gfx_player.specs.declared.asked.Asked.TheVariants as asked
use Rattle.gfx_player.specs.Asked.{is_asked, is_last, asked_of, has_last}
use Rattle.gfx_player.specs.Meanings.{frames_in, first_of}
use Rattle.gfx_player.specs.Fed.{history_of}
use Rattle.gfx_player.proofs.Judging.{longer}
use Rattle.gfx_player.proofs.Walking.{fed_begins}

-- no frame behind a number is asked for
none_asked : (a b first : ℕ) (fs : List Frame) → AllByRecursion (λ (f : Frame). b < f.number) fs → filter (λ (f : Frame). is_asked (asked.Between a b) first f.number) fs ≡ []
none_asked a b first [] all = refl
none_asked a b first (f ∷ fs) (high, all) =
    ap (λ t. if t then f ∷ filter (λ (f : Frame). is_asked (asked.Between a b) first f.number) fs else filter (λ (f : Frame). is_asked (asked.Between a b) first f.number) fs) (not_asked (nat_le first a) (nat_le a f.number) (above f.number b high))
    ∙ none_asked a b first fs all
  where
    not_asked : (s t : Bool) {u : Bool} → u ≡ false → (s && t && u) ≡ false
    not_asked true true is = is
    not_asked true false is = refl
    not_asked false t is = refl

    above : (n b : ℕ) → b < n → nat_le n b ≡ false
    above n b high = lt-leb n b high

-- the last frame is there
has_number : (a b first : ℕ) (fs : List Frame) → list_any (λ (f : Frame). is_last (asked.Between a b) first f.number) fs ≡ true → has_frame b fs ≡ true
has_number a b first [] has = absurd cc
has_number a b first (f ∷ fs) has = one (nat_le first a) (f.number == b) has (has_number a b first fs)
  where
    one : (s t : Bool) → ((s && t) || list_any (λ (f : Frame). is_last (asked.Between a b) first f.number) fs) ≡ true →
        (list_any (λ (f : Frame). is_last (asked.Between a b) first f.number) fs ≡ true → has_frame b fs ≡ true) → (t || has_frame b fs) ≡ true
    one s true has later = refl
    one true false has later = later has
    one false false has later = later has

first_stays : (fs more : List Frame) (b : ℕ) → has_frame b fs ≡ true → first_of (fs ++ more) ≡ first_of fs
first_stays [] more b has = absurd cc
first_stays (f ∷ fs) more b has = refl

not_empty : (h : List Event) (b : ℕ) → has_frame b (frames h) ≡ true → (view h).is_empty ≡ false
unfolding frames
not_empty [] b has = absurd cc
not_empty (e ∷ h) b has = some_after e h

-- where all frames are asked for, none is the last
none_last : (fs : List Frame) (first : ℕ) → list_any (λ (f : Frame). is_last asked.All first f.number) fs ≡ false
none_last [] first = refl
none_last (f ∷ fs) first = none_last fs first

pub never_last : (fs : List Frame) → has_last asked.All fs ≡ true → ⊥
never_last fs has = let none : false ≡ true = sym (none_last fs (unwrap_or (first_of fs) 0)) ∙ has in cc

-- what is asked for of a file whose last frame was shown
pub record LastShown (a : Asked) (shown all : List Frame) : Type 0 where
  pub asked : asked_of a all ≡ asked_of a shown
  pub last : has_last a all ≡ true

last_among : (a b : ℕ) (fed : List Whole) (all : List ℕ) → BeginsWith fed all → is_valid (history_of fed) ≡ true → has_last (asked.Between a b) (frames (history_of fed)) ≡ true →
    LastShown (asked.Between a b) (frames (history_of fed)) (frames_in all)
last_among a b fed all begins valid has =
    let h = history_of fed in
    let l = longer fed all begins valid in
    let number = has_number a b (unwrap_or (first_of (frames h)) 0) (frames h) has in
    let low : b < (view h).next_frame = number_of (λ n. n < (view h).next_frame) b (frames h) number (below (view h).next_frame (frames h) (numbered h valid).shown) in
    let es = events_in l.good in
    let begins = no_begins es h (not_empty h b number) (subst (λ h. is_valid h ≡ true) (onto_events l.good h) l.valid) in
    let high = beyond (view h).next_frame (frames_after h es) low (rises es h begins).shown in
    let first = first_stays (frames h) (frames_after h es) b number in
    let n = unwrap_or (first_of (frames h)) 0 in
    record {
      asked = ap (asked_of (asked.Between a b)) l.is
          ∙ ap (λ (o : Option ℕ). filter (λ (f : Frame). is_asked (asked.Between a b) (unwrap_or o 0) f.number) (frames h ++ frames_after h es)) first
          ∙ filter-append (λ (f : Frame). is_asked (asked.Between a b) n f.number) (frames h) (frames_after h es)
          ∙ ap (λ fs. asked_of (asked.Between a b) (frames h) ++ fs) (none_asked a b n (frames_after h es) high)
          ∙ append-nil (asked_of (asked.Between a b) (frames h));
      last = ap (has_last (asked.Between a b)) l.is
          ∙ ap (λ (o : Option ℕ). list_any (λ (f : Frame). is_last (asked.Between a b) (unwrap_or o 0) f.number) (frames h ++ frames_after h es)) first
          ∙ any_append (λ (f : Frame). is_last (asked.Between a b) n f.number) (frames h) (frames_after h es) has;
    }
  where
    below : (n : ℕ) (fs : List Frame) → AllByRecursion (IsShownBefore n) fs → AllByRecursion (λ (f : Frame). f.number < n) fs
    below n [] all = tt
    below n (f ∷ fs) (is, all) = (is.1, below n fs all)

    beyond : (n : ℕ) (fs : List Frame) → b < n → AllByRecursion (λ (f : Frame). n ≤ f.number) fs → AllByRecursion (λ (f : Frame). b < f.number) fs
    beyond n [] low all = tt
    beyond n (f ∷ fs) low (high, all) = (omega (arith, low, high), beyond n fs low all)

-- where the last frame that is asked for was shown, what was asked for was
pub last_shown : (a : Asked) (p : Player) (shown : List Frame) (file left : Option (List ℕ)) → Plays p shown file left → has_last a shown ≡ true → IfTold file left (λ all rest. LastShown a shown (frames_in all))
last_shown asked.All p shown file left w has = absurd (never_last shown has)
last_shown (asked.Between a b) p shown file left w has =
    told_if file left _ (λ all rest. LastShown (asked.Between a b) shown (frames_in all)) w.read.told
    (λ all rest was.
    subst (λ fs. LastShown (asked.Between a b) fs (frames_in all)) w.shows
    (last_among a b w.fed all (fed_begins w.fed p.decoder all rest was.0) w.replayed.replays.stands.valid (ap (has_last (asked.Between a b)) w.shows ∙ has)))
