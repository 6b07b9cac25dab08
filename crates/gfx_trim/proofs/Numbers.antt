-- Which frames a valid history shows, by their numbers.
use Rattle.std.proofs.Common.{◌≡◌, ◌≤◌, ◌<◌, ◌⊎◌, inl, inr, ℕ, ◌==◌, ◌||◌, Bool, true, false, List, [], ◌∷◌, ◌++◌, None, refl, sym, ap, ◌∙◌, arith}
use Rattle.std.specs.Prelude.{unwrap_or}
use Rattle.std.proofs.lemmas.Bool.{cases_lt, or_left, or_right, eq-eqb, eqb-true}
use Rattle.std.proofs.lemmas.List.Folds.{list_any-append}
use Rattle.std.specs.List.{AllByRecursion}
use Rattle.gfx_types.specs.declared.frame.Frame.{Frame}
use Rattle.gfx_model.specs.Events.{Event}
use Rattle.gfx_model.specs.Events.Event.{CreateInstance, BeginSection, EndSection, QueuePresentKHR}
use Rattle.gfx_model.specs.History.{view, fault, is_valid}
use Rattle.gfx_model.specs.Frames.{frame_of, frames}
use Rattle.gfx_model.specs.Meaning.{has_frame}
use Rattle.gfx_model.proofs.Lists.{all_along}
use Rattle.gfx_trim_law.proofs.Clock.{quiet_event, present_event, ended, some_after}
use Rattle.gfx_trim_law.proofs.Numbers.{numbered, last_parts, late_begin, number_of, IsShownBefore}
use Rattle.gfx_player.specs.Meanings.{first_of, first_in}
use Rattle.gfx_trim.specs.Numbers.{IsInside, IsOutside}

-- ---- no number is missing

-- frames, and one behind them whose number is n
shown_last : (n : ℕ) (fs : List Frame) (f : Frame) → f.number ≡ n → has_frame n (fs ++ f ∷ []) ≡ true
shown_last n fs f is =
    list_any-append (λ (f : Frame). f.number == n) fs (f ∷ []) ∙ or_right (has_frame n fs) ((f.number == n) || false) (or_left (f.number == n) false (eq-eqb f.number n is))

shown_on : (n : ℕ) (fs : List Frame) (f : Frame) → has_frame n fs ≡ true → has_frame n (fs ++ f ∷ []) ≡ true
shown_on n fs f has = list_any-append (λ (f : Frame). f.number == n) fs (f ∷ []) ∙ or_left (has_frame n fs) ((f.number == n) || false) has

-- the first number of frames, with one frame more
first_on : (fs : List Frame) (f : Frame) (m : ℕ) → unwrap_or (first_of (fs ++ f ∷ [])) m ≡ unwrap_or (first_of fs) f.number
first_on [] f m = refl
first_on (g ∷ fs) f m = refl

-- a section begins at the start, where nothing is shown
begin_shows : (frame : ℕ) (h : List Event) → fault h (BeginSection frame) ≡ None → h ≡ []
begin_shows frame [] ok = refl
begin_shows frame (x ∷ h) ok = absurd (late_begin frame (x ∷ h) (some_after x h) ok)

-- each number from the first to the last is shown
pub none_missing : (n : ℕ) (h : List Event) → is_valid h ≡ true → first_in h ≤ n → n < (view h).next_frame → has_frame n (frames h) ≡ true
unfolding frames
none_missing n [] valid low high = absurd (omega (arith, low, high))
none_missing n (e ∷ h) valid low high = let ok = last_parts e h valid in by e ok.1 low high (none_missing n h ok.0)
  where
    by : (e : Event) → fault h e ≡ None → first_in (e ∷ h) ≤ n → n < (view (e ∷ h)).next_frame → (first_in h ≤ n → n < (view h).next_frame → has_frame n (frames h) ≡ true) → has_frame n (frames (e ∷ h)) ≡ true
    by (BeginSection frame) ok low high later =
        let none : h ≡ [] = begin_shows frame h ok in
        let same : first_in (BeginSection frame ∷ h) ≡ (view (BeginSection frame ∷ h)).next_frame = ap (λ (k : List Event). unwrap_or (first_of (frames k)) (view (BeginSection frame ∷ h)).next_frame) none in
        absurd (omega (arith, same, low, high))
    by (EndSection frame) ok low high later =
        let m = ended frame h in
        later (omega (arith, low, ap (λ n. unwrap_or (first_of (frames h)) n) m.0)) (omega (arith, high, m.0))
    by (QueuePresentKHR queue waits images) ok low high later =
        let p = present_event queue waits images h in
        let first : first_in (QueuePresentKHR queue waits images ∷ h) ≡ first_in h = first_on (frames h) (frame_of h images) (view (QueuePresentKHR queue waits images ∷ h)).next_frame in
        elim (cases_lt n (view h).next_frame) [
          | inl below ↦ shown_on n (frames h) (frame_of h images) (later (omega (arith, low, first)) below)
          | inr up ↦ shown_last n (frames h) (frame_of h images) (omega (arith, up, high, p.frame))
        ]
    by (CreateInstance instance api) ok low high later =
        let q = quiet_event (CreateInstance instance api) h tt in
        later (omega (arith, low, ap (λ n. unwrap_or (first_of (frames h)) n) q.frame)) (omega (arith, high, q.frame))
    by e ok low high later =
        let q = quiet_event e h tt in
        later (omega (arith, low, ap (λ n. unwrap_or (first_of (frames h)) n) q.frame)) (omega (arith, high, q.frame))

-- ---- none is below the first

first_below : (h : List Event) → is_valid h ≡ true → first_in h ≤ (view h).next_frame
first_below h valid = by (frames h) (numbered h valid).shown
  where
    by : (fs : List Frame) → AllByRecursion (IsShownBefore (view h).next_frame) fs → unwrap_or (first_of fs) (view h).next_frame ≤ (view h).next_frame
    by [] all = omega arith
    by (f ∷ fs) all = omega (arith, all.0.1)

-- a frame is among the first ones, or it is the last
among : (n : ℕ) (fs : List Frame) (f : Frame) → has_frame n (fs ++ f ∷ []) ≡ true → (has_frame n fs ≡ true) ⊎ (f.number ≡ n)
among n fs f has = by (has_frame n fs) (f.number == n) refl refl (sym (list_any-append (λ (f : Frame). f.number == n) fs (f ∷ [])) ∙ has)
  where
    by : (a b : Bool) → has_frame n fs ≡ a → (f.number == n) ≡ b → (has_frame n fs || ((f.number == n) || false)) ≡ true → (has_frame n fs ≡ true) ⊎ (f.number ≡ n)
    by true b is same either = inl is
    by false true is same either = inr (eqb-true f.number n same)
    by false false is same either = let none : (has_frame n fs || ((f.number == n) || false)) ≡ false = ap (λ t. t || ((f.number == n) || false)) is ∙ ap (λ t. t || false) same in absurd cc

pub first_lowest : (n : ℕ) (h : List Event) → is_valid h ≡ true → has_frame n (frames h) ≡ true → first_in h ≤ n
unfolding frames
first_lowest n [] valid has = absurd cc
first_lowest n (e ∷ h) valid has = let ok = last_parts e h valid in by e ok.1 has (first_below h ok.0) (first_lowest n h ok.0)
  where
    by : (e : Event) → fault h e ≡ None → has_frame n (frames (e ∷ h)) ≡ true → first_in h ≤ (view h).next_frame → (has_frame n (frames h) ≡ true → first_in h ≤ n) → first_in (e ∷ h) ≤ n
    by (BeginSection frame) ok has up later =
        let none : h ≡ [] = begin_shows frame h ok in
        let gone : has_frame n (frames h) ≡ false = ap (λ (k : List Event). has_frame n (frames k)) none in absurd cc
    by (EndSection frame) ok has up later = let m = ended frame h in let l = later has in omega (arith, l, ap (λ n. unwrap_or (first_of (frames h)) n) m.0)
    by (QueuePresentKHR queue waits images) ok has up later =
        let first : first_in (QueuePresentKHR queue waits images ∷ h) ≡ first_in h = first_on (frames h) (frame_of h images) (view (QueuePresentKHR queue waits images ∷ h)).next_frame in
        elim (among n (frames h) (frame_of h images) has) [
          | inl before ↦ let l = later before in omega (arith, l, first)
          | inr here ↦ omega (arith, here, first, up)
        ]
    by (CreateInstance instance api) ok has up later =
        let q = quiet_event (CreateInstance instance api) h tt in let l = later has in omega (arith, l, ap (λ n. unwrap_or (first_of (frames h)) n) q.frame)
    by e ok has up later =
        let q = quiet_event e h tt in let l = later has in omega (arith, l, ap (λ n. unwrap_or (first_of (frames h)) n) q.frame)

-- ---- a range

-- a range whose first and last frame are shown
pub inside : (first last : ℕ) (h : List Event) → is_valid h ≡ true → has_frame first (frames h) ≡ true → has_frame last (frames h) ≡ true → IsInside first last h
inside first last h valid first_there last_there =
    let below : last < (view h).next_frame = number_of (λ n. n < (view h).next_frame) last (frames h) last_there (all_along _ _ (λ f s. s.1) (frames h) (numbered h valid).shown) in
    record { low = first_lowest first h valid first_there; high = omega (arith, below) }

-- a range of which one of the two isn't
pub outside : (first last : ℕ) (h : List Event) → is_valid h ≡ true → first ≤ last → (has_frame first (frames h) ≡ true → has_frame last (frames h) ≡ true → ⊥) → IsOutside first last h
outside first last h valid ordered none =
    elim (cases_lt first (first_in h)) [
      | inl low ↦ inl low
      | inr up ↦ elim (cases_lt last (view h).next_frame) [
        | inl below ↦ absurd (none (none_missing first h valid up (omega (arith, ordered, below))) (none_missing last h valid (omega (arith, ordered, up)) below))
        | inr beyond ↦ inr (omega (arith, beyond, (numbered h valid).low))
      ]
    ]
