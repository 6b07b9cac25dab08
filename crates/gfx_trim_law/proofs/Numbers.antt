-- The numbers of frames in valid histories, and where markers may occur.
use Rattle.std.proofs.Common.{◌≡◌, ℕ, ◌^◌, ◌<◌, ◌≤◌, ◌==◌, ◌||◌, Bool, true, false, refl, sym, ◌∙◌, subst, List, [], ◌∷◌, Some, None, is_none, arith}
use Rattle.std.specs.List.{AllByRecursion}
use Rattle.std.proofs.lemmas.Bool.{and_parts, both_ways, eqb-true}
use Rattle.gfx_types.specs.declared.frame.Frame.{Frame}
use Rattle.gfx_model.specs.Events.{Event}
use Rattle.gfx_model.specs.Events.Event.{CreateInstance, BeginSection, EndSection, QueuePresentKHR}
use Rattle.gfx_model.specs.History.{onto, view, fault, is_valid}
use Rattle.gfx_model.specs.Frames.{frame_of, frames}
use Rattle.gfx_model.specs.Meaning.{has_frame}
use Rattle.gfx_model.specs.Trimmed.{begins_section}
use Rattle.gfx_laws.specs.Laws.{IsNoMarker, frames_after}
use Rattle.gfx_model.proofs.Lists.{all_append, all_along}
use Rattle.gfx_laws.proofs.ValidHistories.{no_fault}
use Rattle.gfx_laws.proofs.Ranges.{valid_next}
use Rattle.gfx_trim_law.proofs.Clock.{at_start, quiet_event, present_event, begun, ended, some_after, present_checks, end_checks, begin_checks}

-- an event that begins no section
abbrev pub IsNoBegin : Event → Type 0
IsNoBegin e = begins_section e ≡ false

-- a section begins at the start alone
pub late_begin : (frame : ℕ) (h : List Event) → (view h).is_empty ≡ false → fault h (BeginSection frame) ≡ None → ⊥
late_begin frame h some ok = both_ways (view h).is_empty some (begin_checks frame h ok).0

pub last_parts : (e : Event) (h : List Event) → is_valid (e ∷ h) ≡ true → (is_valid h ≡ true) × (fault h e ≡ None)
last_parts e h valid = let parts = and_parts (is_valid h) (is_none (fault h e)) valid in (parts.0, no_fault (fault h e) parts.1)

-- the next frame after the begin of a section is the frame of the section
pub open_number : (h : List Event) (n : ℕ) → is_valid h ≡ true → (view h).section ≡ Some n → (view h).next_frame ≡ n
open_number [] n valid is = let none : None ≡ Some n = sym at_start.1 ∙ is in absurd cc
open_number (e ∷ h) n valid is = let ok = last_parts e h valid in by e ok.1 is (λ same. open_number h n ok.0 same)
  where
    by : (e : Event) → fault h e ≡ None → (view (e ∷ h)).section ≡ Some n → ((view h).section ≡ Some n → (view h).next_frame ≡ n) → (view (e ∷ h)).next_frame ≡ n
    by (BeginSection frame) ok is before =
        let b = begun frame h in let same : Some frame ≡ Some n = sym b.1 ∙ is in b.0 ∙ cc
    by (EndSection frame) ok is before =
        let none : None ≡ Some n = sym (ended frame h).1 ∙ is in absurd cc
    by (QueuePresentKHR queue waits images) ok is before =
        let none : None ≡ Some n = sym (present_checks queue waits images h ok).0 ∙ sym (present_event queue waits images h).section ∙ is in absurd cc
    by (CreateInstance instance api) ok is before =
        let q = quiet_event (CreateInstance instance api) h tt in q.frame ∙ before (sym q.section ∙ is)
    by e ok is before = let q = quiet_event e h tt in q.frame ∙ before (sym q.section ∙ is)

-- a frame of a capture
abbrev pub IsShownBefore : ℕ → Frame → Type 0
IsShownBefore n f = (1 ≤ f.number) × (f.number < n) × (f.number ≤ 2 ^ 62)

-- the frames of a valid history are numbered from 1 on, below the next one
pub record IsNumbered (h : List Event) : Type 0 where
  pub low : 1 ≤ (view h).next_frame
  pub shown : AllByRecursion (IsShownBefore (view h).next_frame) (frames h)

later_all : (n m : ℕ) → n ≤ m → (fs : List Frame) → AllByRecursion (IsShownBefore n) fs → AllByRecursion (IsShownBefore m) fs
later_all n m up fs a = all_along (IsShownBefore n) (IsShownBefore m) (λ f s. (s.0, omega (arith, up, s.1), s.2)) fs a

pub numbered : (h : List Event) → is_valid h ≡ true → IsNumbered h
unfolding frames
numbered [] valid = record { low = omega (arith, at_start.0); shown = tt }
numbered (e ∷ h) valid = let ok = last_parts e h valid in by e ok.1 (numbered h ok.0)
  where
    begin_first : (frame : ℕ) (h : List Event) → fault h (BeginSection frame) ≡ None → AllByRecursion (IsShownBefore frame) (frames h)
    begin_first frame [] ok = tt
    begin_first frame (x ∷ h) ok = absurd (late_begin frame (x ∷ h) (some_after x h) ok)

    by : (e : Event) → fault h e ≡ None → IsNumbered h → IsNumbered (e ∷ h)
    by (BeginSection frame) ok n =
        let b = begun frame h in let c = begin_checks frame h ok in
        record { low = omega (arith, b.0, c.1); shown = later_all frame (view (BeginSection frame ∷ h)).next_frame (omega (arith, b.0)) (frames h) (begin_first frame h ok) }
    by (EndSection frame) ok n =
        let b = ended frame h in
        record { low = omega (arith, b.0, n.low); shown = later_all (view h).next_frame (view (EndSection frame ∷ h)).next_frame (omega (arith, b.0)) (frames h) n.shown }
    by (QueuePresentKHR queue waits images) ok n =
        let p = present_event queue waits images h in let c = present_checks queue waits images h ok in
        let now = (view (QueuePresentKHR queue waits images ∷ h)).next_frame in
        record {
          low = omega (arith, p.frame);
          shown = all_append (IsShownBefore now) (frames h) (frame_of h images ∷ []) (later_all (view h).next_frame now (omega (arith, p.frame)) (frames h) n.shown)
              ((n.low, omega (arith, p.frame), c.1), tt);
        }
    by (CreateInstance instance api) ok n =
        let q = quiet_event (CreateInstance instance api) h tt in
        record { low = omega (arith, q.frame, n.low); shown = later_all (view h).next_frame (view (CreateInstance instance api ∷ h)).next_frame (omega (arith, q.frame)) (frames h) n.shown }
    by e ok n =
        let q = quiet_event e h tt in
        record { low = omega (arith, q.frame, n.low); shown = later_all (view h).next_frame (view (e ∷ h)).next_frame (omega (arith, q.frame)) (frames h) n.shown }

-- ---- what goes on after a history

-- no frame number falls
pub record Rises (h es : List Event) : Type 0 where
  pub frame : (view h).next_frame ≤ (view (onto es h)).next_frame
  pub shown : AllByRecursion (λ f. (view h).next_frame ≤ f.number) (frames_after h es)

higher_all : (n m : ℕ) → n ≤ m → (fs : List Frame) → AllByRecursion (λ f. m ≤ f.number) fs → AllByRecursion (λ f. n ≤ f.number) fs
higher_all n m up fs a = all_along (λ f. m ≤ f.number) (λ f. n ≤ f.number) (λ f low. omega (arith, up, low)) fs a

pub rises : (es h : List Event) → AllByRecursion IsNoBegin es → Rises h es
rises [] h a = record { frame = omega arith; shown = tt }
rises (e ∷ es) h a = by e a.0 (rises es (e ∷ h) a.1)
  where
    by : (e : Event) → IsNoBegin e → Rises (e ∷ h) es → Rises h (e ∷ es)
    by (BeginSection frame) b r = absurd cc
    by (EndSection frame) b r =
        let m = ended frame h in
        record { frame = omega (arith, m.0, r.frame); shown = higher_all (view h).next_frame (view (EndSection frame ∷ h)).next_frame (omega (arith, m.0)) _ r.shown }
    by (QueuePresentKHR queue waits images) b r =
        let p = present_event queue waits images h in
        record { frame = omega (arith, p.frame, r.frame); shown = (omega arith, higher_all (view h).next_frame (view (QueuePresentKHR queue waits images ∷ h)).next_frame (omega (arith, p.frame)) _ r.shown) }
    by (CreateInstance instance api) b r =
        let q = quiet_event (CreateInstance instance api) h tt in
        record { frame = omega (arith, q.frame, r.frame); shown = higher_all (view h).next_frame (view (CreateInstance instance api ∷ h)).next_frame (omega (arith, q.frame)) _ r.shown }
    by e b r =
        let q = quiet_event e h tt in
        record { frame = omega (arith, q.frame, r.frame); shown = higher_all (view h).next_frame (view (e ∷ h)).next_frame (omega (arith, q.frame)) _ r.shown }

-- no section begins later
pub no_begins : (es h : List Event) → (view h).is_empty ≡ false → is_valid (onto es h) ≡ true → AllByRecursion IsNoBegin es
no_begins [] h some valid = tt
no_begins (e ∷ es) h some valid = (by e (valid_next es h e valid), no_begins es (e ∷ h) (some_after e h) valid)
  where
    by : (e : Event) → fault h e ≡ None → IsNoBegin e
    by (BeginSection frame) ok = absurd (late_begin frame h some ok)
    by e ok = refl

-- and where none is open, none ends
pub no_markers : (es h : List Event) → AllByRecursion IsNoBegin es → (view h).section ≡ None → is_valid (onto es h) ≡ true → AllByRecursion IsNoMarker es
no_markers [] h a closed valid = tt
no_markers (e ∷ es) h a closed valid = by e a.0 (valid_next es h e valid) (λ still. no_markers es (e ∷ h) a.1 still valid)
  where
    by : (e : Event) → IsNoBegin e → fault h e ≡ None → ((view (e ∷ h)).section ≡ None → AllByRecursion IsNoMarker es) → IsNoMarker e × AllByRecursion IsNoMarker es
    by (BeginSection frame) b ok later = absurd cc
    by (EndSection frame) b ok later = let open_there : None ≡ Some frame = sym closed ∙ end_checks frame h ok in absurd cc
    by (QueuePresentKHR queue waits images) b ok later = (tt, later ((present_event queue waits images h).section ∙ closed))
    by (CreateInstance instance api) b ok later = (tt, later ((quiet_event (CreateInstance instance api) h tt).section ∙ closed))
    by e b ok later = (tt, later ((quiet_event e h tt).section ∙ closed))

-- ---- frames by their numbers

-- what holds of all numbers of frames holds of the number of one of them
pub number_of : (P : ℕ → Type 0) (n : ℕ) (fs : List Frame) → has_frame n fs ≡ true → AllByRecursion (λ f. P f.number) fs → P n
number_of P n [] has a = absurd cc
number_of P n (f ∷ fs) has a = by (f.number == n) refl has (λ rest. number_of P n fs rest a.1)
  where
    by : (b : Bool) → (f.number == n) ≡ b → (b || has_frame n fs) ≡ true → (has_frame n fs ≡ true → P n) → P n
    by true is has later = subst P (eqb-true f.number n is) a.0
    by false is has later = later has
