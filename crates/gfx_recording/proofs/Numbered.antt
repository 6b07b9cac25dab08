-- The frames of a log that matches a script are numbered from 1 on, one for each present of the script.
use Rattle.std.proofs.Common.{◌≡◌, ◌⊎◌, ℕ, ◌+◌, ◌==◌, Bool, true, false, List, [], ◌∷◌, ◌++◌, filter, length, refl, sym, ap, ◌∙◌, arith}
use Rattle.std.specs.Prelude.{unwrap_or}
use Rattle.std.specs.List.{AllByRecursion}
use Rattle.gfx_types.specs.declared.frame.Frame.{Frame}
use Rattle.gfx_model.specs.Events.{Event}
use Rattle.gfx_model.specs.Events.Event.{CreateInstance, QueuePresentKHR, BeginSection, EndSection}
use Rattle.gfx_model.specs.Spelling.{type_of}
use Rattle.gfx_model.specs.History.{view}
use Rattle.gfx_model.specs.Frames.{frames, frame_of}
use Rattle.gfx_model.specs.Meaning.{Judged}
use Rattle.gfx_trim_law.proofs.Clock.{at_start, quiet_event, present_event}
use Rattle.gfx_script_model.specs.Ids.{map_ids}
use Rattle.gfx_script_model.specs.Runs.{Entry, Matches, history, history_onto}
use Rattle.gfx_script_model.specs.Scripts.{Line, Part}
use Rattle.gfx_script_law.specs.Playable.{HasBlocks, IsPlayable, script_lines}
use Rattle.gfx_script_law.specs.Presents.{is_present, presents}
use Rattle.gfx_script_law.proofs.Counting.{as_many_calls, counted, one}
use Rattle.gfx_capture.specs.Log.{IsSound}
use Rattle.gfx_log_law.specs.Logs.{log_file}
use Rattle.gfx_log_law.proofs.Files.{judged}
use Rattle.gfx_player.specs.Meanings.{first_in, first_of, history_in, last_in}

-- the event is a marker
abbrev pub is_marker : Event → Bool
is_marker e = type_of e == 2

-- after an event that is no marker the next frame is one higher where it is a present, and the first frame is as it was
record Goes (h : List Event) (e : Event) : Type 0 where
  next : (view (e ∷ h)).next_frame ≡ (view h).next_frame + one (is_present e)
  first : first_in (e ∷ h) ≡ first_in h

first_stays : (fs : List Frame) (n m : ℕ) (f : Frame) → f.number ≡ n → unwrap_or (first_of (fs ++ f ∷ [])) m ≡ unwrap_or (first_of fs) n
first_stays [] n m f is = is
first_stays (g ∷ gs) n m f is = refl

goes : (h : List Event) (e : Event) → is_marker e ≡ false → Goes h e
unfolding frames type_of
goes h (BeginSection frame) none = absurd cc
goes h (EndSection frame) none = absurd cc
goes h (QueuePresentKHR queue waits presents) none = record {
  next = (present_event queue waits presents h).frame;
  first = first_stays (frames h) (view h).next_frame (view (QueuePresentKHR queue waits presents ∷ h)).next_frame (frame_of h presents) refl;
}
goes h (CreateInstance instance api) none =
    let q = quiet_event (CreateInstance instance api) h tt in
    record { next = omega (arith, q.frame); first = ap (unwrap_or (first_of (frames h))) q.frame }
goes h e none =
    let q = quiet_event e h tt in
    record { next = omega (arith, q.frame); first = ap (unwrap_or (first_of (frames h))) q.frame }

none_is_false : (b : Bool) → one b ≡ 0 → b ≡ false
none_is_false true e = absurd cc
none_is_false false e = refl

-- so many entries of a log are markers, or presents
abbrev markers : List Entry → ℕ
markers log = length (filter (λ (e : Entry). is_marker e.event) log)

abbrev shows : List Entry → ℕ
shows log = length (filter (λ (e : Entry). is_present e.event) log)

record GoesOn (h later : List Event) (count : ℕ) : Type 0 where
  next : (view later).next_frame ≡ (view h).next_frame + count
  first : first_in later ≡ first_in h

goes_on : (log : List Entry) (h : List Event) → markers log ≡ 0 → GoesOn h (history_onto log h) (shows log)
goes_on [] h none = record { next = omega arith; first = refl }
goes_on (e ∷ es) h none =
    let marked = counted (λ (e : Entry). is_marker e.event) e es in
    let shown = counted (λ (e : Entry). is_present e.event) e es in
    let here = goes h e.event (none_is_false (is_marker e.event) (omega (arith, marked, none))) in
    let rest = goes_on es (e.event ∷ h) (omega (arith, marked, none)) in
    record { next = omega (arith, rest.next, here.next, shown); first = rest.first ∙ here.first }

record IsNumbered (log : List Entry) : Type 0 where
  first : first_in (history log) ≡ 1
  last : last_in (history log) ≡ shows log

first_at_start : first_in [] ≡ 1
unfolding frames
first_at_start = at_start.0

numbered : (log : List Entry) → markers log ≡ 0 → IsNumbered log
numbered log none =
    let g = goes_on log [] none in
    record { first = g.first ∙ first_at_start; last = omega (arith, g.next, at_start.0) }

-- a call is a marker or a present whatever its ids are
keeps_markers : (ids : ℕ → ℕ) (e : Event) → is_marker (map_ids ids e) ≡ is_marker e
unfolding type_of map_ids
keeps_markers ids (BeginSection frame) = refl
keeps_markers ids e = refl

keeps_presents : (ids : ℕ → ℕ) (e : Event) → is_present (map_ids ids e) ≡ is_present e
unfolding map_ids
keeps_presents ids (QueuePresentKHR queue waits presents) = refl
keeps_presents ids e = refl

-- no line of a script is a marker
no_markers : (m : ℕ) (ls : List Line) → AllByRecursion (HasBlocks m) ls → length (filter (λ (l : Line). is_marker l.event) ls) ≡ 0
no_markers m [] blocks = refl
no_markers m (l ∷ ls) blocks =
    let more = counted (λ (l : Line). is_marker l.event) l ls in
    let none = sym (keeps_markers (λ k. 0) l.event) ∙ (blocks.0 (λ k. 0) (λ k. omega arith)).unmarked in
    let zero = ap one none in
    let rest = no_markers m ls blocks.1 in omega arith

-- the file of a log has the presents of the script as frames
pub record ShowsPresents (bytes : List ℕ) (count : ℕ) : Type 0 where
  pub first : first_in (history_in bytes) ≡ 1
  pub last : last_in (history_in bytes) ≡ count

pub shows_presents : (m k : ℕ) (phases : List (List Part)) (log : List Entry) → (k ≡ 1) ⊎ (k ≡ 2) → IsPlayable m phases → Matches m phases log → IsSound k log → ShowsPresents (log_file k log) (presents phases)
shows_presents m k phases log version play matches sound =
    let same : history_in (log_file k log) ≡ history log = ap (λ (j : Judged). j.history) (judged k log version sound.small sound.written sound.valid) in
    let none = as_many_calls is_marker keeps_markers m phases log play.apart matches ∙ no_markers m (script_lines phases) play.blocks in
    let n = numbered log none in
    record {
      first = ap first_in same ∙ n.first;
      last = ap last_in same ∙ (n.last ∙ as_many_calls is_present keeps_presents m phases log play.apart matches);
    }
