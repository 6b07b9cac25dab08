-- No frame of a range is missing: after a boundary each present shows the next number.
use Rattle.std.proofs.Common.{◌≡◌, ℕ, ◌<◌, ◌≤◌, ◌==◌, ◌||◌, nat_le, cond, Bool, true, false, refl, sym, ◌∙◌, ap, subst, List, [], ◌∷◌, filter, arith}
use Rattle.std.specs.List.{AllByRecursion}
use Rattle.std.proofs.lemmas.Bool.{or_left, or_right, eqb-true, le-leb}
use Rattle.std.proofs.lemmas.Bool.Decides.{nat_tests}
use Rattle.std.proofs.lemmas.List.Folds.{list_any-append}
use Rattle.gfx_types.specs.declared.frame.Frame.{Frame}
use Rattle.gfx_model.specs.Events.{Event}
use Rattle.gfx_model.specs.Events.Event.{CreateInstance, BeginSection, EndSection, QueuePresentKHR}
use Rattle.gfx_model.specs.Blocks.{Whole}
use Rattle.gfx_model.specs.History.{onto, view, is_valid}
use Rattle.gfx_model.specs.Frames.{frames}
use Rattle.gfx_model.specs.Meaning.{events_onto, frames_to, has_frame}
use Rattle.gfx_model.specs.Trimmed.{Cut, boundary, has_boundary, history_to}
use Rattle.gfx_laws.specs.Laws.{frames_after}
use Rattle.gfx_laws.proofs.Cases.{by_test}
use Rattle.gfx_laws.proofs.Ranges.{frames_parts}
use Rattle.gfx_model.proofs.Lists.{all_along}
use Rattle.gfx_trim_law.specs.Law.{EachIsShown, BegunIsShown}
use Rattle.gfx_trim_law.proofs.Clock.{quiet_event, present_event, ended}
use Rattle.gfx_trim_law.proofs.Numbers.{IsNoBegin, numbered, number_of}
use Rattle.gfx_trim_law.proofs.Cuts.{events_in, onto_events, onto_parts}
use Rattle.gfx_trim_law.proofs.Boundary.{boundary_there, at_boundary}
use Rattle.gfx_trim_law.proofs.Files.{kept_frame, shows}

-- each number from the next frame on is shown, up to the next frame behind the events
each_after : (n : ℕ) (es h : List Event) → AllByRecursion IsNoBegin es → (view h).next_frame ≤ n → n < (view (onto es h)).next_frame → has_frame n (frames_after h es) ≡ true
each_after n [] h a low high = absurd (omega (arith, low, high))
each_after n (e ∷ es) h a low high = by e a.0 (λ again. each_after n es (e ∷ h) a.1 again high)
  where
    by : (e : Event) → IsNoBegin e → ((view (e ∷ h)).next_frame ≤ n → has_frame n (frames_after (e ∷ h) es) ≡ true) → has_frame n (frames_after h (e ∷ es)) ≡ true
    by (BeginSection frame) b later = absurd cc
    by (EndSection frame) b later = let m = ended frame h in later (omega (arith, m.0, low))
    by (QueuePresentKHR queue waits images) b later =
        let p = present_event queue waits images h in
        let behind = has_frame n (frames_after (QueuePresentKHR queue waits images ∷ h) es) in
        by_test (((view h).next_frame == n) || behind ≡ true) ((view h).next_frame == n)
        (λ is. or_left ((view h).next_frame == n) behind is)
        (λ isnt. or_right ((view h).next_frame == n) behind (later (grind (arith, nat_tests, isnt, low, p.frame))))
    by (CreateInstance instance api) b later = let q = quiet_event (CreateInstance instance api) h tt in later (omega (arith, q.frame, low))
    by e b later = let q = quiet_event e h tt in later (omega (arith, q.frame, low))

-- from where frame `first` begins on
from_boundary : (first n : ℕ) (ws : List Whole) → is_valid (events_onto ws []) ≡ true → has_boundary first ws ≡ true → first ≤ n → n < (view (events_onto ws [])).next_frame →
    has_frame n (frames (events_onto ws [])) ≡ true
from_boundary first n ws valid there low high =
    let c : Cut = boundary first ws in
    let b = at_boundary first ws valid there in
    let h : List Event = history_to c in
    let es : List Event = events_in c.rest in
    let whole : events_onto ws [] ≡ onto es h = ap (λ (ws : List Whole). events_onto ws []) (sym b.parts) ∙ onto_parts c.front c.rest [] ∙ onto_events c.rest h in
    let below : n < (view (onto es h)).next_frame = subst (λ (h : List Event). n < (view h).next_frame) whole high in
    ap (λ (h : List Event). has_frame n (frames h)) whole
    ∙ ap (λ (fs : List Frame). has_frame n fs) (frames_parts es h)
    ∙ list_any-append (λ f. f.number == n) (frames h) (frames_after h es)
    ∙ or_right (has_frame n (frames h)) (has_frame n (frames_after h es)) (each_after n es h b.quiet (omega (arith, b.number, low)) below)

-- a frame that is shown is below the next one
shown_below : (n : ℕ) (h : List Event) → is_valid h ≡ true → has_frame n (frames h) ≡ true → n < (view h).next_frame
shown_below n h valid shown = number_of (λ k. k < (view h).next_frame) n (frames h) shown (all_along _ _ (λ f s. s.1) (frames h) (numbered h valid).shown)

pub begun_is_shown : BegunIsShown
begun_is_shown first last ws valid there ordered shown =
    from_boundary first first ws valid there (omega arith) (omega (arith, ordered, shown_below last (events_onto ws []) valid shown))

-- a frame that passes stays
passes_there : (t : Frame → Bool) (n : ℕ) (fs : List Frame) → ((f : Frame) → f.number ≡ n → t f ≡ true) → has_frame n fs ≡ true → has_frame n (filter t fs) ≡ true
passes_there t n [] each has = has
passes_there t n (f ∷ fs) each has = by (f.number == n) refl (t f) refl has (passes_there t n fs each)
  where
    by : (a : Bool) → (f.number == n) ≡ a → (b : Bool) → t f ≡ b → (a || has_frame n fs) ≡ true → (has_frame n fs ≡ true → has_frame n (filter t fs) ≡ true) →
        has_frame n (cond b (f ∷ filter t fs) (filter t fs)) ≡ true
    by true is true own has later = or_left (f.number == n) (has_frame n (filter t fs)) is
    by true is false own has later = let passes = each f (eqb-true f.number n is) in absurd cc
    by false is true own has later = or_right (f.number == n) (has_frame n (filter t fs)) (later has)
    by false is false own has later = later has

pub each_is_shown : EachIsShown
each_is_shown first last bytes shown r n low high =
    let s = shows last bytes shown r.bytes_fit r.means in
    let good = (s.valid).good in
    let all = frames (events_onto good []) in
    let first_there = kept_frame _ first all (ap (λ (fs : List Frame). has_frame first fs) (sym s.shown_is) ∙ r.first_there) in
    let top = shown_below last (events_onto good []) (s.valid).valid s.last_is in
    let there : has_frame n all ≡ true = from_boundary first n good (s.valid).valid (boundary_there first good (s.valid).valid first_there) low (omega (arith, high, top)) in
    let up_to : has_frame n (frames_to last all) ≡ true = passes_there (λ f. nat_le f.number last) n all (λ f is. le-leb f.number last (omega (arith, is, high))) there in
    passes_there (λ f. nat_le first f.number) n shown (λ f is. le-leb first f.number (omega (arith, is, low))) (ap (λ (fs : List Frame). has_frame n fs) s.shown_is ∙ up_to)
