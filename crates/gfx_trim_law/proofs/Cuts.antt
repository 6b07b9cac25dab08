-- Where blocks are cut: after a cut before a frame this frame is next, and no section is open.
use Rattle.std.proofs.Common.{◌≡◌, ℕ, ◌+◌, ◌<◌, ◌==◌, ◌||◌, cond, Bool, true, false, refl, sym, ◌∙◌, ap, List, [], ◌∷◌, ◌++◌, Some, None, ◌⊎◌, inl, inr, arith}
use Rattle.std.specs.List.{AllByRecursion}
use Rattle.std.proofs.lemmas.Bool.{eqb-true, eq-eqb, or_left, or_right}
use Rattle.std.proofs.lemmas.Bool.Decides.{nat_tests}
use Rattle.std.proofs.lemmas.List.Folds.{list_any-append}
use Rattle.gfx_types.specs.declared.lists.Present.{Present}
use Rattle.gfx_model.specs.Events.{Event}
use Rattle.gfx_model.specs.Events.Event.{CreateInstance, BeginSection, EndSection, QueuePresentKHR}
use Rattle.gfx_model.specs.Blocks.{Whole, Content}
use Rattle.gfx_model.specs.Blocks.Content.{skipped, effect}
use Rattle.gfx_model.specs.History.{onto, view, fault, is_valid}
use Rattle.gfx_model.specs.Frames.{frame_of, frames}
use Rattle.gfx_model.specs.Meaning.{content_onto, events_onto, has_frame}
use Rattle.gfx_model.specs.Trimmed.{Cut, ends_before, cuts_before, with_front, cut_before, reaches}
use Rattle.gfx_laws.proofs.Ranges.{valid_before}
use Rattle.gfx_trim_law.proofs.Clock.{quiet_event, present_event, ended, some_after, present_checks, end_checks}
use Rattle.gfx_trim_law.proofs.Numbers.{IsNoBegin, last_parts, open_number}

-- what one block says, before these events
abbrev pub with_said : Content → List Event → List Event
with_said skipped es = es
with_said (effect thread event) es = event ∷ es

-- the events of blocks, the first one first
abbrev pub events_in : List Whole → List Event
events_in [] = []
events_in (w ∷ ws) = with_said w.content (events_in ws)

pub onto_events : (ws : List Whole) (h : List Event) → events_onto ws h ≡ onto (events_in ws) h
onto_events [] h = refl
onto_events (w ∷ ws) h = by w.content (onto_events ws)
  where
    by : (c : Content) → ((h : List Event) → events_onto ws h ≡ onto (events_in ws) h) → events_onto ws (content_onto c h) ≡ onto (with_said c (events_in ws)) h
    by skipped later = later h
    by (effect thread event) later = later (event ∷ h)

pub onto_parts : (front rest : List Whole) (h : List Event) → events_onto (front ++ rest) h ≡ events_onto rest (events_onto front h)
onto_parts [] rest h = refl
onto_parts (w ∷ front) rest h = onto_parts front rest (content_onto w.content h)

pub valid_start : (ws : List Whole) (h : List Event) → is_valid (events_onto ws h) ≡ true → is_valid h ≡ true
valid_start ws h valid = valid_before (events_in ws) h (ap is_valid (sym (onto_events ws h)) ∙ valid)

-- ---- a cut

-- a cut of these blocks behind which frame `first` begins
pub record IsCut (first : ℕ) (h : List Event) (ws : List Whole) (c : Cut) : Type 0 where
  pub parts : c.front ++ c.rest ≡ ws
  pub number : (view (events_onto c.front h)).next_frame ≡ first
  pub closed : (view (events_onto c.front h)).section ≡ None
  pub some : (view (events_onto c.front h)).is_empty ≡ false

-- after a block that cuts
record IsBehind (first : ℕ) (h : List Event) : Type 0 where
  number : (view h).next_frame ≡ first
  closed : (view h).section ≡ None
  some : (view h).is_empty ≡ false

behind : (first : ℕ) (h : List Event) (c : Content) → is_valid (content_onto c h) ≡ true → cuts_before first h c ≡ true → IsBehind first (content_onto c h)
behind first h skipped valid is = absurd cc
behind first h (effect thread e) valid is = let ok = last_parts e h valid in by e ok.1 is
  where
    by : (e : Event) → fault h e ≡ None → ends_before first h e ≡ true → IsBehind first (e ∷ h)
    by (QueuePresentKHR queue waits images) fine cuts =
        let p = present_event queue waits images h in
        record {
          number = p.frame ∙ eqb-true ((view h).next_frame + 1) first cuts;
          closed = p.section ∙ (present_checks queue waits images h fine).0;
          some = some_after (QueuePresentKHR queue waits images) h;
        }
    by (EndSection frame) fine cuts =
        let m = ended frame h in
        record {
          number = m.0 ∙ open_number h frame (last_parts e h valid).0 (end_checks frame h fine) ∙ eqb-true frame first cuts;
          closed = m.1;
          some = some_after (EndSection frame) h;
        }
    by e fine cuts = absurd cc

pub cut : (first : ℕ) (ws : List Whole) (h : List Event) → reaches first h ws ≡ true → is_valid (events_onto ws h) ≡ true → IsCut first h ws (cut_before first h ws)
unfolding cut_before
cut first [] h there valid = absurd cc
cut first (w ∷ ws) h there valid = by (cuts_before first h w.content) refl there (λ later. cut first ws (content_onto w.content h) later valid)
  where
    by : (b : Bool) → cuts_before first h w.content ≡ b → (b || reaches first (content_onto w.content h) ws) ≡ true →
        (reaches first (content_onto w.content h) ws ≡ true → IsCut first (content_onto w.content h) ws (cut_before first (content_onto w.content h) ws)) →
        IsCut first h (w ∷ ws) (cond b (record { front = w ∷ []; rest = ws }) (with_front w (cut_before first (content_onto w.content h) ws)))
    by true is there later =
        let k = behind first h w.content (valid_start ws (content_onto w.content h) valid) is in
        record { parts = refl; number = k.number; closed = k.closed; some = k.some }
    by false is there later =
        let k = later there in
        record { parts = ap (λ (r : List Whole). w ∷ r) k.parts; number = k.number; closed = k.closed; some = k.some }

-- ---- a cut is there

-- frame `first` is ahead: the next frame is below it, or its section is open
abbrev pub IsAhead : ℕ → List Event → Type 0
IsAhead first h = ((view h).next_frame < first) ⊎ ((view h).section ≡ Some first)

none_shown : (first n : ℕ) → n < first → (n == first) ≡ false
none_shown first n low = grind (arith, nat_tests)

still_none : (first : ℕ) (h : List Event) (queue : ℕ) (waits : List ℕ) (images : List Present) → (view h).next_frame < first → has_frame first (frames h) ≡ false →
    has_frame first (frames (QueuePresentKHR queue waits images ∷ h)) ≡ false
unfolding frames
still_none first h queue waits images low none =
    list_any-append (λ f. f.number == first) (frames h) (frame_of h images ∷ [])
    ∙ ap (λ b. b || (((view h).next_frame == first) || false)) none
    ∙ ap (λ b. b || false) (none_shown first (view h).next_frame low)

-- one event more: it cuts, or the frame is still ahead
one_more : (first : ℕ) (h : List Event) (e : Event) (later : Bool) → is_valid h ≡ true → IsNoBegin e → fault h e ≡ None → IsAhead first h → has_frame first (frames h) ≡ false →
    (IsAhead first (e ∷ h) → has_frame first (frames (e ∷ h)) ≡ false → later ≡ true) → (ends_before first h e || later) ≡ true
unfolding frames
one_more first h (BeginSection frame) later valid b fine ahead none more = absurd cc
one_more first h (EndSection frame) later valid b fine (inr is_open) none more =
    let same : Some frame ≡ Some first = sym (end_checks frame h fine) ∙ is_open in
    or_left (frame == first) later (eq-eqb frame first cc)
one_more first h (EndSection frame) later valid b fine (inl low) none more =
    let m = ended frame h in
    or_right (frame == first) later (more (inl (omega (arith, m.0, low))) none)
one_more first h (QueuePresentKHR queue waits images) later valid b fine (inr is_open) none more =
    let closed : None ≡ Some first = sym (present_checks queue waits images h fine).0 ∙ is_open in absurd cc
one_more first h (QueuePresentKHR queue waits images) later valid b fine (inl low) none more = by ((view h).next_frame + 1 == first) refl
  where
    by : (t : Bool) → ((view h).next_frame + 1 == first) ≡ t → (((view h).next_frame + 1 == first) || later) ≡ true
    by true is = or_left ((view h).next_frame + 1 == first) later is
    by false is =
        let p = present_event queue waits images h in
        let below : (view h).next_frame + 1 < first = grind (arith, nat_tests, is, low) in
        or_right ((view h).next_frame + 1 == first) later (more (inl (omega (arith, p.frame, below))) (still_none first h queue waits images low none))
one_more first h (CreateInstance instance api) later valid b fine (inl low) none more =
    let q = quiet_event (CreateInstance instance api) h tt in more (inl (omega (arith, q.frame, low))) none
one_more first h (CreateInstance instance api) later valid b fine (inr is_open) none more =
    let q = quiet_event (CreateInstance instance api) h tt in more (inr (q.section ∙ is_open)) none
one_more first h e later valid b fine (inl low) none more = let q = quiet_event e h tt in more (inl (omega (arith, q.frame, low))) none
one_more first h e later valid b fine (inr is_open) none more = let q = quiet_event e h tt in more (inr (q.section ∙ is_open)) none

pub reach : (first : ℕ) (ws : List Whole) (h : List Event) → IsAhead first h → AllByRecursion IsNoBegin (events_in ws) → is_valid (events_onto ws h) ≡ true →
    has_frame first (frames h) ≡ false → has_frame first (frames (events_onto ws h)) ≡ true → reaches first h ws ≡ true
reach first [] h ahead quiet valid none shown = absurd cc
reach first (w ∷ ws) h ahead quiet valid none shown = by w.content quiet valid shown (reach first ws)
  where
    by : (c : Content) → AllByRecursion IsNoBegin (with_said c (events_in ws)) → is_valid (events_onto ws (content_onto c h)) ≡ true → has_frame first (frames (events_onto ws (content_onto c h))) ≡ true →
        ((h : List Event) → IsAhead first h → AllByRecursion IsNoBegin (events_in ws) → is_valid (events_onto ws h) ≡ true → has_frame first (frames h) ≡ false →
        has_frame first (frames (events_onto ws h)) ≡ true → reaches first h ws ≡ true) →
        (cuts_before first h c || reaches first (content_onto c h) ws) ≡ true
    by skipped quiet valid shown later = later h ahead quiet valid none shown
    by (effect thread e) quiet valid shown later =
        let ok = last_parts e h (valid_start ws (e ∷ h) valid) in
        one_more first h e (reaches first (e ∷ h) ws) ok.0 quiet.0 ok.1 ahead none (λ still_ahead still. later (e ∷ h) still_ahead quiet.1 valid still shown)
