-- How far a cut is after one block more, and what is written of it.
use Rattle.std.proofs.Common.{◌≡◌, ℕ, ◌+◌, ◌==◌, ◌||◌, Bool, true, false, List, [], ◌∷◌, ◌++◌, Some, None, refl, sym, ap, ◌∙◌, arith}
use Rattle.std.specs.Prelude.{flat_map}
use Rattle.std.proofs.lemmas.Bool.{or_left, or_right, or_from}
use Rattle.std.proofs.lemmas.Bool.Decides.{nat_tests}
use Rattle.std.proofs.lemmas.List.{append-nil}
use Rattle.std.proofs.lemmas.List.Folds.{list_any-append}
use Rattle.std.proofs.lemmas.Grind.{flat_map-append}
use Rattle.gfx_model.specs.Events.{Event}
use Rattle.gfx_model.specs.Events.Event.{CreateInstance, BeginSection, EndSection, QueuePresentKHR}
use Rattle.gfx_model.specs.Blocks.{Whole, Content}
use Rattle.gfx_model.specs.Blocks.Content.{skipped, effect}
use Rattle.gfx_model.specs.History.{view, fault}
use Rattle.gfx_model.specs.Meaning.{content_fault, events_onto}
use Rattle.gfx_model.specs.Trimmed.{Cut, cuts_before, content_begins, reaches, boundary, history_to}
use Rattle.gfx_trim_law.proofs.Clock.{end_checks}
use Rattle.gfx_trim.specs.Cutters.{is_number, number_by}
use Rattle.gfx_trim.specs.Phases.{IsBefore, IsWaiting, IsWriting, Continues}
use Rattle.gfx_trim.specs.Written.{acts, has_effect, written_of}
use Rattle.gfx_trim.proofs.Cutting.{quiet_history, quiet_reaches, reaches_more}
use Rattle.gfx_trim.proofs.Growing.{begun_acts, begun_on, boundary_on, goes_on, Extends, text_before, text_waiting}
use Rattle.gfx_trim.proofs.Phases.{acted_on, before_on, before_rest, begin_before, begin_first, history_along, section_on}

-- ---- before the range

-- the range does not begin behind the block
pub still_before : (first : ℕ) (kept : List ℕ) (ws : List Whole) (w : Whole) → IsBefore first kept ws → cuts_before first (events_onto ws []) w.content ≡ false → IsBefore first kept (ws ++ w ∷ [])
still_before first kept ws w b none = record { ahead = before_on first ws w b.ahead ∙ none; none = b.none }

-- it begins there
pub now_waiting : (first : ℕ) (kept : List ℕ) (ws : List Whole) (w : Whole) → IsBefore first kept ws → cuts_before first (events_onto ws []) w.content ≡ true → IsWaiting first kept (ws ++ w ∷ [])
now_waiting first kept ws w b cuts =
    let rest = before_rest first ws w b.ahead in
    record {
      there = before_on first ws w b.ahead ∙ cuts;
      quiet = ap has_effect rest;
      same = b.none ∙ ap (λ (ws : List Whole). flat_map (λ w. w.bytes) ws) (sym rest);
    }

-- and nothing is written
pub before_text : (m first last : ℕ) (kept : List ℕ) (ws : List Whole) (w : Whole) → IsBefore first kept ws → written_of m first last (ws ++ w ∷ []) ≡ written_of m first last ws
before_text m first last kept ws w b = by (cuts_before first (events_onto ws []) w.content) refl ∙ sym (text_before m first last ws b.ahead)
  where
    by : (t : Bool) → cuts_before first (events_onto ws []) w.content ≡ t → written_of m first last (ws ++ w ∷ []) ≡ []
    by true cuts = text_waiting m first last (ws ++ w ∷ []) (now_waiting first kept ws w b cuts).quiet
    by false none = text_before m first last (ws ++ w ∷ []) (still_before first kept ws w b none).ahead

-- ---- where it begins

-- one more block is kept
pub still_waiting : (first : ℕ) (kept : List ℕ) (ws : List Whole) (w : Whole) → IsWaiting first kept ws → w.content ≡ skipped → IsWaiting first (kept ++ w.bytes) (ws ++ w ∷ [])
still_waiting first kept ws w g skips =
    let same = section_on ws w (ap (λ c. content_begins c false) skips) in
    let cut = boundary_on first ws (w ∷ []) g.there same in
    record {
      there = begun_on first ws (w ∷ []) g.there same;
      quiet = ap (λ (c : Cut). has_effect c.rest) cut ∙ list_any-append (λ (w : Whole). acts w.content) (boundary first ws).rest (w ∷ [])
          ∙ or_from (has_effect (boundary first ws).rest) (acts w.content || false) g.quiet (ap (λ c. acts c || false) skips);
      same = ap (λ l. l ++ w.bytes) g.same ∙ ap (λ l. flat_map (λ w. w.bytes) (boundary first ws).rest ++ l) (sym (append-nil w.bytes))
          ∙ sym (flat_map-append (λ (w : Whole). w.bytes) (boundary first ws).rest (w ∷ []))
          ∙ ap (λ (c : Cut). flat_map (λ w. w.bytes) c.rest) (sym cut);
    }

pub keep_text : (m first last : ℕ) (kept : List ℕ) (ws : List Whole) (w : Whole) → IsWaiting first kept ws → w.content ≡ skipped → written_of m first last (ws ++ w ∷ []) ≡ written_of m first last ws
keep_text m first last kept ws w g skips =
    text_waiting m first last (ws ++ w ∷ []) (still_waiting first kept ws w g skips).quiet ∙ sym (text_waiting m first last ws g.quiet)

-- a section begins: the range does not
pub now_before : (first : ℕ) (ws : List Whole) (w : Whole) → content_begins w.content false ≡ true → content_fault (events_onto ws []) w.content ≡ None → IsBefore first [] (ws ++ w ∷ [])
now_before first ws w begins fine = record { ahead = begin_before first ws w (quiet w.content begins fine) begins; none = refl }
  where
    quiet : (c : Content) → content_begins c false ≡ true → content_fault (events_onto ws []) c ≡ None → has_effect ws ≡ false
    quiet skipped begins fine = absurd cc
    quiet (effect thread (BeginSection frame)) begins fine = begin_first ws frame fine
    quiet (effect thread e) begins fine = absurd cc

pub restart_text : (m first last : ℕ) (kept : List ℕ) (ws : List Whole) (w : Whole) → IsWaiting first kept ws → content_begins w.content false ≡ true → content_fault (events_onto ws []) w.content ≡ None →
    written_of m first last (ws ++ w ∷ []) ≡ written_of m first last ws
restart_text m first last kept ws w g begins fine =
    text_before m first last (ws ++ w ∷ []) (now_before first ws w begins fine).ahead ∙ sym (text_waiting m first last ws g.quiet)

-- ---- in the range

pub waiting_continues : (first last : ℕ) (kept : List ℕ) (ws : List Whole) (w : Whole) → IsWaiting first kept ws → content_begins w.content false ≡ false → acts w.content ≡ true → Continues first last ws w
waiting_continues first last kept ws w g plain some = record {
  there = g.there;
  section = section_on ws w plain;
  going = quiet_reaches (last + 1) (boundary first ws).rest (history_to (boundary first ws)) g.quiet;
  some = or_right (has_effect (boundary first ws).rest) (acts w.content) some;
}

pub writing_continues : (first last : ℕ) (ws : List Whole) (w : Whole) → IsWriting first last ws → Continues first last ws w
writing_continues first last ws w g = record {
  there = g.there;
  section = acted_on ws w (begun_acts first ws g.there g.some);
  going = g.going;
  some = or_left (has_effect (boundary first ws).rest) (acts w.content) g.some;
}

pub extends : (m first last : ℕ) (ws : List Whole) (w : Whole) → Continues first last ws w → Extends m first last ws w
extends m first last ws w g = goes_on m first last ws w g.there g.section g.going g.some

-- where nothing has an effect yet, the section is that for all blocks
pub waiting_history : (first : ℕ) (kept : List ℕ) (ws : List Whole) → IsWaiting first kept ws → history_to (boundary first ws) ≡ events_onto ws []
waiting_history first kept ws g = sym (quiet_history (boundary first ws).rest (history_to (boundary first ws)) g.quiet) ∙ history_along first ws

-- whether frame `last` ends in the blocks with this one
pub reached_by : (first last : ℕ) (ws : List Whole) (w : Whole) → Continues first last ws w →
    reaches (last + 1) (history_to (boundary first (ws ++ w ∷ []))) (boundary first (ws ++ w ∷ [])).rest ≡ cuts_before (last + 1) (events_onto ws []) w.content
reached_by first last ws w g =
    let c : Cut = boundary first ws in
    ap (λ (c : Cut). reaches (last + 1) (history_to c) c.rest) (boundary_on first ws (w ∷ []) g.there g.section)
    ∙ reaches_more (last + 1) (history_to c) c.rest (w ∷ [])
    ∙ ap (λ t. t || (cuts_before (last + 1) (events_onto c.rest (history_to c)) w.content || false)) g.going
    ∙ ap (λ h. cuts_before (last + 1) h w.content || false) (history_along first ws)
    ∙ or_none (cuts_before (last + 1) (events_onto ws []) w.content)
  where
    or_none : (b : Bool) → (b || false) ≡ b
    or_none true = refl
    or_none false = refl

pub still_writing : (first last : ℕ) (ws : List Whole) (w : Whole) → Continues first last ws w → cuts_before (last + 1) (events_onto ws []) w.content ≡ false → IsWriting first last (ws ++ w ∷ [])
still_writing first last ws w g none =
    let cut = boundary_on first ws (w ∷ []) g.there g.section in
    record {
      there = begun_on first ws (w ∷ []) g.there g.section;
      some = ap (λ (c : Cut). has_effect c.rest) cut ∙ list_any-append (λ (w : Whole). acts w.content) (boundary first ws).rest (w ∷ [])
          ∙ ap (λ t. has_effect (boundary first ws).rest || t) (or_none (acts w.content)) ∙ g.some;
      going = reached_by first last ws w g ∙ none;
    }
  where
    or_none : (b : Bool) → (b || false) ≡ b
    or_none true = refl
    or_none false = refl

-- where no section is open, a block ends frame `last` if it is its present
pub ends_frame : (last : ℕ) (h : List Event) (c : Content) → (view h).section ≡ None → content_fault h c ≡ None → cuts_before (last + 1) h c ≡ is_number last (number_by h c)
ends_frame last h skipped closed fine = refl
ends_frame last h (effect thread e) closed fine = by e fine
  where
    same : (n last : ℕ) → (n + 1 == last + 1) ≡ (n == last)
    same n last = grind (arith, nat_tests)

    by : (e : Event) → fault h e ≡ None → cuts_before (last + 1) h (effect thread e) ≡ is_number last (number_by h (effect thread e))
    by (QueuePresentKHR queue waits images) fine = same (view h).next_frame last
    by (EndSection frame) fine = let is_open : None ≡ Some frame = sym closed ∙ end_checks frame h fine in absurd cc
    by (CreateInstance instance api) fine = refl
    by e fine = refl
