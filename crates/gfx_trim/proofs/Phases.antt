-- How far a cut is after one block more.
use Rattle.std.proofs.Common.{◌≡◌, ℕ, ◌==◌, ◌&&◌, ◌||◌, Bool, true, false, cond, not, List, [], ◌∷◌, ◌++◌, None, refl, sym, ap, ◌∙◌}
use Rattle.std.specs.List.{AllByRecursion}
use Rattle.std.proofs.lemmas.Bool.{or_parts, or_from, and_left, and_right}
use Rattle.gfx_model.specs.Events.{Event}
use Rattle.gfx_model.specs.Events.Event.{CreateInstance, BeginSection, EndSection, QueuePresentKHR}
use Rattle.gfx_model.specs.Blocks.{Whole, Content}
use Rattle.gfx_model.specs.Blocks.Content.{skipped, effect}
use Rattle.gfx_model.specs.History.{view, fault, is_valid}
use Rattle.gfx_model.specs.Meaning.{content_onto, events_onto}
use Rattle.gfx_model.specs.Trimmed.{Cut, cuts_before, content_begins, has_section, cut_before, reaches, is_first, boundary, has_boundary, history_to}
use Rattle.gfx_trim_law.proofs.Clock.{quiet_event, present_event, ended, some_after}
use Rattle.gfx_trim_law.proofs.Numbers.{IsNoBegin, late_begin}
use Rattle.gfx_trim_law.proofs.Cuts.{with_said, events_in, onto_parts}
use Rattle.gfx_trim_law.proofs.Boundary.{at_boundary}
use Rattle.gfx_trim.specs.Written.{acts, has_effect}
use Rattle.gfx_trim.proofs.Cutting.{reaches_more, cut_ahead, cut_parts, quiet_reaches, acted_section, quiet_section}

-- ---- no section is open where a range goes on

closed_on : (e : Event) (h : List Event) → IsNoBegin e → (view h).section ≡ None → (view (e ∷ h)).section ≡ None
closed_on (BeginSection frame) h b closed = absurd cc
closed_on (EndSection frame) h b closed = (ended frame h).1
closed_on (QueuePresentKHR queue waits images) h b closed = (present_event queue waits images h).section ∙ closed
closed_on (CreateInstance instance api) h b closed = (quiet_event (CreateInstance instance api) h tt).section ∙ closed
closed_on e h b closed = (quiet_event e h tt).section ∙ closed

closed_along : (ws : List Whole) (h : List Event) → AllByRecursion IsNoBegin (events_in ws) → (view h).section ≡ None → (view (events_onto ws h)).section ≡ None
closed_along [] h none closed = closed
closed_along (w ∷ ws) h none closed = by w.content none (closed_along ws)
  where
    by : (c : Content) → AllByRecursion IsNoBegin (with_said c (events_in ws)) →
        ((h : List Event) → AllByRecursion IsNoBegin (events_in ws) → (view h).section ≡ None → (view (events_onto ws h)).section ≡ None) →
        (view (events_onto ws (content_onto c h))).section ≡ None
    by skipped none later = later h none closed
    by (effect thread e) none later = later (e ∷ h) none.1 (closed_on e h none.0 closed)

-- the history of all blocks is that of those from the boundary on
pub history_along : (first : ℕ) (ws : List Whole) → events_onto (boundary first ws).rest (history_to (boundary first ws)) ≡ events_onto ws []
history_along first ws =
    sym (onto_parts (boundary first ws).front (boundary first ws).rest []) ∙ ap (λ (ws : List Whole). events_onto ws []) (by (is_first first ws))
  where
    all : Cut → List Whole
    all c = c.front ++ c.rest

    by : (b : Bool) → all (cond {A = Cut} b (record { front = []; rest = ws }) (cut_before first [] ws)) ≡ ws
    by true = refl
    by false = cut_parts first [] ws

pub closed_at : (first : ℕ) (ws : List Whole) → is_valid (events_onto ws []) ≡ true → has_boundary first ws ≡ true → (view (events_onto ws [])).section ≡ None
closed_at first ws valid there =
    let b = at_boundary first ws valid there in
    ap (λ (h : List Event). (view h).section) (sym (history_along first ws)) ∙ closed_along (boundary first ws).rest (history_to (boundary first ws)) b.quiet b.closed

-- ---- a section begins before any effect

some_along : (ws : List Whole) (h : List Event) → (view h).is_empty ≡ false → (view (events_onto ws h)).is_empty ≡ false
some_along [] h some = some
some_along (w ∷ ws) h some = by w.content (some_along ws)
  where
    by : (c : Content) → ((h : List Event) → (view h).is_empty ≡ false → (view (events_onto ws h)).is_empty ≡ false) → (view (events_onto ws (content_onto c h))).is_empty ≡ false
    by skipped later = later h some
    by (effect thread e) later = later (e ∷ h) (some_after e h)

acted_some : (ws : List Whole) (h : List Event) → has_effect ws ≡ true → (view (events_onto ws h)).is_empty ≡ false
acted_some [] h some = absurd cc
acted_some (w ∷ ws) h some = by w.content some (acted_some ws)
  where
    by : (c : Content) → (acts c || has_effect ws) ≡ true → ((h : List Event) → has_effect ws ≡ true → (view (events_onto ws h)).is_empty ≡ false) → (view (events_onto ws (content_onto c h))).is_empty ≡ false
    by skipped some later = later h some
    by (effect thread e) some later = some_along ws (e ∷ h) (some_after e h)

-- where a section begins no effect came before
pub begin_first : (ws : List Whole) (frame : ℕ) → fault (events_onto ws []) (BeginSection frame) ≡ None → has_effect ws ≡ false
begin_first ws frame ok = by (has_effect ws) refl
  where
    by : (b : Bool) → has_effect ws ≡ b → b ≡ false
    by true some = absurd (late_begin frame (events_onto ws []) (acted_some ws [] some) ok)
    by false none = refl

quiet_none : (ws : List Whole) → has_effect ws ≡ false → has_section ws ≡ false
quiet_none [] none = refl
quiet_none (w ∷ ws) none = by w.content none (quiet_none ws)
  where
    by : (c : Content) → (acts c || has_effect ws) ≡ false → (has_effect ws ≡ false → has_section ws ≡ false) → content_begins c (has_section ws) ≡ false
    by skipped none later = later none
    by (effect thread e) none later = absurd cc

-- a block that begins no section leaves it open whether there is one
pub section_on : (ws : List Whole) (w : Whole) → content_begins w.content false ≡ false → has_section (ws ++ w ∷ []) ≡ has_section ws
section_on ws w plain = by (has_effect ws) refl
  where
    by : (b : Bool) → has_effect ws ≡ b → has_section (ws ++ w ∷ []) ≡ has_section ws
    by true some = acted_section ws (w ∷ []) some
    by false none = quiet_section ws (w ∷ []) none ∙ plain ∙ sym (quiet_none ws none)

pub acted_on : (ws : List Whole) (w : Whole) → has_effect ws ≡ true → has_section (ws ++ w ∷ []) ≡ has_section ws
acted_on ws w some = acted_section ws (w ∷ []) some

-- ---- frame `first` doesn't begin yet

-- a section that is there stays
section_stays : (ws more : List Whole) → has_section ws ≡ true → has_section (ws ++ more) ≡ true
section_stays ws more there = by (has_effect ws) refl
  where
    by : (b : Bool) → has_effect ws ≡ b → has_section (ws ++ more) ≡ true
    by true some = acted_section ws more some ∙ there
    by false none = let gone = quiet_none ws none in absurd cc

not_first : (first : ℕ) (ws more : List Whole) → is_first first ws ≡ false → is_first first (ws ++ more) ≡ false
not_first first ws more none = by (first == 1) (has_section ws) refl refl none
  where
    by : (a b : Bool) → (first == 1) ≡ a → has_section ws ≡ b → (a && not b) ≡ false → is_first first (ws ++ more) ≡ false
    by false b is there none = and_left (first == 1) (not (has_section (ws ++ more))) is
    by true true is there none = and_right (first == 1) (not (has_section (ws ++ more))) (ap not (section_stays ws more there))
    by true false is there none = absurd cc

or_none : (b : Bool) → (b || false) ≡ b
or_none true = refl
or_none false = refl

pub before_on : (first : ℕ) (ws : List Whole) (w : Whole) → has_boundary first ws ≡ false → has_boundary first (ws ++ w ∷ []) ≡ cuts_before first (events_onto ws []) w.content
before_on first ws w none =
    let parts = or_parts (is_first first ws) (reaches first [] ws) none in
    ap (λ t. t || reaches first [] (ws ++ w ∷ [])) (not_first first ws (w ∷ []) parts.0)
    ∙ reaches_more first [] ws (w ∷ []) ∙ ap (λ t. t || (cuts_before first (events_onto ws []) w.content || false)) parts.1
    ∙ or_none (cuts_before first (events_onto ws []) w.content)

one_rest : (n : ℕ) (h : List Event) (w : Whole) → (cut_before n h (w ∷ [])).rest ≡ []
unfolding cut_before
one_rest n h w = by (cuts_before n h w.content)
  where
    by : (b : Bool) → (cond {A = Cut} b (record { front = w ∷ []; rest = [] }) (record { front = w ∷ []; rest = [] })).rest ≡ []
    by true = refl
    by false = refl

-- and nothing follows the block where it begins
pub before_rest : (first : ℕ) (ws : List Whole) (w : Whole) → has_boundary first ws ≡ false → (boundary first (ws ++ w ∷ [])).rest ≡ []
before_rest first ws w none =
    let parts = or_parts (is_first first ws) (reaches first [] ws) none in
    ap (λ t. (cond {A = Cut} t (record { front = []; rest = ws ++ w ∷ [] }) (cut_before first [] (ws ++ w ∷ []))).rest) (not_first first ws (w ∷ []) parts.0)
    ∙ ap (λ (c : Cut). c.rest) (cut_ahead first [] ws (w ∷ []) parts.1) ∙ one_rest first (events_onto ws []) w

-- a section begins: frame `first` doesn't
pub begin_before : (first : ℕ) (ws : List Whole) (w : Whole) → has_effect ws ≡ false → content_begins w.content false ≡ true → has_boundary first (ws ++ w ∷ []) ≡ false
begin_before first ws w none begins =
    or_from (is_first first (ws ++ w ∷ [])) (reaches first [] (ws ++ w ∷ []))
    (and_right (first == 1) (not (has_section (ws ++ w ∷ []))) (ap not (quiet_section ws (w ∷ []) none ∙ begins)))
    (reaches_more first [] ws (w ∷ []) ∙ ap (λ t. t || (cuts_before first (events_onto ws []) w.content || false)) (quiet_reaches first ws [] none)
    ∙ or_none (cuts_before first (events_onto ws []) w.content) ∙ by w.content begins)
  where
    by : (c : Content) → content_begins c false ≡ true → cuts_before first (events_onto ws []) c ≡ false
    by skipped begins = absurd cc
    by (effect thread (BeginSection frame)) begins = refl
    by (effect thread e) begins = absurd cc
