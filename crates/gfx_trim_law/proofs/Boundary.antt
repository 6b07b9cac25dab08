-- Where a shown frame begins: there the history is at a boundary, and no section begins or ends behind it.
use Rattle.std.proofs.Common.{◌≡◌, ℕ, ◌<◌, ◌≤◌, ◌==◌, ◌&&◌, ◌||◌, cond, not, Bool, true, false, refl, sym, ◌∙◌, ap, List, [], ◌∷◌, ◌++◌, Some, None, ◌⊎◌, inl, inr, arith}
use Rattle.std.specs.List.{AllByRecursion}
use Rattle.std.proofs.lemmas.Bool.{and_parts, cases_lt, eqb-true, not-true, or_left, or_right}
use Rattle.std.proofs.lemmas.Bool.Decides.{nat_tests}
use Rattle.gfx_types.specs.declared.frame.Frame.{Frame}
use Rattle.gfx_model.specs.Events.{Event}
use Rattle.gfx_model.specs.Events.Event.{BeginSection}
use Rattle.gfx_model.specs.Blocks.{Whole, Content}
use Rattle.gfx_model.specs.Blocks.Content.{skipped, effect}
use Rattle.gfx_model.specs.History.{onto, view, is_valid}
use Rattle.gfx_model.specs.Frames.{frames}
use Rattle.gfx_model.specs.Meaning.{content_onto, events_onto, has_frame}
use Rattle.gfx_model.specs.Trimmed.{Cut, cuts_before, cut_before, reaches, begins_section, content_begins, has_section, is_first, boundary, has_boundary, history_to}
use Rattle.gfx_laws.specs.Laws.{frames_after}
use Rattle.gfx_laws.proofs.Ranges.{frames_parts}
use Rattle.gfx_model.proofs.Lists.{all_along}
use Rattle.gfx_laws.proofs.Cases.{by_test}
use Rattle.gfx_trim_law.proofs.Clock.{at_start, begun, some_after}
use Rattle.gfx_trim_law.proofs.Numbers.{IsNoBegin, numbered, rises, no_begins, number_of}
use Rattle.gfx_trim_law.proofs.Cuts.{with_said, events_in, onto_events, onto_parts, cut, IsAhead, reach}

-- ---- a file with a section

-- the first effect begins a section: a frame that is shown is not below the number of the section
section_reaches : (first frame : ℕ) (ws : List Whole) → is_valid (events_onto ws (BeginSection frame ∷ [])) ≡ true →
    has_frame first (frames (events_onto ws (BeginSection frame ∷ []))) ≡ true → reaches first (BeginSection frame ∷ []) ws ≡ true
unfolding frames
section_reaches first frame ws valid shown = by (cases_lt first frame)
  where
    quiet : AllByRecursion IsNoBegin (events_in ws)
    quiet = no_begins (events_in ws) (BeginSection frame ∷ []) (some_after (BeginSection frame) []) (ap is_valid (sym (onto_events ws (BeginSection frame ∷ []))) ∙ valid)

    found : has_frame first (frames_after (BeginSection frame ∷ []) (events_in ws)) ≡ true
    found = ap (λ (fs : List Frame). has_frame first fs) (sym (frames_parts (events_in ws) (BeginSection frame ∷ []))) ∙ ap (λ (h : List Event). has_frame first (frames h)) (sym (onto_events ws (BeginSection frame ∷ []))) ∙ shown

    low : frame ≤ first
    low = let b = begun frame [] in let r = number_of (λ n. (view (BeginSection frame ∷ [])).next_frame ≤ n) first _ found (rises (events_in ws) (BeginSection frame ∷ []) quiet).shown in omega (arith, b.0, r)

    by : (first < frame) ⊎ (frame ≤ first) → reaches first (BeginSection frame ∷ []) ws ≡ true
    by (inl below) = absurd (omega (arith, below, low))
    by (inr up) = reach first ws (BeginSection frame ∷ []) ahead quiet valid refl shown
      where
        ahead : IsAhead first (BeginSection frame ∷ [])
        ahead = by_test (IsAhead first (BeginSection frame ∷ [])) (frame == first)
            (λ is. inr ((begun frame []).1 ∙ ap Some (eqb-true frame first is)))
            (λ isnt. let b = begun frame [] in inl (grind (arith, nat_tests, isnt, up, b.0)))

-- the first effect of these blocks begins a section
reaches_in_section : (first : ℕ) (ws : List Whole) → has_section ws ≡ true → is_valid (events_onto ws []) ≡ true →
    has_frame first (frames (events_onto ws [])) ≡ true → reaches first [] ws ≡ true
reaches_in_section first [] has valid shown = absurd cc
reaches_in_section first (w ∷ ws) has valid shown = by w.content has valid shown (reaches_in_section first ws)
  where
    at : (e : Event) → begins_section e ≡ true → is_valid (events_onto ws (e ∷ [])) ≡ true → has_frame first (frames (events_onto ws (e ∷ []))) ≡ true →
        (cuts_before first [] (effect 0 e) || reaches first (e ∷ []) ws) ≡ true
    at (BeginSection frame) begins valid shown = section_reaches first frame ws valid shown
    at e begins valid shown = absurd cc

    by : (c : Content) → content_begins c (has_section ws) ≡ true → is_valid (events_onto ws (content_onto c [])) ≡ true → has_frame first (frames (events_onto ws (content_onto c []))) ≡ true →
        (has_section ws ≡ true → is_valid (events_onto ws []) ≡ true → has_frame first (frames (events_onto ws [])) ≡ true → reaches first [] ws ≡ true) →
        (cuts_before first [] c || reaches first (content_onto c []) ws) ≡ true
    by skipped has valid shown later = later has valid shown
    by (effect thread e) has valid shown later = at e has valid shown

-- ---- a file without one

no_begins_there : (ws : List Whole) → has_section ws ≡ false → is_valid (events_onto ws []) ≡ true → AllByRecursion IsNoBegin (events_in ws)
no_begins_there [] has valid = tt
no_begins_there (w ∷ ws) has valid = by w.content has valid (no_begins_there ws)
  where
    by : (c : Content) → content_begins c (has_section ws) ≡ false → is_valid (events_onto ws (content_onto c [])) ≡ true →
        (has_section ws ≡ false → is_valid (events_onto ws []) ≡ true → AllByRecursion IsNoBegin (events_in ws)) → AllByRecursion IsNoBegin (with_said c (events_in ws))
    by skipped has valid later = later has valid
    by (effect thread e) has valid later = (has, no_begins (events_in ws) (e ∷ []) (some_after e []) (ap is_valid (sym (onto_events ws (e ∷ []))) ∙ valid))

reaches_later : (first : ℕ) (ws : List Whole) → has_section ws ≡ false → (first == 1) ≡ false → is_valid (events_onto ws []) ≡ true →
    has_frame first (frames (events_onto ws [])) ≡ true → reaches first [] ws ≡ true
unfolding frames
reaches_later first ws has later valid shown =
    let low : 1 ≤ first = number_of (λ n. 1 ≤ n) first (frames (events_onto ws [])) shown (all_along _ _ (λ f s. s.0) _ (numbered (events_onto ws []) valid).shown) in
    let up : 1 < first = grind (arith, nat_tests, later, low) in
    reach first ws [] (inl (omega (arith, at_start.0, up))) (no_begins_there ws has valid) valid refl shown

-- ---- the boundary

-- a frame that is shown begins in the blocks that show it
pub boundary_there : (first : ℕ) (ws : List Whole) → is_valid (events_onto ws []) ≡ true → has_frame first (frames (events_onto ws [])) ≡ true → has_boundary first ws ≡ true
boundary_there first ws valid shown = by (has_section ws) (first == 1) refl refl
  where
    by : (s t : Bool) → has_section ws ≡ s → (first == 1) ≡ t → has_boundary first ws ≡ true
    by true t has is = or_right (is_first first ws) (reaches first [] ws) (reaches_in_section first ws has valid shown)
    by false true has is = or_left (is_first first ws) (reaches first [] ws) (ap (λ b. b && not (has_section ws)) is ∙ ap not has)
    by false false has is = or_right (is_first first ws) (reaches first [] ws) (reaches_later first ws has is valid shown)

-- these blocks are cut where frame `first` begins
pub record IsBoundary (first : ℕ) (ws : List Whole) (c : Cut) : Type 0 where
  pub parts : c.front ++ c.rest ≡ ws
  pub number : (view (history_to c)).next_frame ≡ first
  pub closed : (view (history_to c)).section ≡ None
  pub quiet : AllByRecursion IsNoBegin (events_in c.rest)

pub at_boundary : (first : ℕ) (ws : List Whole) → is_valid (events_onto ws []) ≡ true → has_boundary first ws ≡ true → IsBoundary first ws (boundary first ws)
at_boundary first ws valid there = by (is_first first ws) refl there
  where
    by : (b : Bool) → is_first first ws ≡ b → (b || reaches first [] ws) ≡ true → IsBoundary first ws (cond b (record { front = []; rest = ws }) (cut_before first [] ws))
    by true is there =
        let parts = and_parts (first == 1) (not (has_section ws)) is in
        record {
          parts = refl;
          number = at_start.0 ∙ sym (eqb-true first 1 parts.0);
          closed = at_start.1;
          quiet = no_begins_there ws (not-true (has_section ws) parts.1) valid;
        }
    by false is there =
        let c = cut_before first [] ws in
        let k = cut first ws [] there valid in
        let rest : is_valid (onto (events_in c.rest) (history_to c)) ≡ true =
        ap is_valid (sym (onto_events c.rest (history_to c)) ∙ sym (onto_parts c.front c.rest []) ∙ ap (λ (ws : List Whole). events_onto ws []) k.parts) ∙ valid in
        record { parts = k.parts; number = k.number; closed = k.closed; quiet = no_begins (events_in c.rest) (history_to c) k.some rest }
