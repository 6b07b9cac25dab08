-- What lines give and fills don't is the same where writes are gathered: the names that they define, and their presents.
use Rattle.std.proofs.Common.{◌≡◌, ℕ, Bool, true, false, cond, List, [], ◌∷◌, ◌++◌, map, filter, length, Option, Some, None, sym, refl, ap, ◌∙◌, arith, append-nil}
use Rattle.std.specs.Prelude.{flat_map}
use Rattle.std.proofs.lemmas.List.Concat.{flat_map-append}
use Rattle.gfx_model.specs.Events.{Event}
use Rattle.gfx_script_model.specs.Scripts.{Line, Part}
use Rattle.gfx_script_law.specs.Playable.{phase_lines, script_lines}
use Rattle.gfx_script_law.specs.Presents.{is_present}
use Rattle.gfx_shadow.specs.Writes.{Write, fills}
use Rattle.gfx_shadow.specs.Gathered.{held_of, ends_holding, event_of_write, gathered_after, gathered, gathered_part, gathered_phases, last_number}
use Rattle.gfx_gather.specs.Gathering.{fills_at}
use Rattle.gfx_gather.specs.Laws.{ShownHasPresents}
use Rattle.gfx_gather.proofs.Ahead.{is_held, after_held, after_other}

module _ (of : Event → List ℕ) (none : (w : Write) → of (event_of_write w) ≡ []) where
  -- what lines give, one after another
  abbrev pub all : List Line → List ℕ
  all lines = flat_map (λ l. of l.event) lines

  pub held-gives : (l : Line) (w : Write) → held_of l.event ≡ Some w → of l.event ≡ []
  held-gives l w e = ap of (is_held l.event w e).1 ∙ none w

  fills-give : (number : ℕ) (fs : List Write) (ls : List Line) → all (fills_at number fs ++ ls) ≡ all ls
  fills-give number [] ls = refl
  fills-give number (w ∷ fs) ls = ap (λ d. d ++ all (fills_at number fs ++ ls)) (none w) ∙ fills-give number fs ls

  pub lines-give : (last : ℕ) (held : List Write) (ls : List Line) → all (gathered_after last held ls) ≡ all ls
  unfolding gathered_after
  lines-give last held [] = ap all (sym (append-nil (fills_at last (fills held)))) ∙ fills-give last (fills held) []
  lines-give last held (l ∷ ls) =
      by (held_of l.event) refl (ends_holding l.event) refl (λ w. lines-give last (held ++ w ∷ []) ls) (lines-give last [] ls) (lines-give last held ls)
    where
      by : (o : Option Write) → held_of l.event ≡ o → (b : Bool) → ends_holding l.event ≡ b
          → ((w : Write) → all (gathered_after last (held ++ w ∷ []) ls) ≡ all ls)
          → all (gathered_after last [] ls) ≡ all ls
          → all (gathered_after last held ls) ≡ all ls
          → all (gathered_after last held (l ∷ ls)) ≡ all (l ∷ ls)
      by (Some w) e b f more anew same = ap all (after_held last held l ls w e) ∙ (more w ∙ ap (λ d. d ++ all ls) (sym (held-gives l w e)))
      by None e true f more anew same =
          ap all (after_other last held l ls true e f)
          ∙ (fills-give l.number (fills held) (l ∷ gathered_after last [] ls) ∙ ap (λ k. of l.event ++ k) anew)
      by None e false f more anew same = ap all (after_other last held l ls false e f) ∙ ap (λ k. of l.event ++ k) same

  both : (a b : List Line) → all (a ++ b) ≡ all a ++ all b
  both a b = flat_map-append (λ (l : Line). of l.event) a b

  pub parts-give : (parts : List Part) → all (phase_lines (map gathered_part parts)) ≡ all (phase_lines parts)
  parts-give [] = refl
  parts-give (p ∷ ps) =
      both (gathered p.lines) (phase_lines (map gathered_part ps))
      ∙ ((λ i. lines-give (last_number p.lines) [] p.lines i ++ parts-give ps i) ∙ sym (both p.lines (phase_lines ps)))

  pub phases-give : (phases : List (List Part)) → all (script_lines (gathered_phases phases)) ≡ all (script_lines phases)
  phases-give [] = refl
  phases-give (p ∷ ps) =
      both (phase_lines (map gathered_part p)) (script_lines (gathered_phases ps))
      ∙ ((λ i. parts-give p i ++ phases-give ps i) ∙ sym (both (phase_lines p) (script_lines ps)))

-- ---- presents

-- one number for a present
abbrev mark : Event → List ℕ
mark e = cond (is_present e) (0 ∷ []) []

counted : (ls : List Line) → length (filter (λ (l : Line). is_present l.event) ls) ≡ length (all mark (λ w. refl) ls)
counted [] = refl
counted (l ∷ ls) = by (is_present l.event) (counted ls)
  where
    by : (b : Bool) → length (filter (λ (l : Line). is_present l.event) ls) ≡ length (all mark (λ w. refl) ls)
        → length (cond b (l ∷ filter (λ (l : Line). is_present l.event) ls) (filter (λ (l : Line). is_present l.event) ls)) ≡ length (cond b (0 ∷ []) [] ++ all mark (λ w. refl) ls)
    by true same = omega (arith, same)
    by false same = same

pub shown_has_presents : ShownHasPresents
shown_has_presents true phases =
    counted (script_lines (gathered_phases phases)) ∙ (ap length (phases-give mark (λ w. refl) phases) ∙ sym (counted (script_lines phases)))
shown_has_presents false phases = refl
