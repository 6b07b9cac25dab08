-- Lines whose names are below a bound have the same calls under ids that agree there.
use Rattle.std.proofs.Common.{◌≡◌, ℕ, zero, suc, ◌+◌, ◌<◌, ◌≤◌, ◌==◌, List, [], ◌∷◌, ◌++◌, map, length, slice_index, sym, refl, ◌∙◌, subst, arith, length-append}
use Rattle.std.specs.List.{AllByRecursion}
use Rattle.std.proofs.lemmas.Bool.{cond_both}
use Rattle.gfx_model.specs.Events.{Event}
use Rattle.gfx_script_model.specs.Ids.{map_ids, uses_of, defines_of}
use Rattle.gfx_script_model.specs.Runs.{Entry, calls_of, lines_in}
use Rattle.gfx_script_model.specs.Scripts.{Line, Part}
use Rattle.gfx_text_grammar.proofs.Lists.{all_parts}
use Rattle.gfx_script.proofs.Filling.{one_event}
use Rattle.gfx_script.proofs.Renaming.{uses_renamed, defines_renamed, blank_renamed}
use Rattle.gfx_run_law.specs.Pieces.{AreWhole}
use Rattle.gfx_script_law.specs.Playable.{AreNumbered, LongerTablesAgree, names_of, numbers_from, phase_lines, script_lines}
use Rattle.gfx_script_law.proofs.Numbers.{longer-table}

abbrev pub AllBelow : ℕ → List ℕ → Type 0
AllBelow b ks = AllByRecursion (λ k. k < b) ks

-- all names of a line are below a bound
abbrev pub LineBelow : ℕ → Line → Type 0
LineBelow b l = AllBelow b (uses_of 2 l.event) × AllBelow b (defines_of 2 l.event)

below-more : (b c : ℕ) → b ≤ c → (ks : List ℕ) → AllBelow b ks → AllBelow c ks
below-more b c more [] h = tt
below-more b c more (k ∷ ks) h = let less = h.0 in (omega arith, below-more b c more ks h.1)

lines-more : (b c : ℕ) → b ≤ c → (ls : List Line) → AllByRecursion (LineBelow b) ls → AllByRecursion (LineBelow c) ls
lines-more b c more [] h = tt
lines-more b c more (l ∷ ls) h = ((below-more b c more (uses_of 2 l.event) h.0.0, below-more b c more (defines_of 2 l.event) h.0.1), lines-more b c more ls h.1)

numbers-below : (n c : ℕ) → AllBelow (n + c) (numbers_from n c)
numbers-below n zero = tt
numbers-below n (suc c) = let e : n + 1 + c ≤ n + suc c = omega arith in (omega arith, below-more (n + 1 + c) (n + suc c) e (numbers_from (n + 1) c) (numbers-below (n + 1) c))

-- the names of numbered lines are below the next number
pub numbered-below : (next : ℕ) (lines : List Line) → AreNumbered next lines → AllByRecursion (LineBelow (next + length (names_of lines))) lines
numbered-below next [] h = tt
numbered-below next (l ∷ ls) h =
    let d = defines_of 2 l.event in
    let c = length-append d (names_of ls) in
    let r = numbered-below (next + length d) ls h.2 in
    let e : next + length d + length (names_of ls) ≤ next + length (names_of (l ∷ ls)) = omega arith in
    let f : next + length d ≤ next + length (names_of (l ∷ ls)) = omega arith in (
      (
        below-more next (next + length (names_of (l ∷ ls))) (omega arith) (uses_of 2 l.event) h.0,
        below-more (next + length d) (next + length (names_of (l ∷ ls))) f d (subst (AllBelow (next + length d)) (sym h.1) (numbers-below next (length d))),
      ),
      lines-more (next + length d + length (names_of ls)) (next + length (names_of (l ∷ ls))) e ls r,
    )

module _ (f g : ℕ → ℕ) (b : ℕ) (agree : (k : ℕ) → k < b → f k ≡ g k) where
  same-ids : (ks : List ℕ) → AllBelow b ks → map f ks ≡ map g ks
  same-ids [] h = refl
  same-ids (k ∷ ks) h = λ i. agree k h.0 i ∷ same-ids ks h.1 i

  same-event : (e : Event) → AllBelow b (uses_of 2 e) → AllBelow b (defines_of 2 e) → map_ids f e ≡ map_ids g e
  same-event e used made =
      one_event (map_ids f e) (map_ids g e) (blank_renamed f e ∙ sym (blank_renamed g e))
      (uses_renamed 2 f e ∙ (same-ids (uses_of 2 e) used ∙ sym (uses_renamed 2 g e)))
      (defines_renamed 2 f e ∙ (same-ids (defines_of 2 e) made ∙ sym (defines_renamed 2 g e)))

  pub same-calls : (lines : List Line) → AllByRecursion (LineBelow b) lines → calls_of f lines ≡ calls_of g lines
  same-calls [] h = refl
  same-calls (l ∷ ls) h = λ i. same-event l.event h.0.0 h.0.1 i ∷ same-calls ls h.1 i

-- what is true of all lines of a phase is true of those of a thread
pub lines-of-thread : (P : Line → Type 0) (t : ℕ) (phase : List Part) → AllByRecursion P (phase_lines phase) → AllByRecursion P (lines_in t phase)
lines-of-thread P t [] h = tt
lines-of-thread P t (p ∷ ps) h =
    let parts = all_parts P p.lines (phase_lines ps) h in
    cond_both (p.thread == t) p.lines (lines_in t ps) (AllByRecursion P) (λ _. parts.0) (λ _. lines-of-thread P t ps parts.1)

-- pieces stay whole under ids that agree on the names of their phases
pub whole-agree : (n : ℕ) (f g : ℕ → ℕ) (b : ℕ) → ((k : ℕ) → k < b → f k ≡ g k) → (phases : List (List Part)) (pieces : List (List Entry))
    → AllByRecursion (LineBelow b) (script_lines phases) → AreWhole n f phases pieces → AreWhole n g phases pieces
whole-agree n f g b agree [] [] h w = tt
whole-agree n f g b agree [] (q ∷ qs) h w = absurd w
whole-agree n f g b agree (p ∷ ps) [] h w = absurd w
whole-agree n f g b agree (p ∷ ps) (q ∷ qs) h w =
    let parts = all_parts (LineBelow b) (phase_lines p) (script_lines ps) h in (
      λ t less. w.0 t less ∙ same-calls f g b agree (lines_in t p) (lines-of-thread (LineBelow b) t p parts.0),
      whole-agree n f g b agree ps qs parts.1 w.1,
    )

pub longer_tables_agree : LongerTablesAgree
longer_tables_agree n table more phases pieces numbered long w =
    whole-agree n (λ k. slice_index table k) (λ k. slice_index (table ++ more) k) (length table) (longer-table table more) phases pieces
    (subst (λ b. AllByRecursion (LineBelow b) (script_lines phases)) (sym long) (numbered-below 1 (script_lines phases) numbered)) w
