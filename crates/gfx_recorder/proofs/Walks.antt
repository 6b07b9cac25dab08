-- One phase of a playable script.
use Rattle.std.proofs.Common.{◌≡◌, ◌∙◌, ℕ, ◌+◌, ◌<◌, ◌≤◌, ◌^◌, [], ◌∷◌, ◌++◌, List, false, length, get_or, take, drop, sym, ap, subst, arith}
use Rattle.std.specs.List.{AllByRecursion}
use Rattle.std.proofs.lemmas.List.{length-map, get_or-map}
use Rattle.gfx_script_model.specs.Scripts.{Part, has_thread}
use Rattle.gfx_script.specs.declared.script.Phase.{Phase}
use Rattle.gfx_script.specs.Line.{phase_of, phases_of}
use Rattle.gfx_text_grammar.proofs.Lists.{all_parts}
use Rattle.gfx_run_law.specs.Pieces.{AreApart, ArePhases}
use Rattle.gfx_script_law.specs.Playable.{HasBlocks, AreNumbered, IsPlayable, names_of, phase_lines, script_lines}
use Rattle.gfx_script_law.proofs.Numbers.{lines-append}
use Rattle.gfx_recorder.proofs.Phases.{item-next, item-at}
use Rattle.gfx_recorder.proofs.Threads.{threads-below, all-at}

module _ (m n : ℕ) (ps : List Phase) (i : ℕ) (p : Phase) (less : i < length ps) (is : p ≡ get_or ps i p) where
  abbrev pub before : List (List Part)
  before = take i (phases_of ps)

  abbrev pub rest : List (List Part)
  rest = drop (i + 1) (phases_of ps)

  within : i < length (phases_of ps)
  within = let a = length-map ps phase_of in omega arith

  stands : phase_of p ≡ get_or (phases_of ps) i (phase_of p)
  stands = sym (get_or-map phase_of ps i p (phase_of p) less ∙ ap phase_of (sym is))

  pub phases-cut : phases_of ps ≡ before ++ phase_of p ∷ rest
  phases-cut = item-at (phases_of ps) i (phase_of p) within stands

  pub phases-next : take (i + 1) (phases_of ps) ≡ before ++ phase_of p ∷ []
  phases-next = item-next (phases_of ps) i (phase_of p) within stands

  module _ (playable : IsPlayable m (phases_of ps)) where
    pub all-numbered : AreNumbered 1 (script_lines (before ++ phase_of p ∷ rest))
    all-numbered = subst (λ z. AreNumbered 1 (script_lines z)) phases-cut playable.numbered

    pub all-few : length (names_of (script_lines (before ++ phase_of p ∷ rest))) < 2 ^ 32
    all-few = subst (λ z. length (names_of (script_lines z)) < 2 ^ 32) phases-cut playable.few

    pub phase-apart : AreApart (phase_of p)
    phase-apart = subst AreApart (sym stands) (all-at AreApart (phases_of ps) i (phase_of p) within playable.apart)

    pub phase-blocks : AllByRecursion (HasBlocks m) (phase_lines (phase_of p))
    phase-blocks =
        let here = all_parts (HasBlocks m) (script_lines before) (phase_lines (phase_of p) ++ script_lines rest)
        (subst (AllByRecursion (HasBlocks m)) (ap script_lines phases-cut ∙ lines-append before (phase_of p ∷ rest)) playable.blocks) in
        (all_parts (HasBlocks m) (phase_lines (phase_of p)) (script_lines rest) here.1).0

  pub phase-below : ArePhases n (phases_of ps) → AllByRecursion (λ q. q.thread < n) (phase_of p)
  phase-below are = threads-below n (phase_of p) (none-of before rest (subst (ArePhases n) phases-cut are))
    where
      none-of : (qs rs : List (List Part)) → ArePhases n (qs ++ phase_of p ∷ rs) → (t : ℕ) → n ≤ t → has_thread t (phase_of p) ≡ false
      none-of [] rs a t above = a.1 t above
      none-of (q ∷ qs) rs a t above = none-of qs rs a.2 t above
