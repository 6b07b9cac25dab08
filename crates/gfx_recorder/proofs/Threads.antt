-- The threads of parts, and the lines of a thread, part by part.
use Rattle.std.proofs.Common.{◌≡◌, ◌⊎◌, inl, inr, ℕ, zero, suc, ◌+◌, ◌<◌, ◌≤◌, ◌==◌, Bool, true, false, cond, List, [], ◌∷◌, ◌++◌, map, length, get_or, take, drop, refl, sym, ap, ◌∙◌, subst, arith, add-one, drop-cons}
use Rattle.std.specs.Prelude.{◌||◌, if◌then◌else◌}
use Rattle.std.specs.List.{AllByRecursion}
use Rattle.std.proofs.lemmas.Bool.{or_from, or_parts, ne_eqb, eq-eqb, both_ways, cases_lt, or_left, or_right}
use Rattle.std.proofs.lemmas.List.{take_more, get_or-map, length-map}
use Rattle.std.proofs.lemmas.List.Folds.{list_any-append}
use Rattle.gfx_script_model.specs.Scripts.{Part, has_thread}
use Rattle.gfx_script_model.specs.Runs.{lines_in}
use Rattle.gfx_script.specs.declared.line.Line.{Line as ScriptLine}
use Rattle.gfx_script.specs.declared.script.Part.{Part as ScriptPart}
use Rattle.gfx_script.specs.declared.script.Phase.{Phase as ScriptPhase}
use Rattle.gfx_script.specs.Line.{line_of, part_of, phase_of, phases_of}
use Rattle.gfx_run_law.specs.Pieces.{AreApart, ArePhases}
use Rattle.gfx_recorder.specs.Ends.{number_at}

-- those from part k on
pub lines_after : (t : ℕ) (ps : List Part) (k : ℕ) (d : Part) → k < length ps → lines_in t (drop k ps) ≡ (if (get_or ps k d).thread == t then (get_or ps k d).lines else lines_in t (drop (k + 1) ps))
lines_after t ps k d less = rw (add-one, drop-cons ps k d) refl

-- a thread that has no part among the first ones, nor in the next one
pub none-more : (t : ℕ) (ps : List Part) (p : Part) → has_thread t ps ≡ false → p.thread < t → has_thread t (ps ++ p ∷ []) ≡ false
none-more t ps p none less =
    list_any-append (λ p. p.thread == t) ps (p ∷ [])
    ∙ or_from (has_thread t ps) ((p.thread == t) || false) none (or_from (p.thread == t) false (ne_eqb p.thread t (λ e. omega arith)) refl)

pub all-append : {X : Type 0} (P : X → Type 0) (xs ys : List X) → AllByRecursion P xs → AllByRecursion P ys → AllByRecursion P (xs ++ ys)
all-append P [] ys a b = b
all-append P (x ∷ xs) ys a b = (a.0, all-append P xs ys a.1 b)

pub all-at : {X : Type 0} (P : X → Type 0) (xs : List X) (i : ℕ) (d : X) → i < length xs → AllByRecursion P xs → P (get_or xs i d)
all-at P [] i d less h = absurd (omega arith)
all-at P (x ∷ xs) zero d less h = h.0
all-at P (x ∷ xs) (suc i) d less h = all-at P xs i d (omega arith) h.1

-- phases whose threads are apart and below n
pub are-phases : (n : ℕ) (phases : List (List Part)) → AllByRecursion AreApart phases → ((t : ℕ) → n ≤ t → AllByRecursion (λ phase. has_thread t phase ≡ false) phases) → ArePhases n phases
are-phases n [] apart above = tt
are-phases n (p ∷ ps) apart above = (apart.0, (λ t h. (above t h).0), are-phases n ps apart.1 (λ t h. (above t h).1))

-- each part of a phase without threads from n on is one of a thread below n
pub threads-below : (n : ℕ) (ps : List Part) → ((t : ℕ) → n ≤ t → has_thread t ps ≡ false) → AllByRecursion (λ p. p.thread < n) ps
threads-below n [] above = tt
threads-below n (p ∷ ps) above = (here (cases_lt p.thread n), threads-below n ps (λ t h. (or_parts (p.thread == t) (has_thread t ps) (above t h)).1))
  where
    here : (p.thread < n) ⊎ (n ≤ p.thread) → p.thread < n
    here (inl less) = less
    here (inr over) = absurd (both_ways (p.thread == p.thread) (or_parts (p.thread == p.thread) (has_thread p.thread ps) (above p.thread over)).0 (eq-eqb p.thread p.thread refl))

-- ---- parts one after another

module _ (ps : List Part) (p : Part) where
  -- the lines of the thread of a part that comes last, where it had none before
  pub lines-new : has_thread p.thread ps ≡ false → lines_in p.thread (ps ++ p ∷ []) ≡ p.lines
  lines-new none = go ps none
    where
      go : (qs : List Part) → has_thread p.thread qs ≡ false → lines_in p.thread (qs ++ p ∷ []) ≡ p.lines
      go [] none = ap (λ (b : Bool). cond b p.lines []) (eq-eqb p.thread p.thread refl)
      go (q ∷ qs) none =
          let parts = or_parts (q.thread == p.thread) (has_thread p.thread qs) none in
          ap (λ (b : Bool). cond b q.lines (lines_in p.thread (qs ++ p ∷ []))) parts.0 ∙ go qs parts.1

  -- the lines of another thread
  pub lines-old : (t : ℕ) → (p.thread ≡ t → ⊥) → lines_in t (ps ++ p ∷ []) ≡ lines_in t ps
  lines-old t other = go ps
    where
      go : (qs : List Part) → lines_in t (qs ++ p ∷ []) ≡ lines_in t qs
      go [] = ap (λ (b : Bool). cond b p.lines []) (ne_eqb p.thread t other)
      go (q ∷ qs) = ap (λ l. cond (q.thread == t) q.lines l) (go qs)

-- in parts that are apart, the thread of each has no part before it
pub apart-at : (ps : List Part) (i : ℕ) (d : Part) → i < length ps → AreApart ps → has_thread (get_or ps i d).thread (take i ps) ≡ false
apart-at [] i d less a = absurd (omega arith)
apart-at (p ∷ ps) zero d less a = refl
apart-at (p ∷ ps) (suc i) d less a =
    or_from (p.thread == (get_or ps i d).thread) (has_thread (get_or ps i d).thread (take i ps))
    (ne_eqb p.thread (get_or ps i d).thread (λ e. both_ways (has_thread p.thread ps) a.0 (stands ps i d (omega arith) p.thread (sym e))))
    (apart-at ps i d (omega arith) a.1)
  where
    stands : (qs : List Part) (k : ℕ) (d : Part) → k < length qs → (t : ℕ) → (get_or qs k d).thread ≡ t → has_thread t qs ≡ true
    stands [] k d less t e = absurd (omega arith)
    stands (q ∷ qs) zero d less t e = or_left (q.thread == t) (has_thread t qs) (eq-eqb q.thread t e)
    stands (q ∷ qs) (suc k) d less t e = or_right (q.thread == t) (has_thread t qs) (stands qs k d (omega arith) t e)

-- ---- the lines and parts of a script as the definitions have them

-- the line at a place
pub number_there : (ls : List ScriptLine) (i : ℕ) (d : ScriptLine) → i < length ls → (get_or ls i d).number ≡ number_at (map line_of ls) i
number_there [] i d less = absurd (omega arith)
number_there (l ∷ ls) zero d less = refl
number_there (l ∷ ls) (suc i) d less = number_there ls i d (omega arith)

pub number_past : (ls : List ScriptLine) (i : ℕ) → length ls ≤ i → 0 ≡ number_at (map line_of ls) i
number_past [] i over = refl
number_past (l ∷ ls) zero over = absurd (omega arith)
number_past (l ∷ ls) (suc i) over = number_past ls i (omega arith)

module _ (ps : List ScriptPart) (i : ℕ) (p : ScriptPart) (less : i < length ps) (is : p ≡ get_or ps i p) where
  -- the part at a place
  pub part-at : get_or (map part_of ps) i (part_of p) ≡ part_of p
  part-at = get_or-map part_of ps i p (part_of p) less ∙ ap part_of (sym is)

  in-parts : i < length (map part_of ps)
  in-parts = let a = length-map ps part_of in omega arith

  part-after : (t : ℕ) → lines_in t (drop i (map part_of ps)) ≡ (if p.thread == t then map line_of p.lines else lines_in t (drop (i + 1) (map part_of ps)))
  part-after t = lines_after t (map part_of ps) i (part_of p) in-parts ∙ ap (λ q. if q.thread == t then q.lines else lines_in t (drop (i + 1) (map part_of ps))) part-at

  -- a part of the thread has its lines
  pub part-found : (t : ℕ) → lines_in t (map part_of ps) ≡ lines_in t (drop i (map part_of ps)) → p.thread ≡ t → map line_of p.lines ≡ lines_in t (map part_of ps)
  part-found t so-far same = sym (so-far ∙ (part-after t ∙ ap (λ (b : Bool). cond b (map line_of p.lines) (lines_in t (drop (i + 1) (map part_of ps)))) (eq-eqb p.thread t same)))

  -- a part of another thread is passed over
  pub part-passed : (t : ℕ) → lines_in t (map part_of ps) ≡ lines_in t (drop i (map part_of ps)) → (p.thread ≡ t → ⊥) → lines_in t (map part_of ps) ≡ lines_in t (drop (i + 1) (map part_of ps))
  part-passed t so-far other = so-far ∙ (part-after t ∙ ap (λ (b : Bool). cond b (map line_of p.lines) (lines_in t (drop (i + 1) (map part_of ps)))) (ne_eqb p.thread t other))

  -- its thread is a low one
  pub part-low : AllByRecursion (λ p. p.thread ≤ 63) (map part_of ps) → p.thread ≤ 63
  part-low low = subst (λ q. q.thread ≤ 63) part-at (all-at (λ p. p.thread ≤ 63) (map part_of ps) i (part_of p) in-parts low)

  -- threads that have no part so far, and are not that of the next one
  pub still-none : (t : ℕ) → has_thread t (take i (map part_of ps)) ≡ false → p.thread < t → has_thread t (take (i + 1) (map part_of ps)) ≡ false
  still-none t none less' =
      ap (has_thread t) (take_more (map part_of ps) i (part_of p) in-parts ∙ ap (λ q. take i (map part_of ps) ++ q ∷ []) part-at)
      ∙ none-more t (take i (map part_of ps)) (part_of p) none less'

-- ---- phases

module _ (ps : List ScriptPhase) (i : ℕ) (p : ScriptPhase) (less : i < length ps) (is : p ≡ get_or ps i p) where
  phase-at : get_or (phases_of ps) i (phase_of p) ≡ phase_of p
  phase-at = get_or-map phase_of ps i p (phase_of p) less ∙ ap phase_of (sym is)

  in-phases : i < length (phases_of ps)
  in-phases = let a = length-map ps phase_of in omega arith

  -- the threads of a phase are low ones
  pub phase-low : AllByRecursion (AllByRecursion (λ q. q.thread ≤ 63)) (phases_of ps) → AllByRecursion (λ q. q.thread ≤ 63) (phase_of p)
  phase-low low = subst (AllByRecursion (λ q. q.thread ≤ 63)) phase-at (all-at (AllByRecursion (λ q. q.thread ≤ 63)) (phases_of ps) i (phase_of p) in-phases low)

  -- a thread without a part in the phases so far and in the next one
  pub phase-none : (t : ℕ) → AllByRecursion (λ phase. has_thread t phase ≡ false) (take i (phases_of ps)) → has_thread t (phase_of p) ≡ false → AllByRecursion (λ phase. has_thread t phase ≡ false) (take (i + 1) (phases_of ps))
  phase-none t so-far none =
      subst (AllByRecursion (λ phase. has_thread t phase ≡ false)) (sym (take_more (phases_of ps) i (phase_of p) in-phases ∙ ap (λ q. take i (phases_of ps) ++ q ∷ []) phase-at))
      (all-append (λ phase. has_thread t phase ≡ false) (take i (phases_of ps)) (phase_of p ∷ []) so-far (none, tt))
