-- The lines of what has been read, in order.
use Rattle.std.proofs.Common.{◌≡◌, ℕ, ◌+◌, ◌==◌, Bool, true, false, List, [], ◌∷◌, ◌++◌, map, length, sym, refl, ap, ◌∙◌, subst, arith, append_assoc, append-nil, length-append, eq-eqb}
use Rattle.std.specs.Prelude.{reverse, ◌||◌}
use Rattle.std.specs.List.{AllByRecursion}
use Rattle.std.proofs.lemmas.Bool.{both_ways, or_from, or_parts, ne_eqb}
use Rattle.std.proofs.lemmas.List.{reverse-append}
use Rattle.std.proofs.lemmas.List.Folds.{list_any-append}
use Rattle.gfx_script_model.specs.Ids.{defines_of}
use Rattle.gfx_script_model.specs.Scripts.{Line, Part, has_thread, part_in_order, phase_in_order, in_order}
use Rattle.gfx_run_law.specs.Pieces.{AreApart}
use Rattle.gfx_script_law.specs.Playable.{AreNumbered, names_of, phase_lines, script_lines}
use Rattle.gfx_script_law.proofs.Numbers.{lines-append, parts-append}

-- the lines so far, of phases that have the newest first
abbrev pub so-far : List (List Part) → List Line
so-far phases = script_lines (in_order phases)

all-both : {X : Type 0} (P : X → Type 0) (xs ys : List X) → AllByRecursion P xs → AllByRecursion P ys → AllByRecursion P (xs ++ ys)
all-both P [] ys a b = b
all-both P (x ∷ xs) ys a b = (a.0, all-both P xs ys a.1 b)

pub all-push : {X : Type 0} (P : X → Type 0) (xs : List X) (x : X) → AllByRecursion P xs → P x → AllByRecursion P (xs ++ x ∷ [])
all-push P xs x a p = all-both P xs (x ∷ []) a (p, tt)

-- the newest phase comes last
pub newest-phase : (phase : List Part) (phases : List (List Part)) → so-far (phase ∷ phases) ≡ so-far phases ++ phase_lines (phase_in_order phase)
newest-phase phase phases =
    ap script_lines (reverse-append (phase_in_order phase ∷ []) (map phase_in_order phases))
    ∙ (lines-append (in_order phases) (phase_in_order phase ∷ []) ∙ ap (λ l. so-far phases ++ l) (append-nil (phase_lines (phase_in_order phase))))

-- the newest thread comes last
newest-part : (part : Part) (parts : List Part) → phase_lines (phase_in_order (part ∷ parts)) ≡ phase_lines (phase_in_order parts) ++ reverse part.lines
newest-part part parts =
    ap phase_lines (reverse-append (part_in_order part ∷ []) (map part_in_order parts))
    ∙ (parts-append (phase_in_order parts) (part_in_order part ∷ []) ∙ ap (λ l. phase_lines (phase_in_order parts) ++ l) (append-nil (reverse part.lines)))

-- a phase that begins has no lines
pub phase-begins : (phases : List (List Part)) → so-far ([] ∷ phases) ≡ so-far phases
phase-begins phases = newest-phase [] phases ∙ append-nil (so-far phases)

-- a thread that begins has no lines
pub thread-begins : (n : ℕ) (parts : List Part) (phases : List (List Part)) → so-far ((record { thread = n; lines = [] } ∷ parts) ∷ phases) ≡ so-far (parts ∷ phases)
thread-begins n parts phases =
    newest-phase (record { thread = n; lines = [] } ∷ parts) phases
    ∙ (ap (λ l. so-far phases ++ l) (newest-part (record { thread = n; lines = [] }) parts ∙ append-nil (phase_lines (phase_in_order parts))) ∙ sym (newest-phase parts phases))

-- the newest line comes last
pub line-added : (line : Line) (part : Part) (parts : List Part) (phases : List (List Part)) → so-far ((record part { lines = line ∷ part.lines } ∷ parts) ∷ phases) ≡ so-far ((part ∷ parts) ∷ phases) ++ line ∷ []
line-added line part parts phases =
    let before = phase_lines (phase_in_order parts) in
    newest-phase (record part { lines = line ∷ part.lines } ∷ parts) phases
    ∙ (ap (λ l. so-far phases ++ l) (newest-part (record part { lines = line ∷ part.lines }) parts ∙ ap (λ l. before ++ l) (reverse-append (line ∷ []) part.lines) ∙ sym (append_assoc before (reverse part.lines) (line ∷ [])))
    ∙ (sym (append_assoc (so-far phases) (before ++ reverse part.lines) (line ∷ []))
    ∙ ap (λ l. l ++ line ∷ []) (ap (λ l. so-far phases ++ l) (sym (newest-part part parts)) ∙ sym (newest-phase (part ∷ parts) phases))))

-- numbered lines, and one more
pub numbered-push : (next : ℕ) (lines : List Line) (line : Line) → AreNumbered next lines → AreNumbered (next + length (names_of lines)) (line ∷ []) → AreNumbered next (lines ++ line ∷ [])
numbered-push next [] line a b = let e : next + 0 ≡ next = omega arith in subst (λ n. AreNumbered n (line ∷ [])) e b
numbered-push next (l ∷ ls) line a b =
    let c = length-append (defines_of 2 l.event) (names_of ls) in
    let e : next + length (names_of (l ∷ ls)) ≡ next + length (defines_of 2 l.event) + length (names_of ls) = omega arith in
    (a.0, a.1, numbered-push (next + length (defines_of 2 l.event)) ls line a.2 (subst (λ n. AreNumbered n (line ∷ [])) e b))

-- ---- the first first

apart-push : (ps : List Part) (p : Part) → AreApart ps → has_thread p.thread ps ≡ false → AreApart (ps ++ p ∷ [])
apart-push [] p a none = (refl, tt)
apart-push (q ∷ qs) p a none =
    let parts = or_parts (q.thread == p.thread) (has_thread p.thread qs) none in
    let other : (p.thread == q.thread) ≡ false = ne_eqb p.thread q.thread (λ e. both_ways (q.thread == p.thread) parts.0 (eq-eqb q.thread p.thread (sym e))) in (
      list_any-append (λ r. r.thread == q.thread) qs (p ∷ []) ∙ or_from (has_thread q.thread qs) ((p.thread == q.thread) || false) a.0 (or_from (p.thread == q.thread) false other refl),
      apart-push qs p a.1 parts.1,
    )

pub turned-thread : (t : ℕ) (ps : List Part) → has_thread t (phase_in_order ps) ≡ has_thread t ps
turned-thread t [] = refl
turned-thread t (p ∷ ps) =
    ap (has_thread t) (reverse-append (part_in_order p ∷ []) (map part_in_order ps))
    ∙ (list_any-append (λ r. r.thread == t) (phase_in_order ps) (part_in_order p ∷ [])
    ∙ (ap (λ b. b || ((p.thread == t) || false)) (turned-thread t ps) ∙ by (has_thread t ps) (p.thread == t)))
  where
    by : (a b : Bool) → (a || (b || false)) ≡ (b || a)
    by true true = refl
    by true false = refl
    by false true = refl
    by false false = refl

pub turned-apart : (ps : List Part) → AreApart ps → AreApart (phase_in_order ps)
turned-apart [] a = tt
turned-apart (p ∷ ps) a =
    subst AreApart (sym (reverse-append (part_in_order p ∷ []) (map part_in_order ps)))
    (apart-push (phase_in_order ps) (part_in_order p) (turned-apart ps a.1) (turned-thread p.thread ps ∙ a.0))

-- what is true of each item is true of each changed one, in turned order
pub all-turned : {X : Type 0} (P Q : X → Type 0) (f : X → X) → ((x : X) → P x → Q (f x)) → (xs : List X) → AllByRecursion P xs → AllByRecursion Q (reverse (map f xs))
all-turned P Q f each [] h = tt
all-turned P Q f each (x ∷ xs) h = subst (AllByRecursion Q) (sym (reverse-append (f x ∷ []) (map f xs))) (all-push Q (reverse (map f xs)) (f x) (all-turned P Q f each xs h.1) (each x h.0))
