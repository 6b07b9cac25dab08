-- Events of threads, pieces of a log, and the lines that are in them.
use Rattle.std.proofs.Common.{◌≡◌, inl, inr, ℕ, zero, suc, ◌≤◌, ◌==◌, Bool, true, false, cond, List, [], ◌∷◌, ◌++◌, map, filter, length, take, drop, refl, sym, ap, ◌∙◌, subst, arith, append_assoc, append-nil, eq-eqb}
use Rattle.std.specs.List.{list_all, AllByRecursion}
use Rattle.std.proofs.lemmas.Bool.{both_ways, cases_lt, eqb-true, false_from_ne_true, or_left, or_right, or_parts, and_from}
use Rattle.std.proofs.lemmas.List.{map-append, take-append-drop}
use Rattle.std.proofs.lemmas.List.Elements.{filter-append}
use Rattle.gfx_model.specs.Events.{Event}
use Rattle.gfx_script_model.specs.Ids.{map_ids}
use Rattle.gfx_script_model.specs.Scripts.{Line, Part, has_thread}
use Rattle.gfx_script_model.specs.Runs.{Entry, IsPiece, IsWholePiece, ArePieces, events_of, calls_of, lines_in, last_piece, lines_of_phase}
use Rattle.gfx_run_law.specs.Pieces.{joined, AreWhole, AreApart, ArePhases}

-- ---- the events of a thread

pub events-append : (t : ℕ) (l m : List Entry) → events_of t (l ++ m) ≡ events_of t l ++ events_of t m
events-append t l m = ap (map (λ e. e.event)) (filter-append (λ e. e.thread == t) l m) ∙ map-append (λ e. e.event) (filter (λ e. e.thread == t) l) (filter (λ e. e.thread == t) m)

-- an entry of another thread doesn't count
others : (t : ℕ) (e : Entry) (log : List Entry) → (e.thread == t) ≡ false → events_of t (e ∷ log) ≡ events_of t log
others t e log other = ap (λ (b : Bool). map (λ (e : Entry). e.event) (cond b (e ∷ filter (λ e. e.thread == t) log) (filter (λ e. e.thread == t) log))) other

-- an entry of the thread comes first
own : (t : ℕ) (e : Entry) (log : List Entry) → (e.thread == t) ≡ true → events_of t (e ∷ log) ≡ e.event ∷ events_of t log
own t e log same = ap (λ (b : Bool). map (λ (e : Entry). e.event) (cond b (e ∷ filter (λ e. e.thread == t) log) (filter (λ e. e.thread == t) log))) same

pub nil-left : {A : Type 0} (l m : List A) → l ++ m ≡ [] → l ≡ []
nil-left [] m h = refl
nil-left (x ∷ l) m h = absurd cc

pub nil-right : {A : Type 0} (l m : List A) → l ++ m ≡ [] → m ≡ []
nil-right [] m h = h
nil-right (x ∷ l) m h = absurd cc

-- a log without entries of any thread is empty
pub nobody : (log : List Entry) → ((t : ℕ) → events_of t log ≡ []) → log ≡ []
nobody [] h = refl
nobody (e ∷ es) h = let none : e.event ∷ events_of e.thread es ≡ [] = sym (own e.thread e es (eq-eqb e.thread e.thread refl)) ∙ h e.thread in absurd cc

-- threads without events in a list have no entry there
pub threads-listed : (listed : ℕ → Bool) (log : List Entry) → ((t : ℕ) → listed t ≡ false → events_of t log ≡ []) → list_all (λ e. listed e.thread) log ≡ true
threads-listed listed [] h = refl
threads-listed listed (e ∷ es) h = and_from (listed e.thread) (list_all (λ e. listed e.thread) es) (here (listed e.thread) refl) (threads-listed listed es later)
  where
    here : (b : Bool) → listed e.thread ≡ b → listed e.thread ≡ true
    here true is = is
    here false is = let none : e.event ∷ events_of e.thread es ≡ [] = sym (own e.thread e es (eq-eqb e.thread e.thread refl)) ∙ h e.thread is in absurd cc

    later : (t : ℕ) → listed t ≡ false → events_of t es ≡ []
    later t none = by (e.thread == t) refl
      where
        by : (b : Bool) → (e.thread == t) ≡ b → events_of t es ≡ []
        by true same = let no : e.event ∷ events_of t es ≡ [] = sym (own t e es same) ∙ h t none in absurd cc
        by false other = sym (others t e es other) ∙ h t none

-- ---- calls of lines

pub calls-append : (ids : ℕ → ℕ) (l m : List Line) → calls_of ids (l ++ m) ≡ calls_of ids l ++ calls_of ids m
calls-append ids l m = map-append (λ l. map_ids ids l.event) l m

-- what begins the calls of some lines is the calls of a prefix of them
pub prefix-calls : (ids : ℕ → ℕ) (lines : List Line) (a b : List Event) → a ++ b ≡ calls_of ids lines → a ≡ calls_of ids (take (length a) lines)
prefix-calls ids lines [] b e = refl
prefix-calls ids [] (x ∷ a) b e = absurd cc
prefix-calls ids (l ∷ ls) (x ∷ a) b e = let first : x ≡ map_ids ids l.event = cc in let rest : a ++ b ≡ calls_of ids ls = cc in (λ i. first i ∷ prefix-calls ids ls a b rest i)

-- all lines are the first ones, as many as there are calls
all-taken : (ids : ℕ → ℕ) (lines : List Line) (a : List Event) → a ≡ calls_of ids lines → a ≡ calls_of ids (take (length a) lines)
all-taken ids lines a e = prefix-calls ids lines a [] (append-nil a ∙ e)

-- a prefix of the first lines is a prefix
pub taken-front : (ids : ℕ → ℕ) (lines : List Line) (k : ℕ) (a b : List Event) → a ++ b ≡ calls_of ids (take k lines) → a ++ (b ++ calls_of ids (drop k lines)) ≡ calls_of ids lines
taken-front ids lines k a b e =
    sym (append_assoc a b (calls_of ids (drop k lines)))
    ∙ (ap (λ z. z ++ calls_of ids (drop k lines)) e
    ∙ (sym (calls-append ids (take k lines) (drop k lines)) ∙ ap (calls_of ids) (take-append-drop k lines)))

-- ---- the parts of a phase

-- a thread without a part has no lines
pub no-part : (t : ℕ) (ps : List Part) → has_thread t ps ≡ false → lines_in t ps ≡ []
no-part t [] h = refl
no-part t (p ∷ ps) h =
    let parts = or_parts (p.thread == t) (has_thread t ps) h in
    ap (λ (b : Bool). cond b p.lines (lines_in t ps)) parts.0 ∙ no-part t ps parts.1

-- what is told of the lines of each thread that has a part is told of each part
by-parts : (P : ℕ → List Line → Type 0) (phase : List Part) → AreApart phase → ((t : ℕ) → has_thread t phase ≡ true → P t (lines_in t phase)) → AllByRecursion (λ p. P p.thread p.lines) phase
by-parts P [] apart h = tt
by-parts P (p ∷ ps) apart h = (here, by-parts P ps apart.1 later)
  where
    same : (p.thread == p.thread) ≡ true
    same = eq-eqb p.thread p.thread refl

    here : P p.thread p.lines
    here = subst (P p.thread) (ap (λ (b : Bool). cond b p.lines (lines_in p.thread ps)) same) (h p.thread (or_left (p.thread == p.thread) (has_thread p.thread ps) same))

    later : (t : ℕ) → has_thread t ps ≡ true → P t (lines_in t ps)
    later t there =
        let other : (p.thread == t) ≡ false = false_from_ne_true (p.thread == t) (λ e. both_ways (has_thread t ps) (subst (λ u. has_thread u ps ≡ false) (eqb-true p.thread t e) apart.0) there) in
        subst (P t) (ap (λ (b : Bool). cond b p.lines (lines_in t ps)) other) (h t (or_right (p.thread == t) (has_thread t ps) there))

-- ---- pieces

-- all lines of every thread
abbrev pub HasAll : (ℕ → ℕ) → List Part → List Entry → Type 0
HasAll ids phase piece = (t : ℕ) → events_of t piece ≡ calls_of ids (lines_in t phase)

-- the first lines of every thread
abbrev pub HasFirst : (ℕ → ℕ) → List Part → List Entry → Type 0
HasFirst ids phase piece = (t : ℕ) → events_of t piece ≡ calls_of ids (take (length (events_of t piece)) (lines_in t phase))

-- no lines give no calls
pub no-calls : (ids : ℕ → ℕ) (k : ℕ) (lines : List Line) → lines ≡ [] → calls_of ids (take k lines) ≡ []
no-calls ids k [] e = nothing k
  where
    nothing : (k : ℕ) → calls_of ids (take k []) ≡ []
    nothing zero = refl
    nothing (suc k) = refl
no-calls ids k (l ∷ ls) e = absurd cc

module _ (ids : ℕ → ℕ) (phase : List Part) (piece : List Entry) (apart : AreApart phase) where
  -- a piece is known by the events of each thread
  is-piece : HasFirst ids phase piece → IsPiece ids phase piece
  is-piece h = record {
    threads = threads-listed (λ t. has_thread t phase) piece (λ t none. h t ∙ no-calls ids (length (events_of t piece)) (lines_in t phase) (no-part t phase none));
    prefixes = by-parts (λ t lines. events_of t piece ≡ calls_of ids (take (length (events_of t piece)) lines)) phase apart (λ t _. h t);
  }

  is-whole-piece : HasAll ids phase piece → IsWholePiece ids phase piece
  is-whole-piece h = record {
    is_piece = is-piece (λ t. all-taken ids (lines_in t phase) (events_of t piece) (h t));
    all = by-parts (λ t lines. events_of t piece ≡ calls_of ids lines) phase apart (λ t _. h t);
  }

-- pieces with all lines of every thread
abbrev pub AllWhole : (ids : ℕ → ℕ) → List (List Part) → List (List Entry) → Type 0
AllWhole ids [] [] = Unit {0}
AllWhole ids [] (piece ∷ pieces) = ⊥
AllWhole ids (phase ∷ phases) [] = ⊥
AllWhole ids (phase ∷ phases) (piece ∷ pieces) = HasAll ids phase piece × AllWhole ids phases pieces

-- where no thread from n on has an event, what is whole for the first n threads is whole
pub whole-for-all : (n : ℕ) (ids : ℕ → ℕ) (phases rest : List (List Part)) (pieces : List (List Entry)) (more : List Entry) → ArePhases n (phases ++ rest) → AreWhole n ids phases pieces
    → ((t : ℕ) → n ≤ t → events_of t (joined pieces ++ more) ≡ []) → AllWhole ids phases pieces
whole-for-all n ids [] rest [] more phases w foreign = tt
whole-for-all n ids [] rest (q ∷ qs) more phases w foreign = absurd w
whole-for-all n ids (p ∷ ps) rest [] more phases w foreign = absurd w
whole-for-all n ids (p ∷ ps) rest (q ∷ qs) more phases w foreign =
    (here, whole-for-all n ids ps rest qs more phases.2 w.1 (λ t above. nil-right (events_of t q) (events_of t (joined qs ++ more)) (split t above)))
  where
    split : (t : ℕ) → n ≤ t → events_of t q ++ events_of t (joined qs ++ more) ≡ []
    split t above = sym (events-append t q (joined qs ++ more)) ∙ (ap (events_of t) (sym (append_assoc q (joined qs) more)) ∙ foreign t above)

    here : HasAll ids p q
    here t = elim (cases_lt t n) [
      | inl less ↦ w.0 t less
      | inr above ↦ nil-left (events_of t q) (events_of t (joined qs ++ more)) (split t above) ∙ ap (calls_of ids) (sym (no-part t p (phases.1 t above)))
    ]

-- the first pieces are whole, and then there is one more
pub are-pieces : (n : ℕ) (ids : ℕ → ℕ) (before : List (List Part)) (phase : List Part) (rest : List (List Part)) (pieces : List (List Entry)) (piece : List Entry)
    → ArePhases n (before ++ phase ∷ rest) → AllWhole ids before pieces → HasFirst ids phase piece → ArePieces false ids (before ++ phase ∷ rest) (pieces ++ piece ∷ [])
are-pieces n ids [] phase rest [] piece phases w h = is-piece ids phase piece phases.0 h
are-pieces n ids [] phase rest (q ∷ qs) piece phases w h = absurd w
are-pieces n ids (b ∷ bs) phase rest [] piece phases w h = absurd w
are-pieces n ids (b ∷ bs) phase rest (q ∷ []) piece phases w h = (is-whole-piece ids b q phases.0 w.0, are-pieces n ids bs phase rest [] piece phases.2 w.1 h)
are-pieces n ids (b ∷ bs) phase rest (q ∷ r ∷ qs) piece phases w h = (is-whole-piece ids b q phases.0 w.0, are-pieces n ids bs phase rest (r ∷ qs) piece phases.2 w.1 h)

-- all pieces are whole
pub are-all : (n : ℕ) (ids : ℕ → ℕ) (phases : List (List Part)) (pieces : List (List Entry)) → ArePhases n phases → AllWhole ids phases pieces → ArePieces true ids phases pieces
are-all n ids [] [] phases w = tt
are-all n ids [] (q ∷ qs) phases w = absurd w
are-all n ids (p ∷ ps) [] phases w = absurd w
are-all n ids (p ∷ ps) (q ∷ []) phases w = is-whole-piece ids p q phases.0 w.0
are-all n ids (p ∷ ps) (q ∷ r ∷ qs) phases w = (is-whole-piece ids p q phases.0 w.0, are-all n ids ps (r ∷ qs) phases.2 w.1)

pub whole-long : (n : ℕ) (ids : ℕ → ℕ) (phases : List (List Part)) (pieces : List (List Entry)) → AreWhole n ids phases pieces → length pieces ≡ length phases
whole-long n ids [] [] w = refl
whole-long n ids [] (q ∷ qs) w = absurd w
whole-long n ids (p ∷ ps) [] w = absurd w
whole-long n ids (p ∷ ps) (q ∷ qs) w = let r = whole-long n ids ps qs w.1 in omega arith

-- ---- the last piece and its phase

pub joined-more : (pieces : List (List Entry)) (piece : List Entry) → joined (pieces ++ piece ∷ []) ≡ joined pieces ++ piece
joined-more [] piece = append-nil piece
joined-more (p ∷ ps) piece = ap (λ l. p ++ l) (joined-more ps piece) ∙ sym (append_assoc p (joined ps) piece)

pub last-is : (pieces : List (List Entry)) (piece : List Entry) → last_piece (pieces ++ piece ∷ []) ≡ piece
last-is [] piece = refl
last-is (q ∷ []) piece = refl
last-is (q ∷ r ∷ qs) piece = last-is (r ∷ qs) piece

pub phase-is : (before : List (List Part)) (phase : List Part) (rest : List (List Part)) (t : ℕ) → lines_of_phase (before ++ phase ∷ rest) (suc (length before)) t ≡ lines_in t phase
phase-is [] phase rest t = refl
phase-is (b ∷ bs) phase rest t = phase-is bs phase rest t
