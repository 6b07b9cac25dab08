-- A log that matches a script has as many calls of a kind as the script has lines.
use Rattle.std.proofs.Common.{◌≡◌, ℕ, ◌+◌, ◌==◌, ◌||◌, Bool, true, false, cond, List, [], ◌∷◌, ◌++◌, map, filter, length, refl, sym, ap, ◌∙◌, subst, arith, length-append, eq-eqb}
use Rattle.std.specs.Prelude.{flat_map}
use Rattle.std.specs.List.{list_all, AllByRecursion}
use Rattle.std.proofs.lemmas.Bool.{both_ways, eqb-true, false_from_ne_true, or_parts, and_parts}
use Rattle.std.proofs.lemmas.List.Elements.{filter-append}
use Rattle.gfx_model.specs.Events.{Event}
use Rattle.gfx_script_model.specs.Ids.{map_ids}
use Rattle.gfx_script_model.specs.Scripts.{Line, Part, has_thread}
use Rattle.gfx_script_model.specs.Runs.{Entry, IsWholePiece, ArePieces, events_of, calls_of}
use Rattle.gfx_run_law.specs.Pieces.{AreApart}
use Rattle.gfx_script_law.specs.Playable.{phase_lines, script_lines}
use Rattle.gfx_script_law.specs.Presents.{AsManyCalls}

abbrev pub one : Bool → ℕ
one b = cond b 1 0

pub counted : {A : Type 0} (f : A → Bool) (x : A) (xs : List A) → length (filter f (x ∷ xs)) ≡ one (f x) + length (filter f xs)
counted {A = A} f x xs = by (f x) (filter f xs)
  where
    by : (b : Bool) (l : List A) → length (cond b (x ∷ l) l) ≡ one b + length l
    by true l = omega arith
    by false l = omega arith

both : {A : Type 0} (f : A → Bool) (l m : List A) → length (filter f (l ++ m)) ≡ length (filter f l) + length (filter f m)
both f l m = ap length (filter-append f l m) ∙ length-append (filter f l) (filter f m)

-- a number for each part, summed
abbrev sum : (Part → ℕ) → List Part → ℕ
sum f [] = 0
sum f (p ∷ ps) = f p + sum f ps

-- so many for a part of the thread
abbrev share : ℕ → ℕ → Part → ℕ
share t n p = cond (t == p.thread) n 0

no-share : (t n : ℕ) (ps : List Part) → has_thread t ps ≡ false → sum (share t n) ps ≡ 0
no-share t n [] none = refl
no-share t n (p ∷ ps) none =
    let parts = or_parts (p.thread == t) (has_thread t ps) none in
    let other : (t == p.thread) ≡ false = false_from_ne_true (t == p.thread) (λ e. both_ways (p.thread == t) parts.0 (eq-eqb p.thread t (sym (eqb-true t p.thread e)))) in
    let here : share t n p ≡ 0 = ap (λ b. cond b n 0) other in
    let later = no-share t n ps parts.1 in omega arith

-- a thread that has a part in a phase has one
one-share : (t n : ℕ) (ps : List Part) → AreApart ps → has_thread t ps ≡ true → sum (share t n) ps ≡ n
one-share t n [] apart has = absurd cc
one-share t n (p ∷ ps) apart has = by (t == p.thread) refl (λ has. one-share t n ps apart.1 has)
  where
    by : (b : Bool) → (t == p.thread) ≡ b → (has_thread t ps ≡ true → sum (share t n) ps ≡ n) → sum (share t n) (p ∷ ps) ≡ n
    by true same rest =
        let here : share t n p ≡ n = ap (λ b. cond b n 0) same in
        let later = no-share t n ps (subst (λ u. has_thread u ps ≡ false) (sym (eqb-true t p.thread same)) apart.0) in omega arith
    by false other rest =
        let here : share t n p ≡ 0 = ap (λ b. cond b n 0) other in
        let not : (p.thread == t) ≡ false = false_from_ne_true (p.thread == t) (λ e. both_ways (t == p.thread) other (eq-eqb t p.thread (sym (eqb-true p.thread t e)))) in
        let later = rest (ap (λ b. b || has_thread t ps) (sym not) ∙ has) in omega arith

module _ (is : Event → Bool) where
  -- the calls of a kind among those of a part's thread
  abbrev of-part : List Entry → Part → ℕ
  of-part log p = length (filter is (events_of p.thread log))

  own-more : (e : Entry) (log : List Entry) (p : Part) → of-part (e ∷ log) p ≡ share e.thread (one (is e.event)) p + of-part log p
  own-more e log p = by (e.thread == p.thread) (filter (λ (e : Entry). e.thread == p.thread) log)
    where
      by : (b : Bool) (l : List Entry) → length (filter is (map (λ (e : Entry). e.event) (cond b (e ∷ l) l))) ≡ cond b (one (is e.event)) 0 + length (filter is (map (λ (e : Entry). e.event) l))
      by true l = counted is e.event (map (λ (e : Entry). e.event) l)
      by false l = omega arith

  sum-more : (e : Entry) (log : List Entry) (ps : List Part) → sum (of-part (e ∷ log)) ps ≡ sum (share e.thread (one (is e.event))) ps + sum (of-part log) ps
  sum-more e log [] = omega arith
  sum-more e log (p ∷ ps) = let here = own-more e log p in let later = sum-more e log ps in omega arith

  sum-none : (ps : List Part) → sum (of-part []) ps ≡ 0
  sum-none [] = refl
  sum-none (p ∷ ps) = let rest = sum-none ps in omega arith

  abbrev entries : List Entry → ℕ
  entries log = length (filter (λ (e : Entry). is e.event) log)

  -- the entries of a phase, thread by thread
  by-thread : (phase : List Part) (piece : List Entry) → AreApart phase → list_all (λ (e : Entry). has_thread e.thread phase) piece ≡ true → entries piece ≡ sum (of-part piece) phase
  by-thread phase [] apart known = sym (sum-none phase)
  by-thread phase (e ∷ es) apart known =
      let parts = and_parts (has_thread e.thread phase) (list_all (λ (e : Entry). has_thread e.thread phase) es) known in
      let more = counted (λ (e : Entry). is e.event) e es in
      let one = one-share e.thread (one (is e.event)) phase apart parts.0 in
      let rest = by-thread phase es apart parts.1 in
      let all = sum-more e es phase in omega arith

  abbrev lines : List Line → ℕ
  lines ls = length (filter (λ (l : Line). is l.event) ls)

  module _ (ids : ℕ → ℕ) (keeps : (e : Event) → is (map_ids ids e) ≡ is e) where
    of-calls : (ls : List Line) → length (filter is (calls_of ids ls)) ≡ lines ls
    of-calls [] = refl
    of-calls (l ∷ ls) =
        let first = counted is (map_ids ids l.event) (calls_of ids ls) in
        let same = ap one (keeps l.event) in
        let later = of-calls ls in
        let all = counted (λ (l : Line). is l.event) l ls in omega arith

    of-parts : (piece : List Entry) (ps : List Part) → AllByRecursion (λ p. events_of p.thread piece ≡ calls_of ids p.lines) ps → sum (of-part piece) ps ≡ lines (phase_lines ps)
    of-parts piece [] all = refl
    of-parts piece (p ∷ ps) all =
        let here = ap (λ es. length (filter is es)) all.0 ∙ of-calls p.lines in
        let later = of-parts piece ps all.1 in
        let two = both (λ (l : Line). is l.event) p.lines (phase_lines ps) in omega arith

    of-piece : (phase : List Part) (piece : List Entry) → AreApart phase → IsWholePiece ids phase piece → entries piece ≡ lines (phase_lines phase)
    of-piece phase piece apart whole = by-thread phase piece apart whole.is_piece.threads ∙ of-parts piece phase whole.all

    of-pieces : (phases : List (List Part)) (pieces : List (List Entry)) → AllByRecursion AreApart phases → length pieces ≡ length phases → ArePieces true ids phases pieces
        → entries (flat_map (λ piece. piece) pieces) ≡ lines (script_lines phases)
    of-pieces [] [] apart count are = refl
    of-pieces [] (q ∷ qs) apart count are = absurd are
    of-pieces (p ∷ ps) [] apart count are = absurd cc
    of-pieces (p ∷ ps) (q ∷ []) apart count are =
        let here = of-piece p q apart.0 are in
        let last : ps ≡ [] = nothing ps (omega (arith, count)) in
        let two = both (λ (l : Line). is l.event) (phase_lines p) (script_lines ps) in
        let none = ap (λ ps. lines (script_lines ps)) last in
        let a = both (λ (e : Entry). is e.event) q [] in omega arith
      where
        nothing : (ps : List (List Part)) → length ps ≡ 0 → ps ≡ []
        nothing [] e = refl
        nothing (p ∷ ps) e = absurd cc
    of-pieces (p ∷ ps) (q ∷ r ∷ qs) apart count are =
        let here = of-piece p q apart.0 are.0 in
        let later = of-pieces ps (r ∷ qs) apart.1 (omega (arith, count)) are.1 in
        let two = both (λ (l : Line). is l.event) (phase_lines p) (script_lines ps) in
        let a = both (λ (e : Entry). is e.event) q (flat_map (λ piece. piece) (r ∷ qs)) in omega arith

pub as_many_calls : AsManyCalls
as_many_calls is keeps m phases log apart run =
    ap (entries is) run.cut ∙ of-pieces is run.ids (keeps run.ids) phases run.pieces apart run.count run.are
