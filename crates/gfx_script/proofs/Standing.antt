-- Phases and threads that begin.
use Rattle.std.proofs.Common.{◌≡◌, ℕ, ◌==◌, ◌||◌, ◌&&◌, Bool, true, false, cond, List, [], ◌∷◌, ◌++◌, map, refl, sym, ap, ◌∙◌}
use Rattle.std.specs.List.{list_any}
use Rattle.std.proofs.lemmas.List.Folds.{list_any-append}
use Rattle.gfx_script_model.specs.Statements.{is_empty}
use Rattle.gfx_script_model.specs.Scripts as script
use Rattle.gfx_script_model.specs.Scripts.{reads, refuses, structure, in_order, begin_thread}
use Rattle.gfx_script.specs.Line.{line_of, part_of, phases_of}
use Rattle.gfx_script.specs.State.{open_part, open_phase, thread_stood, reading_of}
use Rattle.gfx_script.specs.Staged.{is_staged, is_outside}
use Rattle.gfx_script.specs.declared.line.Line.{Line}
use Rattle.gfx_script.specs.declared.script.Part.{Part}
use Rattle.gfx_script.specs.declared.script.Phase.{Phase}
use Rattle.gfx_script.specs.declared.reading.Stage.{Stage}
use Rattle.gfx_script.specs.declared.reading.Stage.TheVariants.{NoPhase, InPhase, InThread}
use Rattle.gfx_script.specs.declared.reading.Reading.{Reading}
use Rattle.gfx_script.proofs.Order.{phases_pushed}
use Rattle.gfx_script.proofs.Turned.{stood_in_order, thread_pushed}

-- the phase that is read
abbrev pub current : Stage → List Part → List Line → List script.Part
current stage parts lines = map part_of parts ++ open_part stage lines

open_is : (stage : Stage) (parts : List Part) (lines : List Line) → is_outside stage ≡ false → open_phase stage parts lines ≡ current stage parts lines ∷ []
open_is NoPhase parts lines h = absurd cc
open_is InPhase parts lines h = refl
open_is (InThread n) parts lines h = refl

pub none : {X : Type 0} (xs : List X) → is_empty xs ≡ true → xs ≡ []
none [] h = refl
none (x ∷ xs) h = absurd cc

pub first_part : (a b : Bool) → (a && b) ≡ true → a ≡ true
first_part true b h = refl
first_part false b h = absurd cc

-- nothing ended before the first phase
pub nothing_read : (stage : Stage) (phases : List Phase) (parts : List Part) (lines : List Line) → is_outside stage ≡ true → is_staged stage phases parts lines ≡ true
    → in_order (phases_of phases ++ open_phase stage parts lines) ≡ []
nothing_read NoPhase phases parts lines h staged =
    ap (λ (z : List Phase). in_order (phases_of z ++ [])) (none phases (first_part _ _ (first_part _ _ staged)))
nothing_read InPhase phases parts lines h staged = absurd cc
nothing_read (InThread n) phases parts lines h staged = absurd cc

begins : (n : ℕ) (r : script.Reading) (ps : List (List script.Part)) (P : List script.Part) → r.phases ≡ in_order (ps ++ P ∷ [])
    → begin_thread n r r.phases ≡ cond (list_any (λ p. p.thread == n) P) (refuses structure) (reads (record r { phases = in_order (ps ++ (P ++ record { thread = n; lines = [] } ∷ []) ∷ []) }))
begins n r ps P e =
    ap (begin_thread n r) (e ∙ phases_pushed ps P)
    ∙ ap (λ b. cond b (refuses structure) (reads (record r { phases = (record { thread = n; lines = [] } ∷ script.phase_in_order P) ∷ in_order ps }))) (stood_in_order n P)
    ∙ ap (λ (z : List (List script.Part)). cond (list_any (λ p. p.thread == n) P) (refuses structure) (reads (record r { phases = z }))) (sym (thread_pushed ps P n))

-- a thread may not begin outside a phase
pub thread_outside : (n : ℕ) (r : Reading) → is_outside r.stage ≡ true → is_staged r.stage r.phases.items r.parts.items r.lines.items ≡ true
    → begin_thread n (reading_of r) (reading_of r).phases ≡ refuses structure
thread_outside n r h staged = ap (begin_thread n (reading_of r)) (nothing_read r.stage r.phases.items r.parts.items r.lines.items h staged)

module _ (n : ℕ) (r : Reading) (inside : is_outside r.stage ≡ false) where
  now : begin_thread n (reading_of r) (reading_of r).phases
      ≡ cond (thread_stood n r) (refuses structure)
      (reads (record (reading_of r) { phases = in_order (phases_of r.phases.items ++ (current r.stage r.parts.items r.lines.items ++ record { thread = n; lines = [] } ∷ []) ∷ []) }))
  now = begins n (reading_of r) (phases_of r.phases.items) (current r.stage r.parts.items r.lines.items)
      (ap (λ (z : List (List script.Part)). in_order (phases_of r.phases.items ++ z)) (open_is r.stage r.parts.items r.lines.items inside))

  -- nor twice in a phase
  pub thread_again : thread_stood n r ≡ true → begin_thread n (reading_of r) (reading_of r).phases ≡ refuses structure
  thread_again h = now ∙ ap (λ b. cond b (refuses structure) (reads (record (reading_of r) { phases = in_order (phases_of r.phases.items ++ (current r.stage r.parts.items r.lines.items ++ record { thread = n; lines = [] } ∷ []) ∷ []) }))) h

  -- and begins otherwise
  pub thread_begins : (phases : List Phase) (parts : List Part) (lines : List Line) → thread_stood n r ≡ false → phases ≡ r.phases.items
      → map part_of parts ≡ current r.stage r.parts.items r.lines.items → lines ≡ []
      → begin_thread n (reading_of r) (reading_of r).phases ≡ reads (record { minor = r.minor; phases = in_order (phases_of phases ++ open_phase (InThread n) parts lines); names = r.names })
  thread_begins phases parts lines h same ended none =
      now ∙ ap (λ b. cond b (refuses structure) (reads (record (reading_of r) { phases = in_order (phases_of r.phases.items ++ (current r.stage r.parts.items r.lines.items ++ record { thread = n; lines = [] } ∷ []) ∷ []) }))) h
      ∙ (λ i. reads (record {
        minor = r.minor;
        phases = in_order (phases_of (sym same i) ++ (sym ended i ++ record { thread = n; lines = map line_of (sym none i) } ∷ []) ∷ []);
        names = r.names;
      }))

-- the same of the parts themselves
any_part : (n : ℕ) (parts : List Part) → list_any (λ p. p.thread == n) (map part_of parts) ≡ list_any (λ (p : Part). p.thread == n) parts
any_part n [] = refl
any_part n (p ∷ ps) = ap (λ b. (p.thread == n) || b) (any_part n ps)

-- the thread was in the phase where it ended, or where it is read
pub stood_is : (n : ℕ) (r : Reading) (ended here : Bool) → ended ≡ list_any (λ (p : Part). p.thread == n) r.parts.items → here ≡ list_any (λ p. p.thread == n) (open_part r.stage r.lines.items)
    → (ended || here) ≡ thread_stood n r
stood_is n r ended here e o =
    (λ i. e i || o i) ∙ ap (λ b. b || list_any (λ p. p.thread == n) (open_part r.stage r.lines.items)) (sym (any_part n r.parts.items))
    ∙ sym (list_any-append (λ p. p.thread == n) (map part_of r.parts.items) (open_part r.stage r.lines.items))

-- one of one
pub or_none : (b : Bool) → (b || false) ≡ b
or_none true = refl
or_none false = refl
