-- What is known of the lists of a call once their limits are met.
use Rattle.std.proofs.Common.{◌≡◌, ℕ, zero, suc, ◌≤◌, List, [], ◌∷◌, ◌++◌, length, flat_map, Option, Some, None, nat_le, refl, sym, arith}
use Rattle.std.proofs.lemmas.Bool.{leb-true}
use Rattle.gfx_types.specs.declared.lists.Submit.{Submit}
use Rattle.gfx_types.specs.declared.names.Fault.{Fault}
use Rattle.gfx_types.specs.declared.names.Kind.TheVariants as kind
use Rattle.gfx_model.specs.Limits.{max_submits, max_semaphores, max_submit_buffers}
use Rattle.gfx_model.specs.Views.{View}
use Rattle.gfx_model.specs.Checks.{Check, first, first_broken, broken}
use Rattle.gfx_model.specs.Checks.Check.{live}
use Rattle.gfx_model.specs.Layouts.{cbs_at}
use Rattle.gfx_model.specs.Table.{between, value, limit, submit_lengths}
use Rattle.gfx_model.proofs.Covered.{unless_none}
use Rattle.gfx_rules.specs.Turns.{AreFew}

neither : (a b : Option Fault) → None ≡ first a b → (None ≡ a) × (None ≡ b)
neither None b e = (refl, e)
neither (Some f) b e = absurd cc

-- a list is as short as its limit says, and the checks behind it are not broken either
bounded : {X : Type 0} (v : View) (most : ℕ) (xs : List X) (rest : List Check) → None ≡ first_broken v (between 0 most xs ++ rest) → (length xs ≤ most) × (None ≡ first_broken v rest)
unfolding broken
bounded v most xs rest e =
    let upper = limit (nat_le (length xs) most) in
    let parts = neither (broken v upper) (first_broken v rest) (neither (broken v (value (nat_le 0 (length xs)))) (first_broken v (upper ∷ rest)) e).1 in
    (leb-true (length xs) most (unless_none _ _ (sym parts.0)), parts.1)

few_in : (v : View) (s : Submit) (ss : List Submit) → None ≡ first_broken v (flat_map submit_lengths (s ∷ ss)) → (length s.cbs ≤ max_submit_buffers) × (None ≡ first_broken v (flat_map submit_lengths ss))
few_in v s ss e =
    let rest = flat_map submit_lengths ss in
    let waits = bounded v max_semaphores s.waits (between 0 max_submit_buffers s.cbs ++ between 0 max_semaphores s.signals ++ rest) e in
    let cbs = bounded v max_submit_buffers s.cbs (between 0 max_semaphores s.signals ++ rest) waits.1 in
    let signals = bounded v max_semaphores s.signals rest cbs.1 in
    (cbs.0, signals.1)

few_buffers : (v : View) (submits : List Submit) → None ≡ first_broken v (flat_map submit_lengths submits) → (submit : ℕ) → length (cbs_at submits submit) ≤ max_submit_buffers
few_buffers v [] e submit = omega arith
few_buffers v (s ∷ ss) e zero = (few_in v s ss e).0
few_buffers v (s ∷ ss) e (suc i) = few_buffers v ss (few_in v s ss e).1 i

-- the checks of a submit on how many of each there are
abbrev pub front_of : ℕ → List Submit → List Check
front_of queue submits = live kind.Queue queue ∷ between 0 max_submits submits ++ flat_map submit_lengths submits

pub are_few : (v : View) (queue : ℕ) (submits : List Submit) → None ≡ first_broken v (front_of queue submits) → AreFew submits
are_few v queue submits e =
    let rest = flat_map submit_lengths submits in
    let count = bounded v max_submits submits rest (neither (broken v (live kind.Queue queue)) (first_broken v (between 0 max_submits submits ++ rest)) e).1 in
    record { all = count.0; each = few_buffers v submits count.1 }
