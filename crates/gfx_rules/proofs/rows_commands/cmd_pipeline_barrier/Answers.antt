use Rattle.std.proofs.Common.{◌≡◌, ℕ, ◌∷◌, [], nat_le, true, Option, None, refl, sym, ap, ◌∙◌, arith}
use Rattle.std.proofs.lemmas.Bool.Decides.{nat_tests}
use Rattle.gfx_types.specs.declared.names.Kind.TheVariants as kind
use Rattle.gfx_types.specs.declared.names.Fault.{Fault}
use Rattle.gfx_types.specs.declared.names.Fault.TheVariants.{BadValue, LimitReached}
use Rattle.gfx_model.specs.Table as table
use Rattle.gfx_model.specs.Checks as words
use Rattle.gfx_model.specs.Limits.{max_barriers}
use Rattle.gfx_model.specs.Views.{View}
use Rattle.gfx_rules.proofs.Joined.{stops, goes_on, joins, alone}
use Rattle.gfx_rules.proofs.rows_commands.cmd_pipeline_barrier.Goals as goal

-- no list has fewer than 0 items
none : (n : ℕ) → nat_le 0 n ≡ true
none n = grind (arith, nat_tests)

-- the command buffer, and no more than so many items
few : (v : View) (cb n m : ℕ) (a b o : Option Fault) → a ≡ words.first_broken v (words.Check.live kind.CommandBuffer cb ∷ words.Check.recording cb ∷ [])
    → b ≡ words.unless (nat_le n m) LimitReached → o ≡ words.first a b
    → o ≡ words.first_broken v (words.Check.live kind.CommandBuffer cb ∷ words.Check.recording cb ∷ table.value (nat_le 0 n) ∷ table.limit (nat_le n m) ∷ [])
unfolding words.broken
few v cb n m a b o e f is =
    joins v (words.Check.live kind.CommandBuffer cb ∷ words.Check.recording cb ∷ []) (table.value (nat_le 0 n) ∷ table.limit (nat_le n m) ∷ [])
    _ a b o e (f ∙ sym (alone (words.unless (nat_le n m) LimitReached))
    ∙ ap (λ t. words.first (words.unless t BadValue) (words.first (words.unless (nat_le n m) LimitReached) None)) (sym (none n))) is refl

pub returns-in-Some : goal.returns-in-Some
unfolding table.row_of
returns-in-Some g c =
    stops (g.A.Answers.view c.args.answers.now)
    (words.Check.live kind.CommandBuffer c.args.cb ∷ words.Check.recording c.args.cb ∷ table.between 0 max_barriers c.args.barriers.now)
    _ _ _ (few _ _ _ _ _ _ _ c.command_fault.ensures c.unless-many.ensures c.in-Some.ensures) refl

pub returns-in-None : goal.returns-in-None
unfolding table.row_of
returns-in-None g c =
    goes_on (g.A.Answers.view c.args.answers.now)
    (words.Check.live kind.CommandBuffer c.args.cb ∷ words.Check.recording c.args.cb ∷ table.between 0 max_barriers c.args.barriers.now)
    _ _ _ (few _ _ _ _ _ _ _ c.command_fault.ensures c.unless-many.ensures c.in-None.ensures)
    (joins _ _ (words.Check.fits _ ∷ []) _ _ _ _ (joins _ _ _ _ _ _ _ c.resource_each-images.ensures c.barrier_values.ensures c.first-items.ensures refl) c.barriers_fit.ensures c.first.ensures refl)
    refl
