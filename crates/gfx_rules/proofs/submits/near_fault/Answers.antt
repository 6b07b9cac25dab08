use Rattle.std.proofs.Common.{◌∙◌, ap, refl}
use Rattle.gfx_types.specs.declared.names.Kind.TheVariants as kind
use Rattle.gfx_model.specs.Table as table
use Rattle.gfx_model.specs.Checks as words
use Rattle.gfx_rules.proofs.Joined.{joins}
use Rattle.gfx_rules.proofs.submits.near_fault.Goals as goal

pub returns : goal.returns
returns g c = let v = g.A.Answers.view c.args.answers.now in let s = c.args.submit.now in
    joins v _ (table.near_each kind.Semaphore c.args.queue s.signals) _ _ _ _
    (joins v (table.near_each kind.Semaphore c.args.queue s.waits) (table.near_each kind.CommandBuffer c.args.queue s.cbs) _ _ _ _
    (c.near_each-waits.ensures ∙ ap (λ xs. words.first_broken v (table.near_each kind.Semaphore c.args.queue xs)) c.items.ensures)
    (c.near_each-cbs.ensures ∙ ap (λ xs. words.first_broken v (table.near_each kind.CommandBuffer c.args.queue xs)) c.items-2.ensures)
    c.first.ensures refl)
    (c.near_each-signals.ensures ∙ ap (λ xs. words.first_broken v (table.near_each kind.Semaphore c.args.queue xs)) c.items-3.ensures)
    c.first-2.ensures refl
