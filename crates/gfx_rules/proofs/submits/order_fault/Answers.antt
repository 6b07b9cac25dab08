use Rattle.std.proofs.Common.{◌∙◌, ap, flat_map}
use Rattle.gfx_types.specs.declared.names.Fault.TheVariants.{CommandState}
use Rattle.gfx_model.specs.Checks as words
use Rattle.gfx_rules.proofs.Joined.{ordered}
use Rattle.gfx_rules.proofs.submits.order_fault.Goals as goal

pub returns : goal.returns
returns g c = let v = g.A.Answers.view c.args.answers.now in
    c.first.ensures ∙ ordered v CommandState (words.is_distinct (flat_map (λ s. s.cbs) c.args.submits.now)) (words.turns_of c.args.submits.now c.args.fence) _ _
    (c.unless-once.ensures ∙ ap (λ b. words.unless b CommandState) (c.are_submitted_once.ensures ∙ ap (λ xs. words.is_distinct (flat_map (λ s. s.cbs) xs)) c.items.ensures)) c.turns_fault.ensures
