use Rattle.std.proofs.Common.{◌∙◌, ◌∷◌, [], ap}
use Rattle.gfx_model.specs.Checks as words
use Rattle.gfx_rules.specs.Turns.{signals_behind}
use Rattle.gfx_rules.proofs.Fetched.{differ, one}
use Rattle.gfx_rules.proofs.Executed.{no_fence, a_fence}
use Rattle.gfx_rules.proofs.turns.turns_fault.Goals as goal

pub returns-then-fence-eq0 : goal.returns-then-fence-eq0
returns-then-fence-eq0 g c =
    c.submits_fault-all.ensures ∙ no_fence (g.A.Answers.view c.args.answers.now) c.args.submits.now c.args.fence (one c.args.fence 0 c.if-fence-eq0.true)

pub returns-else-fence-eq0 : goal.returns-else-fence-eq0
returns-else-fence-eq0 g c =
    c.first.ensures ∙ a_fence (g.A.Answers.view c.args.answers.now) c.args.submits.now c.args.fence _ _ (differ c.args.fence 0 c.if-fence-eq0.false)
    c.submits_fault-all.ensures
    (λ m. c.signals_fault.ensures m ∙ ap (λ xs. let v = g.A.Answers.view c.args.answers.now in words.turns_fault v (signals_behind v.signalled xs) m (words.Turn.signal c.args.fence ∷ [])) c.items.ensures)
