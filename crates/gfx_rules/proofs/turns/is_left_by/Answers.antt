use Rattle.std.proofs.Common.{◌∙◌, ap}
use Rattle.gfx_model.specs.Checks as words
use Rattle.gfx_rules.proofs.Signals.{submit_signals, submit_waits, submit_leaves}
use Rattle.gfx_rules.proofs.turns.is_left_by.Goals as goal

pub returns-then-is_among : goal.returns-then-is_among
returns-then-is_among c = λ f h.
    submit_signals f c.args.submit.now c.args.id _ (c.is_among.ensures ∙ ap (words.is_among c.args.id) c.items.ensures) c.if-is_among.true

pub returns-then-not-is_among : goal.returns-then-not-is_among
returns-then-not-is_among c = λ f h.
    submit_leaves f c.args.submit.now c.args.id _ _ _ (c.is_among.ensures ∙ ap (words.is_among c.args.id) c.items.ensures) c.if-is_among.false
    (c.is_among-else-is_among.ensures ∙ ap (words.is_among c.args.id) c.items-else-is_among.ensures) c.if-not-is_among.true h

pub returns-else-not-is_among : goal.returns-else-not-is_among
returns-else-not-is_among c = λ f h.
    submit_waits f c.args.submit.now c.args.id _ _ (c.is_among.ensures ∙ ap (words.is_among c.args.id) c.items.ensures) c.if-is_among.false
    (c.is_among-else-is_among.ensures ∙ ap (words.is_among c.args.id) c.items-else-is_among.ensures) c.if-not-is_among.false
