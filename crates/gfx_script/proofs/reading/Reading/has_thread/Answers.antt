use Rattle.std.proofs.Common.{ap, sym, ◌∙◌, refl, ◌==◌, true, false}
use Rattle.std.specs.List.{list_any}
use Rattle.gfx_script.proofs.Standing.{stood_is}
use Rattle.gfx_script.proofs.reading.Reading.has_thread.Goals as goal

pub returns-then-any_has : goal.returns-then-any_has
returns-then-any_has c =
    stood_is c.args.thread c.args.self.now true _ (sym c.if-any_has.true ∙ c.any_has.ensures ∙ ap (list_any (λ p. p.thread == c.args.thread)) c.deref.ensures.value) refl

pub returns : goal.returns
returns c =
    stood_is c.args.thread c.args.self.now false c.is_open.result (sym c.if-any_has.false ∙ c.any_has.ensures ∙ ap (list_any (λ p. p.thread == c.args.thread)) c.deref.ensures.value)
    c.is_open.ensures
