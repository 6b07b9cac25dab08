use Rattle.std.proofs.Common.{◌≡◌, ◌⊎◌, inl, inr, sym, ap, ◌∙◌, arith}
use Rattle.gfx_model.specs.Events.Event.{QueuePresentKHR}
use Rattle.gfx_model.specs.Spelling.{spelling, fields_of}
use Rattle.gfx_params.specs.Writes.{written}
use Rattle.gfx_params.proofs.Presented.{one_spelled}
use Rattle.gfx_params.proofs.encoding.write_present.Goals as goal

pub returns-then-minor-eq2 : goal.returns-then-minor-eq2
unfolding spelling fields_of
returns-then-minor-eq2 c =
    c.write.ensures.bytes
    ∙ ap (λ minor. written c.args.out.now.items c.args.at (spelling minor (QueuePresentKHR c.args.queue c.args.waits.now c.args.presents.now))) (sym c.if-minor-eq2.true)

pub returns : goal.returns
returns c =
    let one : c.args.minor ≡ 1 = by c.requires.version in
    c.write-in-len1.ensures.bytes
    ∙ ap (written c.args.out.now.items c.args.at) (sym (one_spelled c.args.queue c.args.waits.now c.items.result.now (record { swapchain = 0; index = 0 }) (omega (arith, c.in-len1.len_at_least, c.in-len1.len_below))))
    ∙ ap (λ presents. written c.args.out.now.items c.args.at (spelling 1 (QueuePresentKHR c.args.queue c.args.waits.now presents))) c.items.ensures
    ∙ ap (λ minor. written c.args.out.now.items c.args.at (spelling minor (QueuePresentKHR c.args.queue c.args.waits.now c.args.presents.now))) (sym one)
  where
    by : (c.args.minor ≡ 1) ⊎ (c.args.minor ≡ 2) → c.args.minor ≡ 1
    by (inl one) = one
    by (inr two) = absurd (c.if-minor-eq2.false two)
