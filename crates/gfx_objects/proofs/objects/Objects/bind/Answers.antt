use Rattle.std.proofs.Common.{ap, sym, ◌∙◌}
use Rattle.std.proofs.lemmas.Result.{on_ok_weaker, on_err_weaker}
use Rattle.gfx_table.specs.IdSet.{holds}
use Rattle.gfx_objects.proofs.Resources.{resource_live}
use Rattle.gfx_objects.proofs.Resting.{new_rests}
use Rattle.gfx_objects.proofs.Steps.{bound, answers_same}
use Rattle.gfx_objects.proofs.objects.Objects.bind.Goals as goal

pub rest_on-requires-clause-rests : goal.rest_on-requires-clause-rests
rest_on-requires-clause-rests c =
    let k = c.args.self.now in
    let some = sym c.get.ensures.row ∙ sym c.in-Some.ensures in
    let e = c.bound_to-detail.ensures in
    new_rests k c.get.ensures.all c.args.id c.in-Some.object some c.args.memory c.args.offset c.requires.memory c.requires.inside
    c.bound_to-detail.result e.parameters (e.bound (resource_live k c.args.id c.in-Some.object some c.requires.resource))

pub returns-clause-ok : goal.returns-clause-ok
returns-clause-ok c =
    let k = c.args.self.now in
    let some = sym c.get.ensures.row ∙ sym c.in-Some.ensures in
    let e = c.bound_to-detail.ensures in
    on_ok_weaker c.rest_on.result
    (λ rows. bound k c.rest_on.new.self c.args.id c.in-Some.object c.bound_to-detail.result rows c.rest_on.ensures.ended some e.parameters
    c.args.memory c.args.offset (e.bound (resource_live k c.args.id c.in-Some.object some c.requires.resource)) e.mapped e.layout)
    c.rest_on.ensures.ok

pub returns-clause-err : goal.returns-clause-err
returns-clause-err c =
    on_err_weaker c.rest_on.result (λ rows. answers_same c.args.self.now c.rest_on.new.self rows (ap holds c.rest_on.ensures.ended)) c.rest_on.ensures.err
