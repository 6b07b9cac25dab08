use Rattle.std.proofs.Common.{◌==◌, ap, arith}
use Rattle.std.proofs.lemmas.Bool.Decides.{nat_tests}
use Rattle.gfx_model.specs.Steps.{kind_of, kind_number}
use Rattle.gfx_model.specs.Questions.{passes}
use Rattle.gfx_objects.proofs.objects.Objects.is_live.Goals as goal

pub returns-in-Some : goal.returns-in-Some
returns-in-Some c =
    let live = ap (passes (λ o. kind_number (kind_of o.detail) == kind_number c.args.kind)) c.in-Some.ensures.live in
    let same = ap kind_number c.in-Some.ensures.sound.same_kind in
    let its = c.number_of.ensures.number in
    let asked = c.number_of-in-Some.ensures.number in
    grind (arith, nat_tests, live, same, its, asked)

pub returns-in-None : goal.returns-in-None
returns-in-None c = ap (passes (λ o. kind_number (kind_of o.detail) == kind_number c.args.kind)) c.in-None.ensures.live
