use Rattle.std.proofs.Common.{sym, ap, ◌∙◌}
use Rattle.std.specs.Prelude.{if◌then◌else◌}
use Rattle.gfx_model.specs.Section.{Known}
use Rattle.gfx_objects.specs.Object.{detail_of}
use Rattle.gfx_state.specs.Parts.{answers_in}
use Rattle.gfx_state.specs.Sections.{kept_object, kept_under}
use Rattle.gfx_state.proofs.Writing.{wrote_as}
use Rattle.gfx_state.proofs.object.write_kept.Goals as goal

pub returns-then-keeps-clause-written : goal.returns-then-keeps-clause-written
returns-then-keeps-clause-written g c = λ es stored.
    let k = g.P.Keep.kept c.args.keep.now in
    let s : Known = record { answers = answers_in c.args.parts.now; es = es } in
    let d = detail_of c.args.object.detail in
    wrote_as (ap (λ t. if t then kept_object k s c.args.id c.args.object.parent d else kept_under k s c.args.id d) (sym c.if-keeps.true ∙ c.keeps.ensures))
    (c.write_object.ensures.written es stored)

pub returns-else-keeps-clause-written : goal.returns-else-keeps-clause-written
returns-else-keeps-clause-written g c = λ es stored.
    let k = g.P.Keep.kept c.args.keep.now in
    let s : Known = record { answers = answers_in c.args.parts.now; es = es } in
    let d = detail_of c.args.object.detail in
    wrote_as (ap (λ t. if t then kept_object k s c.args.id c.args.object.parent d else kept_under k s c.args.id d) (sym c.if-keeps.false ∙ c.keeps.ensures))
    (c.write_under.ensures.written es)
