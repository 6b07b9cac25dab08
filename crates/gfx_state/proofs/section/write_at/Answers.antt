use Rattle.std.proofs.Common.{ap, sym, []}
use Rattle.std.specs.Prelude.{if◌then◌else◌}
use Rattle.std.specs.Option.{option_map_or}
use Rattle.gfx_model.specs.Section.{Known}
use Rattle.gfx_objects.specs.Object.{made}
use Rattle.gfx_state.specs.Parts.{answers_in}
use Rattle.gfx_state.specs.Sections.{kept_object, kept_under}
use Rattle.gfx_state.proofs.Writing.{wrote_as, wrote_none}
use Rattle.gfx_state.proofs.section.write_at.Goals as goal

pub returns-in-Some-clause-written : goal.returns-in-Some-clause-written
returns-in-Some-clause-written g c = λ es stored.
    let s : Known = record { answers = answers_in c.args.parts.now; es = es } in
    let k = g.P.Keep.kept c.args.keep.now in
    wrote_as (ap (λ l. option_map_or (λ o. if k.id c.args.id then kept_object k s c.args.id o.parent o.detail else kept_under k s c.args.id o.detail) l []) c.in-Some.ensures.live)
    (c.write_kept.ensures.written es (stored c.args.id (made c.in-Some.object.now) (sym c.in-Some.ensures.live)))

pub returns-in-None-clause-written : goal.returns-in-None-clause-written
returns-in-None-clause-written g c = λ es stored.
    let s : Known = record { answers = answers_in c.args.parts.now; es = es } in
    let k = g.P.Keep.kept c.args.keep.now in
    wrote_none (ap (λ l. option_map_or (λ o. if k.id c.args.id then kept_object k s c.args.id o.parent o.detail else kept_under k s c.args.id o.detail) l []) (sym c.in-None.ensures.live))
