use Rattle.std.proofs.Common.{◌++◌, ◌∷◌, [], refl, ap, ◌∙◌, arith}
use Rattle.std.specs.Prelude.{flat_map}
use Rattle.gfx_model.specs.Events.{event_of_call}
use Rattle.gfx_model.specs.Spelling.{spelling}
use Rattle.gfx_model.specs.Steps.{resources_of}
use Rattle.gfx_model.specs.Checks.{layouts_of}
use Rattle.gfx_commands.specs.declared.commands.Command.{Command}
use Rattle.gfx_commands.specs.declared.commands.Commands.TheInside.{Inside}
use Rattle.gfx_commands.specs.Commands.{events_in}
use Rattle.gfx_commands.specs.Inside.{spelled_in}
use Rattle.gfx_commands.proofs.Spelled.{its_event, are_fields}
use Rattle.gfx_commands.proofs.Added.{index_same, events_added, kept_added}
use Rattle.gfx_commands.proofs.commands.Commands.add.Goals as goal

pub invariant_of-self-2 : goal.invariant_of-self-2
invariant_of-self-2 c =
    let s = c.self.inside in
    let e = event_of_call c.args.call.now in
    let events = events_in (spelled_in s) in
    let k : Command = record { call_id = c.call_id.result; end = c.len.result } in
    let n : Inside = record { commands = c.push_reserved.new.self; fields = c.encode.new.out; uses = c.add.new.self } in
    kept_added s n k (spelling 1 e) e c.self.invariant (c.push_reserved.ensures.items ∙ ap (λ xs. xs ++ k ∷ []) c.reserve-2.ensures.items) c.in_ok-encode.ensures.ok (omega (arith, c.len.ensures, c.encode.new.out.ok))
    (its_event k.call_id (spelling 1 e) e c.call_id.ensures.id c.call_id.ensures.kind c.requires.spelled refl c.spelled_is_read.ensures)
    (are_fields k.call_id (spelling 1 e) e c.call_id.ensures.id c.call_id.ensures.kind c.requires.spelled refl c.spelled_is_read.ensures)
    (c.add.ensures (flat_map resources_of events) (flat_map layouts_of events)
    (index_same s.uses.table.map _ s.uses.agrees _ (flat_map resources_of events) (flat_map layouts_of events) c.reserve.ensures.map c.reserve.ensures.agrees c.self.invariant.index))

pub returns-clause-ok : goal.returns-clause-ok
returns-clause-ok c =
    let s = c.self.inside in
    let e = event_of_call c.args.call.now in
    let k : Command = record { call_id = c.call_id.result; end = c.len.result } in
    let n : Inside = record { commands = c.push_reserved.new.self; fields = c.encode.new.out; uses = c.add.new.self } in
    events_added s n k (spelling 1 e) e c.self.invariant (c.push_reserved.ensures.items ∙ ap (λ xs. xs ++ k ∷ []) c.reserve-2.ensures.items) c.in_ok-encode.ensures.ok (omega (arith, c.len.ensures, c.encode.new.out.ok))
    (its_event k.call_id (spelling 1 e) e c.call_id.ensures.id c.call_id.ensures.kind c.requires.spelled refl c.spelled_is_read.ensures)
    ∙ ap (λ ss. events_in ss ++ e ∷ []) c.self.view_is
