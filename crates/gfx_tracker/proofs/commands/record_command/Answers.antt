use Rattle.std.proofs.Common.{◌≡◌, refl, subst, ap, ◌∙◌, OnOk}
use Rattle.gfx_types.specs.declared.names.Kind.TheVariants as kind
use Rattle.gfx_model.specs.Events.{event_of_call}
use Rattle.gfx_model.specs.Views.{is_live}
use Rattle.gfx_model.specs.Checks.{is_recording}
use Rattle.gfx_model.specs.Steps.Step.{records}
use Rattle.gfx_model.specs.After.{after}
use Rattle.gfx_tracker.specs.State.{state_answers}
use Rattle.gfx_tracker.proofs.Recorded.{command_live, command_recording, command_few, commands_room, bytes_room, after_command}
use Rattle.gfx_tracker.proofs.commands.record_command.Goals as goal

pub command_fits-requires-clause-few : goal.command_fits-requires-clause-few
command_fits-requires-clause-few c = command_few (state_answers c.args.state.now) (event_of_call c.args.call.now) c.requires.command c.requires.next

pub record-requires-clause-live : goal.record-requires-clause-live
record-requires-clause-live c =
    let v = state_answers c.args.state.now in
    ap (λ cb. is_live v kind.CommandBuffer cb) c.command_buffer.ensures ∙ command_live v (event_of_call c.args.call.now) c.requires.command c.requires.next

pub record-requires-clause-recording : goal.record-requires-clause-recording
record-requires-clause-recording c =
    let v = state_answers c.args.state.now in
    ap (λ cb. is_recording (v.buffer cb).state) c.command_buffer.ensures ∙ command_recording v (event_of_call c.args.call.now) c.requires.command c.requires.next

pub record-requires-clause-few : goal.record-requires-clause-few
record-requires-clause-few c = commands_room (state_answers c.args.state.now) c.args.state.now.recordings refl (event_of_call c.args.call.now) c.requires.command c.requires.next

pub record-requires-clause-small : goal.record-requires-clause-small
record-requires-clause-small c = bytes_room (state_answers c.args.state.now) c.args.state.now.recordings refl (event_of_call c.args.call.now) c.requires.command c.requires.next

pub returns-clause-ok : goal.returns-clause-ok
returns-clause-ok c =
    let v = state_answers c.args.state.now in
    let e = event_of_call c.args.call.now in
    subst (λ w. OnOk c.record.result (state_answers c.record.new.self ≡ w))
    (ap (λ cb. after v (records cb e)) c.command_buffer.ensures ∙ after_command v e c.requires.command) c.record.ensures.ok
