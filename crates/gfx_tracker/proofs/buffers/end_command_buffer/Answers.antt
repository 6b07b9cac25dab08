use Rattle.std.proofs.Common.{refl, ◌∙◌}
use Rattle.gfx_types.specs.declared.names.Kind.TheVariants as kind
use Rattle.gfx_model.specs.Events.Event.{EndCommandBuffer}
use Rattle.gfx_model.specs.Spelling.{id_of}
use Rattle.gfx_model.specs.Steps.Step.{finishes}
use Rattle.gfx_model.specs.Table.{place_of, row_of, checks_of}
use Rattle.gfx_model.specs.Effects.{effect_of}
use Rattle.gfx_laws.proofs.NewObjects.{all_pass}
use Rattle.gfx_tracker.specs.State.{state_answers}
use Rattle.gfx_tracker.proofs.Next.{is_live_by, after_one}
use Rattle.gfx_tracker.proofs.Recorded.{recording_by}
use Rattle.gfx_tracker.proofs.buffers.end_command_buffer.Goals as goal

pub finish-requires-clause-live : goal.finish-requires-clause-live
unfolding place_of row_of id_of
finish-requires-clause-live c =
    let v = state_answers c.args.state.now in
    is_live_by v kind.CommandBuffer c.args.cb (all_pass v (checks_of (EndCommandBuffer c.args.cb)) c.requires.passes).0

pub finish-requires-clause-recording : goal.finish-requires-clause-recording
unfolding place_of row_of id_of
finish-requires-clause-recording c =
    let v = state_answers c.args.state.now in
    recording_by v c.args.cb (all_pass v (checks_of (EndCommandBuffer c.args.cb)) c.requires.passes).1.0

pub returns : goal.returns
unfolding effect_of
returns c = c.finish.ensures ∙ after_one (state_answers c.args.state.now) (EndCommandBuffer c.args.cb) (finishes c.args.cb) refl
