use Rattle.std.proofs.Common.{sym, ap}
use Rattle.gfx_model.specs.Questions.{is_kept}
use Rattle.gfx_commands.specs.Recordings.{buffers}
use Rattle.gfx_state.proofs.Writing.{wrote_as, wrote_none, wrote_both, wrote_out}
use Rattle.gfx_state.proofs.Recorded.{anew_recording, anew_executable, anew_initial, anew_invalid}
use Rattle.gfx_state.proofs.pool.write_recording.Goals as goal

pub write_begun-requires-clause-kept : goal.write_begun-requires-clause-kept
write_begun-requires-clause-kept g c = ap is_kept (sym c.in-Recording.ensures)

pub write_begun-requires-in-Executable-clause-kept : goal.write_begun-requires-in-Executable-clause-kept
write_begun-requires-in-Executable-clause-kept g c = ap is_kept (sym c.in-Executable.ensures)

pub returns-in-Recording : goal.returns-in-Recording
returns-in-Recording g c = wrote_as (sym (anew_recording (buffers c.args.recordings.now) c.args.cb c.in-Recording.ensures)) c.write_begun.ensures

pub returns-in_err-write_begun-in-Executable : goal.returns-in_err-write_begun-in-Executable
returns-in_err-write_begun-in-Executable g c =
    wrote_as (sym (anew_executable (buffers c.args.recordings.now) c.args.cb c.in-Executable.ensures))
    (wrote_out _ c.from_residual.result c.in_err-write_begun-in-Executable.ensures c.from_residual.ensures.1)

pub returns-in_ok-write_begun-in-Executable : goal.returns-in_ok-write_begun-in-Executable
returns-in_ok-write_begun-in-Executable g c =
    wrote_as (sym (anew_executable (buffers c.args.recordings.now) c.args.cb c.in-Executable.ensures))
    (wrote_both _ c.in_ok-write_begun-in-Executable.ensures c.write_end.ensures)

pub returns-in-Initial : goal.returns-in-Initial
returns-in-Initial g c = wrote_none (anew_initial (buffers c.args.recordings.now) c.args.cb c.in-Initial.ensures)

pub returns-in-Invalid : goal.returns-in-Invalid
returns-in-Invalid g c = wrote_none (anew_invalid (buffers c.args.recordings.now) c.args.cb c.in-Invalid.ensures)
