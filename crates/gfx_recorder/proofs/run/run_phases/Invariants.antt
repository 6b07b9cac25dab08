use Rattle.std.proofs.Common.{◌≡◌, length, take}
use Rattle.gfx_script.specs.Line.{phases_of}
use Rattle.gfx_seats.specs.Desk.{desk_id}
use Rattle.gfx_recorder.specs.Progress.{Reached}
use Rattle.gfx_recorder.proofs.run.run_phases.Given as goal

-- the phases so far are done
abbrev pub invariant-phases : goal.invariant-phases
invariant-phases g l = record {
  len : length l.workers ≡ length l.fn.workers;
  reached : Reached l.minor (desk_id l.capture.desk) (length l.fn.workers) (take l.phase-index (phases_of l.phases)) l.table.items l.workers;
}
