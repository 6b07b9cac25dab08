use Rattle.std.proofs.Common.{◌≡◌, ℕ, ◌<◌, true, length}
use Rattle.gfx_objects.specs.Objects.{answers}
use Rattle.gfx_commands.specs.Recordings.{buffers}
use Rattle.gfx_commands.specs.Differing.{AreMet, meets_at}
use Rattle.gfx_commands.specs.Laid.{IsLaid}
use Rattle.gfx_model.specs.Layouts.{cbs_at, executed_before, layouts_by}
use Rattle.gfx_commands.proofs.recordings.Recordings.differs_at.Given as goal

-- all buffers of the submits so far meet their layouts, and those that they leave are laid
abbrev pub invariant-submits : goal.invariant-submits
invariant-submits l = record {
  met : AreMet (buffers l.self) (answers l.objects).layout (executed_before l.all l.submit 0);
  each : (s a : ℕ) → s < l.submit → a < length (cbs_at l.all s) → meets_at (buffers l.self) (answers l.objects).layout l.all s a ≡ true;
  laid : IsLaid l.laid (answers l.objects).layout (layouts_by (buffers l.self) (answers l.objects).layout (executed_before l.all l.submit 0));
}
