use Rattle.std.proofs.Common.{◌≡◌, ℕ, ◌<◌, true}
use Rattle.gfx_objects.specs.Objects.{answers}
use Rattle.gfx_commands.specs.Recordings.{buffers}
use Rattle.gfx_commands.specs.Differing.{AreMet, meets_at}
use Rattle.gfx_commands.specs.Laid.{IsLaid}
use Rattle.gfx_model.specs.Layouts.{executed_before, layouts_by}
use Rattle.gfx_commands.proofs.recordings.Recordings.differs_in.Given as goal

-- all buffers before the place meet their layouts, and those that they leave are laid
abbrev pub invariant-buffers : goal.invariant-buffers
invariant-buffers l = record {
  met : AreMet (buffers l.self) (answers l.objects).layout (executed_before l.submits l.submit l.at);
  each : (a : ℕ) → a < l.at → meets_at (buffers l.self) (answers l.objects).layout l.submits l.submit a ≡ true;
  laid : IsLaid l.laid (answers l.objects).layout (layouts_by (buffers l.self) (answers l.objects).layout (executed_before l.submits l.submit l.at));
}
