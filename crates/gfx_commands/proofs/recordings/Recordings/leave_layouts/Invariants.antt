use Rattle.std.proofs.Common.{◌≡◌, take}
use Rattle.gfx_objects.specs.Objects.{answers}
use Rattle.gfx_commands.specs.Laid.{left_by}
use Rattle.gfx_commands.proofs.recordings.Recordings.leave_layouts.Given as goal

-- the layouts of the images so far were set
abbrev pub invariant-images : goal.invariant-images
invariant-images l = record {
  set : answers l.objects ≡ record (answers l.fn.objects) { layout = left_by l.uses.table.map (answers l.fn.objects).layout (take l.image-index l.image-items) };
  spare : l.objects.spare ≡ l.fn.objects.spare;
}
