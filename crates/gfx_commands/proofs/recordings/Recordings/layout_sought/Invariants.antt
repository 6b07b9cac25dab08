use Rattle.std.proofs.Common.{◌≡◌, ◌≤◌, take}
use Rattle.std.specs.Prelude.{flat_map}
use Rattle.gfx_types.specs.declared.lists.Submit.{Submit}
use Rattle.gfx_objects.specs.Objects.{answers}
use Rattle.gfx_commands.specs.Recordings.{buffers}
use Rattle.gfx_commands.specs.Differing.{AreMet}
use Rattle.gfx_model.specs.Layouts.{executed_before, layouts_by}
use Rattle.gfx_commands.proofs.recordings.Recordings.layout_sought.Given as goal

-- what is executed from the submit `end` on, up to the place, does not ask for the image
abbrev pub invariant-submits : goal.invariant-submits
invariant-submits l = record {
  in_range : l.end ≤ l.submit;
  met : AreMet (buffers l.self) (answers l.objects).layout (flat_map (λ (s : Submit). s.cbs) (take l.end l.submits));
  same : layouts_by (buffers l.self) (answers l.objects).layout (executed_before l.submits l.submit l.at) l.image
      ≡ layouts_by (buffers l.self) (answers l.objects).layout (flat_map (λ (s : Submit). s.cbs) (take l.end l.submits)) l.image;
}

abbrev pub decreases-submits : goal.decreases-submits
decreases-submits l = l.end
