use Rattle.std.proofs.Common.{◌≡◌, take}
use Rattle.std.specs.Prelude.{filter}
use Rattle.gfx_model.specs.Views.{is_live}
use Rattle.gfx_objects.specs.Objects.{answers}
use Rattle.gfx_state.proofs.ids.owned_ids.Given as goal

-- those so far that are of the kind were copied
abbrev pub invariant-ids : goal.invariant-ids
invariant-ids l = l.ids.items ≡ filter (is_live (answers l.objects) l.kind) (take l.id-index l.id-items)
