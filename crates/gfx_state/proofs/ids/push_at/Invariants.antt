use Rattle.std.proofs.Common.{◌≡◌, ◌++◌, take}
use Rattle.std.specs.Prelude.{filter}
use Rattle.gfx_objects.specs.Objects.{answers}
use Rattle.gfx_state.proofs.Listing.{is_at}
use Rattle.gfx_state.proofs.ids.push_at.Given as goal

-- those of the ids so far are appended
abbrev pub invariant-ids : goal.invariant-ids
invariant-ids l = l.images.items ≡ l.fn.images.items ++ filter (is_at (answers l.objects) l.index) (take l.id-index l.ids)
