use Rattle.std.proofs.Common.{◌≡◌, ℕ, true, false, not, take}
use Rattle.gfx_model.specs.Checks.{is_among}
use Rattle.gfx_objects.specs.Objects.{answers}
use Rattle.gfx_commands.specs.Uses.{use_of, suits}
use Rattle.gfx_commands.specs.Recordings.{buffers}
use Rattle.gfx_commands.specs.Differing.{layouts_at}
use Rattle.gfx_commands.proofs.recordings.Recordings.image_differs.Given as goal

-- no image so far differs
abbrev pub invariant-images : goal.invariant-images
invariant-images l = (x : ℕ) → is_among x (take l.image-index l.image-items) ≡ true
    → not (suits (use_of l.uses.table.map x).wanted (layouts_at (buffers l.self) (answers l.objects).layout l.place x)) ≡ false
