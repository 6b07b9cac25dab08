use Rattle.std.proofs.Common.{◌≡◌, ℕ, ◌≤◌, length, take}
use Rattle.gfx_commands.specs.Recordings.{buffers}
use Rattle.gfx_commands.specs.Differing.{AreMet}
use Rattle.gfx_model.specs.Layouts.{layouts_by}
use Rattle.gfx_commands.proofs.recordings.Recordings.known_by.Given as goal

-- the buffers from `end` on do not ask for the image
abbrev pub invariant-buffers : goal.invariant-buffers
invariant-buffers l = record {
  in_range : l.end ≤ length l.cbs;
  same : (layout : ℕ → ℕ) → AreMet (buffers l.self) layout l.cbs → (AreMet (buffers l.self) layout (take l.end l.cbs))
      × (layouts_by (buffers l.self) layout l.cbs l.image ≡ layouts_by (buffers l.self) layout (take l.end l.cbs) l.image);
}

abbrev pub decreases-buffers : goal.decreases-buffers
decreases-buffers l = l.end
