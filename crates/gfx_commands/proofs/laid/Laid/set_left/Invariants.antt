use Rattle.std.proofs.Common.{◌≡◌, ◌≤◌, ◌+◌, ℕ, length, take}
use Rattle.gfx_commands.specs.Laid.{laid_by, left_by}
use Rattle.gfx_commands.proofs.laid.Laid.set_left.Given as goal

-- the layouts of the images so far were set, and there is room for those of the others
abbrev pub invariant-images : goal.invariant-images
invariant-images l = record {
  whole : l.self.is_whole ≡ l.fn.self.is_whole;
  room : length l.ids ≤ l.self.table.spare + l.image-index;
  set : (layout : ℕ → ℕ) → laid_by l.self.table.map layout ≡ left_by l.uses.table.map (laid_by l.fn.self.table.map layout) (take l.image-index l.ids);
}
