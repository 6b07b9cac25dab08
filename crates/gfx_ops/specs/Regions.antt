-- Which regions, windows and shapes stay within the numbers of a copy.
use Rattle.std.specs.Prelude.{◌≤◌}
use Rattle.gfx_types.specs.declared.lists.BufferRegion.{BufferRegion}
use Rattle.gfx_types.specs.declared.lists.ImageRegion.{ImageRegion}
use Rattle.gfx_types.specs.declared.lists.MixedRegion.{MixedRegion}
use Rattle.gfx_model.specs.Limits.{max_extent, max_live_bytes}

-- both offsets of a region between buffers are within the limit on live bytes
pub record IsNearRegion (r : BufferRegion) : Type 0 where
  pub from : r.from ≤ max_live_bytes
  pub to : r.to ≤ max_live_bytes

-- a region between images begins within the greatest extent
pub record IsImageRegion (r : ImageRegion) : Type 0 where
  pub from_x : r.from_x ≤ max_extent
  pub from_y : r.from_y ≤ max_extent
  pub to_x : r.to_x ≤ max_extent
  pub to_y : r.to_y ≤ max_extent

-- a region between a buffer and an image begins within both
pub record IsMixedRegion (r : MixedRegion) : Type 0 where
  pub offset : r.offset ≤ max_live_bytes
  pub x : r.x ≤ max_extent
  pub y : r.y ≤ max_extent
