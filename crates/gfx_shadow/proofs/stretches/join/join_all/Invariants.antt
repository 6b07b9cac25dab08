use Rattle.std.proofs.Common.{◌≡◌, ◌≤◌}
use Rattle.std.specs.FinMap as map
use Rattle.gfx_shadow.specs.Overlay.{either}
use Rattle.gfx_shadow.specs.Stretch.{stretch_byte}
use Rattle.gfx_shadow.specs.ByEnd.{byte_of, AreApart, Fits}
use Rattle.gfx_shadow.proofs.stretches.join.join_all.Given as goal

abbrev pub invariant-joining : goal.invariant-joining
invariant-joining l = record {
  apart : AreApart l.by_end.map;
  fits : Fits l.by_end.map l.stretch;
  spare : l.initial.by_end.spare ≤ l.by_end.spare;
  bytes : either (stretch_byte l.stretch) (byte_of l.by_end.map) ≡ either (stretch_byte l.initial.stretch) (byte_of l.initial.by_end.map);
}

abbrev pub decreases-joining : goal.decreases-joining
decreases-joining l = map.len l.by_end.map
