use Rattle.std.proofs.Common.{◌≤◌, ◌+◌, ◌-◌, length}
use Rattle.std.specs.Io.KnownBytes.{Consumes}
use Rattle.gfx_model.specs.Limits.{max_script}
use Rattle.gfx_recording.proofs.text.read_text.Given as goal

-- what was read of the source is the text so far
abbrev pub invariant-pieces : goal.invariant-pieces
invariant-pieces g l =
    let source = g.S.Source in
    record {
      text : Consumes (source.left l.fn.source) (source.left l.source) l.text.items;
      few : length l.text.items ≤ max_script + 1;
      later : source.faults l.fn.source ≤ source.faults l.source;
    }

abbrev pub decreases-pieces : goal.decreases-pieces
decreases-pieces g l = max_script + 1 - length l.text.items
