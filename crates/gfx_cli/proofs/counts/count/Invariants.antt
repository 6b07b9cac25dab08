use Rattle.std.proofs.Common.{◌≤◌}
use Rattle.gfx_io.specs.Told.{IfTold}
use Rattle.gfx_decode.specs.Reachable.{IsBehind, blocks_ahead}
use Rattle.gfx_cli.proofs.Counting.{Counted}
use Rattle.gfx_cli.proofs.counts.count.Given as goal

-- the decoder follows the blocks that were counted
abbrev pub invariant-loop-buffer : goal.invariant-loop-buffer
invariant-loop-buffer g l =
    let source = g.S.Source in
    record {
      place : IsBehind l.counts.blocks l.decoder;
      counted : IfTold (source.left l.fn.source) (source.left l.source) (Counted l.counts l.decoder);
      calls : l.counts.calls ≤ l.counts.blocks;
      frames : l.counts.frames ≤ l.counts.blocks;
      later : source.faults l.fn.source ≤ source.faults l.source;
    }

abbrev pub decreases-loop-buffer : goal.decreases-loop-buffer
decreases-loop-buffer g l = blocks_ahead l.decoder
