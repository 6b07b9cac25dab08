use Rattle.std.proofs.Common.{◌<◌, ◌≤◌, ◌^◌, length}
use Rattle.gfx_io.specs.Told.{IfTold}
use Rattle.gfx_decode.specs.Reachable.{IsBehind, blocks_ahead}
use Rattle.gfx_rewrite.proofs.Rewriting.{IsOfVersion, Rewriting}
use Rattle.gfx_rewrite.proofs.file.rewrite_held.Given as goal

-- the decoder follows the blocks whose texts were taken or are held
abbrev pub invariant-reading : goal.invariant-reading
invariant-reading g l =
    let source = g.S.Source in
    let sink = g.K.Sink in
    record {
      place : IsBehind 0 l.decoder;
      version : IsOfVersion l.header.minor l.decoder;
      few : length l.held.items < 2 ^ 16;
      rewriting : IfTold (source.left l.fn.source) (source.left l.source) (Rewriting (g.W.Rewriter.texts l.way) l.header.minor l.decoder (sink.taken l.fn.sink) (sink.taken l.sink) l.held.items);
      later_source : source.faults l.fn.source ≤ source.faults l.source;
      later_sink : sink.faults l.fn.sink ≤ sink.faults l.sink;
    }

abbrev pub decreases-reading : goal.decreases-reading
decreases-reading g l = blocks_ahead l.decoder
