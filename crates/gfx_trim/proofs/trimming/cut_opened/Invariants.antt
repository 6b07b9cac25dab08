use Rattle.std.proofs.Common.{◌≤◌, ℕ, List, [], Option}
use Rattle.gfx_model.specs.Blocks.{Whole}
use Rattle.gfx_decode.specs.Reachable.{IsBehind, blocks_ahead}
use Rattle.gfx_player.specs.Walks.{HasRead}
use Rattle.gfx_trim.proofs.Files.{Cutting}
use Rattle.gfx_trim.proofs.trimming.cut_opened.Given as goal

abbrev pub invariant-reading : goal.invariant-reading
invariant-reading g l =
    let source = g.S.Source in
    let sink = g.K.Sink in
    record {
      going : IsBehind 0 l.player.decoder;
      cutting : (file : Option (List ℕ)) → HasRead l.fn.player [] file (source.left l.fn.source)
          → (fed : List Whole) × Cutting l.fn.first l.fn.last l.player l.cutter fed file (source.left l.source) (sink.taken l.fn.sink) (sink.taken l.sink);
      later_source : source.faults l.fn.source ≤ source.faults l.source;
      later_sink : sink.faults l.fn.sink ≤ sink.faults l.sink;
    }

abbrev pub decreases-reading : goal.decreases-reading
decreases-reading g l = blocks_ahead l.player.decoder
