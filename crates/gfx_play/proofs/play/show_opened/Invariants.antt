use Rattle.std.proofs.Common.{◌≤◌, ℕ, List, [], Option, false}
use Rattle.gfx_types.specs.declared.frame.Frame.{Frame}
use Rattle.gfx_decode.specs.Reachable.{IsBehind, blocks_ahead}
use Rattle.gfx_player.specs.Walks.{Plays}
use Rattle.gfx_play.proofs.Showing.{Showing}
use Rattle.gfx_play.proofs.play.show_opened.Given as goal

abbrev pub invariant-frames : goal.invariant-frames
invariant-frames g l =
    let source = g.S.Source in
    let sink = g.K.Sink in
    record {
      going : IsBehind 0 l.player.decoder;
      showing : (file : Option (List ℕ)) → Plays l.fn.player [] file (source.left l.fn.source)
          → (shown : List Frame) × Showing l.fn.asked l.pixels l.player l.screen shown false file (source.left l.source) (sink.taken l.fn.sink) (sink.taken l.sink);
      later_source : source.faults l.fn.source ≤ source.faults l.source;
      later_sink : sink.faults l.fn.sink ≤ sink.faults l.sink;
    }

abbrev pub decreases-frames : goal.decreases-frames
decreases-frames g l = blocks_ahead l.player.decoder
