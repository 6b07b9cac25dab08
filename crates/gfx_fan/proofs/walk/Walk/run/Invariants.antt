use Rattle.std.proofs.Common.{◌≤◌, ℕ, List, [], Option}
use Rattle.gfx_types.specs.declared.frame.Frame.{Frame}
use Rattle.gfx_decode.specs.Reachable.{blocks_ahead}
use Rattle.gfx_player.specs.Walks.{IsAtBlock}
use Rattle.gfx_fan.specs.Gathered.{Gathering}
use Rattle.gfx_fan.proofs.walk.Walk.run.Given as goal

abbrev pub invariant-groups : goal.invariant-groups
invariant-groups g l =
    let source = g.S.Source in
    let sink = g.K.Sink in
    record {
      place : IsAtBlock l.self.player;
      gathering : (file : Option (List ℕ)) → Gathering l.fn.self.player l.fn.self.album [] file (source.left l.fn.source) (sink.taken l.fn.sink) (sink.taken l.fn.sink)
          → (shown : List Frame) × Gathering l.self.player l.self.album shown file (source.left l.source) (sink.taken l.fn.sink) (sink.taken l.sink);
      later_source : source.faults l.fn.source ≤ source.faults l.source;
      later_sink : sink.faults l.fn.sink ≤ sink.faults l.sink;
    }

abbrev pub decreases-groups : goal.decreases-groups
decreases-groups g l = blocks_ahead l.self.player.decoder
