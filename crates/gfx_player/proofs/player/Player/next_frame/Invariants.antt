use Rattle.std.proofs.Common.{◌≡◌, ◌≤◌, ℕ, List, Option}
use Rattle.gfx_types.specs.declared.frame.Frame.{Frame}
use Rattle.gfx_decode.specs.Reachable.{IsBehind, blocks_ahead}
use Rattle.gfx_player.specs.Walks.{Plays}
use Rattle.gfx_player.proofs.player.Player.next_frame.Given as goal

abbrev pub invariant-reading : goal.invariant-reading
invariant-reading g l =
    let source = g.S.Source in
    record {
      going : IsBehind 0 l.self.decoder;
      plays : (shown : List Frame) (file : Option (List ℕ)) → Plays l.fn.self shown file (source.left l.fn.source) → Plays l.self shown file (source.left l.source);
      minor : l.self.minor ≡ l.fn.self.minor;
      fewer : blocks_ahead l.self.decoder ≤ blocks_ahead l.fn.self.decoder;
      later : source.faults l.fn.source ≤ source.faults l.source;
    }

abbrev pub decreases-reading : goal.decreases-reading
decreases-reading g l = blocks_ahead l.self.decoder
