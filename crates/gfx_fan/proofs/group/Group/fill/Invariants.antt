use Rattle.std.proofs.Common.{◌≡◌, ◌≤◌, ◌+◌, length}
use Rattle.gfx_model.specs.Blocks.{Position}
use Rattle.gfx_decode.specs.Reachable.{IsBehind, blocks_ahead}
use Rattle.gfx_decode.specs.Reading.{ReadsSome}
use Rattle.gfx_decode.specs.Stage.{At}
use Rattle.gfx_player.specs.Walks.{IsReplayedAlike}
use Rattle.gfx_fan.specs.Groups.{IsLimited}
use Rattle.gfx_fan.proofs.Grouping.{Reading}
use Rattle.gfx_fan.proofs.group.Group.fill.Given as goal

abbrev pub invariant-reading : goal.invariant-reading
invariant-reading g l =
    let source = g.S.Source in
    let m = l.fn.player.minor in
    record {
      going : IsBehind 0 l.player.decoder;
      kept : IsReplayedAlike l.fn.player l.player;
      reading : (at : Position) → l.fn.player.decoder ≡ At m at → Reading m at l.self l.player.decoder (source.left l.fn.source) (source.left l.source);
      limited : IsLimited l.self;
      some : ReadsSome (source.left l.fn.source) (source.left l.source);
      fewer : blocks_ahead l.player.decoder + length l.self.places.items ≤ blocks_ahead l.fn.player.decoder;
      later : source.faults l.fn.source ≤ source.faults l.source;
    }

abbrev pub decreases-reading : goal.decreases-reading
decreases-reading g l = blocks_ahead l.player.decoder
