use Rattle.std.proofs.Common.{◌≤◌, ◌+◌, ℕ, List, Option}
use Rattle.gfx_model.specs.Blocks.{Position}
use Rattle.gfx_decode.specs.Stage.{At}
use Rattle.gfx_player.specs.Walks.{IsReadAlike}
use Rattle.gfx_fan.specs.Gathered.{IsGathered, IsReplaying}
use Rattle.gfx_fan.specs.Groups.{HasBlocks, Remains, held}
use Rattle.gfx_fan.specs.Kept.{IsListed}
use Rattle.gfx_fan.proofs.feed.feed_blocks.Given as goal

abbrev pub invariant-feeding : goal.invariant-feeding
invariant-feeding g l =
    let sink = g.K.Sink in
    let m = l.fn.player.minor in
    record {
      read : IsReadAlike l.fn.player l.player;
      replaying : IsReplaying l.player;
      ready : IsListed l.album;
      count : l.album.screen.count ≤ l.fn.album.screen.count + l.index;
      later : sink.faults l.fn.sink ≤ sink.faults l.sink;
      remains : (at end : Position) → HasBlocks l.group at end → (file middle before : Option (List ℕ)) → IsGathered l.fn.player l.fn.album (At m at) file (held l.group.bytes.items middle) before (sink.taken l.fn.sink) →
          Remains m l.player l.album l.group l.index end file middle before (sink.taken l.sink);
    }
