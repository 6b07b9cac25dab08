use Rattle.std.proofs.Common.{◌≤◌, List, [], Option, ℕ}
use Rattle.gfx_model.specs.Blocks.{Whole}
use Rattle.gfx_decode.specs.Reachable.{IsBehind, blocks_ahead}
use Rattle.gfx_player.specs.Walks.{HasRead}
use Rattle.gfx_lean.specs.Leaner.{IsAfter}
use Rattle.gfx_lean.specs.Reading.{Leaning}
use Rattle.gfx_lean.proofs.leaning.read_range.Given as goal

abbrev pub invariant-reading : goal.invariant-reading
invariant-reading g l =
    let source = g.S.Source in
    record {
      going : IsBehind 0 l.player.decoder;
      leaning : (fed : List Whole) × (IsAfter l.leaner l.player fed × ((file : Option (List ℕ)) → HasRead l.fn.player [] file (source.left l.fn.source) → Leaning l.fn.leaner.first l.fn.leaner.last l.player l.leaner fed file (source.left l.source)));
      later : source.faults l.fn.source ≤ source.faults l.source;
    }

abbrev pub decreases-reading : goal.decreases-reading
decreases-reading g l = blocks_ahead l.player.decoder
