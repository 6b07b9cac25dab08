use Rattle.std.proofs.Common.{◌≤◌, ℕ, List, [], Option, false}
use Rattle.gfx_types.specs.declared.frame.Frame.{Frame}
use Rattle.gfx_decode.specs.Reachable.{IsBehind, blocks_ahead}
use Rattle.gfx_player.specs.Walks.{Plays}
use Rattle.gfx_digest.proofs.Hashing.{Hashing}
use Rattle.gfx_digest.proofs.digest.digest_opened.Given as goal

abbrev pub invariant-frames : goal.invariant-frames
invariant-frames g l =
    let source = g.S.Source in
    record {
      going : IsBehind 0 l.player.decoder;
      hashing : (file : Option (List ℕ)) → Plays l.fn.player [] file (source.left l.fn.source)
          → (shown : List Frame) × Hashing l.fn.asked l.player l.hasher shown false file (source.left l.source);
      later : source.faults l.fn.source ≤ source.faults l.source;
    }

abbrev pub decreases-frames : goal.decreases-frames
decreases-frames g l = blocks_ahead l.player.decoder
