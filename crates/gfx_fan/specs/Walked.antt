-- A file that is read and shown group by group.
use Rattle.std.specs.Prelude.{◌+◌, ◌<◌, ◌^◌, ℕ, List}
use Rattle.std.specs.declared.option.Option.{Option}
use Rattle.gfx_io.specs.Told.{IfTold}
use Rattle.gfx_types.specs.declared.frame.Frame.{Frame}
use Rattle.gfx_decode.specs.Reachable.{IsBehind}
use Rattle.gfx_player.specs.declared.player.Player.{Player}
use Rattle.gfx_player.specs.Ends.{IsStopped}
use Rattle.gfx_player.specs.Faults.{of_decoder}
use Rattle.gfx_player.specs.Walks.{HasAll, IsAtBlock}
use Rattle.gfx_fan.specs.declared.album.Album.{Album}
use Rattle.gfx_fan.specs.declared.group.Ending.{Ending}
use Rattle.gfx_fan.specs.declared.group.Ending.TheVariants.{Full, Clean, Stopped}
use Rattle.gfx_fan.specs.Gathered.{Gathering, IsReplaying}
use Rattle.gfx_fan.specs.Kept.{IsListed}

-- a player is before a block, with an album that has room for the frames of a group
pub record IsReady (p : Player) (k : Album) : Type 0 where
  pub place : IsAtBlock p
  pub going : IsBehind 0 p.decoder
  pub replaying : IsReplaying p
  pub listed : IsListed k
  pub room : k.screen.count + 65536 < 2 ^ 64

-- where a walk came to with a group, these frames having been shown: before a further block, to the clean end of the file, or before a block with a fault
abbrev pub Came : Ending → Player → Album → List Frame → Option (List ℕ) → Option (List ℕ) → Option (List ℕ) → Option (List ℕ) → Type 0
Came Full p k shown file left before after = Gathering p k shown file left before after
Came Clean p k shown file left before after = (was : Player) × (middle : Option (List ℕ)) × Gathering was k shown file middle before after × IfTold file left (HasAll p shown)
Came (Stopped why) p k shown file left before after =
    (was : Player) × (middle : Option (List ℕ)) × Gathering was k shown file middle before after × IfTold file left (IsStopped shown (of_decoder why))
