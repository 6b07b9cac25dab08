-- Faults of a decoder, passed on.
use Rattle.std.specs.Prelude.{⊤}
use Rattle.gfx_decode.specs.declared.fault.DecodeFault.{DecodeFault}
use Rattle.gfx_decode.specs.declared.fault.DecodeFault.TheVariants as decoder
use Rattle.gfx_player.specs.declared.fault.PlayFault.{PlayFault}
use Rattle.gfx_player.specs.declared.fault.PlayFault.TheVariants as play

-- a decoder's fault
abbrev pub of_decoder : DecodeFault → PlayFault
of_decoder (decoder.Bad fault block offset) = play.Bad fault block offset
of_decoder decoder.ReadFault = play.ReadFault
of_decoder decoder.WantMemory = play.WantMemory

-- a write failed, or there was no memory
abbrev pub IsUnwritten : PlayFault → Type 0
IsUnwritten (play.Bad fault block offset) = ⊥
IsUnwritten (play.NoSuchFrame first last) = ⊥
IsUnwritten play.ReadFault = ⊥
IsUnwritten play.SinkFault = ⊤
IsUnwritten play.WantMemory = ⊤

-- a block has a rule fault, or there was no memory
abbrev pub IsReplayFault : PlayFault → Type 0
IsReplayFault (play.Bad fault block offset) = ⊤
IsReplayFault (play.NoSuchFrame first last) = ⊥
IsReplayFault play.ReadFault = ⊥
IsReplayFault play.SinkFault = ⊥
IsReplayFault play.WantMemory = ⊤

-- a file ends at a bad block, a read failed, or there was no memory
abbrev pub IsWalkFault : PlayFault → Type 0
IsWalkFault (play.Bad fault block offset) = ⊤
IsWalkFault (play.NoSuchFrame first last) = ⊥
IsWalkFault play.ReadFault = ⊤
IsWalkFault play.SinkFault = ⊥
IsWalkFault play.WantMemory = ⊤
