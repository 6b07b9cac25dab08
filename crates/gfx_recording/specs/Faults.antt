-- Which faults come of which step.
use Rattle.std.specs.Prelude.{⊤}
use Rattle.gfx_decode.specs.declared.fault.DecodeFault.{DecodeFault}
use Rattle.gfx_decode.specs.declared.fault.DecodeFault.TheVariants as decode
use Rattle.gfx_player.specs.declared.fault.PlayFault.{PlayFault}
use Rattle.gfx_player.specs.declared.fault.PlayFault.TheVariants as play
use Rattle.gfx_recording.specs.declared.fault.RecordingFault.{RecordingFault}
use Rattle.gfx_recording.specs.declared.fault.RecordingFault.TheVariants.{NoSuchFrame, ReadFault, SinkFault, WantMemory}

-- a read failed, or there was no memory
abbrev pub IsUnread : RecordingFault → Type 0
IsUnread ReadFault = ⊤
IsUnread WantMemory = ⊤
IsUnread _ = ⊥

-- no block is bad
abbrev pub IsUncut : DecodeFault → Type 0
IsUncut (decode.Bad fault block offset) = ⊥
IsUncut decode.ReadFault = ⊤
IsUncut decode.WantMemory = ⊤

-- why a file in memory without a bad block is not cut
abbrev pub IsCutFault : PlayFault → Type 0
IsCutFault (play.Bad fault block offset) = ⊥
IsCutFault (play.NoSuchFrame first last) = ⊤
IsCutFault play.ReadFault = ⊥
IsCutFault play.SinkFault = ⊤
IsCutFault play.WantMemory = ⊤

-- the same as the fault of a recording
abbrev pub recording_fault : PlayFault → RecordingFault
recording_fault (play.Bad fault block offset) = ReadFault
recording_fault (play.NoSuchFrame first last) = NoSuchFrame first last
recording_fault play.ReadFault = ReadFault
recording_fault play.SinkFault = SinkFault
recording_fault play.WantMemory = WantMemory
