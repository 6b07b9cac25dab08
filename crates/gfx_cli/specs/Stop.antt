-- Why a command stops: its status, its line, and where the reason comes from.
use Rattle.std.specs.Prelude.{ℕ, List, [], ⊤}
use Rattle.gfx_decode.specs.declared.fault.DecodeFault.{DecodeFault}
use Rattle.gfx_player.specs.declared.fault.PlayFault.{PlayFault}
use Rattle.gfx_player.specs.declared.fault.PlayFault.TheVariants as play
use Rattle.gfx_player.specs.Faults as player
use Rattle.gfx_trial.specs.declared.fault.TrialFault.{TrialFault}
use Rattle.gfx_trial.specs.declared.fault.TrialFault.TheVariants as trial
use Rattle.gfx_cli.specs.declared.status.Status.{Status}
use Rattle.gfx_cli.specs.declared.status.Status.TheVariants as status
use Rattle.gfx_cli.specs.declared.stop.Stop.{Stop}
use Rattle.gfx_cli.specs.declared.stop.Stop.TheVariants.{WantMemory, BadFile, NoSuchFrame, ReadFault, WriteFault, BadListing}
use Rattle.gfx_model.specs.Text.{bad_line}
use Rattle.gfx_list.specs.declared.fault.UnlistFault.{UnlistFault}
use Rattle.gfx_list.specs.declared.fault.UnlistFault.TheVariants as unlist
use Rattle.gfx_cli.specs.Text.{bad_listing_line, no_such_frame_line, read_fault_line}

-- a fault of a walk through a file, as a command hands it on
abbrev pub of_play : PlayFault → Stop
of_play (play.Bad fault block offset) = BadFile fault block offset
of_play (play.NoSuchFrame first last) = NoSuchFrame first last
of_play play.ReadFault = ReadFault
of_play play.SinkFault = WriteFault
of_play play.WantMemory = WantMemory

-- a decoder's fault, as a command hands it on
abbrev pub of_decoder : DecodeFault → Stop
of_decoder fault = of_play (player.of_decoder fault)

-- a fault of a listing that is read, as a command hands it on
abbrev pub of_unlist : UnlistFault → Stop
of_unlist (unlist.BadListing line) = BadListing line
of_unlist unlist.ReadFault = ReadFault
of_unlist unlist.SinkFault = WriteFault
of_unlist unlist.WantMemory = WantMemory

-- a fault of a trial, as a command hands it on
abbrev pub of_trial : TrialFault → Stop
of_trial trial.SinkFault = WriteFault
of_trial trial.WantMemory = WantMemory

-- a write failed, or there was no memory
abbrev pub IsUnwritten : Stop → Type 0
IsUnwritten (BadFile fault block offset) = ⊥
IsUnwritten (NoSuchFrame first last) = ⊥
IsUnwritten ReadFault = ⊥
IsUnwritten WriteFault = ⊤
IsUnwritten WantMemory = ⊤
IsUnwritten (BadListing line) = ⊥

-- the status with which the program ends
abbrev pub status_of : Stop → Status
status_of (BadFile fault block offset) = status.BadFile
status_of (NoSuchFrame first last) = status.NoSuchFrame
status_of ReadFault = status.ReadFault
status_of WriteFault = status.WriteFault
status_of WantMemory = status.WantMemory
status_of (BadListing line) = status.BadListing

-- the line in the notes, if there is one
abbrev pub line_of : Stop → List ℕ
line_of (BadFile fault block offset) = bad_line fault block offset
line_of (NoSuchFrame first last) = no_such_frame_line first last
line_of ReadFault = read_fault_line
line_of WriteFault = []
line_of WantMemory = []
line_of (BadListing line) = bad_listing_line line
