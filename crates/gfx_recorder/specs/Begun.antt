-- Workers that have done nothing.
use Rattle.std.specs.Prelude.{ℕ, []}
use Rattle.gfx_seats.specs.declared.seat.Seat.{Seat}
use Rattle.gfx_script_model.specs.Runs.{Entry}
use Rattle.gfx_capture.specs.ThreadBuffer.{Buffered}
use Rattle.gfx_capture.specs.declared.answer.Receipt.{Receipt}
use Rattle.gfx_capture.specs.declared.answer.AppendFault.{AppendFault}
use Rattle.gfx_capture.specs.Log.{Logged}
use Rattle.gfx_capture.specs.contracts.log.LogGrows.TheImpl.{ghosts}
use Rattle.gfx_recorder.specs.declared.end.End.TheVariants.{All}
use Rattle.gfx_recorder.specs.declared.worker.Worker.{Worker}

-- a pass of a capture
abbrev pub APass : Type 0
APass = Seat Logged Entry Buffered Receipt AppendFault ghosts

-- the worker of a pass, for a log of version m
abbrev pub new_worker : ℕ → APass → Worker
new_worker m pass = record { pass = pass; buffer = record { minor = m; events = [] }; done = 0; end = All; put = 0; answered = 0 }
