-- Threads at a capture.
use Rattle.std.specs.Prelude.{◌≡◌, []}
use Rattle.gfx_script_model.specs.Runs.{Entry}
use Rattle.gfx_seats.specs.declared.stage.Stage.TheVariants.{Idle}
use Rattle.gfx_seats.specs.declared.hand.Hand.{Hand}
use Rattle.gfx_seats.specs.Seat.{desk_of}
use Rattle.gfx_seats.specs.Desk.{desk_id}
use Rattle.gfx_capture.specs.declared.capture.Capture.{Capture}
use Rattle.gfx_callers.specs.declared.caller.Caller.{Caller}

-- the caller has a pass of this capture
abbrev pub CallsAt : Caller → Capture → Type 0
CallsAt caller capture = desk_of caller.pass ≡ desk_id capture.desk

-- the pass of a thread at a new capture of minor version 1
pub record IsReady (h : Hand Entry) : Type 0 where
  pub stage : h.stage ≡ Idle
  pub kind : h.kind ≡ 1
  pub drawn : h.drawn ≡ []
