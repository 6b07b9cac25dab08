use Rattle.std.proofs.Common.{◌<◌, take, length}
use Rattle.gfx_capture.specs.ThreadBuffer.{max_events}
use Rattle.gfx_recorder.specs.Ids.{calls_in}
use Rattle.gfx_recorder.specs.Work.{Puts}
use Rattle.gfx_recorder.proofs.worker.Worker.run_lines.Given as goal

-- the calls of the lines so far were put, and there is room for one more
abbrev pub invariant-lines : goal.invariant-lines
invariant-lines g l = record {
  puts : Puts l.fn.self (calls_in l.table (take l.line-index l.lines)) l.self;
  room : length l.self.buffer.events < max_events;
}
