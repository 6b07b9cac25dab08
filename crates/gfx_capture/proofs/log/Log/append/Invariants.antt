use Rattle.std.proofs.Common.{◌≡◌, drop}
use Rattle.gfx_script_model.specs.Runs.{log_bytes}
use Rattle.gfx_capture.specs.Entry.{entries_under}
use Rattle.gfx_capture.specs.Log.{IsSound}
use Rattle.gfx_capture.specs.Append.{Stand}
use Rattle.gfx_capture.proofs.log.Log.append.Given as goal

abbrev pub invariant-effects : goal.invariant-effects
invariant-effects l = record {
  minor : l.self.minor ≡ l.fn.self.minor;
  stand : Stand l.fn.self.entries l.thread l.buffer.events l.done l.self.entries;
  sound : IsSound l.self.minor l.self.entries;
  rest : l.rest ≡ log_bytes l.buffer.minor (entries_under 0 (drop l.done l.buffer.events));
}
