use Rattle.std.proofs.Common.{◌≡◌, ◌++◌, map, take, length}
use Rattle.gfx_seats_tests.specs.Journal.{entry}
use Rattle.gfx_seats_tests.proofs.journal.Journal.append.Given as goal

abbrev pub invariant-loop-i : goal.invariant-loop-i
invariant-loop-i l = record { here : l.self.entries.items ≡ l.fn.self.entries.items ++ map (entry l.thread) (take l.i l.events); first : l.from ≡ length l.fn.self.entries.items }
