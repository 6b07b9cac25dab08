use Rattle.std.proofs.Common.{◌++◌, ◌∙◌, ap, map, take}
use Rattle.gfx_seats_tests.specs.Journal.{entry}
use Rattle.gfx_seats_tests.proofs.Journals.{adds-first}
use Rattle.gfx_seats_tests.proofs.journal.JournalGrows.grow.Goals as goal

pub returns-clause-added : goal.returns-clause-added
returns-clause-added c = let a = c.append.ensures in
    adds-first c.args.self.now.entries.items _ c.args.thread a.0 c.args.work.now.events.items (a.1 ∙ ap (λ l. c.args.self.now.entries.items ++ map (entry c.args.thread) (take a.0 l)) c.deref.ensures.value)
