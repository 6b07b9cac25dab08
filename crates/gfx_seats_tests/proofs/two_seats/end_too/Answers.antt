use Rattle.std.proofs.Common.{ap, ◌∙◌}
use Rattle.gfx_seats_tests.specs.Journal.{named_ids}
use Rattle.gfx_seats_tests.proofs.Journals.{ended_more}
use Rattle.gfx_seats_tests.proofs.two_seats.end_too.Goals as goal

pub returns : goal.returns
returns c = ap named_ids c.in_ok-push.ensures.items ∙ ended_more c.args.batch.now.events.items c.args.id
