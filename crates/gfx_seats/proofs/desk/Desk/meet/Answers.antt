use Rattle.gfx_seats.proofs.Meets.{both-met}
use Rattle.gfx_seats.proofs.desk.Desk.meet.Goals as goal

pub returns-clause-other : goal.returns-clause-other
returns-clause-other g c = both-met c.args.one.now.token.me c.args.other.now.token.me c.tell.new.from.me c.tell.new.to.me c.tell-2.new.to.me c.tell-2.new.from.me c.tell.ensures.to c.tell.ensures.from c.tell-2.ensures.to c.tell-2.ensures.from c.tell.ensures.told
