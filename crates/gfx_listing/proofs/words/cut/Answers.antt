use Rattle.std.proofs.Common.{sym}
use Rattle.gfx_listing.proofs.Cuts.{cut_at, cut_not}
use Rattle.gfx_listing.proofs.words.cut.Goals as goal

pub returns-in-Some : goal.returns-in-Some
returns-in-Some c =
    rw (c.split_at.ensures.front, c.split_at-in-Some.ensures.back) (cut_at c.args.byte c.args.text.now c.in-Some.place (sym c.in-Some.ensures)).0

pub returns-in-None : goal.returns-in-None
returns-in-None c = cut_not c.args.byte c.args.text.now (sym c.in-None.ensures)
