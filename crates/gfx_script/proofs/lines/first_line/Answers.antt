use Rattle.std.proofs.Common.{◌<◌, length, sym, arith}
use Rattle.std.proofs.lemmas.Bool.Decides.{nat_tests}
use Rattle.gfx_script.proofs.Cuts.{line_at, line_last}
use Rattle.gfx_script.proofs.lines.first_line.Goals as goal

pub returns-in-Some : goal.returns-in-Some
returns-in-Some c = rw (c.split_at.ensures.front, c.split_at-in-Some.ensures.back) (line_at c.args.text.now c.in-Some.end (sym c.in-Some.ensures))

pub returns-in-None-2 : goal.returns-in-None-2
returns-in-None-2 c =
    let some : 0 < length c.args.text.now = grind (arith, nat_tests, c.is_empty.ensures, c.if-is_empty.false) in
    line_last c.args.text.now (sym c.in-None-2.ensures) some
