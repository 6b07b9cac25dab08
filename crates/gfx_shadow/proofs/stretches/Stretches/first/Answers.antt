use Rattle.std.proofs.Common.{sym, ap, is_some}
use Rattle.gfx_shadow.specs.Stretches.{stretches_byte}
use Rattle.gfx_shadow.proofs.Keys.{least_there}
use Rattle.gfx_shadow.proofs.ByEnd.{first_of, none_at_all}
use Rattle.gfx_shadow.proofs.stretches.Stretches.first.Goals as goal

pub returns-in-Some-get : goal.returns-in-Some-get
unfolding stretches_byte
returns-in-Some-get c =
    let s = c.args.self.now in
    first_of s.by_end.map c.in-Some.key c.in-Some-get.stretch.now s.are_apart (sym c.in-Some-get.ensures) (sym c.in-Some.ensures) c.first.result.offset c.first.result.bytes.now c.first.ensures

pub returns-in-None-get : goal.returns-in-None-get
returns-in-None-get c =
    absurd (let a = least_there c.args.self.now.by_end.map 0 c.in-Some.key (sym c.in-Some.ensures) in let b = ap is_some c.in-None-get.ensures in cc)

pub returns-in-None : goal.returns-in-None
unfolding stretches_byte
returns-in-None c = let s = c.args.self.now in none_at_all s.by_end.map s.are_apart (sym c.in-None.ensures)
