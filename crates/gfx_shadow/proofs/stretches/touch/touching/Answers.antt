use Rattle.std.proofs.Common.{◌∙◌, sym, ap, is_some, arith}
use Rattle.std.specs.FinMap as map
use Rattle.gfx_table.specs.Rows.{least_above-higher}
use Rattle.gfx_shadow.proofs.Keys.{least_there}
use Rattle.gfx_shadow.proofs.ByEnd.{clear_from, clear_none}
use Rattle.gfx_shadow.proofs.stretches.touch.touching.Goals as goal

pub returns-then-stretch-to : goal.returns-then-stretch-to
returns-then-stretch-to c =
    let m = c.args.by_end.now.map in let s = c.in-Some-get.stretch.now in
    let above = least_above-higher m c.saturating_sub-before.result c.in-Some.key (sym c.in-Some.ensures) in
    let before = c.saturating_sub-before.ensures in
    let end = c.requires.ends c.in-Some.key s (sym c.in-Some-get.ensures) in
    record {
      here = ap (map.get m) end ∙ sym c.in-Some-get.ensures;
      low = omega (arith, above, before, end);
      high = c.if-stretch-to.true;
    }

pub returns-else-stretch-to : goal.returns-else-stretch-to
returns-else-stretch-to c =
    let far = c.if-stretch-to.false in
    clear_from c.args.by_end.now.map c.saturating_sub-before.result c.args.from c.args.to c.in-Some.key c.in-Some-get.stretch.now c.requires c.saturating_sub-before.ensures
    (sym c.in-Some.ensures) (sym c.in-Some-get.ensures) (omega (arith, far))

pub returns-in-None-get : goal.returns-in-None-get
returns-in-None-get c =
    absurd (let a = least_there c.args.by_end.now.map c.saturating_sub-before.result c.in-Some.key (sym c.in-Some.ensures) in let b = ap is_some c.in-None-get.ensures in cc)

pub returns-in-None : goal.returns-in-None
returns-in-None c = clear_none c.args.by_end.now.map c.saturating_sub-before.result c.args.from c.args.to c.requires c.saturating_sub-before.ensures (sym c.in-None.ensures)
