use Rattle.std.proofs.Common.{ap, length, arith, length-drop}
use Rattle.gfx_list.proofs.lines.Lines.len.Goals as goal

pub returns : goal.returns
returns c =
    let shown = ap length c.self.view_is in
    omega (arith, shown, length-drop c.self.inside.start c.self.inside.buffer.items, c.len.ensures, c.self.inside.buffer.ok.0, c.self.invariant)
