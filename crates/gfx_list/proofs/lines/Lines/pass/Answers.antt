use Rattle.std.proofs.Common.{ap, length, arith, length-drop}
use Rattle.gfx_list.proofs.lines.Lines.pass.Goals as goal

pub overflow_add-self : goal.overflow_add-self
overflow_add-self c =
    let shown = ap length c.self.view_is in
    let long = length-drop c.self.inside.start c.self.inside.buffer.items in
    let ok = c.self.inside.buffer.ok in
    omega (arith, shown, long, c.requires, c.self.invariant, ok.0, ok.1, c.self.inside.buffer.small)
