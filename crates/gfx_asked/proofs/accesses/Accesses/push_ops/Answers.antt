use Rattle.std.proofs.Common.{sym, subst}
use Rattle.std.specs.List.{AllByRecursion}
use Rattle.gfx_asked.specs.Accesses.{IsNear}
use Rattle.gfx_asked.proofs.Near.{more_near}
use Rattle.gfx_asked.proofs.accesses.Accesses.push_ops.Goals as goal

pub invariant_of-self-in_default : goal.invariant_of-self-in_default
invariant_of-self-in_default c =
    subst (AllByRecursion IsNear) (sym c.in_default.ensures.ok) (more_near c.args.given c.self.inside.items.items c.args.ops.now c.self.invariant c.requires)
