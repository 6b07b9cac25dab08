use Rattle.std.proofs.Common.{◌∙◌, sym, ap, subst, arith}
use Rattle.gfx_shadow.specs.ByEnd.{byte_of, AreApart}
use Rattle.gfx_shadow.proofs.ByEnd.{more_apart, more_bytes, empty_bytes}
use Rattle.gfx_shadow.proofs.stretches.join.put_back.Goals as goal

pub returns-then-stretch-clause-apart : goal.returns-then-stretch-clause-apart
returns-then-stretch-clause-apart c =
    let some = c.if-stretch.true in
    subst AreApart (sym c.set.ensures.map) (more_apart c.args.by_end.now.map c.args.stretch c.requires.apart some (c.requires.clear some))

pub returns-then-stretch-clause-bytes : goal.returns-then-stretch-clause-bytes
returns-then-stretch-clause-bytes c =
    let some = c.if-stretch.true in
    ap byte_of c.set.ensures.map ∙ more_bytes c.args.by_end.now.map c.args.stretch c.requires.apart some (c.requires.clear some)

pub returns-else-stretch-clause-bytes : goal.returns-else-stretch-clause-bytes
returns-else-stretch-clause-bytes c = let none = c.if-stretch.false in sym (empty_bytes c.args.stretch (byte_of c.args.by_end.now.map) (omega (arith, none)))
