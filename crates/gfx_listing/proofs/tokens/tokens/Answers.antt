use Rattle.std.proofs.Common.{◌≤◌, length, arith}
use Rattle.gfx_listing.proofs.Cuts.{more_left}
use Rattle.gfx_listing.proofs.tokens.tokens.Goals as goal

pub returns : goal.returns
returns c =
    let long : 18 ≤ length c.tokens.tokens.items = omega (arith, c.tokens-test.false, c.tokens.invariant.long) in
    more_left (λ t. t.now) c.tokens.tokens.items c.tokens.rest.now c.args.line.now c.tokens.invariant.parts long
