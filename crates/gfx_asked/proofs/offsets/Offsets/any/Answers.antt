use Rattle.std.proofs.Common.{◌≡◌, ℕ, ◌+◌, ◌<◌, ◌≤◌, min, nat_lt, Bool, true, false, refl, sym, arith}
use Rattle.std.proofs.lemmas.Bool.Decides.{nat_tests}
use Rattle.gfx_asked.specs.Bounds.{holds}
use Rattle.gfx_asked.proofs.Places.{any_at, none_among}
use Rattle.gfx_asked.proofs.offsets.Offsets.any.Goals as goal

-- what holds of no offset up to the last of 64 bits, and of none from there on
none_at : (t : ℕ → Bool) (end to at j : ℕ) → to ≡ min end 18446744073709551615 → to ≤ at → j < end → (j < at → t j ≡ false) → (18446744073709551616 ≤ j + 1 → t j ≡ false) → t j ≡ false
none_at t end to at j is high inside before behind = by (nat_lt j at) refl
  where
    by : (u : Bool) → nat_lt j at ≡ u → t j ≡ false
    by true e = before (grind (arith, nat_tests))
    by false e = let low : at ≤ j = grind (arith, nat_tests) in behind (omega (arith, is, low, high, inside))

pub returns-then-holds : goal.returns-then-holds
returns-then-holds c =
    let to = c.saturating_add-to.ensures in
    any_at (holds c.args.self.now.bounds) c.args.from c.args.length c.looking.at c.looking.invariant.low (omega arith) (sym c.if-holds.ensures)

pub returns : goal.returns
returns c =
    none_among (holds c.args.self.now.bounds) c.args.from c.args.length (λ j low high.
    none_at (holds c.args.self.now.bounds) (c.args.from + c.args.length) c.saturating_add-to.result c.looking.at j c.saturating_add-to.ensures c.looking-test.false high
    (c.looking.invariant.none j low) (c.args.self.now.ends j))
