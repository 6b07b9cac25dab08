use Rattle.std.proofs.Common.{◌≡◌, ◌+◌, ◌-◌, ◌≤◌, ◌∙◌, ap, refl, arith, replicate, ◌++◌}
use Rattle.gfx_shadow.proofs.StretchBytes.{moved_same}
use Rattle.gfx_shadow.proofs.stretch.Stretch.reach.Goals as goal
use Rattle.gfx_shadow.proofs.stretch.Stretch.reach.Goals.{then-from-self, else-from-self}

pub returns-clause-same : goal.returns-clause-same
returns-clause-same c =
    let s = c.args.self.now in let base = c.if-from-self.base in
    let low : base ≤ s.base = elim c.if-from-self.branch [
      | then-from-self w ↦ let a = w.base-is in let b = w.saturating_sub-base.ensures in let l = w.if-from-self.true in omega (arith, a, b, l)
      | else-from-self w ↦ let a = w.base-is in omega (arith, a)
    ] in
    let e : base + (s.base - base) ≡ s.base = omega (arith, low) in
    let k = c.if-places_end-to.end - (s.base + c.len.result) in
    moved_same s _ (s.base - base) k refl refl e (c.in_ok-self.ensures ∙ ap (λ bs. (replicate (s.base - base) 0 ++ bs) ++ replicate k 0) c.deref.ensures.value)
