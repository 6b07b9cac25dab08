use Rattle.std.proofs.Common.{◌≡◌, ℕ, unwrap_or, sym, ap, ◌∙◌}
use Rattle.std.specs.Ordering.{nat_cmp}
use Rattle.std.specs.FinMap as map
use Rattle.std.specs.FinMap.{get-empty}
use Rattle.gfx_commands.specs.Laid.{laid_by}
use Rattle.gfx_commands.proofs.laid.Laid.new.Goals as goal

pub returns : goal.returns
returns c = λ layout whole.
    let none : (x : ℕ) → laid_by c.new.result.map layout x ≡ layout x = λ x. ap (λ o. unwrap_or o (layout x)) (ap (λ m. map.get m x) c.new.ensures ∙ get-empty nat_cmp x) in
    λ j x. sym (none x) j
