use Rattle.std.proofs.Common.{◌≡◌, ◌<◌, ◌≤◌, length, vec_len, Some, ap, ◌∙◌, arith, rules}
use Rattle.gfx_table.specs.Slots.{least_above}
use Rattle.gfx_table.proofs.Places.{next_found, next_missing}
use Rattle.gfx_table.proofs.spill.SpillList.next_above.Goals as goal

pub returns-then-at-len : goal.returns-then-at-len
returns-then-at-len g c =
    let es = c.self.inside.entries.items in
    let same : vec_len c.self.inside.entries ≡ length es = search rules in
    let lt : c.end_of-at.result < length es = omega (arith, c.if-at-len.true, c.len.ensures, same) in
    ap (λ e. Some e.0) c.index.ensures
    ∙ next_found es c.args.after c.end_of-at.result c.index.result.now c.self.invariant (rw c.deref.ensures.value at c.end_of-at.ensures) lt
    ∙ ap (λ s. least_above s.map c.args.after) c.self.view_is

pub returns-else-at-len : goal.returns-else-at-len
returns-else-at-len g c =
    let es = c.self.inside.entries.items in
    let same : vec_len c.self.inside.entries ≡ length es = search rules in
    let le : length es ≤ c.end_of-at.result = omega (arith, c.if-at-len.false, c.len.ensures, same) in
    next_missing es c.args.after c.end_of-at.result c.self.invariant (rw c.deref.ensures.value at c.end_of-at.ensures) le
    ∙ ap (λ s. least_above s.map c.args.after) c.self.view_is
