use Rattle.std.proofs.Common.{◌≢◌, ◌<◌, ◌^◌, ◌++◌, ap, sym, ◌∙◌, arith}
use Rattle.std.specs.Prelude.{slice_get}
use Rattle.gfx_table.specs.Rows.{least_above-higher}
use Rattle.gfx_objects.specs.Objects.{of_owner}
use Rattle.gfx_tracker.proofs.Seeking.{all_sought, at_front, behind_front, step_past, at_end}
use Rattle.gfx_tracker.proofs.sought.Sought.at.Goals as goal

pub returns-then-left-eq0-clause-found : goal.returns-then-left-eq0-clause-found
returns-then-left-eq0-clause-found c = λ more.
    let k = c.args.objects.now in
    ap (λ l. slice_get (l ++ more) c.args.place) (sym (all_sought k c.owner-owner.result c.args.self c.owner-owner.ensures c.in-Some.ensures.sound))
    ∙ c.ids.invariant more
    ∙ at_front k c.owner-owner.result c.args.self c.ids.after c.in-Some.id (sym c.in-Some.ensures.least) (sym c.is_met_at.ensures ∙ c.if-is_met_at.true) c.ids.left c.if-left-eq0.true more

pub ids-smaller-else-left-eq0 : goal.ids-smaller-else-left-eq0
ids-smaller-else-left-eq0 c =
    let above = least_above-higher (of_owner c.owner-owner.result c.args.objects.now.rows) c.ids.after c.in-Some.id (sym c.in-Some.ensures.least) in
    let fits : c.in-Some.id < 2 ^ 64 = omega arith in
    omega (arith, above, fits)

pub ids-smaller : goal.ids-smaller
ids-smaller c =
    let above = least_above-higher (of_owner c.owner-owner.result c.args.objects.now.rows) c.ids.after c.in-Some.id (sym c.in-Some.ensures.least) in
    let fits : c.in-Some.id < 2 ^ 64 = omega arith in
    omega (arith, above, fits)

pub ids-preserved-else-left-eq0 : goal.ids-preserved-else-left-eq0
ids-preserved-else-left-eq0 c = λ more.
    let some : c.ids.left ≢ 0 = omega arith in
    c.ids.invariant more
    ∙ behind_front c.args.objects.now c.owner-owner.result c.args.self c.ids.after c.in-Some.id (sym c.in-Some.ensures.least) (sym c.is_met_at.ensures ∙ c.if-is_met_at.true) c.ids.left some more

pub ids-preserved : goal.ids-preserved
ids-preserved c = λ more.
    c.ids.invariant more
    ∙ ap (λ l. slice_get (l ++ more) c.ids.left)
    (step_past c.args.objects.now c.owner-owner.result c.args.self c.ids.after c.in-Some.id (sym c.in-Some.ensures.least) (sym c.is_met_at.ensures ∙ c.if-is_met_at.false))

pub returns-clause-passed : goal.returns-clause-passed
returns-clause-passed c = λ more.
    let k = c.args.objects.now in
    ap (λ l. slice_get (l ++ more) c.args.place) (sym (all_sought k c.owner-owner.result c.args.self c.owner-owner.ensures c.in_default.ensures.sound))
    ∙ c.ids.invariant more
    ∙ ap (λ l. slice_get (l ++ more) c.ids.left) (at_end k c.owner-owner.result c.args.self c.ids.after (sym c.in_default.ensures.least))
