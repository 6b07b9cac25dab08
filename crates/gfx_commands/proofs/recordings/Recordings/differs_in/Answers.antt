use Rattle.std.proofs.Common.{◌≡◌, Bool, true, false, not, Some, length, get_or, refl, ap, sym, ◌∙◌, subst, arith, below_more}
use Rattle.std.specs.Prelude.{slice_get}
use Rattle.gfx_types.specs.declared.lists.Submit.{Submit}
use Rattle.gfx_objects.specs.Objects.{answers}
use Rattle.gfx_commands.specs.Recordings.{buffers}
use Rattle.gfx_commands.specs.Differing.{AreMet, meets_at}
use Rattle.gfx_model.specs.Checks.{meets}
use Rattle.gfx_model.specs.Layouts.{asked_in, executed_before, layouts_by}
use Rattle.gfx_commands.specs.Laid.{IsLaid}
use Rattle.gfx_commands.proofs.Executed.{executed_whole, get_at, laid_next, part_of, place_more}
use Rattle.gfx_commands.proofs.recordings.Recordings.differs_in.Goals as goal

meets_it : (differs met : Bool) → differs ≡ not met → differs ≡ false → met ≡ true
meets_it differs true e is = refl
meets_it differs false e is = absurd cc

pub buffers-preserved : goal.buffers-preserved
buffers-preserved c =
    let b = buffers c.args.self.now in
    let layout = (answers c.args.objects.now).layout in
    let submits = c.args.submits.now in
    let at = c.buffers.at in
    let s = c.index-submits-submit.result in
    let here = get_at submits c.args.submit s s c.requires.submit c.index-submits-submit.is in
    let cbs = part_of submits c.args.submit s here c.items-cbs.result.now (c.items-cbs.ensures ∙ ap (λ (s : Submit). s.cbs) (sym c.index-submits-submit.is)) in
    let cb = get_or c.items-cbs.result.now at 0 in
    let this = subst (λ xs. slice_get xs at ≡ Some cb) (sym cbs) (get_at c.items-cbs.result.now at _ 0 (omega arith) refl) in
    let one = meets_it _ _ c.layout_differs.ensures.differs c.if-layout_differs.false in
    record {
      met = place_more b layout submits c.args.submit at c.buffers.invariant.met cb this one;
      laid = subst (IsLaid c.layout_differs.new.laid layout) (sym (laid_next b layout submits c.args.submit at cb this)) (c.layout_differs.ensures.laid c.if-layout_differs.false);
      each = below_more (λ a. meets_at b layout submits c.args.submit a ≡ true) at c.buffers.invariant.each
          (subst (λ xs. meets (layouts_by b layout (executed_before submits c.args.submit at)) (asked_in b (get_or xs at 0)) ≡ true) (sym cbs) one);
    }

pub returns-clause-before : goal.returns-clause-before
returns-clause-before c = λ a inside none.
    let submits = c.args.submits.now in
    let s = c.index-submits-submit.result in
    let here = get_at submits c.args.submit s s c.requires.submit c.index-submits-submit.is in
    let cbs = part_of submits c.args.submit s here c.items-cbs.result.now (c.items-cbs.ensures ∙ ap (λ (s : Submit). s.cbs) (sym c.index-submits-submit.is)) in
    c.buffers.invariant.each a (omega (arith, inside, ap length cbs))

pub returns-clause-met : goal.returns-clause-met
returns-clause-met c = λ none.
    let submits = c.args.submits.now in
    let s = c.index-submits-submit.result in
    let here = get_at submits c.args.submit s s c.requires.submit c.index-submits-submit.is in
    let cbs = part_of submits c.args.submit s here c.items-cbs.result.now (c.items-cbs.ensures ∙ ap (λ (s : Submit). s.cbs) (sym c.index-submits-submit.is)) in
    subst (AreMet (buffers c.args.self.now) (answers c.args.objects.now).layout) (executed_whole submits c.args.submit c.buffers.at s here (omega (arith, ap length cbs))) c.buffers.invariant.met

pub returns-clause-laid : goal.returns-clause-laid
returns-clause-laid c = λ none.
    let b = buffers c.args.self.now in
    let layout = (answers c.args.objects.now).layout in
    let submits = c.args.submits.now in
    let s = c.index-submits-submit.result in
    let here = get_at submits c.args.submit s s c.requires.submit c.index-submits-submit.is in
    let cbs = part_of submits c.args.submit s here c.items-cbs.result.now (c.items-cbs.ensures ∙ ap (λ (s : Submit). s.cbs) (sym c.index-submits-submit.is)) in
    subst (λ l. IsLaid c.buffers.laid layout (layouts_by b layout l)) (executed_whole submits c.args.submit c.buffers.at s here (omega (arith, ap length cbs))) c.buffers.invariant.laid
