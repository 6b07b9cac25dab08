use Rattle.std.proofs.Common.{◌≡◌, ◌++◌, ◌<◌, ◌∙◌, ℕ, List, Some, length, refl, ap, sym, subst, add-one, arith, slice_index_or, slice_get, rules}
use Rattle.std.specs.Prelude.{flat_map, slice_range}
use Rattle.std.specs.List.{AllByRecursion}
use Rattle.std.proofs.lemmas.Result.{err_from_is_err_and}
use Rattle.std.proofs.lemmas.List.{take_all}
use Rattle.gfx_types.specs.declared.op.Op.{Op}
use Rattle.gfx_model.specs.Events.{Event}
use Rattle.gfx_objects.specs.Objects.{answers}
use Rattle.gfx_ops.specs.Operations.{ops_of_command, listed}
use Rattle.gfx_ops.proofs.Listed.{listed_flat}
use Rattle.gfx_commands.specs.declared.commands.Command.{Command}
use Rattle.gfx_commands.specs.Commands.{start_at, events_in}
use Rattle.gfx_commands.specs.Inside.{spelled_in}
use Rattle.gfx_commands.specs.Recorded.{event_with, AreFields}
use Rattle.gfx_commands.specs.Runnable.{IsRunnable}
use Rattle.gfx_commands.proofs.Cuts.{start_behind, length-cut}
use Rattle.gfx_commands.proofs.Added.{all_at, within, event_there, fields_there, length-events}
use Rattle.gfx_commands.proofs.Executed.{get_at}
use Rattle.gfx_commands.proofs.Running.{front_kept, ops_more}
use Rattle.gfx_commands.proofs.commands.Commands.append_ops.Goals as goal

abbrev none : Command
none = record { call_id = 0; end = 0 }

-- the command of this round
there : (cs items : List Command) (k : ℕ) → items ≡ cs → k < length items → slice_get cs k ≡ Some (slice_index_or items k none)
there cs items k same lt = sym (ap (λ l. slice_get l k) same) ∙ get_at items k (slice_index_or items k none) none lt refl

-- where it starts, and its fields
part : (xs ys : List ℕ) (a b : ℕ) → xs ≡ ys → a ≡ b → (end : ℕ) → slice_range xs a end ≡ slice_range ys b end
part xs ys a b same start end = ap (λ l. slice_range l a end) same ∙ ap (λ k. slice_range ys k end) start

pub slice_bounds-recorded-count : goal.slice_bounds-recorded-count
slice_bounds-recorded-count c =
    let s = c.self.inside in
    let at = there s.commands.items c.deref-command-items.result.now c.items.command-index c.deref-command-items.ensures.value c.items-test.true in
    let fits = within s c.self.invariant c.items.command-index _ at in
    let start = c.items.invariant.start in
    omega (arith, fits, start)

pub slice_bounds-recorded-start : goal.slice_bounds-recorded-start
slice_bounds-recorded-start c =
    let s = c.self.inside in
    let at = there s.commands.items c.deref-command-items.result.now c.items.command-index c.deref-command-items.ensures.value c.items-test.true in
    let fits = within s c.self.invariant c.items.command-index _ at in
    let start = c.items.invariant.start in
    search rules

pub slice_bounds-recorded-end : goal.slice_bounds-recorded-end
slice_bounds-recorded-end c =
    let s = c.self.inside in
    let at = there s.commands.items c.deref-command-items.result.now c.items.command-index c.deref-command-items.ensures.value c.items-test.true in
    let fits = within s c.self.invariant c.items.command-index _ at in
    let all = ap length c.deref.ensures.value in
    search rules

pub append_ops-requires-clause-recorded : goal.append_ops-requires-clause-recorded
append_ops-requires-clause-recorded c =
    let s = c.self.inside in
    let one = slice_index_or c.deref-command-items.result.now c.items.command-index none in
    let at = there s.commands.items c.deref-command-items.result.now c.items.command-index c.deref-command-items.ensures.value c.items-test.true in
    subst (λ (ps : List ℕ). AreFields one.call_id ps) (sym (part c.deref.result.now s.fields.items c.items.start (start_at 0 s.commands.items c.items.command-index) c.deref.ensures.value c.items.invariant.start one.end))
    (fields_there s c.self.invariant c.items.command-index one at)

pub append_ops-requires-clause-runs : goal.append_ops-requires-clause-runs
append_ops-requires-clause-runs c =
    let s = c.self.inside in
    let v = answers c.args.objects.now in
    let one = slice_index_or c.deref-command-items.result.now c.items.command-index none in
    let at = there s.commands.items c.deref-command-items.result.now c.items.command-index c.deref-command-items.ensures.value c.items-test.true in
    subst (λ (ps : List ℕ). IsRunnable v (event_with one.call_id ps)) (sym (part c.deref.result.now s.fields.items c.items.start (start_at 0 s.commands.items c.items.command-index) c.deref.ensures.value c.items.invariant.start one.end))
    (all_at (IsRunnable v) (events_in (spelled_in s)) c.items.command-index _ (subst (λ ss. AllByRecursion (IsRunnable v) (events_in ss)) (sym c.self.view_is) c.requires)
    (event_there s c.self.invariant c.items.command-index one at))

pub returns-in_err-append_ops-clause-err : goal.returns-in_err-append_ops-clause-err
returns-in_err-append_ops-clause-err c =
    let p = err_from_is_err_and c.from_residual.result c.from_residual.ensures.1 in
    rw p.1 (front_kept c.args.ops.now c.items.ops _ c.append_ops.new.ops c.items.invariant.ops c.in_err-append_ops.ensures.err)

pub items-preserved : goal.items-preserved
items-preserved c =
    let s = c.self.inside in
    let f : Event → List Op = λ e. listed c.args.with_layouts (ops_of_command (answers c.args.objects.now) e) in
    let one = slice_index_or c.deref-command-items.result.now c.items.command-index none in
    let at = there s.commands.items c.deref-command-items.result.now c.items.command-index c.deref-command-items.ensures.value c.items-test.true in
    record {
      start = sym (start_behind 0 s.commands.items c.items.command-index one at) ∙ ap (start_at 0 s.commands.items) (sym (add-one c.items.command-index));
      ops = ops_more f (events_in (spelled_in s)) c.items.command-index _ c.args.ops.now c.items.ops c.append_ops.new.ops (event_there s c.self.invariant c.items.command-index one at)
          c.items.invariant.ops
          (c.in_ok-append_ops.ensures.ok ∙ ap (λ ps. c.items.ops ++ f (event_with one.call_id ps))
          (part c.deref.result.now s.fields.items c.items.start (start_at 0 s.commands.items c.items.command-index) c.deref.ensures.value c.items.invariant.start one.end));
    }

pub returns-clause-ok : goal.returns-clause-ok
returns-clause-ok c =
    let s = c.self.inside in
    let f : Event → List Op = λ e. listed c.args.with_layouts (ops_of_command (answers c.args.objects.now) e) in
    let events = length-events (spelled_in s) in
    let spelled = length-cut s.fields.items 0 s.commands.items in
    let items = ap length c.deref-command-items.ensures.value in
    let end = c.items-test.false in
    c.items.invariant.ops
    ∙ ap (λ es. c.args.ops.now ++ flat_map f es) (take_all c.items.command-index (events_in (spelled_in s)) (omega (arith, events, spelled, items, end)))
    ∙ ap (λ ss. c.args.ops.now ++ flat_map f (events_in ss)) c.self.view_is
    ∙ ap (λ os. c.args.ops.now ++ os) (listed_flat c.args.with_layouts (ops_of_command (answers c.args.objects.now)) (events_in c.args.self.now))
