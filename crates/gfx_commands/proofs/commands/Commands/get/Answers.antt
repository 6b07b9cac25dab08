use Rattle.std.proofs.Common.{◌≡◌, ◌∙◌, ℕ, List, Some, None, length, ap, sym, subst, arith, slice_get, rules}
use Rattle.std.specs.Prelude.{slice_range, option_map}
use Rattle.gfx_commands.specs.declared.commands.Command.{Command}
use Rattle.gfx_commands.specs.Commands.{start_at, events_in}
use Rattle.gfx_commands.specs.Recorded.{event_in, event_with, AreFields}
use Rattle.gfx_commands.proofs.Added.{item_at, within, event_there, fields_there, no_event}
use Rattle.gfx_commands.proofs.commands.Commands.get.Goals as goal

pub returns-in_err-command-clause-item : goal.returns-in_err-command-clause-item
returns-in_err-command-clause-item c =
    let none = sym (ap (λ l. slice_get l c.args.k) c.deref.ensures.value) ∙ item_at c.deref.result.now c.args.k None c.in_err-command.ensures.lookup in
    ap (option_map event_in) c.from_residual.ensures ∙ sym (no_event c.self.inside c.args.k none) ∙ ap (λ ss. slice_get (events_in ss) c.args.k) c.self.view_is

-- the command at the place
there : (cs items : List Command) (k : ℕ) (one : Command) → items ≡ cs → slice_get items k ≡ Some one → slice_get cs k ≡ Some one
there cs items k one same at = sym (ap (λ l. slice_get l k) same) ∙ at

-- its fields
part : (xs ys : List ℕ) (cs items : List Command) (k start end : ℕ) → xs ≡ ys → items ≡ cs → start ≡ start_at 0 items k → slice_range xs start end ≡ slice_range ys (start_at 0 cs k) end
part xs ys cs items k start end same seen is = ap (λ l. slice_range l start end) same ∙ ap (λ n. slice_range ys n end) (is ∙ ap (λ l. start_at 0 l k) seen)

pub slice_bounds-result-count : goal.slice_bounds-result-count
slice_bounds-result-count c =
    let one = c.in_ok-command.command in
    let at = there c.self.inside.commands.items c.deref.result.now c.args.k one.now c.deref.ensures.value (item_at c.deref.result.now c.args.k (Some one) c.in_ok-command.ensures.lookup) in
    let fits = within c.self.inside c.self.invariant c.args.k one.now at in
    let start = c.start_at-start.ensures ∙ ap (λ l. start_at 0 l c.args.k) c.deref-2.ensures.value in
    omega (arith, fits, start)

pub slice_bounds-result-start : goal.slice_bounds-result-start
slice_bounds-result-start c =
    let one = c.in_ok-command.command in
    let at = there c.self.inside.commands.items c.deref.result.now c.args.k one.now c.deref.ensures.value (item_at c.deref.result.now c.args.k (Some one) c.in_ok-command.ensures.lookup) in
    let fits = within c.self.inside c.self.invariant c.args.k one.now at in
    let start = c.start_at-start.ensures ∙ ap (λ l. start_at 0 l c.args.k) c.deref-2.ensures.value in
    search rules

pub slice_bounds-result-end : goal.slice_bounds-result-end
slice_bounds-result-end c =
    let one = c.in_ok-command.command in
    let at = there c.self.inside.commands.items c.deref.result.now c.args.k one.now c.deref.ensures.value (item_at c.deref.result.now c.args.k (Some one) c.in_ok-command.ensures.lookup) in
    let fits = within c.self.inside c.self.invariant c.args.k one.now at in
    let all = ap length c.deref-3.ensures.value in
    search rules

pub returns-clause-item : goal.returns-clause-item
returns-clause-item c =
    let s = c.self.inside in
    let one = c.in_ok-command.command in
    let at = there s.commands.items c.deref.result.now c.args.k one.now c.deref.ensures.value (item_at c.deref.result.now c.args.k (Some one) c.in_ok-command.ensures.lookup) in
    let its = part c.deref-3.result.now s.fields.items s.commands.items c.deref-2.result.now c.args.k c.start_at-start.result one.now.end c.deref-3.ensures.value c.deref-2.ensures.value c.start_at-start.ensures in
    ap (λ ps. Some (event_with one.now.call_id ps)) its ∙ sym (event_there s c.self.invariant c.args.k one.now at) ∙ ap (λ ss. slice_get (events_in ss) c.args.k) c.self.view_is

pub returns-clause-recorded : goal.returns-clause-recorded
returns-clause-recorded c =
    let s = c.self.inside in
    let one = c.in_ok-command.command in
    let at = there s.commands.items c.deref.result.now c.args.k one.now c.deref.ensures.value (item_at c.deref.result.now c.args.k (Some one) c.in_ok-command.ensures.lookup) in
    let its = part c.deref-3.result.now s.fields.items s.commands.items c.deref-2.result.now c.args.k c.start_at-start.result one.now.end c.deref-3.ensures.value c.deref-2.ensures.value c.start_at-start.ensures in
    subst (λ (ps : List ℕ). AreFields one.now.call_id ps) (sym its) (fields_there s c.self.invariant c.args.k one.now at)
