use Rattle.std.proofs.Common.{flat_map, sym, ap, subst, ◌∙◌, arith}
use Rattle.std.specs.Prelude.{slice_get}
use Rattle.gfx_model.specs.Questions.{is_kept}
use Rattle.gfx_commands.specs.Recorded.{event_in}
use Rattle.gfx_commands.specs.Recordings.{buffers}
use Rattle.gfx_state.proofs.Recorded.{below_there, kept_few}
use Rattle.gfx_tracker.specs.Tracker.{answers}
use Rattle.gfx_needed.specs.Fields.{ids_in}
use Rattle.gfx_needed.specs.NeededIds.{Marks}
use Rattle.gfx_needed.proofs.Marking.{marks_then}
use Rattle.gfx_needed.proofs.Walking.{flat_there, take_past}
use Rattle.gfx_needed.proofs.needed.NeededIds.mark_commands.Goals as goal

pub overflow_add-k : goal.overflow_add-k
overflow_add-k c =
    let rows = c.recordings-recordings.result.now in
    let below = below_there (buffers rows c.args.cb).commands c.commands.k (event_in c.in-Some.command) c.in-Some.ensures.item in
    let all = kept_few rows c.args.cb (ap (λ b. is_kept (b c.args.cb).state) c.recordings-recordings.ensures ∙ c.requires) in
    let total = c.totals-totals.ensures.same_commands in
    let few = c.totals-totals.ensures.few in
    omega (arith, below, all, total, few)

pub commands-smaller : goal.commands-smaller
commands-smaller c =
    let there = c.in-Some.ensures.item ∙ ap (λ b. slice_get (b c.args.cb).commands c.commands.k) c.recordings-recordings.ensures in
    let below = below_there ((answers c.args.tracker.now).buffer c.args.cb).commands c.commands.k (event_in c.in-Some.command) there in
    omega (arith, below)

pub commands-preserved : goal.commands-preserved
commands-preserved c =
    let v = answers c.args.tracker.now in
    let there = c.in-Some.ensures.item ∙ ap (λ b. slice_get (b c.args.cb).commands c.commands.k) c.recordings-recordings.ensures in
    subst (λ l. Marks v l c.args.self.now c.mark_command.new.self) (sym (flat_there ids_in (v.buffer c.args.cb).commands c.commands.k (event_in c.in-Some.command) there))
    (marks_then v _ _ c.args.self.now c.commands.self c.mark_command.new.self c.commands.invariant c.in_ok-mark_command.ensures)

pub returns : goal.returns
returns c =
    let v = answers c.args.tracker.now in
    let none = c.in_default.ensures.item ∙ ap (λ b. slice_get (b c.args.cb).commands c.commands.k) c.recordings-recordings.ensures in
    subst (λ l. Marks v (flat_map ids_in l) c.args.self.now c.commands.self) (take_past (v.buffer c.args.cb).commands c.commands.k none) c.commands.invariant
