use Rattle.std.proofs.Common.{◌≡◌, None, ap, sym, subst, ◌∙◌}
use Rattle.std.specs.Prelude.{flat_map}
use Rattle.std.specs.List.{AllByRecursion}
use Rattle.gfx_types.specs.declared.lists.Submit.{Submit}
use Rattle.gfx_model.specs.Events.{event_of_call}
use Rattle.gfx_model.specs.Events.Event.{QueueSubmit}
use Rattle.gfx_model.specs.Checks.{first_broken, turns_of}
use Rattle.gfx_model.specs.Table.{checks_of}
use Rattle.gfx_ops.specs.Operations.{listed}
use Rattle.gfx_tracker.specs.State.{state_answers}
use Rattle.gfx_tracker.specs.Submitted.{IsExecutable}
use Rattle.gfx_tracker.specs.Operations.{ops_of, ops_of_turn}
use Rattle.gfx_tracker.proofs.Submitting.{submit_facts}
use Rattle.gfx_tracker.proofs.expansion.append_call.Goals as goal

pub append_submits-requires-clause-executable : goal.append_submits-requires-clause-executable
append_submits-requires-clause-executable c =
    let v = state_answers c.args.state.now in
    let passes : first_broken v (checks_of (QueueSubmit c.in-QueueSubmit.queue c.in-QueueSubmit.submits c.in-QueueSubmit.fence)) ≡ None =
    subst (λ k. first_broken v (checks_of (event_of_call k)) ≡ None) c.in-QueueSubmit.is c.requires.passes in
    subst (AllByRecursion (λ (s : Submit). AllByRecursion (IsExecutable v) s.cbs)) (sym c.items.ensures)
    (submit_facts v c.in-QueueSubmit.queue c.in-QueueSubmit.submits c.in-QueueSubmit.fence passes).executable

pub returns-in-QueueSubmit-clause-ok : goal.returns-in-QueueSubmit-clause-ok
unfolding ops_of
returns-in-QueueSubmit-clause-ok c =
    let v = state_answers c.args.state.now in
    let fence = c.in-QueueSubmit.fence in
    rw (ap (λ k. listed c.args.with_layouts (ops_of v (event_of_call k))) c.in-QueueSubmit.is
    ∙ ap (λ submits. listed c.args.with_layouts (flat_map (ops_of_turn v) (turns_of submits fence))) (sym c.items.ensures)) (c.append_submits.ensures.ok fence)
