use Rattle.std.proofs.Common.{[], ap, sym, subst, ◌∙◌, map, get_or, is_some}
use Rattle.std.specs.Prelude.{fold}
use Rattle.std.proofs.lemmas.List.{take_all}
use Rattle.gfx_model.specs.Steps.Step.{ends}
use Rattle.gfx_model.specs.Views.{View}
use Rattle.gfx_model.specs.After.{after}
use Rattle.gfx_laws.specs.Lawful.{IsLawful}
use Rattle.gfx_tracker.specs.State.{state_answers}
use Rattle.gfx_tracker.proofs.Freed.{live_at, frees_live, frees_lawful, after_freed}
use Rattle.gfx_tracker.proofs.buffers.free_command_buffers.Goals as goal

pub end-requires : goal.end-requires
end-requires c =
    let v = state_answers c.args.state.now in
    let buffers = c.args.buffers.now in
    let k = c.buffers.buffer-index in
    let next = c.requires in
    record {
      live = ap (λ (w : View). is_some (w.live (get_or buffers k 0))) c.buffers.invariant ∙ live_at v buffers k c.buffers-test.true (frees_live v c.args._device c.args._pool buffers next);
      lawful = subst (λ w. ∥ IsLawful w [] ∥₁) (sym c.buffers.invariant) (frees_lawful v c.args._device c.args._pool buffers k next);
    }

pub returns : goal.returns
returns c =
    let v = state_answers c.args.state.now in
    let buffers = c.args.buffers.now in
    c.buffers.invariant ∙ ap (λ xs. fold after v (map ends xs)) (take_all c.buffers.buffer-index buffers c.buffers-test.false)
    ∙ after_freed v c.args._device c.args._pool buffers c.requires
