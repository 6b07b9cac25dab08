use Rattle.std.proofs.Common.{false, refl, sym, ap, ◌∙◌}
use Rattle.std.specs.Prelude.{flat_map}
use Rattle.gfx_objects.specs.Objects.{answers}
use Rattle.gfx_ops.specs.Operations.{ops_of_command, listed}
use Rattle.gfx_ops.proofs.Listed.{listed_all}
use Rattle.gfx_tracker.specs.State.{state_answers}
use Rattle.gfx_tracker.proofs.Runnable.{all_runnable}
use Rattle.gfx_tracker.proofs.Operated.{ops_same}
use Rattle.gfx_tracker.proofs.expansion.expand.Goals as goal

pub expand-requires : goal.expand-requires
expand-requires c =
    let s = c.args.state.now in
    all_runnable (state_answers s) (answers s.registry.objects) refl c.requires.lawful c.args.cb c.requires.executable

pub expand_bytes-requires : goal.expand_bytes-requires
expand_bytes-requires c =
    let s = c.args.state.now in
    all_runnable (state_answers s) (answers s.registry.objects) refl c.requires.lawful c.args.cb c.requires.executable

pub returns-then-with_layouts-clause-ok : goal.returns-then-with_layouts-clause-ok
returns-then-with_layouts-clause-ok c =
    let s = c.args.state.now in
    let v = state_answers s in
    let cs = (v.buffer c.args.cb).commands in
    rw (ap (λ t. listed t (flat_map (ops_of_command v) cs)) c.if-with_layouts.true ∙ listed_all (flat_map (ops_of_command v) cs) ∙ sym (ops_same v (answers s.registry.objects) refl cs)) c.expand.ensures.ok

pub returns-else-with_layouts-clause-ok : goal.returns-else-with_layouts-clause-ok
returns-else-with_layouts-clause-ok c =
    let s = c.args.state.now in
    let v = state_answers s in
    let cs = (v.buffer c.args.cb).commands in
    rw (ap (λ t. listed t (flat_map (ops_of_command v) cs)) c.if-with_layouts.false ∙ ap (listed false) (sym (ops_same v (answers s.registry.objects) refl cs))) c.expand_bytes.ensures.ok
