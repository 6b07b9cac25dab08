use Rattle.std.proofs.Common.{Some, None, ap, sym, subst, ◌∙◌, ◌++◌, append-nil}
use Rattle.std.specs.Prelude.{flat_map}
use Rattle.std.specs.List.{AllByRecursion}
use Rattle.std.specs.FinMap as map
use Rattle.gfx_model.specs.Questions.{Buffer}
use Rattle.gfx_objects.specs.Objects.{answers}
use Rattle.gfx_ops.specs.Operations.{ops_of_command, listed}
use Rattle.gfx_commands.specs.Runnable.{IsRunnable}
use Rattle.gfx_commands.proofs.Buffers.{found}
use Rattle.gfx_commands.proofs.recordings.Recordings.append_ops.Goals as goal

pub returns-in_default-clause-ok : goal.returns-in_default-clause-ok
returns-in_default-clause-ok c =
    let at = found c.args.self.now c.args.cb None (ap (λ m. map.get m c.args.cb) (sym c.self.view_is) ∙ sym c.in_default.ensures) in
    sym (append-nil c.args.ops.now)
    ∙ ap (λ (b : Buffer). c.args.ops.now ++ listed c.args.with_layouts (flat_map (ops_of_command (answers c.args.objects.now)) b.commands)) (sym at)

pub append_ops-requires : goal.append_ops-requires
append_ops-requires c =
    let at = found c.args.self.now c.args.cb (Some c.in-Some.row.now) (ap (λ m. map.get m c.args.cb) (sym c.self.view_is) ∙ sym c.in-Some.ensures) in
    subst (λ (b : Buffer). AllByRecursion (IsRunnable (answers c.args.objects.now)) b.commands) at c.requires

pub returns-in-Ok-clause-ok : goal.returns-in-Ok-clause-ok
returns-in-Ok-clause-ok c =
    let at = found c.args.self.now c.args.cb (Some c.in-Some.row.now) (ap (λ m. map.get m c.args.cb) (sym c.self.view_is) ∙ sym c.in-Some.ensures) in
    c.in-Ok.ensures.ok
    ∙ ap (λ (b : Buffer). c.args.ops.now ++ listed c.args.with_layouts (flat_map (ops_of_command (answers c.args.objects.now)) b.commands)) (sym at)
