use Rattle.std.proofs.Common.{◌≡◌, ◌++◌, take}
use Rattle.std.specs.Prelude.{flat_map}
use Rattle.gfx_objects.specs.Objects.{answers}
use Rattle.gfx_ops.specs.Operations.{ops_of_command, listed}
use Rattle.gfx_commands.specs.Commands.{start_at, events_in}
use Rattle.gfx_commands.specs.Inside.{spelled_in}
use Rattle.gfx_commands.proofs.commands.Commands.append_ops.Given as goal

-- what the commands so far do was appended
abbrev pub invariant-items : goal.invariant-items
invariant-items l = record {
  start : l.start ≡ start_at 0 l.self-inside.commands.items l.command-index;
  ops : l.ops ≡ l.fn.ops ++ flat_map (λ e. listed l.with_layouts (ops_of_command (answers l.objects) e)) (take l.command-index (events_in (spelled_in l.self-inside)));
}
