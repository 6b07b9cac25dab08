use Rattle.std.proofs.Common.{◌≡◌, true, false, not, ◌&&◌, ◌++◌, append-nil, ap, sym, ◌∙◌}
use Rattle.gfx_objects.specs.Objects.{answers}
use Rattle.gfx_ops.specs.Operations.{is_barrier}
use Rattle.gfx_ops.proofs.Listed.{whole_command, none_of_barrier}
use Rattle.gfx_commands.specs.Recorded.{event_in}
use Rattle.gfx_commands.proofs.recorded.Recorded.append_ops.Goals.{else-not-with_layouts-via-then-not-with_layouts+else-is_barrier, else-not-with_layouts-via-else-not-with_layouts}
use Rattle.gfx_commands.proofs.recorded.Recorded.append_ops.Goals as goal

pub returns-then-is_barrier-clause-ok : goal.returns-then-is_barrier-clause-ok
returns-then-is_barrier-clause-ok c =
    let without = c.if-not-with_layouts.true in
    let barrier = c.if-is_barrier.true in
    let same = c.is_barrier.ensures in
    let both : (not c.args.with_layouts && is_barrier (event_in c.args.self.now)) ≡ true = cc in
    sym (append-nil c.args.ops.now)
    ∙ ap (λ os. c.args.ops.now ++ os) (sym (none_of_barrier (answers c.args.objects.now) (event_in c.args.self.now) c.args.with_layouts both))

pub returns-clause-ok : goal.returns-clause-ok
returns-clause-ok c =
    let one : (not c.args.with_layouts && is_barrier (event_in c.args.self.now)) ≡ false = elim c.else-not-with_layouts.branch [
      | else-not-with_layouts-via-then-not-with_layouts+else-is_barrier w ↦
          let without = w.if-not-with_layouts.true in
          let other = w.if-is_barrier.false in
          let same = w.is_barrier.ensures in
          cc
      | else-not-with_layouts-via-else-not-with_layouts w ↦
          let with = w.if-not-with_layouts.false in
          cc
    ] in
    rw (whole_command (answers c.args.objects.now) (event_in c.args.self.now) c.args.with_layouts one) c.append_all.ensures.ok
