use Rattle.std.proofs.Common.{sym, ◌∙◌}
use Rattle.std.specs.Prelude.{flat_map}
use Rattle.gfx_model.specs.Steps.{resources_of}
use Rattle.gfx_model.specs.Layouts.{asked_in}
use Rattle.gfx_objects.specs.Objects.{answers}
use Rattle.gfx_commands.specs.Differing.{layouts_at}
use Rattle.gfx_commands.specs.Recordings.{buffers}
use Rattle.gfx_commands.proofs.Leaving.{left_whole}
use Rattle.gfx_commands.proofs.recordings.Recordings.layout_differs.Goals as goal

pub returns-clause-laid : goal.returns-clause-laid
returns-clause-laid c = λ met whole.
    let b = buffers c.args.self.now in
    let layout = (answers c.args.objects.now).layout in
    let uses = c.in-Some.uses.now in
    let now = layouts_at b layout c.args.place in
    sym (left_whole uses.table.map uses.agrees (flat_map resources_of (b c.args.cb).commands) (asked_in b c.args.cb) c.in-Some.ensures.index now)
    ∙ c.leave.ensures layout now c.requires.laid whole
