use Rattle.std.proofs.Common.{ap, sym, ◌∙◌}
use Rattle.std.specs.FinMap as map
use Rattle.gfx_commands.proofs.Counting.{commands_counted, bytes_counted, counted_without, counted_still}
use Rattle.gfx_commands.proofs.Buffers.{taken_out}
use Rattle.gfx_commands.proofs.rows.Rows.remove.Goals as goal

pub without-self-inside-requires-clause-commands : goal.without-self-inside-requires-clause-commands
without-self-inside-requires-clause-commands c = commands_counted c.self.inside.table.map c.self.inside.totals c.self.invariant c.args.cb c.in-Some.before (sym c.in-Some.ensures.value)

pub without-self-inside-requires-clause-bytes : goal.without-self-inside-requires-clause-bytes
without-self-inside-requires-clause-bytes c = bytes_counted c.self.inside.table.map c.self.inside.totals c.self.invariant c.args.cb c.in-Some.before (sym c.in-Some.ensures.value)

pub invariant_of-self : goal.invariant_of-self
invariant_of-self c =
    counted_without c.self.inside.table.map c.self.inside.totals c.self.invariant c.args.cb c.in-Some.before (sym c.in-Some.ensures.value) c.remove.new.self.map _ c.in-Some.ensures.map
    c.without-self-inside.ensures.commands c.without-self-inside.ensures.bytes

pub invariant_of-self-in-None : goal.invariant_of-self-in-None
invariant_of-self-in-None c =
    counted_still c.self.inside.table.map c.self.inside.totals c.self.invariant c.args.cb (sym c.in-None.ensures.value) c.remove.new.self.map c.in-None.ensures.map

pub returns-in-Some-clause-buffers : goal.returns-in-Some-clause-buffers
returns-in-Some-clause-buffers c = taken_out c.args.self.now.map c.remove.new.self.map c.args.cb (c.in-Some.ensures.map ∙ ap (λ s. map.remove s.map c.args.cb) c.self.view_is)

pub returns-in-None-clause-buffers : goal.returns-in-None-clause-buffers
returns-in-None-clause-buffers c = taken_out c.args.self.now.map c.remove.new.self.map c.args.cb (c.in-None.ensures.map ∙ ap (λ s. map.remove s.map c.args.cb) c.self.view_is)
