use Rattle.std.proofs.Common.{◌≡◌, refl, ap, sym, ◌∙◌, arith}
use Rattle.std.specs.FinMap as map
use Rattle.gfx_model.specs.Views.{commands_in, bytes_in}
use Rattle.gfx_commands.specs.Recording.{buffer_of}
use Rattle.gfx_commands.proofs.Counting.{commands_counted, bytes_counted, counted_over, counted_new}
use Rattle.gfx_commands.proofs.Buffers.{set_to}
use Rattle.gfx_commands.proofs.rows.Rows.begin.Goals as goal

pub without-self-inside-requires-clause-commands : goal.without-self-inside-requires-clause-commands
without-self-inside-requires-clause-commands c = commands_counted c.self.inside.table.map c.self.inside.totals c.self.invariant c.args.cb c.in-Some.row.now (sym c.in-Some.ensures.value)

pub without-self-inside-requires-clause-bytes : goal.without-self-inside-requires-clause-bytes
without-self-inside-requires-clause-bytes c = bytes_counted c.self.inside.table.map c.self.inside.totals c.self.invariant c.args.cb c.in-Some.row.now (sym c.in-Some.ensures.value)

pub invariant_of-self : goal.invariant_of-self
invariant_of-self c =
    let no_commands : commands_in (buffer_of c.restart.new.self) ≡ 0 = ap commands_in c.restart.ensures in
    let no_bytes : bytes_in (buffer_of c.restart.new.self) ≡ 0 = ap bytes_in c.restart.ensures in
    let a = c.without-self-inside.ensures.commands in
    let b = c.without-self-inside.ensures.bytes in
    let few = c.self.invariant.few in
    let small = c.self.invariant.small in
    counted_over c.self.inside.table.map c.self.inside.totals c.self.invariant c.args.cb c.in-Some.row.now (sym c.in-Some.ensures.value) c.restart.new.self _ _ refl
    (omega (arith, no_commands, a)) (omega (arith, no_bytes, b)) (omega (arith, few, a)) (omega (arith, small, b))

pub invariant_of-self-in-None : goal.invariant_of-self-in-None
invariant_of-self-in-None c =
    counted_new c.self.inside.table.map c.self.inside.totals c.self.invariant c.args.cb (sym c.in-None.ensures.value) c.new-row.result c.set.new.self.map c.set.ensures.map
    (ap commands_in c.new-row.ensures) (ap bytes_in c.new-row.ensures)

pub returns-in-Some : goal.returns-in-Some
returns-in-Some c = set_to c.args.self.now.map _ c.args.cb c.restart.new.self _ (ap (λ s. map.insert s.map c.args.cb c.restart.new.self) c.self.view_is) c.restart.ensures

pub returns-in-None : goal.returns-in-None
returns-in-None c =
    set_to c.args.self.now.map c.set.new.self.map c.args.cb c.new-row.result _ (c.set.ensures.map ∙ ap (λ s. map.insert s.map c.args.cb c.new-row.result) c.self.view_is) c.new-row.ensures
