use Rattle.std.proofs.Common.{◌≡◌, ◌==◌, Bool, true, false, if◌then◌else◌, refl, ap, sym, ◌∙◌, arith}
use Rattle.std.specs.FinMap as map
use Rattle.gfx_model.specs.Questions.{Buffer, invalidated, is_kept}
use Rattle.gfx_model.specs.Views.{commands_in, bytes_in}
use Rattle.gfx_commands.specs.Recording.{buffer_of}
use Rattle.gfx_commands.specs.Recordings.{buffers}
use Rattle.gfx_commands.proofs.Buffers.{changed, stays_new}
use Rattle.gfx_commands.proofs.Counting.{commands_counted, bytes_counted, counted_over}
use Rattle.gfx_commands.proofs.rows.Rows.invalidate.Goals as goal

pub without-self-inside-requires-clause-commands : goal.without-self-inside-requires-clause-commands
without-self-inside-requires-clause-commands c = commands_counted c.self.inside.table.map c.self.inside.totals c.self.invariant c.args.cb c.in-Some.row.now (sym c.in-Some.ensures.value)

pub without-self-inside-requires-clause-bytes : goal.without-self-inside-requires-clause-bytes
without-self-inside-requires-clause-bytes c = bytes_counted c.self.inside.table.map c.self.inside.totals c.self.invariant c.args.cb c.in-Some.row.now (sym c.in-Some.ensures.value)

-- an invalid buffer counts nothing
nothing_left : (b : Buffer) → (commands_in (invalidated true b) ≡ 0) × (bytes_in (invalidated true b) ≡ 0)
nothing_left b = cases (is_kept b.state) refl
  where
    cases : (t : Bool) → is_kept b.state ≡ t → (commands_in (invalidated true b) ≡ 0) × (bytes_in (invalidated true b) ≡ 0)
    cases true e = (grind (arith, e), grind (arith, e))
    cases false e = (grind (arith, e), grind (arith, e))

pub invariant_of-self : goal.invariant_of-self
invariant_of-self c =
    let left = nothing_left (buffer_of c.in-Some.row.now) in
    let commands = ap commands_in c.invalidate.ensures ∙ left.0 in
    let bytes = ap bytes_in c.invalidate.ensures ∙ left.1 in
    let a = c.without-self-inside.ensures.commands in
    let b = c.without-self-inside.ensures.bytes in
    let d = c.with-self-inside.ensures.commands in
    let e = c.with-self-inside.ensures.bytes in
    let few = c.self.invariant.few in
    let small = c.self.invariant.small in
    counted_over c.self.inside.table.map c.self.inside.totals c.self.invariant c.args.cb c.in-Some.row.now (sym c.in-Some.ensures.value) c.invalidate.new.self _ _ refl
    (omega (arith, a, d)) (omega (arith, b, e)) (omega (arith, few, a, d, commands)) (omega (arith, small, b, e, bytes))

pub returns-in-Some : goal.returns-in-Some
returns-in-Some c =
    changed c.args.self.now.map _ c.args.cb c.in-Some.row.now (ap (λ s. map.get s.map c.args.cb) (sym c.self.view_is) ∙ sym c.in-Some.ensures.value) c.invalidate.new.self (invalidated true)
    (ap (λ s. map.insert s.map c.args.cb c.invalidate.new.self) c.self.view_is) c.invalidate.ensures

pub returns-in_default : goal.returns-in_default
returns-in_default c =
    stays_new c.self.inside.table.map c.args.cb (sym c.in_default.ensures.value)
    ∙ ap (λ s x. if c.args.cb == x then invalidated true (buffers s.map x) else buffers s.map x) c.self.view_is
