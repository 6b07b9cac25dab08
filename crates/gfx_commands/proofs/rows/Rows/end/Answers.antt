use Rattle.std.proofs.Common.{◌≡◌, length, is_some, refl, ap, sym, ◌∙◌, arith}
use Rattle.std.specs.FinMap as map
use Rattle.gfx_model.specs.Questions.{State, Buffer}
use Rattle.gfx_model.specs.Views.{commands_in, bytes_in}
use Rattle.gfx_model.specs.Checks.{is_recording}
use Rattle.gfx_commands.specs.declared.recording.CbState.TheVariants.{Executable}
use Rattle.gfx_commands.specs.declared.recording.Recording.{Recording}
use Rattle.gfx_commands.specs.Recording.{buffer_of}
use Rattle.gfx_commands.specs.Commands.{events_in, bytes_of}
use Rattle.gfx_commands.specs.Recordings.{buffers}
use Rattle.gfx_commands.proofs.Buffers.{recording_kept, recording_row, changed}
use Rattle.gfx_commands.proofs.Counting.{counted_over}
use Rattle.gfx_commands.proofs.rows.Rows.end.Goals as goal

pub unreachable-requires : goal.unreachable-requires
unreachable-requires c =
    let kept = recording_kept c.args.self.now.map c.args.cb c.requires in
    let none = ap is_some (c.in_default.ensures.value ∙ ap (λ s. map.get s.map c.args.cb) c.self.view_is) in
    absurd (grind (arith, kept, none))

pub invariant_of-self : goal.invariant_of-self
invariant_of-self c =
    let row = c.in-Some.row.now in
    let some = sym c.in-Some.ensures.value in
    let state = recording_row c.self.inside.table.map c.args.cb row some (ap (λ s. is_recording (buffers s.map c.args.cb).state) c.self.view_is ∙ c.requires) in
    let commands : commands_in (buffer_of row) ≡ length (events_in row.commands)
    = ap (λ s. commands_in (record { state = s; flags = row.flags; commands = events_in row.commands })) state in
    let bytes : bytes_in (buffer_of row) ≡ bytes_of (events_in row.commands)
    = ap (λ s. bytes_in (record { state = s; flags = row.flags; commands = events_in row.commands })) state in
    counted_over c.self.inside.table.map c.self.inside.totals c.self.invariant c.args.cb row some _ _ c.self.inside.totals refl
    (omega (arith, commands)) (omega (arith, bytes)) c.self.invariant.few c.self.invariant.small

pub returns : goal.returns
returns c =
    let end = λ (b : Buffer). record b { state = State.executable } in
    let row = c.in-Some.row.now in
    let now : Recording = record { state = Executable; flags = row.flags; commands = row.commands } in
    changed c.args.self.now.map _ c.args.cb row (ap (λ s. map.get s.map c.args.cb) (sym c.self.view_is) ∙ sym c.in-Some.ensures.value) now end
    (ap (λ s. map.insert s.map c.args.cb now) c.self.view_is) refl
