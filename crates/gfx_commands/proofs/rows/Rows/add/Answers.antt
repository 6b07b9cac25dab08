use Rattle.std.proofs.Common.{◌≡◌, ◌++◌, ◌∷◌, [], Some, length, is_some, refl, ap, sym, ◌∙◌, arith, length-append}
use Rattle.std.specs.FinMap as map
use Rattle.std.proofs.lemmas.Result.{err_from_is_err_and}
use Rattle.gfx_table.specs.Rows.{insert_same}
use Rattle.gfx_model.specs.Events.{event_of_call}
use Rattle.gfx_model.specs.Steps.{resources_of}
use Rattle.gfx_model.specs.Questions.{Buffer}
use Rattle.gfx_model.specs.Views.{commands_in, bytes_in}
use Rattle.gfx_model.specs.Checks.{is_recording}
use Rattle.gfx_commands.specs.declared.recording.Recording.{Recording}
use Rattle.gfx_commands.specs.Recording.{state_of, buffer_of, names}
use Rattle.gfx_commands.specs.Commands.{events_in, bytes_of}
use Rattle.gfx_commands.specs.Recordings.{buffers, commands_total, bytes_total}
use Rattle.gfx_commands.proofs.Added.{bytes_of-more}
use Rattle.gfx_commands.proofs.Buffers.{found, recording_kept, recording_row, changed}
use Rattle.gfx_commands.proofs.Places.{same_all}
use Rattle.gfx_commands.proofs.Counting.{counted_over}
use Rattle.gfx_commands.proofs.rows.Rows.add.Goals as goal

pub unreachable-requires : goal.unreachable-requires
unreachable-requires c =
    let kept = recording_kept c.args.self.now.map c.args.cb c.requires.recording in
    let none = ap is_some (c.in_default.ensures.value ∙ ap (λ s. map.get s.map c.args.cb) c.self.view_is) in
    absurd (grind (arith, kept, none))

pub add-requires-clause-known : goal.add-requires-clause-known
add-requires-clause-known c = λ known.
    let m = c.args.self.now.map in
    let row = c.in-Some.row.now in
    let at = found m c.args.cb (Some row) (ap (λ s. map.get s.map c.args.cb) (sym c.self.view_is) ∙ sym c.in-Some.ensures.value) in
    sym (same_all (λ x. names x (buffers m c.args.cb)) (λ x. names x (buffer_of row)) (λ x. ap (names x) at) (resources_of (event_of_call c.args.call.now))) ∙ c.requires.known known

pub invariant_of-self : goal.invariant_of-self
invariant_of-self c =
    let row = c.in-Some.row.now in
    let same = ap (λ cs. buffer_of (record { state = row.state; flags = row.flags; commands = cs })) c.in_err-bytes.ensures.err in
    let commands = ap commands_in same in
    let bytes = ap bytes_in same in
    counted_over c.self.inside.table.map c.self.inside.totals c.self.invariant c.args.cb row (sym c.in-Some.ensures.value) _ _ c.self.inside.totals refl
    (omega (arith, commands)) (omega (arith, bytes)) c.self.invariant.few c.self.invariant.small

pub returns-in_err-bytes-clause-err : goal.returns-in_err-bytes-clause-err
returns-in_err-bytes-clause-err c =
    let row = c.in-Some.row.now in
    let m = c.self.inside.table.map in
    let p = err_from_is_err_and c.from_residual.result c.from_residual.ensures.1 in
    rw p.1
    (ap (λ cs. map.insert m c.args.cb (record { state = row.state; flags = row.flags; commands = cs })) c.in_err-bytes.ensures.err
    ∙ insert_same m c.args.cb row (sym c.in-Some.ensures.value) ∙ ap (λ s. s.map) c.self.view_is)

pub invariant_of-self-2 : goal.invariant_of-self-2
invariant_of-self-2 c =
    let row = c.in-Some.row.now in
    let e = event_of_call c.args.call.now in
    let now : Recording = record { state = row.state; flags = row.flags; commands = c.add.new.self } in
    let some = sym c.in-Some.ensures.value in
    let state = recording_row c.self.inside.table.map c.args.cb row some (ap (λ s. is_recording (buffers s.map c.args.cb).state) c.self.view_is ∙ c.requires.recording) in
    let commands : commands_in (buffer_of row) ≡ length (events_in row.commands)
    = ap (λ s. commands_in (record { state = s; flags = row.flags; commands = events_in row.commands })) state in
    let bytes : bytes_in (buffer_of row) ≡ bytes_of (events_in row.commands)
    = ap (λ s. bytes_in (record { state = s; flags = row.flags; commands = events_in row.commands })) state in
    let commands_now : commands_in (buffer_of now) ≡ length (events_in row.commands ++ e ∷ [])
    = ap (λ s. commands_in (record { state = s; flags = row.flags; commands = events_in c.add.new.self })) state ∙ ap length c.in_ok-bytes.ensures.ok in
    let bytes_now : bytes_in (buffer_of now) ≡ bytes_of (events_in row.commands ++ e ∷ [])
    = ap (λ s. bytes_in (record { state = s; flags = row.flags; commands = events_in c.add.new.self })) state ∙ ap bytes_of c.in_ok-bytes.ensures.ok in
    let one = length-append (events_in row.commands) (e ∷ []) in
    let its = bytes_of-more (events_in row.commands) e in
    let told = c.in_ok-bytes.ensures.bytes in
    let few = c.requires.few in
    let small = c.requires.small in
    let all_commands = c.self.invariant.commands ∙ ap (λ s. commands_total s.map) c.self.view_is in
    let all_bytes = c.self.invariant.bytes ∙ ap (λ s. bytes_total s.map) c.self.view_is in
    counted_over c.self.inside.table.map c.self.inside.totals c.self.invariant c.args.cb row some now _ _ refl
    (omega (arith, commands, commands_now, one)) (omega (arith, bytes, bytes_now, its, told)) (omega (arith, few, all_commands)) (omega (arith, small, all_bytes, told))

pub returns-clause-ok : goal.returns-clause-ok
returns-clause-ok c =
    let add = λ (b : Buffer). record b { commands = b.commands ++ event_of_call c.args.call.now ∷ [] } in
    let row = c.in-Some.row.now in
    let now : Recording = record { state = row.state; flags = row.flags; commands = c.add.new.self } in
    changed c.args.self.now.map _ c.args.cb row (ap (λ s. map.get s.map c.args.cb) (sym c.self.view_is) ∙ sym c.in-Some.ensures.value) now add
    (ap (λ s. map.insert s.map c.args.cb now) c.self.view_is) (ap (λ events. record { state = state_of row.state; flags = row.flags; commands = events }) c.in_ok-bytes.ensures.ok)
