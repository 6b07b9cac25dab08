use Rattle.std.proofs.Common.{◌≡◌, ◌∙◌, All, List, map, length, true, sym, refl, ap, subst}
use Rattle.std.specs.Prelude.{MatchBool}
use Rattle.std.specs.List.{list_any}
use Rattle.std.proofs.lemmas.Simd.{map-map}
use Rattle.gfx_script.specs.Line.{phases_of}
use Rattle.gfx_script_model.specs.Runs.{Entry}
use Rattle.gfx_seats.specs.declared.hand.Hand.{Hand}
use Rattle.gfx_seats.specs.declared.stage.Stage.TheVariants.{Idle}
use Rattle.gfx_seats.specs.Desk.{desk_id, Closes}
use Rattle.gfx_seats.specs.Seat.{hand, desk_of}
use Rattle.gfx_capture.specs.Entry.{entry_thread}
use Rattle.gfx_recorder.specs.declared.worker.Worker.{Worker}
use Rattle.gfx_recorder.specs.Ends.{is_all, is_memory}
use Rattle.gfx_recorder.specs.Outcomes.{IsOutcome, IsFirstEnd}
use Rattle.gfx_recorder.specs.Work.{hand_of}
use Rattle.gfx_recorder.proofs.Concluding.{none-true, all-mapped, closed, minor-is, desks, threads-are, kinds-are, idle, made-of-drawn, concluded}
use Rattle.gfx_recorder.proofs.Phases.{one-of}
use Rattle.gfx_recorder.proofs.finish.close.Goals as goal

pub close-log-requires-clause-capture : goal.close-log-requires-clause-capture
close-log-requires-clause-capture c =
    let desk = desk_id c.args.capture.desk in let ws = c.args.workers.items in
    subst (All (λ p. desk_of p ≡ desk)) (sym c.in-Ok.ensures)
    (all-mapped (λ (w : Worker). w.pass) (λ p. desk_of p ≡ desk) ws (desks c.args.minor desk (length ws) (phases_of c.args.phases.now) c.args.table.value.items ws c.args.all c.requires.ran))

pub close-log-requires-clause-idle : goal.close-log-requires-clause-idle
close-log-requires-clause-idle c =
    let desk = desk_id c.args.capture.desk in let ws = c.args.workers.items in
    subst (All (λ p. (hand p).stage ≡ Idle)) (sym c.in-Ok.ensures)
    (all-mapped (λ (w : Worker). w.pass) (λ p. (hand p).stage ≡ Idle) ws (idle c.args.minor desk (length ws) (phases_of c.args.phases.now) c.args.table.value.items ws c.args.all c.requires.ran))

pub returns-clause-outcome : goal.returns-clause-outcome
returns-clause-outcome c =
    let m = c.args.minor in let desk = desk_id c.args.capture.desk in let ws = c.args.workers.items in let n = length ws in
    let phases = phases_of c.args.phases.now in let table = c.args.table.value.items in let b = c.args.all in let ran = c.requires.ran in
    let pos = c.requires.some in let d₀ = one-of ws pos in let log = c.close-log.result in
    let hands : map (λ p. hand p) c.in-Ok.passes.items ≡ map hand_of ws = ap (map (λ p. hand p)) c.in-Ok.ensures ∙ map-map (λ p. hand p) (λ (w : Worker). w.pass) ws in
    let closes = subst (λ (hs : List (Hand Entry)). Closes (λ l. l.entries) entry_thread (λ l. l.minor) hs log) hands c.close-log.ensures.closed in
    let threads = threads-are m desk n phases table ws b ran in let drew = made-of-drawn m desk n phases table ws b ran in
    subst (IsOutcome m phases) (sym c.outcome.ensures)
    (concluded m desk n phases table ws log d₀ c.requires.phases pos
    (minor-is n log ws refl threads drew closes m d₀ pos (kinds-are m desk n phases table ws b ran 0 d₀ pos))
    (closed n log ws refl threads drew closes c.is_sound.ensures) b ran
    (λ i less. none-true (λ (w : Worker). is_memory w.end) ws (sym (c.any_memory.ensures ∙ ap (list_any (λ (w : Worker). is_memory w.end)) c.deref.ensures.value) ∙ c.if-any_memory.false) i d₀ less)
    c.end_of-end.result (subst (λ l. MatchBool b (is_all c.end_of-end.result ≡ true) (IsFirstEnd l c.end_of-end.result)) c.deref-2.ensures.value c.end_of-end.ensures))
