use Rattle.std.proofs.Common.{ℕ, ◌∙◌, ◌+◌, ◌<◌, ◌≤◌, ◌^◌, All, List, map, sym, subst, take, drop, length, get_or}
use Rattle.std.specs.List.{AllByRecursion}
use Rattle.gfx_script.specs.declared.script.Part.{Part}
use Rattle.gfx_script.specs.Line.{part_of, phase_of, phases_of}
use Rattle.gfx_script_model.specs.Runs.{lines_in}
use Rattle.gfx_seats.specs.Desk.{desk_id}
use Rattle.gfx_run_law.specs.Pieces.{AreApart}
use Rattle.gfx_script_law.specs.Playable.{AreNumbered, names_of, phase_lines}
use Rattle.gfx_recorder.specs.declared.worker.Worker.{Worker}
use Rattle.gfx_recorder.specs.Drawn.{AllDrew}
use Rattle.gfx_recorder.specs.Ids.{id_in}
use Rattle.gfx_recorder.specs.Progress.{Reached, Halfway}
use Rattle.gfx_recorder.specs.Work.{hand_of, CanRun, Ran}
use Rattle.gfx_recorder.proofs.Phases.{one-of, desks, drawn-few, phase-numbered, phase-few, ables, desks-after, stopped, reached}
use Rattle.gfx_recorder.proofs.Walks.{phases-cut, phases-next, all-numbered, all-few, phase-apart, phase-blocks, phase-below}
use Rattle.gfx_recorder.proofs.run.run_phases.Goals as goal

pub draw_parts-requires-clause-desk : goal.draw_parts-requires-clause-desk
draw_parts-requires-clause-desk g c =
    let m = c.args.minor in let desk = desk_id c.args.capture.now.desk in let n = length c.args.workers.now in let ps = c.args.phases.now in
    let i = c.phases.phase-index in let p = c.phase-item.result in let less = c.phases-test.true in let is = c.phase-item.is in
    let before = take i (phases_of ps) in let rest = drop (i + 1) (phases_of ps) in let table = c.phases.table.items in let ws = c.phases.workers in
    let r = c.phases.invariant.reached in let numbered = all-numbered m n ps i p less is c.requires.playable in
    desks m desk n before (phase_of p) rest table ws r numbered

pub draw_parts-requires-clause-apart : goal.draw_parts-requires-clause-apart
draw_parts-requires-clause-apart g c =
    let m = c.args.minor in let desk = desk_id c.args.capture.now.desk in let n = length c.args.workers.now in let ps = c.args.phases.now in
    let i = c.phases.phase-index in let p = c.phase-item.result in let less = c.phases-test.true in let is = c.phase-item.is in
    let before = take i (phases_of ps) in let rest = drop (i + 1) (phases_of ps) in let table = c.phases.table.items in let ws = c.phases.workers in
    let r = c.phases.invariant.reached in let numbered = all-numbered m n ps i p less is c.requires.playable in
    subst (λ (l : List Part). AreApart (map part_of l)) (sym c.items.ensures) (phase-apart m n ps i p less is c.requires.playable)

pub draw_parts-requires-clause-threads : goal.draw_parts-requires-clause-threads
draw_parts-requires-clause-threads g c =
    let m = c.args.minor in let desk = desk_id c.args.capture.now.desk in let n = length c.args.workers.now in let ps = c.args.phases.now in
    let i = c.phases.phase-index in let p = c.phase-item.result in let less = c.phases-test.true in let is = c.phase-item.is in
    let before = take i (phases_of ps) in let rest = drop (i + 1) (phases_of ps) in let table = c.phases.table.items in let ws = c.phases.workers in
    let r = c.phases.invariant.reached in let numbered = all-numbered m n ps i p less is c.requires.playable in
    subst (λ (k : ℕ). AllByRecursion (λ q. q.thread < k) (map part_of c.items.result.now)) (sym r.len)
    (subst (λ (l : List Part). AllByRecursion (λ q. q.thread < n) (map part_of l)) (sym c.items.ensures) (phase-below m n ps i p less is c.requires.phases))

pub draw_parts-requires-clause-numbered : goal.draw_parts-requires-clause-numbered
draw_parts-requires-clause-numbered g c =
    let m = c.args.minor in let desk = desk_id c.args.capture.now.desk in let n = length c.args.workers.now in let ps = c.args.phases.now in
    let i = c.phases.phase-index in let p = c.phase-item.result in let less = c.phases-test.true in let is = c.phase-item.is in
    let before = take i (phases_of ps) in let rest = drop (i + 1) (phases_of ps) in let table = c.phases.table.items in let ws = c.phases.workers in
    let r = c.phases.invariant.reached in let numbered = all-numbered m n ps i p less is c.requires.playable in
    subst (λ (l : List Part). AreNumbered (length table) (phase_lines (map part_of l))) (sym c.items.ensures) (phase-numbered m desk n before (phase_of p) rest table ws r numbered)

pub draw_parts-requires-clause-drawn : goal.draw_parts-requires-clause-drawn
draw_parts-requires-clause-drawn g c =
    let m = c.args.minor in let desk = desk_id c.args.capture.now.desk in let n = length c.args.workers.now in let ps = c.args.phases.now in
    let i = c.phases.phase-index in let p = c.phase-item.result in let less = c.phases-test.true in let is = c.phase-item.is in
    let before = take i (phases_of ps) in let rest = drop (i + 1) (phases_of ps) in let table = c.phases.table.items in let ws = c.phases.workers in
    let r = c.phases.invariant.reached in let numbered = all-numbered m n ps i p less is c.requires.playable in
    drawn-few m desk n before (phase_of p) rest table ws r numbered

pub draw_parts-requires-clause-few : goal.draw_parts-requires-clause-few
draw_parts-requires-clause-few g c =
    let m = c.args.minor in let desk = desk_id c.args.capture.now.desk in let n = length c.args.workers.now in let ps = c.args.phases.now in
    let i = c.phases.phase-index in let p = c.phase-item.result in let less = c.phases-test.true in let is = c.phase-item.is in
    let before = take i (phases_of ps) in let rest = drop (i + 1) (phases_of ps) in let table = c.phases.table.items in let ws = c.phases.workers in
    let r = c.phases.invariant.reached in let numbered = all-numbered m n ps i p less is c.requires.playable in
    subst (λ (l : List Part). length table + length (names_of (phase_lines (map part_of l))) ≤ 2 ^ 32) (sym c.items.ensures)
    (phase-few m desk n before (phase_of p) rest table ws r numbered (all-few m n ps i p less is c.requires.playable))

pub run_phase-requires-clause-able : goal.run_phase-requires-clause-able
run_phase-requires-clause-able g c κs within =
    let m = c.args.minor in let desk = desk_id c.args.capture.now.desk in let n = length c.args.workers.now in let ps = c.args.phases.now in
    let i = c.phases.phase-index in let p = c.phase-item.result in let less = c.phases-test.true in let is = c.phase-item.is in
    let before = take i (phases_of ps) in let rest = drop (i + 1) (phases_of ps) in let table = c.phases.table.items in let ws = c.phases.workers in
    let r = c.phases.invariant.reached in let numbered = all-numbered m n ps i p less is c.requires.playable in
    let ws₁ = c.draw_parts.new.workers in let table₁ = c.draw_parts.new.table.items in
    let drew : AllDrew (phase_of p) ws table ws₁ table₁ = subst (λ (l : List Part). AllDrew (map part_of l) ws table ws₁ table₁) c.items.ensures c.in_ok-draw_parts.ensures.drew in
    subst (λ (t : List ℕ). All (λ w. CanRun desk (id_in t) (lines_in (hand_of w).thread (phase_of p)) w) ws₁) (sym c.deref-in-phases.ensures.value)
    (ables m desk n before (phase_of p) rest table ws r numbered ws₁ table₁ drew
    (λ k. subst (λ (t : List ℕ). id_in t k < 2 ^ 64) c.deref.ensures.value (c.are_wide.ensures k)) (phase-blocks m n ps i p less is c.requires.playable))

pub returns-then-not-all_done : goal.returns-then-not-all_done
returns-then-not-all_done g c =
    let m = c.args.minor in let desk = desk_id c.args.capture.now.desk in let n = length c.args.workers.now in let ps = c.args.phases.now in
    let i = c.phases.phase-index in let p = c.phase-item.result in let less = c.phases-test.true in let is = c.phase-item.is in
    let before = take i (phases_of ps) in let rest = drop (i + 1) (phases_of ps) in let table = c.phases.table.items in let ws = c.phases.workers in
    let r = c.phases.invariant.reached in let numbered = all-numbered m n ps i p less is c.requires.playable in
    let ws₁ = c.draw_parts.new.workers in let table₁ = c.draw_parts.new.table.items in
    let drew : AllDrew (phase_of p) ws table ws₁ table₁ = subst (λ (l : List Part). AllDrew (map part_of l) ws table ws₁ table₁) c.items.ensures c.in_ok-draw_parts.ensures.drew in
    let ws₂ = c.run_phase.new.workers in let long = c.run_phase.auto.workers in
    let ran = subst (λ (t : List ℕ). (k : ℕ) (d : Worker) → k < length ws₁ → Ran (id_in t) (lines_in (hand_of (get_or ws₁ k d)).thread (phase_of p)) (get_or ws₁ k d) (get_or ws₂ k d)) c.deref-in-phases.ensures.value c.run_phase.ensures in
    subst (λ z. Halfway m desk n z table₁ ws₂) (sym (phases-cut m n ps i p less is))
    (stopped m desk n before (phase_of p) rest table ws r numbered ws₁ table₁ drew ws₂ long ran (sym c.all_done.ensures ∙ c.if-not-all_done.true))

pub meet_all-requires : goal.meet_all-requires
meet_all-requires g c =
    let m = c.args.minor in let desk = desk_id c.args.capture.now.desk in let n = length c.args.workers.now in let ps = c.args.phases.now in
    let i = c.phases.phase-index in let p = c.phase-item.result in let less = c.phases-test.true in let is = c.phase-item.is in
    let before = take i (phases_of ps) in let rest = drop (i + 1) (phases_of ps) in let table = c.phases.table.items in let ws = c.phases.workers in
    let r = c.phases.invariant.reached in let numbered = all-numbered m n ps i p less is c.requires.playable in
    let ws₁ = c.draw_parts.new.workers in let table₁ = c.draw_parts.new.table.items in
    let drew : AllDrew (phase_of p) ws table ws₁ table₁ = subst (λ (l : List Part). AllDrew (map part_of l) ws table ws₁ table₁) c.items.ensures c.in_ok-draw_parts.ensures.drew in
    let ws₂ = c.run_phase.new.workers in let long = c.run_phase.auto.workers in
    let ran = subst (λ (t : List ℕ). (k : ℕ) (d : Worker) → k < length ws₁ → Ran (id_in t) (lines_in (hand_of (get_or ws₁ k d)).thread (phase_of p)) (get_or ws₁ k d) (get_or ws₂ k d)) c.deref-in-phases.ensures.value c.run_phase.ensures in
    desks-after m desk n before (phase_of p) rest table ws r numbered ws₁ table₁ drew ws₂ long ran

pub phases-preserved : goal.phases-preserved
phases-preserved g c =
    let m = c.args.minor in let desk = desk_id c.args.capture.now.desk in let n = length c.args.workers.now in let ps = c.args.phases.now in
    let i = c.phases.phase-index in let p = c.phase-item.result in let less = c.phases-test.true in let is = c.phase-item.is in
    let before = take i (phases_of ps) in let rest = drop (i + 1) (phases_of ps) in let table = c.phases.table.items in let ws = c.phases.workers in
    let r = c.phases.invariant.reached in let numbered = all-numbered m n ps i p less is c.requires.playable in
    let ws₁ = c.draw_parts.new.workers in let table₁ = c.draw_parts.new.table.items in
    let drew : AllDrew (phase_of p) ws table ws₁ table₁ = subst (λ (l : List Part). AllDrew (map part_of l) ws table ws₁ table₁) c.items.ensures c.in_ok-draw_parts.ensures.drew in
    let ws₂ = c.run_phase.new.workers in let long = c.run_phase.auto.workers in
    let ran = subst (λ (t : List ℕ). (k : ℕ) (d : Worker) → k < length ws₁ → Ran (id_in t) (lines_in (hand_of (get_or ws₁ k d)).thread (phase_of p)) (get_or ws₁ k d) (get_or ws₂ k d)) c.deref-in-phases.ensures.value c.run_phase.ensures in
    let ws₃ = c.meet_all.new.workers in let met = c.meet_all.ensures in record {
      len = met.len ∙ (long ∙ (drew.len ∙ c.phases.invariant.len));
      reached = subst (λ z. Reached m desk n z table₁ ws₃) (sym (phases-next m n ps i p less is))
          (reached m desk n before (phase_of p) rest table ws r numbered ws₁ table₁ drew ws₂ long ran ws₃ met (sym c.all_done.ensures ∙ c.if-not-all_done.false)
          c.requires.some (one-of c.args.workers.now c.requires.some));
    }
