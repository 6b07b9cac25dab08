use Rattle.std.proofs.Common.{◌≡◌, ◌∙◌, ◌<◌, ◌∷◌, length, sym, subst, arith}
use Rattle.std.proofs.lemmas.List.Elements.{All-get_or, All-rest}
use Rattle.gfx_seats.specs.Desk.{desk_id}
use Rattle.gfx_seats.specs.Seat.{desk_of}
use Rattle.gfx_recorder.specs.declared.worker.Worker.{Worker}
use Rattle.gfx_recorder.specs.Workers.{Met}
use Rattle.gfx_recorder.proofs.Meetings.{all-met}
use Rattle.gfx_recorder.proofs.phase.meet_all.Goals as goal

pub sweep-requires-2-clause-desk : goal.sweep-requires-2-clause-desk
sweep-requires-2-clause-desk c k d less =
    let at = λ (w : Worker). desk_of w.pass ≡ desk_id c.args.capture.now.desk in
    let all = All-rest at c.in-Some.first.now c.in-Some.others.now c.args.workers.now c.in-Some.ensures.cases.0 c.requires in
    let there : k < length c.in-Some.others.now = (let a = c.sweep.ensures.len in omega arith) in
    (c.sweep.ensures.met k d there).0.desk_is ∙ All-get_or at c.in-Some.others.now k d there all

pub returns : goal.returns
returns c =
    let a = c.in-Some.ensures.cases in
    subst (λ ws. Met ws (c.sweep-2.new.first ∷ c.sweep-2.new.others)) (sym a.0) (all-met _ _ _ _ _ _ c.sweep.ensures c.sweep-2.ensures)
