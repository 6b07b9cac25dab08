use Rattle.std.proofs.Common.{◌∙◌, [], ◌∷◌, map, ap, sym, subst}
use Rattle.std.specs.Prelude.{OnOk, IfErr}
use Rattle.gfx_model.specs.Events.{event_of}
use Rattle.gfx_seats.specs.Entries.{AreAmong}
use Rattle.gfx_capture.specs.Entry.{event_ids}
use Rattle.gfx_capture.specs.ThreadBuffer.{CanBePut}
use Rattle.gfx_recorder.specs.Ids.{id_in}
use Rattle.gfx_recorder.specs.Work.{hand_of, Puts, Stops}
use Rattle.gfx_recorder.proofs.LineCalls.{line-call}
use Rattle.gfx_recorder.proofs.worker.Worker.run_line.Goals as goal

pub run_effect-requires-clause-drew : goal.run_effect-requires-clause-drew
run_effect-requires-clause-drew g c =
    let ids = map (id_in c.args.table.now) in
    let is = line-call c.args.table.now c.args.line.now (event_of c.in-Ok-effect.effect) c.deref.result.now c.deref-2.result.now c.in-Ok-effect.ensures
    (c.deref.ensures.value ∙ (c.in-Ok.ensures ∙ ap ids c.items.ensures)) (c.deref-2.ensures.value ∙ (c.in-Ok-ids_of.ensures ∙ ap ids c.items-2.ensures)) in
    subst (λ e. AreAmong (event_ids e) (hand_of c.args.self.now).drawn) (sym is) c.requires.drew

pub run_effect-requires-clause-block : goal.run_effect-requires-clause-block
run_effect-requires-clause-block g c =
    let ids = map (id_in c.args.table.now) in
    let is = line-call c.args.table.now c.args.line.now (event_of c.in-Ok-effect.effect) c.deref.result.now c.deref-2.result.now c.in-Ok-effect.ensures
    (c.deref.ensures.value ∙ (c.in-Ok.ensures ∙ ap ids c.items.ensures)) (c.deref-2.ensures.value ∙ (c.in-Ok-ids_of.ensures ∙ ap ids c.items-2.ensures)) in
    subst (CanBePut (hand_of c.args.self.now).kind) (sym is) c.requires.block

pub returns-in-Ok-effect-clause-ok : goal.returns-in-Ok-effect-clause-ok
returns-in-Ok-effect-clause-ok g c =
    let ids = map (id_in c.args.table.now) in
    let is = line-call c.args.table.now c.args.line.now (event_of c.in-Ok-effect.effect) c.deref.result.now c.deref-2.result.now c.in-Ok-effect.ensures
    (c.deref.ensures.value ∙ (c.in-Ok.ensures ∙ ap ids c.items.ensures)) (c.deref-2.ensures.value ∙ (c.in-Ok-ids_of.ensures ∙ ap ids c.items-2.ensures)) in
    subst (λ e. OnOk c.run_effect.result (Puts c.args.self.now (e ∷ []) c.run_effect.new.self)) is c.run_effect.ensures.ok

pub returns-in-Ok-effect-clause-err : goal.returns-in-Ok-effect-clause-err
returns-in-Ok-effect-clause-err g c =
    let ids = map (id_in c.args.table.now) in
    let is = line-call c.args.table.now c.args.line.now (event_of c.in-Ok-effect.effect) c.deref.result.now c.deref-2.result.now c.in-Ok-effect.ensures
    (c.deref.ensures.value ∙ (c.in-Ok.ensures ∙ ap ids c.items.ensures)) (c.deref-2.ensures.value ∙ (c.in-Ok-ids_of.ensures ∙ ap ids c.items-2.ensures)) in
    subst (λ e. IfErr c.run_effect.result (λ fault. Stops c.args.self.now (e ∷ []) fault c.run_effect.new.self)) is c.run_effect.ensures.err
