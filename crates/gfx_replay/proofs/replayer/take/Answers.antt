use Rattle.std.proofs.Common.{ap, ◌∙◌, ◌++◌}
use Rattle.std.specs.Prelude.{filter}
use Rattle.gfx_model.specs.Events.{event_of}
use Rattle.gfx_objects.specs.Objects as objects
use Rattle.gfx_ops.specs.Operations.{changes_bytes}
use Rattle.gfx_tracker.specs.Operations.{ops_of}
use Rattle.gfx_tracker.specs.Tracker.{answers}
use Rattle.gfx_replay.specs.Places.{bytes_in}
use Rattle.gfx_replay.proofs.Taking.{within_now, vacant_now, ended_now, taken_now}
use Rattle.gfx_replay.proofs.replayer.take.Goals as goal

pub run_all-requires : goal.run_all-requires
run_all-requires c =
    within_now (answers c.args.tracker.now) (bytes_in c.args.places.now) (event_of c.args.effect.now) c.expand_bytes.new.ops c.given_bytes.result.now
    c.requires.standing c.requires.passes (c.in_ok-expand_bytes.ensures.ok ∙ ap (λ ops. ops ++ filter changes_bytes (ops_of (answers c.args.tracker.now) (event_of c.args.effect.now))) (c.of-ops.ensures ∙ c.new.ensures.items)) c.given_bytes.ensures

pub update-requires-clause-vacant : goal.update-requires-clause-vacant
update-requires-clause-vacant c =
    vacant_now (answers c.args.tracker.now) (bytes_in c.args.places.now) (bytes_in c.run_all.new.self) (event_of c.args.effect.now)
    c.requires.standing c.requires.passes c.run_all.ensures.sizes

pub update-requires-clause-ending : goal.update-requires-clause-ending
update-requires-clause-ending c =
    rw c.deref.ensures.value
    (ended_now (objects.answers c.objects.result.now) (answers c.args.tracker.now) (answers c.take.new.self) (objects.answers c.objects-2.result.now) (bytes_in c.args.places.now) (bytes_in c.run_all.new.self)
    (event_of c.args.effect.now) c.in_ok-ending.ending.items c.requires.standing c.requires.passes c.run_all.ensures.sizes c.objects.ensures c.in_ok-take.ensures.ok c.objects-2.ensures c.in_ok-ending.ensures)

pub returns : goal.returns
returns c =
    taken_now (answers c.args.tracker.now) (answers c.take.new.self) (objects.answers c.objects-2.result.now) (bytes_in c.args.places.now) (bytes_in c.run_all.new.self) (bytes_in c.update.new.places)
    (event_of c.args.effect.now) c.expand_bytes.new.ops c.given_bytes.result.now c.in_ok-shown.shown c.requires.passes c.in_ok-take.ensures.ok
    (c.in_ok-expand_bytes.ensures.ok ∙ ap (λ ops. ops ++ filter changes_bytes (ops_of (answers c.args.tracker.now) (event_of c.args.effect.now))) (c.of-ops.ensures ∙ c.new.ensures.items)) c.given_bytes.ensures c.run_all.ensures.sizes c.in_ok-run_all.ensures.ok c.objects-2.ensures c.in_ok-update.ensures c.in_ok-shown.ensures
