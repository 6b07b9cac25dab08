use Rattle.std.proofs.lemmas.Result.{on_ok_weaker}
use Rattle.gfx_device.specs.Places.{places}
use Rattle.gfx_replay.specs.Handles.{handle_of}
use Rattle.gfx_replay.proofs.Changes.{put_holds}
use Rattle.gfx_replay.proofs.Through.{kept_sound}
use Rattle.gfx_replay.proofs.places.Places.put.Goals as goal

pub invariant_of-self : goal.invariant_of-self
invariant_of-self c = record {
  sound = kept_sound (handle_of c.args.self.now.ids) (places c.args.self.now.device) (places c.run.new.self) c.handle.result c.args.self.now.sound c.run.ensures.others;
}

pub returns-clause-ok : goal.returns-clause-ok
returns-clause-ok c =
    on_ok_weaker c.run.result
    (put_holds (handle_of c.args.self.now.ids) (places c.args.self.now.device) (places c.run.new.self) c.args.place c.handle.result c.args.offset c.args.piece.now
    c.args.self.now.sound c.handle.ensures c.requires)
    c.run.ensures.ok
