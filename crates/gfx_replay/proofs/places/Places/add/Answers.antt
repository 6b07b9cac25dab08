use Rattle.std.proofs.Common.{replicate}
use Rattle.gfx_device.specs.Places.{places}
use Rattle.gfx_replay.specs.Handles.{handle_of}
use Rattle.gfx_replay.proofs.Through.{same_sound, same_bytes, added_sound}
use Rattle.gfx_replay.proofs.places.Places.add.Goals as goal

pub invariant_of-self : goal.invariant_of-self
invariant_of-self c = record {
  sound = same_sound (handle_of c.args.self.now.ids) (handle_of c.reserve.new.self) (places c.args.self.now.device) c.reserve.ensures.same c.args.self.now.sound;
}

pub invariant_of-self-in-Break-branch-2 : goal.invariant_of-self-in-Break-branch-2
invariant_of-self-in-Break-branch-2 c = record {
  sound =
      same_bytes (handle_of c.reserve.new.self) (places c.args.self.now.device) (places c.add_place.new.self) c.in_err-handle.ensures.err
      (same_sound (handle_of c.args.self.now.ids) (handle_of c.reserve.new.self) (places c.args.self.now.device) c.reserve.ensures.same c.args.self.now.sound);
}

pub invariant_of-self-2 : goal.invariant_of-self-2
invariant_of-self-2 c = record {
  sound =
      added_sound (handle_of c.reserve.new.self) (handle_of c.set.new.self) (places c.args.self.now.device) (places c.add_place.new.self) c.args.place c.in_ok-handle.handle (replicate c.args.length 0)
      (same_sound (handle_of c.args.self.now.ids) (handle_of c.reserve.new.self) (places c.args.self.now.device) c.reserve.ensures.same c.args.self.now.sound)
      c.in_ok-handle.ensures.vacant c.in_ok-handle.ensures.added c.set.ensures;
}
