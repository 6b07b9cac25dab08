use Rattle.std.proofs.Common.{sym, ◌∙◌}
use Rattle.gfx_device.specs.Places.{places}
use Rattle.gfx_replay.specs.Handles.{handle_of}
use Rattle.gfx_replay.proofs.Through.{same_sound, nothing_dropped, dropped_sound}
use Rattle.gfx_replay.proofs.places.Places.remove.Goals as goal

pub drop_place-requires : goal.drop_place-requires
drop_place-requires c =
    c.args.self.now.sound.there c.args.place c.in-Some.handle (sym c.remove.ensures.value ∙ c.in-Some.is)

pub invariant_of-self : goal.invariant_of-self
invariant_of-self c = record {
  sound =
      dropped_sound (handle_of c.args.self.now.ids) (handle_of c.remove.new.self) (places c.args.self.now.device) (places c.drop_place.new.self) c.args.place c.in-Some.handle
      c.args.self.now.sound (sym c.remove.ensures.value ∙ c.in-Some.is) c.drop_place.ensures c.remove.ensures.others;
}

pub invariant_of-self-in_default : goal.invariant_of-self-in_default
invariant_of-self-in_default c = record {
  sound =
      same_sound (handle_of c.args.self.now.ids) (handle_of c.remove.new.self) (places c.args.self.now.device)
      (nothing_dropped (handle_of c.args.self.now.ids) (handle_of c.remove.new.self) c.args.place (sym c.remove.ensures.value ∙ c.in_default.is) c.remove.ensures.others)
      c.args.self.now.sound;
}
