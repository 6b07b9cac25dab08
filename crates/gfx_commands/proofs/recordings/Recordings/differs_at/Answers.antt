use Rattle.std.proofs.Common.{refl, arith}
use Rattle.gfx_objects.specs.Objects.{answers}
use Rattle.gfx_commands.proofs.recordings.Recordings.differs_at.Goals as goal

pub submits-init : goal.submits-init
submits-init c = record {
  met = refl;
  each = λ s a below inside. absurd (omega (arith, below));
  laid = c.new-laid.ensures (answers c.args.objects.now).layout;
}
