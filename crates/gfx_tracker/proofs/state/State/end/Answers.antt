use Rattle.std.proofs.Math.Logic.{∥∥₁_elim}
use Rattle.std.proofs.Props.{props}
use Rattle.gfx_commands.specs.Recordings.{buffers}
use Rattle.gfx_tracker.specs.Registry.{answers_of}
use Rattle.gfx_tracker.proofs.Gathered.{ended_plain, ended_gathered}
use Rattle.gfx_tracker.proofs.state.State.end.Goals as goal

pub end_users-requires-clause-lawful : goal.end_users-requires-clause-lawful
end_users-requires-clause-lawful c = ∥∥₁_elim c.requires.lawful (hlevel props) (λ h. ∣ record { objects = h.objects; buffers = h.buffers } ∣₁)

pub invariant_of-self-2 : goal.invariant_of-self-2
invariant_of-self-2 c =
    let s = c.args.self.now in
    record { plain = ended_plain (answers_of s.registry) (answers_of c.end.new.self) (buffers s.recordings) (buffers c.end_users.new.recordings) c.args.id c.end.ensures s.plain c.end_users.ensures }

pub returns : goal.returns
returns c =
    let s = c.args.self.now in
    ended_gathered (answers_of s.registry) (answers_of c.end.new.self) (buffers s.recordings) (buffers c.end_users.new.recordings) s.next_frame s.is_empty s.section c.args.id c.end.ensures c.end_users.ensures
