use Rattle.std.proofs.Common.{refl, sym}
use Rattle.gfx_commands.specs.Recordings.{buffers}
use Rattle.gfx_commands.proofs.Indexed.{forgotten, none_forgotten, nothing_named, named_in_uses}
use Rattle.gfx_commands.proofs.recordings.Recordings.reset.Goals as goal

pub forget-requires : goal.forget-requires
forget-requires c =
    named_in_uses c.self.inside.rows.map c.args.cb c.in-Some.before (sym c.in-Some.ensures.value) c.self.inside.users.groups.sets.map c.self.invariant
    c.uses.result.now.table.map c.uses.ensures.members

pub invariant_of-self : goal.invariant_of-self
invariant_of-self c =
    forgotten c.self.inside.users.groups.sets.map c.forget.new.self.groups.sets.map (buffers c.self.inside.rows.map) (buffers c.remove.new.self.map) c.self.invariant c.args.cb
    _ (λ r. refl) c.in-Some.ensures.buffers c.forget.ensures

pub invariant_of-self-in_default : goal.invariant_of-self-in_default
invariant_of-self-in_default c =
    none_forgotten c.self.inside.users.groups.sets.map c.self.inside.users.groups.sets.map (buffers c.self.inside.rows.map) (buffers c.remove.new.self.map) c.self.invariant c.args.cb
    _ (λ r. refl) c.in_default.ensures.buffers (nothing_named c.self.inside.rows.map c.args.cb (sym c.in_default.ensures.value))
