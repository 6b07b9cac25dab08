use Rattle.std.proofs.Common.{◌==◌, [], if◌then◌else◌, refl, ap, sym, ◌∙◌}
use Rattle.std.specs.FinMap as map
use Rattle.gfx_table.specs.Groups.{is_member}
use Rattle.gfx_model.specs.Questions.{State, Buffer}
use Rattle.gfx_commands.specs.Recordings.{buffers}
use Rattle.gfx_commands.proofs.Indexed.{forgotten, none_forgotten, nothing_named, named_in_uses, users_same}
use Rattle.gfx_commands.proofs.recordings.Recordings.begin.Goals as goal
use Rattle.gfx_commands.proofs.recordings.Recordings.begin.Goals.{in-Some, in_default}

pub forget-requires : goal.forget-requires
forget-requires c =
    named_in_uses c.self.inside.rows.map c.args.cb c.in-Some.row.now (ap (λ m. map.get m c.args.cb) (sym c.in_ok-reserve.ensures.same) ∙ sym c.in-Some.ensures)
    c.self.inside.users.groups.sets.map c.self.invariant c.uses.result.now.table.map c.uses.ensures.members

pub invariant_of-self-2 : goal.invariant_of-self-2
invariant_of-self-2 c =
    let fresh : Buffer = record { state = State.recording; flags = c.args.flags; commands = [] } in
    let u = c.self.inside.users.groups.sets.map in
    let n = c.match-get.self-inside.users.groups.sets.map in
    let b = buffers c.self.inside.rows.map in
    let now = buffers c.begin.new.self.map in
    elim c.match-get.branch [
      | in-Some w ↦ forgotten u n b now c.self.invariant c.args.cb fresh (λ r. refl)
          (c.begin.ensures ∙ ap (λ m x. if c.args.cb == x then fresh else buffers m x) (ap (λ s. s.rows.map) w.self-inside-is ∙ c.in_ok-reserve.ensures.same))
          (ap (λ s. is_member s.users.groups.sets.map) w.self-inside-is ∙ w.forget.ensures)
      | in_default w ↦ users_same u n now (ap (λ s. is_member s.users.groups.sets.map) w.self-inside-is)
          (none_forgotten u u b now c.self.invariant c.args.cb fresh (λ r. refl)
          (c.begin.ensures ∙ ap (λ m x. if c.args.cb == x then fresh else buffers m x) (ap (λ s. s.rows.map) w.self-inside-is ∙ c.in_ok-reserve.ensures.same))
          (nothing_named c.self.inside.rows.map c.args.cb (ap (λ m. map.get m c.args.cb) (sym c.in_ok-reserve.ensures.same) ∙ sym w.in_default.ensures)))
    ]
