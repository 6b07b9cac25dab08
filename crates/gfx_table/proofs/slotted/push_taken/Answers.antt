use Rattle.std.proofs.Common.{Some, None, sym, ap, ◌++◌, ◌∙◌}
use Rattle.std.specs.Prelude.{map as each}
use Rattle.std.proofs.lemmas.List.{append-nil, take_all}
use Rattle.gfx_table.specs.Slotted.{filled}
use Rattle.gfx_table.proofs.Slotting.{ids_after}
use Rattle.gfx_table.proofs.slotted.push_taken.Goals as goal
use Rattle.gfx_table.proofs.slotted.push_taken.Goals.{in-Some+in_ok-push, in_default}

pub slots-preserved : goal.slots-preserved
slots-preserved g c = elim c.match-entry.branch [
  | in-Some+in_ok-push w ↦
      rw (w.ids-is, w.in_ok-push.ensures.items, c.slots.invariant)
      (sym (ids_after c.args.slots.now c.slots.slot-index (Some w.in-Some.entry) c.args.ids.now.items c.slots-test.true (rw (sym w.in-Some.ensures.value) at c.slot-item.is)))
  | in_default w ↦
      rw (w.ids-is, c.slots.invariant)
      (sym (ids_after c.args.slots.now c.slots.slot-index None c.args.ids.now.items c.slots-test.true (rw (sym w.in_default.ensures.value) at c.slot-item.is) ∙ append-nil _))
]

pub returns : goal.returns
returns g c =
    c.slots.invariant
    ∙ ap (λ slots. c.args.ids.now.items ++ each (λ e. e.0) (filled slots)) (take_all c.slots.slot-index c.args.slots.now c.slots-test.false)
