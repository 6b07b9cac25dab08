use Rattle.std.proofs.Common.{◌+◌, length, refl, ap, ◌∙◌}
use Rattle.std.proofs.lemmas.List.{length_push}
use Rattle.gfx_table.proofs.Spreading.{free_more}
use Rattle.gfx_table.proofs.slot.free_slots.Goals as goal

pub slots-init : goal.slots-init
slots-init g c = rw c.in_ok-made.ensures.items (record { len = refl; free = λ i. refl })

pub slots-preserved : goal.slots-preserved
slots-preserved g c = record {
  len = ap length c.in_ok-push.ensures.items ∙ length_push c.slots.made.items c.free.result ∙ ap (λ n. n + 1) c.slots.invariant.len;
  free = rw (c.in_ok-push.ensures.items, c.free.ensures) (free_more c.slots.made.items c.slots.invariant.free);
}
