use Rattle.std.proofs.Common.{[], ◌∷◌, ◌≡◌, map}
use Rattle.gfx_model.specs.Fields.Value.{records}
use Rattle.gfx_model.specs.Fields.Records.{barriers}
use Rattle.gfx_script_model.specs.Ids.{named_by, barrier_ids}
use Rattle.gfx_script.proofs.Marked.{barrier_names, few, takes_records}
use Rattle.gfx_script.proofs.record_lists.RefBarriersPutIds.put.Goals as goal

pub put_records-requires : goal.put_records-requires
put_records-requires c = rw c.items.ensures (few (λ b. b.image ∷ []) (barrier_ids (λ _. 0)) (λ xs. named_by (records (barriers xs))) barrier_names c.args.self.now.now c.args.ids.named.now c.requires.named)

pub returns : goal.returns
returns c =
    let taken = rw c.items.ensures at c.in_ok-items.ensures in
    rw c.of.ensures (takes_records (λ b. b.image ∷ []) (barrier_ids (λ _. 0)) (λ xs. named_by (records (barriers xs))) barrier_names (λ after before. map (barrier_ids (λ _. 0)) after ≡ map (barrier_ids (λ _. 0)) before.now) c.args.self.now c.args.ids c.in_ok-items.items.items c.in_ok-items.named taken taken.others)
