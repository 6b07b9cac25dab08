use Rattle.std.proofs.Common.{[], ◌∷◌, ◌≡◌, map}
use Rattle.gfx_model.specs.Fields.Value.{records}
use Rattle.gfx_model.specs.Fields.Records.{presents}
use Rattle.gfx_script_model.specs.Ids.{named_by, present_ids}
use Rattle.gfx_script.proofs.Marked.{present_names, few, takes_records}
use Rattle.gfx_script.proofs.record_lists.RefPresentsPutIds.put.Goals as goal

pub put_records-requires : goal.put_records-requires
put_records-requires c = rw c.items.ensures (few (λ p. p.swapchain ∷ []) (present_ids (λ _. 0)) (λ xs. named_by (records (presents xs))) present_names c.args.self.now.now c.args.ids.named.now c.requires.named)

pub returns : goal.returns
returns c =
    let taken = rw c.items.ensures at c.in_ok-items.ensures in
    rw c.of.ensures (takes_records (λ p. p.swapchain ∷ []) (present_ids (λ _. 0)) (λ xs. named_by (records (presents xs))) present_names (λ after before. map (present_ids (λ _. 0)) after ≡ map (present_ids (λ _. 0)) before.now) c.args.self.now c.args.ids c.in_ok-items.items.items c.in_ok-items.named taken taken.others)
