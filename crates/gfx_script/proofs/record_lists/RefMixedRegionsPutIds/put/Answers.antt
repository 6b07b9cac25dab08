use Rattle.std.proofs.Common.{[], ◌≡◌}
use Rattle.gfx_types.specs.declared.lists.MixedRegion.{MixedRegion}
use Rattle.gfx_model.specs.Fields.Value.{records}
use Rattle.gfx_model.specs.Fields.Records.{mixed_regions}
use Rattle.gfx_script_model.specs.Ids.{named_by}
use Rattle.gfx_script.proofs.Marked.{mixed_region_names, few, takes_records, unmapped}
use Rattle.gfx_script.proofs.record_lists.RefMixedRegionsPutIds.put.Goals as goal

pub put_records-requires : goal.put_records-requires
put_records-requires c = rw c.items.ensures (few (λ (_ : MixedRegion). []) (λ (r : MixedRegion). r) (λ xs. named_by (records (mixed_regions xs))) mixed_region_names c.args.self.now.now c.args.ids.named.now c.requires.named)

pub returns : goal.returns
returns c =
    let taken = rw c.items.ensures at c.in_ok-items.ensures in
    rw c.of.ensures (takes_records (λ (_ : MixedRegion). []) (λ (r : MixedRegion). r) (λ xs. named_by (records (mixed_regions xs))) mixed_region_names (λ after before. after ≡ before.now) c.args.self.now c.args.ids c.in_ok-items.items.items c.in_ok-items.named taken (unmapped _ _ taken.others))
