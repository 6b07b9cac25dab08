use Rattle.gfx_grammar.specs.Reading.{image_region_of}
use Rattle.gfx_params.proofs.Skipping.{record_skipped}
use Rattle.gfx_params.proofs.records.ImageRegionReadFields.skip.Goals as goal

pub returns : goal.returns
returns c = record_skipped (λ r. r.now) image_region_of _ c.args.bytes.now c.skip.result c.skip.ensures
