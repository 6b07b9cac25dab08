use Rattle.gfx_grammar.specs.Reading.{barrier_of}
use Rattle.gfx_params.proofs.Skipping.{record_skipped}
use Rattle.gfx_params.proofs.records.BarrierReadFields.skip.Goals as goal

pub returns : goal.returns
returns c = record_skipped (λ r. r.now) barrier_of _ c.args.bytes.now c.skip.result c.skip.ensures
