use Rattle.std.proofs.Common.{ap, ◌∙◌}
use Rattle.rayon.specs.Lists.{iter_slice}
use Rattle.rayon.proofs.ListFacts.{IfOk-then}
use Rattle.rayon.proofs.ToStd.{slice-AllZip}
use Rattle.gfx_fan.proofs.Places.{SaysAt, found_as}
use Rattle.gfx_fan.proofs.decode.blocks_of.Goals as goal

pub returns : goal.returns
returns g c =
    let slice = ap iter_slice c.map.ensures.base ∙ c.par_iter.ensures in
    let places = c.args.places.now in
    IfOk-then c.collect.result _ _ c.collect.ensures (λ found h.
    let chain = h.1 in
    found_as c.args.minor _ c.args.bytes.now _ places h.0 found (ap (λ f. f.1.now) c.map.ensures.f) (ap (λ f. f.2.now) c.map.ensures.f) (slice-AllZip chain.0 places (chain.1 ∙ slice) (SaysAt _ _) h.0 chain.2) h.2)
