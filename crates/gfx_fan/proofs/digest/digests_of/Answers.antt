use Rattle.std.proofs.Common.{ap, ◌∙◌}
use Rattle.sha2.specs.Sha256.{sha256}
use Rattle.rayon.specs.Lists.{iter_slice, min_len_base}
use Rattle.rayon.proofs.ListFacts.{IfOk-then}
use Rattle.rayon.proofs.ToStd.{slice-map}
use Rattle.gfx_fan.proofs.digest.digests_of.Goals as goal

pub returns : goal.returns
returns g c =
    let slice = ap (λ it. iter_slice (min_len_base it)) c.map.ensures.base ∙ ap iter_slice c.with_min_len.ensures.base ∙ c.par_iter.ensures in
    IfOk-then c.collect.result _ _ c.collect.ensures (λ v h.
    let chain = h.1 in
    h.2 ∙ slice-map chain.0 c.args.pictures.now (chain.1 ∙ slice) (λ p. sha256 (g.P.Pixels.pixels p)) h.0 chain.2)
