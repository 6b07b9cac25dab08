use Rattle.std.proofs.Common.{sym, subst}
use Rattle.std.specs.List.{AllByRecursion}
use Rattle.gfx_model.specs.Views.{fetched}
use Rattle.gfx_objects.specs.Objects.{answers}
use Rattle.gfx_state.specs.Images.{IsPicture}
use Rattle.gfx_state.proofs.Writing.{wrote_both, wrote_out}
use Rattle.gfx_state.proofs.Fitting.{chain_within}
use Rattle.gfx_state.proofs.swapchain.write_swapchain.Goals as goal

pub write_images-requires-clause-few : goal.write_images-requires-clause-few
write_images-requires-clause-few g c = (chain_within c.args.chain.images c.args.chain.shape.width c.args.chain.shape.height c.requires.within).0

pub write_images-requires-clause-places : goal.write_images-requires-clause-places
write_images-requires-clause-places g c =
    subst (λ n. AllByRecursion (IsPicture (g.B.StateBytes.bytes c.args.bytes.now) n) (fetched (answers c.args.parts.now.objects.now) c.args.owned.id)) (sym c.image_size-size.ensures.size) c.requires.places

pub returns-in_err-write_creation : goal.returns-in_err-write_creation
returns-in_err-write_creation g c = wrote_out _ c.from_residual.result c.in_err-write_creation.ensures c.from_residual.ensures.1

pub returns : goal.returns
returns g c = wrote_both _ c.in_ok-write_creation.ensures c.write_images.ensures
