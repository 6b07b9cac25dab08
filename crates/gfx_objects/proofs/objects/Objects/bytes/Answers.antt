use Rattle.std.proofs.Common.{ap, ◌∙◌}
use Rattle.gfx_model.specs.Views.{live_bytes}
use Rattle.gfx_objects.specs.Objects.{answers}
use Rattle.gfx_objects.specs.Inside.{kept_of}
use Rattle.gfx_objects.proofs.Asked.{bytes_answered}
use Rattle.gfx_objects.proofs.objects.Objects.bytes.Goals as goal

pub returns : goal.returns
returns c = c.self.invariant.indexed.in_all ∙ bytes_answered (kept_of c.self.inside) ∙ ap (λ k. live_bytes (answers k)) c.self.view_is
