use Rattle.std.proofs.Common.{ap, ◌∙◌, rules}
use Rattle.std.specs.Prelude.{filter}
use Rattle.std.proofs.lemmas.Fn.{filter_same}
use Rattle.gfx_objects.specs.Objects.{answers}
use Rattle.gfx_state.proofs.Listing.{buffers_owned}
use Rattle.gfx_state.proofs.pool.kept_buffers.Goals as goal

pub returns-clause-ids : goal.returns-clause-ids
returns-clause-ids g c =
    let test = (g.P.Keep.kept c.args.keep.now).id in
    filter_same _ test _ (λ x b f' k. search rules) _ _ c.retain.ensures.filtered ∙ ap (filter test) (c.in_ok-cbs.ensures.ids ∙ buffers_owned (answers c.args.objects.now) c.args.pool)
