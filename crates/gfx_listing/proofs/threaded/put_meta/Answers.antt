use Rattle.std.proofs.Common.{ℕ, List, ◌++◌, refl, sym, ap, ◌∙◌}
use Rattle.gfx_model.specs.Events.{event_of_meta}
use Rattle.gfx_model.specs.Spelling.{payload}
use Rattle.gfx_blocks.proofs.Writing.{meta_spelling}
use Rattle.gfx_grammar.specs.Framing.{Part}
use Rattle.gfx_listing.proofs.Parts.{wants, event_written, head_there, event_ends, effect_begun}
use Rattle.gfx_listing.proofs.threaded.put_meta.Goals as goal

pub returns-in_err-begin_effect : goal.returns-in_err-begin_effect
returns-in_err-begin_effect c =
    λ m. wants c.from_residual.result _ (λ (p : Part). p.bytes) c.args.out.now.items c.begin_effect.new.out.items c.from_residual.ensures.1 c.in_err-begin_effect.ensures.err

pub returns-in_err-encode_meta : goal.returns-in_err-encode_meta
returns-in_err-encode_meta c =
    λ m. wants c.from_residual-in_err-encode_meta.result _ (λ (p : Part). p.bytes) c.args.out.now.items c.encode_meta.new.out.items c.from_residual-in_err-encode_meta.ensures.1
    (effect_begun 3 c.meta_id.result c.args.thread c.args.out.now.items c.begin_effect.new.out.items c.encode_meta.new.out.items c.in_ok-begin_effect.ensures.ok c.in_err-encode_meta.ensures.err)

pub end_block-requires : goal.end_block-requires
end_block-requires c =
    let e = event_of_meta c.args.meta.now in
    head_there 3 c.len-start.result (payload 1 c.args.thread e) c.args.out.now.items c.encode_meta.new.out.items (c.len-start.ensures ∙ c.args.out.now.ok.0)
    (event_written 1 c.args.thread 3 c.meta_id.result e c.args.out.now.items c.begin_effect.new.out.items c.encode_meta.new.out.items
    c.meta_id.ensures.kind refl c.meta_id.ensures.id c.in_ok-begin_effect.ensures.ok c.in_ok-encode_meta.ensures.ok)

pub returns : goal.returns
returns c =
    λ m. event_ends m c.args.thread 3 c.meta_id.result c.len-start.result (event_of_meta c.args.meta.now) c.end_block.result c.args.out.now.items
    c.begin_effect.new.out.items c.encode_meta.new.out.items c.end_block.new.out.items c.meta_id.ensures.kind refl c.meta_id.ensures.id
    (c.len-start.ensures ∙ c.args.out.now.ok.0) c.in_ok-begin_effect.ensures.ok
    (c.in_ok-encode_meta.ensures.ok ∙ ap (λ (z : List ℕ). c.begin_effect.new.out.items ++ z) (sym (meta_spelling m c.args.meta.now)))
    c.end_block.ensures.small c.end_block.ensures.sized c.end_block.ensures.bad c.end_block.ensures.unchanged
