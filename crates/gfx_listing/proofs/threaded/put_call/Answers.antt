use Rattle.std.proofs.Common.{refl, ◌∙◌}
use Rattle.gfx_model.specs.Events.{event_of_call}
use Rattle.gfx_model.specs.Spelling.{payload}
use Rattle.gfx_grammar.specs.Framing.{Part}
use Rattle.gfx_listing.proofs.Parts.{wants, event_written, head_there, event_ends, effect_begun}
use Rattle.gfx_listing.proofs.threaded.put_call.Goals as goal

pub returns-in_err-begin_effect : goal.returns-in_err-begin_effect
returns-in_err-begin_effect c =
    wants c.from_residual.result _ (λ (p : Part). p.bytes) c.args.out.now.items c.begin_effect.new.out.items c.from_residual.ensures.1 c.in_err-begin_effect.ensures.err

pub returns-in_err-encode : goal.returns-in_err-encode
returns-in_err-encode c =
    wants c.from_residual-in_err-encode.result _ (λ (p : Part). p.bytes) c.args.out.now.items c.encode.new.out.items c.from_residual-in_err-encode.ensures.1
    (effect_begun 4 c.call_id.result c.args.thread c.args.out.now.items c.begin_effect.new.out.items c.encode.new.out.items c.in_ok-begin_effect.ensures.ok c.in_err-encode.ensures.err)

pub end_block-requires : goal.end_block-requires
end_block-requires c =
    let e = event_of_call c.args.call.now in
    head_there 4 c.len-start.result (payload c.args.minor c.args.thread e) c.args.out.now.items c.encode.new.out.items (c.len-start.ensures ∙ c.args.out.now.ok.0)
    (event_written c.args.minor c.args.thread 4 c.call_id.result e c.args.out.now.items c.begin_effect.new.out.items c.encode.new.out.items
    c.call_id.ensures.kind refl c.call_id.ensures.id c.in_ok-begin_effect.ensures.ok c.in_ok-encode.ensures.ok)

pub returns : goal.returns
returns c =
    event_ends c.args.minor c.args.thread 4 c.call_id.result c.len-start.result (event_of_call c.args.call.now) c.end_block.result c.args.out.now.items
    c.begin_effect.new.out.items c.encode.new.out.items c.end_block.new.out.items c.call_id.ensures.kind refl c.call_id.ensures.id
    (c.len-start.ensures ∙ c.args.out.now.ok.0) c.in_ok-begin_effect.ensures.ok c.in_ok-encode.ensures.ok
    c.end_block.ensures.small c.end_block.ensures.sized c.end_block.ensures.bad c.end_block.ensures.unchanged
