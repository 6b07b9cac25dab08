use Rattle.std.proofs.Common.{◌≡◌, ◌-◌, ◌∙◌, ap, arith, length, take_at}
use Rattle.std.specs.Int.{to_le_bytes, w64}
use lib.Seq.{paste}
use Rattle.gfx_model.specs.Events.{event_of}
use Rattle.gfx_blocks.proofs.Writing.{sized}
use Rattle.gfx_blocks.proofs.put.put_block.Goals as goal

pub returns-clause-ok : goal.returns-clause-ok
returns-clause-ok c =
    let start = c.len-start.result in
    let mid = c.put_unsized.new.out.items in
    let number = c.len.result - start - 12 in
    let from : start ≡ length c.args.out.now.items = c.len-start.ensures ∙ c.args.out.now.ok.0 in
    let long : c.len.result ≡ length mid = c.len.ensures ∙ c.put_unsized.new.out.ok.0 in
    take_at c.set_u64.new.bytes _ c.put_unsized.new.out.len (omega (arith, c.set_u64.auto.bytes, ap length c.deref_mut.ensures.value, c.put_unsized.new.out.ok.0))
    ∙ c.set_u64.ensures ∙ ap (λ l. paste l start (to_le_bytes w64 number) 8) c.deref_mut.ensures.value
    ∙ sized c.args.minor c.args.thread (event_of c.args.effect.now) c.args.out.now.items mid start number from c.in_default.ensures.ok (ap (λ l. l - start - 12) long)
