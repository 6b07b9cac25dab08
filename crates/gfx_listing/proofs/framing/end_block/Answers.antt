use Rattle.std.proofs.Common.{◌≡◌, ◌-◌, ◌∙◌, ap, arith, length, take_at}
use Rattle.std.specs.Int.{to_le_bytes, w64}
use lib.Seq.{paste}
use Rattle.gfx_listing.proofs.framing.end_block.Goals as goal

pub returns-clause-sized : goal.returns-clause-sized
returns-clause-sized c =
    let start = c.args.start in
    let old = c.args.out.now.items in
    let long : c.len.result ≡ length old = c.len.ensures ∙ c.args.out.now.ok.0 in
    take_at c.set_u64.new.bytes _ c.args.out.now.len (omega (arith, c.set_u64.auto.bytes, ap length c.deref_mut.ensures.value, c.args.out.now.ok.0))
    ∙ c.set_u64.ensures ∙ ap (λ l. paste l start (to_le_bytes w64 (c.len.result - start - 12)) 8) c.deref_mut.ensures.value
    ∙ ap (λ n. paste old start (to_le_bytes w64 (n - start - 12)) 8) long
