use Rattle.std.proofs.Common.{◌-◌, ap, ◌∙◌, arith, length, take_at}
use Rattle.std.specs.Int.{to_le_bytes, w32}
use lib.Seq.{paste}
use Rattle.gfx_listing.proofs.HeadReading.{header_begun}
use Rattle.gfx_listing.proofs.header.begin_header.Goals as goal

pub returns-clause-ok : goal.returns-clause-ok
returns-clause-ok c =
    let first = c.put_header.new.out.items in
    let place = c.len-place.result - 4 in
    take_at c.set_u32.new.bytes _ c.put_header.new.out.len (omega (arith, c.set_u32.auto.bytes, ap length c.deref_mut.ensures.value, c.put_header.new.out.ok.0))
    ∙ c.set_u32.ensures ∙ ap (λ l. paste l place (to_le_bytes w32 c.args.count) 4) c.deref_mut.ensures.value
    ∙ header_begun c.args.minor c.args.count place c.args.out.now.items first c.in_ok-put_header.ensures.ok (ap (λ k. k - 4) (c.len-place.ensures ∙ c.put_header.new.out.ok.0))
