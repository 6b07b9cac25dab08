use Rattle.std.proofs.Common.{◌≡◌, ◌+◌, ◌∙◌, ap, arith, length, take_at}
use Rattle.std.specs.Int.{to_le_bytes, w64}
use lib.Seq.{paste}
use Rattle.gfx_capture.proofs.Written.{placed}
use Rattle.gfx_capture.proofs.block.put_with_thread.Goals as goal

pub returns-clause-ok : goal.returns-clause-ok
returns-clause-ok c =
    let place = c.len-start.result + 16 in
    let from : c.len-start.result ≡ length c.args.out.now.items = c.len-start.ensures ∙ c.args.out.now.ok.0 in
    let mid = c.extend_from_slice.new.self.items in
    take_at c.set_u64.new.bytes _ c.extend_from_slice.new.self.len
    (omega (arith, c.set_u64.auto.bytes, ap length c.deref_mut.ensures.value, c.extend_from_slice.new.self.ok.0))
    ∙ c.set_u64.ensures ∙ ap (λ l. paste l place (to_le_bytes w64 c.from.result) 8) c.deref_mut.ensures.value
    ∙ ap (λ n. paste mid place (to_le_bytes w64 n) 8) c.from.ensures
    ∙ placed c.args.thread c.args.out.now.items c.args.block.now mid place c.requires (omega (arith, from)) c.in_ok-extend_from_slice.ensures.items
