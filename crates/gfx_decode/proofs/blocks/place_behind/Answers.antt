use Rattle.std.proofs.Common.{◌≡◌, ◌-◌, ◌^◌, ◌<◌, ◌≤◌, length, take, drop, sym, ap, subst, ◌∙◌, arith}
use Rattle.std.proofs.lemmas.List.{take_rest}
use Rattle.gfx_model.specs.Blocks.{side_count}
use Rattle.gfx_grammar.specs.Framing.{marks, past, side}
use Rattle.gfx_grammar.proofs.FramingLaws.{head-bounds}
use Rattle.gfx_decode.specs.Position.{position_of}
use Rattle.gfx_decode.specs.Reachable.{IsInReach}
use Rattle.gfx_decode.proofs.Finding.{framed-side, framed-past, past-in_reach, full, not_full}
use Rattle.gfx_decode.proofs.blocks.place_behind.Goals as goal

pub returns-then-is_full-clause-full : goal.returns-then-is_full-clause-full
returns-then-is_full-clause-full c =
    let bytes = c.args.buffer.now in
    let payload = take (length bytes - 12) (drop 12 bytes) in
    let at = position_of c.args.at in
    let kind = c.args.framing.kind in
    let size = c.args.framing.size in
    let crowded : 2 ^ 32 ≤ side at c.is_marker-begins.result = full (side at c.is_marker-begins.result) (sym c.is_full.ensures ∙ c.if-is_full.true) in
    let count : side at c.is_marker-begins.result ≡ side_count at bytes =
    ap (side at) c.is_marker-begins.ensures ∙ sym (framed-side at kind size bytes payload c.requires.framed (take_rest bytes 12)) in
    subst (λ n. 2 ^ 32 ≤ n) count crowded

pub position_behind-requires-clause-size : goal.position_behind-requires-clause-size
position_behind-requires-clause-size c =
    let (small, _, _) = head-bounds c.requires.framed.head c.requires.framed.good.good in omega (arith, small, c.requires.framed.good.size_is)

pub returns-clause-leads : goal.returns-clause-leads
returns-clause-leads c =
    let bytes = c.args.buffer.now in
    let payload = take (length bytes - 12) (drop 12 bytes) in
    let at = position_of c.args.at in
    let kind = c.args.framing.kind in
    let size = c.args.framing.size in
    let h = c.requires.framed in
    let is : payload ≡ drop 12 bytes = take_rest bytes 12 in
    let (small, _, _) = head-bounds h.head h.good.good in
    let begins : c.is_marker-begins.result ≡ marks 1 kind size payload = c.is_marker-begins.ensures in
    let room : side at c.is_marker-begins.result < 2 ^ 32 = not_full (side at c.is_marker-begins.result) (sym c.is_full.ensures ∙ c.if-is_full.false) in
    record {
      counted = subst (λ n. n < 2 ^ 32) (ap (side at) begins ∙ sym (framed-side at kind size bytes payload h is)) room;
      behind = c.position_behind.ensures ∙ ap (λ b. past at size b c.is_marker-ends.result) begins ∙ ap (past at size (marks 1 kind size payload)) c.is_marker-ends.ensures
          ∙ sym (framed-past at kind size bytes payload h is);
      reach = subst IsInReach (sym c.position_behind.ensures)
          (past-in_reach at size c.is_marker-begins.result c.is_marker-ends.result c.requires.reach (omega (arith, small, h.good.size_is)) room);
    }
