use Rattle.std.proofs.Common.{◌≡◌, ◌∙◌, ap, arith, rules, length}
use Rattle.std.proofs.lemmas.Result.{on_ok_weaker}
use Rattle.std.proofs.lemmas.List.Edits.{length-paste}
use Rattle.gfx_pages.specs.Lists.{repeated}
use Rattle.gfx_pages.proofs.Lists.{keeps_same, overwrite_is}
use Rattle.gfx_pages.proofs.Repeated.{not_at_end, next_phase, pattern_part, length-part, fill_step, fill_failed, length-repeated, zero_filled}
use Rattle.gfx_pages.proofs.bytes.Bytes.fill.Goals as goal

pub returns-then-word-eq0-clause-ok : goal.returns-then-word-eq0-clause-ok
returns-then-word-eq0-clause-ok c = on_ok_weaker c.clear.result (zero_filled _ c.args.at c.args.word c.args.count _ c.if-word-eq0.true) c.clear.ensures.ok

pub write-requires : goal.write-requires
write-requires c =
    let size = c.min-size.result in
    let z = not_at_end c.loop-done.done c.args.count c.loop-done.invariant.1 c.loop-done-test.true in
    let k : length c.repeat.new.into ≡ c.min.result = search rules in
    let p = pattern_part c.repeat.new.into c.args.word _ c.args.count c.loop-done.done size c.repeat.ensures (omega arith) z (omega arith) in
    let l = length-part c.args.word c.args.count c.loop-done.done size _ (omega arith) p in
    let done = ap length c.loop-done.invariant.2 ∙ length-paste _ c.args.at (repeated c.args.word c.args.count) c.loop-done.done (omega arith) (omega (arith, length-repeated c.args.word c.args.count)) in
    omega arith

pub returns-in_err-write-clause-outside : goal.returns-in_err-write-clause-outside
returns-in_err-write-clause-outside c =
    let size = c.min-size.result in
    let z = not_at_end c.loop-done.done c.args.count c.loop-done.invariant.1 c.loop-done-test.true in
    let k : length c.repeat.new.into ≡ c.min.result = search rules in
    let p = pattern_part c.repeat.new.into c.args.word _ c.args.count c.loop-done.done size c.repeat.ensures (omega arith) z (omega arith) in
    let l = length-part c.args.word c.args.count c.loop-done.done size _ (omega arith) p in
    fill_failed _ c.args.at c.args.word c.args.count c.loop-done.done size _ _ _ (omega arith) c.requires l c.loop-done.invariant.2 c.in_err-write.ensures.outside

pub loop-done-preserved : goal.loop-done-preserved
loop-done-preserved c =
    let size = c.min-size.result in
    let z = not_at_end c.loop-done.done c.args.count c.loop-done.invariant.1 c.loop-done-test.true in
    let k : length c.repeat.new.into ≡ c.min.result = search rules in
    let p = pattern_part c.repeat.new.into c.args.word _ c.args.count c.loop-done.done size c.repeat.ensures (omega arith) z (omega arith) in
    let phase = next_phase c.loop-done.done c.args.count z c.loop-done-test.true in (
      omega arith,
      rw c.min-size.ensures phase,
      fill_step _ c.args.at c.args.word c.args.count c.loop-done.done size _ _ _ (omega arith) (omega arith) c.loop-done.invariant.2 p c.in_ok-write.ensures.ok,
    )

pub returns-clause-ok : goal.returns-clause-ok
returns-clause-ok c = overwrite_is _ c.args.at (repeated c.args.word c.args.count) _ c.loop-done.done (omega (arith, length-repeated c.args.word c.args.count)) c.loop-done.invariant.2

pub returns-clause-outside : goal.returns-clause-outside
returns-clause-outside c =
    keeps_same _ _ c.args.at (repeated c.args.word c.args.count) c.loop-done.done c.args.count c.requires (omega arith) (omega (arith, length-repeated c.args.word c.args.count)) c.loop-done.invariant.2
