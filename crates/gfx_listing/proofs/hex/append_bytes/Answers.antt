use Rattle.std.proofs.Common.{◌≡◌, ◌+◌, ◌*◌, ◌%◌, ◌^◌, ◌<◌, ◌≤◌, ◌++◌, [], ◌∷◌, length, take, sym, ap, ◌∙◌, arith, append-nil, append_assoc, length-append}
use Rattle.gfx_text_grammar.specs.Words.{raw_in}
use Rattle.gfx_text.proofs.Hex.{bytes_start, bytes_go_on, bytes_break, bytes_end, odd_none, raw_some, raw_none}
use Rattle.gfx_listing.proofs.Parts.{all_stays, old_stays, wants}
use Rattle.gfx_listing.proofs.hex.append_bytes.Goals as goal

pub returns-then-digits-ne0 : goal.returns-then-digits-ne0
returns-then-digits-ne0 c =
    let odd : length c.args.digits.now % 2 ≡ 1 = omega (arith, c.if-digits-ne0.true) in
    (raw_none c.args.digits.now (odd_none c.args.digits.now odd), all_stays c.args.out.now.items)

pub returns-in_err-reserve : goal.returns-in_err-reserve
returns-in_err-reserve c =
    wants c.from_residual.result (raw_in c.args.digits.now) (λ bytes. bytes) c.args.out.now.items c.reserve.new.self.items c.from_residual.ensures.1
    (ap (take (length c.args.out.now.items)) c.reserve.ensures.items ∙ all_stays c.args.out.now.items)

pub pairs-init : goal.pairs-init
pairs-init c = ([], c.reserve.ensures.items ∙ sym (append-nil c.args.out.now.items), bytes_start c.args.digits.now)

pub returns-in_err-push-in-Some : goal.returns-in_err-push-in-Some
returns-in_err-push-in-Some c =
    let so_far = c.pairs.invariant in
    wants c.from_residual-in_err-push-in-Some.result (raw_in c.args.digits.now) (λ bytes. bytes) c.args.out.now.items c.push.new.self.items c.from_residual-in_err-push-in-Some.ensures.1
    (old_stays c.args.out.now.items so_far.0 c.push.new.self.items (c.in_err-push-in-Some.ensures.items ∙ so_far.1))

pub returns-in-None : goal.returns-in-None
returns-in-None c =
    let so_far = c.pairs.invariant in
    let there : 2 * c.pairs.i + 1 < length c.args.digits.now = omega (arith, c.pairs-test.true) in (
      raw_none c.args.digits.now (bytes_break so_far.0 c.args.digits.now c.pairs.i there (sym c.byte_of.ensures ∙ c.in-None.is) so_far.2),
      old_stays c.args.out.now.items so_far.0 c.pairs.out.items so_far.1,
    )

pub pairs-preserved : goal.pairs-preserved
pairs-preserved c =
    let so_far = c.pairs.invariant in
    let there : 2 * c.pairs.i + 1 < length c.args.digits.now = omega (arith, c.pairs-test.true) in (
      so_far.0 ++ c.in-Some.byte ∷ [],
      c.in_ok-push-in-Some.ensures.items ∙ ap (λ z. z ++ c.in-Some.byte ∷ []) so_far.1 ∙ append_assoc c.args.out.now.items so_far.0 (c.in-Some.byte ∷ []),
      bytes_go_on so_far.0 c.args.digits.now c.pairs.i c.in-Some.byte there (sym c.byte_of.ensures ∙ c.in-Some.is) so_far.2,
    )

pub returns : goal.returns
returns c =
    let so_far = c.pairs.invariant in
    let all : length c.args.digits.now ≤ 2 * c.pairs.i = omega (arith, c.pairs-test.false, c.if-digits-ne0.false) in
    let few : length so_far.0 < 2 ^ 64 = omega (arith, c.pairs.out.ok.0, c.pairs.out.small, ap length so_far.1, length-append c.args.out.now.items so_far.0) in
    (so_far.0, raw_some c.args.digits.now so_far.0 (bytes_end so_far.0 c.args.digits.now c.pairs.i all so_far.2) few, so_far.1)
