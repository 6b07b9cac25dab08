use Rattle.std.proofs.Common.{◌≡◌, ◌<◌, ◌∙◌, sym, ap, subst, refl, arith, length, append-nil, Err}
use Rattle.gfx_capture.specs.ThreadBuffer.{IsPutOf}
use Rattle.gfx_capture.specs.Log.{IsSound}
use Rattle.gfx_capture.specs.Append.{Answers, AnswersOne, ended}
use Rattle.gfx_capture.proofs.Appending.{next, head_there, block_there, block_put, behind, one_more, ends}
use Rattle.gfx_capture.proofs.log.Log.append.Goals as goal

pub effects-init : goal.effects-init
effects-init c = record {
  minor = refl;
  stand = sym (append-nil c.args.self.now.entries);
  sound = c.blocks-from.ensures.sound;
  rest = c.blocks-rest.ensures.spelled;
}

pub split_block-requires : goal.split_block-requires
split_block-requires c =
    let less : c.effects.done < length c.args.buffer.now.events = omega (arith, c.len-count.ensures) in record {
      head = head_there c.args.buffer.now.minor c.args.buffer.now.events c.blocks-rest.ensures.can c.effects.done less c.effects.rest.now c.effects.invariant.rest;
      whole = block_there c.args.buffer.now.minor c.args.buffer.now.events c.blocks-rest.ensures.can c.effects.done less c.effects.rest.now c.effects.invariant.rest;
    }

pub append_block-requires : goal.append_block-requires
append_block-requires c =
    let events = c.args.buffer.now.events in let can = c.blocks-rest.ensures.can in
    let less : c.effects.done < length events = omega (arith, c.len-count.ensures) in
    let same : c.effects.self.minor ≡ c.args.buffer.now.minor = c.effects.invariant.minor ∙ sym c.requires in
    let put = block_put c.args.buffer.now.minor events can c.effects.done less c.effects.rest.now c.effects.invariant.rest c.split_block.result.0.now c.split_block.ensures.block in
    (next c.args.buffer.now.minor events can c.effects.done less, subst (λ k. IsPutOf k (next c.args.buffer.now.minor events can c.effects.done less) c.split_block.result.0.now) (sym same) put)

pub returns-in-Err-clause-appends : goal.returns-in-Err-clause-appends
returns-in-Err-clause-appends c =
    let m = c.args.buffer.now.minor in let events = c.args.buffer.now.events in let can = c.blocks-rest.ensures.can in let done = c.effects.done in
    let less : done < length events = omega (arith, c.len-count.ensures) in
    let same : c.effects.self.minor ≡ m = c.effects.invariant.minor ∙ sym c.requires in
    let put = block_put m events can done less c.effects.rest.now c.effects.invariant.rest c.split_block.result.0.now c.split_block.ensures.block in
    let one = c.in-Err.ensures.answers (next m events can done less) (subst (λ k. IsPutOf k (next m events can done less) c.split_block.result.0.now) (sym same) put) in
    let after = c.append_block.new.self.entries in record {
      answers = subst (λ k. Answers k c.args.self.now.entries c.args.thread events (Err c.end_at.result) after) c.requires
          (ends m events can done less c.args.self.now.entries c.effects.self.entries c.args.thread c.effects.invariant.stand c.in-Err.fault c.end_at.result after
          (subst (λ k. AnswersOne k c.effects.self.entries c.args.thread (next m events can done less) (Err c.in-Err.fault) after) same one)
          (c.end_at.ensures ∙ ap (λ n. ended c.in-Err.fault n done) c.blocks-from.ensures.count));
      sound = subst (λ k. IsSound k after) (c.append_block.ensures.minor ∙ c.effects.invariant.minor) c.append_block.ensures.sound;
    }

pub effects-preserved : goal.effects-preserved
effects-preserved c =
    let m = c.args.buffer.now.minor in let events = c.args.buffer.now.events in let can = c.blocks-rest.ensures.can in let done = c.effects.done in
    let less : done < length events = omega (arith, c.len-count.ensures) in
    let same : c.effects.self.minor ≡ m = c.effects.invariant.minor ∙ sym c.requires in
    let put = block_put m events can done less c.effects.rest.now c.effects.invariant.rest c.split_block.result.0.now c.split_block.ensures.block in
    let one = c.in_default.ensures.answers (next m events can done less) (subst (λ k. IsPutOf k (next m events can done less) c.split_block.result.0.now) (sym same) put) in record {
      minor = c.append_block.ensures.minor ∙ c.effects.invariant.minor;
      stand = one_more m events can done less c.args.self.now.entries c.effects.self.entries c.args.thread c.effects.invariant.stand c.append_block.new.self.entries one;
      sound = c.append_block.ensures.sound;
      rest = behind m events can done less c.effects.rest.now c.effects.invariant.rest c.split_block.result.1.now c.split_block.ensures.rest;
    }
