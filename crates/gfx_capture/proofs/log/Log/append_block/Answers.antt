use Rattle.std.proofs.Common.{◌≡◌, ◌∙◌, refl, arith, length}
use Rattle.gfx_capture.proofs.Logs.{few, sound, cut_back, seen_full, seen_refused, put_is_long, seen_entries, seen_log}
use Rattle.gfx_capture.proofs.log.Log.append_block.Goals as goal

pub returns-then-length-wanted-gt-MAX_LOG-clause-answers :
    goal.returns-then-length-wanted-gt-MAX_LOG-clause-answers
returns-then-length-wanted-gt-MAX_LOG-clause-answers c =
    seen_full c.self.inside.minor c.self.inside.count c.self.inside.bytes.items _ c.self.invariant c.args.self.now c.self.view_is c.args.thread c.args.block.now
    c.len-length.result (length c.args.block.now) (c.len-length.ensures ∙ c.self.inside.bytes.ok.0) refl (omega arith)

pub put_with_thread-requires : goal.put_with_thread-requires
put_with_thread-requires c = put_is_long c.self.inside.minor c.self.inside.count c.self.inside.bytes.items _ c.self.invariant c.args.self.now c.self.view_is c.args.thread c.args.block.now c.requires

pub overflow_add-self : goal.overflow_add-self
overflow_add-self c = let low = few _ _ _ _ c.self.invariant in omega arith

pub invariant_of-self-in-Ok : goal.invariant_of-self-in-Ok
invariant_of-self-in-Ok c =
    let long : c.len-length.result ≡ length c.self.inside.bytes.items = c.len-length.ensures ∙ c.self.inside.bytes.ok.0 in
    seen_log c.self.inside.minor c.self.inside.count c.self.inside.bytes.items _ c.self.invariant c.args.self.now c.self.view_is c.args.thread c.args.block.now
    _ _ (omega arith) (omega arith) c.in_ok-put_with_thread.ensures.ok c.in-Ok.ensures c.requires

pub returns-in-Ok-clause-answers : goal.returns-in-Ok-clause-answers
returns-in-Ok-clause-answers c =
    let long : c.len-length.result ≡ length c.self.inside.bytes.items = c.len-length.ensures ∙ c.self.inside.bytes.ok.0 in
    seen_entries c.self.inside.minor c.self.inside.count c.self.inside.bytes.items _ c.self.invariant c.args.self.now c.self.view_is c.args.thread c.args.block.now
    _ _ (omega arith) (omega arith) c.in_ok-put_with_thread.ensures.ok c.in-Ok.ensures

pub returns-in-Ok-clause-sound : goal.returns-in-Ok-clause-sound
returns-in-Ok-clause-sound c =
    let long : c.len-length.result ≡ length c.self.inside.bytes.items = c.len-length.ensures ∙ c.self.inside.bytes.ok.0 in
    sound _ _ _ _
    (seen_log c.self.inside.minor c.self.inside.count c.self.inside.bytes.items _ c.self.invariant c.args.self.now c.self.view_is c.args.thread c.args.block.now
    _ _ (omega arith) (omega arith) c.in_ok-put_with_thread.ensures.ok c.in-Ok.ensures c.requires)

pub returns-in-Err-clause-answers : goal.returns-in-Err-clause-answers
returns-in-Err-clause-answers c =
    let long : c.len-length.result ≡ length c.self.inside.bytes.items = c.len-length.ensures ∙ c.self.inside.bytes.ok.0 in
    seen_refused c.self.inside.minor c.self.inside.count c.self.inside.bytes.items _ c.self.invariant c.args.self.now c.self.view_is c.args.thread c.args.block.now
    c.in-Err.fault _ _ c.refusal.result c.refusal.ensures (omega arith) c.in-Err.ensures
    (cut_back c.self.inside.bytes.items _ _ _ _ c.in_ok-put_with_thread.ensures.ok c.truncate.ensures.items long)
