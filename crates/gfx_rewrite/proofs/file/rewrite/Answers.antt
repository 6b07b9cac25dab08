use Rattle.std.proofs.lemmas.Result.{err_from_is_err_and}
use Rattle.gfx_decode.proofs.Told.{told_if}
use Rattle.gfx_rewrite.specs.Texts.{rewritten}
use Rattle.gfx_rewrite.proofs.Rewriting.{answers_all, answers_front}
use Rattle.gfx_rewrite.proofs.file.rewrite.Goals as goal

-- a prefix of what was held was written
pub returns-in_err-write_held-clause-told : goal.returns-in_err-write_held-clause-told
returns-in_err-write_held-clause-told g c =
    let p = err_from_is_err_and c.from_residual.result c.from_residual.ensures.1 in
    let written = rewritten (g.W.Rewriter.texts c.args.way.now) in
    let before = g.K.Sink.taken c.args.sink.now in
    let mid = g.K.Sink.taken c.rewrite_held-end.new.sink in
    let after = g.K.Sink.taken c.write_held.new.sink in
    let held = c.rewrite_held-end.new.held.items in
    rw (p.1, p.2) (told_if _ _ _ _ c.rewrite_held-end.ensures.told (λ all rest a. answers_front written c.rewrite_held-end.result before mid after held all rest c.in_err-write_held.ensures.failed a))

pub returns-in_err-write_held-clause-misses : goal.returns-in_err-write_held-clause-misses
returns-in_err-write_held-clause-misses g c =
    let p = err_from_is_err_and c.from_residual.result c.from_residual.ensures.1 in
    rw (p.1, p.2) tt

-- all of it was written
pub returns-clause-told : goal.returns-clause-told
returns-clause-told g c =
    let written = rewritten (g.W.Rewriter.texts c.args.way.now) in
    let before = g.K.Sink.taken c.args.sink.now in
    let mid = g.K.Sink.taken c.rewrite_held-end.new.sink in
    let after = g.K.Sink.taken c.write_held.new.sink in
    let held = c.rewrite_held-end.new.held.items in
    told_if _ _ _ _ c.rewrite_held-end.ensures.told (λ all rest a. answers_all written c.rewrite_held-end.result before mid after held all rest c.in_ok-write_held.ensures.bytes a)
