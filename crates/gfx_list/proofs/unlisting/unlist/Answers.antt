use Rattle.std.proofs.lemmas.Result.{err_from_is_err_and}
use Rattle.gfx_decode.proofs.Told.{told_if}
use Rattle.gfx_list.proofs.Flushing.{unlists_all, unlists_front}
use Rattle.gfx_list.proofs.unlisting.unlist.Goals as goal

-- a prefix of what was held was written
pub returns-in_err-write_held-clause-told : goal.returns-in_err-write_held-clause-told
returns-in_err-write_held-clause-told g c =
    let p = err_from_is_err_and c.from_residual.result c.from_residual.ensures.1 in
    let before = g.K.Sink.taken c.args.sink.now in
    let mid = g.K.Sink.taken c.unlist_held-end.new.sink in
    let after = g.K.Sink.taken c.write_held.new.sink in
    let held = c.unlist_held-end.new.bytes.items in
    rw (p.1, p.2) (told_if _ _ _ _ c.unlist_held-end.ensures.told (λ text left a. unlists_front c.unlist_held-end.result before mid after held text left c.in_err-write_held.ensures.failed a))

-- all of it was written
pub returns-clause-told : goal.returns-clause-told
returns-clause-told g c =
    let before = g.K.Sink.taken c.args.sink.now in
    let mid = g.K.Sink.taken c.unlist_held-end.new.sink in
    let after = g.K.Sink.taken c.write_held.new.sink in
    let held = c.unlist_held-end.new.bytes.items in
    told_if _ _ _ _ c.unlist_held-end.ensures.told (λ text left a. unlists_all c.unlist_held-end.result before mid after held text left c.in_ok-write_held.ensures.bytes a)
