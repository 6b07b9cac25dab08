use Rattle.std.proofs.Common.{◌≡◌, cond, refl, subst}
use Rattle.std.proofs.lemmas.Result.{on_ok_weaker}
use Rattle.gfx_model.specs.Events.{event_of_call, event_of_meta, event_of}
use Rattle.gfx_model.specs.Spelling.{HasSpelling}
use Rattle.gfx_blocks.proofs.Writing.{marked, meta_fits, meta_spelling, threaded}
use Rattle.gfx_blocks.proofs.put.put_unsized.Goals as goal
use Rattle.gfx_blocks.proofs.put.put_unsized.Goals.{then-begin, else-begin}

pub encode_meta-requires : goal.encode_meta-requires
encode_meta-requires c = meta_fits c.args.minor c.in-Meta.meta (subst (λ e. HasSpelling c.args.minor (event_of e)) c.in-Meta.is c.requires.fits)

pub returns-in_ok-put_front-in-Call-clause-ok : goal.returns-in_ok-put_front-in-Call-clause-ok
returns-in_ok-put_front-in-Call-clause-ok c =
    rw c.in-Call.is (on_ok_weaker c.encode.result
    (threaded c.args.minor c.args.thread 4 _ (event_of_call c.in-Call.call) c.args.out.now.items _ _ c.call_id.ensures.kind refl c.call_id.ensures.id c.in_ok-put_front-in-Call.ensures.ok)
    c.encode.ensures.ok)

pub returns-in_ok-put_front-in-Meta-clause-ok : goal.returns-in_ok-put_front-in-Meta-clause-ok
returns-in_ok-put_front-in-Meta-clause-ok c =
    rw c.in-Meta.is (on_ok_weaker c.encode_meta.result
    (threaded c.args.minor c.args.thread 3 _ (event_of_meta c.in-Meta.meta) c.args.out.now.items _ _ c.meta_id.ensures.kind refl c.meta_id.ensures.id c.in_ok-put_front-in-Meta.ensures.ok)
    (rw (meta_spelling c.args.minor c.in-Meta.meta) c.encode_meta.ensures.ok))

pub returns-after-begin-clause-ok : goal.returns-after-begin-clause-ok
returns-after-begin-clause-ok c =
    let kind : c.if-begin.kind ≡ cond c.in-Marker.begin 1 2 = elim c.if-begin.branch [
      | then-begin w ↦ rw w.if-begin.true w.kind-is
      | else-begin w ↦ rw w.if-begin.false w.kind-is
    ] in
    rw c.in-Marker.is (on_ok_weaker c.put_front-in-Marker.result
    (marked c.args.minor c.args.thread c.in-Marker.frame c.if-begin.kind c.in-Marker.begin c.args.out.now.items _ kind)
    c.put_front-in-Marker.ensures.ok)
