use Rattle.std.proofs.Common.{◌∷◌, ◌++◌, [], Ok, Err, sym, ap, subst, ◌∙◌, arith}
use Rattle.std.proofs.lemmas.Result.{err_from_is_err_and}
use Rattle.gfx_decode.specs.Decoding.{item_of}
use Rattle.gfx_decode.specs.Reachable.{IsBehind}
use Rattle.gfx_player.proofs.Walking.{still_going}
use Rattle.gfx_trim.specs.Cutters.{GoesOn, IsAfter, Takes}
use Rattle.gfx_trim.proofs.Files.{cut_done, cut_more, file_ends, next_fails, start, take_fails}
use Rattle.gfx_trim.proofs.Taking.{after_alike}
use Rattle.gfx_trim.proofs.trimming.cut_opened.Goals as goal

pub reading-init : goal.reading-init
reading-init g c =
    let p = c.args.player.now in
    let cutter = c.new-cutter.result in
    let of = c.new-cutter.ensures in
    let after : IsAfter cutter p [] = record { replayed = c.requires.replayed; phase = rw (of.first, of.last) of.phase } in
    let (file, read) = c.requires.read in
    record {
      going = still_going 0 p.decoder read.place;
      cutting = λ file read. ([], start c.args.first c.args.last p cutter file _ (g.K.Sink.taken c.args.sink.now) after read of.first of.last (of.minor ∙ c.minor.ensures));
      later_source = omega arith;
      later_sink = omega arith;
    }

pub next-requires : goal.next-requires
next-requires g c = record { going = c.reading.invariant.going }

pub take-requires : goal.take-requires
take-requires g c =
    let (file, read) = c.requires.read in
    let (fed, w) = c.reading.invariant.cutting file read in
    record { after = (fed, after_alike c.reading.cutter c.reading.player c.next.new.self fed c.next.ensures.kept w.stands) }

pub returns-in_err-raw-clause-told : goal.returns-in_err-raw-clause-told
returns-in_err-raw-clause-told g c file read =
    let p = err_from_is_err_and c.from_residual.result c.from_residual.ensures.1 in
    let (fed, w) = c.reading.invariant.cutting file read in
    let why = c.in_err-raw.field-0.0 in
    let before = g.K.Sink.taken c.args.sink.now in
    let after = g.K.Sink.taken c.reading.sink in
    rw (p.1, p.2)
    (next_fails c.args.first c.args.last c.reading.player c.reading.cutter fed why _ _ _ before after c.requires.ordered w (c.in_err-raw.ensures.err fed _ w.stands.replayed.replays.stands.valid w.read))

-- a block was not taken
pub returns-in_err-take-clause-told : goal.returns-in_err-take-clause-told
returns-in_err-take-clause-told g c file read =
    let p = err_from_is_err_and c.from_residual-in_err-take.result c.from_residual-in_err-take.ensures.1 in
    let (fed, w) = c.reading.invariant.cutting file read in
    let why = c.in_err-take.field-0.0 in
    let before = g.K.Sink.taken c.args.sink.now in
    let after = g.K.Sink.taken c.take.new.sink in
    let some = rw c.in-Some.is at c.in_ok-raw.ensures.some in
    let stands = after_alike c.reading.cutter c.reading.player c.next.new.self fed c.next.ensures.kept w.stands in
    let did = c.in_err-take.ensures in
    rw (p.1, p.2)
    (take_fails c.args.first c.args.last c.reading.player c.next.new.self c.reading.cutter fed (item_of c.in-Some.raw) why _ _ _ before (g.K.Sink.taken c.reading.sink) after c.requires.ordered w (some fed _ w.read) c.next.ensures.kept.minor
    (did.takes.err fed stands) (λ fault block offset is. ap (λ s. g.K.Sink.taken s) (did.refused fault block offset (ap Err is))) (did.takes.front fed before stands w.text))

-- the last block of the range was taken
pub returns-then-branch-clause-told : goal.returns-then-branch-clause-told
returns-then-branch-clause-told g c file read =
    let (fed, w) = c.reading.invariant.cutting file read in
    let before = g.K.Sink.taken c.args.sink.now in
    let after = g.K.Sink.taken c.take.new.sink in
    let some = rw c.in-Some.is at c.in_ok-raw.ensures.some in
    let stands = after_alike c.reading.cutter c.reading.player c.next.new.self fed c.next.ensures.kept w.stands in
    let did = c.in_ok-take.ensures.takes in
    cut_done c.args.first c.args.last c.reading.player c.next.new.self c.reading.cutter fed (item_of c.in-Some.raw) _ _ _ before (g.K.Sink.taken c.reading.sink) after c.requires.ordered w (some fed _ w.read) c.next.ensures.kept.minor
    (subst (λ t. Takes t c.reading.cutter c.take.new.self c.take.new.player fed (item_of c.in-Some.raw)) c.if-branch.true (did.ok fed stands)) (did.text fed before stands w.text)

pub reading-preserved : goal.reading-preserved
reading-preserved g c =
    let fewer = rw c.in-Some.is at c.in_ok-raw.ensures.fewer in
    record {
      going = subst (IsBehind 0) (sym c.in_ok-take.ensures.same.decoder) fewer.0;
      cutting = λ file read.
          let (fed, w) = c.reading.invariant.cutting file read in
          let before = g.K.Sink.taken c.args.sink.now in
          let after = g.K.Sink.taken c.take.new.sink in
          let some = rw c.in-Some.is at c.in_ok-raw.ensures.some in
          let stands = after_alike c.reading.cutter c.reading.player c.next.new.self fed c.next.ensures.kept w.stands in
          let did = c.in_ok-take.ensures.takes in
          let goes : GoesOn c.reading.cutter c.take.new.self c.take.new.player fed (item_of c.in-Some.raw) =
          subst (λ t. Takes t c.reading.cutter c.take.new.self c.take.new.player fed (item_of c.in-Some.raw)) c.if-branch.false (did.ok fed stands) in (
            fed ++ item_of c.in-Some.raw ∷ [],
            cut_more c.args.first c.args.last c.reading.player c.next.new.self c.take.new.player c.reading.cutter c.take.new.self fed (item_of c.in-Some.raw) _ _ _ before (g.K.Sink.taken c.reading.sink) after w (some fed _ w.read)
                c.next.ensures.kept.minor c.in_ok-take.ensures.same goes (did.text fed before stands w.text),
          );
      later_source = omega (arith, c.reading.invariant.later_source, c.in_ok-raw.ensures.later);
      later_sink = omega (arith, c.reading.invariant.later_sink, c.in_ok-take.ensures.later);
    }

-- the file is at its clean end
pub returns-clause-told : goal.returns-clause-told
returns-clause-told g c file read =
    let (fed, w) = c.reading.invariant.cutting file read in
    let before = g.K.Sink.taken c.args.sink.now in
    let after = g.K.Sink.taken c.reading.sink in
    file_ends c.args.first c.args.last c.reading.player c.next.new.self c.reading.cutter fed c.no_such_frame.result _ _ _ before after c.requires.ordered w c.next.ensures.kept
    (c.in_ok-raw.ensures.none (ap Ok c.in_default.is) fed _ w.stands.replayed.replays.stands.valid w.read) c.no_such_frame.ensures
