use Rattle.std.proofs.Common.{◌∷◌, ◌++◌, [], Ok, refl, sym, ap, subst, arith}
use Rattle.std.specs.Prelude.{IfErr}
use Rattle.std.proofs.lemmas.Result.{err_from_is_err_and}
use Rattle.gfx_decode.specs.Decoding.{item_of}
use Rattle.gfx_decode.specs.Reachable.{IsBehind}
use Rattle.gfx_player.specs.Fed.{history_of}
use Rattle.gfx_range.specs.Follower.{Refuses}
use Rattle.gfx_lean.specs.Leaner.{GoesOn, IsWhole, Takes}
use Rattle.gfx_lean.proofs.Files.{file_ends, lean_more, lean_whole, IsNoSuchFrame, next_fails, take_fails}
use Rattle.gfx_lean.proofs.Taking.{after_alike}
use Rattle.gfx_lean.proofs.leaning.read_range.Goals as goal

pub reading-init : goal.reading-init
reading-init g c = record {
  going = c.requires.going;
  leaning = (
    [],
    (c.requires.begun, λ file read. record { stands = c.requires.begun; read = read; first_is = refl; last_is = refl; minor_is = c.requires.minor }),
  );
  later = omega arith;
}

pub next-requires : goal.next-requires
next-requires g c = record { going = c.reading.invariant.going }

pub returns-in_err-raw-clause-err : goal.returns-in_err-raw-clause-err
returns-in_err-raw-clause-err g c =
    let p = err_from_is_err_and c.from_residual.result c.from_residual.ensures.1 in
    let (fed, w) = c.reading.invariant.leaning in
    rw (p.1, p.2)
    (λ file taken read.
    next_fails c.args.leaner.now.first c.args.leaner.now.last c.reading.player c.reading.leaner fed c.in_err-raw.field-0.0 file _ _ taken c.requires.ordered (w.1 file read)
    (c.in_err-raw.ensures.err fed file w.0.follows.valid (w.1 file read).read))

-- a block was not taken
pub returns-in_err-take-clause-err : goal.returns-in_err-take-clause-err
returns-in_err-take-clause-err g c =
    let p = err_from_is_err_and c.from_residual-in_err-take.result c.from_residual-in_err-take.ensures.1 in
    let (fed, w) = c.reading.invariant.leaning in
    let some = rw c.in-Some.is at c.in_ok-raw.ensures.some in
    let stands = after_alike c.reading.leaner c.reading.player c.next.new.self fed c.next.ensures.kept w.0 in
    rw (p.1, p.2)
    (λ file taken read.
    take_fails c.args.leaner.now.first c.args.leaner.now.last c.reading.player c.next.new.self c.reading.leaner fed (item_of c.in-Some.raw) c.in_err-take.field-0.0 file _ _ taken c.requires.ordered (w.1 file read)
    (some fed file (w.1 file read).read) (c.in_err-take.ensures.err fed stands))

-- the last block of the range was taken
pub returns-then-branch-clause-ok : goal.returns-then-branch-clause-ok
returns-then-branch-clause-ok g c =
    let (fed, w) = c.reading.invariant.leaning in
    let some = rw c.in-Some.is at c.in_ok-raw.ensures.some in
    let stands = after_alike c.reading.leaner c.reading.player c.next.new.self fed c.next.ensures.kept w.0 in
    let ends : IsWhole c.reading.leaner c.take.new.self c.take.new.player fed (item_of c.in-Some.raw) =
    subst (λ t. Takes t c.reading.leaner c.take.new.self c.take.new.player fed (item_of c.in-Some.raw)) c.if-branch.true (c.in_ok-take.ensures.ok fed stands) in
    λ file read.
    lean_whole c.args.leaner.now.first c.args.leaner.now.last c.reading.player c.next.new.self c.take.new.player c.reading.leaner c.take.new.self fed (item_of c.in-Some.raw) file _ _ (w.1 file read)
    (some fed file (w.1 file read).read) c.next.ensures.kept.minor c.in_ok-take.ensures.same ends

pub reading-preserved : goal.reading-preserved
reading-preserved g c =
    let (fed, w) = c.reading.invariant.leaning in
    let some = rw c.in-Some.is at c.in_ok-raw.ensures.some in
    let fewer = rw c.in-Some.is at c.in_ok-raw.ensures.fewer in
    let stands = after_alike c.reading.leaner c.reading.player c.next.new.self fed c.next.ensures.kept w.0 in
    let goes : GoesOn c.reading.leaner c.take.new.self c.take.new.player fed (item_of c.in-Some.raw) =
    subst (λ t. Takes t c.reading.leaner c.take.new.self c.take.new.player fed (item_of c.in-Some.raw)) c.if-branch.false (c.in_ok-take.ensures.ok fed stands) in
    record {
      going = subst (IsBehind 0) (sym c.in_ok-take.ensures.same.decoder) fewer.0;
      leaning = (
        fed ++ item_of c.in-Some.raw ∷ [],
        (
          goes.after,
          λ file read.
              lean_more c.args.leaner.now.first c.args.leaner.now.last c.reading.player c.next.new.self c.take.new.player c.reading.leaner c.take.new.self fed (item_of c.in-Some.raw) file _ _ (w.1 file read)
              (some fed file (w.1 file read).read) c.next.ensures.kept.minor c.in_ok-take.ensures.same goes,
        ),
      );
      later = omega (arith, c.reading.invariant.later, c.in_ok-raw.ensures.later);
    }

-- the file is at its clean end
pub returns-clause-err : goal.returns-clause-err
returns-clause-err g c =
    let (fed, w) = c.reading.invariant.leaning in
    λ file taken read.
    file_ends c.args.leaner.now.first c.args.leaner.now.last c.reading.player c.reading.leaner fed c.no_such_frame.result file _ _ taken c.requires.ordered (w.1 file read)
    (c.in_ok-raw.ensures.none (ap Ok c.in_default.is) fed file w.0.follows.valid (w.1 file read).read) (c.no_such_frame.ensures (history_of fed) w.0.follows)

-- A refused block and a range that is not there rise from no fault of the source, and none of them is a failed write.
pub returns-in_err-take-clause-cause : goal.returns-in_err-take-clause-cause
returns-in_err-take-clause-cause g c =
    let p = err_from_is_err_and c.from_residual-in_err-take.result c.from_residual-in_err-take.ensures.1 in
    let (fed, w) = c.reading.invariant.leaning in
    let stands = after_alike c.reading.leaner c.reading.player c.next.new.self fed c.next.ensures.kept w.0 in
    rw (p.1, p.2) (λ is. absurd (subst (λ r. IfErr r (Refuses (history_of fed) (item_of c.in-Some.raw))) is (c.in_err-take.ensures.err fed stands)))

pub returns-in_err-take-clause-sink : goal.returns-in_err-take-clause-sink
returns-in_err-take-clause-sink g c =
    let p = err_from_is_err_and c.from_residual-in_err-take.result c.from_residual-in_err-take.ensures.1 in
    let (fed, w) = c.reading.invariant.leaning in
    let stands = after_alike c.reading.leaner c.reading.player c.next.new.self fed c.next.ensures.kept w.0 in
    rw (p.1, p.2) (λ is. subst (λ r. IfErr r (Refuses (history_of fed) (item_of c.in-Some.raw))) is (c.in_err-take.ensures.err fed stands))

pub returns-clause-cause : goal.returns-clause-cause
returns-clause-cause g c = λ is.
    let (fed, w) = c.reading.invariant.leaning in
    absurd (subst (λ r. IfErr r IsNoSuchFrame) is (subst IsNoSuchFrame (sym (c.no_such_frame.ensures (history_of fed) w.0.follows)) tt))

pub returns-clause-sink : goal.returns-clause-sink
returns-clause-sink g c = λ is.
    let (fed, w) = c.reading.invariant.leaning in
    subst (λ r. IfErr r IsNoSuchFrame) is (subst IsNoSuchFrame (sym (c.no_such_frame.ensures (history_of fed) w.0.follows)) tt)
