use Rattle.std.proofs.Common.{◌∷◌, ◌++◌, List, [], Err, sym, subst, ◌∙◌, arith}
use Rattle.std.specs.Prelude.{IfErr}
use Rattle.std.proofs.lemmas.Result.{err_from_is_err_and}
use Rattle.gfx_io.specs.Told.{IfTold}
use Rattle.gfx_model.specs.Blocks.{Whole}
use Rattle.gfx_model.specs.Events.{Event}
use Rattle.gfx_model.specs.Trimmed.{boundary, history_to}
use Rattle.gfx_range.specs.Range.{IsGathered}
use Rattle.gfx_replay.specs.Replayer.{StandsFor}
use Rattle.gfx_lean.specs.Leaner.{IsFailed}
use Rattle.gfx_lean.specs.Leans.{AnswersIfBytes}
use Rattle.gfx_lean.specs.Reading.{Leaned}
use Rattle.gfx_lean.proofs.Files.{write_ends}
use Rattle.gfx_lean.proofs.leaning.lean_opened.Goals as goal

pub read_range-requires : goal.read_range-requires
read_range-requires g c = record {
  ordered = omega (arith, c.new-leaner.ensures.first, c.new-leaner.ensures.last, c.requires.ordered);
  minor = c.new-leaner.ensures.minor ∙ c.minor.ensures;
  begun = c.new-leaner.ensures.after _ c.requires.replayed;
  going = c.requires.going;
}

pub returns-in_err-read_range-clause-told : goal.returns-in_err-read_range-clause-told
returns-in_err-read_range-clause-told g c =
    let p = err_from_is_err_and c.from_residual.result c.from_residual.ensures.1 in
    let taken = g.K.Sink.taken c.args.sink.now in
    rw (p.1, p.2)
    (λ file read.
    subst (λ a. IfTold file (g.S.Source.left c.read_range.new.source) (AnswersIfBytes a c.args.last taken taken (Err c.in_err-read_range.field-0.0))) c.new-leaner.ensures.first
    (subst (λ b. IfTold file (g.S.Source.left c.read_range.new.source) (AnswersIfBytes c.new-leaner.result.first b taken taken (Err c.in_err-read_range.field-0.0))) c.new-leaner.ensures.last
    (c.in_err-read_range.ensures.err file taken read)))

pub write-requires : goal.write-requires
write-requires g c =
    let (file, read) = c.requires.read in
    let w : Leaned c.new-leaner.result.first c.new-leaner.result.last c.read_range.new.player c.read_range.new.leaner file (g.S.Source.left c.read_range.new.source) = c.in_ok-read_range.ensures.ok file read in
    let h = history_to (boundary c.read_range.new.leaner.first (w.fed ++ w.block ∷ [])) in
    (h, subst (λ r. StandsFor r h) (sym c.replayer.ensures) w.has.replays)

pub returns-clause-told : goal.returns-clause-told
returns-clause-told g c = λ file read.
    let q = c.read_range.new.player in
    let new = c.read_range.new.leaner in
    let left = g.S.Source.left c.read_range.new.source in
    let w : Leaned c.args.first c.args.last q new file left =
    subst (λ a. Leaned a c.args.last q new file left) c.new-leaner.ensures.first (subst (λ b. Leaned c.new-leaner.result.first b q new file left) c.new-leaner.ensures.last (c.in_ok-read_range.ensures.ok file read)) in
    let replays = subst (λ r. StandsFor r (history_to (boundary new.first (w.fed ++ w.block ∷ [])))) (sym c.replayer.ensures) w.has.replays in
    write_ends c.args.first c.args.last q new file left (g.K.Sink.taken c.args.sink.now) (g.K.Sink.taken c.write.new.sink) c.requires.ordered w c.replayer.result.now c.write.result replays c.write.ensures.ok c.write.ensures.err

-- a failed write rises from no fault of the source
pub returns-clause-read_fault : goal.returns-clause-read_fault
returns-clause-read_fault g c = λ is.
    let (file, read) = c.requires.read in
    let new = c.read_range.new.leaner in
    let w : Leaned c.new-leaner.result.first c.new-leaner.result.last c.read_range.new.player new file (g.S.Source.left c.read_range.new.source) = c.in_ok-read_range.ensures.ok file read in
    let after = boundary new.first (w.fed ++ w.block ∷ []) in
    let replays = subst (λ r. StandsFor r (history_to after)) (sym c.replayer.ensures) w.has.replays in
    absurd (subst (λ r. IfErr r (λ why. (h : List Event) (ws : List Whole) → StandsFor c.replayer.result.now h → IsGathered new.range h ws
    → IsFailed new.minor new.first h ws (g.K.Sink.taken c.args.sink.now) (g.K.Sink.taken c.write.new.sink) why)) is c.write.ensures.err (history_to after) after.rest replays w.has.gathered)
