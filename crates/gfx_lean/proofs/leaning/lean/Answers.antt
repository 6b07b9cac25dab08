use Rattle.gfx_decode.proofs.Told.{told_if}
use Rattle.gfx_player.proofs.ToldBytes.{told_bytes}
use Rattle.gfx_lean.specs.Leans.{Answers, AnswersKeeping, KeepsIfDone}
use Rattle.gfx_lean.proofs.leaning.lean.Goals as goal

pub returns-clause-told : goal.returns-clause-told
returns-clause-told g c =
    let before = g.K.Sink.taken c.args.sink.now in
    let after = g.K.Sink.taken c.lean_range.new.sink in
    told_if _ _ (AnswersKeeping c.args.first c.args.last before after c.lean_range.result) (Answers c.args.first c.args.last before after c.lean_range.result)
    (told_bytes _ _ (AnswersKeeping c.args.first c.args.last before after c.lean_range.result) (g.met.S.Source.are_bytes c.args.source.now) c.lean_range.ensures.told) (λ all left both. both.0)

pub returns-clause-keeps : goal.returns-clause-keeps
returns-clause-keeps g c =
    let before = g.K.Sink.taken c.args.sink.now in
    let after = g.K.Sink.taken c.lean_range.new.sink in
    told_if _ _ (AnswersKeeping c.args.first c.args.last before after c.lean_range.result) (KeepsIfDone c.args.first c.args.last before after c.lean_range.result)
    (told_bytes _ _ (AnswersKeeping c.args.first c.args.last before after c.lean_range.result) (g.met.S.Source.are_bytes c.args.source.now) c.lean_range.ensures.told) (λ all left both. both.1)
