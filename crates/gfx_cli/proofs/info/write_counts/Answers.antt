use Rattle.std.proofs.Common.{inl, Ok, Err, sym, ap, subst, ◌∙◌}
use Rattle.std.specs.Io.KnownBytes.{Appends}
use Rattle.std.proofs.lemmas.Result.{err_from_is_err_and}
use Rattle.gfx_io.specs.Pieces.{AppendsPart}
use Rattle.gfx_io.proofs.Appending.{appends_none}
use Rattle.gfx_io.specs.Told.{IfTold}
use Rattle.gfx_decode.proofs.Told.{told_if}
use Rattle.gfx_words.specs.declared.command.Command.TheVariants.{Info}
use Rattle.gfx_cli.specs.Counts.{CountsAll}
use Rattle.gfx_cli.specs.Ends.{Ends}
use Rattle.gfx_cli.specs.declared.stop.Stop.TheVariants.{WantMemory, WriteFault}
use Rattle.gfx_cli.proofs.Ending.{info_done, info_part}
use Rattle.gfx_cli.proofs.info.write_counts.Goals as goal

pub returns-in_err-text-clause-ends : goal.returns-in_err-text-clause-ends
returns-in_err-text-clause-ends g c =
    let p = err_from_is_err_and c.from_residual-in_err-text.result c.from_residual-in_err-text.ensures.1 in
    let taken = g.K.Sink.taken c.args.sink.now in
    subst (λ r. IfTold (g.S.Source.left c.args.source.now) (g.S.Source.left c.count.new.source) (Ends Info taken taken r)) (sym (p.1 ∙ ap Err p.2))
    (told_if _ _ (CountsAll (Ok c.in_ok-counts.counts)) (Ends Info taken taken (Err WantMemory)) c.in_ok-counts.ensures.told
    (λ all rest told. inl (appends_none taken)))

pub returns-in_err-write_whole-clause-ends : goal.returns-in_err-write_whole-clause-ends
returns-in_err-write_whole-clause-ends g c =
    let p = err_from_is_err_and c.from_residual-in_err-write_whole.result c.from_residual-in_err-write_whole.ensures.1 in
    let before = g.K.Sink.taken c.args.sink.now in
    let after = g.K.Sink.taken c.write_whole.new.sink in
    subst (λ r. IfTold (g.S.Source.left c.args.source.now) (g.S.Source.left c.count.new.source) (Ends Info before after r)) (sym (p.1 ∙ ap Err p.2))
    (told_if _ _ (CountsAll (Ok c.in_ok-counts.counts)) (Ends Info before after (Err WriteFault)) c.in_ok-counts.ensures.told
    (λ all rest told. info_part c.in_ok-counts.counts before after all rest told
    (subst (AppendsPart before after) (c.as_bytes.ensures.value ∙ c.in_ok-text.ensures) c.in_err-write_whole.ensures.failed)))

pub returns-clause-ends : goal.returns-clause-ends
returns-clause-ends g c =
    let before = g.K.Sink.taken c.args.sink.now in
    let after = g.K.Sink.taken c.write_whole.new.sink in
    told_if _ _ (CountsAll (Ok c.in_ok-counts.counts)) (Ends Info before after (Ok tt)) c.in_ok-counts.ensures.told
    (λ all rest told. info_done c.in_ok-counts.counts before after all rest told
    (subst (Appends before after) (c.as_bytes.ensures.value ∙ c.in_ok-text.ensures) c.in_ok-write_whole.ensures.bytes))
