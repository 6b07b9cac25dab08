use Rattle.std.proofs.Common.{inl, Ok, Err, refl, sym, ap, subst, ◌∙◌}
use Rattle.std.proofs.lemmas.Result.{err_from_is_err_and}
use Rattle.gfx_decode.proofs.Told.{told_if}
use Rattle.gfx_words.specs.declared.command.Command.TheVariants.{Lean, Unlist as Unlists, Make, Help, Version}
use Rattle.gfx_player.specs.declared.fault.PlayFault.TheVariants as play
use Rattle.gfx_lean.specs.Leans as lean
use Rattle.gfx_list.specs.Unlists as unlist
use Rattle.gfx_list.specs.declared.fault.UnlistFault.TheVariants as fault
use Rattle.gfx_trial.specs.Text.{trial_text}
use Rattle.gfx_cli.specs.CommandPromise.{KeepsCommand}
use Rattle.gfx_cli.specs.Ends.{Ends}
use Rattle.gfx_cli.specs.Seen.{seen}
use Rattle.gfx_cli.specs.Stop.{of_play, of_unlist}
use Rattle.gfx_cli.specs.Text.{help_text, version_line}
use Rattle.gfx_cli.proofs.Ending.{lean_fails, read_of, sink_of, unlist_done, unlist_fails, unlist_may, unlist_read, unlist_sink, walk_may}
use Rattle.gfx_cli.proofs.Keeping.{IsText, did, fault_stopped, info_kept, text_kept}
use Rattle.gfx_cli.proofs.commands.run_command.Goals as goal

pub returns-in-Info : goal.returns-in-Info
returns-in-Info g c =
    let source = seen c.args.source.now c.write_counts.new.source g.S.Source.left g.S.Source.faults in
    let sink = seen c.args.sink.now c.write_counts.new.sink g.K.Sink.taken g.K.Sink.faults in
    let at = c.write_counts.ensures in
    subst (λ k. KeepsCommand k source sink c.write_counts.result) (sym c.in-Info.is) (info_kept source sink c.write_counts.result at.ends at.may at.read_fault at.write_fault at.later)

pub returns-in_err-lean-in-Lean : goal.returns-in_err-lean-in-Lean
returns-in_err-lean-in-Lean g c =
    let source = seen c.args.source.now c.lean.new.source g.S.Source.left g.S.Source.faults in
    let sink = seen c.args.sink.now c.lean.new.sink g.K.Sink.taken g.K.Sink.faults in
    let r = c.in-Lean.range in
    let why = c.in_err-lean-in-Lean.field-0.0 in
    let before = g.K.Sink.taken c.args.sink.now in
    let after = g.K.Sink.taken c.lean.new.sink in
    let p = err_from_is_err_and c.from_residual-in_err-lean-in-Lean.result c.from_residual-in_err-lean-in-Lean.ensures.1 in
    subst (λ k. KeepsCommand k source sink c.from_residual-in_err-lean-in-Lean.result) (sym c.in-Lean.is)
    (fault_stopped of_play play.ReadFault play.SinkFault read_of sink_of (Lean r) source sink why _ (lean.Answers r.first r.last before after (Err why)) (p.1 ∙ ap Err p.2) tt (walk_may (Lean r) why tt tt (inl tt)) c.in_err-lean-in-Lean.ensures.told
    (λ all rest told. lean_fails why r before after all rest told) c.in_err-lean-in-Lean.ensures.read_fault c.in_err-lean-in-Lean.ensures.sink_fault c.in_err-lean-in-Lean.ensures.later)

pub returns-in_err-unlist-in-Unlist : goal.returns-in_err-unlist-in-Unlist
returns-in_err-unlist-in-Unlist g c =
    let source = seen c.args.source.now c.unlist.new.source g.S.Source.left g.S.Source.faults in
    let sink = seen c.args.sink.now c.unlist.new.sink g.K.Sink.taken g.K.Sink.faults in
    let why = c.in_err-unlist-in-Unlist.field-0.0 in
    let before = g.K.Sink.taken c.args.sink.now in
    let after = g.K.Sink.taken c.unlist.new.sink in
    let p = err_from_is_err_and c.from_residual-in_err-unlist-in-Unlist.result c.from_residual-in_err-unlist-in-Unlist.ensures.1 in
    subst (λ k. KeepsCommand k source sink c.from_residual-in_err-unlist-in-Unlist.result) (sym c.in-Unlist.is)
    (fault_stopped of_unlist fault.ReadFault fault.SinkFault unlist_read unlist_sink Unlists source sink why _ (unlist.Unlists before after (Err why)) (p.1 ∙ ap Err p.2) tt (unlist_may why) c.in_err-unlist-in-Unlist.ensures.told
    (λ all rest told. unlist_fails why before after all rest told) c.in_err-unlist-in-Unlist.ensures.read_fault c.in_err-unlist-in-Unlist.ensures.sink_fault c.in_err-unlist-in-Unlist.ensures.later)

pub returns-in_ok-unlist-in-Unlist : goal.returns-in_ok-unlist-in-Unlist
returns-in_ok-unlist-in-Unlist g c =
    let source = seen c.args.source.now c.unlist.new.source g.S.Source.left g.S.Source.faults in
    let sink = seen c.args.sink.now c.unlist.new.sink g.K.Sink.taken g.K.Sink.faults in
    let before = g.K.Sink.taken c.args.sink.now in
    let after = g.K.Sink.taken c.unlist.new.sink in
    let told = c.in_ok-unlist-in-Unlist.ensures.told in
    subst (λ k. KeepsCommand k source sink (Ok tt)) (sym c.in-Unlist.is)
    (did Unlists source sink tt (told_if _ _ (unlist.Unlists before after (Ok tt)) (Ends Unlists before after (Ok tt)) told (λ all rest is. unlist_done before after all rest is)) told c.in_ok-unlist-in-Unlist.ensures.later)

pub returns-in-Help : goal.returns-in-Help
returns-in-Help g c =
    let source = seen c.args.source.now c.args.source.now g.S.Source.left g.S.Source.faults in
    let sink = seen c.args.sink.now c.write_text.new.sink g.K.Sink.taken g.K.Sink.faults in
    let at = c.write_text.ensures in
    let is : IsText Help help_text =
    record { good = λ bytes. tt; leaves = λ bytes. refl; writes = λ Took bytes took. took; shows = λ before after bytes left. tt }
    in
    subst (λ k. KeepsCommand k source sink c.write_text.result) (sym c.in-Help.is)
    (text_kept Help help_text c.args.source.now (g.S.Source.left c.args.source.now) (g.S.Source.faults c.args.source.now) sink c.write_text.result is at.ok at.front at.why at.write_fault at.later)

pub returns-in-Version : goal.returns-in-Version
returns-in-Version g c =
    let source = seen c.args.source.now c.args.source.now g.S.Source.left g.S.Source.faults in
    let sink = seen c.args.sink.now c.write_text-in-Version.new.sink g.K.Sink.taken g.K.Sink.faults in
    let at = c.write_text-in-Version.ensures in
    let is : IsText Version version_line =
    record { good = λ bytes. tt; leaves = λ bytes. refl; writes = λ Took bytes took. took; shows = λ before after bytes left. tt }
    in
    subst (λ k. KeepsCommand k source sink c.write_text-in-Version.result) (sym c.in-Version.is)
    (text_kept Version version_line c.args.source.now (g.S.Source.left c.args.source.now) (g.S.Source.faults c.args.source.now) sink c.write_text-in-Version.result is at.ok at.front at.why at.write_fault at.later)

pub returns-in-Make : goal.returns-in-Make
returns-in-Make g c =
    let source = seen c.args.source.now c.args.source.now g.S.Source.left g.S.Source.faults in
    let sink = seen c.args.sink.now c.make.new.sink g.K.Sink.taken g.K.Sink.faults in
    let n = c.in-Make.frames in
    let at = c.make.ensures in
    let is : IsText (Make n) (trial_text n) =
    record { good = λ bytes. tt; leaves = λ bytes. refl; writes = λ Took bytes took. took; shows = λ before after bytes left. tt }
    in
    subst (λ k. KeepsCommand k source sink c.make.result) (sym c.in-Make.is)
    (text_kept (Make n) (trial_text n) c.args.source.now (g.S.Source.left c.args.source.now) (g.S.Source.faults c.args.source.now) sink c.make.result is at.ok at.front at.why at.write_fault at.later)
