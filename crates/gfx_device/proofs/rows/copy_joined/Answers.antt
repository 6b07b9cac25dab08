use Rattle.std.proofs.lemmas.Result.{on_ok_weaker}
use Rattle.std.proofs.Common.{◌∙◌, length, arith}
use Rattle.gfx_device.proofs.Gapless.{joined_whole, rows_end}
use Rattle.gfx_device.proofs.rows.copy_joined.Goals as goal

-- src/rows.rt:45:5
pub copy_from-requires-clause-room : goal.copy_from-requires-clause-room
copy_from-requires-clause-room c = rows_end (length c.args.target.now) c.args.copy.to_offset c.args.copy.to_step c.args.copy.length c.args.copy.rows c.requires.some c.requires.to_step c.requires.to

-- src/rows.rt:45:5
pub copy_from-requires-clause-there : goal.copy_from-requires-clause-there
copy_from-requires-clause-there c = rows_end (length c.args.source.now) c.args.copy.from_offset c.args.copy.from_step c.args.copy.length c.args.copy.rows c.requires.some c.requires.from_step c.requires.from

-- src/rows.rt:35:1
pub returns-clause-ok : goal.returns-clause-ok
returns-clause-ok c =
    let source_end = rows_end (length c.args.source.now) c.args.copy.from_offset c.args.copy.from_step c.args.copy.length c.args.copy.rows c.requires.some c.requires.from_step c.requires.from in
    let target_end = rows_end (length c.args.target.now) c.args.copy.to_offset c.args.copy.to_step c.args.copy.length c.args.copy.rows c.requires.some c.requires.to_step c.requires.to in
    on_ok_weaker c.copy_from.result
    (λ is. is ∙ joined_whole c.args.copy c.args.source.now c.args.target.now c.requires.to_step c.requires.from_step source_end (omega arith)) c.copy_from.ensures.ok
