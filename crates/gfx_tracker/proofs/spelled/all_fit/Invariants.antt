use Rattle.std.proofs.Common.{take}
use Rattle.std.specs.List.{AllByRecursion}
use Rattle.gfx_model.specs.Spelling.{FieldFits}
use Rattle.gfx_tracker.proofs.spelled.all_fit.Given as goal

-- the records so far fit
abbrev pub invariant-records : goal.invariant-records
invariant-records g l = AllByRecursion (λ item. AllByRecursion FieldFits (g.T.Record.fields item)) (take l.item-index l.items)
