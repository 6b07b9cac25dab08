use Rattle.std.proofs.Common.{◌≡◌, map, take}
use Rattle.gfx_state.specs.Parts.{answers_in}
use Rattle.gfx_state.specs.Sections.{kind_at}
use Rattle.gfx_state.proofs.section.kinds_of.Given as goal

-- the kinds of the ids so far
abbrev pub invariant-ids : goal.invariant-ids
invariant-ids l = l.kinds.items ≡ map (kind_at (answers_in l.parts)) (take l.id-index l.ids)
