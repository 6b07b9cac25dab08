use Rattle.std.proofs.Common.{◌+◌, refl, ◌∙◌}
use Rattle.gfx_shadow.proofs.Indexed.{fewer_left, fewer_indexed, none_left, none_indexed}
use Rattle.gfx_shadow.proofs.memories.writes.leave.Goals as goal

pub returns-then-memories-len-clause-indexed : goal.returns-then-memories-len-clause-indexed
returns-then-memories-len-clause-indexed c =
    let m = c.args.memories.now in
    none_indexed m (record { rows = c.clear.new.self; first = 0; places = c.remove-place.new.self }) c.args.memory c.requires.first c.remove-place.ensures.map c.clear.ensures.items refl (c.if-memories-len.true ∙ c.len.ensures ∙ m.rows.ok.0)

pub returns-then-memories-len-clause-rows : goal.returns-then-memories-len-clause-rows
returns-then-memories-len-clause-rows c =
    let m = c.args.memories.now in
    none_left m (record { rows = c.clear.new.self; first = 0; places = c.remove-place.new.self }) c.args.memory c.requires.first c.remove-place.ensures.map c.clear.ensures.items refl (c.if-memories-len.true ∙ c.len.ensures ∙ m.rows.ok.0)

pub returns-else-memories-len-clause-indexed : goal.returns-else-memories-len-clause-indexed
returns-else-memories-len-clause-indexed c =
    let m = c.args.memories.now in fewer_indexed m (record { rows = m.rows; first = m.first + 1; places = c.remove-place.new.self }) c.args.memory c.requires.first c.remove-place.ensures.map refl refl

pub returns-else-memories-len-clause-rows : goal.returns-else-memories-len-clause-rows
returns-else-memories-len-clause-rows c =
    let m = c.args.memories.now in fewer_left m (record { rows = m.rows; first = m.first + 1; places = c.remove-place.new.self }) c.args.memory c.requires.first c.remove-place.ensures.map refl refl
