use Rattle.std.proofs.Common.{◌-◌, List}
use Rattle.gfx_grammar.specs.Reading.{read_list}
use Rattle.gfx_params.proofs.Items.{Continues}
use Rattle.gfx_params.proofs.lists.skip_items.Given as goal

-- some items were skipped, and the others follow
abbrev pub invariant-items : goal.invariant-items
invariant-items g l =
    let item = g.T.ReadFields in
    (front : List item.Seen) × Continues item.reader front (l.count - l.counter) l.rest (read_list item.reader l.bytes)
