use Rattle.std.proofs.Common.{◌-◌, length}
use Rattle.std.specs.Prelude.{map}
use Rattle.gfx_text_grammar.specs.Reading.{read_items}
use Rattle.gfx_text.proofs.Items.{Continues}
use Rattle.gfx_text.proofs.lists.read_items.Given as goal

-- the items that were read, and then those that follow
abbrev pub invariant-items : goal.invariant-items
invariant-items g l =
    let item = g.T.ReadValue.reader (g.I.ReadId.style l.ids) in
    Continues item (map g.T.ReadValue.seen l.items.items) (l.turns - l.counter) l.rest (read_items item (length l.text) l.text)
