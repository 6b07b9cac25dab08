use Rattle.std.proofs.Common.{◌≡◌, ◌+◌, length, take}
use Rattle.std.specs.Prelude.{flat_map}
use Rattle.gfx_grammar.specs.Reads.{text_of}
use Rattle.gfx_params.specs.Writes.{written}
use Rattle.gfx_params.proofs.write_lists.write_items.Given as goal

-- the items so far were put
abbrev pub invariant-items : goal.invariant-items
invariant-items g l =
    let text = text_of (flat_map g.T.WriteFields.fields (take l.item-index l.items)) in
    (l.out.items ≡ written l.fn.out.items l.fn.at text) × (l.behind ≡ l.fn.at + length text)
