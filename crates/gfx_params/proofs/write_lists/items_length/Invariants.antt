use Rattle.std.proofs.Common.{◌≡◌, length, take, min}
use Rattle.std.specs.Prelude.{flat_map}
use Rattle.gfx_grammar.specs.Reads.{text_of}
use Rattle.gfx_params.proofs.write_lists.items_length.Given as goal

-- the items so far were measured
abbrev pub invariant-items : goal.invariant-items
invariant-items g l = l.total ≡ min (length (text_of (flat_map g.T.WriteFields.fields (take l.item-index l.items)))) 18446744073709551615
