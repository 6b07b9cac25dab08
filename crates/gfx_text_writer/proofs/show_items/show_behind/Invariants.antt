use Rattle.std.proofs.Common.{◌≡◌, ◌∷◌, ◌++◌, take}
use Rattle.std.specs.Prelude.{flat_map}
use Rattle.gfx_text_writer.proofs.show_items.show_behind.Given as goal

-- the items so far were appended
abbrev pub invariant-items : goal.invariant-items
invariant-items g l =
    l.out.items ≡ l.fn.out.items ++ flat_map (λ item. 44 ∷ g.T.ShowItem.text (g.W.ShowId.style l.ids).ids.show item) (take l.item-index l.items)
