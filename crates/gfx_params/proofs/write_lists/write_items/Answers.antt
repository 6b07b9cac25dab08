use Rattle.std.proofs.Common.{length, take, subst, sym, ap, ◌∙◌, ◌++◌, arith, length-append}
use Rattle.std.specs.Prelude.{flat_map}
use Rattle.gfx_grammar.specs.Reads.{Fits, text_of}
use Rattle.gfx_params.proofs.Texts.{item_has_spelling, item_fits_in, text_more}
use Rattle.gfx_params.proofs.Writing.{written_on, length-written}
use Rattle.gfx_params.specs.Writes.{written}
use Rattle.gfx_params.proofs.write_lists.write_items.Goals as goal

pub write-behind-requires-clause-fits : goal.write-behind-requires-clause-fits
write-behind-requires-clause-fits g c =
    subst (λ item. Fits (g.T.WriteFields.fields item)) (sym c.item-item.is)
    (item_has_spelling g.T.WriteFields.fields c.args.items.now c.items.item-index c.item-item.result c.items-test.true c.requires.fits)

pub write-behind-requires-clause-room : goal.write-behind-requires-clause-room
write-behind-requires-clause-room g c =
    let fits = item_fits_in g.T.WriteFields.fields c.args.items.now c.items.item-index c.item-item.result c.items-test.true in
    let same = ap (λ item. length (text_of (g.T.WriteFields.fields item))) c.item-item.is in
    let many = ap length c.items.invariant.0 in
    let kept = length-written c.args.out.now.items c.args.at (text_of (flat_map g.T.WriteFields.fields (take c.items.item-index c.args.items.now))) (omega (arith, fits, c.requires.room)) in
    omega (arith, fits, same, many, kept, c.requires.room, c.items.invariant.1)

pub items-preserved : goal.items-preserved
items-preserved g c =
    let before = text_of (flat_map g.T.WriteFields.fields (take c.items.item-index c.args.items.now)) in
    let text = text_of (g.T.WriteFields.fields c.item-item.result) in
    let fits = item_fits_in g.T.WriteFields.fields c.args.items.now c.items.item-index c.item-item.result c.items-test.true in
    let same = ap (λ item. text_of (g.T.WriteFields.fields item)) c.item-item.is in
    let more = text_more g.T.WriteFields.fields c.args.items.now c.items.item-index c.item-item.result c.items-test.true ∙ ap (λ t. before ++ t) (sym same) in
    let on = written_on c.args.out.now.items c.args.at before text (omega (arith, fits, ap length same, c.requires.room)) in (
      c.write-behind.ensures.bytes ∙ (λ i. written (c.items.invariant.0 i) (c.items.invariant.1 i) text) ∙ on ∙ ap (written c.args.out.now.items c.args.at) (sym more),
      omega (arith, c.write-behind.ensures.behind, c.items.invariant.1, ap length more, length-append before text),
    )
