use Rattle.std.proofs.Common.{◌<◌, ◌^◌, length, map, ◌∙◌, arith}
use Rattle.std.proofs.lemmas.List.{length-map}
use Rattle.gfx_text.proofs.Answered.{reads_some}
use Rattle.gfx_text.proofs.Items.{list_items, few_items}
use Rattle.gfx_text.proofs.lists.read_list.Goals as goal

pub returns-then-len : goal.returns-then-len
returns-then-len g c =
    let seen = g.T.ReadValue.seen in
    let few : length (map seen c.in-Some-2.items.items) < 2 ^ 32 =
    omega (arith, length-map c.in-Some-2.items.items seen, c.if-len.true, c.len.ensures, c.in-Some-2.items.ok.0) in
    list_items (g.T.ReadValue.reader (g.I.ReadId.style c.args.ids.now)) c.args.text.now c.in-Some.inside.now c.in-Some.ensures c.in_default-behind.ensures
    ∙ few_items (map seen c.in-Some-2.items.items) c.in-Some-2.rest.now _ (reads_some _ _ _ (c.in-Some-2.items, c.in-Some-2.rest) c.in-Some-2.is c.in_ok-items.ensures) few
