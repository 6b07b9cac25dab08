use Rattle.std.proofs.Common.{◌≡◌, ◌+◌, None, refl, sym, ◌∙◌, arith}
use Rattle.std.proofs.lemmas.List.{get_or_default}
use Rattle.gfx_table.specs.Slotted.{slot_at}
use Rattle.gfx_table.proofs.Counting.{count_most, count_new, count_same}
use Rattle.gfx_table.proofs.slotted.put.Goals as goal

pub returns-then-is_free-clause-taken : goal.returns-then-is_free-clause-taken
returns-then-is_free-clause-taken g c = λ was.
    let v = c.args.slots.now in
    let most = count_most v.items in
    let more : c.saturating_add.result ≡ c.args.taken.now + 1 = let len = v.ok.0 in let cap = v.ok.1 in let small = v.small in let sum = c.saturating_add.ensures in omega (arith, most, was, len, cap, small, sum) in
    let free : slot_at v.items c.args.slot ≡ None = get_or_default v.items c.args.slot None c.index_mut.result.now c.requires.slot ∙ sym c.index_mut.ensures.value ∙ sym c.replace.ensures.value ∙ c.if-is_free.ensures.0 refl in
    count_new v.items c.args.slot c.args.taken.now c.saturating_add.result c.replace.new.dest c.args.entry c.requires.slot free (c.replace.ensures.after ∙ c.new.ensures) more was

pub returns-else-is_free-clause-taken : goal.returns-else-is_free-clause-taken
returns-else-is_free-clause-taken g c = λ was.
    let items = c.args.slots.now.items in
    let there : slot_at items c.args.slot ≡ c.replace.result = get_or_default items c.args.slot None c.index_mut.result.now c.requires.slot ∙ sym c.index_mut.ensures.value ∙ sym c.replace.ensures.value in
    count_same items c.args.slot c.args.taken.now c.replace.new.dest c.args.entry c.requires.slot (λ none. let so = c.if-is_free.ensures.1 (sym there ∙ none) in absurd cc) (c.replace.ensures.after ∙ c.new.ensures) was
