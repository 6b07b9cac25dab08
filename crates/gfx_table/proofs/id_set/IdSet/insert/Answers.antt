use Rattle.std.proofs.Common.{◌≡◌, ◌*◌, ◌/◌, ◌%◌, ◌^◌, ◌==◌, ◌||◌, bit_or, sym, ap, ◌∙◌}
use Rattle.std.specs.Int.Bits.{or_zero_l}
use Rattle.std.specs.Option.{unwrap_or}
use Rattle.std.specs.FinMap as map
use Rattle.gfx_table.specs.IdSet.{holds}
use Rattle.gfx_table.proofs.Bits.{holds-insert}
use Rattle.gfx_table.proofs.id_set.IdSet.insert.Goals as goal

pub returns-in-Some-clause-ids : goal.returns-in-Some-clause-ids
returns-in-Some-clause-ids c =
    let id = c.args.id in
    let words = c.self.inside.words in
    let word : c.in-Some.word ≡ unwrap_or (map.get words.map (id / 64)) 0 = ap (λ o. unwrap_or o 0) (c.in-Some.ensures ∙ c.get.ensures) in
    holds-insert c.set.new.self words id (c.set.ensures.map ∙ ap (λ w. map.insert words.map (id / 64) (bit_or w (1 * 2 ^ (id % 64) % 2 ^ 64))) word)
    ∙ ap (λ s other. id == other || holds s other) c.self.view_is

pub returns-in-None-clause-ids : goal.returns-in-None-clause-ids
returns-in-None-clause-ids c =
    let id = c.args.id in
    let words = c.self.inside.words in
    let bit = 1 * 2 ^ (id % 64) % 2 ^ 64 in
    let word : 0 ≡ unwrap_or (map.get words.map (id / 64)) 0 = ap (λ o. unwrap_or o 0) (c.in-None.ensures ∙ c.get.ensures) in
    holds-insert c.insert.new.self words id (c.insert.ensures.map ∙ ap (map.insert words.map (id / 64)) (sym (or_zero_l bit) ∙ ap (λ w. bit_or w bit) word))
    ∙ ap (λ s other. id == other || holds s other) c.self.view_is
