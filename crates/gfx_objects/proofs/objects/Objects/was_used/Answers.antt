use Rattle.std.proofs.Common.{◌≡◌, ◌||◌, true, false, Bor, Option, Some, None, is_some, refl, ap, sym, ◌∙◌, arith}
use Rattle.std.specs.Option.{option_copied}
use Rattle.std.specs.FinMap as map
use Rattle.gfx_table.specs.IdSet.{holds}
use Rattle.gfx_objects.specs.Objects.{answers, was_used}
use Rattle.gfx_objects.proofs.objects.Objects.was_used.Goals as goal

some_copied : {X : Type 0} (o : Option (Bor X)) → is_some (option_copied o) ≡ is_some o
some_copied None = refl
some_copied (Some x) = refl

pub returns-then-is_some : goal.returns-then-is_some
unfolding answers
returns-then-is_some c =
    let live : is_some (map.get c.self.inside.rows.map c.args.id) ≡ c.is_some.result = ap is_some (sym c.get.ensures) ∙ some_copied c.get.result ∙ sym c.is_some.ensures in
    let so : c.is_some.result ≡ true = c.if-is_some.true in
    let is : c.is_some.result ≡ is_some (map.get c.self.inside.rows.map c.args.id) || holds c.self.inside.ended c.args.id = grind (arith, live, so) in
    is ∙ ap (λ k. was_used k c.args.id) c.self.view_is

pub returns-else-is_some : goal.returns-else-is_some
unfolding answers
returns-else-is_some c =
    let live : is_some (map.get c.self.inside.rows.map c.args.id) ≡ c.is_some.result = ap is_some (sym c.get.ensures) ∙ some_copied c.get.result ∙ sym c.is_some.ensures in
    let not : c.is_some.result ≡ false = c.if-is_some.false in
    let ended = c.contains.ensures in
    let is : c.contains.result ≡ is_some (map.get c.self.inside.rows.map c.args.id) || holds c.self.inside.ended c.args.id = grind (arith, live, not, ended) in
    is ∙ ap (λ k. was_used k c.args.id) c.self.view_is
