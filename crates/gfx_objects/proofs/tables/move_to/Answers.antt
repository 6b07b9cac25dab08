use Rattle.std.proofs.Common.{◌≡◌, ap, ◌∙◌, arith}
use Rattle.std.proofs.lemmas.Bool.Decides.{nat_tests}
use Rattle.gfx_table.specs.Groups.{is_member}
use Rattle.gfx_objects.specs.Children.{is_at}
use Rattle.gfx_objects.proofs.tables.move_to.Goals as goal

pub returns-then-before-group : goal.returns-then-before-group
returns-then-before-group c g x =
    let put = ap (λ f. f g x) c.insert.ensures.members in
    let taken = ap (λ f. f g x) c.remove.ensures.members in
    let was = c.requires.member g ∙ ap (is_at g) c.in-Some.is in
    let here : c.args.id ≡ x → is_member c.args.groups.now.sets.map g c.args.id ≡ is_member c.args.groups.now.sets.map g x = ap (is_member c.args.groups.now.sets.map g) in
    let other = c.if-before-group.true in
    grind (arith, nat_tests, put, taken, was, here, other)

pub returns-else-before-group : goal.returns-else-before-group
returns-else-before-group c g x =
    let put = ap (λ f. f g x) c.insert.ensures.members in
    let was = c.requires.member g ∙ ap (is_at g) c.in-Some.is in
    let here : c.args.id ≡ x → is_member c.args.groups.now.sets.map g c.args.id ≡ is_member c.args.groups.now.sets.map g x = ap (is_member c.args.groups.now.sets.map g) in
    let same = c.if-before-group.false in
    grind (arith, nat_tests, put, was, here, same)

pub returns-in_default : goal.returns-in_default
returns-in_default c g x =
    let put = ap (λ f. f g x) c.insert.ensures.members in
    let was = c.requires.member g ∙ ap (is_at g) c.in_default.is in
    let here : c.args.id ≡ x → is_member c.args.groups.now.sets.map g c.args.id ≡ is_member c.args.groups.now.sets.map g x = ap (is_member c.args.groups.now.sets.map g) in
    grind (arith, nat_tests, put, was, here)
