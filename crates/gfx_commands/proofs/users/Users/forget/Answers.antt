use Rattle.std.proofs.Common.{◌==◌, ◌&&◌, false, if◌then◌else◌, get_or, refl, ap, ◌∙◌}
use Rattle.std.proofs.lemmas.List.{take_all}
use Rattle.gfx_table.specs.Groups.{is_member}
use Rattle.gfx_model.specs.Checks.{is_among}
use Rattle.gfx_commands.proofs.Naming.{forgotten_more, forgotten_all}
use Rattle.gfx_commands.proofs.users.Users.forget.Goals as goal

pub resources-preserved : goal.resources-preserved
resources-preserved c =
    let ids = c.ids-resource-items.result.now in
    forgotten_more (is_member c.args.self.now.groups.sets.map) (is_member c.resources.self.groups.sets.map) c.args.cb ids c.resources.resource-index (get_or ids c.resources.resource-index 0)
    c.resources-test.true refl (is_member c.remove.new.self.sets.map) c.resources.invariant c.remove.ensures.members

pub returns : goal.returns
returns c =
    let ids = c.ids-resource-items.result.now in
    let first = is_member c.args.self.now.groups.sets.map in
    forgotten_all first (is_member c.resources.self.groups.sets.map) c.args.cb ids (λ x user. c.ids-resource-items.ensures x ∙ c.requires x user)
    (c.resources.invariant ∙ ap (λ xs x y. if c.args.cb == y && is_among x xs then false else first x y) (take_all c.resources.resource-index ids c.resources-test.false))
