use Rattle.std.proofs.Common.{is_some, Some, None, sym, ap, ◌∙◌}
use Rattle.gfx_table.proofs.Grouping.{some_copied, kept}
use Rattle.gfx_table.proofs.groups.Groups.contains.Goals as goal

pub returns-in-Some : goal.returns-in-Some
returns-in-Some c =
    c.is_some.ensures ∙ some_copied c.get-in-Some.result ∙ ap is_some c.get-in-Some.ensures
    ∙ sym (kept c.args.self.now.sets.map c.args.group c.args.id (Some c.in-Some.set.now) (sym c.in-Some.ensures))

pub returns-in-None : goal.returns-in-None
returns-in-None c = sym (kept c.args.self.now.sets.map c.args.group c.args.id None (sym c.in-None.ensures))
