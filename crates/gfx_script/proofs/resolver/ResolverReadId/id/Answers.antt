use Rattle.std.proofs.Common.{sym, ◌∙◌, Some, None}
use Rattle.gfx_script.proofs.Resolving.{name_number}
use Rattle.gfx_script.proofs.resolver.ResolverReadId.id.Goals as goal

pub returns-in-Some : goal.returns-in-Some
returns-in-Some c =
    sym (name_number c.args.self.now.phase c.args.self.now.thread c.args.self.now.names.now c.args.word.now (Some c.in-Some.number) (sym c.is_name.ensures ∙ c.if-not-is_name.false) c.in-Some.ensures)

pub returns-in-None : goal.returns-in-None
returns-in-None c =
    sym (name_number c.args.self.now.phase c.args.self.now.thread c.args.self.now.names.now c.args.word.now None (sym c.is_name.ensures ∙ c.if-not-is_name.false) c.in-None.ensures)
