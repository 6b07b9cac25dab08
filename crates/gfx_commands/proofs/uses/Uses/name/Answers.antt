use Rattle.std.proofs.Common.{ap, sym, ◌∙◌}
use Rattle.std.specs.FinMap as map
use Rattle.gfx_commands.proofs.Index.{named_index}
use Rattle.gfx_commands.proofs.Places.{missing_use}
use Rattle.gfx_commands.proofs.uses.Uses.name.Goals as goal

pub returns-then-not-names-clause-index : goal.returns-then-not-names-clause-index
returns-then-not-names-clause-index c = λ named asks index.
    let uses = c.args.self.now.table.map in
    named_index uses c.args.self.now.agrees named asks index c.args.id c.set.new.self.map
    (c.set.ensures.map ∙ ap (map.insert uses c.args.id) (c.none.ensures ∙ sym (missing_use uses c.args.id (sym c.names.ensures ∙ c.if-not-names.true))))
