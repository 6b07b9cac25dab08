use Rattle.std.proofs.Common.{subst, sym, ap, ◌∙◌}
use Rattle.gfx_grammar.specs.Reads.{AreBytes}
use Rattle.gfx_grammar.specs.Rows.{read_meta}
use Rattle.gfx_script.proofs.Keeping.{fields_written}
use Rattle.gfx_script.proofs.kept.Kept.write.Goals as goal

pub with_memory-requires-clause-written : goal.with_memory-requires-clause-written
with_memory-requires-clause-written c =
    fields_written c.args.self.now.fields.items c.in-Ok.meta (subst AreBytes c.deref.ensures.value c.are_bytes.ensures)
    (ap (read_meta 1 2) (sym c.deref-2.ensures.value) ∙ c.in-Ok.ensures)
