use Rattle.std.proofs.Common.{arith, lit<, length}
use Rattle.gfx_pages.proofs.Paged.{part_paged, part_ok, part_err}
use Rattle.gfx_pages.proofs.bytes.Bytes.write_part.Goals as goal

pub invariant_of-self : goal.invariant_of-self
invariant_of-self c =
    part_paged 65536 _ _ c.args.at (length c.args.part.now) c.args.part.now _ _ _ c.write.result (lit< tt) c.self.invariant c.self.view_is c.requires.some (omega arith) c.requires.inside c.requires.one_page c.index_mut.ensures.value c.write.ensures.ok c.write.ensures.err

pub returns-clause-ok : goal.returns-clause-ok
returns-clause-ok c =
    part_ok 65536 _ _ c.args.at (length c.args.part.now) c.args.part.now _ _ _ c.write.result (lit< tt) c.self.invariant c.self.view_is c.requires.some (omega arith) c.requires.inside c.requires.one_page c.index_mut.ensures.value c.write.ensures.ok

pub returns-clause-err : goal.returns-clause-err
returns-clause-err c =
    part_err 65536 _ _ c.args.at (length c.args.part.now) _ _ _ c.write.result (lit< tt) c.self.invariant c.self.view_is c.requires.some c.requires.inside c.index_mut.ensures.value c.write.ensures.err
