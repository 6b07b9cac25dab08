use Rattle.std.proofs.Common.{ℕ, arith, lit<, replicate}
use Rattle.gfx_pages.proofs.Paged.{part_paged, part_ok, part_err}
use Rattle.std.proofs.lemmas.List.{length-replicate}
use Rattle.gfx_pages.proofs.bytes.Bytes.clear_part.Goals as goal

pub invariant_of-self : goal.invariant_of-self
invariant_of-self c =
    part_paged 65536 _ _ c.args.at c.args.size (replicate c.args.size 0) _ _ _ c.clear.result (lit< tt) c.self.invariant c.self.view_is c.requires.some (omega (arith, length-replicate {A = ℕ} c.args.size 0)) c.requires.inside c.requires.one_page c.index_mut.ensures.value c.clear.ensures.ok c.clear.ensures.err

pub returns-clause-ok : goal.returns-clause-ok
returns-clause-ok c =
    part_ok 65536 _ _ c.args.at c.args.size (replicate c.args.size 0) _ _ _ c.clear.result (lit< tt) c.self.invariant c.self.view_is c.requires.some (omega (arith, length-replicate {A = ℕ} c.args.size 0)) c.requires.inside c.requires.one_page c.index_mut.ensures.value c.clear.ensures.ok

pub returns-clause-err : goal.returns-clause-err
returns-clause-err c =
    part_err 65536 _ _ c.args.at c.args.size _ _ _ c.clear.result (lit< tt) c.self.invariant c.self.view_is c.requires.some c.requires.inside c.index_mut.ensures.value c.clear.ensures.err
