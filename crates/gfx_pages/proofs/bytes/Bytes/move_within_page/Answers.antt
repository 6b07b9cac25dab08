use Rattle.std.proofs.Common.{◌∙◌, ap, refl, arith, lit<, drop, get_or}
use Rattle.std.proofs.lemmas.List.{length-drop}
use Rattle.gfx_pages.proofs.Paged.{part_paged, part_ok, part_err, copied_ok}
use Rattle.gfx_pages.proofs.bytes.Bytes.move_within_page.Goals as goal

pub invariant_of-self : goal.invariant_of-self
invariant_of-self c =
    let copied = copied_ok 65536 _ _ c.args.to c.args.from c.args.size c.copy_within.new.self c.index_mut.result.now c.index_mut.result.now c.index_mut.result.now c.args.self.now c.copy_within.result (lit< tt) c.self.invariant c.self.view_is c.requires.some c.requires.there c.requires.one_page_there refl (c.index_mut.ensures.value ∙ ap (λ i. get_or c.self.inside.pages.items i c.index_mut.result.now) c.requires.same_page) c.copy_within.ensures.ok in
    part_paged 65536 _ _ c.args.to c.args.size (drop c.args.from c.args.self.now) _ _ _ c.copy_within.result (lit< tt) c.self.invariant c.self.view_is c.requires.some (omega (arith, length-drop c.args.from c.args.self.now)) c.requires.room c.requires.one_page c.index_mut.ensures.value copied c.copy_within.ensures.err

pub returns-clause-ok : goal.returns-clause-ok
returns-clause-ok c =
    let copied = copied_ok 65536 _ _ c.args.to c.args.from c.args.size c.copy_within.new.self c.index_mut.result.now c.index_mut.result.now c.index_mut.result.now c.args.self.now c.copy_within.result (lit< tt) c.self.invariant c.self.view_is c.requires.some c.requires.there c.requires.one_page_there refl (c.index_mut.ensures.value ∙ ap (λ i. get_or c.self.inside.pages.items i c.index_mut.result.now) c.requires.same_page) c.copy_within.ensures.ok in
    part_ok 65536 _ _ c.args.to c.args.size (drop c.args.from c.args.self.now) _ _ _ c.copy_within.result (lit< tt) c.self.invariant c.self.view_is c.requires.some (omega (arith, length-drop c.args.from c.args.self.now)) c.requires.room c.requires.one_page c.index_mut.ensures.value copied

pub returns-clause-err : goal.returns-clause-err
returns-clause-err c =
    part_err 65536 _ _ c.args.to c.args.size _ _ _ c.copy_within.result (lit< tt) c.self.invariant c.self.view_is c.requires.some c.requires.room c.index_mut.ensures.value c.copy_within.ensures.err
