use Rattle.std.proofs.Common.{refl, arith, lit<, drop}
use Rattle.std.proofs.lemmas.List.{length-drop}
use Rattle.gfx_pages.proofs.Paged.{part_paged, part_ok, part_err, copied_ok, part_room}
use Rattle.gfx_pages.proofs.bytes.Bytes.move_between_pages.Goals as goal

pub copy-requires-clause-room : goal.copy-requires-clause-room
copy-requires-clause-room c =
    part_room 65536 _ _ c.args.to c.args.size c.index_mut.result.now c.index_mut.result.now _ (lit< tt) c.self.invariant c.self.view_is c.requires.some c.requires.room c.requires.one_page refl c.index_mut.ensures.value

pub copy-requires-clause-there : goal.copy-requires-clause-there
copy-requires-clause-there c =
    part_room 65536 _ _ c.args.from c.args.size c.in_ok-source.source c.index.result.now _ (lit< tt) c.self.invariant c.self.view_is c.requires.some c.requires.there c.requires.one_page_there c.in_ok-source.ensures c.index.ensures

pub invariant_of-self : goal.invariant_of-self
invariant_of-self c =
    let copied = copied_ok 65536 _ _ c.args.to c.args.from c.args.size c.copy.new.self c.index_mut.result.now c.in_ok-source.source c.index.result.now c.args.self.now c.copy.result (lit< tt) c.self.invariant c.self.view_is c.requires.some c.requires.there c.requires.one_page_there c.in_ok-source.ensures c.index.ensures c.copy.ensures.ok in
    part_paged 65536 _ _ c.args.to c.args.size (drop c.args.from c.args.self.now) _ _ _ c.copy.result (lit< tt) c.self.invariant c.self.view_is c.requires.some (omega (arith, length-drop c.args.from c.args.self.now)) c.requires.room c.requires.one_page c.index_mut.ensures.value copied c.copy.ensures.err

pub returns-clause-ok : goal.returns-clause-ok
returns-clause-ok c =
    let copied = copied_ok 65536 _ _ c.args.to c.args.from c.args.size c.copy.new.self c.index_mut.result.now c.in_ok-source.source c.index.result.now c.args.self.now c.copy.result (lit< tt) c.self.invariant c.self.view_is c.requires.some c.requires.there c.requires.one_page_there c.in_ok-source.ensures c.index.ensures c.copy.ensures.ok in
    part_ok 65536 _ _ c.args.to c.args.size (drop c.args.from c.args.self.now) _ _ _ c.copy.result (lit< tt) c.self.invariant c.self.view_is c.requires.some (omega (arith, length-drop c.args.from c.args.self.now)) c.requires.room c.requires.one_page c.index_mut.ensures.value copied

pub returns-clause-err : goal.returns-clause-err
returns-clause-err c =
    part_err 65536 _ _ c.args.to c.args.size _ _ _ c.copy.result (lit< tt) c.self.invariant c.self.view_is c.requires.some c.requires.room c.index_mut.ensures.value c.copy.ensures.err
