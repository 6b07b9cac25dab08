use Rattle.std.proofs.lemmas.Result.{on_ok_weaker}
use Rattle.std.proofs.Common.{ap, ◌∙◌, ◌||◌}
use Rattle.gfx_asked.specs.Bounds.{holds}
use Rattle.gfx_asked.specs.Offsets.{are_in}
use Rattle.gfx_asked.specs.Asked.{offsets_at}
use Rattle.gfx_asked.proofs.Rows.{has_unwrapped, taken_out, put_in, row_passed}
use Rattle.gfx_asked.proofs.asked.Asked.copy_row.Goals as goal

pub returns : goal.returns
returns c =
    let old = offsets_at c.args.self.now in
    let cut = offsets_at c.give.new.self in
    let stretches = c.in_ok-moved.moved.items in
    on_ok_weaker c.give-2.result
    (λ given.
    row_passed old cut (offsets_at c.give-2.new.self) c.args.to c.args.to_offset c.args.from c.args.from_offset c.args.length c.in-Some.target stretches c.in-Some.ensures.value c.in_ok-moved.ensures.are
    (taken_out old (offsets_at c.take.new.self) cut c.args.to c.in-Some.target c.set.new.self c.args.to_offset c.args.length c.in-Some.ensures.value c.take.ensures.others c.in_ok-set.ensures c.in_ok-give.ensures)
    (put_in cut (offsets_at c.take-2.new.self) (offsets_at c.give-2.new.self) c.args.from c.take-2.result c.put_all.new.self (are_in stretches) c.take-2.ensures.value c.take-2.ensures.others
    (λ j.
    c.in_ok-put_all.ensures j ∙ ap (λ xs. holds c.unwrap_or-source.result.bounds j || are_in xs j) c.deref.ensures.value
    ∙ ap (λ t. t || are_in stretches j) (has_unwrapped c.take-2.result c.new.result c.unwrap_or-source.result c.unwrap_or-source.ensures c.new.ensures j)) given))
    c.give-2.ensures
