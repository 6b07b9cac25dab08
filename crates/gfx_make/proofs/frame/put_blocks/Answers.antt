use Rattle.std.proofs.Common.{◌+◌, ◌∙◌, ap, arith}
use Rattle.gfx_grammar.proofs.NumberLaws.{all_bytes}
use Rattle.gfx_make.specs.Made.{submits}
use Rattle.gfx_make.proofs.Writable.{fill_writable, frame_said}
use Rattle.gfx_make.proofs.frame.put_blocks.Goals as goal

pub put_all-requires : goal.put_all-requires
put_all-requires c =
    let bytes = c.args.bytes.now in
    let few = c.requires.few in
    let fill = fill_writable c.args.offset bytes (omega arith) (omega (arith, few)) (all_bytes bytes (λ i. let fits = c.type_inv.bytes i in omega (arith, fits))) in
    frame_said c.args.index c.args.offset bytes _ _ _ _ c.requires.image fill
    c.in_ok-waits.ensures c.in_ok-resets.ensures (c.in_ok-submits.ensures ∙ ap (λ n. submits (11 + n)) c.from.ensures) c.in_ok-shows.ensures
