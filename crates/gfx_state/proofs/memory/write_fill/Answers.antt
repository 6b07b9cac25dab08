use Rattle.std.proofs.Common.{◌+◌, false, sym, ◌∙◌}
use Rattle.gfx_types.specs.declared.op.Place.TheVariants as place
use Rattle.gfx_state.specs.Known.{bytes_in}
use Rattle.gfx_state.proofs.Writing.{wrote_none}
use Rattle.gfx_state.proofs.Filling.{inside_all, fill_kept}
use Rattle.gfx_state.proofs.memory.write_fill.Goals as goal

pub returns-then-not-keeps_fill : goal.returns-then-not-keeps_fill
returns-then-not-keeps_fill g c =
    let k = g.P.Keep.kept c.args.keep.now in
    let bytes = bytes_in (g.B.StateBytes.bytes c.args.bytes.now) (place.Memory c.args.memory) in
    let inside = inside_all _ (c.args.fill.at + c.args.fill.length) c.requires.inside in
    wrote_none (fill_kept k c.args.memory bytes c.args.fill false inside (sym c.keeps_fill.ensures ∙ c.if-not-keeps_fill.true))
