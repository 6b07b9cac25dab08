use Rattle.gfx_shadow.specs.Stretch.{stretch_byte}
use Rattle.std.proofs.Common.{◌∙◌, ap, sym, get_or, Some, slice_range, ◌-◌}
use Rattle.gfx_shadow.proofs.StretchBytes.{part_same}
use Rattle.gfx_shadow.proofs.stretch.Stretch.part.Goals as goal

pub returns-clause-same : goal.returns-clause-same
unfolding stretch_byte
returns-clause-same c =
    let s = c.args.self.now in let r = c.requires in
    λ k l. part_same s.base s.start s.end c.args.from c.args.to s.bytes.items s.begins s.inside r.low r.high k l
    ∙ ap (λ bs. Some (get_or (slice_range bs (c.args.from - s.base) (c.args.to - s.base)) k 0)) (sym c.deref.ensures.value)
