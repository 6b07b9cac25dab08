use Rattle.std.proofs.Common.{◌∙◌}
use Rattle.gfx_shadow.specs.Stretch.{stretch_byte}
use Rattle.gfx_shadow.proofs.StretchBytes.{byte_in, bytes_written}
use Rattle.gfx_shadow.proofs.stretch.Stretch.write.Goals as goal

pub returns-clause-bytes : goal.returns-clause-bytes
unfolding stretch_byte
returns-clause-bytes c =
    let s = c.args.self.now in let p = c.args.piece.now in let r = c.requires in
    (λ d i. byte_in s.base (c.min-self.ensures d) (c.max-self.ensures d) (c.put_into.ensures d) i)
    ∙ (λ d i. bytes_written s.base s.start s.end c.args.at s.bytes.items p s.begins s.inside r.room.low r.room.high r.low r.high i d)
