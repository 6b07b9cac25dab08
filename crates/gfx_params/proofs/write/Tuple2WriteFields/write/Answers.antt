use Rattle.std.proofs.Common.{length, sym, ap, ◌∙◌, arith, length-append}
use Rattle.std.proofs.lemmas.Grind.{flat_map-append}
use Rattle.gfx_model.specs.Spelling.{field_bytes}
use Rattle.gfx_grammar.specs.Reads.{text_of}
use Rattle.gfx_params.specs.Writes.{written}
use Rattle.gfx_params.proofs.Texts.{fits_last}
use Rattle.gfx_params.proofs.Writing.{written_on}
use Rattle.gfx_params.proofs.write.Tuple2WriteFields.write.Goals as goal

pub write-requires-clause-fits : goal.write-requires-clause-fits
write-requires-clause-fits g c = fits_last (g.A.WriteFields.fields c.args.self.now.0) (g.B.WriteFields.fields c.args.self.now.1) c.requires.fits

pub returns-clause-bytes : goal.returns-clause-bytes
returns-clause-bytes g c =
    let first = text_of (g.A.WriteFields.fields c.args.self.now.0) in
    let last = text_of (g.B.WriteFields.fields c.args.self.now.1) in
    let both = flat_map-append field_bytes (g.A.WriteFields.fields c.args.self.now.0) (g.B.WriteFields.fields c.args.self.now.1) in
    let on = written_on c.args.out.now.items c.args.at first last (omega (arith, c.requires.room, ap length both, length-append first last)) in
    c.write.ensures.bytes ∙ (λ i. written (c.write-behind.ensures.bytes i) (c.write-behind.ensures.behind i) last) ∙ on ∙ ap (written c.args.out.now.items c.args.at) (sym both)
