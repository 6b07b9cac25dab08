use Rattle.std.proofs.Common.{◌∙◌, refl, length, lit<}
use Rattle.gfx_pages.proofs.Paged.{source_part}
use Rattle.gfx_pages.proofs.bytes.Bytes.read_part.Goals as goal

pub returns : goal.returns
returns c =
    c.read_into.ensures
    ∙ source_part 65536 _ c.self.inside.length c.args.at (length c.args.into.now) c.index.result.now c.index.result.now _ (lit< tt) c.self.invariant c.self.view_is c.requires.some c.requires.inside c.requires.one_page refl c.index.ensures
