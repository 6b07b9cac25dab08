use Rattle.std.proofs.Common.{◌∷◌, ◌++◌, [], refl}
use Rattle.gfx_types.specs.declared.names.Kind.TheVariants as kind
use Rattle.gfx_model.specs.Table as table
use Rattle.gfx_model.specs.Checks as words
use Rattle.gfx_rules.proofs.Joined.{joins}
use Rattle.gfx_rules.proofs.rows_commands.cmd_clear_color_image.Goals as goal

pub returns : goal.returns
unfolding table.row_of
returns g c =
    joins (g.A.Answers.view c.args.answers.now)
    (words.Check.live kind.CommandBuffer c.args.cb ∷ words.Check.recording c.args.cb ∷ table.res kind.Image c.args.cb c.args.image
    ++ table.dst c.args.image ∷ table.value (words.is_among c.args.layout (7 ∷ 1 ∷ [])) ∷ words.Check.uint_format c.args.image ∷ [])
    (words.Check.fits _ ∷ []) _ _ _ _ c.clear_front-front.ensures c.clear_fits.ensures c.first.ensures refl
