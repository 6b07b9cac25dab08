use Rattle.std.proofs.Common.{◌∷◌, ◌++◌, ◌&&◌, ◌+◌, [], nat_le, length, refl}
use Rattle.gfx_types.specs.declared.names.Kind.TheVariants as kind
use Rattle.gfx_model.specs.Table as table
use Rattle.gfx_model.specs.Checks as words
use Rattle.gfx_model.specs.Limits.{max_update}
use Rattle.gfx_rules.proofs.Joined.{joins}
use Rattle.gfx_rules.proofs.rows_commands.cmd_update_buffer.Goals as goal

pub returns : goal.returns
unfolding table.row_of
returns g c = let count = length c.args.bytes.now in
    joins (g.A.Answers.view c.args.answers.now)
    (words.Check.live kind.CommandBuffer c.args.cb ∷ words.Check.recording c.args.cb ∷ table.res kind.Buffer c.args.cb c.args.buffer
    ++ table.dst c.args.buffer ∷ table.value (table.divides 4 c.args.offset && table.divides 4 count && nat_le 4 count && nat_le count max_update)
    ∷ words.Check.ends_in c.args.buffer (c.args.offset + count) ∷ [])
    (words.Check.fits _ ∷ []) _ _ _ _ c.update_front-front.ensures c.update_fits.ensures c.first.ensures refl
