use Rattle.std.proofs.Common.{◌∷◌, ◌++◌, ◌==◌, ◌&&◌, ◌||◌, [], nat_le, refl}
use Rattle.gfx_types.specs.declared.names.Kind.TheVariants as kind
use Rattle.gfx_model.specs.Table as table
use Rattle.gfx_model.specs.Checks as words
use Rattle.gfx_rules.proofs.Joined.{stops, goes_on}
use Rattle.gfx_rules.proofs.rows_commands.cmd_fill_buffer.Goals as goal

pub returns-in-Some : goal.returns-in-Some
unfolding table.row_of
returns-in-Some g c =
    stops (g.A.Answers.view c.args.answers.now)
    (words.Check.live kind.CommandBuffer c.args.cb ∷ words.Check.recording c.args.cb ∷ table.res kind.Buffer c.args.cb c.args.buffer
    ++ table.dst c.args.buffer ∷ table.value (table.divides 4 c.args.offset && (c.args.size == table.whole || nat_le 4 c.args.size && table.divides 4 c.args.size)) ∷ [])
    (table.span c.args.buffer c.args.offset c.args.size ++ words.Check.fits _ ∷ []) _ _ c.in-Some.ensures refl

pub returns-in-Some-span : goal.returns-in-Some-span
unfolding table.row_of
returns-in-Some-span g c =
    goes_on (g.A.Answers.view c.args.answers.now)
    (words.Check.live kind.CommandBuffer c.args.cb ∷ words.Check.recording c.args.cb ∷ table.res kind.Buffer c.args.cb c.args.buffer
    ++ table.dst c.args.buffer ∷ table.value (table.divides 4 c.args.offset && (c.args.size == table.whole || nat_le 4 c.args.size && table.divides 4 c.args.size)) ∷ [])
    (table.span c.args.buffer c.args.offset c.args.size ++ words.Check.fits _ ∷ []) _ _ c.in_default.ensures
    (stops _ (table.span c.args.buffer c.args.offset c.args.size) (words.Check.fits _ ∷ []) _ _ c.in-Some-span.ensures refl)
    refl

pub returns : goal.returns
unfolding table.row_of
returns g c =
    goes_on (g.A.Answers.view c.args.answers.now)
    (words.Check.live kind.CommandBuffer c.args.cb ∷ words.Check.recording c.args.cb ∷ table.res kind.Buffer c.args.cb c.args.buffer
    ++ table.dst c.args.buffer ∷ table.value (table.divides 4 c.args.offset && (c.args.size == table.whole || nat_le 4 c.args.size && table.divides 4 c.args.size)) ∷ [])
    (table.span c.args.buffer c.args.offset c.args.size ++ words.Check.fits _ ∷ []) _ _ c.in_default.ensures
    (goes_on _ (table.span c.args.buffer c.args.offset c.args.size) (words.Check.fits _ ∷ []) _ _ c.in_default-span.ensures c.fill_fits.ensures refl)
    refl
