use Rattle.std.proofs.Common.{◌∷◌, ◌&&◌, [], ℕ, List, nat_le, refl, rules}
use Rattle.gfx_types.specs.declared.names.Kind.TheVariants as kind
use Rattle.gfx_model.specs.Table as table
use Rattle.gfx_model.specs.Checks as words
use Rattle.gfx_model.specs.Limits.{max_regions}
use Rattle.gfx_rules.proofs.Joined.{goes_on}
use Rattle.gfx_rules.proofs.rows_copies.images_front.Goals as goal

-- the checks of all copies
abbrev front : (cb source target : ℕ) → List words.Check
front cb source target =
    words.Check.live kind.CommandBuffer cb ∷ words.Check.recording cb ∷ table.copied cb kind.Image source kind.Image target

-- those of copies between images
abbrev own : (source source_layout target target_layout count : ℕ) → List words.Check
own source source_layout target target_layout count =
    table.value (words.is_among source_layout (6 ∷ 1 ∷ []) && words.is_among target_layout (7 ∷ 1 ∷ [])) ∷ words.Check.same_texel source target
    ∷ table.value (nat_le 1 count) ∷ table.limit (nat_le count max_regions) ∷ []

pub returns-then-not-fine : goal.returns-then-not-fine
unfolding words.broken
returns-then-not-fine g c = let a = c.args in
    goes_on (g.A.Answers.view a.answers.now) (front a.cb a.source a.target)
    (own a.source a.source_layout a.target a.target_layout a.count) _ _ c.in_default.ensures (search rules) refl

pub returns-in-Some-texel_fault : goal.returns-in-Some-texel_fault
unfolding words.broken
returns-in-Some-texel_fault g c = let a = c.args in
    goes_on (g.A.Answers.view a.answers.now) (front a.cb a.source a.target)
    (own a.source a.source_layout a.target a.target_layout a.count) _ _ c.in_default.ensures (search rules) refl

pub returns : goal.returns
unfolding words.broken
returns g c = let a = c.args in
    goes_on (g.A.Answers.view a.answers.now) (front a.cb a.source a.target)
    (own a.source a.source_layout a.target a.target_layout a.count) _ _ c.in_default.ensures (search rules) refl
