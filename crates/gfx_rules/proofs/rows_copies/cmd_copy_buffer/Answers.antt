use Rattle.std.proofs.Common.{◌∷◌, ◌++◌, [], ℕ, List, map, flat_map, refl}
use Rattle.gfx_types.specs.declared.names.Kind.TheVariants as kind
use Rattle.gfx_types.specs.declared.lists.BufferRegion.{BufferRegion}
use Rattle.gfx_model.specs.Table as table
use Rattle.gfx_model.specs.Checks as words
use Rattle.gfx_model.specs.Limits.{max_regions}
use Rattle.gfx_rules.proofs.Joined.{stops, goes_on, joins}
use Rattle.gfx_rules.proofs.rows_copies.cmd_copy_buffer.Goals as goal

-- the checks before those of the regions
abbrev front : (cb source target : ℕ) → List words.Check
front cb source target =
    words.Check.live kind.CommandBuffer cb ∷ words.Check.recording cb ∷ table.copied cb kind.Buffer source kind.Buffer target

-- those of each region, and what comes behind them
abbrev items : (source target : ℕ) (regions : List BufferRegion) (room : List words.Check) → List words.Check
items source target regions room =
    (map (λ (r : BufferRegion). table.value (table.is_positive r.size)) regions ++ flat_map (table.buffer_region_in source target) regions) ++ room

pub returns-in-Some : goal.returns-in-Some
unfolding table.row_of
returns-in-Some g c = let a = c.args in
    stops (g.A.Answers.view a.answers.now) (front a.cb a.source a.target)
    (table.between 1 max_regions a.regions.now ++ items a.source a.target a.regions.now (words.Check.fits _ ∷ []))
    _ _ c.in-Some.ensures refl

pub returns-in-Some-count_fault : goal.returns-in-Some-count_fault
unfolding table.row_of
returns-in-Some-count_fault g c = let a = c.args in
    goes_on (g.A.Answers.view a.answers.now) (front a.cb a.source a.target)
    (table.between 1 max_regions a.regions.now ++ items a.source a.target a.regions.now (words.Check.fits _ ∷ []))
    _ _ c.in_default.ensures
    (stops _ (table.between 1 max_regions a.regions.now) (items a.source a.target a.regions.now (words.Check.fits _ ∷ []))
    _ _ c.in-Some-count_fault.ensures refl)
    refl

pub returns : goal.returns
unfolding table.row_of
returns g c = let a = c.args in
    goes_on (g.A.Answers.view a.answers.now) (front a.cb a.source a.target)
    (table.between 1 max_regions a.regions.now ++ items a.source a.target a.regions.now (words.Check.fits _ ∷ []))
    _ _ c.in_default.ensures
    (goes_on _ (table.between 1 max_regions a.regions.now) (items a.source a.target a.regions.now (words.Check.fits _ ∷ []))
    _ _ c.in_default-count_fault.ensures
    (joins _ _ (words.Check.fits _ ∷ []) _ _ _ _ (joins _ _ _ _ _ _ _ c.buffer_sizes-sizes.ensures c.buffer_regions_in.ensures c.first-items.ensures refl) c.copies_fit.ensures c.first.ensures refl)
    refl)
    refl
