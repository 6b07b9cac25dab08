-- The ids in lists of records.
use Rattle.std.proofs.Common.{◌≡◌, ℕ, List, [], ◌∷◌, flat_map, refl, ◌∙◌}
use Rattle.std.proofs.lemmas.List.Folds.{flat_map-map}
use Rattle.gfx_types.specs.declared.lists.Barrier.{Barrier}
use Rattle.gfx_types.specs.declared.lists.BufferRegion.{BufferRegion}
use Rattle.gfx_types.specs.declared.lists.ImageRegion.{ImageRegion}
use Rattle.gfx_types.specs.declared.lists.MixedRegion.{MixedRegion}
use Rattle.gfx_types.specs.declared.lists.Present.{Present}
use Rattle.gfx_model.specs.Fields.{barrier_atoms, buffer_region_atoms, image_region_atoms, mixed_region_atoms, present_atoms}
use Rattle.gfx_model.specs.Fields.Records.{barriers, buffer_regions, image_regions, mixed_regions, presents}
use Rattle.gfx_model.specs.Fields.Value.{records}
use Rattle.gfx_script_model.specs.Ids.{atom_ids}
use Rattle.gfx_needed.specs.Fields.{value_ids}

pub barrier_ids : (xs : List Barrier) → value_ids (records (barriers xs)) ≡ flat_map (λ b. b.image ∷ []) xs
barrier_ids xs = flat_map-map (flat_map atom_ids) barrier_atoms xs

pub present_ids : (xs : List Present) → value_ids (records (presents xs)) ≡ flat_map (λ p. p.swapchain ∷ []) xs
present_ids xs = flat_map-map (flat_map atom_ids) present_atoms xs

-- regions name nothing

abbrev nothing : {X : Type 0} → X → List ℕ
nothing x = []

none : {X : Type 0} (xs : List X) → flat_map nothing xs ≡ []
none [] = refl
none (x ∷ xs) = none xs

pub no_buffer_ids : (xs : List BufferRegion) → value_ids (records (buffer_regions xs)) ≡ []
no_buffer_ids xs = flat_map-map (flat_map atom_ids) buffer_region_atoms xs ∙ none xs

pub no_image_ids : (xs : List ImageRegion) → value_ids (records (image_regions xs)) ≡ []
no_image_ids xs = flat_map-map (flat_map atom_ids) image_region_atoms xs ∙ none xs

pub no_mixed_ids : (xs : List MixedRegion) → value_ids (records (mixed_regions xs)) ≡ []
no_mixed_ids xs = flat_map-map (flat_map atom_ids) mixed_region_atoms xs ∙ none xs
