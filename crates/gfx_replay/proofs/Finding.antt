-- Handles after one was set or taken out.
use Rattle.std.proofs.Common.{◌≡◌, ℕ, refl, ap, ◌∙◌, Some, None}
use Rattle.std.specs.Ordering.{nat_cmp}
use Rattle.std.specs.FinMap as map
use Rattle.std.specs.FinMap.{FinMap, get-empty}
use Rattle.gfx_types.specs.declared.op.Place.{Place}
use Rattle.gfx_types.specs.declared.op.Place.TheVariants as place
use Rattle.gfx_device.specs.declared.op.Handle.{Handle}
use Rattle.gfx_table.specs.Rows.{got-insert, got-remove}
use Rattle.gfx_replay.specs.Maps.{IsSet}
use Rattle.gfx_replay.specs.Handles.{found}

abbrev pub Kept : Type 0
Kept = FinMap nat_cmp Handle

pub set_memory : (memories images new : Kept) (id : ℕ) (handle : Handle) → new ≡ map.insert memories id handle →
    IsSet (found memories images) (found new images) (place.Memory id) (Some handle)
set_memory memories images new id handle is (place.Memory m) = ap (λ t. map.get t m) is ∙ ap (λ f. f m) (got-insert memories id handle)
set_memory memories images new id handle is (place.Image x) = refl

pub set_image : (memories images new : Kept) (id : ℕ) (handle : Handle) → new ≡ map.insert images id handle →
    IsSet (found memories images) (found memories new) (place.Image id) (Some handle)
set_image memories images new id handle is (place.Memory m) = refl
set_image memories images new id handle is (place.Image x) = ap (λ t. map.get t x) is ∙ ap (λ f. f x) (got-insert images id handle)

pub removed_memory : (memories images new : Kept) (id : ℕ) → new ≡ map.remove memories id →
    IsSet (found memories images) (found new images) (place.Memory id) None
removed_memory memories images new id is (place.Memory m) = ap (λ t. map.get t m) is ∙ ap (λ f. f m) (got-remove memories id)
removed_memory memories images new id is (place.Image x) = refl

pub removed_image : (memories images new : Kept) (id : ℕ) → new ≡ map.remove images id →
    IsSet (found memories images) (found memories new) (place.Image id) None
removed_image memories images new id is (place.Memory m) = refl
removed_image memories images new id is (place.Image x) = ap (λ t. map.get t x) is ∙ ap (λ f. f x) (got-remove images id)

pub found_none : (memories images : Kept) → memories ≡ map.empty → images ≡ map.empty → (at : Place) → found memories images at ≡ None
found_none memories images no_memory no_image (place.Memory m) = ap (λ t. map.get t m) no_memory ∙ get-empty nat_cmp m
found_none memories images no_memory no_image (place.Image x) = ap (λ t. map.get t x) no_image ∙ get-empty nat_cmp x
