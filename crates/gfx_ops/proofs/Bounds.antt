-- What checks that pass say of the regions of a command.
use Rattle.std.proofs.Common.{◌≡◌, refl, ℕ, ◌+◌, ◌<◌, ◌≤◌, Bool, true, false, cond, sym, ap, subst, ◌∙◌, List, map, flat_map, Option, Some, None, option_and_then, arith, ◌&&◌}
use Rattle.std.specs.List.{AllByRecursion}
use Rattle.std.specs.Option.{option_map_or}
use Rattle.std.proofs.lemmas.Bool.{leb-true, ltb-true, and_parts}
use Rattle.gfx_types.specs.declared.names.Kind.TheVariants as kind
use Rattle.gfx_types.specs.declared.op.Place.TheVariants as place
use Rattle.gfx_types.specs.declared.lists.BufferRegion.{BufferRegion}
use Rattle.gfx_types.specs.declared.lists.ImageRegion.{ImageRegion}
use Rattle.gfx_types.specs.declared.lists.MixedRegion.{MixedRegion}
use Rattle.gfx_model.specs.Events.Event.{CmdFillBuffer, CmdUpdateBuffer, CmdCopyBuffer, CmdCopyImage, CmdCopyBufferToImage, CmdCopyImageToBuffer}
use Rattle.gfx_model.specs.Steps.{Object, Detail}
use Rattle.gfx_model.specs.Steps.Detail.{an_image, a_buffer}
use Rattle.gfx_model.specs.Questions.{Binding, image_size}
use Rattle.gfx_model.specs.Views.{View, Window, is_live, window, size_of, width_of, height_of, detail_size, detail_window, bound_window}
use Rattle.gfx_model.specs.Checks.{broken}
use Rattle.gfx_model.specs.Table.{value, is_positive, buffer_region_in, image_region_in, mixed_region_value, mixed_region_in}
use Rattle.gfx_model.proofs.Covered.{unless_none}
use Rattle.gfx_model.proofs.Lists.{all_along}
use Rattle.gfx_model.specs.Limits.{max_extent, max_live_bytes}
use Rattle.gfx_laws.specs.Lawful.{Passes, CommandPasses}
use Rattle.gfx_laws.proofs.Lists.{all_behind, all_from_flat}
use Rattle.gfx_ops.specs.declared.shape.Shape.{Shape}
use Rattle.gfx_ops.specs.Operations.{shape_of}
use Rattle.gfx_ops.specs.Regions.{IsNearRegion, IsImageRegion, IsMixedRegion}

-- ---- windows

bound_length : (v : View) (n : ℕ) (b : Option Binding) (w : Window) → bound_window v n b ≡ Some w → w.length ≡ n
bound_length v n None w e = absurd (cc)
bound_length v n (Some b) w e = by (is_live v kind.Memory b.memory) e
  where
    by : (t : Bool) → cond t (Some (record { place = place.Memory b.memory; offset = b.offset; length = n })) None ≡ Some w → w.length ≡ n
    by false e = absurd (cc)
    by true e = let same : record { place = place.Memory b.memory; offset = b.offset; length = n } ≡ w = cc in ap (λ (a : Window). a.length) (sym same)

detail_length : (v : View) (x : ℕ) (d : Detail) (w : Window) → detail_window v x d ≡ Some w → w.length ≡ detail_size d
detail_length v x (a_buffer size usage) w e = bound_length v size (v.bound x) w e
detail_length v x (an_image format width height usage None) w e = bound_length v (image_size format width height) (v.bound x) w e
detail_length v x (an_image format width height usage (Some index)) w e =
    let same : record { place = place.Image x; offset = 0; length = image_size format width height } ≡ w = cc in ap (λ (a : Window). a.length) (sym same)
detail_length v x _ w e = absurd (cc)

-- the window of a resource has its bytes
pub window_length : (v : View) (x : ℕ) (w : Window) → window v x ≡ Some w → w.length ≡ size_of v x
window_length v x w e = by (v.live x) refl e
  where
    by : (l : Option Object) → v.live x ≡ l → option_and_then (λ o. detail_window v x o.detail) l ≡ Some w → w.length ≡ size_of v x
    by None live e = absurd (cc)
    by (Some o) live e = detail_length v x o.detail w e ∙ sym (ap (λ l. option_map_or (λ o. detail_size o.detail) l 0) live)

-- a usable resource has at most as many bytes as may be live
pub near_size : (v : View) (x : ℕ) (w : Window) → Some w ≡ window v x → w.offset + w.length ≤ max_live_bytes → size_of v x ≤ max_live_bytes
near_size v x w e ends = let long = window_length v x w (sym e) in omega arith

-- ---- regions

pub near_regions : (v : View) (source target : ℕ) → size_of v source ≤ max_live_bytes → size_of v target ≤ max_live_bytes → (rs : List BufferRegion) →
    AllByRecursion (Passes v) (flat_map (buffer_region_in source target) rs) → AllByRecursion IsNearRegion rs
unfolding broken
near_regions v source target a b rs passes =
    all_along (λ r. AllByRecursion (Passes v) (buffer_region_in source target r)) IsNearRegion each rs (all_from_flat (Passes v) (buffer_region_in source target) rs passes)
  where
    each : (r : BufferRegion) → AllByRecursion (Passes v) (buffer_region_in source target r) → IsNearRegion r
    each r e =
        let low = leb-true (r.from + r.size) (size_of v source) (unless_none _ _ e.0) in
        let high = leb-true (r.to + r.size) (size_of v target) (unless_none _ _ e.1.0) in
        record { from = omega arith; to = omega arith }

pub image_regions : (v : View) (source target : ℕ) → width_of v source ≤ max_extent → height_of v source ≤ max_extent → width_of v target ≤ max_extent → height_of v target ≤ max_extent →
    (rs : List ImageRegion) → AllByRecursion (Passes v) (flat_map (image_region_in source target) rs) → AllByRecursion IsImageRegion rs
unfolding broken
image_regions v source target a b c d rs passes =
    all_along (λ r. AllByRecursion (Passes v) (image_region_in source target r)) IsImageRegion each rs (all_from_flat (Passes v) (image_region_in source target) rs passes)
  where
    each : (r : ImageRegion) → AllByRecursion (Passes v) (image_region_in source target r) → IsImageRegion r
    each r e =
        let from = and_parts _ _ (unless_none _ _ e.0) in
        let to = and_parts _ _ (unless_none _ _ e.1.0) in
        let from_x = leb-true (r.from_x + r.width) (width_of v source) from.0 in
        let from_y = leb-true (r.from_y + r.height) (height_of v source) from.1 in
        let to_x = leb-true (r.to_x + r.width) (width_of v target) to.0 in
        let to_y = leb-true (r.to_y + r.height) (height_of v target) to.1 in
        record { from_x = omega arith; from_y = omega arith; to_x = omega arith; to_y = omega arith }

pub mixed_regions : (v : View) (buffer image : ℕ) → size_of v buffer ≤ max_live_bytes → width_of v image ≤ max_extent → height_of v image ≤ max_extent → (rs : List MixedRegion) →
    AllByRecursion (Passes v) (flat_map (mixed_region_in buffer image) rs) → AllByRecursion IsMixedRegion rs
unfolding broken
mixed_regions v buffer image a b c rs passes =
    all_along (λ r. AllByRecursion (Passes v) (mixed_region_in buffer image r)) IsMixedRegion each rs (all_from_flat (Passes v) (mixed_region_in buffer image) rs passes)
  where
    each : (r : MixedRegion) → AllByRecursion (Passes v) (mixed_region_in buffer image r) → IsMixedRegion r
    each r e =
        let area = and_parts _ _ (unless_none _ _ e.0) in
        let x = leb-true (r.x + r.width) (width_of v image) area.0 in
        let y = leb-true (r.y + r.height) (height_of v image) area.1 in
        let rows = leb-true _ (size_of v buffer) (unless_none _ _ e.1.0) in
        record { offset = omega (arith, rows); x = omega arith; y = omega arith }

-- ---- commands

pub copy_buffer_regions : (v : View) (cb source target : ℕ) (rs : List BufferRegion) → size_of v source ≤ max_live_bytes → size_of v target ≤ max_live_bytes →
    CommandPasses v (CmdCopyBuffer cb source target rs) → AllByRecursion IsNearRegion rs
copy_buffer_regions v cb source target rs a b p = near_regions v source target a b rs
    (all_behind (Passes v) (map (λ r. value (is_positive r.size)) rs) (flat_map (buffer_region_in source target) rs) p.1.1.1.1.1.1.1.1.1.1)

pub copy_image_regions : (v : View) (cb source source_layout target target_layout : ℕ) (rs : List ImageRegion) →
    width_of v source ≤ max_extent → height_of v source ≤ max_extent → width_of v target ≤ max_extent → height_of v target ≤ max_extent →
    CommandPasses v (CmdCopyImage cb source source_layout target target_layout rs) → AllByRecursion IsImageRegion rs
copy_image_regions v cb source source_layout target target_layout rs a b c d p = image_regions v source target a b c d rs
    (all_behind (Passes v) (map (λ r. value (is_positive r.width && is_positive r.height)) rs) (flat_map (image_region_in source target) rs) p.1.1.1.1.1.1.1.1.1.1.1.1)

pub upload_regions : (v : View) (cb source target layout : ℕ) (rs : List MixedRegion) → size_of v source ≤ max_live_bytes → width_of v target ≤ max_extent → height_of v target ≤ max_extent →
    CommandPasses v (CmdCopyBufferToImage cb source target layout rs) → AllByRecursion IsMixedRegion rs
upload_regions v cb source target layout rs a b c p = mixed_regions v source target a b c rs
    (all_behind (Passes v) (flat_map (mixed_region_value target) rs) (flat_map (mixed_region_in source target) rs) p.1.1.1.1.1.1.1.1.1.1.1)

pub download_regions : (v : View) (cb source layout target : ℕ) (rs : List MixedRegion) → size_of v target ≤ max_live_bytes → width_of v source ≤ max_extent → height_of v source ≤ max_extent →
    CommandPasses v (CmdCopyImageToBuffer cb source layout target rs) → AllByRecursion IsMixedRegion rs
download_regions v cb source layout target rs a b c p = mixed_regions v target source a b c rs
    (all_behind (Passes v) (flat_map (mixed_region_value source) rs) (flat_map (mixed_region_in target source) rs) p.1.1.1.1.1.1.1.1.1.1.1)

-- a fill begins inside its buffer
pub fill_begins : (v : View) (cb buffer offset size word : ℕ) → CommandPasses v (CmdFillBuffer cb buffer offset size word) → offset < size_of v buffer
unfolding broken
fill_begins v cb buffer offset size word p = ltb-true offset (size_of v buffer) (unless_none _ _ p.1.1.1.1.1.0)

-- an update ends inside its buffer
pub update_begins : (v : View) (cb buffer offset : ℕ) (bytes : List ℕ) → CommandPasses v (CmdUpdateBuffer cb buffer offset bytes) → offset ≤ size_of v buffer
unfolding broken
update_begins v cb buffer offset bytes p = let ends = leb-true _ (size_of v buffer) (unless_none _ _ p.1.1.1.1.1.0) in omega (arith, ends)

-- ---- shapes

pub wide_shape : (v : View) (image : ℕ) (s : Shape) → s ≡ shape_of v image → s.width ≤ max_extent → width_of v image ≤ max_extent
wide_shape v image s e wide = subst (λ n. n ≤ max_extent) (ap (λ (s : Shape). s.width) e) wide

pub tall_shape : (v : View) (image : ℕ) (s : Shape) → s ≡ shape_of v image → s.height ≤ max_extent → height_of v image ≤ max_extent
tall_shape v image s e tall = subst (λ n. n ≤ max_extent) (ap (λ (s : Shape). s.height) e) tall
