-- What a command changes lies in places that exist.
use Rattle.std.proofs.Common.{◌≡◌, ℕ, ◌+◌, ◌*◌, ◌<◌, ◌≤◌, true, refl, sym, subst, List, [], ◌∷◌, map, flat_map, Option, Some, None, ◌==◌, ◌&&◌, not, arith}
use Rattle.std.specs.List.{AllByRecursion, range_with_len}
use Rattle.std.proofs.lemmas.Bool.{leb-true, and_parts}
use Rattle.gfx_types.specs.declared.names.Kind.TheVariants as kind
use Rattle.gfx_types.specs.declared.op.Place.{Place}
use Rattle.gfx_types.specs.declared.lists.Barrier.{Barrier}
use Rattle.gfx_types.specs.declared.lists.BufferRegion.{BufferRegion}
use Rattle.gfx_types.specs.declared.lists.ImageRegion.{ImageRegion}
use Rattle.gfx_types.specs.declared.lists.MixedRegion.{MixedRegion}
use Rattle.gfx_model.specs.Events.{Event}
use Rattle.gfx_model.specs.Events.Event.{CmdPipelineBarrier, CmdFillBuffer, CmdUpdateBuffer, CmdCopyBuffer, CmdCopyImage, CmdCopyBufferToImage, CmdCopyImageToBuffer, CmdClearColorImage}
use Rattle.gfx_model.specs.Steps.{Change, resources_of}
use Rattle.gfx_model.specs.Steps.Change.{copy}
use Rattle.gfx_model.specs.Views.{View, Window, is_live, window, size_of, width_of, height_of, texel}
use Rattle.gfx_model.specs.Checks.{broken, row_texels}
use Rattle.gfx_model.specs.Table.{value, res, barrier_value, buffer_region_in, image_region_in, mixed_region_value, mixed_region_in, is_positive, is_layout}
use Rattle.gfx_model.specs.Effects.{changes_of_command, rows_copied, inside_of, inside_both, barrier_change, buffer_copy, image_copy, upload, download, texel_at, image_step}
use Rattle.gfx_model.specs.Covers.{IsInPlace}
use Rattle.gfx_model.proofs.Covered.{unless_none}
use Rattle.gfx_laws.specs.Lawful.{LawfulObjects, Passes, CommandPasses, id_in}
use Rattle.gfx_laws.proofs.Ready.{ReadyToChange}
use Rattle.gfx_model.proofs.Lists.{all_along}
use Rattle.gfx_laws.proofs.Lists.{all_before, all_behind, all_from_flat, all_into_flat, all_into_map, all_range}
use Rattle.gfx_laws.proofs.Windows.{IsWindow, is_window, size_of_image}
use Rattle.gfx_laws.proofs.Texels.{row_in_image, row_in_buffer}

all_inside : (P : Change → Type 0) (w : Option Window) (f : Window → List Change) → ((a : Window) → w ≡ Some a → AllByRecursion P (f a)) → AllByRecursion P (inside_of w f)
all_inside P None f each = tt
all_inside P (Some a) f each = each a refl

all_inside_both : (P : Change → Type 0) (s t : Option Window) (f : Window → Window → List Change) → ((a b : Window) → s ≡ Some a → t ≡ Some b → AllByRecursion P (f a b)) → AllByRecursion P (inside_both s t f)
all_inside_both P s t f each = all_inside P s (λ a. inside_of t (f a)) (λ a e. all_inside P t (f a) (λ b d. each a b e d))

-- copies of rows
rows_ready : (v : View) (to : Place) (to_offset to_step : ℕ) (source : Place) (source_offset source_step n rows : ℕ) → v.used (id_in to) ≡ true →
    ((k j : ℕ) → k < rows → j < n → IsInPlace v source (source_offset + k * source_step + j)) →
    AllByRecursion (ReadyToChange v) (rows_copied to to_offset to_step source source_offset source_step n rows)
rows_ready v to to_offset to_step source source_offset source_step n rows used each =
    all_into_map (ReadyToChange v) (λ k. copy to (to_offset + k * to_step) source (source_offset + k * source_step) n) (range_with_len 0 rows)
    (all_range (λ k. ReadyToChange v (copy to (to_offset + k * to_step) source (source_offset + k * source_step) n)) 0 rows (λ k low high. (used, λ j below. each k j (omega arith) below)))

-- where an index in a window is written otherwise
at_index : (v : View) (n : ℕ) (w : Window) → IsWindow v n w → (at inner : ℕ) → inner < n → at ≡ w.offset + inner → IsInPlace v w.place at
at_index v n w is at inner below e = subst (IsInPlace v w.place) (sym e) (is.inside inner below)

barriers_ready : (v : View) (cb : ℕ) (bs : List Barrier) → AllByRecursion (Passes v) (flat_map (λ b. res kind.Image cb b.image) bs) → AllByRecursion (Passes v) (map barrier_value bs) →
    AllByRecursion (ReadyToChange v) (map barrier_change bs)
unfolding broken
barriers_ready v cb [] a e = tt
barriers_ready v cb (b ∷ bs) a e = ((unless_none _ _ a.1.1.0, (and_parts (is_layout b.before) (is_layout b.after) (and_parts (is_layout b.before && is_layout b.after) (not (b.after == 0)) (unless_none _ _ e.0)).0).1, unless_none _ _ a.0), barriers_ready v cb bs a.1.1.1 e.1)

buffer_region_ready : (v : View) (source target : ℕ) (s t : Window) → IsWindow v (size_of v source) s → IsWindow v (size_of v target) t → (r : BufferRegion) →
    AllByRecursion (Passes v) (buffer_region_in source target r) → ReadyToChange v (buffer_copy s t r)
unfolding broken
buffer_region_ready v source target s t a b r e =
    let fits = leb-true (r.from + r.size) (size_of v source) (unless_none _ _ e.0) in
    (b.used, λ j below. at_index v _ s a _ (r.from + j) (omega (arith, fits)) (omega arith))

-- a row of an area of a source image
image_row : (v : View) (source : ℕ) (s : Window) → IsWindow v (size_of v source) s → is_live v kind.Image source ≡ true → (x y width height k j : ℕ) →
    x + width ≤ width_of v source → y + height ≤ height_of v source → k < height → j < width * texel v source →
    IsInPlace v s.place (s.offset + texel_at v source x y + k * image_step v source + j)
image_row v source s is image x y width height k j a b c d =
    let below = row_in_image x y k width height (width_of v source) (height_of v source) (texel v source) j a b c d in
    at_index v _ s is _ (texel_at v source x y + k * image_step v source + j) (subst (λ n. texel_at v source x y + k * image_step v source + j < n) (sym (size_of_image v source image)) below) (omega arith)

image_region_ready : (v : View) (source target : ℕ) (s t : Window) → IsWindow v (size_of v source) s → IsWindow v (size_of v target) t → is_live v kind.Image source ≡ true → (r : ImageRegion) →
    AllByRecursion (Passes v) (image_region_in source target r) → AllByRecursion (ReadyToChange v) (image_copy v source target s t r)
unfolding broken
image_region_ready v source target s t a b image r e =
    let area = and_parts _ _ (unless_none _ _ e.0) in
    rows_ready v t.place (t.offset + texel_at v target r.to_x r.to_y) (image_step v target) s.place (s.offset + texel_at v source r.from_x r.from_y) (image_step v source) (r.width * texel v source) r.height b.used
    (λ k j row below. image_row v source s a image r.from_x r.from_y r.width r.height k j (leb-true _ _ area.0) (leb-true _ _ area.1) row below)

download_ready : (v : View) (source target : ℕ) (s t : Window) → IsWindow v (size_of v source) s → IsWindow v (size_of v target) t → is_live v kind.Image source ≡ true → (r : MixedRegion) →
    AllByRecursion (Passes v) (mixed_region_in target source r) → AllByRecursion (ReadyToChange v) (download v source s t r)
unfolding broken
download_ready v source target s t a b image r e =
    let area = and_parts _ _ (unless_none _ _ e.0) in
    rows_ready v t.place (t.offset + r.offset) (row_texels r.row r.width * texel v source) s.place (s.offset + texel_at v source r.x r.y) (image_step v source) (r.width * texel v source) r.height b.used
    (λ k j row below. image_row v source s a image r.x r.y r.width r.height k j (leb-true _ _ area.0) (leb-true _ _ area.1) row below)

upload_ready : (v : View) (source target : ℕ) (s t : Window) → IsWindow v (size_of v source) s → IsWindow v (size_of v target) t → (r : MixedRegion) →
    AllByRecursion (Passes v) (mixed_region_in source target r) → AllByRecursion (ReadyToChange v) (upload v target s t r)
unfolding broken
upload_ready v source target s t a b r e =
    let fits = leb-true _ _ (unless_none _ _ e.1.0) in
    rows_ready v t.place (t.offset + texel_at v target r.x r.y) (image_step v target) s.place (s.offset + r.offset) (row_texels r.row r.width * texel v target) (r.width * texel v target) r.height b.used
    (λ k j row below.
    let inner = row_in_buffer r.offset k (row_texels r.row r.width) r.width r.height (texel v target) j (size_of v source) row below fits in
    at_index v _ s a _ (r.offset + k * (row_texels r.row r.width * texel v target) + j) inner (omega arith))

pub command_ready : (v : View) → LawfulObjects v → (c : Event) → CommandPasses v c → AllByRecursion (ReadyToChange v) (changes_of_command v c)
unfolding changes_of_command broken resources_of
command_ready v h (CmdPipelineBarrier cb barriers) a =
    barriers_ready v cb barriers (all_before (Passes v) (flat_map (λ b. res kind.Image cb b.image) barriers) (map barrier_value barriers) a.1.1) (all_behind (Passes v) (flat_map (λ b. res kind.Image cb b.image) barriers) (map barrier_value barriers) a.1.1)
command_ready v h (CmdFillBuffer cb buffer offset size word) a = all_inside (ReadyToChange v) (window v buffer) _ (λ w e. ((is_window v h buffer w e).used, tt))
command_ready v h (CmdUpdateBuffer cb buffer offset bytes) a = all_inside (ReadyToChange v) (window v buffer) _ (λ w e. ((is_window v h buffer w e).used, tt))
command_ready v h (CmdCopyBuffer cb source target regions) a =
    let checks = all_behind (Passes v) (map (λ r. value (is_positive r.size)) regions) (flat_map (buffer_region_in source target) regions) a.1.1.1.1.1.1.1.1.1.1 in
    all_inside_both (ReadyToChange v) (window v source) (window v target) _ (λ s t e d.
    all_into_map (ReadyToChange v) (buffer_copy s t) regions
    (all_along (λ r. AllByRecursion (Passes v) (buffer_region_in source target r)) (λ r. ReadyToChange v (buffer_copy s t r))
    (buffer_region_ready v source target s t (is_window v h source s e) (is_window v h target t d))
    regions (all_from_flat (Passes v) (buffer_region_in source target) regions checks)))
command_ready v h (CmdCopyImage cb source source_layout target target_layout regions) a =
    let checks = all_behind (Passes v) (map (λ r. value (is_positive r.width && is_positive r.height)) regions) (flat_map (image_region_in source target) regions) a.1.1.1.1.1.1.1.1.1.1.1.1 in
    all_inside_both (ReadyToChange v) (window v source) (window v target) _ (λ s t e d.
    all_into_flat (ReadyToChange v) (image_copy v source target s t) regions
    (all_along (λ r. AllByRecursion (Passes v) (image_region_in source target r)) (λ r. AllByRecursion (ReadyToChange v) (image_copy v source target s t r))
    (image_region_ready v source target s t (is_window v h source s e) (is_window v h target t d) (unless_none _ _ a.0))
    regions (all_from_flat (Passes v) (image_region_in source target) regions checks)))
command_ready v h (CmdCopyBufferToImage cb source target layout regions) a =
    let checks = all_behind (Passes v) (flat_map (mixed_region_value target) regions) (flat_map (mixed_region_in source target) regions) a.1.1.1.1.1.1.1.1.1.1.1 in
    all_inside_both (ReadyToChange v) (window v source) (window v target) _ (λ s t e d.
    all_into_flat (ReadyToChange v) (upload v target s t) regions
    (all_along (λ r. AllByRecursion (Passes v) (mixed_region_in source target r)) (λ r. AllByRecursion (ReadyToChange v) (upload v target s t r))
    (upload_ready v source target s t (is_window v h source s e) (is_window v h target t d))
    regions (all_from_flat (Passes v) (mixed_region_in source target) regions checks)))
command_ready v h (CmdCopyImageToBuffer cb source layout target regions) a =
    let checks = all_behind (Passes v) (flat_map (mixed_region_value source) regions) (flat_map (mixed_region_in target source) regions) a.1.1.1.1.1.1.1.1.1.1.1 in
    all_inside_both (ReadyToChange v) (window v source) (window v target) _ (λ s t e d.
    all_into_flat (ReadyToChange v) (download v source s t) regions
    (all_along (λ r. AllByRecursion (Passes v) (mixed_region_in target source r)) (λ r. AllByRecursion (ReadyToChange v) (download v source s t r))
    (download_ready v source target s t (is_window v h source s e) (is_window v h target t d) (unless_none _ _ a.0))
    regions (all_from_flat (Passes v) (mixed_region_in target source) regions checks)))
command_ready v h (CmdClearColorImage cb image layout c0 c1 c2 c3) a = all_inside (ReadyToChange v) (window v image) _ (λ w e. ((is_window v h image w e).used, tt))
command_ready v h _ a = tt
