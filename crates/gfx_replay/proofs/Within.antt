-- The operations of commands that break no check lie in the places of the answers.
use Rattle.std.proofs.Common.{◌≡◌, ℕ, ◌+◌, ◌-◌, ◌*◌, ◌/◌, ◌<◌, ◌≤◌, Bool, true, false, cond, refl, sym, ap, ◌∙◌, subst, List, [], ◌∷◌, map, flat_map, length, Option, Some, None, option_and_then, ◌==◌, ◌&&◌, arith}
use Rattle.std.specs.Prelude.{IsSomeAnd}
use Rattle.std.specs.Option.{option_map_or}
use Rattle.std.specs.List.{AllByRecursion}
use Rattle.std.proofs.Math.Nat.{mul-le-mul_right}
use Rattle.std.proofs.lemmas.Bool.{leb-true, ltb-true, eqb-true, and_parts}
use Rattle.gfx_types.specs.declared.names.Kind.TheVariants as kind
use Rattle.gfx_types.specs.declared.op.Place.{Place}
use Rattle.gfx_types.specs.declared.op.Place.TheVariants as place
use Rattle.gfx_types.specs.declared.op.Op.{Op}
use Rattle.gfx_types.specs.declared.lists.BufferRegion.{BufferRegion}
use Rattle.gfx_types.specs.declared.lists.ImageRegion.{ImageRegion}
use Rattle.gfx_types.specs.declared.lists.MixedRegion.{MixedRegion}
use Rattle.gfx_device.specs.Rows.{AreWithin}
use Rattle.gfx_model.specs.Events.{Event}
use Rattle.gfx_model.specs.Events.Event.{CmdPipelineBarrier, CmdFillBuffer, CmdUpdateBuffer, CmdCopyBuffer, CmdCopyImage, CmdCopyBufferToImage, CmdCopyImageToBuffer, CmdClearColorImage}
use Rattle.gfx_model.specs.Steps.{Object, Detail}
use Rattle.gfx_model.specs.Steps.Detail.{a_buffer, an_image}
use Rattle.gfx_model.specs.Questions.{Binding, passes, image_size}
use Rattle.gfx_model.specs.Views.{View, Window, is_live, window, size_of, width_of, height_of, texel, detail_size, detail_window, bound_window}
use Rattle.gfx_model.specs.Checks.{broken, row_texels}
use Rattle.gfx_model.specs.Checks.Check.{ends_in}
use Rattle.gfx_model.specs.Table.{value, span, whole, buffer_region_in, image_region_in, mixed_region_value, mixed_region_in, is_positive}
use Rattle.gfx_model.specs.Effects.{fill_size}
use Rattle.gfx_model.specs.Covers.{is_fetched}
use Rattle.gfx_model.proofs.Covered.{unless_none}
use Rattle.gfx_model.proofs.Lists.{all_along, all_map}
use Rattle.gfx_laws.specs.Lawful.{LawfulObjects, Passes, CommandPasses}
use Rattle.gfx_laws.proofs.Lists.{all_behind, all_from_flat, all_into_map}
use Rattle.gfx_laws.proofs.Windows.{size_of_image}
use Rattle.gfx_ops.specs.Operations.{ops_of_command, ops_in, ops_between, shape_of, texel_in, barrier_op, buffer_op, image_op, upload_op, download_op}
use Rattle.gfx_replay.specs.Ranges.{Sizes, HasRange, HasRows, IsWithin, AreAllWithin}
use Rattle.gfx_replay.specs.Sizes.{place_size}

-- ---- windows

-- a window of all bytes of a resource, which lie in its place
pub record Fits (v : View) (n : ℕ) (w : Window) : Type 0 where
  pub inside : HasRange (place_size v) w.place w.offset n
  pub long : w.length ≡ n

fits_bound : (v : View) → LawfulObjects v → (x : ℕ) (o : Object) → v.live x ≡ Some o → (b : Option Binding) → v.bound x ≡ b → (w : Window) → bound_window v (detail_size o.detail) b ≡ Some w →
    Fits v (detail_size o.detail) w
fits_bound v h x o live None is w e = absurd (cc)
fits_bound v h x o live (Some b) is w e = by (is_live v kind.Memory b.memory) refl e
  where
    by : (t : Bool) → is_live v kind.Memory b.memory ≡ t → cond t (Some (record { place = place.Memory b.memory; offset = b.offset; length = detail_size o.detail })) None ≡ Some w →
        Fits v (detail_size o.detail) w
    by false f e = absurd (cc)
    by true memory e =
        let here : Fits v (detail_size o.detail) (record { place = place.Memory b.memory; offset = b.offset; length = detail_size o.detail }) = record {
          inside = subst (λ t. IsSomeAnd (cond t (Some (size_of v b.memory)) None) (λ size. b.offset + detail_size o.detail ≤ size)) (sym memory) (h.inside x o b live is memory);
          long = refl;
        } in
        subst (Fits v (detail_size o.detail)) (let same : record { place = place.Memory b.memory; offset = b.offset; length = detail_size o.detail } ≡ w = cc in same) here

fits_detail : (v : View) → LawfulObjects v → (x : ℕ) (o : Object) → v.live x ≡ Some o → (d : Detail) → o.detail ≡ d → (w : Window) → detail_window v x d ≡ Some w → Fits v (detail_size o.detail) w
fits_detail v h x o live (a_buffer size usage) is w e =
    fits_bound v h x o live (v.bound x) refl w (ap (λ d. bound_window v (detail_size d) (v.bound x)) is ∙ e)
fits_detail v h x o live (an_image format width height usage None) is w e =
    fits_bound v h x o live (v.bound x) refl w (ap (λ d. bound_window v (detail_size d) (v.bound x)) is ∙ e)
fits_detail v h x o live (an_image format width height usage (Some index)) is w e =
    let size : size_of v x ≡ detail_size o.detail = ap (λ l. option_map_or (λ o. detail_size o.detail) l 0) live in
    let own : passes (λ o. is_fetched o.detail) (v.live x) ≡ true = ap (passes (λ o. is_fetched o.detail)) live ∙ ap is_fetched is in
    let here : Fits v (detail_size o.detail) (record { place = place.Image x; offset = 0; length = image_size format width height }) = record {
      inside = subst (λ t. IsSomeAnd (cond t (Some (size_of v x)) None) (λ n. 0 + detail_size o.detail ≤ n)) (sym own) (omega (arith, size));
      long = sym (ap detail_size is);
    } in
    subst (Fits v (detail_size o.detail)) (let same : record { place = place.Image x; offset = 0; length = image_size format width height } ≡ w = cc in same) here
fits_detail v h x o live _ is w e = absurd (cc)

fits : (v : View) → LawfulObjects v → (x : ℕ) (w : Window) → window v x ≡ Some w → Fits v (size_of v x) w
fits v h x w e = by (v.live x) refl e
  where
    by : (l : Option Object) → v.live x ≡ l → option_and_then (λ o. detail_window v x o.detail) l ≡ Some w → Fits v (size_of v x) w
    by None live e = absurd (cc)
    by (Some o) live e = subst (λ l. Fits v (option_map_or (λ o. detail_size o.detail) l 0) w) (sym live) (fits_detail v h x o live o.detail refl w e)

-- ---- ranges in a window

some_weaker : {X : Type 0} (P Q : X → Type 0) → ((x : X) → P x → Q x) → (o : Option X) → IsSomeAnd o P → IsSomeAnd o Q
some_weaker P Q f None h = h
some_weaker P Q f (Some x) h = f x h

range_in : (sizes : Sizes) (at : Place) (o n inner m : ℕ) → HasRange sizes at o n → inner + m ≤ n → HasRange sizes at (o + inner) m
range_in sizes at o n inner m range within = some_weaker (λ size. o + n ≤ size) (λ size. o + inner + m ≤ size) (λ size h. omega arith) (sizes at) range

rows_in : (sizes : Sizes) (at : Place) (o n inner step m rows : ℕ) → HasRange sizes at o n → ((k : ℕ) → k < rows → inner + k * step + m ≤ n) → HasRows sizes at (o + inner) step m rows
rows_in sizes at o n inner step m rows range within =
    some_weaker (λ size. o + n ≤ size) (λ size. AreWithin size (o + inner) step m rows) (λ size h k below. let w = within k below in omega (arith, w)) (sizes at) range

-- a row of an area of an image
area_row : (x y k w h W H T : ℕ) → x + w ≤ W → y + h ≤ H → k < h → (y * W + x) * T + k * (W * T) + w * T ≤ W * H * T
area_row x y k w h W H T a b c =
    let g : y + k + 1 ≤ H = omega arith in
    let e : (y + k + 1) * (W * T) ≤ H * (W * T) = mul-le-mul_right (W * T) g in
    let f : (x + w) * T ≤ W * T = mul-le-mul_right T a in
    omega (arith, e, f)

-- a row of texels in a buffer
buffer_row : (o k r w h T size : ℕ) → k < h → o + ((h - 1) * r + w) * T ≤ size → o + k * (r * T) + w * T ≤ size
buffer_row o k r w h T size below inside =
    let e : k * (r * T) ≤ (h - 1) * (r * T) = mul-le-mul_right (r * T) (let g : k ≤ h - 1 = omega arith in g) in
    omega (arith, e)

-- ---- commands

all_in : (P : Op → Type 0) (w : Option Window) (f : Window → List Op) → ((a : Window) → w ≡ Some a → AllByRecursion P (f a)) → AllByRecursion P (ops_in w f)
all_in P None f each = tt
all_in P (Some a) f each = each a refl

all_between : (P : Op → Type 0) (s t : Option Window) (f : Window → Window → List Op) → ((a b : Window) → s ≡ Some a → t ≡ Some b → AllByRecursion P (f a b)) → AllByRecursion P (ops_between s t f)
all_between P s t f each = all_in P s (λ a. ops_in t (f a)) (λ a e. all_in P t (f a) (λ b d. each a b e d))

fill_within : (v : View) (buffer offset size : ℕ) → AllByRecursion (Passes v) (span buffer offset size) → offset + fill_size (size_of v buffer) offset size ≤ size_of v buffer
unfolding broken
fill_within v buffer offset size a = by (size == whole) a.1
  where
    begins : offset < size_of v buffer
    begins = ltb-true offset (size_of v buffer) (unless_none _ _ a.0)

    by : (t : Bool) → AllByRecursion (Passes v) (cond t [] (ends_in buffer (offset + size) ∷ [])) → offset + cond t ((size_of v buffer - offset) / 4 * 4) size ≤ size_of v buffer
    by true rest = omega (arith, begins)
    by false rest = leb-true (offset + size) (size_of v buffer) (unless_none _ _ rest.0)

module _ (v : View) (given : List ℕ) where
  abbrev P : Op → Type 0
  P = IsWithin (place_size v) given

  image_rows : (image : ℕ) (w : Window) → Fits v (size_of v image) w → is_live v kind.Image image ≡ true → (x y width height : ℕ) →
      x + width ≤ width_of v image → y + height ≤ height_of v image →
      HasRows (place_size v) w.place (w.offset + texel_in (shape_of v image) x y) (width_of v image * texel v image) (width * texel v image) height
  image_rows image w f live x y width height a b =
      rows_in (place_size v) w.place w.offset (size_of v image) (texel_in (shape_of v image) x y) (width_of v image * texel v image) (width * texel v image) height f.inside
      (λ k below.
      subst (λ n. texel_in (shape_of v image) x y + k * (width_of v image * texel v image) + width * texel v image ≤ n) (sym (size_of_image v image live))
      (area_row x y k width height (width_of v image) (height_of v image) (texel v image) a b below))

  buffer_rows : (buffer image : ℕ) (w : Window) → Fits v (size_of v buffer) w → (r : MixedRegion) →
      r.offset + ((r.height - 1) * row_texels r.row r.width + r.width) * texel v image ≤ size_of v buffer →
      HasRows (place_size v) w.place (w.offset + r.offset) (row_texels r.row r.width * texel v image) (r.width * texel v image) r.height
  buffer_rows buffer image w f r inside =
      rows_in (place_size v) w.place w.offset (size_of v buffer) r.offset (row_texels r.row r.width * texel v image) (r.width * texel v image) r.height f.inside
      (λ k below. buffer_row r.offset k (row_texels r.row r.width) r.width r.height (texel v image) (size_of v buffer) below inside)

  buffer_region : (source target : ℕ) (s t : Window) → Fits v (size_of v source) s → Fits v (size_of v target) t → (r : BufferRegion) →
      AllByRecursion (Passes v) (buffer_region_in source target r) → P (buffer_op s t r)
  unfolding broken
  buffer_region source target s t a b r e =
      let from = leb-true (r.from + r.size) (size_of v source) (unless_none _ _ e.0) in
      let to = leb-true (r.to + r.size) (size_of v target) (unless_none _ _ e.1.0) in (
        rows_in (place_size v) t.place t.offset (size_of v target) r.to 0 r.size 1 b.inside (λ k below. omega (arith, to)),
        rows_in (place_size v) s.place s.offset (size_of v source) r.from 0 r.size 1 a.inside (λ k below. omega (arith, from)),
      )

  image_region : (source target : ℕ) (s t : Window) → Fits v (size_of v source) s → Fits v (size_of v target) t →
      is_live v kind.Image source ≡ true → is_live v kind.Image target ≡ true → texel v source ≡ texel v target → (r : ImageRegion) →
      AllByRecursion (Passes v) (image_region_in source target r) → P (image_op (shape_of v source) (shape_of v target) s t r)
  unfolding broken
  image_region source target s t a b from to same r e =
      let out = and_parts _ _ (unless_none _ _ e.0) in
      let into = and_parts _ _ (unless_none _ _ e.1.0) in (
        subst (λ n. HasRows (place_size v) t.place (t.offset + texel_in (shape_of v target) r.to_x r.to_y) (width_of v target * texel v target) (r.width * n) r.height) (sym same)
            (image_rows target t b to r.to_x r.to_y r.width r.height (leb-true _ _ into.0) (leb-true _ _ into.1)),
        image_rows source s a from r.from_x r.from_y r.width r.height (leb-true _ _ out.0) (leb-true _ _ out.1),
      )

  upload_region : (buffer image : ℕ) (s t : Window) → Fits v (size_of v buffer) s → Fits v (size_of v image) t → is_live v kind.Image image ≡ true → (r : MixedRegion) →
      AllByRecursion (Passes v) (mixed_region_in buffer image r) → P (upload_op (shape_of v image) s t r)
  unfolding broken
  upload_region buffer image s t a b live r e =
      let area = and_parts _ _ (unless_none _ _ e.0) in (
        image_rows image t b live r.x r.y r.width r.height (leb-true _ _ area.0) (leb-true _ _ area.1),
        buffer_rows buffer image s a r (leb-true _ _ (unless_none _ _ e.1.0)),
      )

  download_region : (buffer image : ℕ) (s t : Window) → Fits v (size_of v image) s → Fits v (size_of v buffer) t → is_live v kind.Image image ≡ true → (r : MixedRegion) →
      AllByRecursion (Passes v) (mixed_region_in buffer image r) → P (download_op (shape_of v image) s t r)
  unfolding broken
  download_region buffer image s t a b live r e =
      let area = and_parts _ _ (unless_none _ _ e.0) in (
        buffer_rows buffer image t b r (leb-true _ _ (unless_none _ _ e.1.0)),
        image_rows image s a live r.x r.y r.width r.height (leb-true _ _ area.0) (leb-true _ _ area.1),
      )

  pub command_within : LawfulObjects v → (c : Event) → CommandPasses v c → AreAllWithin (place_size v) given (ops_of_command v c)
  unfolding ops_of_command broken
  command_within h (CmdPipelineBarrier cb barriers) a = all_map P barrier_op (λ b. tt) barriers
  command_within h (CmdFillBuffer cb buffer offset size word) a =
      all_in P (window v buffer) _ (λ w e. let f = fits v h buffer w e in (range_in (place_size v) w.place w.offset (size_of v buffer) offset _ f.inside (fill_within v buffer offset size a.1.1.1.1.1), tt))
  command_within h (CmdUpdateBuffer cb buffer offset bytes) a =
      all_in P (window v buffer) _ (λ w e.
      let f = fits v h buffer w e in
      (range_in (place_size v) w.place w.offset (size_of v buffer) offset (length bytes) f.inside (leb-true _ _ (unless_none _ _ a.1.1.1.1.1.0)), tt))
  command_within h (CmdCopyBuffer cb source target regions) a =
      let checks = all_behind (Passes v) (map (λ r. value (is_positive r.size)) regions) (flat_map (buffer_region_in source target) regions) a.1.1.1.1.1.1.1.1.1.1 in
      all_between P (window v source) (window v target) _ (λ s t e d.
      all_into_map P (buffer_op s t) regions
      (all_along (λ r. AllByRecursion (Passes v) (buffer_region_in source target r)) (λ r. P (buffer_op s t r))
      (buffer_region source target s t (fits v h source s e) (fits v h target t d))
      regions (all_from_flat (Passes v) (buffer_region_in source target) regions checks)))
  command_within h (CmdCopyImage cb source source_layout target target_layout regions) a =
      let checks = all_behind (Passes v) (map (λ r. value (is_positive r.width && is_positive r.height)) regions) (flat_map (image_region_in source target) regions) a.1.1.1.1.1.1.1.1.1.1.1.1 in
      let same = eqb-true (texel v source) (texel v target) (unless_none _ _ a.1.1.1.1.1.1.1.1.1.0) in
      all_between P (window v source) (window v target) _ (λ s t e d.
      all_into_map P (image_op (shape_of v source) (shape_of v target) s t) regions
      (all_along (λ r. AllByRecursion (Passes v) (image_region_in source target r)) (λ r. P (image_op (shape_of v source) (shape_of v target) s t r))
      (image_region source target s t (fits v h source s e) (fits v h target t d) (unless_none _ _ a.0) (unless_none _ _ a.1.1.1.0) same)
      regions (all_from_flat (Passes v) (image_region_in source target) regions checks)))
  command_within h (CmdCopyBufferToImage cb source target layout regions) a =
      let checks = all_behind (Passes v) (flat_map (mixed_region_value target) regions) (flat_map (mixed_region_in source target) regions) a.1.1.1.1.1.1.1.1.1.1.1 in
      all_between P (window v source) (window v target) _ (λ s t e d.
      all_into_map P (upload_op (shape_of v target) s t) regions
      (all_along (λ r. AllByRecursion (Passes v) (mixed_region_in source target r)) (λ r. P (upload_op (shape_of v target) s t r))
      (upload_region source target s t (fits v h source s e) (fits v h target t d) (unless_none _ _ a.1.1.1.0))
      regions (all_from_flat (Passes v) (mixed_region_in source target) regions checks)))
  command_within h (CmdCopyImageToBuffer cb source layout target regions) a =
      let checks = all_behind (Passes v) (flat_map (mixed_region_value source) regions) (flat_map (mixed_region_in target source) regions) a.1.1.1.1.1.1.1.1.1.1.1 in
      all_between P (window v source) (window v target) _ (λ s t e d.
      all_into_map P (download_op (shape_of v source) s t) regions
      (all_along (λ r. AllByRecursion (Passes v) (mixed_region_in target source r)) (λ r. P (download_op (shape_of v source) s t r))
      (download_region target source s t (fits v h source s e) (fits v h target t d) (unless_none _ _ a.0))
      regions (all_from_flat (Passes v) (mixed_region_in target source) regions checks)))
  command_within h (CmdClearColorImage cb image layout c0 c1 c2 c3) a =
      all_in P (window v image) _ (λ w e.
      let f = fits v h image w e in
      (subst (λ n. HasRange (place_size v) w.place w.offset n) (sym f.long) f.inside, tt))
  command_within h _ a = tt
