-- How many bytes the fields of a command have.
use Rattle.std.proofs.Common.{◌≡◌, ℕ, ◌+◌, ◌*◌, List, [], ◌∷◌, length, flat_map, refl, ◌∙◌, arith, length-append}
use Rattle.std.specs.List.{sum_by}
use Rattle.std.proofs.lemmas.List.Concat.{length-flat_map}
use Rattle.std.proofs.lemmas.List.Sums.{sum_by-append}
use Rattle.std.specs.Int.{to_le_bytes, w64}
use Rattle.gfx_types.specs.declared.lists.Barrier.{Barrier}
use Rattle.gfx_types.specs.declared.lists.BufferRegion.{BufferRegion}
use Rattle.gfx_types.specs.declared.lists.ImageRegion.{ImageRegion}
use Rattle.gfx_types.specs.declared.lists.MixedRegion.{MixedRegion}
use Rattle.gfx_model.specs.Events.Event.{CmdPipelineBarrier, CmdFillBuffer, CmdUpdateBuffer, CmdCopyBuffer, CmdCopyImage, CmdCopyBufferToImage, CmdCopyImageToBuffer, CmdClearColorImage}
use Rattle.gfx_model.specs.Spelling.{Field, field_bytes, barrier_fields, buffer_region_fields, image_region_fields, mixed_region_fields, fields_of, spelling}
use Rattle.gfx_model.specs.Spelling.Field.{id, u32}

-- the bytes of a field
abbrev size : Field → ℕ
size f = length (field_bytes f)

-- items of one size
each : {X : Type 0} (fields : X → List Field) (k : ℕ) → ((x : X) → sum_by size (fields x) ≡ k) → (xs : List X) → sum_by size (flat_map fields xs) ≡ k * length xs
each fields k h [] = omega arith
each fields k h (x ∷ xs) = omega (arith, sum_by-append size (fields x) (flat_map fields xs), h x, each fields k h xs)

pub barriers_size : (cb : ℕ) (barriers : List Barrier) → length (spelling 1 (CmdPipelineBarrier cb barriers)) ≡ 8 + (4 + 16 * length barriers)
unfolding spelling fields_of
barriers_size cb barriers =
    let e : length (spelling 1 (CmdPipelineBarrier cb barriers)) ≡ 12 + sum_by size (flat_map barrier_fields barriers) =
    length-flat_map field_bytes (fields_of 1 (CmdPipelineBarrier cb barriers))
    ∙ sum_by-append size (id cb ∷ u32 (length barriers) ∷ []) (flat_map barrier_fields barriers) in
    e ∙ omega (arith, each barrier_fields 16 (λ b. refl) barriers)

pub copies_size : (cb source target : ℕ) (regions : List BufferRegion) → length (spelling 1 (CmdCopyBuffer cb source target regions)) ≡ 24 + (4 + 24 * length regions)
unfolding spelling fields_of
copies_size cb source target regions =
    let e : length (spelling 1 (CmdCopyBuffer cb source target regions)) ≡ 28 + sum_by size (flat_map buffer_region_fields regions) =
    length-flat_map field_bytes (fields_of 1 (CmdCopyBuffer cb source target regions))
    ∙ sum_by-append size (id cb ∷ id source ∷ id target ∷ u32 (length regions) ∷ []) (flat_map buffer_region_fields regions) in
    e ∙ omega (arith, each buffer_region_fields 24 (λ b. refl) regions)

pub image_copies_size : (cb source sl target tl : ℕ) (regions : List ImageRegion) → length (spelling 1 (CmdCopyImage cb source sl target tl regions)) ≡ 32 + (4 + 24 * length regions)
unfolding spelling fields_of
image_copies_size cb source sl target tl regions =
    let e : length (spelling 1 (CmdCopyImage cb source sl target tl regions)) ≡ 36 + sum_by size (flat_map image_region_fields regions) =
    length-flat_map field_bytes (fields_of 1 (CmdCopyImage cb source sl target tl regions))
    ∙ sum_by-append size (id cb ∷ id source ∷ u32 sl ∷ id target ∷ u32 tl ∷ u32 (length regions) ∷ []) (flat_map image_region_fields regions) in
    e ∙ omega (arith, each image_region_fields 24 (λ b. refl) regions)

pub uploads_size : (cb source target layout : ℕ) (regions : List MixedRegion) → length (spelling 1 (CmdCopyBufferToImage cb source target layout regions)) ≡ 28 + (4 + 32 * length regions)
unfolding spelling fields_of
uploads_size cb source target layout regions =
    let e : length (spelling 1 (CmdCopyBufferToImage cb source target layout regions)) ≡ 32 + sum_by size (flat_map mixed_region_fields regions) =
    length-flat_map field_bytes (fields_of 1 (CmdCopyBufferToImage cb source target layout regions))
    ∙ sum_by-append size (id cb ∷ id source ∷ id target ∷ u32 layout ∷ u32 (length regions) ∷ []) (flat_map mixed_region_fields regions) in
    e ∙ omega (arith, each mixed_region_fields 32 (λ b. refl) regions)

pub downloads_size : (cb source layout target : ℕ) (regions : List MixedRegion) → length (spelling 1 (CmdCopyImageToBuffer cb source layout target regions)) ≡ 28 + (4 + 32 * length regions)
unfolding spelling fields_of
downloads_size cb source layout target regions =
    let e : length (spelling 1 (CmdCopyImageToBuffer cb source layout target regions)) ≡ 32 + sum_by size (flat_map mixed_region_fields regions) =
    length-flat_map field_bytes (fields_of 1 (CmdCopyImageToBuffer cb source layout target regions))
    ∙ sum_by-append size (id cb ∷ id source ∷ u32 layout ∷ id target ∷ u32 (length regions) ∷ []) (flat_map mixed_region_fields regions) in
    e ∙ omega (arith, each mixed_region_fields 32 (λ b. refl) regions)

pub fill_size : (cb buffer offset size word : ℕ) → length (spelling 1 (CmdFillBuffer cb buffer offset size word)) ≡ 36
unfolding spelling fields_of
fill_size cb buffer offset size word = refl

pub update_size : (cb buffer offset : ℕ) (bytes : List ℕ) → length (spelling 1 (CmdUpdateBuffer cb buffer offset bytes)) ≡ 32 + length bytes
unfolding spelling fields_of
update_size cb buffer offset bytes =
    length-flat_map field_bytes (fields_of 1 (CmdUpdateBuffer cb buffer offset bytes))
    ∙ omega (arith, length-append (to_le_bytes w64 (length bytes)) bytes)

pub clear_size : (cb image layout c0 c1 c2 c3 : ℕ) → length (spelling 1 (CmdClearColorImage cb image layout c0 c1 c2 c3)) ≡ 36
unfolding spelling fields_of
clear_size cb image layout c0 c1 c2 c3 = refl
