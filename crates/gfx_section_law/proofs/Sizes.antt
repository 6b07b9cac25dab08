-- The section has not too many blocks, and none is too large.
use Rattle.std.proofs.Common.{◌≡◌, ℕ, ◌+◌, ◌*◌, ◌≤◌, Bool, true, false, ◌&&◌, ◌==◌, nat_le, List, [], ◌∷◌, ◌++◌, length, flat_map, sum_by, length-append, Option, Some, None, if◌then◌else◌, refl, sym, arith}
use Rattle.std.specs.Prelude.{◌^◌}
use Rattle.std.specs.Int.{to_le_bytes, w32, w64}
use Rattle.std.specs.Option.{option_map_or}
use Rattle.std.proofs.lemmas.Bool.{and_parts, both_ways, eq-eqb, leb-true}
use Rattle.std.proofs.lemmas.List.Sums.{sum_by-cons, sum_by-append}
use Rattle.std.proofs.lemmas.Nat.{mul-le}
use Rattle.gfx_types.specs.Names.{format_of, texel_of}
use Rattle.gfx_types.specs.declared.names.Fault.{Fault}
use Rattle.gfx_types.specs.declared.names.Fault.TheVariants.{BadValue, LimitReached}
use Rattle.gfx_types.specs.declared.names.Format.{Format}
use Rattle.gfx_types.specs.declared.names.Format.TheVariants.{R8Uint}
use Rattle.std.specs.Prelude.{option_map}
use Rattle.gfx_model.specs.Events.{Event}
use Rattle.gfx_model.specs.Events.Event.{FillMemory, InitImage, GetSwapchainImagesKHR, SetSwapchainState, AllocateCommandBuffers, CmdPipelineBarrier, CmdFillBuffer, CmdUpdateBuffer, CmdCopyBuffer, CmdCopyImage, CmdCopyBufferToImage, CmdCopyImageToBuffer, CmdClearColorImage}
use Rattle.gfx_model.specs.Spelling.{Field, field_bytes, fields_of, spelling, payload, id_of, type_of, id_fields, word_fields, barrier_fields, buffer_region_fields, image_region_fields, mixed_region_fields, list_of}
use Rattle.gfx_model.specs.Spelling.Field.{id, u64, u32, raw}
use Rattle.gfx_model.specs.Questions.{image_size, texel_size}
use Rattle.gfx_model.specs.Checks.{broken, unless}
use Rattle.gfx_model.specs.Table.{divides}
use Rattle.gfx_model.specs.Views.{View}
use Rattle.gfx_model.proofs.Covered.{unless_none}
use Rattle.gfx_laws.specs.Lawful.{cb_of, CommandPasses}

abbrev pub field_size : Field → ℕ
field_size (id n) = 8
field_size (u64 n) = 8
field_size (u32 n) = 4
field_size (raw bytes) = 8 + length bytes

one_field : (f : Field) → length (field_bytes f) ≡ field_size f
one_field (id n) = refl
one_field (u64 n) = refl
one_field (u32 n) = refl
one_field (raw bytes) = length-append (to_le_bytes w64 (length bytes)) bytes

all_fields : (fs : List Field) → length (flat_map field_bytes fs) ≡ sum_by field_size fs
all_fields [] = refl
all_fields (f ∷ fs) =
    let a = length-append (field_bytes f) (flat_map field_bytes fs) in let b = all_fields fs in let c = sum_by-cons field_size f fs in let d = one_field f in
    omega (arith, a, b, c, d)

-- the items of a list, of one size each
items_size : {X : Type 0} (g : X → List Field) (c : ℕ) → ((x : X) → sum_by field_size (g x) ≡ c) → (xs : List X) → sum_by field_size (flat_map g xs) ≡ c * length xs
items_size g c each [] = omega arith
items_size g c each (x ∷ xs) =
    let a = sum_by-append field_size (g x) (flat_map g xs) in let b = items_size g c each xs in let d = each x in
    grind (arith, a, b, d)

list_size : {X : Type 0} (g : X → List Field) (c : ℕ) → ((x : X) → sum_by field_size (g x) ≡ c) → (xs : List X) → sum_by field_size (list_of g xs) ≡ 4 + c * length xs
list_size g c each xs = let a = sum_by-cons field_size (u32 (length xs)) (flat_map g xs) in let b = items_size g c each xs in omega (arith, a, b)

-- the payload of a block fits in a file
abbrev pub IsSmall : ℕ → Event → Type 0
IsSmall m e = length (payload m 0 e) ≤ 2 ^ 27

fields_small : (m : ℕ) (e : Event) → sum_by field_size (fields_of m e) ≤ 134000000 → IsSmall m e
unfolding payload spelling
fields_small m e l = by (type_of e == 2)
  where
    by : (t : Bool) → length (to_le_bytes w32 (id_of e) ++ (if t then [] else to_le_bytes w64 0) ++ flat_map field_bytes (fields_of m e)) ≤ 2 ^ 27
    by true =
        let a = length-append (to_le_bytes w32 (id_of e)) (flat_map field_bytes (fields_of m e)) in let b = all_fields (fields_of m e) in
        let c : length (to_le_bytes w32 (id_of e)) ≡ 4 = refl in omega (arith, a, b, c, l)
    by false =
        let a = length-append (to_le_bytes w32 (id_of e)) (to_le_bytes w64 0 ++ flat_map field_bytes (fields_of m e)) in
        let a2 = length-append (to_le_bytes w64 0) (flat_map field_bytes (fields_of m e)) in
        let b = all_fields (fields_of m e) in
        let c : length (to_le_bytes w32 (id_of e)) ≡ 4 = refl in let d : length (to_le_bytes w64 0) ≡ 8 = refl in omega (arith, a, a2, b, c, d, l)

-- ---- commands

within : (n limit : ℕ) (f : Fault) → unless (nat_le n limit) f ≡ None → n ≤ limit
within n limit f e = leb-true n limit (unless_none (nat_le n limit) f e)

pub command_small : (m : ℕ) (v : View) (c : Event) (at : ℕ) → cb_of c ≡ at → (at == 0) ≡ false → CommandPasses v c → IsSmall m c
unfolding fields_of broken
command_small m v (CmdPipelineBarrier cb barriers) at e z a =
    let n = within (length barriers) 256 LimitReached a.1.0 in
    let s = list_size barrier_fields 16 (λ b. refl) barriers in
    let t = sum_by-cons field_size (id cb) (list_of barrier_fields barriers) in
    fields_small m _ (omega (arith, n, s, t))
command_small m v (CmdFillBuffer cb buffer offset size word) at e z a = fields_small m _ (omega arith)
command_small m v (CmdUpdateBuffer cb buffer offset bytes) at e z a =
    let sizes : divides 4 offset && divides 4 (length bytes) && nat_le 4 (length bytes) && nat_le (length bytes) 65536 ≡ true = unless_none _ BadValue a.1.1.1.1.0 in
    let n = leb-true (length bytes) 65536 (and_parts (divides 4 offset && divides 4 (length bytes) && nat_le 4 (length bytes)) (nat_le (length bytes) 65536) sizes).1 in
    let t1 = sum_by-cons field_size (id cb) (id buffer ∷ u64 offset ∷ raw bytes ∷ []) in
    let t2 = sum_by-cons field_size (id buffer) (u64 offset ∷ raw bytes ∷ []) in
    let t3 = sum_by-cons field_size (u64 offset) (raw bytes ∷ []) in
    let t4 = sum_by-cons field_size (raw bytes) [] in
    fields_small m _ (omega (arith, n, t1, t2, t3, t4))
command_small m v (CmdCopyBuffer cb source target regions) at e z a =
    let n = within (length regions) 256 LimitReached a.1.1.1.1.1.1.1.1.1.0 in
    let s = list_size buffer_region_fields 24 (λ b. refl) regions in
    let t1 = sum_by-cons field_size (id cb) (id source ∷ id target ∷ list_of buffer_region_fields regions) in
    let t2 = sum_by-cons field_size (id source) (id target ∷ list_of buffer_region_fields regions) in
    let t3 = sum_by-cons field_size (id target) (list_of buffer_region_fields regions) in
    fields_small m _ (omega (arith, n, s, t1, t2, t3))
command_small m v (CmdCopyImage cb source source_layout target target_layout regions) at e z a =
    let n = within (length regions) 256 LimitReached a.1.1.1.1.1.1.1.1.1.1.1.0 in
    let s = list_size image_region_fields 24 (λ b. refl) regions in
    let t1 = sum_by-cons field_size (id cb) (id source ∷ u32 source_layout ∷ id target ∷ u32 target_layout ∷ list_of image_region_fields regions) in
    let t2 = sum_by-cons field_size (id source) (u32 source_layout ∷ id target ∷ u32 target_layout ∷ list_of image_region_fields regions) in
    let t3 = sum_by-cons field_size (u32 source_layout) (id target ∷ u32 target_layout ∷ list_of image_region_fields regions) in
    let t4 = sum_by-cons field_size (id target) (u32 target_layout ∷ list_of image_region_fields regions) in
    let t5 = sum_by-cons field_size (u32 target_layout) (list_of image_region_fields regions) in
    fields_small m _ (omega (arith, n, s, t1, t2, t3, t4, t5))
command_small m v (CmdCopyBufferToImage cb source target layout regions) at e z a =
    let n = within (length regions) 256 LimitReached a.1.1.1.1.1.1.1.1.1.1.0 in
    let s = list_size mixed_region_fields 32 (λ b. refl) regions in
    let t1 = sum_by-cons field_size (id cb) (id source ∷ id target ∷ u32 layout ∷ list_of mixed_region_fields regions) in
    let t2 = sum_by-cons field_size (id source) (id target ∷ u32 layout ∷ list_of mixed_region_fields regions) in
    let t3 = sum_by-cons field_size (id target) (u32 layout ∷ list_of mixed_region_fields regions) in
    let t4 = sum_by-cons field_size (u32 layout) (list_of mixed_region_fields regions) in
    fields_small m _ (omega (arith, n, s, t1, t2, t3, t4))
command_small m v (CmdCopyImageToBuffer cb source layout target regions) at e z a =
    let n = within (length regions) 256 LimitReached a.1.1.1.1.1.1.1.1.1.1.0 in
    let s = list_size mixed_region_fields 32 (λ b. refl) regions in
    let t1 = sum_by-cons field_size (id cb) (id source ∷ u32 layout ∷ id target ∷ list_of mixed_region_fields regions) in
    let t2 = sum_by-cons field_size (id source) (u32 layout ∷ id target ∷ list_of mixed_region_fields regions) in
    let t3 = sum_by-cons field_size (u32 layout) (id target ∷ list_of mixed_region_fields regions) in
    let t4 = sum_by-cons field_size (id target) (list_of mixed_region_fields regions) in
    fields_small m _ (omega (arith, n, s, t1, t2, t3, t4))
command_small m v (CmdClearColorImage cb image layout c0 c1 c2 c3) at e z a = fields_small m _ (omega arith)
command_small m v _ at e z a = absurd (both_ways (at == 0) z (eq-eqb at 0 (sym e)))

-- ---- other events of a section

pub ids_small : (m device pool : ℕ) (xs : List ℕ) → length xs ≤ 65536 → IsSmall m (AllocateCommandBuffers device pool xs) × IsSmall m (GetSwapchainImagesKHR device pool xs)
unfolding fields_of
ids_small m device pool xs n =
    let s = list_size id_fields 8 (λ b. refl) xs in
    let t1 = sum_by-cons field_size (id device) (id pool ∷ list_of id_fields xs) in
    let t2 = sum_by-cons field_size (id pool) (list_of id_fields xs) in
    (fields_small m _ (omega (arith, n, s, t1, t2)), fields_small m _ (omega (arith, n, s, t1, t2)))

pub words_small : (m x : ℕ) (xs : List ℕ) → length xs ≤ 65536 → IsSmall m (SetSwapchainState x xs)
unfolding fields_of
words_small m x xs n =
    let s = list_size word_fields 4 (λ b. refl) xs in
    let t1 = sum_by-cons field_size (id x) (list_of word_fields xs) in
    fields_small m _ (omega (arith, n, s, t1))

pub fill_small : (m x at : ℕ) (bytes : List ℕ) → length bytes ≤ 133000000 → IsSmall m (FillMemory x at bytes) × IsSmall m (InitImage x at bytes)
unfolding fields_of
fill_small m x at bytes n =
    let t1 = sum_by-cons field_size (id x) (u64 at ∷ raw bytes ∷ []) in
    let t2 = sum_by-cons field_size (u64 at) (raw bytes ∷ []) in
    let t3 = sum_by-cons field_size (raw bytes) [] in
    let s1 = sum_by-cons field_size (id x) (u32 at ∷ raw bytes ∷ []) in
    let s2 = sum_by-cons field_size (u32 at) (raw bytes ∷ []) in
    (fields_small m _ (omega (arith, n, t1, t2, t3)), fields_small m _ (omega (arith, n, s1, s2, t3)))

-- an image of limited extent
pub area_small : (format width height : ℕ) → width ≤ 4096 → height ≤ 4096 → image_size format width height ≤ 67108864
area_small format width height w h =
    let a = mul-le width height 4096 4096 w h in
    let t = texel_small (format_of format) in
    let b = mul-le (width * height) (texel_size format) (4096 * 4096) 4 a t in
    omega (arith, b)
  where
    texel_one : (f : Format) → texel_of f ≤ 4
    texel_one R8Uint = omega arith
    texel_one _ = omega arith

    texel_small : (o : Option Format) → option_map_or (λ x. x) (option_map texel_of o) 0 ≤ 4
    texel_small None = omega arith
    texel_small (Some f) = texel_one f

pub fixed_small : (m : ℕ) (e : Event) → sum_by field_size (fields_of m e) ≤ 64 → IsSmall m e
fixed_small m e l = fields_small m e (omega (arith, l))
