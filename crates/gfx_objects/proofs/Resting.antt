-- Where bound resources end, and that their windows end within the limit on live bytes.
use Rattle.std.proofs.Common.{◌≡◌, ℕ, ◌+◌, ◌*◌, ◌≤◌, ◌==◌, Bool, true, false, IsTrue, refl, sym, ap, subst, ◌∙◌, Option, Some, None, is_some, cond, nat_le, arith}
use Rattle.std.specs.Prelude.{option_map, unwrap_or, IfSome}
use Rattle.std.specs.Option.{option_map_or}
use Rattle.std.specs.FinMap as map
use Rattle.std.proofs.lemmas.Bool.{leb-true, and_parts}
use Rattle.std.proofs.lemmas.Nat.{mul-le}
use Rattle.std.proofs.lemmas.Option.{same_Some}
use Rattle.gfx_types.specs.Names.{format_of, texel_of}
use Rattle.gfx_types.specs.declared.names.Format.{Format}
use Rattle.gfx_types.specs.declared.names.Kind.TheVariants as kind
use Rattle.gfx_types.specs.declared.op.Place.TheVariants as place
use Rattle.gfx_model.specs.Steps.{Detail as Parameters, kind_of, kind_number}
use Rattle.gfx_model.specs.Steps.Detail.{a_memory, a_buffer, an_image}
use Rattle.gfx_model.specs.Questions.{Binding, passes, image_size, texel_size}
use Rattle.gfx_model.specs.Views.{Window as Shown, is_live, window, size_of, detail_size, detail_window, bound_window, detail_bytes}
use Rattle.gfx_model.specs.Limits.{max_extent, max_live_bytes}
use Rattle.gfx_objects.specs.declared.object.Object.{Object}
use Rattle.gfx_objects.specs.declared.object.Window.{Window}
use Rattle.gfx_objects.specs.declared.object.Detail.{Detail}
use Rattle.gfx_objects.specs.Object.{made, detail_of, bound_of, window_of, is_within, is_memory}
use Rattle.gfx_objects.specs.Objects.{Kept, answers, RestsIn, IsSound}
use Rattle.gfx_objects.proofs.Index.{total_removed}
use Rattle.gfx_objects.proofs.Resources.{memory_live, window_at, bound_at}

size_at : (k : Kept) (x : ℕ) (o : Object) → map.get k.rows x ≡ Some o → size_of (answers k) x ≡ detail_size (detail_of o.detail)
unfolding answers
size_at k x o some = ap (λ q. option_map_or (λ o. detail_size o.detail) (option_map made q) 0) some

-- a live memory has a row
memory_row : (k : Kept) (m : ℕ) → is_live (answers k) kind.Memory m ≡ true → (o : Object) × (map.get k.rows m ≡ Some o)
unfolding answers
memory_row k m live = by (map.get k.rows m) refl live
  where
    by : (q : Option Object) → map.get k.rows m ≡ q → passes (λ o. kind_number (kind_of o.detail) == 5) (option_map made q) ≡ true → (o : Object) × (map.get k.rows m ≡ Some o)
    by None none live = absurd cc
    by (Some o) some live = (o, some)

-- ---- what a binding asks

module _ (k : Kept) (sound : IsSound k) (id : ℕ) (o : Object) (some : map.get k.rows id ≡ Some o) where
  pub new_rests : (memory offset : ℕ) → IsTrue (is_live (answers k) kind.Memory memory) → offset + size_of (answers k) id ≤ size_of (answers k) memory
      → (d : Detail) → detail_of d ≡ detail_of o.detail → bound_of d ≡ Some (record { memory = memory; offset = offset })
      → (b : Binding) → bound_of d ≡ Some b → RestsIn k (detail_of d) b
  new_rests memory offset live ends d parameters is b now =
      subst (λ b. RestsIn k (detail_of d) b) (same_Some _ _ (sym is ∙ now)) (record {
        used = let row = memory_row k memory live in let live = ap is_some row.1 in grind (arith, live);
        inside = λ m there.
            let whole = size_at k memory m there in
            let part = size_at k id o some in
            let same = ap detail_size parameters in
            omega (arith, ends, whole, part, same);
      })

  pub still_rests : (d : Detail) → detail_of d ≡ detail_of o.detail → bound_of d ≡ bound_of o.detail → (b : Binding) → bound_of d ≡ Some b → RestsIn k (detail_of d) b
  still_rests d parameters bound b is = subst (λ p. RestsIn k p b) (sym parameters) (sound.bound id o b some (sym bound ∙ is))

-- ---- windows

counted : (d : Parameters) → is_memory d ≡ true → detail_size d ≡ detail_bytes d
counted (a_memory size) e = refl
counted _ e = absurd cc

-- a live memory is within the limit on live bytes
memory_small : (k : Kept) → IsSound k → (m : ℕ) (o : Object) → map.get k.rows m ≡ Some o → is_memory (detail_of o.detail) ≡ true → detail_size (detail_of o.detail) ≤ max_live_bytes
memory_small k sound m o some memory =
    let part = total_removed k.rows m o some (λ id o. detail_bytes (detail_of o.detail)) in
    let all = sound.small in
    let same = counted (detail_of o.detail) memory in
    omega (arith, part, all, same)

texel_small : (f : Option Format) → unwrap_or (option_map texel_of f) 0 ≤ 4
texel_small None = omega arith
texel_small (Some f) = at f
  where
    at : (f : Format) → texel_of f ≤ 4
    at Format.R8Uint = omega arith
    at _ = omega arith

image_small : (format width height usage : ℕ) (index : Option ℕ) → is_within (an_image format width height usage index) ≡ true → image_size format width height ≤ max_live_bytes
image_small format width height usage index e =
    let extent = and_parts (nat_le width max_extent) (nat_le height max_extent) e in
    let area = mul-le width height max_extent max_extent (leb-true width max_extent extent.0) (leb-true height max_extent extent.1) in
    let bytes = mul-le (width * height) (texel_size format) (max_extent * max_extent) 4 area (texel_small (format_of format)) in
    omega (arith, bytes)

module _ (k : Kept) (sound : IsSound k) where
  bound_ends : (x : ℕ) (o : Object) → map.get k.rows x ≡ Some o → (b : Option Binding) → bound_of o.detail ≡ b → (w : Shown)
      → bound_window (answers k) (detail_size (detail_of o.detail)) b ≡ Some w → w.offset + w.length ≤ max_live_bytes
  bound_ends x o some None is w e = absurd cc
  bound_ends x o some (Some b) is w e = by (is_live (answers k) kind.Memory b.memory) refl e
    where
      by : (t : Bool) → is_live (answers k) kind.Memory b.memory ≡ t
          → cond t (Some (record { place = place.Memory b.memory; offset = b.offset; length = detail_size (detail_of o.detail) })) None ≡ Some w → w.offset + w.length ≤ max_live_bytes
      by false f e = absurd cc
      by true live e =
          let row = memory_row k b.memory live in
          let fits = (sound.bound x o b some is).inside row.0 row.1 in
          let small = memory_small k sound b.memory row.0 row.1 (memory_live k b.memory row.0 row.1 live) in
          let same : record { place = place.Memory b.memory; offset = b.offset; length = detail_size (detail_of o.detail) } ≡ w = cc in
          subst (λ (w : Shown). w.offset + w.length ≤ max_live_bytes) same (omega (arith, fits, small))

  detail_ends : (x : ℕ) (o : Object) → map.get k.rows x ≡ Some o → (d : Parameters) → detail_of o.detail ≡ d → (w : Shown)
      → detail_window (answers k) x d ≡ Some w → w.offset + w.length ≤ max_live_bytes
  detail_ends x o some (a_buffer size usage) is w e =
      bound_ends x o some (bound_of o.detail) refl w (ap (λ d. bound_window (answers k) (detail_size d) (bound_of o.detail)) is ∙ ap (bound_window (answers k) size) (sym (bound_at k x o some o.detail refl)) ∙ e)
  detail_ends x o some (an_image format width height usage None) is w e =
      bound_ends x o some (bound_of o.detail) refl w
      (ap (λ d. bound_window (answers k) (detail_size d) (bound_of o.detail)) is ∙ ap (bound_window (answers k) (image_size format width height)) (sym (bound_at k x o some o.detail refl)) ∙ e)
  detail_ends x o some (an_image format width height usage (Some index)) is w e =
      let small = image_small format width height usage (Some index) (ap is_within (sym is) ∙ (sound.row x o some).within) in
      let same : record { place = place.Image x; offset = 0; length = image_size format width height } ≡ w = cc in
      subst (λ (w : Shown). w.offset + w.length ≤ max_live_bytes) same (omega (arith, small))
  detail_ends x o some _ is w e = absurd cc

  -- the window of a live object, where it has one
  pub window_ends : (x : ℕ) (o : Object) → map.get k.rows x ≡ Some o → (w : Option Window) → option_map window_of w ≡ window (answers k) x → IfSome w (λ w. w.offset + w.length ≤ max_live_bytes)
  window_ends x o some None is = tt
  window_ends x o some (Some w) is = detail_ends x o some (detail_of o.detail) refl (window_of w) (sym (is ∙ window_at k x o some))
