-- The operations of an event without a fault end far below 2^64.
use Rattle.std.proofs.Common.{◌≡◌, ℕ, ◌+◌, ◌*◌, ◌<◌, ◌≤◌, ◌^◌, Bool, true, false, refl, sym, ap, subst, ◌∙◌, arith, List, [], ◌∷◌, length, Option, Some, None, if◌then◌else◌, is_some, nat_le, ◌&&◌, ◌==◌, inl, inr}
use Rattle.std.specs.Prelude.{IsSomeAnd, unwrap_or, option_map, sum_by}
use Rattle.std.specs.List.{AllByRecursion, AllByRecursion-prop}
use Rattle.std.specs.Option.{option_map_or}
use Rattle.std.proofs.Math.Logic.{∥∥₁_elim}
use Rattle.std.proofs.Props.{props}
use Rattle.std.proofs.lemmas.Bool.{and_parts, eqb-true, leb-true, or_cases}
use Rattle.std.proofs.lemmas.List.Sums.{sum_by-cons}
use Rattle.std.proofs.lemmas.Nat.{mul-le}
use Rattle.gfx_types.specs.declared.names.Format.{Format}
use Rattle.gfx_types.specs.declared.op.Op.{Op}
use Rattle.gfx_types.specs.declared.op.Op.TheVariants as op
use Rattle.gfx_types.specs.declared.op.Place.{Place}
use Rattle.gfx_types.specs.declared.op.Place.TheVariants as place
use Rattle.gfx_types.specs.declared.names.Kind.TheVariants as kind
use Rattle.gfx_types.specs.Names.{format_of, texel_of, texel_size}
use Rattle.gfx_model.specs.Blocks.{Content}
use Rattle.gfx_model.specs.Blocks.Content.{skipped, effect}
use Rattle.gfx_model.specs.Checks.{first_broken, is_among}
use Rattle.gfx_model.specs.Covers.{is_fetched}
use Rattle.gfx_model.specs.Events.{Event}
use Rattle.gfx_model.specs.Questions.{passes}
use Rattle.gfx_model.specs.Steps.{Detail, Object, kind_of, kind_number}
use Rattle.gfx_model.specs.Steps.Detail.{a_memory, an_image}
use Rattle.gfx_model.specs.Table.{checks_of}
use Rattle.gfx_model.specs.Views.{View, ask, detail_bytes, detail_size, is_live, size_of}
use Rattle.gfx_model.proofs.Lists.{all_along}
use Rattle.gfx_laws.specs.Lawful.{IsLawful, is_allowed}
use Rattle.gfx_laws.proofs.MoreObjects.{live_of_kind}
use Rattle.gfx_tracker.specs.Operations.{given_by, ops_of}
use Rattle.gfx_tracker.specs.Tracker.{answers}
use Rattle.gfx_tracker.specs.declared.tracker.Tracker.{Tracker}
use Rattle.gfx_replay.specs.Fed.{broken_by}
use Rattle.gfx_replay.specs.Ranges.{HasRange, HasRows, IsWithin}
use Rattle.gfx_replay.specs.Sizes.{place_size}
use Rattle.gfx_replay.proofs.EventsWithin.{ops_within}
use Rattle.gfx_asked.specs.Accesses.{AreNear, IsNear, RowsAreNear, accesses_of_op}
use Rattle.gfx_asked.specs.declared.access.Access.{Access}
use Rattle.gfx_asked.specs.declared.access.Access.TheVariants.{Show, Write, Copy}
use Rattle.gfx_range.specs.Follower.{ops_said}
use Rattle.gfx_range.specs.Range.{AreSaidNear}

-- ---- sizes

texel_small : (f : Option Format) → unwrap_or (option_map texel_of f) 0 ≤ 4
texel_small None = omega arith
texel_small (Some f) = at f
  where
    at : (f : Format) → texel_of f ≤ 4
    at Format.R8Uint = omega arith
    at _ = omega arith

-- a term is within its sum
in_sum : (f : ℕ → ℕ) (x : ℕ) (xs : List ℕ) → is_among x xs ≡ true → f x ≤ sum_by f xs
in_sum f x [] there = absurd cc
in_sum f x (y ∷ ys) there = elim (or_cases (y == x) (is_among x ys) there) [
  | inl same ↦ let e = sum_by-cons f y ys in let here = ap f (eqb-true y x same) in omega (arith, e, here)
  | inr rest ↦ let e = sum_by-cons f y ys in let more = in_sum f x ys rest in omega (arith, e, more)
]

module _ (v : View) (h : IsLawful v []) where
  memory_small : (m : ℕ) → is_live v kind.Memory m ≡ true → size_of v m ≤ 2 ^ 28
  memory_small m live =
      let o = live_of_kind v (λ o. kind_number (kind_of o.detail) == 5) m live in
      let part = in_sum (ask detail_bytes v) m v.ids ((h.ids).exact m ∙ ap is_some o.1) in
      let all = (h.limits).bytes in
      let same = by o.0.detail (ap (passes (λ o. kind_number (kind_of o.detail) == 5)) (sym o.1) ∙ live) in
      let size = ap (λ (l : Option Object). option_map_or (λ o. detail_size o.detail) l 0) o.1 in
      let bytes = ap (λ (l : Option Object). option_map_or (λ o. detail_bytes o.detail) l 0) o.1 in
      omega (arith, part, all, same, size, bytes)
    where
      by : (d : Detail) → (kind_number (kind_of d) == 5) ≡ true → detail_size d ≡ detail_bytes d
      by (a_memory size) e = refl
      by _ e = absurd cc

  image_small : (x : ℕ) → passes (λ o. is_fetched o.detail) (v.live x) ≡ true → size_of v x ≤ 2 ^ 28
  image_small x own =
      let o = live_of_kind v (λ o. is_fetched o.detail) x own in
      let size = ap (λ (l : Option Object). option_map_or (λ o. detail_size o.detail) l 0) o.1 in
      let small = by o.0.detail (ap (passes (λ o. is_fetched o.detail)) (sym o.1) ∙ own) ((h.objects).allowed x o.0 o.1) in
      omega (arith, size, small)
    where
      by : (d : Detail) → is_fetched d ≡ true → is_allowed d ≡ true → detail_size d ≤ 2 ^ 28
      by (an_image format width height usage (Some index)) f e =
          let extent = and_parts (nat_le width 4096) (nat_le height 4096) (and_parts _ (nat_le width 4096 && nat_le height 4096) e).1 in
          let area = mul-le width height 4096 4096 (leb-true width 4096 extent.0) (leb-true height 4096 extent.1) in
          let bytes = mul-le (width * height) (texel_size format) (4096 * 4096) 4 area (texel_small (format_of format)) in
          omega (arith, bytes)
      by (an_image format width height usage None) f e = absurd cc
      by _ f e = absurd cc

  place_small : (at : Place) (n : ℕ) → place_size v at ≡ Some n → n ≤ 2 ^ 28
  place_small (place.Memory m) n e = by (is_live v kind.Memory m) refl e
    where
      by : (t : Bool) → is_live v kind.Memory m ≡ t → (if t then Some (size_of v m) else None) ≡ Some n → n ≤ 2 ^ 28
      by true live e = let same : size_of v m ≡ n = cc in subst (λ n. n ≤ 2 ^ 28) same (memory_small m live)
      by false live e = absurd cc
  place_small (place.Image x) n e = by (passes (λ o. is_fetched o.detail) (v.live x)) refl e
    where
      by : (t : Bool) → passes (λ o. is_fetched o.detail) (v.live x) ≡ t → (if t then Some (size_of v x) else None) ≡ Some n → n ≤ 2 ^ 28
      by true own e = let same : size_of v x ≡ n = cc in subst (λ n. n ≤ 2 ^ 28) same (image_small x own)
      by false own e = absurd cc

  -- ---- operations

  near_range : (at : Place) (offset n : ℕ) → HasRange (place_size v) at offset n → offset + n < 2 ^ 64
  near_range at offset n has = by (place_size v at) refl has
    where
      by : (o : Option ℕ) → place_size v at ≡ o → IsSomeAnd o (λ size. offset + n ≤ size) → offset + n < 2 ^ 64
      by None e has = absurd has
      by (Some size) e has = let small = place_small at size e in omega (arith, has, small)

  near_rows : (at : Place) (offset step n rows : ℕ) → HasRows (place_size v) at offset step n rows → RowsAreNear offset step n rows
  near_rows at offset step n rows has k below = by (place_size v at) refl has
    where
      by : (o : Option ℕ) → place_size v at ≡ o → IsSomeAnd o (λ size. (k : ℕ) → k < rows → offset + k * step + n ≤ size) → offset + k * step + n < 2 ^ 64
      by None e has = absurd has
      by (Some size) e has = let small = place_small at size e in let fits = has k below in omega (arith, fits, small)

  near_op : (given : List ℕ) (o : Op) → IsWithin (place_size v) given o → AllByRecursion IsNear (accesses_of_op (length given) o)
  near_op given (op.Put at offset bytes) has = (near_range at offset (length bytes) has, tt)
  near_op given (op.PutGiven at offset) has = (near_range at offset (length given) has, tt)
  near_op given (op.Fill at offset n word) has = (near_range at offset n has, tt)
  near_op given (op.Copy to to_offset to_step source source_offset source_step n rows) has =
      ((near_rows to to_offset to_step n rows has.0, near_rows source source_offset source_step n rows has.1), tt)
  near_op given (op.SetLayout image layout) has = tt

  near_ops : (e : Event) → first_broken v (checks_of e) ≡ None → AreNear (length (given_by e)) (ops_of v e)
  near_ops e fine =
      all_along (IsWithin (place_size v) (given_by e)) (λ o. AllByRecursion IsNear (accesses_of_op (length (given_by e)) o)) (near_op (given_by e)) (ops_of v e) (ops_within v h e fine)

-- ---- a tracker

access_prop : (a : Access) → IsProp (IsNear a)
access_prop (Show image size) = hlevel props
access_prop (Write at offset n) = hlevel props
access_prop (Copy c) = hlevel props

lawful : (t : Tracker) → ∥ IsLawful (answers t) [] ∥₁
unfolding answers
lawful t = t.lawful

pub near_said : (t : Tracker) (c : Content) (ops : List Op) → broken_by (answers t) c ≡ None → ops ≡ ops_said (answers t) c → AreSaidNear c ops
near_said t skipped ops fine is = tt
near_said t (effect thread e) ops fine is =
    ∥∥₁_elim (lawful t) (AllByRecursion-prop (λ o. AllByRecursion IsNear (accesses_of_op (length (given_by e)) o)) (λ o. AllByRecursion-prop IsNear access_prop (accesses_of_op (length (given_by e)) o)) ops)
    (λ (h : IsLawful (answers t) []). subst (AreNear (length (given_by e))) (sym is) (near_ops (answers t) h e fine))
