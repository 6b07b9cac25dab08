-- What the sets of places say before a row was copied, and before rows.
use Rattle.std.proofs.Common.{◌≡◌, ℕ, suc, ◌+◌, ◌-◌, ◌*◌, nat_le, nat_lt, Bool, true, false, not, ◌&&◌, ◌||◌, if◌then◌else◌, List, ◌∷◌, map, Option, Some, None, unwrap_or, refl, sym, ◌∙◌, ap, arith}
use Rattle.std.specs.List.{range_with_len}
use Rattle.std.proofs.lemmas.Bool.{eqb-true}
use Rattle.gfx_types.specs.declared.op.Place.{Place}
use Rattle.gfx_types.specs.declared.op.Place.TheVariants as place
use Rattle.gfx_model.specs.Steps.{Change}
use Rattle.gfx_model.specs.Steps.Change.{copy}
use Rattle.gfx_model.specs.Bytes.{same_place, covers_byte}
use Rattle.gfx_feature_model.specs.Asked.{Questions, below}
use Rattle.gfx_asked.specs.declared.offsets.Offsets.{Offsets}
use Rattle.gfx_asked.specs.declared.offsets.Stretch.{Stretch}
use Rattle.gfx_asked.specs.declared.access.RowCopy.{RowCopy}
use Rattle.gfx_asked.specs.Bounds.{holds, with_range}
use Rattle.gfx_asked.specs.Offsets.{are_in}
use Rattle.gfx_asked.specs.Asked.{has, IsSet, AreSame}
use Rattle.gfx_asked.proofs.Stand.{before_changes}

-- a row of a copy
abbrev pub row_of : RowCopy → ℕ → Change
row_of c k = copy c.to (c.to_offset + k * c.to_step) c.from (c.from_offset + k * c.from_step) c.length

pub same_place_is : (a b : Place) → same_place a b ≡ true → a ≡ b
same_place_is (place.Memory m) (place.Memory n) e = ap place.Memory (eqb-true m n e)
same_place_is (place.Image x) (place.Image y) e = ap place.Image (eqb-true x y e)
same_place_is (place.Memory m) (place.Image y) e = absurd (cc)
same_place_is (place.Image x) (place.Memory n) e = absurd (cc)

-- the set that is there, or an empty one, has the same
pub has_unwrapped : (o : Option Offsets) (empty source : Offsets) → source ≡ unwrap_or o empty → ((j : ℕ) → holds empty.bounds j ≡ false) → (j : ℕ) → holds source.bounds j ≡ has o j
has_unwrapped None empty source is none j = ap (λ s. holds s.bounds j) is ∙ none j
has_unwrapped (Some s) empty source is none j = ap (λ s. holds s.bounds j) is

-- what is written is no longer asked for
pub taken_out : (old mid new : Place → Option Offsets) (to : Place) (target cut : Offsets) (offset n : ℕ) → Some target ≡ old to → IsSet old mid to None
    → ((j : ℕ) → holds cut.bounds j ≡ with_range (holds target.bounds) offset (offset + n) false j) → IsSet mid new to (Some cut)
    → (at : Place) (j : ℕ) → has (new at) j ≡ (has (old at) j && not (covers_byte to offset n at j))
taken_out old mid new to target cut offset n is first cuts second at j = by (same_place to at) refl
  where
    by : (t : Bool) → same_place to at ≡ t → has (new at) j ≡ (has (old at) j && not (t && nat_le offset j && nat_lt j (offset + n)))
    by true e =
        let here : old at ≡ Some target = sym (is ∙ ap old (same_place_is to at e)) in
        let now : new at ≡ Some cut = second at ∙ ap (λ t. if t then Some cut else mid at) e in
        ap (λ o. has o j) now ∙ cuts j ∙ sym (ap (λ o. has o j && not (nat_le offset j && nat_lt j (offset + n))) here ∙ tests (holds target.bounds j) (nat_le offset j) (nat_lt j (offset + n)))
      where
        tests : (a b c : Bool) → (a && not (b && c)) ≡ (if b && c then false else a)
        tests true true true = refl
        tests true true false = refl
        tests true false c = refl
        tests false true true = refl
        tests false true false = refl
        tests false false c = refl
    by false e =
        let now : new at ≡ old at = second at ∙ ap (λ t. if t then Some cut else mid at) e ∙ first at ∙ ap (λ t. if t then None else old at) e in
        ap (λ o. has o j) now ∙ sym (tests (has (old at) j))
      where
        tests : (a : Bool) → (a && true) ≡ a
        tests true = refl
        tests false = refl

-- and what it was copied from is
pub put_in : (old mid new : Place → Option Offsets) (from : Place) (o : Option Offsets) (put : Offsets) (more : ℕ → Bool) → o ≡ old from → IsSet old mid from None
    → ((j : ℕ) → holds put.bounds j ≡ (has o j || more j)) → IsSet mid new from (Some put)
    → (at : Place) (j : ℕ) → has (new at) j ≡ (has (old at) j || (same_place from at && more j))
put_in old mid new from o put more is first puts second at j = by (same_place from at) refl
  where
    or_none : (a : Bool) → (a || false) ≡ a
    or_none true = refl
    or_none false = refl

    by : (t : Bool) → same_place from at ≡ t → has (new at) j ≡ (has (old at) j || (t && more j))
    by true e =
        let here : o ≡ old at = is ∙ ap old (same_place_is from at e) in
        let now : new at ≡ Some put = second at ∙ ap (λ t. if t then Some put else mid at) e in
        ap (λ o. has o j) now ∙ puts j ∙ ap (λ o. has o j || more j) here
    by false e =
        let now : new at ≡ old at = second at ∙ ap (λ t. if t then Some put else mid at) e ∙ first at ∙ ap (λ t. if t then None else old at) e in
        ap (λ o. has o j) now ∙ sym (or_none (has (old at) j))

and_parted : (s a b h : Bool) → (s && (a && b && h)) ≡ (s && a && b && h)
and_parted true a b h = refl
and_parted false a b h = refl

-- what is asked for before a row was copied
pub row_passed : (old cut new : Place → Option Offsets) (to : Place) (to_offset : ℕ) (from : Place) (from_offset n : ℕ) (target : Offsets) (stretches : List Stretch) → Some target ≡ old to
    → ((j : ℕ) → are_in stretches j ≡ (nat_le from_offset j && nat_lt j (from_offset + n) && holds target.bounds (to_offset + (j - from_offset))))
    → ((at : Place) (j : ℕ) → has (cut at) j ≡ (has (old at) j && not (covers_byte to to_offset n at j)))
    → ((at : Place) (j : ℕ) → has (new at) j ≡ (has (cut at) j || (same_place from at && are_in stretches j)))
    → AreSame (λ at j. has (new at) j) (below (copy to to_offset from from_offset n) (λ at j. has (old at) j))
row_passed old cut new to to_offset from from_offset n target stretches is are first second at j =
    second at j ∙ ap (λ t. t || (same_place from at && are_in stretches j)) (first at j)
    ∙ ap (λ t. (has (old at) j && not (covers_byte to to_offset n at j)) || t)
    (ap (λ t. same_place from at && t) (are j)
    ∙ and_parted (same_place from at) (nat_le from_offset j) (nat_lt j (from_offset + n)) (holds target.bounds (to_offset + (j - from_offset)))
    ∙ ap (λ o. covers_byte from from_offset n at j && has o (to_offset + (j - from_offset))) is)

-- a range of rows that begins one row earlier
pub row_more : (c : RowCopy) (row k m n : ℕ) → row ≡ k + 1 → n ≡ m + 1 → (row_of c k ∷ map (row_of c) (range_with_len row m)) ≡ map (row_of c) (range_with_len k n)
row_more c row k m n next more =
    ap (λ r. row_of c k ∷ map (row_of c) (range_with_len r m)) next ∙ ap (λ n. map (row_of c) (range_with_len k n)) (let e : suc m ≡ n = omega (arith, more) in e)

-- and the questions before them
pub row_before : (c : RowCopy) (row k m n : ℕ) (start now new : Questions) → row ≡ k + 1 → n ≡ m + 1 → AreSame now (before_changes (map (row_of c) (range_with_len row m)) start)
    → AreSame new (below (row_of c k) now) → AreSame new (before_changes (map (row_of c) (range_with_len k n)) start)
row_before c row k m n start now new next more same passed at j =
    passed at j ∙ ap (λ (q : Questions). below (row_of c k) q at j) (λ i at j. same at j i)
    ∙ ap (λ cs. before_changes cs start at j) (row_more c row k m n next more)
