-- Rows that follow one another without a gap, from one place to another, are one row.
use Rattle.std.proofs.Common.{◌≡◌, ℕ, zero, suc, ◌+◌, ◌-◌, ◌*◌, ◌≤◌, nat_le, nat_lt, Bool, true, false, not, ◌&&◌, ◌||◌, [], map, refl, sym, ◌∙◌, ap, arith}
use Rattle.std.specs.List.{range_with_len}
use Rattle.std.proofs.lemmas.Bool.Decides.{nat_tests}
use Rattle.gfx_types.specs.declared.op.Place.{Place}
use Rattle.gfx_types.specs.declared.op.Place.TheVariants as place
use Rattle.gfx_model.specs.Steps.Change.{copy}
use Rattle.gfx_model.specs.Effects.{rows_copied}
use Rattle.gfx_model.specs.Bytes.{same_place}
use Rattle.gfx_feature_model.specs.Asked.{Questions, below}
use Rattle.gfx_asked.specs.declared.access.RowCopy.{RowCopy}
use Rattle.gfx_asked.specs.declared.access.Access.TheVariants.{Copy}
use Rattle.gfx_asked.specs.Accesses.{before, IsGapless}
use Rattle.gfx_asked.specs.Asked.{AreSame}
use Rattle.gfx_asked.proofs.Stand.{before_changes, below-onto}
use Rattle.gfx_asked.proofs.Rows.{row_of, same_place_is}

written_twice : (x : Bool) (a l n j : ℕ) →
    ((((x && not (nat_le (a + l) j && nat_lt j (a + l + n))) || false) && not (nat_le a j && nat_lt j (a + l))) || false) ≡ ((x && not (nat_le a j && nat_lt j (a + (l + n)))) || false)
written_twice x a l n j = grind (arith, nat_tests)

moved_twice : (x y z w one other : Bool) (a b l n j : ℕ) → one ≡ true → other ≡ false → (b + l ≤ j → z ≡ y) →
    ((((x && true) || (nat_le (b + l) j && nat_lt j (b + l + n) && z)) && true)
    || (nat_le b j && nat_lt j (b + l)
    && ((y && not (one && nat_le (a + l) (a + (j - b)) && nat_lt (a + (j - b)) (a + l + n))) || (other && nat_le (b + l) (a + (j - b)) && nat_lt (a + (j - b)) (b + l + n) && w))))
    ≡ ((x && true) || (nat_le b j && nat_lt j (b + (l + n)) && y))
moved_twice x y z w one other a b l n j is is_not same = grind (arith, nat_tests)

not_there : (x : Bool) → ((((x && true) || false) && true) || false) ≡ ((x && true) || false)
not_there true = refl
not_there false = refl

same_place_refl : (a : Place) → same_place a a ≡ true
same_place_refl (place.Memory m) = grind (arith, nat_tests)
same_place_refl (place.Image x) = grind (arith, nat_tests)

-- no place is both of two
not_both : (a b at : Place) → same_place a b ≡ false → same_place a at ≡ true → same_place b at ≡ false
not_both a b at apart is = by (same_place b at) refl
  where
    by : (t : Bool) → same_place b at ≡ t → same_place b at ≡ false
    by true e =
        let one : same_place a b ≡ true = ap (same_place a) (same_place_is b at e) ∙ is in
        absurd (let both : true ≡ false = sym one ∙ apart in cc)
    by false e = e

-- a row before the rows that follow it
row_joins : (to from : Place) (a b l n : ℕ) (asked : Questions) (at : Place) (j : ℕ) → same_place to from ≡ false →
    below (copy to a from b l) (below (copy to (a + l) from (b + l) n) asked) at j ≡ below (copy to a from b (l + n)) asked at j
row_joins to from a b l n asked at j apart = by (same_place to at) (same_place from at) refl refl
  where
    i : ℕ
    i = a + (j - b)

    -- the target is not the source
    other : same_place from to ≡ false
    other = not_both to from to apart (same_place_refl to)

    by : (t u : Bool) → same_place to at ≡ t → same_place from at ≡ u →
        (((asked at j && not (t && nat_le (a + l) j && nat_lt j (a + l + n))) || ((u && nat_le (b + l) j && nat_lt j (b + l + n)) && asked to (a + l + (j - (b + l))))) && not (t && nat_le a j && nat_lt j (a + l)))
        || ((u && nat_le b j && nat_lt j (b + l))
        && ((asked to i && not (same_place to to && nat_le (a + l) i && nat_lt i (a + l + n))) || ((same_place from to && nat_le (b + l) i && nat_lt i (b + l + n)) && asked to (a + l + (i - (b + l))))))
        ≡ ((asked at j && not (t && nat_le a j && nat_lt j (a + (l + n)))) || ((u && nat_le b j && nat_lt j (b + (l + n))) && asked to i))
    by true true e f = absurd (let both : true ≡ false = sym f ∙ not_both to from at apart e in cc)
    by true false e f = written_twice (asked at j) a l n j
    by false true e f =
        moved_twice (asked at j) (asked to i) (asked to (a + l + (j - (b + l)))) (asked to (a + l + (i - (b + l)))) (same_place to to) (same_place from to) a b l n j (same_place_refl to) other
        (λ low. ap (asked to) (let is : a + l + (j - (b + l)) ≡ i = omega (arith, low) in is))
    by false false e f = not_there (asked at j)

nothing_copied : (to from : Place) (a b : ℕ) (asked : Questions) (at : Place) (j : ℕ) → asked at j ≡ below (copy to a from b 0) asked at j
nothing_copied to from a b asked at j = by (same_place to at) (same_place from at)
  where
    by : (t u : Bool) → asked at j ≡ ((asked at j && not (t && nat_le a j && nat_lt j (a + 0))) || ((u && nat_le b j && nat_lt j (b + 0)) && asked to (a + (j - b))))
    by t u = grind (arith, nat_tests)

joined_from : (c : RowCopy) (m k : ℕ) (asked : Questions) (at : Place) (j : ℕ) → same_place c.to c.from ≡ false → c.to_step ≡ c.length → c.from_step ≡ c.length →
    before_changes (map (row_of c) (range_with_len k m)) asked at j ≡ below (copy c.to (c.to_offset + k * c.length) c.from (c.from_offset + k * c.length) (m * c.length)) asked at j
joined_from c zero k asked at j apart to from =
    nothing_copied c.to c.from (c.to_offset + k * c.length) (c.from_offset + k * c.length) asked at j
    ∙ ap (λ n. below (copy c.to (c.to_offset + k * c.length) c.from (c.from_offset + k * c.length) n) asked at j) (let e : 0 ≡ 0 * c.length = omega arith in e)
joined_from c (suc m) k asked at j apart to from =
    let l = c.length in
    let a = c.to_offset + k * l in
    let b = c.from_offset + k * l in
    let first : row_of c k ≡ copy c.to a c.from b l = ap (λ s. copy c.to (c.to_offset + k * s) c.from (c.from_offset + k * c.from_step) l) to ∙ ap (λ s. copy c.to a c.from (c.from_offset + k * s) l) from in
    let rest : before_changes (map (row_of c) (range_with_len (k + 1) m)) asked ≡ below (copy c.to (a + l) c.from (b + l) (m * l)) asked =
    (λ i at j. joined_from c m (k + 1) asked at j apart to from i)
    ∙ ap (λ x. below (copy c.to x c.from (c.from_offset + (k + 1) * l) (m * l)) asked) (let e : c.to_offset + (k + 1) * l ≡ a + l = omega arith in e)
    ∙ ap (λ x. below (copy c.to (a + l) c.from x (m * l)) asked) (let e : c.from_offset + (k + 1) * l ≡ b + l = omega arith in e) in
    ap (λ x. below x (before_changes (map (row_of c) (range_with_len (k + 1) m)) asked) at j) first
    ∙ ap (λ (q : Questions). below (copy c.to a c.from b l) q at j) rest
    ∙ row_joins c.to c.from a b l (m * l) asked at j apart
    ∙ ap (λ n. below (copy c.to a c.from b n) asked at j) (let e : l + m * l ≡ suc m * l = omega arith in e)

-- so one row of all their bytes stands for them
pub joined_passed : (c : RowCopy) (now new : Questions) → IsGapless c → AreSame new (below (copy c.to c.to_offset c.from c.from_offset (c.rows * c.length)) now) → AreSame new (before (Copy c) now)
joined_passed c now new gapless passed at j =
    passed at j
    ∙ ap (λ x. below (copy c.to x c.from c.from_offset (c.rows * c.length)) now at j) (let e : c.to_offset ≡ c.to_offset + 0 * c.length = omega arith in e)
    ∙ ap (λ x. below (copy c.to (c.to_offset + 0 * c.length) c.from x (c.rows * c.length)) now at j) (let e : c.from_offset ≡ c.from_offset + 0 * c.length = omega arith in e)
    ∙ sym (joined_from c c.rows 0 now at j gapless.apart gapless.to gapless.from)
    ∙ sym (ap (λ (q : Questions). q at j) (below-onto (rows_copied c.to c.to_offset c.to_step c.from c.from_offset c.from_step c.length c.rows) [] now))
