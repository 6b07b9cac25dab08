-- Nothing is read where the table has no row.
use Rattle.std.proofs.Common.{◌≡◌, ℕ, Bool, true, false, cond, ◌&&◌, nat_eq, nat_le, List, [], ◌∷◌, None, refl, subst, ◌∙◌, arith}
use Rattle.std.proofs.lemmas.Bool.Decides.{nat_tests}
use Rattle.std.proofs.lemmas.Bool.{cond-false, eqb-true}
use Rattle.gfx_model.specs.Spelling.{call_count, metadata_count}
use Rattle.gfx_grammar.specs.Rows.{Rows, by_row, calls, metas, markers, read_event}
use Rattle.gfx_grammar.specs.Laws.{has_row, OthersAreNotRead}

-- the rows have numbers from `low` to `high`
abbrev are_within : ℕ → ℕ → Rows → Bool
are_within low high [] = true
are_within low high (row ∷ rows) = nat_le low row.0 && nat_le row.0 high && are_within low high rows

and_parts : (a b c : Bool) → (a && b && c) ≡ true → (a ≡ true) × (b ≡ true) × (c ≡ true)
and_parts true true true is = (refl, refl, refl)
and_parts true true false is = absurd cc
and_parts true false c is = absurd cc
and_parts false b c is = absurd cc

outside : (low high k n : ℕ) → (nat_le low n && nat_le n high) ≡ false → nat_le low k ≡ true → nat_le k high ≡ true → nat_eq k n ≡ false
outside low high k n out from to = grind (arith, nat_tests)

by_other : (low high n : ℕ) (rows : Rows) → are_within low high rows ≡ true → (nat_le low n && nat_le n high) ≡ false → (bytes : List ℕ) → by_row rows n bytes ≡ None
unfolding by_row
by_other low high n [] all out bytes = refl
by_other low high n (row ∷ rows) all out bytes =
    let parts = and_parts (nat_le low row.0) (nat_le row.0 high) (are_within low high rows) all in
    cond-false (nat_eq row.0 n) _ _ (outside low high row.0 n out parts.0 parts.1) ∙ by_other low high n rows parts.2 out bytes

not_four : (n : ℕ) → has_row 4 n ≡ false → (nat_le 1 n && nat_le n call_count) ≡ false
not_four n out = grind (arith, nat_tests)

not_three : (n : ℕ) → has_row 3 n ≡ false → (nat_le 2 n && nat_le n metadata_count) ≡ false
not_three n out = grind (arith, nat_tests)

not_two : (n : ℕ) → has_row 2 n ≡ false → (nat_le 1 n && nat_le n 2) ≡ false
not_two n out = grind (arith, nat_tests)

by_kind : (m kind n : ℕ) → has_row kind n ≡ false → (bytes : List ℕ) → (b4 b3 b2 : Bool) → nat_eq kind 4 ≡ b4 → nat_eq kind 3 ≡ b3 → nat_eq kind 2 ≡ b2
    → by_row (cond b4 (calls m) (cond b3 metas (cond b2 markers []))) n bytes ≡ None
unfolding by_row
by_kind m kind n out bytes true b3 b2 is4 is3 is2 =
    by_other 1 call_count n (calls m) refl (not_four n (subst (λ k. has_row k n ≡ false) (eqb-true kind 4 is4) out)) bytes
by_kind m kind n out bytes false true b2 is4 is3 is2 =
    by_other 2 metadata_count n metas refl (not_three n (subst (λ k. has_row k n ≡ false) (eqb-true kind 3 is3) out)) bytes
by_kind m kind n out bytes false false true is4 is3 is2 =
    by_other 1 2 n markers refl (not_two n (subst (λ k. has_row k n ≡ false) (eqb-true kind 2 is2) out)) bytes
by_kind m kind n out bytes false false false is4 is3 is2 = refl

pub others_are_not_read : OthersAreNotRead
unfolding read_event
others_are_not_read m kind n bytes out = by_kind m kind n out bytes (nat_eq kind 4) (nat_eq kind 3) (nat_eq kind 2) refl refl refl
