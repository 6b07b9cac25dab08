-- Reading items one after the other, as a loop does.
use Rattle.std.proofs.Common.{◌≡◌, ℕ, suc, ◌+◌, ◌-◌, ◌<◌, ◌≤◌, ◌^◌, nat_eq, Bool, true, false, cond, List, [], ◌∷◌, ◌++◌, length, map, Option, Some, None, refl, sym, ap, ◌∙◌, append_assoc, arith}
use Rattle.std.proofs.lemmas.List.{map-append, append-nil}
use Rattle.std.proofs.lemmas.Bool.{cond-true, lt-ltb}
use Rattle.gfx_grammar.specs.Reading.{◌>>=◌, Reader}
use Rattle.gfx_text_grammar.specs.Reading.{behind, read_more, read_items, read_list, read_list_end, if_few}

-- what was read before, and what is still read
abbrev pub with_front : {X : Type 0} → List X → Option (List X × List ℕ) → Option (List X × List ℕ)
with_front front read = read >>= λ x. Some (front ++ x.0, x.1)

-- the items that were read, and those that are still read, are the list
abbrev pub Continues : {X : Type 0} → Reader X → List X → ℕ → List ℕ → Option (List X × List ℕ) → Type 0
Continues r front turns text total = with_front front (read_items r turns text) ≡ total

regroup : {X : Type 0} (front : List X) (x : X) (read : Option (List X × List ℕ)) → with_front front (read >>= λ y. Some (x ∷ y.0, y.1)) ≡ with_front (front ++ x ∷ []) read
regroup {X} front x (Some y) = ap (λ (xs : List X). Some (xs, y.1)) (simp append_assoc)
regroup front x None = refl

-- ---- behind an item

more_closed : {X : Type 0} (more : Reader (List X)) (text rest : List ℕ) → behind 93 text ≡ Some rest → read_more more text ≡ Some ([], rest)
more_closed more [] rest is = absurd cc
more_closed {X} more (c ∷ text) rest is = by (nat_eq c 93) is
  where
    by : (b : Bool) → cond b (Some text) None ≡ Some rest → cond b (Some ([], text)) (cond (nat_eq c 44) (more text) None) ≡ Some ([], rest)
    by true e = ap (λ (o : Option (List ℕ)). o >>= λ t. Some ([], t)) e
    by false e = absurd cc

more_goes_on : {X : Type 0} (more : Reader (List X)) (text rest : List ℕ) → behind 93 text ≡ None → behind 44 text ≡ Some rest → read_more more text ≡ more rest
more_goes_on more [] rest still is = absurd cc
more_goes_on {X} more (c ∷ text) rest still is = by (nat_eq c 93) (nat_eq c 44) still is
  where
    by : (b d : Bool) → cond b (Some text) None ≡ None → cond d (Some text) None ≡ Some rest → cond b (Some ([], text)) (cond d (more text) None) ≡ more rest
    by true d e f = absurd cc
    by false true e f = ap more (let same : text ≡ rest = cc in same)
    by false false e f = absurd cc

more_none : {X : Type 0} (more : Reader (List X)) (text : List ℕ) → behind 93 text ≡ None → behind 44 text ≡ None → read_more more text ≡ None
more_none more [] still none = refl
more_none {X} more (c ∷ text) still none = by (nat_eq c 93) (nat_eq c 44) still none
  where
    by : (b d : Bool) → cond b (Some text) None ≡ None → cond d (Some text) None ≡ None → cond b (Some ([], text)) (cond d (more text) None) ≡ None
    by true d e f = absurd cc
    by false true e f = absurd cc
    by false false e f = refl

-- ---- a turn of the loop

module _ {X : Type 0} (r : Reader X) (front : List X) (count i : ℕ) (text : List ℕ) (total : Option (List X × List ℕ)) (turn : i < count) (so_far : Continues r front (count - i) text total) where
  left : count - i ≡ suc (count - (i + 1))
  left = omega (arith, turn)

  -- what an item and what follows it give
  after_item : (x : X) (after : List ℕ) → r text ≡ Some (x, after)
      → with_front (front ++ x ∷ []) (read_more (read_items r (count - (i + 1))) after) ≡ total
  unfolding read_items
  after_item x after is =
      sym (
      ap (λ n. with_front front (read_items r n text)) left
      ∙ ap (λ (o : Option (X × List ℕ)). with_front front (o >>= λ x. read_more (read_items r (count - (i + 1))) x.1 >>= λ xs. Some (x.0 ∷ xs.0, xs.1))) is
      ∙ regroup front x (read_more (read_items r (count - (i + 1))) after)
      ) ∙ so_far

  -- where no item stands, there is no list
  pub list_breaks : r text ≡ None → total ≡ None
  unfolding read_items
  list_breaks none =
      sym so_far
      ∙ ap (λ n. with_front front (read_items r n text)) left
      ∙ ap (λ (o : Option (X × List ℕ)). with_front front (o >>= λ x. read_more (read_items r (count - (i + 1))) x.1 >>= λ xs. Some (x.0 ∷ xs.0, xs.1))) none

  -- behind the last item
  pub list_closes : (x : X) (after rest : List ℕ) → r text ≡ Some (x, after) → behind 93 after ≡ Some rest → total ≡ Some (front ++ x ∷ [], rest)
  list_closes x after rest is closed =
      sym (after_item x after is)
      ∙ ap (with_front (front ++ x ∷ [])) (more_closed (read_items r (count - (i + 1))) after rest closed)
      ∙ ap (λ (xs : List X). Some (xs, rest)) (append-nil (front ++ x ∷ []))

  -- behind an item that another follows
  pub list_goes_on : (x : X) (after rest : List ℕ) → r text ≡ Some (x, after) → behind 93 after ≡ None → behind 44 after ≡ Some rest
      → Continues r (front ++ x ∷ []) (count - (i + 1)) rest total
  list_goes_on x after rest is still more =
      sym (ap (with_front (front ++ x ∷ [])) (more_goes_on (read_items r (count - (i + 1))) after rest still more)) ∙ after_item x after is

  -- behind an item that nothing may follow
  pub list_stops : (x : X) (after : List ℕ) → r text ≡ Some (x, after) → behind 93 after ≡ None → behind 44 after ≡ None → total ≡ None
  list_stops x after is still none =
      sym (after_item x after is) ∙ ap (with_front (front ++ x ∷ [])) (more_none (read_items r (count - (i + 1))) after still none)

-- there are no more items than bytes
pub list_spent : {X : Type 0} (r : Reader X) (front : List X) (count i : ℕ) (text : List ℕ) (total : Option (List X × List ℕ)) → count ≤ i
    → Continues r front (count - i) text total → total ≡ None
unfolding read_items
list_spent {X} r front count i text total all so_far =
    let none : count - i ≡ 0 = omega arith in
    sym so_far ∙ ap (λ n. with_front front (read_items r n text)) none

-- ---- a list

-- where it isn't empty, it has items
pub list_items : {X : Type 0} (r : Reader X) (text inside : List ℕ) → behind 91 text ≡ Some inside → behind 93 inside ≡ None
    → read_list r text ≡ (read_items r (length inside) inside >>= if_few)
unfolding read_list read_items
list_items {X} r text inside is still =
    ap (λ (o : Option (List ℕ)). o >>= λ t. read_list_end r t >>= if_few) is ∙ by inside still
  where
    by : (t : List ℕ) → behind 93 t ≡ None → (read_list_end r t >>= if_few) ≡ (read_items r (length t) t >>= if_few)
    by [] e = refl
    by (c ∷ t) e = cut (nat_eq c 93) e
      where
        cut : (b : Bool) → cond b (Some t) None ≡ None → (cond b (Some ([], t)) (read_items r (suc (length t)) (c ∷ t)) >>= if_few) ≡ (read_items r (suc (length t)) (c ∷ t) >>= if_few)
        cut true f = absurd cc
        cut false f = refl

pub few_items : {X : Type 0} (xs : List X) (rest : List ℕ) (read : Option (List X × List ℕ)) → read ≡ Some (xs, rest) → length xs < 2 ^ 32 → (read >>= if_few) ≡ Some (xs, rest)
few_items {X} xs rest read is few = ap (λ (o : Option (List X × List ℕ)). o >>= if_few) is ∙ cond-true _ _ None (lt-ltb _ _ few)

-- the values as they are seen, with one more
pub map-one_more : {X Y : Type 0} (f : X → Y) (xs : List X) (x : X) → map f (xs ++ x ∷ []) ≡ map f xs ++ f x ∷ []
map-one_more f xs x = map-append f xs (x ∷ [])

-- values that are seen as they are
pub map_same : {X : Type 0} (xs : List X) → map (λ x. x) xs ≡ xs
map_same [] = refl
map_same (x ∷ xs) = ap (λ ys. x ∷ ys) (map_same xs)
