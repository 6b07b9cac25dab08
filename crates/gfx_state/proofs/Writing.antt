-- What is written one after the other.
use Rattle.std.proofs.Common.{◌≡◌, ℕ, zero, suc, Bool, true, false, cond, ◌<◌, get_or, map, drop-cons, ◌+◌, ◌≤◌, List, [], ◌∷◌, ◌++◌, length, flat_map, Result, Ok, Err, refl, ap, sym, subst, ◌∙◌, append_assoc, drop, arith}
use Rattle.std.proofs.lemmas.List.{append-nil}
use Rattle.std.proofs.lemmas.Result.{err_from_is_err_and}
use Rattle.std.specs.Prelude.{Some, None, IsErrAnd, filter}
use Rattle.std.specs.declared.option.Option.{Option}
use Rattle.std.specs.Io.KnownBytes.{Appends}
use Rattle.std.proofs.KnownBytes.{Appends-trans}
use Rattle.gfx_io.specs.Causes.{Rose}
use Rattle.gfx_io.specs.Pieces.{AppendsPart}
use Rattle.gfx_io.proofs.Appending.{part_of, part_then, nothing_written}
use Rattle.gfx_model.specs.Events.{Event}
use Rattle.gfx_model.specs.Spelling.{encoding}
use Rattle.gfx_state.specs.declared.fault.StateFault.{StateFault}
use Rattle.gfx_state.specs.declared.fault.StateFault.TheVariants.{SinkFault, WantMemory}
use Rattle.gfx_state.specs.Written.{blocks_of, Wrote}

drop_over : {X : Type 0} (xs : List X) (i : ℕ) → length xs ≤ i → drop i xs ≡ []
drop_over [] zero over = refl
drop_over [] (suc i) over = refl
drop_over (x ∷ xs) zero over = absurd (omega (arith, over))
drop_over (x ∷ xs) (suc i) over = drop_over xs i (omega (arith, over))

-- ---- blocks

flat_append : (xs ys : List Event) → flat_map (encoding 1 0) (xs ++ ys) ≡ flat_map (encoding 1 0) xs ++ flat_map (encoding 1 0) ys
flat_append [] ys = refl
flat_append (x ∷ xs) ys = ap (λ l. encoding 1 0 x ++ l) (flat_append xs ys) ∙ sym (append_assoc (encoding 1 0 x) (flat_map (encoding 1 0) xs) (flat_map (encoding 1 0) ys))

pub blocks_append : (xs ys : List Event) → blocks_of (xs ++ ys) ≡ blocks_of xs ++ blocks_of ys
unfolding blocks_of
blocks_append xs ys = flat_append xs ys

pub block_of_one : (e : Event) → blocks_of (e ∷ []) ≡ encoding 1 0 e
unfolding blocks_of
block_of_one e = append-nil (encoding 1 0 e)

-- ---- calls

pub wrote_nothing : (o : Option (List ℕ)) (b : ℕ) → Wrote o o b b [] (Ok tt)
unfolding blocks_of
wrote_nothing None b = record { whole = tt; front = tt; later = omega arith; cause = λ e. absurd (cc) }
wrote_nothing (Some xs) b = record { whole = sym (append-nil xs); front = tt; later = omega arith; cause = λ e. absurd (cc) }

-- the same events, told in another way
pub wrote_as : {o n : Option (List ℕ)} {a b : ℕ} {es fs : List Event} {r : Result (Unit {0}) StateFault} → es ≡ fs → Wrote o n a b es r → Wrote o n a b fs r
wrote_as {o = o} {n = n} {a = a} {b = b} {r = r} is w = subst (λ es. Wrote o n a b es r) is w

-- there was nothing to write
pub wrote_none : {o : Option (List ℕ)} {b : ℕ} {es : List Event} → es ≡ [] → Wrote o o b b es (Ok tt)
wrote_none {o = o} {b = b} is = subst (λ es. Wrote o o b b es (Ok tt)) (sym is) (wrote_nothing o b)

-- both were written, the second as far as the call went
pub wrote_both : {o m n : Option (List ℕ)} {a b c : ℕ} {xs ys : List Event} (r : Result (Unit {0}) StateFault)
    → Wrote o m a b xs (Ok tt) → Wrote m n b c ys r → Wrote o n a c (xs ++ ys) r
wrote_both {o = o} {m = m} {n = n} {a = a} {b = b} {c = c} {xs = xs} {ys = ys} (Ok t) v w = record {
  whole = subst (Appends o n) (sym (blocks_append xs ys)) (Appends-trans o m n (blocks_of xs) (blocks_of ys) v.whole w.whole);
  front = tt;
  later = let p = v.later in let q = w.later in omega (arith, p, q);
  cause = λ e. absurd (cc);
}
wrote_both {o = o} {m = m} {n = n} {a = a} {b = b} {c = c} {xs = xs} {ys = ys} (Err f) v w = record {
  whole = tt;
  front = subst (AppendsPart o n) (sym (blocks_append xs ys)) (part_then o m n (blocks_of xs) (blocks_of ys) v.whole w.front);
  later = let p = v.later in let q = w.later in omega (arith, p, q);
  cause = λ e. let p = v.later in let q = w.cause e in omega (arith, p, q);
}

-- where the first failed the second is left
pub wrote_part : {o n : Option (List ℕ)} {a b : ℕ} {xs : List Event} (ys : List Event) {e : StateFault}
    → Wrote o n a b xs (Err e) → Wrote o n a b (xs ++ ys) (Err e)
wrote_part {o = o} {n = n} {xs = xs} ys w = record {
  whole = tt;
  front = subst (AppendsPart o n) (sym (blocks_append xs ys)) (part_of o n (blocks_of xs) (blocks_of ys) w.front);
  later = w.later;
  cause = w.cause;
}

-- the same at the exit of a `?`
pub wrote_out : {o n : Option (List ℕ)} {a b : ℕ} {xs : List Event} (ys : List Event) {e : StateFault} (r : Result (Unit {0}) StateFault)
    → Wrote o n a b xs (Err e) → IsErrAnd r (λ f. f ≡ e) → Wrote o n a b (xs ++ ys) r
wrote_out {o = o} {n = n} {a = a} {b = b} {xs = xs} ys r w out =
    let p = err_from_is_err_and r out in
    subst (Wrote o n a b (xs ++ ys)) (sym (p.1 ∙ ap (λ f. Err f) p.2)) (wrote_part ys w)

-- nothing was written when out of memory
pub wrote_less : {o : Option (List ℕ)} {b : ℕ} (es : List Event) (r : Result (Unit {0}) StateFault) → IsErrAnd r (λ f. f ≡ WantMemory) → Wrote o o b b es r
wrote_less {o = o} {b = b} es r out =
    let p = err_from_is_err_and r out in
    let w : Wrote o o b b es (Err WantMemory) = record {
      whole = tt;
      front = nothing_written o (blocks_of es);
      later = omega arith;
      cause = λ e. absurd (cc);
    } in
    subst (Wrote o o b b es) (sym (p.1 ∙ ap (λ f. Err f) p.2)) w

-- ---- one block

pub block_whole : (o n : Option (List ℕ)) (a b : ℕ) (e : Event) (piece : List ℕ) → piece ≡ encoding 1 0 e → Appends o n piece → a ≤ b → Wrote o n a b (e ∷ []) (Ok tt)
block_whole o n a b e piece is took later = record {
  whole = subst (Appends o n) (is ∙ sym (block_of_one e)) took;
  front = tt;
  later = later;
  cause = λ f. absurd (cc);
}

pub block_part : (o n : Option (List ℕ)) (a b : ℕ) (e : Event) (piece : List ℕ) (r : Result (Unit {0}) StateFault) → piece ≡ encoding 1 0 e → AppendsPart o n piece
    → a ≤ b → Rose a b → IsErrAnd r (λ f. f ≡ SinkFault) → Wrote o n a b (e ∷ []) r
block_part o n a b e piece r is took later rose out =
    let p = err_from_is_err_and r out in
    let w : Wrote o n a b (e ∷ []) (Err SinkFault) = record {
      whole = tt;
      front = subst (AppendsPart o n) (is ∙ sym (block_of_one e)) took;
      later = later;
      cause = λ f. rose;
    } in
    subst (Wrote o n a b (e ∷ [])) (sym (p.1 ∙ ap (λ f. Err f) p.2)) w

-- ---- loops

-- what is said of the item at an index, and then of those behind it
pub map_next : {X : Type 0} (f : X → Event) (xs : List X) (i : ℕ) (d : X) → i < length xs → map f (drop i xs) ≡ (f (get_or xs i d) ∷ []) ++ map f (drop (i + 1) xs)
map_next f xs i d below =
    let one : suc i ≡ i + 1 = omega arith in
    ap (map f) (drop-cons xs i d below ∙ ap (λ n. get_or xs i d ∷ drop n xs) one)

pub flat_next : {X : Type 0} (f : X → List Event) (xs : List X) (i : ℕ) (d : X) → i < length xs → flat_map f (drop i xs) ≡ f (get_or xs i d) ++ flat_map f (drop (i + 1) xs)
flat_next f xs i d below =
    let one : suc i ≡ i + 1 = omega arith in
    ap (flat_map f) (drop-cons xs i d below ∙ ap (λ n. get_or xs i d ∷ drop n xs) one)

-- the first of the rest that are of a test, or the rest without it
pub picked_next : {X : Type 0} (f : X → List Event) (p : X → Bool) (xs : List X) (i : ℕ) (d : X) → i < length xs → p (get_or xs i d) ≡ true
    → flat_map f (filter p (drop i xs)) ≡ f (get_or xs i d) ++ flat_map f (filter p (drop (i + 1) xs))
picked_next f p xs i d below is =
    let one : suc i ≡ i + 1 = omega arith in
    ap (λ l. flat_map f (filter p l)) (drop-cons xs i d below ∙ ap (λ n. get_or xs i d ∷ drop n xs) one)
    ∙ ap (λ t. flat_map f (cond t (get_or xs i d ∷ filter p (drop (i + 1) xs)) (filter p (drop (i + 1) xs)))) is

pub passed_next : {X : Type 0} (f : X → List Event) (p : X → Bool) (xs : List X) (i : ℕ) (d : X) → i < length xs → p (get_or xs i d) ≡ false
    → flat_map f (filter p (drop i xs)) ≡ flat_map f (filter p (drop (i + 1) xs))
passed_next f p xs i d below is =
    let one : suc i ≡ i + 1 = omega arith in
    ap (λ l. flat_map f (filter p l)) (drop-cons xs i d below ∙ ap (λ n. get_or xs i d ∷ drop n xs) one)
    ∙ ap (λ t. flat_map f (cond t (get_or xs i d ∷ filter p (drop (i + 1) xs)) (filter p (drop (i + 1) xs)))) is

pub picked_over : {X : Type 0} (f : X → List Event) (p : X → Bool) (xs : List X) (i : ℕ) → length xs ≤ i → flat_map f (filter p (drop i xs)) ≡ []
picked_over f p xs i over = ap (λ l. flat_map f (filter p l)) (drop_over xs i over)

pub map_over : {X : Type 0} (f : X → Event) (xs : List X) (i : ℕ) → length xs ≤ i → map f (drop i xs) ≡ []
map_over f xs i over = ap (map f) (drop_over xs i over)

pub flat_over : {X : Type 0} (f : X → List Event) (xs : List X) (i : ℕ) → length xs ≤ i → flat_map f (drop i xs) ≡ []
flat_over f xs i over = ap (flat_map f) (drop_over xs i over)

-- what writes the rest from here on has then written all from the start on
abbrev pub Leads : (start here : Option (List ℕ)) (before now : ℕ) (all rest : List Event) → Type 0
Leads start here before now all rest = (n : Option (List ℕ)) (d : ℕ) (r : Result (Unit {0}) StateFault) → Wrote here n now d rest r → Wrote start n before d all r

pub leads_start : (s : Option (List ℕ)) (a : ℕ) (all rest : List Event) → rest ≡ all → Leads s s a a all rest
leads_start s a all rest is = λ n d r w. subst (λ es. Wrote s n a d es r) is w

pub leads_on : {s o n : Option (List ℕ)} {a b c : ℕ} {all rest xs : List Event} (ys : List Event) → Leads s o a b all rest → rest ≡ xs ++ ys
    → Wrote o n b c xs (Ok tt) → Leads s n a c all ys
leads_on {s = s} {o = o} {b = b} ys lead is w n d r v = lead n d r (subst (λ es. Wrote o n b d es r) (sym is) (wrote_both r w v))

pub leads_out : {s o n : Option (List ℕ)} {a b c : ℕ} {all rest xs : List Event} (ys : List Event) {e : StateFault} (r : Result (Unit {0}) StateFault)
    → Leads s o a b all rest → rest ≡ xs ++ ys → Wrote o n b c xs (Err e) → IsErrAnd r (λ f. f ≡ e) → Wrote s n a c all r
leads_out {o = o} {n = n} {b = b} {c = c} ys r lead is w out = lead n c r (subst (λ es. Wrote o n b c es r) (sym is) (wrote_out ys r w out))

-- what writes the rest writes it also where it is told in another way
pub leads_as : {s o : Option (List ℕ)} {a b : ℕ} {all rest : List Event} (ys : List Event) → Leads s o a b all rest → rest ≡ ys → Leads s o a b all ys
leads_as {o = o} {b = b} ys lead is n d r v = lead n d r (subst (λ es. Wrote o n b d es r) (sym is) v)

pub leads_end : {s o : Option (List ℕ)} {a b : ℕ} {all rest : List Event} → Leads s o a b all rest → rest ≡ [] → Wrote s o a b all (Ok tt)
leads_end {o = o} {b = b} lead is = lead o b (Ok tt) (subst (λ es. Wrote o o b b es (Ok tt)) (sym is) (wrote_nothing o b))
