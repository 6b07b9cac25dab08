-- Blocks that are put one after another.
use Rattle.std.proofs.Common.{◌≡◌, ℕ, zero, suc, ◌+◌, ◌<◌, ◌≤◌, [], ◌∷◌, ◌++◌, List, length, map, drop, get_or, refl, ap, sym, subst, ◌∙◌, append_assoc, append-nil, arith, Result, Ok, Err}
use Rattle.std.specs.Prelude.{OnOk, flat_map}
use Rattle.std.proofs.lemmas.Grind.{flat_map-append}
use Rattle.gfx_types.specs.declared.WantMemory.{WantMemory}
use Rattle.std.specs.List.{AllByRecursion, range_with_len}
use Rattle.std.proofs.lemmas.List.{drop_more}
use Rattle.gfx_types.specs.declared.effect.Effect.{Effect}
use Rattle.gfx_model.specs.Events.{Event, event_of}
use Rattle.gfx_model.specs.Spelling.{encoding}
use Rattle.gfx_grammar.specs.Framing.{CanBeWritten}
use Rattle.gfx_make.specs.Made.{blocks, frame_events}

drop_item : {X : Type 0} (xs : List X) (i : ℕ) (x : X) → i < length xs → x ≡ get_or xs i x → drop i xs ≡ x ∷ drop (i + 1) xs
drop_item xs i x below is = drop_more xs i x below ∙ ap (λ y. y ∷ drop (i + 1) xs) (sym is)

drop_over : {X : Type 0} (xs : List X) (i : ℕ) → length xs ≤ i → drop i xs ≡ []
drop_over [] zero over = refl
drop_over [] (suc i) over = refl
drop_over (x ∷ xs) zero over = absurd (omega (arith, over))
drop_over (x ∷ xs) (suc i) over = drop_over xs i (omega (arith, over))

-- the blocks of the effects from place i on are left to put behind these bytes
abbrev pub LeftToPut : (effects : List Effect) (i : ℕ) (bytes whole : List ℕ) → Type 0
LeftToPut effects i bytes whole =
    AllByRecursion (CanBeWritten 1 0) (map event_of (drop i effects)) × (bytes ++ blocks (map event_of (drop i effects)) ≡ whole)

pub put_next : (effects : List Effect) (i : ℕ) (x : Effect) (bytes more whole : List ℕ) → i < length effects → x ≡ get_or effects i x →
    more ≡ bytes ++ encoding 1 0 (event_of x) → LeftToPut effects i bytes whole → LeftToPut effects (i + 1) more whole
unfolding blocks
put_next effects i x bytes more whole below is put left =
    let here = drop_item effects i x below is in
    let now : LeftToPut effects i bytes whole = left in
    let fit = subst (λ xs. AllByRecursion (CanBeWritten 1 0) (map event_of xs)) here now.0 in
    let rest = map event_of (drop (i + 1) effects) in (
      fit.1,
      ap (λ bs. bs ++ blocks rest) put ∙ append_assoc bytes (encoding 1 0 (event_of x)) (blocks rest)
          ∙ sym (ap (λ xs. bytes ++ blocks (map event_of xs)) here) ∙ now.1,
    )

pub put_all : (effects : List Effect) (i : ℕ) (bytes whole : List ℕ) → length effects ≤ i → LeftToPut effects i bytes whole → bytes ≡ whole
unfolding blocks
put_all effects i bytes whole over left =
    sym (append-nil bytes) ∙ sym (ap (λ xs. bytes ++ blocks (map event_of xs)) (drop_over effects i over)) ∙ left.1

-- ---- lists of events

pub blocks_append : (xs ys : List Event) → blocks (xs ++ ys) ≡ blocks xs ++ blocks ys
unfolding blocks
blocks_append xs ys = flat_map-append (encoding 1 0) xs ys

-- what is put behind what was put
pub put_both : (xs ys : List Event) (a b c : List ℕ) → b ≡ a ++ blocks xs → c ≡ b ++ blocks ys → c ≡ a ++ blocks (xs ++ ys)
put_both xs ys a b c first second =
    second ∙ ap (λ l. l ++ blocks ys) first ∙ append_assoc a (blocks xs) (blocks ys) ∙ ap (λ l. a ++ l) (sym (blocks_append xs ys))

-- the same of a call that may have failed
pub then_put : (xs ys : List Event) (a b c : List ℕ) (r : Result (Unit {0}) WantMemory) → b ≡ a ++ blocks xs → OnOk r (c ≡ b ++ blocks ys) → OnOk r (c ≡ a ++ blocks (xs ++ ys))
then_put xs ys a b c (Ok done) first second = put_both xs ys a b c first second
then_put xs ys a b c (Err want) first second = tt

-- nothing was put
pub put_none : (a : List ℕ) → a ≡ a ++ blocks []
unfolding blocks
put_none a = sym (append-nil a)

-- one more frame
frames_more : (a n k : ℕ) → a + n ≡ k → flat_map frame_events (range_with_len a (n + 1)) ≡ flat_map frame_events (range_with_len a n) ++ frame_events k
frames_more a zero k is =
    let same : a ≡ k = omega (arith, is) in append-nil (frame_events a) ∙ ap frame_events same
frames_more a (suc n) k is =
    let next : suc n + 1 ≡ suc (n + 1) = omega arith in
    ap (λ m. flat_map frame_events (range_with_len a m)) next ∙ ap (λ es. frame_events a ++ es) (frames_more (a + 1) n k (omega (arith, is)))
    ∙ sym (append_assoc (frame_events a) (flat_map frame_events (range_with_len (a + 1) n)) (frame_events k))

pub put_frame : (n : ℕ) (a b c : List ℕ) → b ≡ a ++ blocks (flat_map frame_events (range_with_len 1 n)) → c ≡ b ++ blocks (frame_events (n + 1)) →
    c ≡ a ++ blocks (flat_map frame_events (range_with_len 1 (n + 1)))
put_frame n a b c first second =
    put_both (flat_map frame_events (range_with_len 1 n)) (frame_events (n + 1)) a b c first second
    ∙ ap (λ es. a ++ blocks es) (sym (frames_more 1 n (n + 1) (omega arith)))
