-- Rows that are copied, one after another.
use Rattle.std.proofs.Common.{add-one, ◌≡◌, ℕ, zero, suc, ◌+◌, ◌*◌, ◌<◌, ◌≤◌, ◌||◌, Bool, true, false, refl, sym, ap, ◌∙◌, subst, List, [], ◌∷◌, ◌++◌, length, get_or, slice_range, take, flat_map, arith}
use Rattle.std.specs.List.{list_any}
use Rattle.std.proofs.lemmas.List.{take_more, append-nil}
use Rattle.std.proofs.lemmas.Grind.{flat_map-append}
use Rattle.std.proofs.lemmas.List.Edits.{length-between, get_or-between}
use Rattle.std.proofs.lemmas.List.FromFn.{map-range_with_len_more}
use Rattle.gfx_types.specs.declared.op.Place.{Place}
use Rattle.gfx_pages.specs.Lists.{overwrite}
use Rattle.gfx_device.specs.declared.rows.Rows.{Rows}
use Rattle.gfx_device.specs.Rows.{AreWithin, copied}
use Rattle.gfx_model.specs.Steps.{Change}
use Rattle.gfx_model.specs.Steps.Change.{copy}
use Rattle.gfx_model.specs.Bytes.{byte, same_place}
use Rattle.gfx_model.specs.Effects.{rows_copied}
use Rattle.gfx_model.specs.History.{onto}
use Rattle.gfx_replay.specs.Held.{Bytes, AreLeft, Holds, HoldsMore}
use Rattle.gfx_replay.proofs.Covering.{IsChangeOf, left_at, left_same, copy_changes}
use Rattle.gfx_replay.proofs.Overwriting.{left_over, length-overwrite}

pub onto-append : {X : Type 0} (xs ys h : List X) → onto (xs ++ ys) h ≡ onto ys (onto xs h)
onto-append [] ys h = refl
onto-append (x ∷ xs) ys h = onto-append xs ys (x ∷ h)

-- the first k rows, one after another
abbrev pub first_rows : Rows → Place → Place → ℕ → List Change
first_rows c to source k = rows_copied to c.to_offset c.to_step source c.from_offset c.from_step c.length k

abbrev row : Rows → Place → Place → ℕ → Change
row c to source k = copy to (c.to_offset + k * c.to_step) source (c.from_offset + k * c.from_step) c.length

-- one more row is before the others
rows_more : (c : Rows) (to source : Place) (k : ℕ) (es : List Change) → onto (first_rows c to source (suc k)) es ≡ row c to source k ∷ onto (first_rows c to source k) es
rows_more c to source k es =
    ap (λ n. onto (first_rows c to source n) es) (sym (add-one k))
    ∙ ap (λ rows. onto rows es) (map-range_with_len_more (row c to source) 0 k k (omega arith))
    ∙ onto-append (first_rows c to source k) (row c to source k ∷ []) es

-- rows change no other place
pub rows_apart : (c : Rows) (to source at : Place) → same_place to at ≡ false → (k : ℕ) (es : List Change) (i : ℕ) → byte (onto (first_rows c to source k) es) at i ≡ byte es at i
rows_apart c to source at other zero es i = refl
rows_apart c to source at other (suc k) es i =
    ap (λ more. byte more at i) (rows_more c to source k es)
    ∙ (copy_changes (onto (first_rows c to source k) es) to (c.to_offset + k * c.to_step) source (c.from_offset + k * c.from_step) c.length).others at i other
    ∙ rows_apart c to source at other k es i

-- what the source of rows gives is left of it, wherever the target's bytes are
pub record Gives (c : Rows) (to source : Place) (given : List ℕ → List ℕ) (es : List Change) (n : ℕ) : Type 0 where
  pub left : (k : ℕ) (here : List ℕ) → length here ≡ n → AreLeft (onto (first_rows c to source k) es) to here → AreLeft (onto (first_rows c to source k) es) source (given here)
  pub within : (here : List ℕ) → length here ≡ n → AreWithin (length (given here)) c.from_offset c.from_step c.length c.rows

pub record AreCopied (c : Rows) (to source : Place) (given : List ℕ → List ℕ) (es : List Change) (xs : List ℕ) (k : ℕ) : Type 0 where
  pub long : length (copied c given k xs) ≡ length xs
  pub left : AreLeft (onto (first_rows c to source k) es) to (copied c given k xs)

pub rows_left : (c : Rows) (to source : Place) (given : List ℕ → List ℕ) (es : List Change) (xs : List ℕ) → AreWithin (length xs) c.to_offset c.to_step c.length c.rows →
    Gives c to source given es (length xs) → AreLeft es to xs → (k : ℕ) → k ≤ c.rows → AreCopied c to source given es xs k
rows_left c to source given es xs within gives left zero few = record { long = refl; left = left }
rows_left c to source given es xs within gives left (suc k) few =
    let last = rows_left c to source given es xs within gives left k (omega arith) in
    let here = copied c given k xs in
    let before = onto (first_rows c to source k) es in
    let o = c.to_offset + k * c.to_step in
    let so = c.from_offset + k * c.from_step in
    let piece = slice_range (given here) so (so + c.length) in
    let reach : so + c.length ≤ length (given here) = gives.within here last.long k (omega arith) in
    let size : length piece ≡ c.length = length-between (given here) so (so + c.length) reach ∙ omega arith in
    let fits : o + length piece ≤ length here = (let a = within k (omega arith) in let b = last.long in omega arith) in
    let change = copy_changes before to o source so c.length in
    let source_left = gives.left k here last.long last.left in
    let next : AreLeft (row c to source k ∷ before) to (overwrite here o piece) =
    left_over before (row c to source k ∷ before) to o (λ j. byte before source (so + j)) here piece fits last.left
    (subst (λ n. IsChangeOf before (row c to source k ∷ before) to o n (λ j. byte before source (so + j))) (sym size) change)
    (λ j below. get_or-between (given here) so (so + c.length) j 0 (omega arith) ∙ left_at before source (given here) source_left (so + j) (omega arith)) in
    record {
      long = length-overwrite here o piece fits ∙ last.long;
      left = subst (λ more. AreLeft more to (overwrite here o piece)) (sym (rows_more c to source k es)) next;
    }

-- rows within a place: each is read from what the rows before it left
pub rows_within : (c : Rows) (to source : Place) (es : List Change) (xs : List ℕ) → source ≡ to → AreWithin (length xs) c.to_offset c.to_step c.length c.rows →
    AreWithin (length xs) c.from_offset c.from_step c.length c.rows → AreLeft es to xs → AreLeft (onto (first_rows c to source c.rows) es) to (copied c (λ here. here) c.rows xs)
rows_within c to source es xs same target room left =
    (rows_left c to source (λ here. here) es xs target
    (record {
      left = λ k here long is. subst (λ at. AreLeft (onto (first_rows c to source k) es) at here) (sym same) is;
      within = λ here long. subst (λ n. AreWithin n c.from_offset c.from_step c.length c.rows) (sym long) room;
    }) left c.rows (omega arith)).left

-- rows from one place to another
pub rows_between : (c : Rows) (to source : Place) (es : List Change) (xs ys : List ℕ) → same_place to source ≡ false → AreWithin (length xs) c.to_offset c.to_step c.length c.rows →
    AreWithin (length ys) c.from_offset c.from_step c.length c.rows → AreLeft es to xs → AreLeft es source ys →
    AreLeft (onto (first_rows c to source c.rows) es) to (copied c (λ here. ys) c.rows xs)
rows_between c to source es xs ys apart target room left source_left =
    (rows_left c to source (λ here. ys) es xs target
    (record {
      left = λ k here long is. left_same es (onto (first_rows c to source k) es) source ys (rows_apart c to source source apart k es) source_left;
      within = λ here long. room;
    }) left c.rows (omega arith)).left

-- ---- one change after another

pub holds_next : (first next : List Change) (a b c : Bytes) → HoldsMore first a b → HoldsMore next b c → HoldsMore (first ++ next) a c
holds_next first next a b c p q es holds = subst (Holds c) (sym (onto-append first next es)) (q (onto first es) (p es holds))

pub flat_map_more : {X Y : Type 0} (f : X → List Y) (xs : List X) (i : ℕ) (x : X) → i < length xs → x ≡ get_or xs i x → flat_map f (take (i + 1) xs) ≡ flat_map f (take i xs) ++ f x
flat_map_more f xs i x below is =
    ap (flat_map f) (take_more xs i x below ∙ ap (λ y. take i xs ++ y ∷ []) (sym is)) ∙ flat_map-append f (take i xs) (x ∷ []) ∙ ap (λ ys. flat_map f (take i xs) ++ ys) (append-nil (f x))

-- where no element passes, none at a place does
pub none_at : {X : Type 0} (p : X → Bool) (xs : List X) (i : ℕ) (x : X) → i < length xs → x ≡ get_or xs i x → list_any p xs ≡ false → p x ≡ false
none_at p [] i x below is none = absurd (omega (arith, below))
none_at p (y ∷ ys) zero x below is none = ap p is ∙ first (p y) (list_any p ys) none
  where
    first : (s t : Bool) → (s || t) ≡ false → s ≡ false
    first true t none = none
    first false t none = refl
none_at p (y ∷ ys) (suc i) x below is none = none_at p ys i x (omega (arith, below)) is (rest (p y) (list_any p ys) none)
  where
    rest : (s t : Bool) → (s || t) ≡ false → t ≡ false
    rest true t none = absurd cc
    rest false t none = none
