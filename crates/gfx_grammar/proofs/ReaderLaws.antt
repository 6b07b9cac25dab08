-- Laws of readers that are put together: of fields one after the other, of records, lists and bytes.
use Rattle.std.proofs.Common.{◌≡◌, ℕ, zero, suc, ◌^◌, ◌<◌, ◌≤◌, ltb, List, [], ◌∷◌, ◌++◌, length, take, drop, Some, refl, sym, ap, subst, ◌∙◌, append_assoc, arith, false}
use Rattle.std.specs.Prelude.{flat_map}
use Rattle.std.specs.Int.{w32, w64, to_le_bytes}
use Rattle.std.proofs.lemmas.Bool.{ltb-false, le-ltb}
use Rattle.std.proofs.lemmas.List.{take_at, drop_at, take-append-drop, length-append, length-take, append-nil}
use Rattle.gfx_model.specs.Spelling.{Field, field_bytes, list_of}
use Rattle.gfx_grammar.specs.Reading.{◌>>=◌, Reader, read_u32, read_u64, read_bytes, read_raw, read_both, ◌⊗◌, read_as, read_items, read_list}
use Rattle.gfx_grammar.specs.Reads.{AreBytes, Fits, text_of, Takes, Reads, raw_fields}
use Rattle.gfx_grammar.proofs.NumberLaws.{AreBytes-drop, AreBytes-take, all_bytes, bind_some, guard_some, some_is, Takes-then, number_takes, number_again, wide32, wide64}

-- ---- fields

pub text_of-append : (a b : List Field) → text_of (a ++ b) ≡ text_of a ++ text_of b
text_of-append [] b = refl
text_of-append (f ∷ a) b = ap (λ (t : List ℕ). field_bytes f ++ t) (text_of-append a b) ∙ sym (append_assoc (field_bytes f) (text_of a) (text_of b))

pub Fits-append : (a b : List Field) → Fits a → Fits b → Fits (a ++ b)
Fits-append [] b p q = q
Fits-append (f ∷ a) b p q = (p.0, Fits-append a b p.1 q)

pub Fits-parts : (a b : List Field) → Fits (a ++ b) → Fits a × Fits b
Fits-parts [] b p = (tt, p)
Fits-parts (f ∷ a) b p = let parts = Fits-parts a b p.1 in ((p.0, parts.0), parts.1)

-- ---- one after the other

pair_takes : {A B : Type 0} (r : Reader A) (s : Reader B) (t : A → List Field) (u : B → List Field) → Reads r t → Reads s u
    → (bytes : List ℕ) (x : A × B) (rest : List ℕ) → AreBytes bytes → (r ⊗ s) bytes ≡ Some (x, rest)
    → Takes bytes (text_of (t x.0 ++ u x.1)) rest × Fits (t x.0 ++ u x.1)
unfolding read_both
pair_takes {A} {B} r s t u p q bytes x rest h e =
    let a = bind_some (r bytes) (λ x. s x.1 >>= λ y. Some ((x.0, y.0), y.1)) (x, rest) e in
    let b = bind_some (s a.0.1) (λ y. Some ((a.0.0, y.0), y.1)) (x, rest) a.2 in
    let is : ((a.0.0, b.0.0), b.0.1) ≡ (x, rest) = some_is _ _ b.2 in
    let f = p.takes bytes a.0.0 a.0.1 h a.1 in
    let g = q.takes a.0.1 b.0.0 b.0.1 f.0.rest_bytes b.1 in
    let all : Takes bytes (text_of (t a.0.0 ++ u b.0.0)) b.0.1 =
    subst (λ (z : List ℕ). Takes bytes z b.0.1) (sym (text_of-append (t a.0.0) (u b.0.0)))
    (Takes-then bytes (text_of (t a.0.0)) a.0.1 (text_of (u b.0.0)) b.0.1 f.0 g.0) in
    subst (λ (z : (A × B) × List ℕ). Takes bytes (text_of (t z.0.0 ++ u z.0.1)) z.1 × Fits (t z.0.0 ++ u z.0.1)) is
    (all, Fits-append (t a.0.0) (u b.0.0) f.1 g.1)

pair_again : {A B : Type 0} (r : Reader A) (s : Reader B) (t : A → List Field) (u : B → List Field) → Reads r t → Reads s u
    → (x : A × B) (rest : List ℕ) → Fits (t x.0 ++ u x.1) → (r ⊗ s) (text_of (t x.0 ++ u x.1) ++ rest) ≡ Some (x, rest)
unfolding read_both
pair_again r s t u p q x rest fits =
    let parts = Fits-parts (t x.0) (u x.1) fits in
    let regrouped : text_of (t x.0 ++ u x.1) ++ rest ≡ text_of (t x.0) ++ (text_of (u x.1) ++ rest) =
    ap (λ (z : List ℕ). z ++ rest) (text_of-append (t x.0) (u x.1)) ∙ append_assoc (text_of (t x.0)) (text_of (u x.1)) rest in
    ap (r ⊗ s) regrouped ∙ rw (p.again x.0 (text_of (u x.1) ++ rest) parts.0, q.again x.1 rest parts.1) refl

infixr 12 ◌⊠◌
pub ◌⊠◌ : {A B : Type 0} {r : Reader A} {s : Reader B} {t : A → List Field} {u : B → List Field} → Reads r t → Reads s u → Reads (r ⊗ s) (λ x. t x.0 ++ u x.1)
◌⊠◌ {A} {B} {r} {s} {t} {u} p q = record {
  takes = λ bytes x rest h e. pair_takes r s t u p q bytes x rest h e;
  again = λ x rest fits. pair_again r s t u p q x rest fits;
}

-- ---- what is built of a value

as_takes : {X Y : Type 0} (f : X → Y) (r : Reader X) (t : X → List Field) (u : Y → List Field) → Reads r t → ((x : X) → u (f x) ≡ t x)
    → (bytes : List ℕ) (y : Y) (rest : List ℕ) → AreBytes bytes → read_as f r bytes ≡ Some (y, rest)
    → Takes bytes (text_of (u y)) rest × Fits (u y)
unfolding read_as
as_takes {X} {Y} f r t u p same bytes y rest h e =
    let a = bind_some (r bytes) (λ x. Some (f x.0, x.1)) (y, rest) e in
    let is : (f a.0.0, a.0.1) ≡ (y, rest) = some_is _ _ a.2 in
    let g = p.takes bytes a.0.0 a.0.1 h a.1 in
    let all : Takes bytes (text_of (u (f a.0.0))) a.0.1 × Fits (u (f a.0.0)) =
    subst (λ (fs : List Field). Takes bytes (text_of fs) a.0.1 × Fits fs) (sym (same a.0.0)) g in
    subst (λ (z : Y × List ℕ). Takes bytes (text_of (u z.0)) z.1 × Fits (u z.0)) is all

as_again : {X Y : Type 0} (f : X → Y) (r : Reader X) (t : X → List Field) (u : Y → List Field) → Reads r t → ((x : X) → u (f x) ≡ t x)
    → (x : X) (rest : List ℕ) → Fits (u (f x)) → read_as f r (text_of (u (f x)) ++ rest) ≡ Some (f x, rest)
unfolding read_as
as_again f r t u p same x rest =
    subst (λ (fs : List Field). Fits fs → read_as f r (text_of fs ++ rest) ≡ Some (f x, rest)) (sym (same x)) (λ fits. rw (p.again x rest fits) refl)

pub reads_as : {X Y : Type 0} (f : X → Y) (g : Y → X) (r : Reader X) (t : X → List Field) (u : Y → List Field) → Reads r t
    → ((x : X) → u (f x) ≡ t x) → ((y : Y) → f (g y) ≡ y) → Reads (read_as f r) u
reads_as f g r t u p same back = record {
  takes = λ bytes y rest h e. as_takes f r t u p same bytes y rest h e;
  again = λ y rest. subst (λ z. Fits (u z) → read_as f r (text_of (u z) ++ rest) ≡ Some (z, rest)) (back y) (as_again f r t u p same (g y) rest);
}

-- ---- lists

items_takes : {X : Type 0} (r : Reader X) (t : X → List Field) → Reads r t
    → (n : ℕ) (bytes : List ℕ) (xs : List X) (rest : List ℕ) → AreBytes bytes → read_items r n bytes ≡ Some (xs, rest)
    → (length xs ≡ n) × (Takes bytes (text_of (flat_map t xs)) rest × Fits (flat_map t xs))
unfolding read_items
items_takes {X} r t p zero bytes xs rest h e =
    let is : ([], bytes) ≡ (xs, rest) = some_is _ _ e in
    subst (λ (z : List X × List ℕ). (length z.0 ≡ 0) × (Takes bytes (text_of (flat_map t z.0)) z.1 × Fits (flat_map t z.0))) is
    (refl, (record { parts = refl; rest_bytes = h }, tt))
items_takes {X} r t p (suc n) bytes xs rest h e =
    let a = bind_some (r bytes) (λ x. read_items r n x.1 >>= λ ys. Some (x.0 ∷ ys.0, ys.1)) (xs, rest) e in
    let b = bind_some (read_items r n a.0.1) (λ ys. Some (a.0.0 ∷ ys.0, ys.1)) (xs, rest) a.2 in
    let is : (a.0.0 ∷ b.0.0, b.0.1) ≡ (xs, rest) = some_is _ _ b.2 in
    let f = p.takes bytes a.0.0 a.0.1 h a.1 in
    let g = items_takes r t p n a.0.1 b.0.0 b.0.1 f.0.rest_bytes b.1 in
    let all : Takes bytes (text_of (t a.0.0 ++ flat_map t b.0.0)) b.0.1 =
    subst (λ (z : List ℕ). Takes bytes z b.0.1) (sym (text_of-append (t a.0.0) (flat_map t b.0.0)))
    (Takes-then bytes (text_of (t a.0.0)) a.0.1 (text_of (flat_map t b.0.0)) b.0.1 f.0 g.1.0) in
    subst (λ (z : List X × List ℕ). (length z.0 ≡ suc n) × (Takes bytes (text_of (flat_map t z.0)) z.1 × Fits (flat_map t z.0))) is
    (ap suc g.0, (all, Fits-append (t a.0.0) (flat_map t b.0.0) f.1 g.1.1))

items_again : {X : Type 0} (r : Reader X) (t : X → List Field) → Reads r t
    → (xs : List X) (rest : List ℕ) → Fits (flat_map t xs) → read_items r (length xs) (text_of (flat_map t xs) ++ rest) ≡ Some (xs, rest)
unfolding read_items
items_again r t p [] rest fits = refl
items_again r t p (x ∷ xs) rest fits =
    let parts = Fits-parts (t x) (flat_map t xs) fits in
    let regrouped : text_of (t x ++ flat_map t xs) ++ rest ≡ text_of (t x) ++ (text_of (flat_map t xs) ++ rest) =
    ap (λ (z : List ℕ). z ++ rest) (text_of-append (t x) (flat_map t xs)) ∙ append_assoc (text_of (t x)) (text_of (flat_map t xs)) rest in
    ap (read_items r (suc (length xs))) regrouped
    ∙ rw (p.again x (text_of (flat_map t xs) ++ rest) parts.0, items_again r t p xs rest parts.1) refl

list_takes : {X : Type 0} (r : Reader X) (t : X → List Field) → Reads r t
    → (bytes : List ℕ) (xs : List X) (rest : List ℕ) → AreBytes bytes → read_list r bytes ≡ Some (xs, rest)
    → Takes bytes (text_of (list_of t xs)) rest × Fits (list_of t xs)
unfolding read_list
list_takes {X} r t p bytes xs rest h e =
    let a = bind_some (read_u32 bytes) (λ n. read_items r n.0 n.1) (xs, rest) e in
    let f = number_takes w32 (2 ^ 32) wide32 bytes a.0.0 a.0.1 h a.1 in
    let g = items_takes r t p a.0.0 a.0.1 xs rest f.0.rest_bytes a.2 in
    let all = Takes-then bytes (to_le_bytes w32 a.0.0) a.0.1 (text_of (flat_map t xs)) rest f.0 g.1.0 in
    subst (λ (n : ℕ). Takes bytes (to_le_bytes w32 n ++ text_of (flat_map t xs)) rest × ((n < 2 ^ 32) × Fits (flat_map t xs))) (sym g.0) (all, (f.1, g.1.1))

list_again : {X : Type 0} (r : Reader X) (t : X → List Field) → Reads r t
    → (xs : List X) (rest : List ℕ) → Fits (list_of t xs) → read_list r (text_of (list_of t xs) ++ rest) ≡ Some (xs, rest)
unfolding read_list
list_again r t p xs rest fits =
    let regrouped : text_of (list_of t xs) ++ rest ≡ to_le_bytes w32 (length xs) ++ (text_of (flat_map t xs) ++ rest) =
    append_assoc (to_le_bytes w32 (length xs)) (text_of (flat_map t xs)) rest in
    ap (read_list r) regrouped
    ∙ ap (λ o. o >>= λ n. read_items r n.0 n.1) (number_again w32 (2 ^ 32) wide32 (length xs) (text_of (flat_map t xs) ++ rest) fits.0)
    ∙ items_again r t p xs rest fits.1

pub reads_list : {X : Type 0} {r : Reader X} {t : X → List Field} → Reads r t → Reads (read_list r) (list_of t)
reads_list {X} {r} {t} p = record {
  takes = λ bytes x rest h e. list_takes r t p bytes x rest h e;
  again = λ x rest fits. list_again r t p x rest fits;
}

-- ---- bytes

raw_takes : (bytes xs rest : List ℕ) → AreBytes bytes → read_raw bytes ≡ Some (xs, rest) → Takes bytes (text_of (raw_fields xs)) rest × Fits (raw_fields xs)
unfolding read_raw
raw_takes bytes xs rest h e =
    let a = bind_some (read_u64 bytes) (λ n. read_bytes n.0 n.1) (xs, rest) e in
    let n = a.0.0 in
    let after = a.0.1 in
    let f = number_takes w64 (2 ^ 64) wide64 bytes n after h a.1 in
    let g = guard_some (ltb (length after) n) (take n after, drop n after) (xs, rest) a.2 in
    let long : n ≤ length after = ltb-false _ _ g.0 in
    let len : length (take n after) ≡ n = omega (arith, length-take n after) in
    let second : Takes after (take n after) (drop n after) = record { parts = sym (take-append-drop n after); rest_bytes = AreBytes-drop n after f.0.rest_bytes } in
    let all = Takes-then bytes (to_le_bytes w64 n) after (take n after) (drop n after) f.0 second in
    let one : Takes bytes (to_le_bytes w64 (length (take n after)) ++ take n after) (drop n after) =
    subst (λ (k : ℕ). Takes bytes (to_le_bytes w64 k ++ take n after) (drop n after)) (sym len) all in
    let ended : Takes bytes (text_of (raw_fields (take n after))) (drop n after) =
    subst (λ (z : List ℕ). Takes bytes z (drop n after)) (sym (append-nil (to_le_bytes w64 (length (take n after)) ++ take n after))) one in
    let fits : Fits (raw_fields (take n after)) = ((omega (arith, f.1), all_bytes (take n after) (AreBytes-take n after f.0.rest_bytes)), tt) in
    subst (λ (z : List ℕ × List ℕ). Takes bytes (text_of (raw_fields z.0)) z.1 × Fits (raw_fields z.0)) g.1 (ended, fits)

raw_again : (xs rest : List ℕ) → Fits (raw_fields xs) → read_raw (text_of (raw_fields xs) ++ rest) ≡ Some (xs, rest)
unfolding read_raw
raw_again xs rest fits =
    let long : ltb (length (xs ++ rest)) (length xs) ≡ false = le-ltb _ _ (omega (arith, length-append xs rest)) in
    let regrouped : text_of (raw_fields xs) ++ rest ≡ to_le_bytes w64 (length xs) ++ (xs ++ rest) =
    ap (λ (z : List ℕ). z ++ rest) (append-nil (to_le_bytes w64 (length xs) ++ xs)) ∙ append_assoc (to_le_bytes w64 (length xs)) xs rest in
    ap read_raw regrouped
    ∙ ap (λ o. o >>= λ n. read_bytes n.0 n.1) (number_again w64 (2 ^ 64) wide64 (length xs) (xs ++ rest) fits.0.0)
    ∙ rw (long, take_at xs rest (length xs) refl, drop_at xs rest (length xs) refl) refl

pub reads_raw : Reads read_raw raw_fields
reads_raw = record {
  takes = λ bytes x rest h e. raw_takes bytes x rest h e;
  again = λ x rest fits. raw_again x rest fits;
}
