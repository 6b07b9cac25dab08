-- Laws of readers that are put together: words, values with a comma between them, records and lists.
use Rattle.std.proofs.Common.{◌≡◌, ℕ, zero, suc, ◌<◌, ◌≤◌, ◌^◌, ◌==◌, nat_eq, not, Bool, true, false, cond, List, [], ◌∷◌, ◌++◌, length, map, Option, Some, None, refl, sym, ap, subst, ◌∙◌, arith, append_assoc, append-nil, length-append}
use Rattle.std.proofs.lemmas.Option.{cond_some}
use Rattle.std.specs.List.{AllByRecursion, list_all, join_with_byte}
use Rattle.std.proofs.lemmas.Bool.Decides.{nat_tests}
use Rattle.std.proofs.lemmas.Bool.{cond-true, lt-ltb, ltb-true, eqb-true}
use Rattle.gfx_script_model.specs.Names.{is_letter_or_digit}
use Rattle.gfx_script_model.specs.FieldText.{list_text, ListFits}
use Rattle.gfx_grammar.specs.Reading.{◌>>=◌, Reader}
use Rattle.gfx_grammar.proofs.NumberLaws.{bind_some, some_is}
use Rattle.gfx_text_grammar.specs.Words.{word_of, after_word, ends_word}
use Rattle.gfx_text_grammar.specs.Reading.{read_word, behind, read_comma, ◌⊗◌, read_between, read_as, read_record, read_more, read_items, read_list_end, if_few, read_list}
use Rattle.gfx_text_grammar.specs.Reads.{Reads, begins_item}
use Rattle.gfx_text_grammar.proofs.WordLaws.{word-parts, word-all}

-- ---- a word

pub reads_word : {X : Type 0} (value : List ℕ → Option X) (show : X → List ℕ) (fits : X → Type 0)
    → ((word : List ℕ) (x : X) → value word ≡ Some x → (word ≡ show x) × fits x)
    → ((x : X) → fits x → (value (show x) ≡ Some x) × (list_all is_letter_or_digit (show x) ≡ true))
    → Reads (read_word value) show fits
unfolding read_word
reads_word {X} value show fits from to = record {
  takes = λ text x rest is.
      let a = bind_some (value (word_of text)) (λ x. Some (x, after_word text)) (x, rest) is in
      let p = from (word_of text) a.0 a.1 in
      let made : (a.0, after_word text) ≡ (x, rest) = some_is _ _ a.2 in
      subst (λ (z : X × List ℕ). (text ≡ show z.0 ++ z.1) × fits z.0) made
      (sym (word-parts text) ∙ ap (λ (t : List ℕ). t ++ after_word text) p.0, p.1);
  again = λ x rest fit end.
      let g = to x fit in
      let w = word-all (show x) rest g.1 end in
      ap (λ (t : List ℕ). value t >>= λ v. Some (v, after_word (show x ++ rest))) w.0
      ∙ ap (λ (o : Option X). o >>= λ v. Some (v, after_word (show x ++ rest))) g.0
      ∙ ap (λ (t : List ℕ). Some (x, t)) w.1;
}

-- ---- single bytes

pub behind_some : (c : ℕ) (text t : List ℕ) → behind c text ≡ Some t → text ≡ c ∷ t
behind_some c [] t is = absurd cc
behind_some c (d ∷ text) t is =
    let h = cond_some _ _ _ is in
    ap (λ n. n ∷ text) (eqb-true d c h.0) ∙ ap (λ (z : List ℕ). c ∷ z) h.1

pub behind-same : (c : ℕ) (t : List ℕ) → behind c (c ∷ t) ≡ Some t
behind-same c t = cond-true (nat_eq c c) _ _ (grind (arith, nat_tests))

-- ---- one after the other

comma_takes : {A B : Type 0} (r : Reader A) (s : Reader B) (t : A → List ℕ) (u : B → List ℕ) (f : A → Type 0) (g : B → Type 0) → Reads r t f → Reads s u g
    → (text : List ℕ) (x : A × B) (rest : List ℕ) → read_comma r s text ≡ Some (x, rest)
    → (text ≡ (t x.0 ++ 44 ∷ u x.1) ++ rest) × (f x.0 × g x.1)
unfolding read_comma
comma_takes {A} {B} r s t u f g p q text x rest is =
    let a = bind_some (r text) (λ x. behind 44 x.1 >>= λ t. s t >>= λ y. Some ((x.0, y.0), y.1)) (x, rest) is in
    let b = bind_some (behind 44 a.0.1) (λ t. s t >>= λ y. Some ((a.0.0, y.0), y.1)) (x, rest) a.2 in
    let c = bind_some (s b.0) (λ y. Some ((a.0.0, y.0), y.1)) (x, rest) b.2 in
    let made : ((a.0.0, c.0.0), c.0.1) ≡ (x, rest) = some_is _ _ c.2 in
    let h = p.takes text a.0.0 a.0.1 a.1 in
    let k = q.takes b.0 c.0.0 c.0.1 c.1 in
    subst (λ (z : (A × B) × List ℕ). (text ≡ (t z.0.0 ++ 44 ∷ u z.0.1) ++ z.1) × (f z.0.0 × g z.0.1)) made
    (h.0 ∙ ap (λ (z : List ℕ). t a.0.0 ++ z) (behind_some 44 a.0.1 b.0 b.1 ∙ ap (λ (z : List ℕ). 44 ∷ z) k.0) ∙ sym (append_assoc (t a.0.0) (44 ∷ u c.0.0) c.0.1), (h.1, k.1))

infixr 12 ◌⊠◌
pub ◌⊠◌ : {A B : Type 0} {r : Reader A} {s : Reader B} {t : A → List ℕ} {u : B → List ℕ} {f : A → Type 0} {g : B → Type 0} → Reads r t f → Reads s u g
    → Reads (r ⊗ s) (λ x. t x.0 ++ 44 ∷ u x.1) (λ x. f x.0 × g x.1)
unfolding read_comma
◌⊠◌ {A} {B} {r} {s} {t} {u} {f} {g} p q = record {
  takes = λ text x rest is. comma_takes r s t u f g p q text x rest is;
  again = λ x rest fit end.
      ap (read_comma r s) (append_assoc (t x.0) (44 ∷ u x.1) rest)
      ∙ ap (λ o. o >>= λ x. behind 44 x.1 >>= λ t. s t >>= λ y. Some ((x.0, y.0), y.1)) (p.again x.0 (44 ∷ (u x.1 ++ rest)) fit.0 refl)
      ∙ ap (λ o. o >>= λ t. s t >>= λ y. Some ((x.0, y.0), y.1)) (behind-same 44 (u x.1 ++ rest))
      ∙ ap (λ o. o >>= λ y. Some ((x.0, y.0), y.1)) (q.again x.1 rest fit.1 end);
}

-- ---- between two bytes

between_takes : {X : Type 0} (front back : ℕ) (r : Reader X) (t : X → List ℕ) (f : X → Type 0) → Reads r t f
    → (text : List ℕ) (x : X) (rest : List ℕ) → read_between front back r text ≡ Some (x, rest)
    → (text ≡ (front ∷ t x ++ back ∷ []) ++ rest) × f x
unfolding read_between
between_takes {X} front back r t f p text x rest is =
    let a = bind_some (behind front text) (λ t. r t >>= λ x. behind back x.1 >>= λ u. Some (x.0, u)) (x, rest) is in
    let b = bind_some (r a.0) (λ x. behind back x.1 >>= λ u. Some (x.0, u)) (x, rest) a.2 in
    let c = bind_some (behind back b.0.1) (λ u. Some (b.0.0, u)) (x, rest) b.2 in
    let made : (b.0.0, c.0) ≡ (x, rest) = some_is _ _ c.2 in
    let h = p.takes a.0 b.0.0 b.0.1 b.1 in
    subst (λ (z : X × List ℕ). (text ≡ (front ∷ t z.0 ++ back ∷ []) ++ z.1) × f z.0) made
    (behind_some front text a.0 a.1 ∙ ap (λ (z : List ℕ). front ∷ z) (h.0 ∙ ap (λ (z : List ℕ). t b.0.0 ++ z) (behind_some back b.0.1 c.0 c.1) ∙ sym (append_assoc (t b.0.0) (back ∷ []) c.0)), h.1)

between_again : {X : Type 0} (front back : ℕ) (r : Reader X) (t : X → List ℕ) (f : X → Type 0) → Reads r t f
    → (x : X) (rest : List ℕ) → f x → ends_word (back ∷ []) ≡ true → read_between front back r ((front ∷ t x ++ back ∷ []) ++ rest) ≡ Some (x, rest)
unfolding read_between
between_again {X} front back r t f p x rest fit end =
    ap (λ (z : List ℕ). read_between front back r (front ∷ z)) (append_assoc (t x) (back ∷ []) rest)
    ∙ ap (λ o. o >>= λ t. r t >>= λ x. behind back x.1 >>= λ u. Some (x.0, u)) (behind-same front (t x ++ back ∷ rest))
    ∙ ap (λ o. o >>= λ x. behind back x.1 >>= λ u. Some (x.0, u)) (p.again x (back ∷ rest) fit end)
    ∙ ap (λ o. o >>= λ u. Some (x, u)) (behind-same back rest)

-- ---- what is built of a value

pub reads_as : {X Y : Type 0} (build : X → Y) (parts : Y → X) {r : Reader X} {t : X → List ℕ} {f : X → Type 0} → Reads r t f
    → ((x : X) → parts (build x) ≡ x) → ((y : Y) → build (parts y) ≡ y) → Reads (read_as build r) (λ y. t (parts y)) (λ y. f (parts y))
unfolding read_as
reads_as {X} {Y} build parts {r} {t} {f} p there back = record {
  takes = λ text y rest is.
      let a = bind_some (r text) (λ x. Some (build x.0, x.1)) (y, rest) is in
      let made : (build a.0.0, a.0.1) ≡ (y, rest) = some_is _ _ a.2 in
      let h = p.takes text a.0.0 a.0.1 a.1 in
      subst (λ (z : Y × List ℕ). (text ≡ t (parts z.0) ++ z.1) × f (parts z.0)) made
      (subst (λ (x : X). (text ≡ t x ++ a.0.1) × f x) (sym (there a.0.0)) h);
  again = λ y rest fit end.
      ap (λ o. o >>= λ x. Some (build x.0, x.1)) (p.again (parts y) rest fit end) ∙ ap (λ (z : Y). Some (z, rest)) (back y);
}

-- the same reader of the same texts
pub reads_same : {X : Type 0} {r : Reader X} {t : X → List ℕ} {f : X → Type 0} (u : X → List ℕ) (g : X → Type 0) → Reads r t f
    → ((x : X) → t x ≡ u x) → ((x : X) → f x → g x) → ((x : X) → g x → f x) → Reads r u g
reads_same {X} {r} {t} {f} u g p same to from = record {
  takes = λ text x rest is.
      let h = p.takes text x rest is in
      (h.0 ∙ ap (λ (z : List ℕ). z ++ rest) (same x), to x h.1);
  again = λ x rest fit end. ap (λ (z : List ℕ). r (z ++ rest)) (sym (same x)) ∙ p.again x rest (from x fit) end;
}

-- a record, whose text is that of its values in parentheses
pub reads_record : {X Y : Type 0} (build : X → Y) (parts : Y → X) {r : Reader X} {t : X → List ℕ} {f : X → Type 0} → Reads r t f
    → ((x : X) → parts (build x) ≡ x) → ((y : Y) → build (parts y) ≡ y)
    → Reads (read_record build r) (λ y. 40 ∷ t (parts y) ++ 41 ∷ []) (λ y. f (parts y))
reads_record build parts {r} {t} {f} p there back =
    let q = reads_as build parts p there back in
    record {
      takes = λ text y rest is. between_takes 40 41 (read_as build r) (λ y. t (parts y)) (λ y. f (parts y)) q text y rest is;
      again = λ y rest fit end. between_again 40 41 (read_as build r) (λ y. t (parts y)) (λ y. f (parts y)) q y rest fit refl;
    }

-- ---- lists

-- items with a comma between each two, and a closing bracket
abbrev items_text : {X : Type 0} → (X → List ℕ) → List X → List ℕ
items_text t xs = join_with_byte 44 (map t xs) ++ 93 ∷ []

-- what follows the first of them
abbrev more_text : {X : Type 0} → (X → List ℕ) → List X → List ℕ
more_text t [] = 93 ∷ []
more_text t (x ∷ xs) = 44 ∷ items_text t (x ∷ xs)

items-more : {X : Type 0} (t : X → List ℕ) (x : X) (xs : List X) (rest : List ℕ) → items_text t (x ∷ xs) ++ rest ≡ t x ++ (more_text t xs ++ rest)
items-more t x [] rest = append_assoc (t x) (93 ∷ []) rest
items-more t x (y ∷ ys) rest =
    let later = join_with_byte 44 (map t (y ∷ ys)) in
    ap (λ (z : List ℕ). z ++ rest) (append_assoc (t x) (44 ∷ later) (93 ∷ [])) ∙ append_assoc (t x) (44 ∷ (later ++ 93 ∷ [])) rest

items_takes : {X : Type 0} (r : Reader X) (t : X → List ℕ) (f : X → Type 0) → Reads r t f
    → (turns : ℕ) (text : List ℕ) (xs : List X) (rest : List ℕ) → read_items r turns text ≡ Some (xs, rest)
    → (text ≡ items_text t xs ++ rest) × AllByRecursion f xs × (1 ≤ length xs)
unfolding read_items
items_takes r t f p zero text xs rest is = absurd cc
items_takes {X} r t f p (suc turns) text xs rest is =
    let a = bind_some (r text) (λ x. read_more (read_items r turns) x.1 >>= λ xs. Some (x.0 ∷ xs.0, xs.1)) (xs, rest) is in
    let b = bind_some (read_more (read_items r turns) a.0.1) (λ xs. Some (a.0.0 ∷ xs.0, xs.1)) (xs, rest) a.2 in
    let made : (a.0.0 ∷ b.0.0, b.0.1) ≡ (xs, rest) = some_is _ _ b.2 in
    let h = p.takes text a.0.0 a.0.1 a.1 in
    let m = more_takes (read_items r turns) (items_takes r t f p turns) a.0.1 b.0.0 b.0.1 b.1 in
    subst (λ (z : List X × List ℕ). (text ≡ items_text t z.0 ++ z.1) × AllByRecursion f z.0 × (1 ≤ length z.0)) made
    (h.0 ∙ ap (λ (z : List ℕ). t a.0.0 ++ z) m.0 ∙ sym (items-more t a.0.0 b.0.0 b.0.1), (h.1, m.1), omega arith)
  where
    more_takes : (more : Reader (List X))
        → ((text : List ℕ) (xs : List X) (rest : List ℕ) → more text ≡ Some (xs, rest) → (text ≡ items_text t xs ++ rest) × AllByRecursion f xs × (1 ≤ length xs))
        → (text : List ℕ) (xs : List X) (rest : List ℕ) → read_more more text ≡ Some (xs, rest) → (text ≡ more_text t xs ++ rest) × AllByRecursion f xs
    more_takes more law [] xs rest is = absurd cc
    more_takes more law (c ∷ text) xs rest is = by (c == 93) refl is
      where
        comma : (b : Bool) → (c == 44) ≡ b → cond b (more text) None ≡ Some (xs, rest) → (c ∷ text ≡ more_text t xs ++ rest) × AllByRecursion f xs
        comma true e q =
            let l = law text xs rest q in
            (ap (λ n. n ∷ text) (eqb-true c 44 e) ∙ ap (λ (z : List ℕ). 44 ∷ z) l.0 ∙ some xs l.2, l.1)
          where
            some : (xs : List X) → 1 ≤ length xs → 44 ∷ (items_text t xs ++ rest) ≡ more_text t xs ++ rest
            some [] long = absurd (omega arith)
            some (x ∷ xs) long = refl
        comma false e q = absurd cc

        by : (b : Bool) → (c == 93) ≡ b → cond b (Some ([], text)) (cond (c == 44) (more text) None) ≡ Some (xs, rest)
            → (c ∷ text ≡ more_text t xs ++ rest) × AllByRecursion f xs
        by true e q =
            subst (λ (z : List X × List ℕ). (c ∷ text ≡ more_text t z.0 ++ z.1) × AllByRecursion f z.0) (some_is _ _ q)
            (ap (λ n. n ∷ text) (eqb-true c 93 e), tt)
        by false e q = comma (c == 44) refl q

-- there are no more items than bytes and one
items_long : {X : Type 0} (t : X → List ℕ) (xs : List X) → length xs ≤ length (items_text t xs)
items_long t [] = omega arith
items_long t (x ∷ []) = omega (arith, length-append (t x) (93 ∷ []))
items_long t (x ∷ y ∷ ys) =
    let later = join_with_byte 44 (map t (y ∷ ys)) in
    omega (arith, items_long t (y ∷ ys), length-append (t x ++ 44 ∷ later) (93 ∷ []), length-append (t x) (44 ∷ later), length-append later (93 ∷ []))

items_again : {X : Type 0} (r : Reader X) (t : X → List ℕ) (f : X → Type 0) → Reads r t f
    → (turns : ℕ) (x : X) (xs : List X) (rest : List ℕ) → length xs < turns → AllByRecursion f (x ∷ xs) → read_items r turns (items_text t (x ∷ xs) ++ rest) ≡ Some (x ∷ xs, rest)
unfolding read_items
items_again r t f p zero x xs rest few fits = absurd (omega arith)
items_again {X} r t f p (suc turns) x [] rest few fits =
    ap (read_items r (suc turns)) (items-more t x [] rest)
    ∙ ap (λ o. o >>= λ x. read_more (read_items r turns) x.1 >>= λ xs. Some (x.0 ∷ xs.0, xs.1)) (p.again x (93 ∷ rest) fits.0 refl)
items_again {X} r t f p (suc turns) x (y ∷ ys) rest few fits =
    ap (read_items r (suc turns)) (items-more t x (y ∷ ys) rest)
    ∙ ap (λ o. o >>= λ x. read_more (read_items r turns) x.1 >>= λ xs. Some (x.0 ∷ xs.0, xs.1)) (p.again x (44 ∷ (items_text t (y ∷ ys) ++ rest)) fits.0 refl)
    ∙ ap (λ o. o >>= λ xs. Some (x ∷ xs.0, xs.1)) (items_again r t f p turns y ys rest (omega arith) fits.1)

list_end_takes : {X : Type 0} (r : Reader X) (t : X → List ℕ) (f : X → Type 0) → Reads r t f
    → (text : List ℕ) (xs : List X) (rest : List ℕ) → read_list_end r text ≡ Some (xs, rest) → (text ≡ items_text t xs ++ rest) × AllByRecursion f xs
list_end_takes r t f p [] xs rest is = absurd cc
list_end_takes {X} r t f p (c ∷ text) xs rest is = by (c == 93) refl is
  where
    by : (b : Bool) → (c == 93) ≡ b → cond b (Some ([], text)) (read_items r (suc (length text)) (c ∷ text)) ≡ Some (xs, rest)
        → (c ∷ text ≡ items_text t xs ++ rest) × AllByRecursion f xs
    by true e q =
        subst (λ (z : List X × List ℕ). (c ∷ text ≡ items_text t z.0 ++ z.1) × AllByRecursion f z.0) (some_is _ _ q)
        (ap (λ n. n ∷ text) (eqb-true c 93 e), tt)
    by false e q = let h = items_takes r t f p (suc (length text)) (c ∷ text) xs rest q in (h.0, h.1)

-- an item at the start is no closing bracket
list_end_again : {X : Type 0} (r : Reader X) (text rest : List ℕ) → begins_item text ≡ true → read_list_end r (text ++ rest) ≡ read_items r (length (text ++ rest)) (text ++ rest)
list_end_again r [] rest is = absurd cc
list_end_again r (c ∷ text) rest is = by (c == 93) is
  where
    by : (b : Bool) → not b ≡ true → cond b (Some ([], text ++ rest)) (read_items r (suc (length (text ++ rest))) (c ∷ (text ++ rest))) ≡ read_items r (suc (length (text ++ rest))) (c ∷ (text ++ rest))
    by true e = absurd cc
    by false e = refl

begins-append : (a b : List ℕ) → begins_item a ≡ true → begins_item (a ++ b) ≡ true
begins-append [] b h = absurd cc
begins-append (c ∷ a) b h = h

few : {X : Type 0} (xs : List X) (rest : List ℕ) → length xs < 2 ^ 32 → if_few (xs, rest) ≡ Some (xs, rest)
few xs rest h = cond-true _ _ _ (lt-ltb _ _ h)

list_again : {X : Type 0} (r : Reader X) (t : X → List ℕ) (f : X → Type 0) → Reads r t f → ((x : X) → f x → begins_item (t x) ≡ true)
    → (xs : List X) (rest : List ℕ) → ListFits f xs → read_list r (list_text (map t xs) ++ rest) ≡ Some (xs, rest)
unfolding read_list
list_again {X} r t f p begins [] rest fits = few [] rest fits.0
list_again {X} r t f p begins (x ∷ xs) rest fits =
    let text = items_text t (x ∷ xs) in
    let begin : begins_item text ≡ true = subst (λ (z : List ℕ). begins_item z ≡ true) (sym (items-more t x xs []) ∙ append-nil text) (begins-append (t x) (more_text t xs ++ []) (begins x fits.1.0)) in
    ap (λ o. o >>= if_few) (list_end_again r text rest begin)
    ∙ ap (λ o. o >>= if_few) (items_again r t f p (length (text ++ rest)) x xs rest (omega (arith, items_long t (x ∷ xs), length-append text rest)) fits.1)
    ∙ few (x ∷ xs) rest fits.0

pub reads_list : {X : Type 0} {r : Reader X} {t : X → List ℕ} {f : X → Type 0} → Reads r t f → ((x : X) → f x → begins_item (t x) ≡ true)
    → Reads (read_list r) (λ xs. list_text (map t xs)) (ListFits f)
unfolding read_list
reads_list {X} {r} {t} {f} p begins = record {
  takes = λ text xs rest is.
      let a = bind_some (behind 91 text) (λ t. read_list_end r t >>= if_few) (xs, rest) is in
      let b = bind_some (read_list_end r a.0) if_few (xs, rest) a.2 in
      let c = cond_some _ _ _ b.2 in
      let h = list_end_takes r t f p a.0 b.0.0 b.0.1 b.1 in
      subst (λ (z : List X × List ℕ). (text ≡ list_text (map t z.0) ++ z.1) × ListFits f z.0) c.1
      (behind_some 91 text a.0 a.1 ∙ ap (λ (z : List ℕ). 91 ∷ z) h.0, (ltb-true _ _ c.0, h.1));
  again = λ xs rest fit end. list_again r t f p begins xs rest fit;
}
