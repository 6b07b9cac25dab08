-- Readers that read what others do, with other values.
use Rattle.std.proofs.Common.{◌≡◌, ℕ, zero, suc, ◌^◌, nat_eq, nat_lt, Bool, true, false, cond, List, [], ◌∷◌, ◌++◌, length, map, Option, Some, None, refl, ap, ◌∙◌, codes}
use Prim.Native.String.{String}
use Rattle.std.proofs.lemmas.List.{length-map}
use Rattle.gfx_grammar.specs.Reading.{◌>>=◌, Reader}
use Rattle.gfx_grammar.specs.Rows.{if_none_left}
use Rattle.gfx_text_grammar.specs.Words.{word_of, after_word}
use Rattle.gfx_text_grammar.specs.Reading.{read_word, behind, read_comma, ◌⊗◌, read_between, read_as, read_record, read_more, read_items, read_list_end, if_few, read_list}
use Rattle.gfx_text_grammar.specs.FieldReading.{Left, FieldReader, whole, without_front, read_first, named_value, read_field, read_apart, read_both, ◌⊛◌}

-- what is read, with another value
abbrev pub mapped : {X Y T : Type 0} → (X → Y) → Option (X × T) → Option (Y × T)
mapped f read = read >>= λ x. Some (f x.0, x.1)

-- two values, each with another
abbrev pub both_of : {A B : Type 0} → (A → A) → (B → B) → A × B → A × B
both_of g h x = (g x.0, h x.1)

-- the second reader reads what the first one does, with other values
abbrev pub MapsAt : {X : Type 0} → (X → X) → Reader X → Reader X → Type 0
MapsAt g r q = (text : List ℕ) → q text ≡ mapped g (r text)

-- ---- words and records

pub word_at : {X : Type 0} (g : X → X) (v : List ℕ → Option X) → MapsAt g (read_word v) (read_word (λ word. v word >>= λ x. Some (g x)))
unfolding read_word
word_at {X} g v text = by (v (word_of text))
  where
    by : (o : Option X) → ((o >>= λ x. Some (g x)) >>= λ x. Some (x, after_word text)) ≡ mapped g (o >>= λ x. Some (x, after_word text))
    by None = refl
    by (Some x) = refl

-- a reader without ids
pub same_at : {X : Type 0} (r : Reader X) → MapsAt (λ x. x) r r
same_at {X} r text = by (r text)
  where
    by : (o : Option (X × List ℕ)) → o ≡ mapped (λ x. x) o
    by None = refl
    by (Some x) = refl

pub comma_at : {A B : Type 0} (g : A → A) (h : B → B) (r q : Reader A) (s t : Reader B) → MapsAt g r q → MapsAt h s t → MapsAt (both_of g h) (r ⊗ s) (q ⊗ t)
unfolding read_comma
comma_at {A} {B} g h r q s t p k text =
    ap (λ (o : Option (A × List ℕ)). o >>= λ x. behind 44 x.1 >>= λ u. t u >>= λ y. Some ((x.0, y.0), y.1)) (p text) ∙ by (r text)
  where
    last : (x : A) (o : Option (B × List ℕ)) → (mapped h o >>= λ y. Some ((g x, y.0), y.1)) ≡ mapped (both_of g h) (o >>= λ y. Some ((x, y.0), y.1))
    last x None = refl
    last x (Some y) = refl

    middle : (x : A) (o : Option (List ℕ)) → (o >>= λ u. t u >>= λ y. Some ((g x, y.0), y.1))
        ≡ mapped (both_of g h) (o >>= λ u. s u >>= λ y. Some ((x, y.0), y.1))
    middle x None = refl
    middle x (Some u) = ap (λ (o : Option (B × List ℕ)). o >>= λ y. Some ((g x, y.0), y.1)) (k u) ∙ last x (s u)

    by : (o : Option (A × List ℕ)) → (mapped g o >>= λ x. behind 44 x.1 >>= λ u. t u >>= λ y. Some ((x.0, y.0), y.1))
        ≡ mapped (both_of g h) (o >>= λ x. behind 44 x.1 >>= λ u. s u >>= λ y. Some ((x.0, y.0), y.1))
    by None = refl
    by (Some x) = middle x.0 (behind 44 x.1)

pub between_at : {X : Type 0} (g : X → X) (front back : ℕ) (r q : Reader X) → MapsAt g r q → MapsAt g (read_between front back r) (read_between front back q)
unfolding read_between
between_at {X} g front back r q p text = by (behind front text)
  where
    last : (x : X) (o : Option (List ℕ)) → (o >>= λ u. Some (g x, u)) ≡ mapped g (o >>= λ u. Some (x, u))
    last x None = refl
    last x (Some u) = refl

    middle : (o : Option (X × List ℕ)) → (mapped g o >>= λ x. behind back x.1 >>= λ u. Some (x.0, u)) ≡ mapped g (o >>= λ x. behind back x.1 >>= λ u. Some (x.0, u))
    middle None = refl
    middle (Some x) = last x.0 (behind back x.1)

    by : (o : Option (List ℕ)) → (o >>= λ t. q t >>= λ x. behind back x.1 >>= λ u. Some (x.0, u)) ≡ mapped g (o >>= λ t. r t >>= λ x. behind back x.1 >>= λ u. Some (x.0, u))
    by None = refl
    by (Some t) = ap (λ (o : Option (X × List ℕ)). o >>= λ x. behind back x.1 >>= λ u. Some (x.0, u)) (p t) ∙ middle (r t)

pub as_at : {X Y : Type 0} (build : X → Y) (g : X → X) (k : Y → Y) (r q : Reader X) → ((x : X) → build (g x) ≡ k (build x)) → MapsAt g r q → MapsAt k (read_as build r) (read_as build q)
unfolding read_as
as_at {X} {Y} build g k r q same p text = ap (λ (o : Option (X × List ℕ)). o >>= λ x. Some (build x.0, x.1)) (p text) ∙ by (r text)
  where
    by : (o : Option (X × List ℕ)) → (mapped g o >>= λ x. Some (build x.0, x.1)) ≡ mapped k (o >>= λ x. Some (build x.0, x.1))
    by None = refl
    by (Some x) = ap (λ (y : Y). Some (y, x.1)) (same x.0)

-- ---- lists

pub more_at : {X : Type 0} (g : X → X) (r q : Reader (List X)) → MapsAt (map g) r q → MapsAt (map g) (read_more r) (read_more q)
more_at g r q p [] = refl
more_at {X} g r q p (c ∷ text) = by (nat_eq c 93) (nat_eq c 44)
  where
    by : (b d : Bool) → cond b (Some ([], text)) (cond d (q text) None) ≡ mapped (map g) (cond b (Some ([], text)) (cond d (r text) None))
    by true d = refl
    by false true = p text
    by false false = refl

pub items_at : {X : Type 0} (g : X → X) (r q : Reader X) → MapsAt g r q → (turns : ℕ) → MapsAt (map g) (read_items r turns) (read_items q turns)
unfolding read_items
items_at g r q p zero text = refl
items_at {X} g r q p (suc turns) text = ap (λ (o : Option (X × List ℕ)). o >>= λ x. read_more (read_items q turns) x.1 >>= λ xs. Some (x.0 ∷ xs.0, xs.1)) (p text) ∙ by (λ t. items_at g r q p turns t) (r text)
  where
    last : (x : X) (o : Option (List X × List ℕ)) → (mapped (map g) o >>= λ xs. Some (g x ∷ xs.0, xs.1)) ≡ mapped (map g) (o >>= λ xs. Some (x ∷ xs.0, xs.1))
    last x None = refl
    last x (Some xs) = refl

    by : MapsAt (map g) (read_items r turns) (read_items q turns) → (o : Option (X × List ℕ)) → (mapped g o >>= λ x. read_more (read_items q turns) x.1 >>= λ xs. Some (x.0 ∷ xs.0, xs.1))
        ≡ mapped (map g) (o >>= λ x. read_more (read_items r turns) x.1 >>= λ xs. Some (x.0 ∷ xs.0, xs.1))
    by more None = refl
    by more (Some x) =
        ap (λ (o : Option (List X × List ℕ)). o >>= λ xs. Some (g x.0 ∷ xs.0, xs.1)) (more_at g (read_items r turns) (read_items q turns) more x.1)
        ∙ last x.0 (read_more (read_items r turns) x.1)

pub end_at : {X : Type 0} (g : X → X) (r q : Reader X) → MapsAt g r q → MapsAt (map g) (read_list_end r) (read_list_end q)
end_at g r q p [] = refl
end_at {X} g r q p (c ∷ text) = by (nat_eq c 93)
  where
    by : (b : Bool) → cond b (Some ([], text)) (read_items q (suc (length text)) (c ∷ text)) ≡ mapped (map g) (cond b (Some ([], text)) (read_items r (suc (length text)) (c ∷ text)))
    by true = refl
    by false = items_at g r q p (suc (length text)) (c ∷ text)

pub few_at : {X : Type 0} (g : X → X) (o : Option (List X × List ℕ)) → (mapped (map g) o >>= if_few) ≡ mapped (map g) (o >>= if_few)
few_at g None = refl
few_at {X} g (Some xs) = ap (λ n. cond (nat_lt n (2 ^ 32)) (Some (map g xs.0, xs.1)) None) (length-map xs.0 g) ∙ by (nat_lt (length xs.0) (2 ^ 32))
  where
    by : (b : Bool) → cond b (Some (map g xs.0, xs.1)) None ≡ mapped (map g) (cond b (Some xs) None)
    by true = refl
    by false = refl

pub list_at : {X : Type 0} (g : X → X) (r q : Reader X) → MapsAt g r q → MapsAt (map g) (read_list r) (read_list q)
unfolding read_list
list_at {X} g r q p text = by (behind 91 text)
  where
    by : (o : Option (List ℕ)) → (o >>= λ t. read_list_end q t >>= if_few) ≡ mapped (map g) (o >>= λ t. read_list_end r t >>= if_few)
    by None = refl
    by (Some t) = ap (λ (o : Option (List X × List ℕ)). o >>= if_few) (end_at g r q p t) ∙ few_at g (read_list_end r t)

-- ---- fields

-- the same of fields
abbrev pub FieldsAt : {X : Type 0} → (X → X) → FieldReader X → FieldReader X → Type 0
FieldsAt g r q = (left : Left) → q left ≡ mapped g (r left)

-- the same of whole texts
abbrev pub WholeAt : {X : Type 0} → (X → X) → (List ℕ → Option X) → (List ℕ → Option X) → Type 0
WholeAt g v w = (text : List ℕ) → w text ≡ (v text >>= λ x. Some (g x))

pub whole_at : {X : Type 0} (g : X → X) (r q : Reader X) → MapsAt g r q → WholeAt g (whole r) (whole q)
unfolding whole
whole_at {X} g r q p text = ap (λ (o : Option (X × List ℕ)). o >>= λ x. if_none_left x.0 x.1) (p text) ∙ by (r text)
  where
    last : (x : X) (b : Bool) → cond b (Some (g x)) None ≡ (cond b (Some x) None >>= λ x. Some (g x))
    last x true = refl
    last x false = refl

    by : (o : Option (X × List ℕ)) → (mapped g o >>= λ x. if_none_left x.0 x.1) ≡ ((o >>= λ x. if_none_left x.0 x.1) >>= λ x. Some (g x))
    by None = refl
    by (Some x) = last x.0 (nat_eq (length x.1) 0)

pub named_at : {X : Type 0} (g : X → X) (r q : Reader X) (name : List ℕ) → MapsAt g r q → WholeAt g (named_value name r) (named_value name q)
named_at {X} g r q name p token = by (without_front (name ++ codes "=") token)
  where
    by : (o : Option (List ℕ)) → (o >>= whole q) ≡ ((o >>= whole r) >>= λ x. Some (g x))
    by None = refl
    by (Some t) = whole_at g r q p t

pub first_at : {X : Type 0} (g : X → X) (v w : List ℕ → Option X) → WholeAt g v w → (texts : List (List ℕ)) → read_first w texts ≡ mapped g (read_first v texts)
first_at g v w p [] = refl
first_at {X} g v w p (t ∷ ts) = ap (λ (o : Option X). o >>= λ x. Some (x, ts)) (p t) ∙ by (v t)
  where
    by : (o : Option X) → ((o >>= λ x. Some (g x)) >>= λ x. Some (x, ts)) ≡ mapped g (o >>= λ x. Some (x, ts))
    by None = refl
    by (Some x) = refl

pub field_at : {X : Type 0} (g : X → X) (r q : Reader X) (name : String) → MapsAt g r q → FieldsAt g (read_field name r) (read_field name q)
unfolding read_field
field_at {X} g r q name p left =
    ap (λ (o : Option (X × List (List ℕ))). o >>= λ x. Some (x.0, (left.0, x.1))) (first_at g (named_value (codes name) r) (named_value (codes name) q) (named_at g r q (codes name) p) left.1)
    ∙ by (read_first (named_value (codes name) r) left.1)
  where
    by : (o : Option (X × List (List ℕ))) → (mapped g o >>= λ x. let y : X × Left = (x.0, (left.0, x.1)) in Some y) ≡ mapped g (o >>= λ x. let y : X × Left = (x.0, (left.0, x.1)) in Some y)
    by None = refl
    by (Some x) = refl

pub apart_at : {X : Type 0} (g : X → X) (v w : List ℕ → Option X) → WholeAt g v w → FieldsAt g (read_apart v) (read_apart w)
apart_at {X} g v w p left =
    ap (λ (o : Option (X × List (List ℕ))). o >>= λ x. Some (x.0, (x.1, left.1))) (first_at g v w p left.0) ∙ by (read_first v left.0)
  where
    by : (o : Option (X × List (List ℕ))) → (mapped g o >>= λ x. let y : X × Left = (x.0, (x.1, left.1)) in Some y) ≡ mapped g (o >>= λ x. let y : X × Left = (x.0, (x.1, left.1)) in Some y)
    by None = refl
    by (Some x) = refl

pub both_at : {A B : Type 0} (g : A → A) (h : B → B) (r q : FieldReader A) (s t : FieldReader B) → FieldsAt g r q → FieldsAt h s t → FieldsAt (both_of g h) (r ⊛ s) (q ⊛ t)
unfolding read_both
both_at {A} {B} g h r q s t p k left = ap (λ (o : Option (A × Left)). o >>= λ x. t x.1 >>= λ y. Some ((x.0, y.0), y.1)) (p left) ∙ by (r left)
  where
    last : (x : A) (o : Option (B × Left)) → (mapped h o >>= λ y. Some ((g x, y.0), y.1)) ≡ mapped (both_of g h) (o >>= λ y. Some ((x, y.0), y.1))
    last x None = refl
    last x (Some y) = refl

    by : (o : Option (A × Left)) → (mapped g o >>= λ x. t x.1 >>= λ y. Some ((x.0, y.0), y.1)) ≡ mapped (both_of g h) (o >>= λ x. s x.1 >>= λ y. Some ((x.0, y.0), y.1))
    by None = refl
    by (Some x) = ap (λ (o : Option (B × Left)). o >>= λ y. Some ((g x.0, y.0), y.1)) (k x.1) ∙ last x.0 (s x.1)

-- ---- the same as facts

pub record Maps {X : Type 0} (g : X → X) (r q : Reader X) : Type 0 where
  pub fact : MapsAt g r q

pub record MapsFields {X : Type 0} (g : X → X) (r q : FieldReader X) : Type 0 where
  pub fact : FieldsAt g r q

pub record MapsWhole {X : Type 0} (g : X → X) (v w : List ℕ → Option X) : Type 0 where
  pub fact : WholeAt g v w

pub maps_word : {X : Type 0} (g : X → X) (v : List ℕ → Option X) → Maps g (read_word v) (read_word (λ word. v word >>= λ x. Some (g x)))
maps_word g v = record { fact = word_at g v }

pub maps_same : {X : Type 0} (r : Reader X) → Maps (λ x. x) r r
maps_same r = record { fact = same_at r }

pub maps_comma : {A B : Type 0} {g : A → A} {h : B → B} {r q : Reader A} {s t : Reader B} → Maps g r q → Maps h s t → Maps (both_of g h) (r ⊗ s) (q ⊗ t)
maps_comma {A} {B} {g} {h} {r} {q} {s} {t} p k = record { fact = comma_at g h r q s t p.fact k.fact }

pub maps_record : {X Y : Type 0} (build : X → Y) {g : X → X} (k : Y → Y) {r q : Reader X} → ((x : X) → build (g x) ≡ k (build x)) → Maps g r q → Maps k (read_record build r) (read_record build q)
maps_record build {g} k {r} {q} same p = record { fact = between_at k 40 41 (read_as build r) (read_as build q) (as_at build g k r q same p.fact) }

pub maps_list : {X : Type 0} {g : X → X} {r q : Reader X} → Maps g r q → Maps (map g) (read_list r) (read_list q)
maps_list {X} {g} {r} {q} p = record { fact = list_at g r q p.fact }

pub maps_whole : {X : Type 0} {g : X → X} {r q : Reader X} → Maps g r q → MapsWhole g (whole r) (whole q)
maps_whole {X} {g} {r} {q} p = record { fact = whole_at g r q p.fact }

pub maps_field : {X : Type 0} {g : X → X} {r q : Reader X} (name : String) → Maps g r q → MapsFields g (read_field name r) (read_field name q)
maps_field {X} {g} {r} {q} name p = record { fact = field_at g r q name p.fact }

pub maps_apart : {X : Type 0} {g : X → X} {v w : List ℕ → Option X} → MapsWhole g v w → MapsFields g (read_apart v) (read_apart w)
maps_apart {X} {g} {v} {w} p = record { fact = apart_at g v w p.fact }

pub maps_both : {A B : Type 0} {g : A → A} {h : B → B} {r q : FieldReader A} {s t : FieldReader B} → MapsFields g r q → MapsFields h s t → MapsFields (both_of g h) (r ⊛ s) (q ⊛ t)
maps_both {A} {B} {g} {h} {r} {q} {s} {t} p k = record { fact = both_at g h r q s t p.fact k.fact }
