-- The numbers of names, as names are defined one after the other.
use Rattle.std.proofs.Common.{◌≡◌, ℕ, zero, suc, ◌+◌, ◌<◌, ◌≤◌, nat_eq, ◌&&◌, ◌||◌, Bool, true, false, cond, List, [], ◌∷◌, ◌++◌, map, length, take, drop, Option, Some, None, is_some, refl, sym, ap, subst, ◌∙◌, arith, append_assoc, append-nil}
use Rattle.std.specs.List.{list_any, position_from}
use Rattle.std.proofs.Common.{get_or}
use Rattle.std.specs.Str.{bytes_eq}
use Rattle.std.specs.List.{list_all}
use Rattle.std.specs.BTreeMap.{BTreeMap}
use Rattle.std.proofs.lemmas.List.{length-map, map-append, take_more}
use Rattle.std.specs.Option.{unwrap_or}
use Rattle.std.specs.Cmp.Lexicographic.{bytes_decides}
use Rattle.std.proofs.lemmas.Bool.Decides.{nat_tests}
use Rattle.std.proofs.lemmas.Bool.{and_parts, and_from}
use Rattle.std.proofs.Common.{Bor}
use Rattle.gfx_model.specs.Checks.{same_list}
use Rattle.gfx_script_model.specs.Names.{is_name}
use Rattle.gfx_script_model.specs.Scripts.{Defined, number_of, may_use, repeats, define}
use Rattle.gfx_text_grammar.proofs.Lists.{same_list-true}
use Rattle.gfx_script.specs.declared.key.Key.{Key}
use Rattle.gfx_script.specs.declared.names.Definition.{Definition}
use Rattle.gfx_script.specs.Keys.{key_of}
use Rattle.gfx_script.proofs.Keys.{keys_tie}
use Rattle.gfx_script.specs.Numbered.{definition_of, place_of, nothing_defined, allowed_at, ArePlaces, PutsPlace, is_taken, clashes}

-- the first of two that is there
abbrev pub first_of : Option ℕ → Option ℕ → Option ℕ
first_of (Some n) o = Some n
first_of None o = o

-- ---- positions

position-append : {X : Type 0} (t : X → Bool) (i : ℕ) (xs : List X) (y : X) → position_from t i (xs ++ y ∷ []) ≡ first_of (position_from t i xs) (cond (t y) (Some (i + length xs)) None)
position-append t i [] y = ap (λ n. cond (t y) (Some n) None) (let e : i ≡ i + 0 = omega arith in e)
position-append t i (x ∷ xs) y = by (t x) (position-append t (i + 1) xs y)
  where
    by : (b : Bool) → position_from t (i + 1) (xs ++ y ∷ []) ≡ first_of (position_from t (i + 1) xs) (cond (t y) (Some (i + 1 + length xs)) None)
        → cond b (Some i) (position_from t (i + 1) (xs ++ y ∷ [])) ≡ first_of (cond b (Some i) (position_from t (i + 1) xs)) (cond (t y) (Some (i + length (x ∷ xs))) None)
    by true h = refl
    by false h = h ∙ ap (λ n. first_of (position_from t (i + 1) xs) (cond (t y) (Some n) None)) (let e : i + 1 + length xs ≡ i + suc (length xs) = omega arith in e)

position-within : {X : Type 0} (t : X → Bool) (i : ℕ) (xs : List X) (n : ℕ) → position_from t i xs ≡ Some n → (i ≤ n) × (n < i + length xs)
position-within t i [] n h = absurd cc
position-within t i (x ∷ xs) n h = by (t x) (position-within t (i + 1) xs n) h
  where
    by : (b : Bool) → (position_from t (i + 1) xs ≡ Some n → (i + 1 ≤ n) × (n < i + 1 + length xs)) → cond b (Some i) (position_from t (i + 1) xs) ≡ Some n
        → (i ≤ n) × (n < i + length (x ∷ xs))
    by true more e = let same : i ≡ n = cc in (omega arith, omega arith)
    by false more e = let w = more e in (omega (arith, w.0), omega (arith, w.1))

-- a number is one of the definitions'
pub number-within : (allowed : Defined → Bool) (names : List Defined) (text : List ℕ) (n : ℕ) → number_of allowed names text ≡ Some n → (1 ≤ n) × (n ≤ length names)
number-within allowed names text n h =
    let w = position-within (λ d. same_list d.name text && allowed d) 1 names n h in (w.0, omega (arith, w.1))

-- the number of a name with one more definition
pub number-push : (allowed : Defined → Bool) (names : List Defined) (d : Defined) (text : List ℕ)
    → number_of allowed (names ++ d ∷ []) text ≡ first_of (number_of allowed names text) (cond (same_list d.name text && allowed d) (Some (length names + 1)) None)
number-push allowed names d text =
    position-append (λ d. same_list d.name text && allowed d) 1 names d
    ∙ ap (λ n. first_of (number_of allowed names text) (cond (same_list d.name text && allowed d) (Some n) None)) (let e : 1 + length names ≡ length names + 1 = omega arith in e)

-- a number stays when more names are defined
pub number-stays : (names more : List Defined) (text : List ℕ) (n : ℕ) → number_of (λ d. true) names text ≡ Some n → number_of (λ d. true) (names ++ more) text ≡ Some n
number-stays names [] text n h = ap (λ (z : List Defined). number_of (λ d. true) z text) (append-nil names) ∙ h
number-stays names (d ∷ more) text n h =
    let one : number_of (λ d. true) (names ++ d ∷ []) text ≡ Some n =
    number-push (λ d. true) names d text ∙ ap (λ o. first_of o (cond (same_list d.name text && true) (Some (length names + 1)) None)) h in
    ap (λ (z : List Defined). number_of (λ d. true) z text) (sym (append_assoc names (d ∷ []) more)) ∙ number-stays (names ++ d ∷ []) more text n one

-- ---- words

pub same-bytes : (xs ys : List ℕ) → same_list xs ys ≡ bytes_eq xs ys
same-bytes [] [] = refl
same-bytes [] (y ∷ ys) = refl
same-bytes (x ∷ xs) [] = refl
same-bytes (x ∷ xs) (y ∷ ys) = ap (λ b. nat_eq x y && b) (same-bytes xs ys)

pub same_list-same : (xs : List ℕ) → same_list xs xs ≡ true
same_list-same [] = refl
same_list-same (x ∷ xs) = ap (λ b. b && same_list xs xs) (let e : nat_eq x x ≡ true = grind (arith, nat_tests) in e) ∙ same_list-same xs

-- ---- places

abbrev all : Defined → Bool
all d = true

abbrev has_name : Defined → Bool
has_name d = is_name d.name

-- what is defined is a name
name-defined : (allowed : Defined → Bool) (i : ℕ) (names : List Defined) (text : List ℕ) (n : ℕ) → list_all has_name names ≡ true
    → position_from (λ d. same_list d.name text && allowed d) i names ≡ Some n → is_name text ≡ true
name-defined allowed i [] text n named h = absurd cc
name-defined allowed i (d ∷ names) text n named h =
    let p = and_parts (has_name d) (list_all has_name names) named in by (same_list d.name text) refl (name-defined allowed (i + 1) names text n p.1) h p.0
  where
    others : Option ℕ
    others = position_from (λ d. same_list d.name text && allowed d) (i + 1) names

    by : (b : Bool) → same_list d.name text ≡ b → (others ≡ Some n → is_name text ≡ true) → cond (b && allowed d) (Some i) others ≡ Some n → has_name d ≡ true → is_name text ≡ true
    by true e more k name = ap is_name (sym (same_list-true d.name text e)) ∙ name
    by false e more k name = more k

-- the place of a name is one of the names'
pub place-within : (names : List Defined) (places : BTreeMap Key ℕ) (text : List ℕ) (i : ℕ) → ArePlaces names places → is_name text ≡ true → place_of places text ≡ Some i → i < length names
place-within names places text i are name h =
    let w = number-within all names text (i + 1) (are.placed all text name ∙ ap (allowed_at all names) h) in omega (arith, w.1)

-- the definitions first are as they were
front_same : (names : List Defined) (d : Defined) (i : ℕ) → i < length names → get_or (names ++ d ∷ []) i nothing_defined ≡ get_or names i nothing_defined
front_same [] d i l = absurd (omega arith)
front_same (n ∷ names) d zero l = refl
front_same (n ∷ names) d (suc i) l = front_same names d i (omega arith)

last_is : (names : List Defined) (d : Defined) → get_or (names ++ d ∷ []) (length names) nothing_defined ≡ d
last_is [] d = refl
last_is (n ∷ names) d = last_is names d

allowed-front : (allowed : Defined → Bool) (names : List Defined) (d : Defined) (o : Option ℕ) → ((i : ℕ) → o ≡ Some i → i < length names)
    → allowed_at allowed names o ≡ allowed_at allowed (names ++ d ∷ []) o
allowed-front allowed names d None h = refl
allowed-front allowed names d (Some i) h = ap (λ z. cond (allowed z) (Some (i + 1)) None) (sym (front_same names d i (h i refl)))

named-push : (names : List Defined) (d : Defined) → list_all has_name names ≡ true → has_name d ≡ true → list_all has_name (names ++ d ∷ []) ≡ true
named-push [] d h k = and_from _ _ k refl
named-push (n ∷ names) d h k = let p = and_parts (has_name n) (list_all has_name names) h in and_from _ _ p.0 (named-push names d p.1 k)

-- one more name, which was not there
pub places-push : (names : List Defined) (d : Defined) (old new : BTreeMap Key ℕ) → ArePlaces names old → is_name d.name ≡ true → place_of old d.name ≡ None
    → ((text : List ℕ) → is_name text ≡ true → place_of new text ≡ cond (bytes_eq d.name text) (Some (length names)) (place_of old text))
    → ArePlaces (names ++ d ∷ []) new
places-push names d old new are name none puts = record { named = named-push names d are.named name; placed = placed }
  where
    first_none : (o : Option ℕ) → first_of o None ≡ o
    first_none None = refl
    first_none (Some n) = refl

    by : (allowed : Defined → Bool) (text : List ℕ) → is_name text ≡ true → (b : Bool) → bytes_eq d.name text ≡ b
        → first_of (allowed_at allowed names (place_of old text)) (cond (same_list d.name text && allowed d) (Some (length names + 1)) None)
        ≡ allowed_at allowed (names ++ d ∷ []) (cond b (Some (length names)) (place_of old text))
    by allowed text h true e =
        let same : same_list d.name text ≡ true = same-bytes d.name text ∙ e in
        let not_there : place_of old text ≡ None = ap (place_of old) (sym (same_list-true d.name text same)) ∙ none in
        ap (λ o. first_of (allowed_at allowed names o) (cond (same_list d.name text && allowed d) (Some (length names + 1)) None)) not_there
        ∙ ap (λ c. cond (c && allowed d) (Some (length names + 1)) None) same
        ∙ ap (λ z. cond (allowed z) (Some (length names + 1)) None) (sym (last_is names d))
    by allowed text h false e =
        let other : same_list d.name text ≡ false = same-bytes d.name text ∙ e in
        ap (λ c. first_of (allowed_at allowed names (place_of old text)) (cond (c && allowed d) (Some (length names + 1)) None)) other
        ∙ first_none (allowed_at allowed names (place_of old text))
        ∙ allowed-front allowed names d (place_of old text) (λ i k. place-within names old text i are h k)

    placed : (allowed : Defined → Bool) (text : List ℕ) → is_name text ≡ true → number_of allowed (names ++ d ∷ []) text ≡ allowed_at allowed (names ++ d ∷ []) (place_of new text)
    placed allowed text h =
        number-push allowed names d text
        ∙ ap (λ o. first_of o (cond (same_list d.name text && allowed d) (Some (length names + 1)) None)) (are.placed allowed text h)
        ∙ by allowed text h (bytes_eq d.name text) refl ∙ ap (allowed_at allowed (names ++ d ∷ [])) (sym (puts text h))

-- the definition at a place
pub definition-at : (items : List Definition) (i : ℕ) (d : Definition) → i < length items → d ≡ get_or items i d → get_or (map definition_of items) i nothing_defined ≡ definition_of d
definition-at [] i d l e = absurd (omega arith)
definition-at (x ∷ xs) zero d l e = ap definition_of (sym e)
definition-at (x ∷ xs) (suc i) d l e = definition-at xs i d (omega arith) e

-- a name is taken where it has a place
pub taken-place : (names : List Defined) (places : BTreeMap Key ℕ) (text : List ℕ) → ArePlaces names places → is_name text ≡ true → is_taken names text ≡ is_some (place_of places text)
taken-place names places text are name = ap is_some (are.placed all text name) ∙ by (place_of places text)
  where
    by : (o : Option ℕ) → is_some (allowed_at all names o) ≡ is_some o
    by None = refl
    by (Some i) = refl

-- a name that may be used has its number among all names
pub only-number : (allowed : Defined → Bool) (names : List Defined) (places : BTreeMap Key ℕ) (text : List ℕ) (n : ℕ) → ArePlaces names places
    → number_of allowed names text ≡ Some n → number_of all names text ≡ Some n
only-number allowed names places text n are h =
    let name = name-defined allowed 1 names text n are.named h in
    are.placed all text name ∙ by (place_of places text) (sym (are.placed allowed text name) ∙ h)
  where
    by : (o : Option ℕ) → allowed_at allowed names o ≡ Some n → allowed_at all names o ≡ Some n
    by None e = absurd cc
    by (Some i) e = at (allowed (get_or names i nothing_defined)) e
      where
        at : (b : Bool) → cond b (Some (i + 1)) None ≡ Some n → Some (i + 1) ≡ Some n
        at true k = k
        at false k = absurd cc

-- what a map has at each name after a change at one
place-puts : (old new : BTreeMap Key ℕ) (name : List ℕ) (i : ℕ) → is_name name ≡ true → PutsPlace (key_of name) i old new
    → (text : List ℕ) → is_name text ≡ true → place_of new text ≡ cond (bytes_eq name text) (Some i) (place_of old text)
place-puts old new name i is h text k = h (key_of text) ∙ ap (λ b. cond b (Some i) (place_of old text)) (keys_tie name text is k)

-- ---- the names of a line

-- one more name is defined
pub taken-push : (names : List Defined) (d : Defined) (text : List ℕ) → is_taken (names ++ d ∷ []) text ≡ (is_taken names text || same_list d.name text)
taken-push names d text = ap is_some (number-push all names d text) ∙ by (number_of all names text) (same_list d.name text)
  where
    by : (o : Option ℕ) (b : Bool) → is_some (first_of o (cond (b && true) (Some (length names + 1)) None)) ≡ (is_some o || b)
    by (Some n) b = refl
    by None true = refl
    by None false = refl

any-push : (names : List Defined) (d : Defined) (texts : List (List ℕ))
    → list_any (is_taken (names ++ d ∷ [])) texts ≡ (list_any (is_taken names) texts || list_any (same_list d.name) texts)
any-push names d [] = refl
any-push names d (t ∷ ts) =
    (λ i. taken-push names d t i || any-push names d ts i)
    ∙ by (is_taken names t) (same_list d.name t) (list_any (is_taken names) ts) (list_any (same_list d.name) ts)
  where
    by : (a b c e : Bool) → ((a || b) || (c || e)) ≡ ((a || c) || (b || e))
    by true b c e = refl
    by false true true e = refl
    by false true false e = refl
    by false false c e = refl

-- names clash where the first one is taken, or the others clash once it is defined
pub clash-step : (names : List Defined) (d : Defined) (ts : List (List ℕ)) → clashes names (d.name ∷ ts) ≡ (is_taken names d.name || clashes (names ++ d ∷ []) ts)
clash-step names d ts =
    by (is_taken names d.name) (list_any (is_taken names) ts) (list_any (same_list d.name) ts) (repeats ts)
    ∙ ap (λ b. is_taken names d.name || (b || repeats ts)) (sym (any-push names d ts))
  where
    by : (a b c e : Bool) → ((a || b) || (c || e)) ≡ (a || ((b || c) || e))
    by true b c e = refl
    by false true c e = refl
    by false false c e = refl

-- names are defined one after the other
pub define-step : (phase thread : ℕ) (names : List Defined) (t : List ℕ) (ts : List (List ℕ))
    → define phase thread names (t ∷ ts) ≡ define phase thread (define phase thread names (t ∷ [])) ts
define-step phase thread names t ts = sym (append_assoc names (record { name = t; phase = phase; thread = thread } ∷ []) (map (λ u. record { name = u; phase = phase; thread = thread }) ts))

-- ---- the loop over the names of a line

module _ (phase thread : ℕ) where
  -- what a loop over the names of a line keeps: the names so far are defined, none of them was taken, and their numbers
  pub record Defined_so_far (before now : List Defined) (texts : List (List ℕ)) (i : ℕ) (numbers : List ℕ) : Type 0 where
    pub names : now ≡ define phase thread before (take i texts)
    pub clash : clashes before texts ≡ clashes now (drop i texts)
    pub told : map (number_of (λ d. true) now) (take i texts) ≡ map Some numbers

  -- the numbers of names stay when one more is defined
  numbers_stay : (now : List Defined) (d : Defined) (texts : List (List ℕ)) (numbers : List ℕ) → map (number_of (λ d. true) now) texts ≡ map Some numbers
      → map (number_of (λ d. true) (now ++ d ∷ [])) texts ≡ map Some numbers
  numbers_stay now d [] numbers h = h
  numbers_stay now d (t ∷ ts) [] h = absurd cc
  numbers_stay now d (t ∷ ts) (n ∷ ns) h =
      let first : number_of (λ d. true) now t ≡ Some n = cc in
      let rest : map (number_of (λ d. true) now) ts ≡ map Some ns = cc in
      λ i. number-stays now (d ∷ []) t n first i ∷ numbers_stay now d ts ns rest i

  -- the record of a definition
  abbrev defined_as : List ℕ → Defined
  defined_as t = record { name = t; phase = phase; thread = thread }

  not_there : (o : Option ℕ) → is_some o ≡ false → o ≡ None
  not_there None h = refl
  not_there (Some n) h = absurd cc

  new_number : (now : List Defined) (t : List ℕ) → is_taken now t ≡ false → number_of (λ d. true) (now ++ defined_as t ∷ []) t ≡ Some (length now + 1)
  new_number now t new =
      number-push (λ d. true) now (defined_as t) t
      ∙ ap (λ o. first_of o (cond (same_list t t && true) (Some (length now + 1)) None)) (not_there (number_of (λ d. true) now t) new)
      ∙ ap (λ b. cond (b && true) (Some (length now + 1)) None) (same_list-same t)

  -- one name more is defined
  pub so_far_goes_on : (before now after : List Defined) (texts : List (List ℕ)) (i : ℕ) (numbers : List ℕ) (n : ℕ) (t : List ℕ) → i < length texts → t ≡ get_or texts i []
      → Defined_so_far before now texts i numbers → is_taken now t ≡ false → after ≡ define phase thread now (t ∷ []) → n ≡ length now + 1
      → Defined_so_far before after texts (i + 1) (numbers ++ n ∷ [])
  so_far_goes_on before now after texts i numbers n t l at h new is number =
      let more : take (i + 1) texts ≡ take i texts ++ t ∷ [] = take_more texts i [] l ∙ ap (λ (z : List ℕ). take i texts ++ z ∷ []) (sym at) in
      let left : drop i texts ≡ t ∷ drop (i + 1) texts = drop_more texts i l ∙ ap (λ (z : List ℕ). z ∷ drop (i + 1) texts) (sym at) in
      record {
        names =
            is ∙ ap (λ (z : List Defined). z ++ defined_as t ∷ []) h.names
            ∙ append_assoc before (map defined_as (take i texts)) (defined_as t ∷ [])
            ∙ ap (λ (z : List Defined). before ++ z) (sym (map-append defined_as (take i texts) (t ∷ [])))
            ∙ ap (define phase thread before) (sym more);
        clash =
            h.clash ∙ ap (clashes now) left ∙ clash-step now (defined_as t) (drop (i + 1) texts)
            ∙ ap (λ b. b || clashes (now ++ defined_as t ∷ []) (drop (i + 1) texts)) new
            ∙ ap (λ (z : List Defined). clashes z (drop (i + 1) texts)) (sym is);
        told =
            ap (map (number_of (λ d. true) after)) more
            ∙ ap (λ (z : List Defined). map (number_of (λ d. true) z) (take i texts ++ t ∷ [])) is
            ∙ map-append (number_of (λ d. true) (now ++ defined_as t ∷ [])) (take i texts) (t ∷ [])
            ∙ (λ j. numbers_stay now (defined_as t) (take i texts) numbers h.told j ++ new_number now t new j ∷ [])
            ∙ ap (λ k. map Some numbers ++ Some k ∷ []) (sym number)
            ∙ sym (map-append Some numbers (n ∷ []));
      }
    where
      drop_more : (ts : List (List ℕ)) (k : ℕ) → k < length ts → drop k ts ≡ get_or ts k [] ∷ drop (k + 1) ts
      drop_more [] k l = absurd (omega arith)
      drop_more (u ∷ us) zero l = refl
      drop_more (u ∷ us) (suc k) l = drop_more us k (omega arith) ∙ ap (λ n. get_or us k [] ∷ drop n (u ∷ us)) (let e : suc (k + 1) ≡ suc k + 1 = omega arith in e)

  -- a taken name makes a clash
  pub so_far_clashes : (before now : List Defined) (texts : List (List ℕ)) (i : ℕ) (numbers : List ℕ) → i < length texts
      → Defined_so_far before now texts i numbers → is_taken now (get_or texts i []) ≡ true → clashes before texts ≡ true
  so_far_clashes before now texts i numbers l h taken =
      h.clash ∙ ap (clashes now) (drop_more texts i l) ∙ clash-step now (defined_as (get_or texts i [])) (drop (i + 1) texts)
      ∙ ap (λ b. b || clashes (now ++ defined_as (get_or texts i []) ∷ []) (drop (i + 1) texts)) taken
    where
      drop_more : (ts : List (List ℕ)) (k : ℕ) → k < length ts → drop k ts ≡ get_or ts k [] ∷ drop (k + 1) ts
      drop_more [] k l = absurd (omega arith)
      drop_more (u ∷ us) zero l = refl
      drop_more (u ∷ us) (suc k) l = drop_more us k (omega arith) ∙ ap (λ n. get_or us k [] ∷ drop n (u ∷ us)) (let e : suc (k + 1) ≡ suc k + 1 = omega arith in e)

-- ---- for the methods of `Names`

module _ (items : List Definition) (places : BTreeMap Key ℕ) (text : List ℕ) (are : ArePlaces (map definition_of items) places) (name : is_name text ≡ true) where
  -- a place is one of the definitions'
  pub place-few : (i : ℕ) → place_of places text ≡ Some i → i < length items
  place-few i at = omega (arith, place-within (map definition_of items) places text i are name at, length-map items definition_of)

  -- the number of a name by the definition at its place
  pub number-found : (phase thread : ℕ) (names : List Defined) (i : ℕ) (d : Definition) (b : Bool) → map definition_of items ≡ names
      → place_of places text ≡ Some i → d ≡ get_or items i d → b ≡ may_use phase thread (definition_of d) → number_of (may_use phase thread) names text ≡ cond b (Some (i + 1)) None
  number-found phase thread names i d b view at is within =
      ap (λ (z : List Defined). number_of (may_use phase thread) z text) (sym view)
      ∙ are.placed (may_use phase thread) text name ∙ ap (allowed_at (may_use phase thread) (map definition_of items)) at
      ∙ ap (λ (z : Defined). cond (may_use phase thread z) (Some (i + 1)) None) (definition-at items i d (place-few i at) is)
      ∙ ap (λ c. cond c (Some (i + 1)) None) (sym within)

  -- the place behind all others is that of no name
  pub place-new : (found : ℕ) → found ≡ unwrap_or (place_of places text) (length items) → found ≡ length items → place_of places text ≡ None
  place-new found is new = by (place_of places text) refl is
    where
      by : (o : Option ℕ) → place_of places text ≡ o → found ≡ unwrap_or o (length items) → o ≡ None
      by None at e = refl
      by (Some i) at e = absurd (omega (arith, place-few i at, e, new))

  -- each other place is that of the name
  pub place-old : (found : ℕ) → found ≡ unwrap_or (place_of places text) (length items) → (found ≡ length items → ⊥) → place_of places text ≡ Some found
  place-old found is other = by (place_of places text) is
    where
      by : (o : Option ℕ) → found ≡ unwrap_or o (length items) → o ≡ Some found
      by None e = absurd (other e)
      by (Some i) e = ap Some (sym e)

  -- the name is as new as its place
  pub taken-is : (names : List Defined) (o : Option ℕ) → map definition_of items ≡ names → place_of places text ≡ o → is_taken names text ≡ is_some o
  taken-is names o view at = ap (λ (z : List Defined). is_taken z text) (sym view) ∙ taken-place (map definition_of items) places text are name ∙ ap is_some at

  -- a name that has a place keeps it
  pub places-stay : (new : BTreeMap Key ℕ) (i : ℕ) → place_of places text ≡ Some i → PutsPlace (key_of text) i places new → ArePlaces (map definition_of items) new
  places-stay new i at h = record {
    named = are.named;
    placed = λ allowed other k. are.placed allowed other k ∙ ap (allowed_at allowed (map definition_of items)) (by other (bytes_eq text other) refl ∙ sym (place-puts places new text i name h other k));
  }
    where
      by : (other : List ℕ) (b : Bool) → bytes_eq text other ≡ b → place_of places other ≡ cond b (Some i) (place_of places other)
      by other true e = ap (place_of places) (sym ((bytes_decides text other).0 e)) ∙ at
      by other false e = refl

  -- a name that had none has the place behind all others
  pub places-defined : (new : BTreeMap Key ℕ) (d : Definition) → d.name.now ≡ text → place_of places text ≡ None → PutsPlace (key_of text) (length items) places new
      → ArePlaces (map definition_of (items ++ d ∷ [])) new
  places-defined new d is none h =
      subst (λ (z : List Defined). ArePlaces z new) (sym (map-append definition_of items (d ∷ [])))
      (places-push (map definition_of items) (definition_of d) places new are (ap is_name is ∙ name) (ap (place_of places) is ∙ none)
      (λ other k. place-puts places new text (length items) name h other k
      ∙ ap (λ (z : List ℕ). cond (bytes_eq z other) (Some (length items)) (place_of places other)) (sym is)
      ∙ ap (λ n. cond (bytes_eq d.name.now other) (Some n) (place_of places other)) (sym (length-map items definition_of))))

-- the text of a word
pub text-at : (words : List (Bor (List ℕ))) (i : ℕ) (d : Bor (List ℕ)) → i < length words → get_or (map (λ t. t.now) words) i [] ≡ (get_or words i d).now
text-at [] i d l = absurd (omega arith)
text-at (w ∷ ws) zero d l = refl
text-at (w ∷ ws) (suc i) d l = text-at ws i d (omega arith)
