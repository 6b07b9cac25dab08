-- Bytes with zeros in place of the fills that are dropped.
use Rattle.std.proofs.Common.{◌≡◌, ℕ, zero, suc, ◌+◌, ◌-◌, ◌*◌, ◌/◌, ◌<◌, ◌≤◌, min, Bool, true, false, refl, sym, ◌∙◌, ap, subst, arith, List, [], ◌∷◌, ◌++◌, filter_map, flat_map, map, Option, Some, None, cond, not, ◌==◌, ◌&&◌, ◌||◌, nat_le, nat_lt, ◌⊎◌, inl, inr}
use Rattle.std.specs.Prelude.{Contains, ◌^◌, ◌%◌}
use Rattle.std.specs.List.{AllByRecursion, list_any, range_with_len, cons_option}
use Rattle.std.specs.Option.{option_map_or}
use Rattle.std.proofs.lemmas.Bool.{eqb-true, eq-eqb, and_parts, and_from, both_ways, leb-true, ltb-true, le-leb, lt-ltb, or_left, or_right, or_cases, not-true, not_from_false}
use Rattle.gfx_types.specs.declared.op.Place.{Place}
use Rattle.gfx_types.specs.declared.op.Place.TheVariants as place
use Rattle.gfx_model.specs.Steps.{Object, Detail, Change}
use Rattle.gfx_model.specs.Steps.Detail.{a_memory}
use Rattle.gfx_model.specs.Steps.Change.{fill}
use Rattle.gfx_model.specs.Bytes.{byte, bytes_at, covers_byte, word_byte}
use Rattle.gfx_model.specs.Limits.{page_size}
use Rattle.gfx_model.specs.Section.{Span, page_fill, fills_of, nonzero, span_of}
use Rattle.gfx_model.specs.Checks.{is_among}
use Rattle.gfx_model.specs.Views.{detail_size}
use Rattle.gfx_model.proofs.Lists.{all_flat_map, filter_none}
use Rattle.gfx_laws.proofs.Lists.{all_range}
use Rattle.gfx_section_law.proofs.Picks.{filter-same}
use Rattle.gfx_section_law.proofs.Spans.{page_within}
use Rattle.std.proofs.Math.Nat.{zero-div}
use Rattle.gfx_laws.proofs.Cases.{by_test}
use Rattle.gfx_laws.proofs.Fills.{page_covers, nonzero_among, range_among, IsCovered}
use Rattle.gfx_lean_law.proofs.Contained.{contains_here, contains_flat, contains_among, contains_range}

-- a memory has one size
same_size : (p q m n : ℕ) → (let o : Object = record { parent = p; detail = a_memory m } in Some o) ≡ Some (record { parent = q; detail = a_memory n }) → m ≡ n
same_size p q m n e = ap (λ (l : Option Object). option_map_or (λ (o : Object). detail_size o.detail) l 0) e

-- which fills are kept, by memory, offset and length
abbrev pub Fills : Type 0
Fills = ℕ → ℕ → ℕ → Bool

-- the bytes of a page of n bytes
abbrev pub page_length : ℕ → ℕ → ℕ
page_length n p = min page_size (n - p * page_size)

-- a page has a fill, and it is dropped
abbrev pub is_dropped : Fills → (ℕ → ℕ) → ℕ → ℕ → ℕ → Bool
is_dropped keep f m n p = option_map_or (λ s. not (keep m s.at s.length)) (page_fill f n p) false

module _ (keep : Fills) (live : ℕ → Option Object) (es : List Change) where
  abbrev old : ℕ → ℕ → ℕ
  old m i = byte es (place.Memory m) i

  -- zeros over a page whose fill is dropped
  abbrev page_zeros : ℕ → ℕ → ℕ → List Change
  page_zeros m n p = cond (is_dropped keep (old m) m n p) (fill (place.Memory m) (p * page_size) (page_length n p) 0 ∷ []) []

  abbrev pages : ℕ → ℕ
  pages n = (n + (page_size - 1)) / page_size

  abbrev memory_zeros : ℕ → Detail → List Change
  memory_zeros m (a_memory n) = flat_map (page_zeros m n) (range_with_len 0 (pages n))
  memory_zeros m _ = []

  abbrev pub zeros : List ℕ → List Change
  zeros ids = flat_map (λ m. option_map_or (λ (o : Object). memory_zeros m o.detail) (live m) []) ids

  -- a change is such zeros
  record IsZeros (c : Change) : Type 0 where
    memory : ℕ
    parent : ℕ
    size : ℕ
    page : ℕ
    is_live : live memory ≡ Some (record { parent = parent; detail = a_memory size })
    dropped : is_dropped keep (old memory) memory size page ≡ true
    same : c ≡ fill (place.Memory memory) (page * page_size) (page_length size page) 0

  page_is : (m p n i : ℕ) → live m ≡ Some (record { parent = p; detail = a_memory n }) → AllByRecursion IsZeros (page_zeros m n i)
  page_is m p n i e = by (is_dropped keep (old m) m n i) refl
    where
      by : (t : Bool) → is_dropped keep (old m) m n i ≡ t → AllByRecursion IsZeros (cond t (fill (place.Memory m) (i * page_size) (page_length n i) 0 ∷ []) [])
      by true d = (record { memory = m; parent = p; size = n; page = i; is_live = e; dropped = d; same = refl }, tt)
      by false d = tt

  memory_is : (m p : ℕ) (d : Detail) → live m ≡ Some (record { parent = p; detail = d }) → AllByRecursion IsZeros (memory_zeros m d)
  memory_is m p (a_memory n) e = all_flat_map IsZeros (page_zeros m n) (λ i. page_is m p n i e) (range_with_len 0 (pages n))
  memory_is m p _ e = tt

  zeros_are : (ids : List ℕ) → AllByRecursion IsZeros (zeros ids)
  zeros_are ids = all_flat_map IsZeros (λ m. option_map_or (λ (o : Object). memory_zeros m o.detail) (live m) []) (λ m. by m (live m) refl) ids
    where
      by : (m : ℕ) (l : Option Object) → live m ≡ l → AllByRecursion IsZeros (option_map_or (λ (o : Object). memory_zeros m o.detail) l [])
      by m None e = tt
      by m (Some o) e = memory_is m o.parent o.detail e

  -- ---- bytes

  abbrev covers_of : Change → Place → ℕ → Bool
  covers_of (fill to offset n word) at i = covers_byte to offset n at i
  covers_of _ at i = false

  abbrev hits : List Change → Place → ℕ → Bool
  hits zs at i = list_any (λ c. covers_of c at i) zs

  zero_byte : (i : ℕ) → word_byte 0 i ≡ 0
  zero_byte i = ap (λ n. n % 256) (zero-div (256 ^ (i % 4)))

  hit_byte : (zs : List Change) → AllByRecursion IsZeros zs → (at : Place) (i : ℕ) → byte (zs ++ es) at i ≡ cond (hits zs at i) 0 (byte es at i)
  unfolding byte
  hit_byte [] a at i = refl
  hit_byte (c ∷ zs) a at i =
      subst (λ c. byte (c ∷ zs ++ es) at i ≡ cond (covers_of c at i || hits zs at i) 0 (byte es at i)) (sym (a.0).same)
      (by (place.Memory (a.0).memory) ((a.0).page * page_size) (covers_byte (place.Memory (a.0).memory) ((a.0).page * page_size) (page_length (a.0).size (a.0).page) at i) (hit_byte zs a.1 at i))
    where
      by : (to : Place) (offset : ℕ) (t : Bool) → byte (zs ++ es) at i ≡ cond (hits zs at i) 0 (byte es at i) →
          cond t (word_byte 0 (i - offset)) (byte (zs ++ es) at i) ≡ cond (t || hits zs at i) 0 (byte es at i)
      by to offset true e = zero_byte (i - offset)
      by to offset false e = e

  any_true : (P : Change → Type 0) (t : Change → Bool) (zs : List Change) → AllByRecursion P zs → list_any t zs ≡ true → (c : Change) × P c × (t c ≡ true)
  any_true P t [] a e = absurd (cc)
  any_true P t (c ∷ zs) a e = by (or_cases (t c) (list_any t zs) e) (any_true P t zs a.1)
    where
      by : (t c ≡ true) ⊎ (list_any t zs ≡ true) → (list_any t zs ≡ true → (c : Change) × P c × (t c ≡ true)) → (c : Change) × P c × (t c ≡ true)
      by (inl here) more = (c, a.0, here)
      by (inr rest) more = more rest

  any_contains : (t : Change → Bool) (zs : List Change) (c : Change) → Contains zs c → t c ≡ true → list_any t zs ≡ true
  any_contains t [] c there e = absurd (let low = there.1 in omega (arith, low))
  any_contains t (z ∷ zs) c (zero, low, is) e = or_left (t z) (list_any t zs) (ap t is ∙ e)
  any_contains t (z ∷ zs) c (suc i, low, is) e = or_right (t z) (list_any t zs) (any_contains t zs c (i, omega (arith, low), is) e)

  -- an index of a memory that is hit is in a page whose fill is dropped
  record IsHit (m i : ℕ) : Type 0 where
    parent : ℕ
    size : ℕ
    page : ℕ
    is_live : live m ≡ Some (record { parent = parent; detail = a_memory size })
    dropped : is_dropped keep (old m) m size page ≡ true
    low : page * page_size ≤ i
    high : i < page * page_size + page_length size page

  hit_page : (ids : List ℕ) (m i : ℕ) → hits (zeros ids) (place.Memory m) i ≡ true → IsHit m i
  hit_page ids m i e =
      let found = any_true IsZeros (λ c. covers_of c (place.Memory m) i) (zeros ids) (zeros_are ids) e in
      let z = found.1 in
      let covers : covers_byte (place.Memory z.memory) (z.page * page_size) (page_length z.size z.page) (place.Memory m) i ≡ true = ap (λ c. covers_of c (place.Memory m) i) (sym z.same) ∙ found.2 in
      let parts = and_parts ((z.memory == m) && nat_le (z.page * page_size) i) (nat_lt i (z.page * page_size + page_length z.size z.page)) covers in
      let first = and_parts (z.memory == m) (nat_le (z.page * page_size) i) parts.0 in
      let same : z.memory ≡ m = eqb-true z.memory m first.0 in
      record {
        parent = z.parent;
        size = z.size;
        page = z.page;
        is_live = ap live (sym same) ∙ z.is_live;
        dropped = ap (λ m. is_dropped keep (old m) m z.size z.page) (sym same) ∙ z.dropped;
        low = leb-true (z.page * page_size) i first.1;
        high = ltb-true i (z.page * page_size + page_length z.size z.page) parts.1;
      }

  no_hit : (ids : List ℕ) (x i : ℕ) → hits (zeros ids) (place.Image x) i ≡ false
  no_hit ids x i = by_test (hits (zeros ids) (place.Image x) i ≡ false) (hits (zeros ids) (place.Image x) i)
      (λ e. absurd (
      let found = any_true IsZeros (λ c. covers_of c (place.Image x) i) (zeros ids) (zeros_are ids) e in
      let no : false ≡ true = ap (λ c. covers_of c (place.Image x) i) (sym (found.1).same) ∙ found.2 in cc))
      (λ e. e)

  pub image_bytes_stay : (ids : List ℕ) (x i : ℕ) → byte (zeros ids ++ es) (place.Image x) i ≡ byte es (place.Image x) i
  image_bytes_stay ids x i = hit_byte (zeros ids) (zeros_are ids) (place.Image x) i ∙ ap (λ t. cond t 0 (byte es (place.Image x) i)) (no_hit ids x i)

  -- a byte is as it was, or zero
  pub byte_or_zero : (P : ℕ → Type 0) (ids : List ℕ) (at : Place) (i : ℕ) → P 0 → P (byte es at i) → P (byte (zeros ids ++ es) at i)
  byte_or_zero P ids at i none some = subst P (sym (hit_byte (zeros ids) (zeros_are ids) at i)) (by (hits (zeros ids) at i))
    where
      by : (t : Bool) → P (cond t 0 (byte es at i))
      by true = none
      by false = some

  -- ---- pages

  -- the fill of a dropped page
  dropped_fill : (m n p : ℕ) → is_dropped keep (old m) m n p ≡ true → (s : Span) × (page_fill (old m) n p ≡ Some s) × (keep m s.at s.length ≡ false)
  dropped_fill m n p d = by (page_fill (old m) n p) refl d
    where
      by : (o : Option Span) → page_fill (old m) n p ≡ o → option_map_or (λ s. not (keep m s.at s.length)) o false ≡ true → (s : Span) × (page_fill (old m) n p ≡ Some s) × (keep m s.at s.length ≡ false)
      by None e d = absurd (cc)
      by (Some s) e d = (s, e, not-true (keep m s.at s.length) d)

  -- A byte that changes is in a fill that is dropped: where no fill over an index is dropped, its byte stays.
  pub byte_stays : (ids : List ℕ) (m i : ℕ) → ((s : Span) → IsCovered i s → keep m s.at s.length ≡ true) → byte (zeros ids ++ es) (place.Memory m) i ≡ old m i
  byte_stays ids m i kept = hit_byte (zeros ids) (zeros_are ids) (place.Memory m) i ∙ by (hits (zeros ids) (place.Memory m) i) refl
    where
      by : (t : Bool) → hits (zeros ids) (place.Memory m) i ≡ t → cond t 0 (old m i) ≡ old m i
      by false e = refl
      by true e = by_test (0 ≡ old m i) (old m i == 0) (λ none. sym (eqb-true (old m i) 0 none)) (λ some.
          let h = hit_page ids m i e in
          let at = h.page * page_size in
          let n = page_length h.size h.page in
          let fill = dropped_fill m h.size h.page h.dropped in
          let there : is_among i (nonzero (old m) at n) ≡ true =
          nonzero_among (old m) at n i ∙ and_from (is_among i (range_with_len at n)) (not (old m i == 0)) (range_among at n i h.low h.high) (not_from_false (old m i == 0) some) in
          let found = page_covers (old m) at n i there in
          let both : Some found.0 ≡ Some fill.0 = sym found.1 ∙ fill.1 in
          let same : found.0 ≡ fill.0 = cc in
          absurd (both_ways (keep m (fill.0).at (fill.0).length) fill.2 (ap (λ (s : Span). keep m s.at s.length) (sym same) ∙ kept found.0 found.2)))

  -- ---- the fills of a live memory

  module _ (ids : List ℕ) (m parent n : ℕ) (is_live : live m ≡ Some (record { parent = parent; detail = a_memory n })) (among : is_among m ids ≡ true) where
    abbrev new : ℕ → ℕ
    new i = byte (zeros ids ++ es) (place.Memory m) i

    abbrev drops : ℕ → Bool
    drops p = is_dropped keep (old m) m n p

    page_hit : (p i : ℕ) → p < pages n → drops p ≡ true → p * page_size ≤ i → i < p * page_size + page_length n p → hits (zeros ids) (place.Memory m) i ≡ true
    page_hit p i below d low high =
        any_contains (λ c. covers_of c (place.Memory m) i) (zeros ids) (fill (place.Memory m) (p * page_size) (page_length n p) 0)
        (contains_flat (λ m. option_map_or (λ (o : Object). memory_zeros m o.detail) (live m) []) ids m _ (contains_among m ids among)
        (subst (λ l. Contains (option_map_or (λ (o : Object). memory_zeros m o.detail) l []) (fill (place.Memory m) (p * page_size) (page_length n p) 0)) (sym is_live)
        (contains_flat (page_zeros m n) (range_with_len 0 (pages n)) p _ (contains_range 0 (pages n) p (omega arith) (omega (arith, below)))
        (subst (λ t. Contains (cond t (fill (place.Memory m) (p * page_size) (page_length n p) 0 ∷ []) []) (fill (place.Memory m) (p * page_size) (page_length n p) 0)) (sym d)
        (contains_here (fill (place.Memory m) (p * page_size) (page_length n p) 0) [])))))
        (and_from ((m == m) && nat_le (p * page_size) i) _ (and_from (m == m) (nat_le (p * page_size) i) (eq-eqb m m refl) (le-leb (p * page_size) i low)) (lt-ltb i (p * page_size + page_length n p) high))

    page_missed : (p i : ℕ) → drops p ≡ false → p * page_size ≤ i → i < p * page_size + page_length n p → hits (zeros ids) (place.Memory m) i ≡ false
    page_missed p i d low high = by_test (hits (zeros ids) (place.Memory m) i ≡ false) (hits (zeros ids) (place.Memory m) i)
        (λ e. absurd (
        let h = hit_page ids m i e in
        let l = h.low in let u = h.high in
        let page : h.page ≡ p = omega (arith, l, u, low, high) in
        let size : h.size ≡ n = same_size h.parent parent h.size n (sym h.is_live ∙ is_live) in
        both_ways (drops p) d (subst (λ n. is_dropped keep (old m) m n p ≡ true) size (subst (λ p. is_dropped keep (old m) m h.size p ≡ true) page h.dropped))))
        (λ e. e)

    page_byte : (p i : ℕ) → p < pages n → p * page_size ≤ i → i < p * page_size + page_length n p → new i ≡ cond (drops p) 0 (old m i)
    page_byte p i below low high = hit_byte (zeros ids) (zeros_are ids) (place.Memory m) i ∙ ap (λ t. cond t 0 (old m i)) (by (drops p) refl)
      where
        by : (t : Bool) → drops p ≡ t → hits (zeros ids) (place.Memory m) i ≡ drops p
        by true d = page_hit p i below d low high ∙ sym d
        by false d = page_missed p i d low high ∙ sym d

    new_fill : (p : ℕ) → p < pages n → page_fill new n p ≡ cond (drops p) None (page_fill (old m) n p)
    new_fill p below = by (drops p) refl
      where
        at : ℕ
        at = p * page_size

        by : (t : Bool) → drops p ≡ t → span_of (nonzero new (p * page_size) (page_length n p)) ≡ cond t None (page_fill (old m) n p)
        by true d =
            ap span_of (filter_none (λ i. not (new i == 0)) (range_with_len (p * page_size) (page_length n p))
            (all_range (λ i. not (new i == 0) ≡ false) (p * page_size) (page_length n p)
            (λ i low high. ap (λ b. not (b == 0)) (page_byte p i below low high ∙ ap (λ t. cond t 0 (old m i)) d))))
        by false d =
            ap span_of (filter-same (λ i. not (new i == 0)) (λ i. not (old m i == 0)) (range_with_len (p * page_size) (page_length n p))
            (all_range (λ i. not (new i == 0) ≡ not (old m i == 0)) (p * page_size) (page_length n p)
            (λ i low high. ap (λ b. not (b == 0)) (page_byte p i below low high ∙ ap (λ t. cond t 0 (old m i)) d))))

    -- the bytes of a kept fill
    kept_bytes : (p : ℕ) → p < pages n → (s : Span) → page_fill (old m) n p ≡ Some s → keep m s.at s.length ≡ true →
        bytes_at (zeros ids ++ es) (place.Memory m) s.at s.length ≡ bytes_at es (place.Memory m) s.at s.length
    kept_bytes p below s e kept =
        let w = page_within (old m) (p * page_size) (page_length n p) (nonzero (old m) (p * page_size) (page_length n p)) refl s e in
        let b = w.begins in let f = w.ends in
        let d : drops p ≡ false = ap (λ o. option_map_or (λ (s : Span). not (keep m s.at s.length)) o false) e ∙ ap not kept in
        map-same (λ i. new i) (old m) (range_with_len s.at s.length)
        (all_range (λ i. new i ≡ old m i) s.at s.length (λ i low high. page_byte p i below (omega (arith, b, low)) (omega (arith, f, high)) ∙ ap (λ t. cond t 0 (old m i)) d))
      where
        map-same : (f g : ℕ → ℕ) (xs : List ℕ) → AllByRecursion (λ x. f x ≡ g x) xs → map f xs ≡ map g xs
        map-same f g [] a = refl
        map-same f g (x ∷ xs) a = ap (λ y. y ∷ map f xs) a.0 ∙ ap (λ r. g x ∷ r) (map-same f g xs a.1)

    -- the blocks of fills, those that are dropped left out
    module _ {X : Type 0} (block : ℕ → ℕ → List ℕ → X) where
      abbrev old_block : Span → X
      old_block s = block s.at s.length (bytes_at es (place.Memory m) s.at s.length)

      abbrev new_block : Span → X
      new_block s = block s.at s.length (bytes_at (zeros ids ++ es) (place.Memory m) s.at s.length)

      abbrev kept_block : Span → List X
      kept_block s = cond (keep m s.at s.length) (old_block s ∷ []) []

      page_blocks : (ps : List ℕ) → AllByRecursion (λ p. p < pages n) ps → map new_block (filter_map (page_fill new n) ps) ≡ flat_map kept_block (filter_map (page_fill (old m) n) ps)
      page_blocks [] a = refl
      page_blocks (p ∷ ps) a = by (page_fill (old m) n p) refl (page_blocks ps a.1)
        where
          by : (o : Option Span) → page_fill (old m) n p ≡ o → map new_block (filter_map (page_fill new n) ps) ≡ flat_map kept_block (filter_map (page_fill (old m) n) ps) →
              map new_block (cons_option (page_fill new n p) (filter_map (page_fill new n) ps)) ≡ flat_map kept_block (cons_option o (filter_map (page_fill (old m) n) ps))
          by None e more =
              ap (λ o. map new_block (cons_option o (filter_map (page_fill new n) ps)))
              (new_fill p a.0 ∙ ap (λ (o : Option Span). cond (option_map_or (λ (s : Span). not (keep m s.at s.length)) o false) None o) e)
              ∙ more
          by (Some s) e more = by_kept (keep m s.at s.length) refl
            where
              here : page_fill new n p ≡ cond (not (keep m s.at s.length)) None (Some s)
              here = new_fill p a.0 ∙ ap (λ (o : Option Span). cond (option_map_or (λ (s : Span). not (keep m s.at s.length)) o false) None o) e

              by_kept : (t : Bool) → keep m s.at s.length ≡ t →
                  map new_block (cons_option (page_fill new n p) (filter_map (page_fill new n) ps)) ≡ kept_block s ++ flat_map kept_block (filter_map (page_fill (old m) n) ps)
              by_kept true kept =
                  ap (λ o. map new_block (cons_option o (filter_map (page_fill new n) ps))) (here ∙ ap (λ t. cond {A = Option Span} (not t) None (Some s)) kept)
                  ∙ ap (λ b. block s.at s.length b ∷ map new_block (filter_map (page_fill new n) ps)) (kept_bytes p a.0 s e kept)
                  ∙ ap (λ r. old_block s ∷ r) more
                  ∙ sym (ap (λ t. cond t (old_block s ∷ []) [] ++ flat_map kept_block (filter_map (page_fill (old m) n) ps)) kept)
              by_kept false kept =
                  ap (λ o. map new_block (cons_option o (filter_map (page_fill new n) ps))) (here ∙ ap (λ t. cond {A = Option Span} (not t) None (Some s)) kept)
                  ∙ more
                  ∙ sym (ap (λ t. cond t (old_block s ∷ []) [] ++ flat_map kept_block (filter_map (page_fill (old m) n) ps)) kept)

      -- the fills of the new bytes are those of the old that are kept
      pub kept_fills : map new_block (fills_of new n) ≡ flat_map kept_block (fills_of (old m) n)
      unfolding fills_of
      kept_fills = page_blocks (range_with_len 0 (pages n)) (all_range (λ p. p < pages n) 0 (pages n) (λ p low high. omega (arith, high)))
