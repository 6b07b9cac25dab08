-- Stretches under their ends: where one is taken out, put in, or cut.
use Rattle.std.proofs.Common.{◌≡◌, ◌≢◌, ℕ, ◌+◌, ◌-◌, ◌<◌, ◌≤◌, true, refl, ap, sym, subst, ◌∙◌, List, length, Option, Some, None, is_some, min, max, arith, inl, inr}
use Rattle.std.specs.Option.{option_or, option_and_then}
use Rattle.std.specs.Ordering.{nat_cmp}
use Rattle.std.specs.Cmp.{nat_cmp_total}
use Rattle.std.specs.FinMap as map
use Rattle.std.proofs.lemmas.Bool.{cases_lt, cases_eq}
use Rattle.gfx_table.specs.Slots.{least_above}
use Rattle.gfx_table.specs.Rows.{least_above-higher, same_rows, insert_again}
use Rattle.gfx_shadow.specs.Writes.{memory_limit}
use Rattle.gfx_shadow.specs.Overlay.{nothing, without, either, IsFirst, IsDropped}
use Rattle.gfx_shadow.specs.Stretch.{stretch_byte, HasRoom}
use Rattle.gfx_shadow.specs.ByEnd.{byte_of, AreApart, Touches, IsClear, IsHull, Fits}
use Rattle.gfx_shadow.specs.declared.stretch.Stretch.{Stretch}
use Rattle.gfx_shadow.proofs.Keys.{none_between, none_past, least_there, inserted, insert_beside, removed, remove_beside}
use Rattle.gfx_shadow.proofs.First.{without_before, without_after, without_here}
use Rattle.gfx_shadow.proofs.StretchBytes.{before_is_none, behind_is_none, is_inside, or_first, or_second}

abbrev pub Map : Type 0
Map = map.FinMap nat_cmp Stretch

-- all of the first are in the second
abbrev pub AreAmong : Map → Map → Type 0
AreAmong n m = (key : ℕ) (s : Stretch) → map.get n key ≡ Some s → map.get m key ≡ Some s

among_apart : (m n : Map) → AreAmong n m → AreApart m → AreApart n
among_apart m n among are = record {
  some = λ key s e. are.some key s (among key s e);
  ends = λ key s e. are.ends key s (among key s e);
  apart = λ p q r s e g l. are.apart p q r s (among p r e) (among q s g) l;
}

pub among_hull : (m n : Map) (from to : ℕ) → AreAmong n m → IsHull m from to → IsHull n from to
among_hull m n from to among hull = record {
  low = λ key s e l. hull.low key s (among key s e) l;
  high = λ key s e l. hull.high key s (among key s e) l;
}

same_stretch : (o : Option Stretch) (r s : Stretch) → o ≡ Some r → o ≡ Some s → r ≡ s
same_stretch o r s e g = cc

pub there : (o : Option Stretch) → is_some o ≡ true → (s : Stretch) × (o ≡ Some s)
there None e = absurd (cc)
there (Some s) e = (s, refl)

-- ---- the byte at an offset

byte_here : (m : Map) (key : ℕ) (s : Stretch) (i : ℕ) → AreApart m → map.get m key ≡ Some s → s.start ≤ i → i < key → byte_of m i ≡ stretch_byte s i
unfolding byte_of
byte_here m key s i are here low high = by (least_above m i) refl
  where
    by : (o : Option ℕ) → least_above m i ≡ o → option_and_then (λ s. stretch_byte s i) (option_and_then (map.get m) (least_above m i)) ≡ stretch_byte s i
    by None e = absurd (let none = none_past m i key e high in cc)
    by (Some q) e = elim (cases_lt q key) [
      | inl l ↦
          let r = there (map.get m q) (least_there m i q e) in
          let apart = are.apart q key r.0 s r.1 here l in
          let above = least_above-higher m i q e in
          absurd (omega (arith, apart, above, low))
      | inr l ↦ elim (cases_lt key q) [
        | inl u ↦ absurd (let none = none_between m i q key e high u in cc)
        | inr u ↦
            let same : q ≡ key = omega (arith, l, u) in
            ap (λ o. option_and_then (λ s. stretch_byte s i) (option_and_then (map.get m) o)) e
            ∙ ap (option_and_then (λ s. stretch_byte s i)) (ap (map.get m) same ∙ here)
      ]
    ]

byte_from : (m : Map) (i b : ℕ) → byte_of m i ≡ Some b → (key : ℕ) × (s : Stretch) × (map.get m key ≡ Some s) × (stretch_byte s i ≡ Some b)
unfolding byte_of
byte_from m i b e = by (least_above m i) e
  where
    at : (q : ℕ) (o : Option Stretch) → map.get m q ≡ o → option_and_then (λ s. stretch_byte s i) o ≡ Some b → (key : ℕ) × (s : Stretch) × (map.get m key ≡ Some s) × (stretch_byte s i ≡ Some b)
    at q None g e = absurd (cc)
    at q (Some s) g e = (q, s, g, e)

    by : (o : Option ℕ) → option_and_then (λ s. stretch_byte s i) (option_and_then (map.get m) o) ≡ Some b → (key : ℕ) × (s : Stretch) × (map.get m key ≡ Some s) × (stretch_byte s i ≡ Some b)
    by None e = absurd (cc)
    by (Some q) e = at q (map.get m q) refl e

byte_none : (m : Map) (i : ℕ) → ((key : ℕ) (s : Stretch) → map.get m key ≡ Some s → stretch_byte s i ≡ None) → byte_of m i ≡ None
byte_none m i h = by (byte_of m i) refl
  where
    by : (o : Option ℕ) → byte_of m i ≡ o → o ≡ None
    by None e = refl
    by (Some b) e = let f = byte_from m i b e in absurd (let none = h f.0 f.1 f.2 in let some = f.3 in cc)

-- a stretch more, or one less
one_more : (m n : Map) (key : ℕ) (s : Stretch) → AreApart n → map.get m key ≡ None → map.get n key ≡ Some s → ((q : ℕ) → q ≢ key → map.get n q ≡ map.get m q)
    → byte_of n ≡ either (stretch_byte s) (byte_of m)
one_more m n key s are absent here others = λ d i. each i d
  where
    apart_key : (q : ℕ) (r : Stretch) → map.get m q ≡ Some r → q ≢ key
    apart_key q r e same = absurd (let none = ap (map.get m) same ∙ absent in cc)

    less : AreApart m
    less = among_apart n m (λ q r e. others q (apart_key q r e) ∙ e) are

    at : (q : ℕ) (r : Stretch) (i b : ℕ) (m : Map) → AreApart m → map.get m q ≡ Some r → stretch_byte r i ≡ Some b → byte_of m i ≡ Some b
    at q r i b m are e g =
        let in_r = is_inside r i b g in
        byte_here m q r i are e in_r.0 (subst (λ n. i < n) (are.ends q r e) in_r.1) ∙ g

    none : (i : ℕ) → stretch_byte s i ≡ None → byte_of m i ≡ None → (q : ℕ) (r : Stretch) → map.get n q ≡ Some r → stretch_byte r i ≡ None
    none i e g q r h = elim (cases_eq q key) [
      | inl same ↦ ap (λ x. stretch_byte x i) (same_stretch (map.get n key) r s (ap (map.get n) (sym same) ∙ h) here) ∙ e
      | inr ne ↦ by (stretch_byte r i) refl (sym (others q ne) ∙ h)
    ]
      where
        by : (o : Option ℕ) → stretch_byte r i ≡ o → map.get m q ≡ Some r → o ≡ None
        by None k l = refl
        by (Some b) k l = absurd (let some = at q r i b m less l k in cc)

    each : (i : ℕ) → byte_of n i ≡ either (stretch_byte s) (byte_of m) i
    each i = by (stretch_byte s i) (byte_of m i) refl refl
      where
        by : (o p : Option ℕ) → stretch_byte s i ≡ o → byte_of m i ≡ p → byte_of n i ≡ option_or (stretch_byte s i) (byte_of m i)
        by (Some b) p e g = at key s i b n are here e ∙ sym (or_first (stretch_byte s i) (byte_of m i) b e ∙ e)
        by None (Some b) e g =
            let f = byte_from m i b g in
            at f.0 f.1 i b n are (others f.0 (apart_key f.0 f.1 f.2) ∙ f.2) f.3 ∙ sym (or_second (stretch_byte s i) (byte_of m i) e ∙ g)
        by None None e g = byte_none n i (none i e g) ∙ sym (or_second (stretch_byte s i) (byte_of m i) e ∙ g)

-- ---- a stretch is taken out

module _ (m : Map) (key : ℕ) (s : Stretch) (are : AreApart m) (here : map.get m key ≡ Some s) where
  pub less_among : AreAmong (map.remove m key) m
  less_among q r e = elim (cases_eq q key) [
    | inl same ↦ absurd (let none = ap (map.get (map.remove m key)) same ∙ removed m key in cc)
    | inr ne ↦ sym (remove_beside m key q ne) ∙ e
  ]

  pub less_apart : AreApart (map.remove m key)
  less_apart = among_apart m (map.remove m key) less_among are

  pub less_bytes : either (stretch_byte s) (byte_of (map.remove m key)) ≡ byte_of m
  less_bytes = sym (one_more (map.remove m key) m key s are (removed m key) here (λ q ne. sym (remove_beside m key q ne)))

  pub less_clear : IsClear (map.remove m key) s.start s.end
  less_clear q r e = elim (cases_eq q key) [
    | inl same ↦ absurd (let none = ap (map.get (map.remove m key)) same ∙ removed m key in cc)
    | inr ne ↦ let old = less_among q r e in let end = are.ends key s here in elim (cases_lt q key) [
      | inl l ↦ inl (are.apart q key r s old here l)
      | inr l ↦ inr (let h = are.apart key q s r here old (omega (arith, l, ne)) in omega (arith, h, end))
    ]
  ]

pub len_less : (m : Map) (key : ℕ) (s : Stretch) → map.get m key ≡ Some s → map.len (map.remove m key) < map.len m
len_less m key s here =
    let back : map.insert (map.remove m key) key s ≡ m = same_rows (map.insert (map.remove m key) key s) m (λ q. elim (cases_eq q key) [
      | inl same ↦ ap (map.get (map.insert (map.remove m key) key s)) same ∙ inserted (map.remove m key) key s ∙ sym (ap (map.get m) same ∙ here)
      | inr ne ↦ insert_beside (map.remove m key) key q s ne ∙ remove_beside m key q ne
    ]) in
    let a = ap map.len back in
    let b = map.len-insert nat_cmp_total (map.remove m key) key s in
    let c = ap is_some (removed m key) in
    grind (arith, a, b, c)

-- ---- a stretch is put in

module _ (m : Map) (s : Stretch) (are : AreApart m) (some : s.start < s.end) (clear : IsClear m s.start s.end) where
  n : Map
  n = map.insert m s.end s

  absent : map.get m s.end ≡ None
  absent = by (map.get m s.end) refl
    where
      by : (o : Option Stretch) → map.get m s.end ≡ o → o ≡ None
      by None e = refl
      by (Some r) e = absurd (elim (clear s.end r e) [
        | inl l ↦ omega (arith, l, some)
        | inr l ↦ let a = are.some s.end r e in let b = are.ends s.end r e in omega (arith, l, a, b)
      ])

  here : (q : ℕ) (r : Stretch) → map.get n q ≡ Some r → q ≡ s.end → r ≡ s
  unfolding n
  here q r e same = same_stretch (map.get (map.insert m s.end s) s.end) r s (ap (map.get (map.insert m s.end s)) (sym same) ∙ e) (inserted m s.end s)

  old : (q : ℕ) (r : Stretch) → map.get n q ≡ Some r → q ≢ s.end → map.get m q ≡ Some r
  unfolding n
  old q r e ne = sym (insert_beside m s.end q s ne) ∙ e

  pub more_apart : AreApart (map.insert m s.end s)
  unfolding n
  more_apart = record {
    some = λ q r e. elim (cases_eq q s.end) [
      | inl same ↦ subst (λ x. x.start < x.end) (sym (here q r e same)) some
      | inr ne ↦ are.some q r (old q r e ne)
    ];
    ends = λ q r e. elim (cases_eq q s.end) [
      | inl same ↦ ap (λ x. x.end) (here q r e same) ∙ sym same
      | inr ne ↦ are.ends q r (old q r e ne)
    ];
    apart = λ p q r t e g l. elim (cases_eq p s.end) [
      | inl same ↦
          let ne : q ≢ s.end = omega (arith, l, same) in
          elim (clear q t (old q t g ne)) [
            | inl low ↦ absurd (omega (arith, low, some, l, same))
            | inr high ↦ omega (arith, high, same)
          ]
      | inr ne ↦ elim (cases_eq q s.end) [
        | inl is ↦
            let is_s = here q t g is in
            let end = are.ends p r (old p r e ne) in
            let has = are.some p r (old p r e ne) in
            subst (λ x. p < x.start) (sym is_s) (elim (clear p r (old p r e ne)) [
              | inl low ↦ low
              | inr high ↦ absurd (omega (arith, high, end, has, l, is))
            ])
        | inr other ↦ are.apart p q r t (old p r e ne) (old q t g other) l
      ]
    ];
  }

  pub more_bytes : byte_of (map.insert m s.end s) ≡ either (stretch_byte s) (byte_of m)
  more_bytes = one_more m (map.insert m s.end s) s.end s more_apart absent (inserted m s.end s) (λ q ne. insert_beside m s.end q s ne)

-- a stretch without bytes
pub empty_bytes : (s : Stretch) (f : ℕ → Option ℕ) → s.end ≤ s.start → either (stretch_byte s) f ≡ f
empty_bytes s f none = λ d i. or_second (stretch_byte s i) (f i) (elim (cases_lt i s.start) [ inl l ↦ before_is_none s i l | inr l ↦ behind_is_none s i (omega (arith, l, none)) ]) d

-- a stretch in place of the one that was there
set_again : (m : Map) (key : ℕ) (t : Stretch) → t.end ≡ key → (s : Stretch) (n : Map) → n ≡ map.insert (map.insert m key s) key t → n ≡ map.insert (map.remove m key) t.end t
set_again m key t end s n is =
    is ∙ insert_again m key s t
    ∙ same_rows (map.insert m key t) (map.insert (map.remove m key) key t) (λ q. elim (cases_eq q key) [
      | inl same ↦ ap (map.get (map.insert m key t)) same ∙ inserted m key t ∙ sym (ap (map.get (map.insert (map.remove m key) key t)) same ∙ inserted (map.remove m key) key t)
      | inr ne ↦ insert_beside m key q t ne ∙ sym (remove_beside m key q ne) ∙ sym (insert_beside (map.remove m key) key q t ne)
    ])
    ∙ ap (λ k. map.insert (map.remove m key) k t) (sym end)

pub remove_set : (m : Map) (key : ℕ) (s : Stretch) → map.remove (map.insert m key s) key ≡ map.remove m key
remove_set m key s = same_rows (map.remove (map.insert m key s) key) (map.remove m key) (λ q. elim (cases_eq q key) [
  | inl same ↦ ap (map.get (map.remove (map.insert m key s) key)) same ∙ removed (map.insert m key s) key ∙ sym (ap (map.get (map.remove m key)) same ∙ removed m key)
  | inr ne ↦ remove_beside (map.insert m key s) key q ne ∙ insert_beside m key q s ne ∙ sym (remove_beside m key q ne)
])

-- what a shorter stretch does not touch
still_clear : (m : Map) (s t : Stretch) → s.start ≤ t.start → t.end ≡ s.end → IsClear m s.start s.end → IsClear m t.start t.end
still_clear m s t start end clear q r e = elim (clear q r e) [ inl l ↦ inl (omega (arith, l, start)) | inr l ↦ inr (omega (arith, l, end)) ]

-- a stretch in place of one that began before it and ended where it does
pub cut_apart : (m : Map) (key : ℕ) (s t between : Stretch) (n : Map) → AreApart m → map.get m key ≡ Some s → s.start ≤ t.start → t.end ≡ s.end → t.start < t.end → n ≡ map.insert (map.insert m key between) key t
    → AreApart n × (byte_of n ≡ either (stretch_byte t) (byte_of (map.remove m key)))
cut_apart m key s t between n are here start end some is =
    let same = set_again m key t (end ∙ are.ends key s here) between n is in
    let less = less_apart m key s are here in
    let clear = still_clear (map.remove m key) s t start end (less_clear m key s are here) in
    (subst AreApart (sym same) (more_apart (map.remove m key) t less some clear), ap byte_of same ∙ more_bytes (map.remove m key) t less some clear)

-- ---- the first run

-- the stretch of the first run, before the others
module _ (m : Map) (key : ℕ) (s : Stretch) (are : AreApart m) (here : map.get m key ≡ Some s) (least : least_above m 0 ≡ Some key) where
  g : ℕ → Option ℕ
  g = byte_of (map.remove m key)

  none_before_others : (i : ℕ) → i ≤ s.end → byte_of (map.remove m key) i ≡ None
  none_before_others i l = byte_none (map.remove m key) i (λ q r e.
      let old = less_among m key s are here q r e in
      let a = are.some q r old in let b = are.ends q r old in let end = are.ends key s here in
      elim (cases_eq q key) [
        | inl same ↦ absurd (let none = ap (map.get (map.remove m key)) same ∙ removed m key in cc)
        | inr ne ↦ elim (cases_lt q key) [
          | inl u ↦ absurd (let none = none_between m 0 key q least (omega (arith, a, b)) u in cc)
          | inr u ↦ let h = are.apart key q s r here old (omega (arith, u, ne)) in before_is_none r i (omega (arith, h, l, end))
        ]
      ])

  run_inside : (at : ℕ) (bytes : List ℕ) → IsFirst (stretch_byte s) at bytes → at + length bytes ≤ s.end
  run_inside at bytes first =
      let some = first.some in
      let last = is_inside s (at + (length bytes - 1)) _ (first.same (length bytes - 1) (omega (arith, some))) in
      let h = last.1 in omega (arith, some, h)

  pub first_of : (at : ℕ) (bytes : List ℕ) → IsFirst (stretch_byte s) at bytes → IsFirst (byte_of m) at bytes
  first_of at bytes first =
      let inside = run_inside at bytes first in let some = first.some in
      let is : (i : ℕ) → i ≤ s.end → byte_of m i ≡ stretch_byte s i =
      λ i l. ap (λ f. f i) (sym (less_bytes m key s are here)) ∙ or_none_second (stretch_byte s i) (byte_of (map.remove m key) i) (none_before_others i l) in
      record {
        before = λ i l. is i (omega (arith, l, inside, some)) ∙ first.before i l;
        some = some;
        same = λ k l. is (at + k) (omega (arith, l, inside)) ∙ first.same k l;
        window = first.window;
        ends = elim first.ends [ inl z ↦ inl z | inr none ↦ inr (is (at + length bytes) inside ∙ none) ];
      }
    where
      or_none_second : (a b : Option ℕ) → b ≡ None → option_or a b ≡ a
      or_none_second None b e = e
      or_none_second (Some x) b e = refl

  pub dropped_of : (n : Map) (t : Stretch) → IsDropped (stretch_byte s) (stretch_byte t) → byte_of n ≡ either (stretch_byte t) (byte_of (map.remove m key)) → IsDropped (byte_of m) (byte_of n)
  dropped_of n t d bytes = record {
    at = d.at;
    bytes = d.bytes;
    first = first_of d.at d.bytes d.first;
    left = bytes ∙ (λ e i. each i e) ∙ ap (without d.at (length d.bytes)) (less_bytes m key s are here);
  }
    where
      each : (i : ℕ) → either (stretch_byte t) (byte_of (map.remove m key)) i ≡ without d.at (length d.bytes) (either (stretch_byte s) (byte_of (map.remove m key))) i
      each i =
          let inside = run_inside d.at d.bytes d.first in
          let left = ap (λ f. option_or (f i) (byte_of (map.remove m key) i)) d.left in
          elim (cases_lt i d.at) [
            | inl l ↦ left ∙ ap (λ o. option_or o (byte_of (map.remove m key) i)) (without_before d.at (length d.bytes) (stretch_byte s) i l) ∙ sym (without_before d.at (length d.bytes) _ i l)
            | inr l ↦ elim (cases_lt i (d.at + length d.bytes)) [
              | inl u ↦ left ∙ ap (λ o. option_or o (byte_of (map.remove m key) i)) (without_here d.at (length d.bytes) (stretch_byte s) i l u) ∙ none_before_others i (omega (arith, u, inside))
                  ∙ sym (without_here d.at (length d.bytes) _ i l u)
              | inr u ↦ left ∙ ap (λ o. option_or o (byte_of (map.remove m key) i)) (without_after d.at (length d.bytes) (stretch_byte s) i u) ∙ sym (without_after d.at (length d.bytes) _ i u)
            ]
          ]

-- no stretches
pub none_at_all : (m : Map) → AreApart m → least_above m 0 ≡ None → byte_of m ≡ nothing
none_at_all m are least = λ d i. byte_none m i (λ q r e. let a = are.some q r e in let b = are.ends q r e in absurd (let none = none_past m 0 q least (omega (arith, a, b)) in cc)) d

pub no_stretches : (m : Map) → m ≡ map.empty → AreApart m
no_stretches m e = record {
  some = λ q r h. absurd (none q r h);
  ends = λ q r h. absurd (none q r h);
  apart = λ p q r s h k l. absurd (none p r h);
}
  where
    none : (q : ℕ) (r : Stretch) → map.get m q ≡ Some r → ⊥
    none q r h = absurd (let a = ap (λ x. map.get x q) e ∙ map.get-empty nat_cmp q in cc)

pub no_bytes : (m : Map) → m ≡ map.empty → byte_of m ≡ nothing
no_bytes m e = λ d i. byte_none m i (λ q r h. absurd (let a = ap (λ x. map.get x q) e ∙ map.get-empty nat_cmp q in cc)) d

-- no byte lies above the limit
pub all_below : (m : Map) → (i : ℕ) → memory_limit ≤ i → byte_of m i ≡ None
all_below m i l = byte_none m i (λ q r e. let a = r.inside in let b = r.below in behind_is_none r i (omega (arith, a, b, l)))

-- ---- what touches offsets

-- the first stretch that ends at an offset or behind it begins too far behind, and so do all
pub clear_from : (m : Map) (before from to key : ℕ) (s : Stretch) → AreApart m → before ≡ from - 1 → least_above m before ≡ Some key → map.get m key ≡ Some s → to < s.start → IsClear m from to
clear_from m before from to key s are near least here far q r e =
    let a = are.some q r e in let b = are.ends q r e in
    elim (cases_lt q from) [
      | inl l ↦ inl l
      | inr l ↦ inr (elim (cases_lt q key) [
        | inl u ↦ absurd (let none = none_between m before key q least (omega (arith, l, near, a, b)) u in cc)
        | inr u ↦ elim (cases_lt key q) [
          | inl v ↦ let h = are.apart key q s r here e v in let c = are.some key s here in let d = are.ends key s here in omega (arith, h, far, c, d)
          | inr v ↦
              let same : q ≡ key = omega (arith, u, v) in
              let is = same_stretch (map.get m key) s r here (ap (map.get m) (sym same) ∙ e) in
              subst (λ x. to < x.start) is far
        ]
      ])
    ]

pub clear_none : (m : Map) (before from to : ℕ) → AreApart m → before ≡ from - 1 → least_above m before ≡ None → IsClear m from to
clear_none m before from to are near least q r e =
    let a = are.some q r e in let b = are.ends q r e in
    elim (cases_lt q from) [
      | inl l ↦ inl l
      | inr l ↦ absurd (let none = none_past m before q least (omega (arith, l, near, a, b)) in cc)
    ]

-- ---- a stretch is joined to one that was taken out

pub joined_bytes : (m : Map) (key : ℕ) (s : Stretch) (f : ℕ → Option ℕ) → AreApart m → map.get m key ≡ Some s → either (either f (stretch_byte s)) (byte_of (map.remove m key)) ≡ either f (byte_of m)
joined_bytes m key s f are here = (λ d i. three (f i) (stretch_byte s i) (byte_of (map.remove m key) i) d) ∙ ap (either f) (less_bytes m key s are here)
  where
    three : (a b c : Option ℕ) → option_or (option_or a b) c ≡ option_or a (option_or b c)
    three None b c = refl
    three (Some x) b c = refl

pub joined_fits : (m : Map) (s t old new : Stretch) → AreApart m → Fits m old → Touches m old.start old.end t → map.get m t.end ≡ Some s
    → new.start ≡ min old.start s.start → new.end ≡ max old.end s.end → ((from to : ℕ) → HasRoom old from to → HasRoom new from to) → Fits (map.remove m t.end) new
joined_fits m s t old new are fits touches here start end room =
    let same = same_stretch (map.get m t.end) t s touches.here here in
    let before = touches.low in let behind : s.start ≤ old.end = subst (λ x. x.start ≤ old.end) same touches.high in
    let low = fits.low in let high = fits.high in let its_end = are.ends t.end s here in
    let first = fits.hull.low t.end s here (omega (arith, before, low)) in
    let last = fits.hull.high t.end s here (omega (arith, behind, high)) in
    record {
      from = fits.from;
      to = fits.to;
      hull = among_hull m (map.remove m t.end) fits.from fits.to (less_among m t.end s are here) fits.hull;
      room = room fits.from fits.to fits.room;
      low = omega (arith, low, first, start);
      high = omega (arith, high, last, end, its_end);
    }
