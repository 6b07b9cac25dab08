-- The bytes of a stretch that is moved, written, joined or cut.
use Rattle.std.proofs.Common.{◌≡◌, ℕ, ◌+◌, ◌-◌, ◌%◌, ◌<◌, ◌≤◌, cond, refl, ap, sym, ◌∙◌, List, ◌++◌, length, get_or, nat_le, nat_lt, ◌&&◌, replicate, slice_range, max, min, Option, Some, None, append_assoc, arith, ◌⊎◌, inl, inr}
use Rattle.std.specs.Option.{option_or}
use Rattle.std.proofs.lemmas.Bool.{cases_lt, le-leb, lt-ltb}
use Rattle.std.proofs.lemmas.Bool.Decides.{nat_tests}
use Rattle.std.proofs.lemmas.List.{length-replicate, get_or_append_left, get_or-append_right}
use Rattle.std.proofs.lemmas.List.Edits.{length-between, get_or-between}
use lib.Seq.{paste}
use Rattle.gfx_shadow.specs.Overlay.{overlay, without, either, IsFirst}
use Rattle.gfx_shadow.specs.Stretch.{stretch_byte}
use Rattle.gfx_shadow.specs.declared.stretch.Stretch.{Stretch}
use Rattle.gfx_shadow.proofs.Pastes.{paste_before, paste_here, paste_after}

-- the byte at an offset, where the offsets from one up to another have bytes
abbrev pub byte_in : ℕ → ℕ → ℕ → List ℕ → ℕ → Option ℕ
byte_in base start end bs i = cond (nat_le start i && nat_lt i end) (Some (get_or bs (i - base) 0)) None

none_before : (base start end : ℕ) (bs : List ℕ) (i : ℕ) → i < start → byte_in base start end bs i ≡ None
none_before base start end bs i l = grind (arith, nat_tests)

none_from : (base start end : ℕ) (bs : List ℕ) (i : ℕ) → end ≤ i → byte_in base start end bs i ≡ None
none_from base start end bs i l = grind (arith, nat_tests)

some_in : (base start end : ℕ) (bs : List ℕ) (i b : ℕ) → start ≤ i → i < end → get_or bs (i - base) 0 ≡ b → byte_in base start end bs i ≡ Some b
some_in base start end bs i b l u e =
    ap (λ t. cond (t && nat_lt i end) (Some (get_or bs (i - base) 0)) None) (le-leb start i l) ∙ ap (λ t. cond t (Some (get_or bs (i - base) 0)) None) (lt-ltb i end u) ∙ ap Some e

-- ---- one stretch

pub before_is_none : (s : Stretch) (i : ℕ) → i < s.start → stretch_byte s i ≡ None
unfolding stretch_byte
before_is_none s i l = none_before s.base s.start s.end s.bytes.items i l

pub behind_is_none : (s : Stretch) (i : ℕ) → s.end ≤ i → stretch_byte s i ≡ None
unfolding stretch_byte
behind_is_none s i l = none_from s.base s.start s.end s.bytes.items i l

inside_is_some : (s : Stretch) (i : ℕ) → s.start ≤ i → i < s.end → stretch_byte s i ≡ Some (get_or s.bytes.items (i - s.base) 0)
unfolding stretch_byte
inside_is_some s i l u = some_in s.base s.start s.end s.bytes.items i _ l u refl

-- where a stretch has a byte
pub is_inside : (s : Stretch) (i b : ℕ) → stretch_byte s i ≡ Some b → (s.start ≤ i) × (i < s.end)
is_inside s i b e = elim (cases_lt i s.start) [
  | inl l ↦ let z = before_is_none s i l in absurd (cc)
  | inr l ↦ elim (cases_lt i s.end) [
    | inl u ↦ (l, u)
    | inr u ↦ let z = behind_is_none s i u in absurd (cc)
  ]
]

-- ---- room is made

bytes_moved : (base low more k start end : ℕ) (bs : List ℕ) → low + more ≡ base → base ≤ start → end ≤ base + length bs
    → (i : ℕ) → byte_in low start end (replicate more 0 ++ (bs ++ replicate k 0)) i ≡ byte_in base start end bs i
bytes_moved base low more k start end bs e begins inside i = elim (cases_lt i start) [
  | inl l ↦ none_before low start end _ i l ∙ sym (none_before base start end bs i l)
  | inr l ↦ elim (cases_lt i end) [
    | inr u ↦ none_from low start end _ i u ∙ sym (none_from base start end bs i u)
    | inl u ↦
        let g : i - low - more ≡ i - base = omega arith in
        some_in low start end _ i _ l u (
        get_or-append_right (replicate more 0) (bs ++ replicate k 0) more (i - low) 0 (length-replicate more 0) (omega arith)
        ∙ ap (λ j. get_or (bs ++ replicate k 0) j 0) g
        ∙ get_or_append_left bs (replicate k 0) 0 (i - base) (omega arith))
        ∙ sym (some_in base start end bs i _ l u refl)
  ]
]

pub moved_same : (s t : Stretch) (more k : ℕ) → t.start ≡ s.start → t.end ≡ s.end → t.base + more ≡ s.base → t.bytes.items ≡ (replicate more 0 ++ s.bytes.items) ++ replicate k 0 → stretch_byte t ≡ stretch_byte s
unfolding stretch_byte
moved_same s t more k start end base bytes =
    (λ d. byte_in t.base (start d) (end d) ((bytes ∙ append_assoc (replicate more 0) s.bytes.items (replicate k 0)) d)) ∙ (λ d i. bytes_moved s.base t.base more k s.start s.end s.bytes.items base s.begins s.inside i d)

-- ---- a piece is written

pub over_beside : (at : ℕ) (piece : List ℕ) (f : ℕ → Option ℕ) (i : ℕ) → (i < at) ⊎ (at + length piece ≤ i) → overlay at piece f i ≡ f i
unfolding overlay
over_beside at piece f i (inl l) = grind (arith, nat_tests)
over_beside at piece f i (inr l) = grind (arith, nat_tests)

over_in : (at : ℕ) (piece : List ℕ) (f : ℕ → Option ℕ) (i : ℕ) → at ≤ i → i < at + length piece → overlay at piece f i ≡ Some (get_or piece (i - at) 0)
unfolding overlay
over_in at piece f i l u = grind (arith, nat_tests)

pub bytes_written : (base start end at : ℕ) (bs piece : List ℕ) → base ≤ start → end ≤ base + length bs → base ≤ at → at + length piece ≤ base + length bs → at ≤ end → start ≤ at + length piece
    → (i : ℕ) → byte_in base (min start at) (max end (at + length piece)) (paste bs (at - base) piece (length piece)) i ≡ overlay at piece (byte_in base start end bs) i
bytes_written base start end at bs piece begins inside low high touch_end touch_start i = elim (cases_lt i at) [
  | inl before ↦ elim (cases_lt i start) [
    | inl l ↦ none_before base (min start at) _ _ i (omega arith) ∙ sym (over_beside at piece (byte_in base start end bs) i (inl before) ∙ none_before base start end bs i l)
    | inr l ↦
        some_in base (min start at) _ _ i _ (omega arith) (omega arith) (paste_before bs (at - base) piece (length piece) (omega arith) (omega arith) (i - base) 0 (omega arith))
        ∙ sym (over_beside at piece (byte_in base start end bs) i (inl before) ∙ some_in base start end bs i _ l (omega arith) refl)
  ]
  | inr from ↦ elim (cases_lt i (at + length piece)) [
    | inl here ↦
        let e : i - base - (at - base) ≡ i - at = omega arith in
        some_in base (min start at) (max end (at + length piece)) _ i _ (omega arith) (omega arith)
        (paste_here bs (at - base) piece (length piece) (omega arith) (omega arith) (i - base) 0 (omega arith) (omega arith) ∙ ap (λ j. get_or piece j 0) e)
        ∙ sym (over_in at piece (byte_in base start end bs) i from here)
    | inr after ↦ elim (cases_lt i end) [
      | inl u ↦
          some_in base (min start at) _ _ i _ (omega arith) (omega arith) (paste_after bs (at - base) piece (length piece) (omega arith) (omega arith) (i - base) 0 (omega arith))
          ∙ sym (over_beside at piece (byte_in base start end bs) i (inr after) ∙ some_in base start end bs i _ (omega arith) u refl)
      | inr u ↦ none_from base _ (max end (at + length piece)) _ i (omega arith) ∙ sym (over_beside at piece (byte_in base start end bs) i (inr after) ∙ none_from base start end bs i u)
    ]
  ]
]

-- the bytes that a part of a stretch lends
pub part_same : (base start end from to : ℕ) (bs : List ℕ) → base ≤ start → end ≤ base + length bs → start ≤ from → to ≤ end → (k : ℕ) → k < to - from
    → byte_in base start end bs (from + k) ≡ Some (get_or (slice_range bs (from - base) (to - base)) k 0)
part_same base start end from to bs begins inside low high k l =
    let e : from + k - base ≡ from - base + k = omega arith in
    some_in base start end bs (from + k) _ (omega arith) (omega arith) (ap (λ j. get_or bs j 0) e ∙ sym (get_or-between bs (from - base) (to - base) k 0 (omega arith)))

-- a part of other bytes that is written over some
pub over_part : (at : ℕ) (piece : List ℕ) (f g : ℕ → Option ℕ) (i : ℕ) → ((k : ℕ) → k < length piece → g (at + k) ≡ Some (get_or piece k 0)) → at ≤ i → i < at + length piece → overlay at piece f i ≡ g i
over_part at piece f g i same l u =
    let e : at + (i - at) ≡ i = omega arith in
    over_in at piece f i l u ∙ sym (same (i - at) (omega arith)) ∙ ap g e

-- ---- stretches are joined

pub or_first : (a b : Option ℕ) (x : ℕ) → a ≡ Some x → option_or a b ≡ a
or_first None b x e = absurd (cc)
or_first (Some y) b x e = refl

pub or_second : (a b : Option ℕ) → a ≡ None → option_or a b ≡ b
or_second None b e = refl
or_second (Some y) b e = absurd (cc)

pub joined : (r s : Stretch) (f g : ℕ → Option ℕ) → ((i : ℕ) → i < r.start → f i ≡ stretch_byte s i) → ((i : ℕ) → r.start ≤ i → f i ≡ stretch_byte r i)
    → ((i : ℕ) → i < r.end → g i ≡ f i) → ((i : ℕ) → r.end ≤ i → g i ≡ stretch_byte s i) → g ≡ either (stretch_byte r) (stretch_byte s)
joined r s f g before from behind_same behind = λ d i. each i d
  where
    each : (i : ℕ) → g i ≡ either (stretch_byte r) (stretch_byte s) i
    each i = elim (cases_lt i r.end) [
      | inr l ↦ behind i l ∙ sym (or_second (stretch_byte r i) (stretch_byte s i) (behind_is_none r i l))
      | inl u ↦ elim (cases_lt i r.start) [
        | inl l ↦ behind_same i u ∙ before i l ∙ sym (or_second (stretch_byte r i) (stretch_byte s i) (before_is_none r i l))
        | inr l ↦ behind_same i u ∙ from i l ∙ sym (or_first (stretch_byte r i) (stretch_byte s i) _ (inside_is_some r i l u))
      ]
    ]

-- a piece over bytes and others
pub over_either : (at : ℕ) (piece : List ℕ) (f g : ℕ → Option ℕ) → either (overlay at piece f) g ≡ overlay at piece (either f g)
over_either at piece f g = λ d i. each i d
  where
    each : (i : ℕ) → either (overlay at piece f) g i ≡ overlay at piece (either f g) i
    each i = elim (cases_lt i at) [
      | inl l ↦ ap (λ o. option_or o (g i)) (over_beside at piece f i (inl l)) ∙ sym (over_beside at piece (either f g) i (inl l))
      | inr l ↦ elim (cases_lt i (at + length piece)) [
        | inl u ↦ ap (λ o. option_or o (g i)) (over_in at piece f i l u) ∙ sym (over_in at piece (either f g) i l u)
        | inr u ↦ ap (λ o. option_or o (g i)) (over_beside at piece f i (inr u)) ∙ sym (over_beside at piece (either f g) i (inr u))
      ]
    ]

-- ---- the first run

pub first_run : (s : Stretch) (end : ℕ) (bytes : List ℕ) → s.start < end → end ≤ s.end → s.start % 65536 + (end - s.start) ≤ 65536 → (end % 65536 ≡ 0) ⊎ (end ≡ s.end)
    → length bytes ≡ end - s.start → ((k : ℕ) → k < end - s.start → stretch_byte s (s.start + k) ≡ Some (get_or bytes k 0)) → IsFirst (stretch_byte s) s.start bytes
first_run s end bytes some inside window ends long same =
    let e : s.start + length bytes ≡ end = omega arith in
    record {
      before = λ i l. before_is_none s i l;
      some = omega arith;
      same = λ k l. same k (omega arith);
      window = omega arith;
      ends = elim ends [
        | inl z ↦ inl (ap (λ n. n % 65536) e ∙ z)
        | inr z ↦ inr (ap (stretch_byte s) e ∙ behind_is_none s end (omega arith))
      ];
    }

pub bytes_cut : (s t : Stretch) (n : ℕ) → t.base ≡ s.base → t.bytes.items ≡ s.bytes.items → t.end ≡ s.end → t.start ≡ s.start + n → t.start ≤ s.end → stretch_byte t ≡ without s.start n (stretch_byte s)
unfolding stretch_byte without
bytes_cut s t n base bytes end start inside = λ d i. each i d
  where
    each : (i : ℕ) → stretch_byte t i ≡ without s.start n (stretch_byte s) i
    each i = (λ d. byte_in (base d) (start d) (end d) (bytes d) i) ∙ grind (arith, nat_tests)

pub run_length : (s : Stretch) (end : ℕ) → s.start < end → end ≤ s.end → length (slice_range s.bytes.items (s.start - s.base) (end - s.base)) ≡ end - s.start
run_length s end some inside =
    let begins = s.begins in let within = s.inside in
    let e = length-between s.bytes.items (s.start - s.base) (end - s.base) (omega arith) in
    omega arith

pub run_same : (s : Stretch) (end : ℕ) → s.start < end → end ≤ s.end → (k : ℕ) → k < end - s.start → stretch_byte s (s.start + k) ≡ Some (get_or (slice_range s.bytes.items (s.start - s.base) (end - s.base)) k 0)
unfolding stretch_byte
run_same s end some inside k l = part_same s.base s.start s.end s.start end s.bytes.items s.begins s.inside (omega arith) inside k l
