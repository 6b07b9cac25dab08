-- The fills of held writes are short, and of memories and bytes that the writes have.
use Rattle.std.proofs.Common.{◌≡◌, inl, inr, ℕ, zero, suc, ◌+◌, ◌-◌, ◌<◌, ◌≤◌, Bool, true, false, cond, List, [], ◌∷◌, ◌++◌, map, filter, length, slice_index, Option, Some, None, not, ◌==◌, sym, ap, subst, ◌∙◌, arith}
use Rattle.std.specs.List.{AllByRecursion}
use Rattle.std.specs.Option.{option_or}
use Rattle.std.proofs.lemmas.Bool.{cases_lt}
use Rattle.gfx_shadow.specs.Writes.{Write, Run, MayHold, covers, byte_of, held_byte, runs, in_memory, firsts, memories, reach, fills_below, fills, memory_limit, window_size}
use Rattle.gfx_shadow.specs.Longest.{IsLongest}
use Rattle.gfx_shadow.proofs.Bytes.{held_byte-cons, held_byte-nil}
use Rattle.gfx_shadow.proofs.Fills.{beyond_reach}
use Rattle.gfx_shadow.proofs.Longest.{runs_are_longest}

abbrev pub AreBytes : List ℕ → Type 0
AreBytes bytes = AllByRecursion (λ b. b < 256) bytes

-- a write of bytes that may be held, to a memory of which P is known
pub record IsKnown (P : ℕ → Type 0) (w : Write) : Type 0 where
  pub memory : P w.memory
  pub may : MayHold w
  pub bytes : AreBytes w.bytes

-- a fill of few bytes, to a memory of which P is known
pub record IsShort (P : ℕ → Type 0) (w : Write) : Type 0 where
  pub memory : P w.memory
  pub offset : w.offset < memory_limit
  pub few : length w.bytes ≤ window_size
  pub bytes : AreBytes w.bytes

-- ---- lists

all-filter : {X : Type 0} (P : X → Type 0) (p : X → Bool) (xs : List X) → AllByRecursion P xs → AllByRecursion P (filter p xs)
all-filter P p [] h = tt
all-filter {X = X} P p (x ∷ xs) h = by (p x) (all-filter P p xs h.1)
  where
    by : (b : Bool) → AllByRecursion P (filter p xs) → AllByRecursion P (cond b (x ∷ filter p xs) (filter p xs))
    by true more = (h.0, more)
    by false more = more

all-firsts : (P : ℕ → Type 0) (xs : List ℕ) → AllByRecursion P xs → AllByRecursion P (firsts xs)
unfolding firsts
all-firsts P [] h = tt
all-firsts P (x ∷ xs) h = (h.0, all-filter P (λ y. not (y == x)) (firsts xs) (all-firsts P xs h.1))

pub all-both : {X : Type 0} (P : X → Type 0) (xs ys : List X) → AllByRecursion P xs → AllByRecursion P ys → AllByRecursion P (xs ++ ys)
all-both P [] ys a b = b
all-both P (x ∷ xs) ys a b = (a.0, all-both P xs ys a.1 b)

byte-at : (bytes : List ℕ) (i : ℕ) → AreBytes bytes → slice_index bytes i < 256
byte-at [] i h = omega arith
byte-at (b ∷ bytes) zero h = h.0
byte-at (b ∷ bytes) (suc i) h = byte-at bytes i h.1

bytes-from : (bytes : List ℕ) → ((k : ℕ) → k < length bytes → slice_index bytes k < 256) → AreBytes bytes
bytes-from [] each = tt
bytes-from (b ∷ bytes) each = (each 0 (omega arith), bytes-from bytes (λ k less. each (suc k) (omega arith)))

-- ---- what is held

some-is : (a b : ℕ) → Some a ≡ Some b → a ≡ b
some-is a b e = cc

none-some : (b : ℕ) → None ≡ Some b → ⊥
none-some b e = cc

held-byte : (P : ℕ → Type 0) (held : List Write) → AllByRecursion (IsKnown P) held → (m i b : ℕ) → held_byte held m i ≡ Some b → b < 256
held-byte P [] h m i b e = absurd (none-some b (sym (held_byte-nil m i) ∙ e))
held-byte P (w ∷ ws) h m i b e = by (held_byte ws m i) (λ c f. held-byte P ws h.1 m i c f) (covers m i w) (sym (held_byte-cons w ws m i) ∙ e)
  where
    by : (o : Option ℕ) → ((c : ℕ) → o ≡ Some c → c < 256) → (t : Bool) → option_or o (cond t (Some (byte_of i w)) None) ≡ Some b → b < 256
    by (Some c) each t e = each b e
    by None each true e = subst (λ k. k < 256) (some-is _ b e) (byte-at w.bytes (i - w.offset) h.0.bytes)
    by None each false e = absurd (none-some b e)

reach-inside : (P : ℕ → Type 0) (held : List Write) → AllByRecursion (IsKnown P) held → reach held ≤ memory_limit
unfolding reach
reach-inside P [] h = omega arith
reach-inside P (w ∷ ws) h = let a = reach-inside P ws h.1 in let b = h.0.may.inside in omega arith

module _ (P : ℕ → Type 0) (f : ℕ → Option ℕ) (n : ℕ) (inside : n ≤ memory_limit) (below : (i : ℕ) → n ≤ i → f i ≡ None) (bytes : (i b : ℕ) → f i ≡ Some b → b < 256) where
  run-short : (m : ℕ) → P m → (r : Run) → IsLongest f r → IsShort P (in_memory m r)
  run-short m known r long = record {
    memory = known;
    offset = within;
    few = let w = long.window in omega arith;
    bytes = bytes-from r.bytes (λ k less. bytes (r.offset + k) (slice_index r.bytes k) (long.same k less));
  }
    where
      first : f r.offset ≡ Some (slice_index r.bytes 0)
      first = let zero-more : r.offset + 0 ≡ r.offset = omega arith in ap f (sym zero-more) ∙ long.same 0 (let s = long.some in omega arith)

      within : r.offset < memory_limit
      within = elim (cases_lt r.offset n) [ inl less ↦ omega arith | inr over ↦ absurd (none-some _ (sym (below r.offset over) ∙ first)) ]

  runs-short : (m : ℕ) → P m → (rs : List Run) → AllByRecursion (IsLongest f) rs → AllByRecursion (IsShort P) (map (in_memory m) rs)
  runs-short m known [] h = tt
  runs-short m known (r ∷ rs) h = (run-short m known r h.0, runs-short m known rs h.1)

module _ (P : ℕ → Type 0) (held : List Write) (h : AllByRecursion (IsKnown P) held) where
  memory-short : (m : ℕ) → P m → AllByRecursion (IsShort P) (map (in_memory m) (runs (held_byte held m) 0 (reach held)))
  memory-short m known =
      runs-short P (held_byte held m) (reach held) (reach-inside P held h) (λ i over. beyond_reach held m i over) (λ i b e. held-byte P held h m i b e) m known
      (runs (held_byte held m) 0 (reach held)) (runs_are_longest (held_byte held m) (reach held) (λ i over. beyond_reach held m i over)).longest

  memories-short : (ms : List ℕ) → AllByRecursion P ms → AllByRecursion (IsShort P) (fills_below (reach held) ms (held_byte held))
  memories-short [] known = tt
  memories-short (m ∷ ms) known =
      all-both (IsShort P) (map (in_memory m) (runs (held_byte held m) 0 (reach held))) (fills_below (reach held) ms (held_byte held))
      (memory-short m known.0) (memories-short ms known.1)

  of-known : (ws : List Write) → AllByRecursion (IsKnown P) ws → AllByRecursion P (map (λ w. w.memory) ws)
  of-known [] k = tt
  of-known (w ∷ ws) k = (k.0.memory, of-known ws k.1)

  pub fills-short : AllByRecursion (IsShort P) (fills held)
  unfolding fills
  fills-short = memories-short (memories held) (all-firsts P (map (λ w. w.memory) held) (of-known held h))
