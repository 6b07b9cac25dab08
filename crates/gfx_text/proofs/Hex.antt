-- Bytes that are read pair by pair.
use Rattle.std.proofs.Common.{◌≡◌, ℕ, ◌+◌, ◌*◌, ◌%◌, ◌^◌, ◌<◌, ◌≤◌, nat_lt, max, cond, Bool, true, false, MatchOption, List, [], ◌∷◌, ◌++◌, length, get_or, take, drop, Option, Some, None, refl, sym, ap, ◌∙◌, arith, append_assoc}
use Rattle.std.proofs.lemmas.List.{drop_more, drop_all, take_all, append-nil}
use Rattle.std.proofs.lemmas.Bool.{cond-true, lt-ltb}
use Rattle.std.proofs.lemmas.Bool.Decides.{nat_tests}
use Rattle.gfx_grammar.specs.Reading.{◌>>=◌}
use Rattle.gfx_text_grammar.specs.Words.{hex_value, byte_of, bytes_of, raw_in}

-- what was read before, and what is still read
abbrev pub with_front : List ℕ → Option (List ℕ) → Option (List ℕ)
with_front front read = read >>= λ bs. Some (front ++ bs)

-- the bytes that were read, and those that are still read, are the word's
abbrev pub BytesGoOn : List ℕ → ℕ → List ℕ → Type 0
BytesGoOn front i word = with_front front (bytes_of (drop (2 * i) word)) ≡ bytes_of word

pub bytes_start : (word : List ℕ) → BytesGoOn [] 0 word
bytes_start word = by (bytes_of word)
  where
    by : (o : Option (List ℕ)) → with_front [] o ≡ o
    by (Some bs) = refl
    by None = refl

-- the next two digits
next_pair : (word : List ℕ) (i : ℕ) → 2 * i + 1 < length word
    → drop (2 * i) word ≡ get_or word (2 * i) 0 ∷ get_or word (2 * i + 1) 0 ∷ drop (2 * (i + 1)) word
next_pair word i there =
    let k : 2 * i + 1 + 1 ≡ 2 * (i + 1) = omega arith in
    drop_more word (2 * i) 0 (omega arith)
    ∙ ap (λ (z : List ℕ). get_or word (2 * i) 0 ∷ z) (drop_more word (2 * i + 1) 0 there ∙ ap (λ n. get_or word (2 * i + 1) 0 ∷ drop n word) k)

pub bytes_go_on : (front word : List ℕ) (i b : ℕ) → 2 * i + 1 < length word → byte_of (get_or word (2 * i) 0) (get_or word (2 * i + 1) 0) ≡ Some b
    → BytesGoOn front i word → BytesGoOn (front ++ b ∷ []) (i + 1) word
unfolding bytes_of
bytes_go_on front word i b there is so_far = sym (by (bytes_of (drop (2 * (i + 1)) word)) refl) ∙ so_far
  where
    regroup : (o : Option (List ℕ)) → with_front front (o >>= λ bs. Some (b ∷ bs)) ≡ with_front (front ++ b ∷ []) o
    regroup (Some bs) = ap Some (simp append_assoc)
    regroup None = refl

    by : (o : Option (List ℕ)) → bytes_of (drop (2 * (i + 1)) word) ≡ o → with_front front (bytes_of (drop (2 * i) word)) ≡ with_front (front ++ b ∷ []) o
    by o e =
        ap (λ (z : List ℕ). with_front front (bytes_of z)) (next_pair word i there)
        ∙ ap (λ (p : Option ℕ). with_front front (p >>= λ b. bytes_of (drop (2 * (i + 1)) word) >>= λ bs. Some (b ∷ bs))) is
        ∙ ap (λ (q : Option (List ℕ)). with_front front (q >>= λ bs. Some (b ∷ bs))) e
        ∙ regroup o

pub bytes_break : (front word : List ℕ) (i : ℕ) → 2 * i + 1 < length word → byte_of (get_or word (2 * i) 0) (get_or word (2 * i + 1) 0) ≡ None
    → BytesGoOn front i word → bytes_of word ≡ None
unfolding bytes_of
bytes_break front word i there none so_far =
    sym so_far
    ∙ ap (λ (z : List ℕ). with_front front (bytes_of z)) (next_pair word i there)
    ∙ ap (λ (p : Option ℕ). with_front front (p >>= λ b. bytes_of (drop (2 * (i + 1)) word) >>= λ bs. Some (b ∷ bs))) none

pub bytes_end : (front word : List ℕ) (i : ℕ) → length word ≤ 2 * i → BytesGoOn front i word → bytes_of word ≡ Some front
unfolding bytes_of
bytes_end front word i all so_far =
    sym so_far ∙ ap (λ (z : List ℕ). with_front front (bytes_of z)) (drop_all (2 * i) word all) ∙ ap Some (append-nil front)

-- What was read of the pairs so far, of whose values this is the greatest: as long as all were digits these bytes, and else the
-- word is no bytes.
pub record PairsRead (most : ℕ) (front : List ℕ) (i : ℕ) (word : List ℕ) : Type 0 where
  pub whole : most < 16 → BytesGoOn front i word
  pub broken : 16 ≤ most → bytes_of word ≡ None

-- what the code has for the value of a digit
abbrev pub IsValue : Option ℕ → ℕ → Type 0
IsValue o value = MatchOption o (value ≡ 255) (λ v. (value ≡ v) × (v < 16))

-- one pair more
pub pairs_go_on : (most high low b : ℕ) (front word : List ℕ) (i : ℕ) → 2 * i + 1 < length word → PairsRead most front i word
    → IsValue (hex_value (get_or word (2 * i) 0)) high → IsValue (hex_value (get_or word (2 * i + 1) 0)) low → b ≡ (high * 16 % 256 + low) % 256
    → PairsRead (max (max most high) low) (front ++ b ∷ []) (i + 1) word
pairs_go_on most high low b front word i there so_far first second is =
    by (hex_value (get_or word (2 * i) 0)) (hex_value (get_or word (2 * i + 1) 0)) refl refl first second
  where
    h : ℕ
    h = get_or word (2 * i) 0

    l : ℕ
    l = get_or word (2 * i + 1) 0

    -- one of them is no digit
    bad : byte_of h l ≡ None → 16 ≤ max (max most high) low → PairsRead (max (max most high) low) (front ++ b ∷ []) (i + 1) word
    bad none many = record { whole = λ few. absurd (omega (arith, max, few, many)); broken = λ _. earlier (nat_lt most 16) refl }
      where
        earlier : (t : Bool) → nat_lt most 16 ≡ t → bytes_of word ≡ None
        earlier true e = bytes_break front word i there none (so_far.whole (grind (arith, nat_tests, e)))
        earlier false e = so_far.broken (grind (arith, nat_tests, e))

    by : (o p : Option ℕ) → hex_value h ≡ o → hex_value l ≡ p → IsValue o high → IsValue p low → PairsRead (max (max most high) low) (front ++ b ∷ []) (i + 1) word
    by None p eh el first second = bad (ap (λ o. o >>= λ a. hex_value l >>= λ b. Some (16 * a + b)) eh) (omega (arith, max, first))
    by (Some v) None eh el first second = bad (ap (λ o. o >>= λ a. hex_value l >>= λ b. Some (16 * a + b)) eh ∙ ap (λ p. p >>= λ b. Some (16 * v + b)) el) (omega (arith, max, second))
    by (Some v) (Some w) eh el first second =
        let vh = first.0 in
        let vs = first.1 in
        let wl = second.0 in
        let ws = second.1 in
        let value : 16 * v + w ≡ b = omega (arith, is, vh, vs, wl, ws) in
        record {
          whole = λ few. bytes_go_on front word i b there
              (ap (λ o. o >>= λ a. hex_value l >>= λ b. Some (16 * a + b)) eh ∙ ap (λ p. p >>= λ b. Some (16 * v + b)) el ∙ ap Some value)
              (so_far.whole (omega (arith, max, few)));
          broken = λ many. so_far.broken (omega (arith, max, many, vh, vs, wl, ws));
        }

-- an odd number of digits is no bytes
pub odd_none : (word : List ℕ) → length word % 2 ≡ 1 → bytes_of word ≡ None
unfolding bytes_of
odd_none [] odd = absurd (omega (arith, odd))
odd_none (h ∷ []) odd = refl
odd_none (h ∷ l ∷ cs) odd = by (byte_of h l) (bytes_of cs) (odd_none cs (omega (arith, odd)))
  where
    by : (o : Option ℕ) (q : Option (List ℕ)) → q ≡ None → (o >>= λ b. q >>= λ bs. Some (b ∷ bs)) ≡ None
    by (Some b) q e = ap (λ (r : Option (List ℕ)). r >>= λ bs. Some (b ∷ bs)) e
    by None q e = refl

-- bytes that were written over all of a list
pub written_over : (n : ℕ) (new old : List ℕ) → length new ≡ n → length old ≤ n → take n (new ++ drop (length new) old) ≡ new
written_over n new old same few =
    ap (λ rest. take n (new ++ rest)) (drop_all (length new) old (omega (arith, same, few))) ∙ ap (take n) (append-nil new) ∙ take_all n new (omega (arith, same))

-- fewer bytes than 2^64
pub raw_some : (word bs : List ℕ) → bytes_of word ≡ Some bs → length bs < 2 ^ 64 → raw_in word ≡ Some bs
unfolding raw_in
raw_some word bs is few =
    ap (λ (o : Option (List ℕ)). o >>= λ xs. cond (nat_lt (length xs) (2 ^ 64)) (Some xs) None) is ∙ cond-true _ _ None (lt-ltb _ _ few)

pub raw_none : (word : List ℕ) → bytes_of word ≡ None → raw_in word ≡ None
unfolding raw_in
raw_none word none = ap (λ (o : Option (List ℕ)). o >>= λ xs. cond (nat_lt (length xs) (2 ^ 64)) (Some xs) None) none
