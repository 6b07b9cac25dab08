-- The fills of writes with other ids.
use Rattle.std.proofs.Common.{◌≡◌, ℕ, ◌+◌, Bool, true, false, cond, not, refl, ap, sym, ◌∙◌, List, [], ◌∷◌, ◌++◌, map, length, max, nat_le, nat_lt, ◌&&◌, ◌==◌, Option, Some, None, inl, inr}
use Rattle.std.specs.List.{filter}
use Rattle.std.specs.Option.{option_or}
use Rattle.std.proofs.lemmas.List.{map-append}
use Rattle.std.proofs.lemmas.Bool.{cases_eq, ne_eqb, eq-eqb, or_left, or_right}
use Rattle.gfx_model.specs.Checks.{is_among}
use Rattle.gfx_script_model.specs.Ids.{map_ids}
use Rattle.gfx_shadow.specs.Gathered.{event_of_write}
use Rattle.gfx_shadow.specs.Writes.{Write, Run, byte_of, held_byte, runs, in_memory, firsts, memories, reach, fills_below, fills}
use Rattle.gfx_shadow.specs.Laws.{renamed, AreDifferent, FillsByIds}
use Rattle.gfx_shadow.proofs.Bytes.{given, held_byte-cons, held_byte-nil}
use Rattle.gfx_shadow.proofs.Fills.{among_firsts}

-- different numbers of a list have different ids
abbrev Different : (ℕ → ℕ) → List ℕ → Type 0
Different f xs = (x y : ℕ) → is_among x xs ≡ true → is_among y xs ≡ true → f x ≡ f y → x ≡ y

abbrev Within : List ℕ → List ℕ → Type 0
Within xs ys = (x : ℕ) → is_among x xs ≡ true → is_among x ys ≡ true

same_test : (f : ℕ → ℕ) (all : List ℕ) → Different f all → (x y : ℕ) → is_among x all ≡ true → is_among y all ≡ true → (f y == f x) ≡ (y == x)
same_test f all d x y ax ay = elim (cases_eq y x) [
  | inl e ↦ eq-eqb (f y) (f x) (ap f e) ∙ sym (eq-eqb y x e)
  | inr ne ↦ ne_eqb (f y) (f x) (λ e. ne (d y x ay ax e)) ∙ sym (ne_eqb y x ne)
]

within_tail : (x : ℕ) (xs all : List ℕ) → Within (x ∷ xs) all → Within xs all
within_tail x xs all w y a = w y (or_right (x == y) (is_among y xs) a)

within_head : (x : ℕ) (xs all : List ℕ) → Within (x ∷ xs) all → is_among x all ≡ true
within_head x xs all w = w x (or_left (x == x) (is_among x xs) (eq-eqb x x refl))

filter_ids : (f : ℕ → ℕ) (all : List ℕ) → Different f all → (x : ℕ) → is_among x all ≡ true → (ys : List ℕ) → Within ys all
    → filter (λ y. not (y == f x)) (map f ys) ≡ map f (filter (λ y. not (y == x)) ys)
filter_ids f all d x ax [] w = refl
filter_ids f all d x ax (y ∷ ys) w =
    let rest = filter_ids f all d x ax ys (within_tail y ys all w) in
    ap (λ l. cond (not (f y == f x)) (f y ∷ l) l) rest
    ∙ ap (λ t. cond (not t) (f y ∷ map f (filter (λ y. not (y == x)) ys)) (map f (filter (λ y. not (y == x)) ys))) (same_test f all d x y ax (within_head y ys all w))
    ∙ by (y == x)
  where
    by : (t : Bool) → cond (not t) (f y ∷ map f (filter (λ y. not (y == x)) ys)) (map f (filter (λ y. not (y == x)) ys)) ≡ map f (cond (not t) (y ∷ filter (λ y. not (y == x)) ys) (filter (λ y. not (y == x)) ys))
    by true = refl
    by false = refl

firsts_ids : (f : ℕ → ℕ) (all : List ℕ) → Different f all → (xs : List ℕ) → Within xs all → firsts (map f xs) ≡ map f (firsts xs)
unfolding firsts
firsts_ids f all d [] w = refl
firsts_ids f all d (x ∷ xs) w =
    ap (λ l. f x ∷ filter (λ y. not (y == f x)) l) (firsts_ids f all d xs (within_tail x xs all w))
    ∙ ap (λ l. f x ∷ l) (filter_ids f all d x (within_head x xs all w) (firsts xs) (λ y a. within_tail x xs all w y (sym (among_firsts xs y) ∙ a)))

renamed_memories : (f : ℕ → ℕ) (ws : List Write) → map (λ w. w.memory) (map (renamed f) ws) ≡ map f (map (λ w. w.memory) ws)
renamed_memories f [] = refl
renamed_memories f (w ∷ ws) = ap (λ l. f w.memory ∷ l) (renamed_memories f ws)

renamed_reach : (f : ℕ → ℕ) (ws : List Write) → reach (map (renamed f) ws) ≡ reach ws
unfolding reach
renamed_reach f [] = refl
renamed_reach f (w ∷ ws) = ap (max (w.offset + length w.bytes)) (renamed_reach f ws)

renamed_byte : (f : ℕ → ℕ) (all : List ℕ) → Different f all → (ws : List Write) → Within (map (λ w. w.memory) ws) all → (m i : ℕ) → is_among m all ≡ true
    → held_byte (map (renamed f) ws) (f m) i ≡ held_byte ws m i
renamed_byte f all d [] w m i am = held_byte-nil (f m) i ∙ sym (held_byte-nil m i)
renamed_byte f all d (x ∷ xs) w m i am =
    held_byte-cons (renamed f x) (map (renamed f) xs) (f m) i
    ∙ ap (λ o. option_or o (given (f m) i (renamed f x))) (renamed_byte f all d xs (within_tail x.memory (map (λ w. w.memory) xs) all w) m i am)
    ∙ ap (λ t. option_or (held_byte xs m i) (cond (t && nat_le x.offset i && nat_lt i (x.offset + length x.bytes)) (Some (byte_of i x)) None))
    (same_test f all d m x.memory am (within_head x.memory (map (λ w. w.memory) xs) all w))
    ∙ sym (held_byte-cons x xs m i)

renamed_runs : (f : ℕ → ℕ) (m : ℕ) (rs : List Run) → map (in_memory (f m)) rs ≡ map (renamed f) (map (in_memory m) rs)
renamed_runs f m [] = refl
renamed_runs f m (r ∷ rs) = ap (λ l. in_memory (f m) r ∷ l) (renamed_runs f m rs)

renamed_below : (f : ℕ → ℕ) (n : ℕ) (ms : List ℕ) (g h : ℕ → ℕ → Option ℕ) → ((m : ℕ) → is_among m ms ≡ true → g (f m) ≡ h m) → fills_below n (map f ms) g ≡ map (renamed f) (fills_below n ms h)
renamed_below f n [] g h e = refl
renamed_below f n (m ∷ ms) g h e =
    ap (λ k. map (in_memory (f m)) (runs k 0 n) ++ fills_below n (map f ms) g) (e m (or_left (m == m) (is_among m ms) (eq-eqb m m refl)))
    ∙ ap (λ l. l ++ fills_below n (map f ms) g) (renamed_runs f m (runs (h m) 0 n))
    ∙ ap (λ l. map (renamed f) (map (in_memory m) (runs (h m) 0 n)) ++ l) (renamed_below f n ms g h (λ k a. e k (or_right (m == k) (is_among k ms) a)))
    ∙ sym (map-append (renamed f) (map (in_memory m) (runs (h m) 0 n)) (fills_below n ms h))

renamed_fills : (f : ℕ → ℕ) (held : List Write) → AreDifferent f held → fills (map (renamed f) held) ≡ map (renamed f) (fills held)
unfolding fills
renamed_fills f held d =
    let all = map (λ w. w.memory) held in
    ap (λ n. fills_below n (memories (map (renamed f) held)) (held_byte (map (renamed f) held))) (renamed_reach f held)
    ∙ ap (λ ms. fills_below (reach held) ms (held_byte (map (renamed f) held))) (ap firsts (renamed_memories f held) ∙ firsts_ids f all d all (λ x a. a))
    ∙ renamed_below f (reach held) (memories held) (held_byte (map (renamed f) held)) (held_byte held)
    (λ m a. λ j i. (renamed_byte f all d held (λ x b. b) m i (sym (among_firsts all m) ∙ a)) j)

renamed_events : (f : ℕ → ℕ) (ws : List Write) → map (λ w. map_ids f (event_of_write w)) ws ≡ map event_of_write (map (renamed f) ws)
unfolding map_ids
renamed_events f [] = refl
renamed_events f (w ∷ ws) = ap (λ l. event_of_write (renamed f w) ∷ l) (renamed_events f ws)

pub fills_by_ids : FillsByIds
fills_by_ids ids held d =
    (renamed_fills ids held d, renamed_events ids (fills held) ∙ sym (ap (map event_of_write) (renamed_fills ids held d)))
