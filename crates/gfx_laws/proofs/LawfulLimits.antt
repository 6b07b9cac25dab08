-- The limits are kept, step by step.
use Rattle.std.proofs.Common.{◌≡◌, ℕ, ◌+◌, ◌<◌, ◌≤◌, ◌^◌, Bool, true, false, refl, sym, ◌∙◌, ap, subst, List, [], ◌∷◌, ◌++◌, Option, Some, None, cond, is_some, not, ◌==◌, ◌&&◌, ◌||◌, nat_le, filter, length, sum_by, arith}
use Rattle.std.specs.List.{AllByRecursion}
use Rattle.std.specs.Option.{option_map_or}
use Rattle.std.proofs.lemmas.List.Sums.{sum_by-cons}
use Rattle.std.proofs.lemmas.Bool.{eqb-true, eq-eqb, ne_eqb, both_ways, false_from_ne_true, and_parts, or_left, or_right}
use Rattle.gfx_model.specs.Events.{Event}
use Rattle.gfx_model.specs.Spelling.{spelling}
use Rattle.gfx_model.specs.Steps.{Step, Object, Detail}
use Rattle.gfx_model.specs.Steps.Detail.{a_memory, a_swapchain}
use Rattle.gfx_model.specs.Steps.Step.{creates, ends, begins, records, finishes, resets, resets_pool, executed}
use Rattle.gfx_model.specs.Questions.{State, Buffer, new_buffer, is_kept, passes, goes_with, after_end, insert_rising, invalidated, is_once, is_in_pool}
use Rattle.gfx_model.specs.Checks.{is_among}
use Rattle.gfx_model.specs.Views.{View, ask, detail_bytes, live_bytes}
use Rattle.gfx_model.specs.After.{after, is_gone, buffer_after_end}
use Rattle.gfx_laws.specs.Lawful.{base, counted, LawfulObjects, LawfulIds, LawfulLimits, IsRising}
use Rattle.gfx_laws.proofs.Ready.{Ready, HasRoom, HasBytes}
use Rattle.gfx_laws.proofs.Cases.{some_of}

-- ---- sums over ids

sum_insert : (f : ℕ → ℕ) (i : ℕ) (xs : List ℕ) → sum_by f (insert_rising i xs) ≡ f i + sum_by f xs
sum_insert f i [] = sum_by-cons f i []
sum_insert f i (y ∷ ys) = by (nat_le i y) (sum_insert f i ys)
  where
    by : (t : Bool) → sum_by f (insert_rising i ys) ≡ f i + sum_by f ys → sum_by f (cond t (i ∷ y ∷ ys) (y ∷ insert_rising i ys)) ≡ f i + sum_by f (y ∷ ys)
    by true ih = sum_by-cons f i (y ∷ ys)
    by false ih = let a = sum_by-cons f y (insert_rising i ys) in let b = sum_by-cons f y ys in omega (arith, a, b, ih)

pub length_insert : (i : ℕ) (xs : List ℕ) → length (insert_rising i xs) ≡ length xs + 1
length_insert i [] = refl
length_insert i (y ∷ ys) = by (nat_le i y) (length_insert i ys)
  where
    by : (t : Bool) → length (insert_rising i ys) ≡ length ys + 1 → length (cond t (i ∷ y ∷ ys) (y ∷ insert_rising i ys)) ≡ length (y ∷ ys) + 1
    by true ih = omega arith
    by false ih = omega (arith, ih)

length_filter : (t : ℕ → Bool) (xs : List ℕ) → length (filter t xs) ≤ length xs
length_filter t [] = omega arith
length_filter t (x ∷ xs) = by (t x) (length_filter t xs)
  where
    by : (b : Bool) → length (filter t xs) ≤ length xs → length (cond b (x ∷ filter t xs) (filter t xs)) ≤ length (x ∷ xs)
    by true ih = omega (arith, ih)
    by false ih = omega (arith, ih)

-- what is less for each of the ids is less in sum
sum_below : (f g : ℕ → ℕ) (xs : List ℕ) → ((x : ℕ) → is_among x xs ≡ true → g x ≤ f x) → sum_by g xs ≤ sum_by f xs
sum_below f g [] each = omega arith
sum_below f g (x ∷ xs) each =
    let first = each x (or_left (x == x) (is_among x xs) (eq-eqb x x refl)) in
    let rest = sum_below f g xs (λ y m. each y (or_right (x == y) (is_among y xs) m)) in
    let a = sum_by-cons f x xs in let b = sum_by-cons g x xs in
    omega (arith, first, rest, a, b)

sum_filter : (f g : ℕ → ℕ) (t : ℕ → Bool) (xs : List ℕ) → ((x : ℕ) → g x ≤ f x) → sum_by g (filter t xs) ≤ sum_by f xs
sum_filter f g t [] each = omega arith
sum_filter f g t (x ∷ xs) each = by (t x) (sum_filter f g t xs each)
  where
    by : (b : Bool) → sum_by g (filter t xs) ≤ sum_by f xs → sum_by g (cond b (x ∷ filter t xs) (filter t xs)) ≤ sum_by f (x ∷ xs)
    by true ih = let first = each x in let a = sum_by-cons f x xs in let b = sum_by-cons g x (filter t xs) in omega (arith, first, a, b, ih)
    by false ih = let a = sum_by-cons f x xs in omega (arith, a, ih)

-- no number below all of a list is among it
pub not_among : (x : ℕ) (xs : List ℕ) → AllByRecursion (λ y. x < y) xs → is_among x xs ≡ false
not_among x [] a = refl
not_among x (y ∷ ys) a =
    let low = a.0 in
    ap (λ t. t || is_among x ys) (ne_eqb y x (λ e. omega (arith, low, e))) ∙ not_among x ys a.1

-- where one id has n more, and the others have no more
sum_one : (f g : ℕ → ℕ) (c n : ℕ) (xs : List ℕ) → IsRising xs → ((x : ℕ) → (c == x) ≡ false → g x ≤ f x) → g c ≤ f c + n → sum_by g xs ≤ sum_by f xs + n
sum_one f g c n [] r each one = omega arith
sum_one f g c n (x ∷ xs) r each one = by (c == x) refl (sum_one f g c n xs r.1 each one)
  where
    by : (b : Bool) → (c == x) ≡ b → sum_by g xs ≤ sum_by f xs + n → sum_by g (x ∷ xs) ≤ sum_by f (x ∷ xs) + n
    by true e ih =
        let same = eqb-true c x e in
        let first : g x ≤ f x + n = subst (λ y. g y ≤ f y + n) same one in
        let rest = sum_below f g xs (λ y m. each y (ne_eqb c y (λ e. both_ways (is_among y xs) (subst (λ z. is_among z xs ≡ false) (sym same ∙ e) (not_among x xs r.0)) m))) in
        let a = sum_by-cons f x xs in let b = sum_by-cons g x xs in
        omega (arith, first, rest, a, b)
    by false e ih =
        let first = each x e in
        let a = sum_by-cons f x xs in let b = sum_by-cons g x xs in
        omega (arith, first, a, b, ih)

-- ---- one object more

-- a number of each object, where one with an id that is new is created
sum_create : (f g : ℕ → ℕ) (i n : ℕ) (xs : List ℕ) → is_among i xs ≡ false → ((x : ℕ) → (i == x) ≡ false → g x ≤ f x) → g i ≤ n → sum_by g (insert_rising i xs) ≤ sum_by f xs + n
sum_create f g i n xs fresh each own =
    let a = sum_insert g i xs in
    let b = sum_below f g xs (λ x m. each x (ne_eqb i x (λ e. both_ways (is_among x xs) (subst (λ y. is_among y xs ≡ false) e fresh) m))) in
    omega (arith, a, b, own)

-- ---- buffers

-- a count of a buffer, where it is kept
abbrev pub count_kept : (List Event → ℕ) → Buffer → ℕ
count_kept n b = cond (is_kept b.state) (n b.commands) 0

kept_invalidated : (n : List Event → ℕ) (hit : Bool) (b : Buffer) → count_kept n (invalidated hit b) ≤ count_kept n b
kept_invalidated n hit b = by (hit && is_kept b.state)
  where
    by : (t : Bool) → count_kept n (cond t (record b { state = State.invalid }) b) ≤ count_kept n b
    by true = omega arith
    by false = omega arith

kept_cond : (n : List Event → ℕ) (t : Bool) (b d : Buffer) (m : ℕ) → (t ≡ true → count_kept n b ≤ m) → (t ≡ false → count_kept n d ≤ m) → count_kept n (cond t b d) ≤ m
kept_cond n true b d m f g = f refl
kept_cond n false b d m f g = g refl

-- how a step but a record changes a count
kept_after : (n : List Event → ℕ) → n [] ≡ 0 → (v : View) (s : Step) → Ready v s → ((cb : ℕ) (c : Event) → s ≡ records cb c → ⊥) → (x : ℕ) → count_kept n ((after v s).buffer x) ≤ count_kept n (v.buffer x)
unfolding after
kept_after n z v (creates i parent detail) ready other x = kept_cond n (i == x) new_buffer (v.buffer x) (count_kept n (v.buffer x)) (λ e. omega arith) (λ e. omega arith)
kept_after n z v (ends gone) ready other x =
    kept_cond n (is_gone v gone x) new_buffer (buffer_after_end v gone (v.buffer x)) (count_kept n (v.buffer x)) (λ e. omega arith) (λ e. kept_invalidated n _ (v.buffer x))
kept_after n z v (begins cb flags) ready other x =
    kept_cond n (cb == x && is_some (v.live x)) (record { state = State.recording; flags = flags; commands = [] }) (v.buffer x) (count_kept n (v.buffer x)) (λ e. omega (arith, z)) (λ e. omega arith)
kept_after n z v (records cb command) ready other x = absurd (other cb command refl)
kept_after n z v (finishes cb) ready other x =
    kept_cond n (cb == x && is_some (v.live x)) (record (v.buffer x) { state = State.executable }) (v.buffer x) (count_kept n (v.buffer x))
    (λ e. let is : (v.buffer x).state ≡ State.recording = ap (λ y. (v.buffer y).state) (sym (eqb-true cb x (and_parts _ _ e).0)) ∙ ready in
    let kept : count_kept n (v.buffer x) ≡ n (v.buffer x).commands = ap (λ s. cond (is_kept s) (n (v.buffer x).commands) 0) is in
    omega (arith, kept))
    (λ e. omega arith)
kept_after n z v (resets cb) ready other x = kept_cond n (cb == x) new_buffer (v.buffer x) (count_kept n (v.buffer x)) (λ e. omega arith) (λ e. omega arith)
kept_after n z v (resets_pool pool) ready other x = kept_cond n (passes (is_in_pool pool) (v.live x)) new_buffer (v.buffer x) (count_kept n (v.buffer x)) (λ e. omega arith) (λ e. omega arith)
kept_after n z v (executed cb) ready other x = kept_invalidated n (cb == x && is_once (v.buffer x)) (v.buffer x)
kept_after n z v _ ready other x = omega arith

-- and a record
kept_record : (n : List Event → ℕ) (m : ℕ) (c : Event) → ((cs : List Event) → n (cs ++ c ∷ []) ≡ n cs + m) → (b : Buffer) → count_kept n (record b { commands = b.commands ++ c ∷ [] }) ≤ count_kept n b + m
kept_record n m c more b = by (is_kept b.state)
  where
    by : (t : Bool) → cond t (n (b.commands ++ c ∷ [])) 0 ≤ cond t (n b.commands) 0 + m
    by true = let e = more b.commands in omega (arith, e)
    by false = omega arith

length_more : (c : Event) (cs : List Event) → length (cs ++ c ∷ []) ≡ length cs + 1
length_more c [] = refl
length_more c (x ∷ cs) = let e = length_more c cs in omega (arith, e)

-- the bytes of the fields of commands
abbrev pub fields : List Event → ℕ
fields cs = sum_by (λ c. length (spelling 1 c)) cs

fields_more : (c : Event) (cs : List Event) → fields (cs ++ c ∷ []) ≡ fields cs + length (spelling 1 c)
fields_more c [] = let e = sum_by-cons (λ c. length (spelling 1 c)) c [] in omega (arith, e)
fields_more c (x ∷ cs) =
    let e = fields_more c cs in
    let a = sum_by-cons (λ c. length (spelling 1 c)) x (cs ++ c ∷ []) in
    let b = sum_by-cons (λ c. length (spelling 1 c)) x cs in
    omega (arith, e, a, b)

-- a count over all ids, after a step that doesn't record
kept_sum : (n : List Event → ℕ) → n [] ≡ 0 → (v : View) (s : Step) → LawfulObjects (base v) → LawfulIds v.live v.ids → Ready v s → ((cb : ℕ) (c : Event) → s ≡ records cb c → ⊥) →
    sum_by (λ x. count_kept n ((after v s).buffer x)) (after v s).ids ≤ sum_by (λ x. count_kept n (v.buffer x)) v.ids
unfolding after
kept_sum n z v (creates i parent detail) objects ids ready other =
    let a = sum_create (λ x. count_kept n (v.buffer x)) (λ x. count_kept n ((after v (creates i parent detail)).buffer x)) i 0 v.ids
    (false_from_ne_true _ (λ e. let o = some_of (v.live i) (sym (ids.exact i) ∙ e) in both_ways (v.used i) ready.unused (objects.used i o.0 o.1)))
    (λ x e. kept_after n z v (creates i parent detail) ready other x)
    (let e : count_kept n (cond (i == i) new_buffer (v.buffer i)) ≡ 0 = ap (λ t. count_kept n (cond t new_buffer (v.buffer i))) (eq-eqb i i refl) in omega (arith, e)) in
    omega (arith, a)
kept_sum n z v (ends gone) objects ids ready other = sum_filter (λ x. count_kept n (v.buffer x)) (λ x. count_kept n ((after v (ends gone)).buffer x)) (λ x. not (is_gone v gone x)) v.ids (kept_after n z v (ends gone) ready other)
kept_sum n z v s objects ids ready other = sum_below (λ x. count_kept n (v.buffer x)) (λ x. count_kept n ((after v s).buffer x)) v.ids (λ x m. kept_after n z v s ready other x)

record_sum : (n : List Event → ℕ) (m : ℕ) (v : View) (cb : ℕ) (c : Event) → LawfulIds v.live v.ids → ((cs : List Event) → n (cs ++ c ∷ []) ≡ n cs + m) →
    sum_by (λ x. count_kept n ((after v (records cb c)).buffer x)) v.ids ≤ sum_by (λ x. count_kept n (v.buffer x)) v.ids + m
unfolding after
record_sum n m v cb c ids more =
    sum_one (λ x. count_kept n (v.buffer x)) (λ x. count_kept n ((after v (records cb c)).buffer x)) cb m v.ids ids.rising
    (λ x e. kept_cond n (cb == x && is_some (v.live x)) _ (v.buffer x) (count_kept n (v.buffer x)) (λ t. absurd (both_ways (cb == x) e (and_parts (cb == x) _ t).0)) (λ t. omega arith))
    (kept_cond n (cb == cb && is_some (v.live cb)) _ (v.buffer cb) (count_kept n (v.buffer cb) + m) (λ t. kept_record n m c more (v.buffer cb)) (λ t. omega arith))

-- ---- bytes of objects

bytes_room : (v : View) (d : Detail) → live_bytes v ≤ 2 ^ 28 → HasBytes v d → live_bytes v + detail_bytes d ≤ 2 ^ 28
bytes_room v (a_memory size) l h = h
bytes_room v (a_swapchain surface images format width height usage) l h = h
bytes_room v _ l h = omega (arith, l)

bytes_create : (v : View) (i p : ℕ) (d : Detail) → LawfulObjects (base v) → LawfulIds v.live v.ids → Ready v (creates i p d) → live_bytes (after v (creates i p d)) ≤ live_bytes v + detail_bytes d
unfolding after
bytes_create v i p d objects ids ready =
    sum_create (ask detail_bytes v) (ask detail_bytes (after v (creates i p d))) i (detail_bytes d) v.ids
    (false_from_ne_true _ (λ e. let o = some_of (v.live i) (sym (ids.exact i) ∙ e) in both_ways (v.used i) ready.unused (objects.used i o.0 o.1)))
    (λ x e. let same : ask detail_bytes (after v (creates i p d)) x ≡ ask detail_bytes v x = ap (λ t. option_map_or (λ o. detail_bytes o.detail) (cond t (Some (record { parent = p; detail = d })) (v.live x)) 0) e in omega (arith, same))
    (let own : ask detail_bytes (after v (creates i p d)) i ≡ detail_bytes d = ap (λ t. option_map_or (λ o. detail_bytes o.detail) (cond t (Some (record { parent = p; detail = d })) (v.live i)) 0) (eq-eqb i i refl) in omega (arith, own))

bytes_end : (v : View) (gone : ℕ) → live_bytes (after v (ends gone)) ≤ live_bytes v
unfolding after
bytes_end v gone = sum_filter (ask detail_bytes v) (ask detail_bytes (after v (ends gone))) (λ x. not (is_gone v gone x)) v.ids (λ x. at x (v.live x))
  where
    at : (x : ℕ) (l : Option Object) → option_map_or (λ o. detail_bytes o.detail) (after_end gone x l) 0 ≤ option_map_or (λ o. detail_bytes o.detail) l 0
    at x None = omega arith
    at x (Some o) = by (goes_with gone x o)
      where
        by : (t : Bool) → option_map_or (λ o. detail_bytes o.detail) (cond {A = Option Object} t None (Some o)) 0 ≤ detail_bytes o.detail
        by true = omega arith
        by false = omega arith

-- ---- all limits

pub limits_after : (v : View) (s : Step) → LawfulObjects (base v) → LawfulIds v.live v.ids → LawfulLimits (counted v) → Ready v s → HasRoom v s → LawfulLimits (counted (after v s))
unfolding after
limits_after v (creates i parent detail) objects ids h ready room =
    let s : Step = creates i parent detail in
    let other : (cb : ℕ) (c : Event) → s ≡ records cb c → ⊥ = λ cb c e. cc in
    let a = length_insert i v.ids in
    let b = bytes_create v i parent detail objects ids ready in
    let c = bytes_room v detail h.bytes room.1 in
    let d = kept_sum length refl v s objects ids ready other in
    let e = kept_sum fields refl v s objects ids ready other in
    let count = room.0 in let kept = h.commands in let size = h.command_bytes in
    record { objects = omega (arith, a, count); bytes = omega (arith, b, c); commands = omega (arith, d, kept); command_bytes = omega (arith, e, size) }
limits_after v (ends gone) objects ids h ready room =
    let s : Step = ends gone in
    let other : (cb : ℕ) (c : Event) → s ≡ records cb c → ⊥ = λ cb c e. cc in
    let a = length_filter (λ x. not (is_gone v gone x)) v.ids in
    let b = bytes_end v gone in
    let d = kept_sum length refl v s objects ids ready other in
    let e = kept_sum fields refl v s objects ids ready other in
    let count = h.objects in let bytes = h.bytes in let kept = h.commands in let size = h.command_bytes in
    record { objects = omega (arith, a, count); bytes = omega (arith, b, bytes); commands = omega (arith, d, kept); command_bytes = omega (arith, e, size) }
limits_after v (records cb command) objects ids h ready room =
    let d = record_sum length 1 v cb command ids (length_more command) in
    let e = record_sum fields (length (spelling 1 command)) v cb command ids (fields_more command) in
    let kept = room.0 in let size = room.1 in
    record { objects = h.objects; bytes = h.bytes; commands = omega (arith, d, kept); command_bytes = omega (arith, e, size) }
limits_after v s objects ids h ready room =
    let other : (cb : ℕ) (c : Event) → s ≡ records cb c → ⊥ = λ cb c e. cc in
    let d = kept_sum length refl v s objects ids ready other in
    let e = kept_sum fields refl v s objects ids ready other in
    let kept = h.commands in let size = h.command_bytes in
    record { objects = h.objects; bytes = h.bytes; commands = omega (arith, d, kept); command_bytes = omega (arith, e, size) }
