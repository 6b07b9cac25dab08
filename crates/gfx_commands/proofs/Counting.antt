-- The totals after a change of one row.
use Rattle.std.proofs.Common.{◌≡◌, ℕ, ◌+◌, ◌≤◌, Bool, true, false, List, [], ◌∷◌, length, Option, Some, None, if◌then◌else◌, refl, ap, sym, ◌∙◌, arith, ◌==◌}
use Rattle.std.specs.Prelude.{sum_by}
use Rattle.std.specs.Option.{option_map_or}
use Rattle.std.specs.Ordering.{nat_cmp}
use Rattle.std.specs.FinMap as map
use Rattle.std.specs.FinMap.{FinMap, get-empty}
use Rattle.std.proofs.lemmas.Bool.Decides.{nat_tests}
use Rattle.std.proofs.lemmas.List.Sums.{sum_by-cons}
use Rattle.gfx_table.specs.Rows.{total, weight, total-insert, total-remove, total-by_ids, got-remove, remove_none}
use Rattle.gfx_model.specs.Questions.{Buffer, new_buffer, is_kept}
use Rattle.gfx_model.specs.Spelling.{spelling}
use Rattle.gfx_model.specs.Views.{commands_in, bytes_in}
use Rattle.gfx_model.specs.Checks.{is_among, is_distinct}
use Rattle.gfx_commands.specs.declared.recording.Recording.{Recording}
use Rattle.gfx_commands.specs.Recording.{buffer_of}
use Rattle.gfx_model.specs.Limits.{max_kept_bytes, max_kept_commands}
use Rattle.gfx_commands.specs.declared.rows.Totals.{Totals}
use Rattle.gfx_commands.specs.Counted.{IsCounted}
use Rattle.gfx_commands.specs.Recordings.{buffers, commands_total, bytes_total, HoldsKept}

abbrev commands_by : ℕ → Recording → ℕ
commands_by cb row = commands_in (buffer_of row)

abbrev bytes_by : ℕ → Recording → ℕ
bytes_by cb row = bytes_in (buffer_of row)

-- ---- one row

module _ (m : FinMap nat_cmp Recording) (id : ℕ) (o : Recording) (some : map.get m id ≡ Some o) (weigh : ℕ → Recording → ℕ) where
  its_weight : weight weigh m id ≡ weigh id o
  its_weight = ap (λ q. option_map_or (weigh id) q 0) some

  replaced : (n : FinMap nat_cmp Recording) (r : Recording) → n ≡ map.insert m id r → total weigh n + weigh id o ≡ total weigh m + weigh id r
  replaced n r is = let a = total-insert weigh m id r in let b = its_weight in let e = ap (total weigh) is in omega (arith, a, b, e)

  removed : (n : FinMap nat_cmp Recording) → n ≡ map.remove m id → total weigh n + weigh id o ≡ total weigh m
  removed n is = let a = total-remove weigh m id in let b = its_weight in let e = ap (total weigh) is in omega (arith, a, b, e)

  part : weigh id o ≤ total weigh m
  part = let a = total-remove weigh m id in let b = its_weight in omega (arith, a, b)

module _ (m : FinMap nat_cmp Recording) (id : ℕ) (none : map.get m id ≡ None) (weigh : ℕ → Recording → ℕ) where
  fresh : (n : FinMap nat_cmp Recording) (r : Recording) → n ≡ map.insert m id r → total weigh n ≡ total weigh m + weigh id r
  fresh n r is =
      let a = total-insert weigh m id r in
      let b : weight weigh m id ≡ 0 = ap (λ q. option_map_or (weigh id) q 0) none in
      let e = ap (total weigh) is in
      omega (arith, a, b, e)

module _ (m : FinMap nat_cmp Recording) (id : ℕ) (o : Recording) (some : map.get m id ≡ Some o) where
  pub commands_replaced : (n : FinMap nat_cmp Recording) (r : Recording) → n ≡ map.insert m id r → commands_total n + commands_in (buffer_of o) ≡ commands_total m + commands_in (buffer_of r)
  unfolding commands_total
  commands_replaced = replaced m id o some commands_by

  pub bytes_replaced : (n : FinMap nat_cmp Recording) (r : Recording) → n ≡ map.insert m id r → bytes_total n + bytes_in (buffer_of o) ≡ bytes_total m + bytes_in (buffer_of r)
  unfolding bytes_total
  bytes_replaced = replaced m id o some bytes_by

  pub commands_removed : (n : FinMap nat_cmp Recording) → n ≡ map.remove m id → commands_total n + commands_in (buffer_of o) ≡ commands_total m
  unfolding commands_total
  commands_removed = removed m id o some commands_by

  pub bytes_removed : (n : FinMap nat_cmp Recording) → n ≡ map.remove m id → bytes_total n + bytes_in (buffer_of o) ≡ bytes_total m
  unfolding bytes_total
  bytes_removed = removed m id o some bytes_by

  pub commands_part : commands_in (buffer_of o) ≤ commands_total m
  unfolding commands_total
  commands_part = part m id o some commands_by

  pub bytes_part : bytes_in (buffer_of o) ≤ bytes_total m
  unfolding bytes_total
  bytes_part = part m id o some bytes_by

module _ (m : FinMap nat_cmp Recording) (id : ℕ) (none : map.get m id ≡ None) where
  pub commands_fresh : (n : FinMap nat_cmp Recording) (r : Recording) → n ≡ map.insert m id r → commands_total n ≡ commands_total m + commands_in (buffer_of r)
  unfolding commands_total
  commands_fresh = fresh m id none commands_by

  pub bytes_fresh : (n : FinMap nat_cmp Recording) (r : Recording) → n ≡ map.insert m id r → bytes_total n ≡ bytes_total m + bytes_in (buffer_of r)
  unfolding bytes_total
  bytes_fresh = fresh m id none bytes_by

-- ---- the totals beside the rows

module _ (m : FinMap nat_cmp Recording) (t : Totals) (counted : IsCounted m t) (id : ℕ) where
  module _ (o : Recording) (some : map.get m id ≡ Some o) where
    pub commands_counted : commands_in (buffer_of o) ≤ t.commands
    commands_counted = let part = commands_part m id o some in let all = counted.commands in omega (arith, part, all)

    pub bytes_counted : bytes_in (buffer_of o) ≤ t.bytes
    bytes_counted = let part = bytes_part m id o some in let all = counted.bytes in omega (arith, part, all)

    -- another row under the id
    pub counted_over : (r : Recording) (n : FinMap nat_cmp Recording) (now : Totals) → n ≡ map.insert m id r
        → now.commands + commands_in (buffer_of o) ≡ t.commands + commands_in (buffer_of r) → now.bytes + bytes_in (buffer_of o) ≡ t.bytes + bytes_in (buffer_of r)
        → now.commands ≤ max_kept_commands → now.bytes ≤ max_kept_bytes → IsCounted n now
    counted_over r n now is commands bytes few small =
        let all = commands_replaced m id o some n r is in
        let each = bytes_replaced m id o some n r is in
        record {
          commands = let old = counted.commands in omega (arith, all, commands, old);
          bytes = let old = counted.bytes in omega (arith, each, bytes, old);
          few = few;
          small = small;
        }

    -- no row under the id any more
    pub counted_without : (n : FinMap nat_cmp Recording) (now : Totals) → n ≡ map.remove m id
        → now.commands + commands_in (buffer_of o) ≡ t.commands → now.bytes + bytes_in (buffer_of o) ≡ t.bytes → IsCounted n now
    counted_without n now is commands bytes =
        let all = commands_removed m id o some n is in
        let each = bytes_removed m id o some n is in
        record {
          commands = let old = counted.commands in omega (arith, all, commands, old);
          bytes = let old = counted.bytes in omega (arith, each, bytes, old);
          few = let old = counted.few in omega (arith, old, commands);
          small = let old = counted.small in omega (arith, old, bytes);
        }

  module _ (none : map.get m id ≡ None) where
    -- a row under a new id, which counts nothing
    pub counted_new : (r : Recording) (n : FinMap nat_cmp Recording) → n ≡ map.insert m id r → commands_in (buffer_of r) ≡ 0 → bytes_in (buffer_of r) ≡ 0 → IsCounted n t
    counted_new r n is no_commands no_bytes =
        let all = commands_fresh m id none n r is in
        let each = bytes_fresh m id none n r is in
        record {
          commands = let old = counted.commands in omega (arith, all, no_commands, old);
          bytes = let old = counted.bytes in omega (arith, each, no_bytes, old);
          few = counted.few;
          small = counted.small;
        }

    pub counted_still : (n : FinMap nat_cmp Recording) → n ≡ map.remove m id → IsCounted n t
    counted_still n is =
        let same = is ∙ remove_none m id none in
        record {
          commands = counted.commands ∙ sym (ap commands_total same);
          bytes = counted.bytes ∙ sym (ap bytes_total same);
          few = counted.few;
          small = counted.small;
        }

-- ---- all rows, over ids among which all are that count

module _ (weigh : ℕ → Recording → ℕ) where
  no_sum : (f : ℕ → ℕ) (ids : List ℕ) → ((x : ℕ) → f x ≡ 0) → sum_by f ids ≡ 0
  no_sum f [] zero = refl
  no_sum f (x ∷ ids) zero = let a = sum_by-cons f x ids in let b = zero x in let rest = no_sum f ids zero in omega (arith, a, b, rest)

  same_sum : (f g : ℕ → ℕ) (ids : List ℕ) → ((x : ℕ) → is_among x ids ≡ true → f x ≡ g x) → sum_by f ids ≡ sum_by g ids
  same_sum f g [] same = refl
  same_sum f g (x ∷ ids) same =
      let a = sum_by-cons f x ids in
      let b = sum_by-cons g x ids in
      let here = same x (grind (arith, nat_tests)) in
      let rest = same_sum f g ids (λ y among. same y (grind (arith, nat_tests, among))) in
      omega (arith, a, b, here, rest)

  -- what counts is among the ids
  abbrev Counts : FinMap nat_cmp Recording → List ℕ → Type 0
  Counts m ids = (x : ℕ) → is_among x ids ≡ false → weight weigh m x ≡ 0

  pub total_among : (ids : List ℕ) (m : FinMap nat_cmp Recording) → is_distinct ids ≡ true → Counts m ids → sum_by (weight weigh m) ids ≡ total weigh m
  total_among [] m distinct counts = sym (total-by_ids weigh m ∙ no_sum (weight weigh m) (map.keys m) (λ x. counts x refl))
  total_among (id ∷ ids) m distinct counts =
      let n = map.remove m id in
      let at : (x : ℕ) → map.get n x ≡ (if id == x then None else map.get m x) = λ x. ap (λ f. f x) (got-remove m id) in
      let weighed : (x : ℕ) → weight weigh n x ≡ (if id == x then 0 else weight weigh m x) = λ x. let a = at x in grind (arith, nat_tests, a) in
      let others : Counts n ids = λ x out.
      let a = weighed x in
      let b = counts x in
      grind (arith, nat_tests, a, b, out) in
      let apart : (x : ℕ) → is_among x ids ≡ true → weight weigh m x ≡ weight weigh n x = λ x among.
      let a = weighed x in
      let e : id ≡ x → is_among id ids ≡ is_among x ids = ap (λ y. is_among y ids) in
      grind (arith, nat_tests, distinct, a, e, among) in
      let rest = total_among ids n (grind (arith, distinct)) others in
      let first = sum_by-cons (weight weigh m) id ids in
      let same = same_sum (weight weigh m) (weight weigh n) ids apart in
      let gone = total-remove weigh m id in
      omega (arith, rest, first, same, gone)

pub no_commands : commands_total (map.empty) ≡ 0
unfolding commands_total
no_commands = sym (total_among commands_by [] map.empty refl (λ x out. ap (λ o. option_map_or (commands_by x) o 0) (get-empty nat_cmp x)))

pub no_bytes : bytes_total (map.empty) ≡ 0
unfolding bytes_total
no_bytes = sym (total_among bytes_by [] map.empty refl (λ x out. ap (λ o. option_map_or (bytes_by x) o 0) (get-empty nat_cmp x)))

weighed : (m : FinMap nat_cmp Recording) (x : ℕ) (weigh : Buffer → ℕ) → weigh new_buffer ≡ 0 → weight (λ cb row. weigh (buffer_of row)) m x ≡ weigh (buffers m x)
unfolding buffers
weighed m x weigh nothing = cases (map.get m x)
  where
    cases : (o : Option Recording) → option_map_or (λ row. weigh (buffer_of row)) o 0 ≡ weigh (option_map_or buffer_of o new_buffer)
    cases None = sym nothing
    cases (Some row) = refl

-- a buffer that isn't among the ids counts nothing
outside : (m : FinMap nat_cmp Recording) (ids : List ℕ) → HoldsKept (buffers m) ids → (x : ℕ) → is_among x ids ≡ false → is_kept (buffers m x).state ≡ false
outside m ids holds x out = cases (is_kept (buffers m x).state) refl
  where
    cases : (t : Bool) → is_kept (buffers m x).state ≡ t → is_kept (buffers m x).state ≡ false
    cases true e = let h = holds x e in absurd (grind (arith, h, out))
    cases false e = e

pub commands_among : (m : FinMap nat_cmp Recording) (ids : List ℕ) → is_distinct ids ≡ true → HoldsKept (buffers m) ids → sum_by (λ x. commands_in (buffers m x)) ids ≡ commands_total m
unfolding commands_total
commands_among m ids distinct holds =
    same_sum commands_by (λ x. commands_in (buffers m x)) (weight commands_by m) ids (λ x among. sym (weighed m x commands_in refl))
    ∙ total_among commands_by ids m distinct (λ x out.
    weighed m x commands_in refl ∙ (let e = outside m ids holds x out in ap (λ t. if t then length (buffers m x).commands else 0) e))

pub bytes_among : (m : FinMap nat_cmp Recording) (ids : List ℕ) → is_distinct ids ≡ true → HoldsKept (buffers m) ids → sum_by (λ x. bytes_in (buffers m x)) ids ≡ bytes_total m
unfolding bytes_total
bytes_among m ids distinct holds =
    same_sum bytes_by (λ x. bytes_in (buffers m x)) (weight bytes_by m) ids (λ x among. sym (weighed m x bytes_in refl))
    ∙ total_among bytes_by ids m distinct (λ x out.
    weighed m x bytes_in refl ∙ (let e = outside m ids holds x out in ap (λ t. if t then sum_by (λ c. length (spelling 1 c)) (buffers m x).commands else 0) e))
