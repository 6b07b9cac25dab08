-- What each change of the objects makes of the answers of the registry.
use Rattle.std.proofs.Common.{◌≡◌, ℕ, ◌==◌, Bool, true, false, ◌&&◌, ◌||◌, zero, suc, List, [], Option, Some, None, is_some, if◌then◌else◌, refl, ap, sym, subst, ◌∙◌, arith}
use Rattle.std.specs.Prelude.{option_map, length, replicate, unwrap_or, slice_get}
use Rattle.std.proofs.lemmas.List.{length-replicate}
use Rattle.std.specs.Option.{option_map_or}
use Rattle.std.specs.Ordering.{nat_cmp}
use Rattle.std.specs.FinMap as map
use Rattle.std.specs.FinMap.{FinMap, get-empty}
use Rattle.std.proofs.lemmas.Bool.Decides.{nat_tests}
use Rattle.gfx_table.specs.Rows.{got-insert, got-remove}
use Rattle.gfx_model.specs.Steps.{Step, Detail, Object}
use Rattle.gfx_model.specs.Steps.Detail.{a_swapchain}
use Rattle.gfx_model.specs.Steps.Change.{set_layout}
use Rattle.gfx_model.specs.Steps.Step.{creates, ends, binds, maps, unmaps, changes}
use Rattle.gfx_model.specs.Questions.{passes, goes_with, after_end, is_owned}
use Rattle.gfx_model.specs.Questions as asked
use Rattle.gfx_model.specs.Views.{View, view_of}
use Rattle.gfx_model.specs.After.{after, is_gone}
use Rattle.gfx_laws.specs.Lawful.{has_signal}
use Rattle.gfx_objects.specs.Objects.{Kept, answers}
use Rattle.gfx_swap.specs.Signals.{is_signalled}
use Rattle.gfx_swap.specs.Acquired.{is_acquired, marks_of}
use Rattle.gfx_tracker.specs.Registered.{registered, images_of, with_signal, without_signal, with_images, without_images, IsRegistered}
use Rattle.gfx_tracker.proofs.Told.{told, told_made, told_ended, plain_gone}

-- ---- a step that changes objects

-- the answers that the objects give are theirs, with the signals and marks after the step
same_but : (k : Kept) (s : FinMap nat_cmp Bool) (m : FinMap nat_cmp (List Bool)) (step : Step) →
    record (after (answers k) step) { signalled = (after (registered k s m) step).signalled; acquired = (after (registered k s m) step).acquired } ≡ after (registered k s m) step
unfolding after
same_but k s m (changes (set_layout i l)) = refl
same_but k s m (changes _) = refl
same_but k s m _ = refl

pub step_onto : (k n : Kept) (s t : FinMap nat_cmp Bool) (m l : FinMap nat_cmp (List Bool)) (step : Step) → answers n ≡ after (answers k) step →
    is_signalled t ≡ (after (registered k s m) step).signalled → is_acquired l ≡ (after (registered k s m) step).acquired → registered n t l ≡ after (registered k s m) step
step_onto k n s t m l step e signal mark =
    let objects : registered n t l ≡ record (after (answers k) step) { signalled = is_signalled t; acquired = is_acquired l } =
    ap (λ (v : View). record v { signalled = is_signalled t; acquired = is_acquired l }) e in
    let others : record (after (answers k) step) { signalled = is_signalled t; acquired = is_acquired l }
    ≡ record (after (answers k) step) { signalled = (after (registered k s m) step).signalled; acquired = (after (registered k s m) step).acquired } =
    λ j. record (after (answers k) step) { signalled = signal j; acquired = mark j } in
    objects ∙ others ∙ same_but k s m step

-- ---- what is not kept is plain

no_signal : (s : FinMap nat_cmp Bool) (x : ℕ) → is_some (map.get s x) ≡ false → is_signalled s x ≡ false
no_signal s x e = by (map.get s x) e
  where
    by : (o : Option Bool) → is_some o ≡ false → unwrap_or o false ≡ false
    by None e = refl
    by (Some b) e = absurd cc

none_acquired : (marks : List Bool) → marks ≡ [] → ◌≡◌ {A = ℕ → Bool} (λ index. unwrap_or (slice_get marks index) false) (λ index. false)
none_acquired marks e = ap {B = ℕ → Bool} (λ l index. unwrap_or (slice_get l index) false) e

no_marks : (m : FinMap nat_cmp (List Bool)) (x : ℕ) → option_map length (map.get m x) ≡ None → is_acquired m x ≡ (λ index. false)
no_marks m x e = none_acquired (marks_of m x) (by (map.get m x) e)
  where
    by : (o : Option (List Bool)) → option_map length o ≡ None → unwrap_or o [] ≡ []
    by None e = refl
    by (Some l) e = absurd cc

fresh_marks : (n index : ℕ) → unwrap_or (slice_get (replicate n false) index) false ≡ false
fresh_marks zero index = refl
fresh_marks (suc n) zero = refl
fresh_marks (suc n) (suc index) = fresh_marks n index

owned_unsignalled : (d : Detail) → is_owned d ≡ true → has_signal d ≡ false
owned_unsignalled d e = by d e
  where
    by : (d : Detail) → is_owned d ≡ true → has_signal d ≡ false
    by Detail.a_fence e = absurd cc
    by Detail.a_semaphore e = absurd cc
    by _ e = refl

owned_bare : (d : Detail) → is_owned d ≡ true → images_of d ≡ None
owned_bare d e = by d e
  where
    by : (d : Detail) → is_owned d ≡ true → images_of d ≡ None
    by (a_swapchain surface images format width height usage) e = absurd cc
    by _ e = refl

-- ---- a new object

module _ (k n : Kept) (s : FinMap nat_cmp Bool) (m : FinMap nat_cmp (List Bool)) (id p : ℕ) (d : Detail) (inv : IsRegistered k s m)
    (e : answers n ≡ after (answers k) (creates id p d)) (none : (answers k).live id ≡ None) where
  live_made : (x : ℕ) → (answers n).live x ≡ (if id == x then Some (record { parent = p; detail = d }) else (answers k).live x)
  unfolding after
  live_made x = ap (λ (v : View). v.live x) e

  fresh_signal : is_some (map.get s id) ≡ false
  fresh_signal = inv.signal id ∙ ap (passes (λ o. has_signal o.detail)) none

  fresh_images : option_map length (map.get m id) ≡ None
  fresh_images = inv.marks id ∙ ap (λ o. option_map_or (λ o. images_of o.detail) o None) none

  signal_got : (x : ℕ) → map.get (with_signal id d s) x ≡ (if id == x && has_signal d then Some false else map.get s x)
  signal_got x = by (has_signal d)
    where
      by : (b : Bool) → map.get (if b then map.insert s id false else s) x ≡ (if id == x && b then Some false else map.get s x)
      by true = let a = ap (λ f. f x) (got-insert s id false) in grind (arith, nat_tests, a)
      by false = grind (arith, nat_tests)

  signal_made : (x : ℕ) → is_signalled (with_signal id d s) x ≡ (if id == x then false else is_signalled s x)
  signal_made x =
      let got = signal_got x in
      let plain : (id == x) ≡ true → is_signalled s x ≡ false = λ same. subst (λ y. is_signalled s y ≡ false) (nat-is id x same) (no_signal s id fresh_signal) in
      ap (λ o. unwrap_or o false) got ∙ by (id == x) (has_signal d) plain
    where
      nat-is : (a b : ℕ) → (a == b) ≡ true → a ≡ b
      nat-is a b e = grind (arith, nat_tests, e)

      by : (b c : Bool) → (b ≡ true → is_signalled s x ≡ false) → unwrap_or (if b && c then Some false else map.get s x) false ≡ (if b then false else is_signalled s x)
      by true true plain = refl
      by true false plain = plain refl
      by false c plain = refl

  made_signals : (x : ℕ) → is_some (map.get (with_signal id d s) x) ≡ (if id == x then has_signal d else is_some (map.get s x))
  made_signals x = ap is_some (signal_got x) ∙ by (id == x) (has_signal d) refl refl
    where
      by : (b c : Bool) → (id == x) ≡ b → has_signal d ≡ c → is_some (if b && c then Some false else map.get s x) ≡ (if b then c else is_some (map.get s x))
      by true true same is = refl
      by true false same is = subst (λ y. is_some (map.get s y) ≡ false) (let at : id ≡ x = grind (arith, nat_tests, same) in at) fresh_signal
      by false c same is = refl

  made_marks : (x : ℕ) → option_map length (map.get (with_images id d m) x) ≡ (if id == x then images_of d else option_map length (map.get m x))
  made_marks x = by (images_of d)
    where
      same : (b : Bool) → (id == x) ≡ b → option_map length (map.get m x) ≡ (if b then None else option_map length (map.get m x))
      same true e = subst (λ y. option_map length (map.get m y) ≡ None) (let at : id ≡ x = grind (arith, nat_tests, e) in at) fresh_images
      same false e = refl

      there : (count : ℕ) (b : Bool) → option_map length (if b then Some (replicate count false) else map.get m x) ≡ (if b then Some count else option_map length (map.get m x))
      there count true = ap Some (length-replicate count false)
      there count false = refl

      by : (i : Option ℕ) → option_map length (map.get (option_map_or (λ count. map.insert m id (replicate count false)) i m) x) ≡ (if id == x then i else option_map length (map.get m x))
      by None = same (id == x) refl
      by (Some count) = ap (λ f. option_map length (f x)) (got-insert m id (replicate count false)) ∙ there count (id == x)

  mark_made : (x : ℕ) → is_acquired (with_images id d m) x ≡ (if id == x then (λ index. false) else is_acquired m x)
  mark_made x = by (images_of d)
    where
      same : (b : Bool) → (id == x) ≡ b → is_acquired m x ≡ (if b then (λ index. false) else is_acquired m x)
      same true e = subst (λ y. is_acquired m y ≡ (λ index. false)) (let at : id ≡ x = grind (arith, nat_tests, e) in at) (no_marks m id fresh_images)
      same false e = refl

      there : (count : ℕ) (b : Bool) → ◌≡◌ {A = ℕ → Bool} (λ index. unwrap_or (slice_get (unwrap_or (if b then Some (replicate count false) else map.get m x) []) index) false) (if b then (λ index. false) else is_acquired m x)
      there count true = λ j index. fresh_marks count index j
      there count false = refl

      by : (i : Option ℕ) → is_acquired (option_map_or (λ count. map.insert m id (replicate count false)) i m) x ≡ (if id == x then (λ index. false) else is_acquired m x)
      by None = same (id == x) refl
      by (Some count) = ap {B = ℕ → Bool} (λ f index. unwrap_or (slice_get (unwrap_or (f x) []) index) false) (got-insert m id (replicate count false)) ∙ there count (id == x)

  pub registered_made : IsRegistered n (with_signal id d s) (with_images id d m)
  registered_made = record {
    signal = λ x. told_made false has_signal (answers k).live (λ x. is_some (map.get s x)) inv.signal id p d _ made_signals x ∙ ap (told false has_signal) (sym (live_made x));
    marks = λ x. told_made None images_of (answers k).live (λ x. option_map length (map.get m x)) inv.marks id p d _ made_marks x ∙ ap (told None images_of) (sym (live_made x));
  }

  pub answers_made : registered n (with_signal id d s) (with_images id d m) ≡ after (registered k s m) (creates id p d)
  unfolding after
  answers_made = step_onto k n s (with_signal id d s) m (with_images id d m) (creates id p d) e (λ j x. signal_made x j) (λ j x. mark_made x j)

-- ---- an object that ends

pub none_of : {X : Type 0} (o : Option X) → is_some o ≡ false → o ≡ None
none_of None e = refl
none_of (Some x) e = absurd cc

none_long : (o : Option (List Bool)) → option_map length o ≡ None → o ≡ None
none_long None e = refl
none_long (Some l) e = absurd cc

module _ (k n : Kept) (s : FinMap nat_cmp Bool) (m : FinMap nat_cmp (List Bool)) (gone : ℕ) (o : Object) (inv : IsRegistered k s m)
    (e : answers n ≡ after (answers k) (ends gone)) (some : (answers k).live gone ≡ Some o) where
  live_ended : (x : ℕ) → (answers n).live x ≡ after_end gone x ((answers k).live x)
  unfolding after
  live_ended x = ap (λ (v : View). v.live x) e

  signal_left : (x : ℕ) → map.get (without_signal gone o.detail s) x ≡ (if gone == x then None else map.get s x)
  signal_left x = by (has_signal o.detail) refl
    where
      none : (b : Bool) → (gone == x) ≡ b → has_signal o.detail ≡ false → map.get s x ≡ (if b then None else map.get s x)
      none true same plain = subst (λ y. map.get s y ≡ None) (let at : gone ≡ x = grind (arith, nat_tests, same) in at)
          (none_of (map.get s gone) (inv.signal gone ∙ ap (told false has_signal) some ∙ plain))
      none false other plain = refl

      by : (b : Bool) → has_signal o.detail ≡ b → map.get (if b then map.remove s gone else s) x ≡ (if gone == x then None else map.get s x)
      by true is = ap (λ f. f x) (got-remove s gone)
      by false is = none (gone == x) refl is

  marks_left : (x : ℕ) → map.get (without_images gone o.detail m) x ≡ (if gone == x then None else map.get m x)
  marks_left x = by (images_of o.detail) refl
    where
      none : (b : Bool) → (gone == x) ≡ b → images_of o.detail ≡ None → map.get m x ≡ (if b then None else map.get m x)
      none true same plain = subst (λ y. map.get m y ≡ None) (let at : gone ≡ x = grind (arith, nat_tests, same) in at)
          (none_long (map.get m gone) (inv.marks gone ∙ ap (told None images_of) some ∙ plain))
      none false other plain = refl

      by : (i : Option ℕ) → images_of o.detail ≡ i → map.get (option_map_or (λ count. map.remove m gone) i m) x ≡ (if gone == x then None else map.get m x)
      by None is = none (gone == x) refl is
      by (Some count) is = ap (λ f. f x) (got-remove m gone)

  is_gone_itself : (x : ℕ) → (gone == x) ≡ true → is_gone (answers k) gone x ≡ true
  is_gone_itself x same =
      ap (passes (goes_with gone x)) (subst (λ y. (answers k).live y ≡ Some o) (let at : gone ≡ x = grind (arith, nat_tests, same) in at) some)
      ∙ ap (λ b. b || is_owned o.detail && gone == o.parent) same

  signal_ended : (x : ℕ) → is_signalled (without_signal gone o.detail s) x ≡ (if is_gone (answers k) gone x then false else is_signalled s x)
  signal_ended x = ap (λ o. unwrap_or o false) (signal_left x) ∙ by (gone == x) refl
    where
      at : (b : Bool) → is_gone (answers k) gone x ≡ b → (gone == x) ≡ false → is_signalled s x ≡ (if b then false else is_signalled s x)
      at true is other = no_signal s x (plain_gone false has_signal (answers k).live (λ x. is_some (map.get s x)) inv.signal owned_unsignalled gone x other is)
      at false is other = refl

      by : (b : Bool) → (gone == x) ≡ b → unwrap_or (if b then None else map.get s x) false ≡ (if is_gone (answers k) gone x then false else is_signalled s x)
      by true same = ap (λ b. if b then false else is_signalled s x) (sym (is_gone_itself x same))
      by false other = at (is_gone (answers k) gone x) refl other

  mark_ended : (x : ℕ) → is_acquired (without_images gone o.detail m) x ≡ (if is_gone (answers k) gone x then (λ index. false) else is_acquired m x)
  mark_ended x = ap {B = ℕ → Bool} (λ o index. unwrap_or (slice_get (unwrap_or o []) index) false) (marks_left x) ∙ by (gone == x) refl
    where
      at : (b : Bool) → is_gone (answers k) gone x ≡ b → (gone == x) ≡ false → is_acquired m x ≡ (if b then (λ index. false) else is_acquired m x)
      at true is other = no_marks m x (plain_gone None images_of (answers k).live (λ x. option_map length (map.get m x)) inv.marks owned_bare gone x other is)
      at false is other = refl

      by : (b : Bool) → (gone == x) ≡ b → ◌≡◌ {A = ℕ → Bool} (λ index. unwrap_or (slice_get (unwrap_or (if b then None else map.get m x) []) index) false) (if is_gone (answers k) gone x then (λ index. false) else is_acquired m x)
      by true same = ap (λ (b : Bool). if b then (λ (index : ℕ). false) else is_acquired m x) (sym (is_gone_itself x same))
      by false other = at (is_gone (answers k) gone x) refl other

  left_signals : (x : ℕ) → is_some (map.get (without_signal gone o.detail s) x) ≡ (if gone == x then false else is_some (map.get s x))
  left_signals x = ap is_some (signal_left x) ∙ by (gone == x)
    where
      by : (b : Bool) → is_some (if b then None else map.get s x) ≡ (if b then false else is_some (map.get s x))
      by true = refl
      by false = refl

  left_marks : (x : ℕ) → option_map length (map.get (without_images gone o.detail m) x) ≡ (if gone == x then None else option_map length (map.get m x))
  left_marks x = ap (option_map length) (marks_left x) ∙ by (gone == x)
    where
      by : (b : Bool) → option_map length (if b then None else map.get m x) ≡ (if b then None else option_map length (map.get m x))
      by true = refl
      by false = refl

  pub registered_ended : IsRegistered n (without_signal gone o.detail s) (without_images gone o.detail m)
  registered_ended = record {
    signal = λ x. told_ended false has_signal (answers k).live (λ x. is_some (map.get s x)) inv.signal owned_unsignalled gone _ left_signals x ∙ ap (told false has_signal) (sym (live_ended x));
    marks = λ x. told_ended None images_of (answers k).live (λ x. option_map length (map.get m x)) inv.marks owned_bare gone _ left_marks x ∙ ap (told None images_of) (sym (live_ended x));
  }

  pub answers_ended : registered n (without_signal gone o.detail s) (without_images gone o.detail m) ≡ after (registered k s m) (ends gone)
  unfolding after
  answers_ended = step_onto k n s (without_signal gone o.detail s) m (without_images gone o.detail m) (ends gone) e (λ j x. signal_ended x j) (λ j x. mark_ended x j)

-- ---- the same objects

pub registered_same : (k n : Kept) (s : FinMap nat_cmp Bool) (m : FinMap nat_cmp (List Bool)) → IsRegistered k s m → ((x : ℕ) → (answers n).live x ≡ (answers k).live x) → IsRegistered n s m
registered_same k n s m inv same = record {
  signal = λ x. inv.signal x ∙ ap (told false has_signal) (sym (same x));
  marks = λ x. inv.marks x ∙ ap (told None images_of) (sym (same x));
}

pub registered_along : (k n : Kept) (s : FinMap nat_cmp Bool) (m : FinMap nat_cmp (List Bool)) → IsRegistered k s m → answers n ≡ answers k → IsRegistered n s m
registered_along k n s m inv e = registered_same k n s m inv (λ x. ap (λ (v : View). v.live x) e)

pub answers_along : (k n : Kept) (s : FinMap nat_cmp Bool) (m : FinMap nat_cmp (List Bool)) → answers n ≡ answers k → registered n s m ≡ registered k s m
answers_along k n s m e = ap (λ (v : View). record v { signalled = is_signalled s; acquired = is_acquired m }) e

module _ (k n : Kept) (s : FinMap nat_cmp Bool) (m : FinMap nat_cmp (List Bool)) (inv : IsRegistered k s m) where
  pub registered_bound : (r memory offset : ℕ) → answers n ≡ after (answers k) (binds r memory offset) → IsRegistered n s m
  unfolding after
  registered_bound r memory offset e = registered_same k n s m inv (λ x. ap (λ (v : View). v.live x) e)

  pub answers_bound : (r memory offset : ℕ) → answers n ≡ after (answers k) (binds r memory offset) → registered n s m ≡ after (registered k s m) (binds r memory offset)
  unfolding after
  answers_bound r memory offset e = step_onto k n s s m m (binds r memory offset) e refl refl

  pub registered_mapped : (memory offset size : ℕ) → answers n ≡ after (answers k) (maps memory offset size) → IsRegistered n s m
  unfolding after
  registered_mapped memory offset size e = registered_same k n s m inv (λ x. ap (λ (v : View). v.live x) e)

  pub answers_mapped : (memory offset size : ℕ) → answers n ≡ after (answers k) (maps memory offset size) → registered n s m ≡ after (registered k s m) (maps memory offset size)
  unfolding after
  answers_mapped memory offset size e = step_onto k n s s m m (maps memory offset size) e refl refl

  pub registered_unmapped : (memory : ℕ) → answers n ≡ after (answers k) (unmaps memory) → IsRegistered n s m
  unfolding after
  registered_unmapped memory e = registered_same k n s m inv (λ x. ap (λ (v : View). v.live x) e)

  pub answers_unmapped : (memory : ℕ) → answers n ≡ after (answers k) (unmaps memory) → registered n s m ≡ after (registered k s m) (unmaps memory)
  unfolding after
  answers_unmapped memory e = step_onto k n s s m m (unmaps memory) e refl refl

  pub registered_laid : (image l : ℕ) → answers n ≡ after (answers k) (changes (set_layout image l)) → IsRegistered n s m
  unfolding after
  registered_laid image l e = registered_same k n s m inv (λ x. ap (λ (v : View). v.live x) e)

  pub answers_laid : (image l : ℕ) → answers n ≡ after (answers k) (changes (set_layout image l)) → registered n s m ≡ after (registered k s m) (changes (set_layout image l))
  unfolding after
  answers_laid image l e = step_onto k n s s m m (changes (set_layout image l)) e refl refl

-- ---- what has no signal and no marks of its own

pub no_new_signal : (id : ℕ) (d : Detail) (s : FinMap nat_cmp Bool) → has_signal d ≡ false → with_signal id d s ≡ s
no_new_signal id d s e = ap (λ b. if b then map.insert s id false else s) e

pub no_new_images : (id : ℕ) (d : Detail) (m : FinMap nat_cmp (List Bool)) → images_of d ≡ None → with_images id d m ≡ m
no_new_images id d m e = ap (λ i. option_map_or (λ count. map.insert m id (replicate count false)) i m) e

module _ (k n : Kept) (s : FinMap nat_cmp Bool) (m : FinMap nat_cmp (List Bool)) (id p : ℕ) (d : Detail) (inv : IsRegistered k s m)
    (e : answers n ≡ after (answers k) (creates id p d)) (none : (answers k).live id ≡ None) (unsignalled : has_signal d ≡ false) (bare : images_of d ≡ None) where
  pub registered_owned : IsRegistered n s m
  registered_owned =
      subst (λ t. IsRegistered n t m) (no_new_signal id d s unsignalled)
      (subst (λ l. IsRegistered n (with_signal id d s) l) (no_new_images id d m bare) (registered_made k n s m id p d inv e none))

  pub answers_owned : registered n s m ≡ after (registered k s m) (creates id p d)
  answers_owned =
      subst (λ t. registered n t m ≡ after (registered k s m) (creates id p d)) (no_new_signal id d s unsignalled)
      (subst (λ l. registered n (with_signal id d s) l ≡ after (registered k s m) (creates id p d)) (no_new_images id d m bare) (answers_made k n s m id p d inv e none))

-- ---- nothing is live

got_none : {X : Type 0} (x : ℕ) → map.get (let m : FinMap nat_cmp X = map.empty in m) x ≡ None
got_none x = get-empty nat_cmp x

module _ (k : Kept) (s : FinMap nat_cmp Bool) (m : FinMap nat_cmp (List Bool)) (e : answers k ≡ record (view_of []) { is_empty = false }) (no_signals : s ≡ map.empty) (no_images : m ≡ map.empty) where
  none_live : (x : ℕ) → (answers k).live x ≡ None
  unfolding asked.live
  none_live x = ap (λ (v : View). v.live x) e

  pub registered_empty : IsRegistered k s m
  registered_empty = record {
    signal = λ x. ap (λ (s : FinMap nat_cmp Bool). is_some (map.get s x)) no_signals ∙ ap is_some (got_none {X = Bool} x) ∙ sym (ap (told false has_signal) (none_live x));
    marks = λ x. ap (λ (m : FinMap nat_cmp (List Bool)). option_map length (map.get m x)) no_images ∙ ap (option_map length) (got_none {X = List Bool} x) ∙ sym (ap (told None images_of) (none_live x));
  }

  pub answers_empty : registered k s m ≡ record (view_of []) { is_empty = false }
  unfolding asked.live
  answers_empty =
      ap (λ (v : View). record v { signalled = is_signalled s; acquired = is_acquired m }) e
      ∙ (λ j. record (view_of []) { signalled = λ x. signal x j; acquired = λ x. mark x j; is_empty = false })
    where
      signal : (x : ℕ) → is_signalled s x ≡ false
      signal x = ap (λ (s : FinMap nat_cmp Bool). is_signalled s x) no_signals ∙ ap (λ o. unwrap_or o false) (got_none {X = Bool} x)

      mark : (x : ℕ) → is_acquired m x ≡ (λ index. false)
      mark x = ap {B = ℕ → Bool} (λ (m : FinMap nat_cmp (List Bool)). is_acquired m x) no_images ∙ ap {B = ℕ → Bool} (λ o index. unwrap_or (slice_get (unwrap_or o []) index) false) (got_none {X = List Bool} x)
