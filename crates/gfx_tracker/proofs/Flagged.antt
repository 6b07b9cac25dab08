-- What a signal or a mark that is set makes of the answers, and that a swapchain has a mark for each of its images.
use Rattle.std.proofs.Common.{◌≡◌, ℕ, ◌==◌, ◌<◌, Bool, true, false, ◌&&◌, List, [], Option, Some, None, is_some, if◌then◌else◌, refl, ap, sym, subst, ◌∙◌, arith}
use Rattle.std.specs.Prelude.{option_map, length, unwrap_or, slice_get, slice_set}
use Rattle.std.proofs.Common.{get_or}
use Rattle.std.proofs.lemmas.List.{length-set, get_or-set_other}
use Rattle.std.proofs.lemmas.Grind.{get_or-set_at}
use Rattle.std.proofs.lemmas.Option.{unwrap_or-slice_get}
use Rattle.std.specs.Option.{option_map_or}
use Rattle.std.specs.Ordering.{nat_cmp}
use Rattle.std.specs.FinMap as map
use Rattle.std.specs.FinMap.{FinMap}
use Rattle.std.proofs.lemmas.Bool.Decides.{nat_tests}
use Rattle.gfx_table.specs.Rows.{got-insert}
use Rattle.gfx_model.specs.Steps.{Detail, Object}
use Rattle.gfx_model.specs.Steps.Detail.{a_swapchain}
use Rattle.gfx_model.specs.Steps.Step.{signals, unsignals, acquires, gives_back}
use Rattle.gfx_model.specs.Questions.{passes}
use Rattle.gfx_types.specs.declared.names.Kind.TheVariants as kind
use Rattle.gfx_model.specs.Steps.{kind_of, kind_number}
use Rattle.gfx_model.specs.Views.{is_live, images_in, detail_images}
use Rattle.gfx_model.specs.After.{after, is_alive}
use Rattle.gfx_laws.specs.Lawful.{has_signal}
use Rattle.gfx_objects.specs.Objects.{Kept, answers}
use Rattle.gfx_swap.specs.Signals.{is_signalled}
use Rattle.gfx_swap.specs.Acquired.{is_acquired, marks_of}
use Rattle.gfx_tracker.specs.Registered.{registered, images_of, IsRegistered}
use Rattle.gfx_tracker.proofs.Told.{told}

nat-is : (a b : ℕ) → (a == b) ≡ true → a ≡ b
nat-is a b e = grind (arith, nat_tests, e)

module _ (k : Kept) (s : FinMap nat_cmp Bool) (m : FinMap nat_cmp (List Bool)) (inv : IsRegistered k s m) (id : ℕ)
    (has : passes (λ o. has_signal o.detail) ((answers k).live id) ≡ true) where
  set_signal : (value : Bool) (x : ℕ) → is_signalled (map.insert s id value) x ≡ (if id == x then value else is_signalled s x)
  set_signal value x = ap (λ f. unwrap_or (f x) false) (got-insert s id value) ∙ by (id == x)
    where
      by : (b : Bool) → unwrap_or (if b then Some value else map.get s x) false ≡ (if b then value else is_signalled s x)
      by true = refl
      by false = refl

  pub registered_set : (value : Bool) → IsRegistered k (map.insert s id value) m
  registered_set value = record { signal = λ x. ap (λ f. is_some (f x)) (got-insert s id value) ∙ by x (id == x) refl; marks = inv.marks }
    where
      by : (x : ℕ) (b : Bool) → (id == x) ≡ b → is_some (if b then Some value else map.get s x) ≡ told false has_signal ((answers k).live x)
      by x true same = subst (λ y. true ≡ told false has_signal ((answers k).live y)) (nat-is id x same) (sym has)
      by x false other = inv.signal x

  alive : (x : ℕ) → (id == x) ≡ true → is_alive (answers k) x ≡ true
  alive x same = subst (λ y. is_alive (answers k) y ≡ true) (nat-is id x same) (by ((answers k).live id) has)
    where
      by : (o : Option Object) → passes (λ o. has_signal o.detail) o ≡ true → is_some o ≡ true
      by None e = absurd cc
      by (Some o) e = refl

  signal_on : (x : ℕ) → is_signalled (map.insert s id true) x ≡ (if id == x && is_alive (answers k) x then true else is_signalled s x)
  signal_on x = set_signal true x ∙ by (id == x) refl
    where
      by : (b : Bool) → (id == x) ≡ b → (if b then true else is_signalled s x) ≡ (if b && is_alive (answers k) x then true else is_signalled s x)
      by true same = ap (λ c. if c then true else is_signalled s x) (sym (alive x same))
      by false other = refl

  pub answers_signalled : registered k (map.insert s id true) m ≡ after (registered k s m) (signals id)
  unfolding after answers
  answers_signalled = λ j. record (answers k) { signalled = λ x. signal_on x j; acquired = is_acquired m }

  pub answers_unsignalled : registered k (map.insert s id false) m ≡ after (registered k s m) (unsignals id)
  unfolding after answers
  answers_unsignalled = λ j. record (answers k) { signalled = λ x. set_signal false x j; acquired = is_acquired m }

-- a live swapchain has a mark for each of its images
pub marks_long : (k : Kept) (s : FinMap nat_cmp Bool) (m : FinMap nat_cmp (List Bool)) → IsRegistered k s m → (swapchain : ℕ) → is_live (answers k) kind.Swapchain swapchain ≡ true →
    option_map length (map.get m swapchain) ≡ Some (images_in (answers k) swapchain)
marks_long k s m inv swapchain live = inv.marks swapchain ∙ by ((answers k).live swapchain) live
  where
    at : (p : ℕ) (d : Detail) → (kind_number (kind_of d) == 12) ≡ true → images_of d ≡ Some (detail_images d)
    at p (a_swapchain surface images format width height usage) e = refl
    at p _ e = absurd cc

    by : (o : Option Object) → passes (λ o. kind_number (kind_of o.detail) == 12) o ≡ true → told None images_of o ≡ Some (option_map_or (λ o. detail_images o.detail) o 0)
    by None e = absurd cc
    by (Some o) e = at o.parent o.detail e

marks_are : (m : FinMap nat_cmp (List Bool)) (swapchain n : ℕ) → option_map length (map.get m swapchain) ≡ Some n → length (marks_of m swapchain) ≡ n
marks_are m swapchain n e = by (map.get m swapchain) e
  where
    by : (o : Option (List Bool)) → option_map length o ≡ Some n → length (unwrap_or o []) ≡ n
    by None e = absurd cc
    by (Some l) e = cc

pub marks_enough : (k : Kept) (s : FinMap nat_cmp Bool) (m : FinMap nat_cmp (List Bool)) → IsRegistered k s m → (swapchain index : ℕ) → is_live (answers k) kind.Swapchain swapchain ≡ true →
    index < images_in (answers k) swapchain → index < length (marks_of m swapchain)
marks_enough k s m inv swapchain index live below = let long = marks_are m swapchain _ (marks_long k s m inv swapchain live) in omega arith

-- a swapchain has as many marks as images, and nothing else has marks
pub marks_counted : (k : Kept) (s : FinMap nat_cmp Bool) (m : FinMap nat_cmp (List Bool)) → IsRegistered k s m → (x : ℕ) → length (marks_of m x) ≡ images_in (answers k) x
marks_counted k s m inv x = by (map.get m x) ((answers k).live x) (inv.marks x)
  where
    of : (d : Detail) (o : Option (List Bool)) → option_map length o ≡ images_of d → length (unwrap_or o []) ≡ detail_images d
    of (a_swapchain surface images format width height usage) None e = absurd cc
    of (a_swapchain surface images format width height usage) (Some l) e = cc
    of _ None e = refl
    of _ (Some l) e = absurd cc

    by : (o : Option (List Bool)) (l : Option Object) → option_map length o ≡ told None images_of l → length (unwrap_or o []) ≡ option_map_or (λ o. detail_images o.detail) l 0
    by None None e = refl
    by (Some l) None e = absurd cc
    by o (Some q) e = of q.detail o e

module _ (k : Kept) (s : FinMap nat_cmp Bool) (m : FinMap nat_cmp (List Bool)) (inv : IsRegistered k s m) (swapchain index : ℕ)
    (live : is_live (answers k) kind.Swapchain swapchain ≡ true) (below : index < images_in (answers k) swapchain) where
  abbrev pub marked : Bool → FinMap nat_cmp (List Bool)
  marked value = map.insert m swapchain (slice_set (marks_of m swapchain) index value)

  mark_got : (value : Bool) (x : ℕ) → map.get (marked value) x ≡ (if swapchain == x then Some (slice_set (marks_of m swapchain) index value) else map.get m x)
  mark_got value x = ap (λ f. f x) (got-insert m swapchain (slice_set (marks_of m swapchain) index value))

  set_mark : (value : Bool) (i : ℕ) → unwrap_or (slice_get (slice_set (marks_of m swapchain) index value) i) false ≡ (if index == i then value else is_acquired m swapchain i)
  set_mark value i = unwrap_or-slice_get (slice_set (marks_of m swapchain) index value) i false ∙ by (index == i) refl
    where
      by : (b : Bool) → (index == i) ≡ b → get_or (slice_set (marks_of m swapchain) index value) i false ≡ (if b then value else is_acquired m swapchain i)
      by true same = get_or-set_at (marks_of m swapchain) index i value false (sym (nat-is index i same)) (marks_enough k s m inv swapchain index live below)
      by false other = get_or-set_other (marks_of m swapchain) index i value false (λ e. let at : index ≡ i = sym e in absurd (grind (arith, nat_tests, other, at)))
          ∙ sym (unwrap_or-slice_get (marks_of m swapchain) i false)

  mark_set : (value : Bool) (x i : ℕ) → is_acquired (marked value) x i ≡ (if swapchain == x && index == i then value else is_acquired m x i)
  mark_set value x i = ap (λ o. unwrap_or (slice_get (unwrap_or o []) i) false) (mark_got value x) ∙ by (swapchain == x) refl
    where
      by : (b : Bool) → (swapchain == x) ≡ b → unwrap_or (slice_get (unwrap_or (if b then Some (slice_set (marks_of m swapchain) index value) else map.get m x) []) i) false
          ≡ (if b && index == i then value else is_acquired m x i)
      by true same = set_mark value i ∙ ap (λ y. if index == i then value else is_acquired m y i) (nat-is swapchain x same)
      by false other = refl

  pub registered_marked : (value : Bool) → IsRegistered k s (marked value)
  registered_marked value = record { signal = inv.signal; marks = λ x. ap (option_map length) (mark_got value x) ∙ by x (swapchain == x) refl }
    where
      by : (x : ℕ) (b : Bool) → (swapchain == x) ≡ b → option_map length (if b then Some (slice_set (marks_of m swapchain) index value) else map.get m x) ≡ told None images_of ((answers k).live x)
      by x true same =
          ap Some (length-set (marks_of m swapchain) index value ∙ marks_are m swapchain _ (marks_long k s m inv swapchain live))
          ∙ sym (marks_long k s m inv swapchain live) ∙ inv.marks swapchain ∙ ap (λ y. told None images_of ((answers k).live y)) (nat-is swapchain x same)
      by x false other = inv.marks x

  swapchain_alive : (x : ℕ) → (swapchain == x) ≡ true → is_alive (answers k) x ≡ true
  swapchain_alive x same = subst (λ y. is_alive (answers k) y ≡ true) (nat-is swapchain x same) (by ((answers k).live swapchain) live)
    where
      by : (o : Option Object) → passes (λ o. kind_number (kind_of o.detail) == 12) o ≡ true → is_some o ≡ true
      by None e = absurd cc
      by (Some o) e = refl

  mark_on : (x i : ℕ) → is_acquired (marked true) x i ≡ (if swapchain == x && index == i && is_alive (answers k) x then true else is_acquired m x i)
  mark_on x i = mark_set true x i ∙ by (swapchain == x) (index == i) refl
    where
      by : (b c : Bool) → (swapchain == x) ≡ b → (if b && c then true else is_acquired m x i) ≡ (if b && c && is_alive (answers k) x then true else is_acquired m x i)
      by true true same = ap (λ d. if d then true else is_acquired m x i) (sym (swapchain_alive x same))
      by true false same = refl
      by false c other = refl

  pub answers_acquired : registered k s (marked true) ≡ after (registered k s m) (acquires swapchain index)
  unfolding after answers
  answers_acquired = λ j. record (answers k) { signalled = is_signalled s; acquired = λ x i. mark_on x i j }

  pub answers_given_back : registered k s (marked false) ≡ after (registered k s m) (gives_back swapchain index)
  unfolding after answers
  answers_given_back = λ j. record (answers k) { signalled = is_signalled s; acquired = λ x i. mark_set false x i j }
