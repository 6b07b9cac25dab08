-- A frame, after the setup and any frames.
use Rattle.std.proofs.Common.{◌≡◌, ℕ, zero, suc, ◌<◌, arith, Bool, true, false, if◌then◌else◌, ◌==◌, ◌&&◌, nat_le, [], ◌∷◌, ◌+◌, List, length, None, is_some, refl, ap, sym, subst, ◌∙◌}
use Rattle.std.specs.Prelude.{◌^◌}
use Rattle.std.proofs.lemmas.Bool.{eqb-true}
use Rattle.gfx_types.specs.declared.names.Fault.TheVariants.{BadValue, OutOfRange, LimitReached}
use Rattle.gfx_model.specs.Events.{Event}
use Rattle.gfx_model.specs.Events.Event.{FillMemory, AcquireNextImageKHR}
use Rattle.gfx_model.specs.Questions.{invalidated, is_once}
use Rattle.gfx_model.specs.Checks.{unless, first, range_holds}
use Rattle.gfx_model.specs.Table.{is_positive}
use Rattle.gfx_model.proofs.Stand.{same_view}
use Rattle.gfx_laws.specs.Laws.{view_after, GoOn}
use Rattle.gfx_make.specs.Made.{waits, resets, submits, frame_with}
use Rattle.gfx_make.proofs.Begun.{opened, begun, ready}

-- ---- functions that differ at few places at most

-- f gives at x what g gives, if it does where x is i and where it is not
at_one : {X : Type 0} (i : ℕ) (f g : Bool → ℕ → X) → f (i == i) i ≡ g (i == i) i → ((x : ℕ) → f false x ≡ g false x) → (x : ℕ) → f (i == x) x ≡ g (i == x) x
at_one {X} i f g here other x = by (i == x) refl
  where
    by : (b : Bool) → (i == x) ≡ b → f (i == x) x ≡ g (i == x) x
    by true is = subst (λ x. f (i == x) x ≡ g (i == x) x) (eqb-true i x is) here
    by false is = ap (λ b. f b x) is ∙ other x ∙ sym (ap (λ b. g b x) is)

-- ---- what a frame leaves

alive : ℕ → Bool
alive x = is_some (begun.live x)

-- an execution leaves a buffer that may be executed again
again : (cb : ℕ) → is_once (begun.buffer cb) ≡ false → (x : ℕ) → invalidated (cb == x && is_once (begun.buffer x)) (begun.buffer x) ≡ begun.buffer x
again cb is = at_one cb (λ b x. invalidated (b && is_once (begun.buffer x)) (begun.buffer x)) (λ b. begun.buffer)
    (ap (λ b. invalidated ((cb == cb) && b) (begun.buffer cb)) is ∙ off (cb == cb)) (λ x. refl)
  where
    off : (b : Bool) → invalidated (b && false) (begun.buffer cb) ≡ begun.buffer cb
    off true = refl
    off false = refl

-- both semaphores are unsignalled in the end, and the fence is signalled
signals_left : (x : ℕ) →
    (if 14 == x then false else (if (15 == x) && alive x then true else (if (14 == x) && alive x then true else (if 13 == x then false
    else (if (13 == x) && alive x then true else (if 15 == x then false else begun.signalled x)))))) ≡ begun.signalled x
unfolding opened alive
signals_left = at_one 13
    (λ a x. if 14 == x then false else (if (15 == x) && alive x then true else (if (14 == x) && alive x then true else (if a then false
    else (if a && alive x then true else (if 15 == x then false else begun.signalled x))))))
    (λ a. begun.signalled) refl
    (at_one 14
    (λ b x. if b then false else (if (15 == x) && alive x then true else (if b && alive x then true else (if 15 == x then false else begun.signalled x))))
    (λ a. begun.signalled) refl
    (at_one 15 (λ c x. if c && alive x then true else (if c then false else begun.signalled x)) (λ a. begun.signalled) refl (λ x. refl)))

-- the image is given back
given_back : (i x k : ℕ) → begun.acquired 5 i ≡ false →
    (if (5 == x) && (i == k) then false else (if (5 == x) && (i == k) && alive x then true else begun.acquired x k)) ≡ begun.acquired x k
given_back i x k free = by (5 == x) (i == k) refl refl
  where
    by : (a b : Bool) → (5 == x) ≡ a → (i == k) ≡ b →
        (if a && b then false else (if a && b && alive x then true else begun.acquired x k)) ≡ begun.acquired x k
    by true true is at = sym (subst (λ x. begun.acquired x k ≡ false) (eqb-true 5 x is) (subst (λ k. begun.acquired 5 k ≡ false) (eqb-true i k at) free))
    by true false is at = refl
    by false b is at = refl

-- ---- the frame

-- the layouts of the two images
abbrev layouts : (six seven : ℕ) → ℕ → ℕ
layouts six seven x = if 6 == x then six else (if 7 == x then seven else begun.layout x)

first_layout : (six seven x : ℕ) →
    (if (6 == x) && alive x then 1000001002 else (if (6 == x) && alive x then 7 else layouts six seven x)) ≡ layouts 1000001002 seven x
unfolding opened alive
first_layout six seven = at_one 6
    (λ a x. if a && alive x then 1000001002 else (if a && alive x then 7 else (if a then six else (if 7 == x then seven else begun.layout x))))
    (λ a x. if a then 1000001002 else (if 7 == x then seven else begun.layout x)) refl (λ x. refl)

second_layout : (six seven x : ℕ) →
    (if (7 == x) && alive x then 1000001002 else (if (7 == x) && alive x then 7 else layouts six seven x)) ≡ layouts six 1000001002 x
unfolding opened alive
second_layout six seven = at_one 7
    (λ a x. if a && alive x then 1000001002 else (if a && alive x then 7 else (if 6 == x then six else (if a then seven else begun.layout x))))
    (λ a x. if 6 == x then six else (if a then 1000001002 else begun.layout x)) refl (λ x. refl)

module _ (k six seven offset : ℕ) (bytes : List ℕ) where
  first_leaves : view_after (ready k six seven) (frame_with 0 offset bytes) ≡ ready (k + 1) 1000001002 seven
  unfolding opened alive
  first_leaves = same_view _ _ (record {
    live = λ x. refl;
    ids = refl;
    used = λ x. refl;
    bound = λ x. refl;
    mapped = λ x. refl;
    buffer = again 11 refl;
    signalled = signals_left;
    acquired = λ x j. given_back 0 x j refl;
    layout = first_layout six seven;
    next_frame = refl;
    is_empty = refl;
    section = refl;
  })

  second_leaves : view_after (ready k six seven) (frame_with 1 offset bytes) ≡ ready (k + 1) six 1000001002
  unfolding opened alive
  second_leaves = same_view _ _ (record {
    live = λ x. refl;
    ids = refl;
    used = λ x. refl;
    bound = λ x. refl;
    mapped = λ x. refl;
    buffer = again 12 refl;
    signalled = signals_left;
    acquired = λ x j. given_back 1 x j refl;
    layout = second_layout six seven;
    next_frame = refl;
    is_empty = refl;
    section = refl;
  })

-- the events of a frame up to its present
abbrev pub unshown : (i offset : ℕ) (bytes : List ℕ) → List Event
unshown i offset bytes = waits ∷ resets ∷ FillMemory 8 offset bytes ∷ AcquireNextImageKHR 3 5 13 0 i 0 ∷ submits (11 + i) ∷ []

-- what a frame asks of its number and its bytes
pub record Fits (k offset : ℕ) (bytes : List ℕ) : Type 0 where
  pub some : is_positive (length bytes) ≡ true
  pub inside : range_holds offset (length bytes) (record { offset = 0; length = 1228800 }) ≡ true
  pub low : nat_le k (2 ^ 62) ≡ true

-- a frame of image i has no fault, is number k, and leaves the answers before frame k + 1
pub record Goes (k six seven i offset : ℕ) (bytes : List ℕ) : Type 0 where
  pub valid : GoOn (ready k six seven) (frame_with i offset bytes)
  pub number : (view_after (ready k six seven) (unshown i offset bytes)).next_frame ≡ k
  pub next_six : ℕ
  pub next_seven : ℕ
  pub leaves : view_after (ready k six seven) (frame_with i offset bytes) ≡ ready (k + 1) next_six next_seven

module _ (k six seven offset : ℕ) (bytes : List ℕ) (f : Fits k offset bytes) where
  filled : first (unless (is_positive (length bytes)) BadValue) (first (unless (range_holds offset (length bytes) (record { offset = 0; length = 1228800 })) OutOfRange) None) ≡ None
  filled = ap (λ b. first (unless b BadValue) (first (unless (range_holds offset (length bytes) (record { offset = 0; length = 1228800 })) OutOfRange) None)) f.some
      ∙ ap (λ b. first (unless b OutOfRange) None) f.inside

  presented : first (unless (nat_le k (2 ^ 62)) LimitReached) None ≡ None
  presented = ap (λ b. first (unless b LimitReached) None) f.low

  pub frame_goes : (i : ℕ) → i < 2 → Goes k six seven i offset bytes
  unfolding opened
  frame_goes zero two = record {
    valid = (refl, (refl, (filled, (refl, (refl, (presented, tt))))));
    number = refl;
    next_six = 1000001002;
    next_seven = seven;
    leaves = first_leaves k six seven offset bytes;
  }
  frame_goes (suc zero) two = record {
    valid = (refl, (refl, (filled, (refl, (refl, (presented, tt))))));
    number = refl;
    next_six = six;
    next_seven = 1000001002;
    leaves = second_leaves k six seven offset bytes;
  }
  frame_goes (suc (suc i)) two = absurd (omega (arith, two))

-- the setup leaves the answers before frame 1
pub setup_leaves : begun ≡ ready 1 0 0
unfolding opened
setup_leaves = same_view _ _ (record {
  live = λ x. refl;
  ids = refl;
  used = λ x. refl;
  bound = λ x. refl;
  mapped = λ x. refl;
  buffer = λ x. refl;
  signalled = λ x. refl;
  acquired = λ x j. refl;
  layout = at_one 6 (λ a x. begun.layout x) (λ a x. if a then 0 else (if 7 == x then 0 else begun.layout x)) refl
      (at_one 7 (λ a x. begun.layout x) (λ a x. if a then 0 else begun.layout x) refl (λ x. refl));
  next_frame = refl;
  is_empty = refl;
  section = refl;
})
