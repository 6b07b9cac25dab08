-- The buffers after a change of one row.
use Rattle.std.proofs.Common.{◌≡◌, ℕ, ◌==◌, Bool, true, false, ◌&&◌, Option, Some, None, is_some, if◌then◌else◌, refl, ap, sym, ◌∙◌, arith}
use Rattle.std.specs.Option.{option_map_or}
use Rattle.std.specs.Ordering.{nat_cmp}
use Rattle.std.specs.FinMap as map
use Rattle.std.specs.FinMap.{FinMap, get-empty}
use Rattle.std.proofs.lemmas.Bool.Decides.{nat_tests}
use Rattle.gfx_table.specs.Rows.{got-insert, got-remove}
use Rattle.gfx_model.specs.Questions.{State, Buffer, new_buffer, invalidated, is_once}
use Rattle.gfx_model.specs.Checks.{is_recording}
use Rattle.gfx_commands.specs.declared.recording.Recording.{Recording}
use Rattle.gfx_commands.specs.Recording.{state_of, buffer_of}
use Rattle.gfx_commands.specs.Recordings.{buffers}

pub found : (m : FinMap nat_cmp Recording) (id : ℕ) (o : Option Recording) → map.get m id ≡ o → buffers m id ≡ option_map_or buffer_of o new_buffer
unfolding buffers
found m id o is = ap (λ q. option_map_or buffer_of q new_buffer) is

pub no_buffers : (m : FinMap nat_cmp Recording) → m ≡ map.empty → buffers m ≡ (λ x. new_buffer)
no_buffers m is = λ i x. (found m x None (ap (λ m. map.get m x) is ∙ get-empty nat_cmp x)) i

-- a choice by a test on ids
choose : {X : Type 0} (id x : ℕ) (q a b : X) → (id ≡ x → q ≡ a) → ((id == x) ≡ false → q ≡ b) → q ≡ (if id == x then a else b)
choose id x q a b here there = cases (id == x) refl
  where
    cases : (t : Bool) → (id == x) ≡ t → q ≡ (if id == x then a else b)
    cases true e = here (grind (arith, nat_tests, e)) ∙ sym (ap (λ t. if t then a else b) e)
    cases false e = there e ∙ sym (ap (λ t. if t then a else b) e)

module _ (m n : FinMap nat_cmp Recording) (id : ℕ) where
  -- the row under the id, and all others as they were
  at_row : (q : Option Recording) → map.get n ≡ (λ x. if id == x then q else map.get m x) → (x : ℕ) (b : Buffer) → (id ≡ x → option_map_or buffer_of q new_buffer ≡ b)
      → buffers n x ≡ (if id == x then b else buffers m x)
  at_row q got x b here =
      let at = ap (λ f. f x) got in
      choose id x (buffers n x) b (buffers m x)
      (λ e. found n x q (at ∙ (let t : (id == x) ≡ true = grind (arith, nat_tests, e) in ap (λ t. if t then q else map.get m x) t)) ∙ here e)
      (λ t. found n x (map.get m x) (at ∙ ap (λ t. if t then q else map.get m x) t) ∙ sym (found m x (map.get m x) refl))

  pub set_to : (r : Recording) (b : Buffer) → n ≡ map.insert m id r → buffer_of r ≡ b → buffers n ≡ (λ x. if id == x then b else buffers m x)
  set_to r b is e = λ i x. (at_row (Some r) (ap map.get is ∙ got-insert m id r) x b (λ h. e)) i

  pub taken_out : n ≡ map.remove m id → buffers n ≡ (λ x. if id == x then new_buffer else buffers m x)
  taken_out is = λ i x. (at_row None (ap map.get is ∙ got-remove m id) x new_buffer (λ h. refl)) i

  module _ (o : Recording) (some : map.get m id ≡ Some o) where
    pub changed : (r : Recording) (f : Buffer → Buffer) → n ≡ map.insert m id r → buffer_of r ≡ f (buffer_of o) → buffers n ≡ (λ x. if id == x then f (buffers m x) else buffers m x)
    changed r f is e = λ i x. (at_row (Some r) (ap map.get is ∙ got-insert m id r) x (f (buffers m x))
        (λ h. e ∙ ap f (sym (found m id (Some o) some) ∙ ap (buffers m) h))) i

-- ---- invalidated

-- a buffer that isn't kept stays as it is
pub stays_new : (m : FinMap nat_cmp Recording) (cb : ℕ) → map.get m cb ≡ None → buffers m ≡ (λ x. if cb == x then invalidated true (buffers m x) else buffers m x)
stays_new m cb none = λ i x. (choose cb x (buffers m x) (invalidated true (buffers m x)) (buffers m x) (λ e. here x e) (λ e. refl)) i
  where
    here : (x : ℕ) → cb ≡ x → buffers m x ≡ invalidated true (buffers m x)
    here x e =
        let is : buffers m x ≡ new_buffer = sym (ap (buffers m) e) ∙ found m cb None none in
        is ∙ sym (ap (invalidated true) is)

-- ---- executed

module _ (b : ℕ → Buffer) (cb : ℕ) where
  at_once : (x : ℕ) (t : Bool) → (cb == x) ≡ t → is_once (b cb) ≡ true → (if t then invalidated true (b x) else b x) ≡ invalidated (t && is_once (b x)) (b x)
  at_once x true e once =
      let same : cb ≡ x = grind (arith, nat_tests, e) in
      let o : is_once (b x) ≡ true = sym (ap (λ y. is_once (b y)) same) ∙ once in
      sym (ap (λ t. invalidated t (b x)) o)
  at_once x false e once = refl

  pub is_executed : (n : ℕ → Buffer) → n ≡ (λ x. if cb == x then invalidated true (b x) else b x) → is_once (b cb) ≡ true
      → n ≡ (λ x. invalidated (cb == x && is_once (b x)) (b x))
  is_executed n is once = is ∙ (λ i x. (at_once x (cb == x) refl once) i)

  not_once : (x : ℕ) (t : Bool) → (cb == x) ≡ t → is_once (b cb) ≡ false → b x ≡ invalidated (t && is_once (b x)) (b x)
  not_once x true e once =
      let same : cb ≡ x = grind (arith, nat_tests, e) in
      let o : is_once (b x) ≡ false = sym (ap (λ y. is_once (b y)) same) ∙ once in
      sym (ap (λ t. invalidated t (b x)) o)
  not_once x false e once = refl

  pub stays_executable : is_once (b cb) ≡ false → b ≡ (λ x. invalidated (cb == x && is_once (b x)) (b x))
  stays_executable once = λ i x. (not_once x (cb == x) refl once) i

-- ---- a recording buffer

-- it is kept
pub recording_kept : (m : FinMap nat_cmp Recording) (cb : ℕ) → is_recording (buffers m cb).state ≡ true → is_some (map.get m cb) ≡ true
recording_kept m cb h = cases (map.get m cb) refl
  where
    cases : (o : Option Recording) → map.get m cb ≡ o → is_some (map.get m cb) ≡ true
    cases None e = let b = ap (λ (b : Buffer). is_recording b.state) (found m cb None e) in absurd (grind (arith, h, b))
    cases (Some r) e = ap is_some e

-- its recording is too
pub recording_row : (m : FinMap nat_cmp Recording) (cb : ℕ) (r : Recording) → map.get m cb ≡ Some r → is_recording (buffers m cb).state ≡ true → state_of r.state ≡ State.recording
recording_row m cb r some h = only (state_of r.state) (sym (ap (λ (b : Buffer). is_recording b.state) (found m cb (Some r) some)) ∙ h)
  where
    only : (s : State) → is_recording s ≡ true → s ≡ State.recording
    only State.initial e = cc
    only State.recording e = refl
    only State.executable e = cc
    only State.invalid e = cc
