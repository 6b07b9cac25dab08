-- The commands of a buffer, one after the other.
use Rattle.std.proofs.Common.{◌≡◌, ℕ, zero, suc, ◌+◌, ◌<◌, ◌≤◌, true, List, [], ◌∷◌, ◌++◌, Option, Some, None, length, drop, cond, refl, ap, sym, ◌∙◌, arith}
use Rattle.std.specs.Prelude.{slice_get}
use Rattle.std.specs.Option.{option_map_or}
use Rattle.std.specs.Ordering.{nat_cmp}
use Rattle.std.specs.FinMap as map
use Rattle.std.specs.FinMap.{FinMap}
use Rattle.gfx_model.specs.Events.Event.{BeginCommandBuffer, EndCommandBuffer}
use Rattle.gfx_model.specs.Section.{recording_events}
use Rattle.gfx_state.specs.Pools.{recorded_anew}
use Rattle.gfx_model.specs.Questions.{State, Buffer, is_kept, new_buffer}
use Rattle.gfx_model.specs.Views.{commands_in}
use Rattle.gfx_commands.specs.declared.recording.Recording.{Recording}
use Rattle.gfx_commands.specs.Recording.{buffer_of}
use Rattle.gfx_commands.specs.Recordings.{buffers, commands_total}
use Rattle.gfx_commands.proofs.Counting.{commands_part}

module _ {X : Type 0} where
  suc_there : (xs : List X) (k : ℕ) (x : X) → Some x ≡ slice_get xs k → drop k xs ≡ x ∷ drop (suc k) xs
  suc_there [] zero x is = absurd (cc)
  suc_there [] (suc k) x is = absurd (cc)
  suc_there (y ∷ ys) zero x is = let same : x ≡ y = cc in ap (λ z. z ∷ ys) (sym same)
  suc_there (y ∷ ys) (suc k) x is = suc_there ys k x is

  -- the item at a place, and those behind it
  pub drop_there : (xs : List X) (k : ℕ) (x : X) → Some x ≡ slice_get xs k → drop k xs ≡ x ∷ drop (k + 1) xs
  drop_there xs k x is =
      let one : suc k ≡ k + 1 = omega arith in
      suc_there xs k x is ∙ ap (λ n. x ∷ drop n xs) one

  pub below_there : (xs : List X) (k : ℕ) (x : X) → Some x ≡ slice_get xs k → k < length xs
  below_there [] zero x is = absurd (cc)
  below_there [] (suc k) x is = absurd (cc)
  below_there (y ∷ ys) zero x is = omega arith
  below_there (y ∷ ys) (suc k) x is = let rest = below_there ys k x is in omega (arith, rest)

  pub drop_past : (xs : List X) (k : ℕ) → None ≡ slice_get xs k → drop k xs ≡ []
  drop_past [] zero none = refl
  drop_past [] (suc k) none = refl
  drop_past (y ∷ ys) zero none = absurd (cc)
  drop_past (y ∷ ys) (suc k) none = drop_past ys k none

-- a recording or executable buffer has no more commands than there are
pub kept_few : (rows : FinMap nat_cmp Recording) (cb : ℕ) → is_kept (buffers rows cb).state ≡ true → length (buffers rows cb).commands ≤ commands_total rows
unfolding buffers
kept_few rows cb kept = by (map.get rows cb) refl kept
  where
    all : (b : Buffer) → is_kept b.state ≡ true → commands_in b ≡ length b.commands
    all b kept = ap (λ t. cond t (length b.commands) 0) kept

    by : (o : Option Recording) → map.get rows cb ≡ o → is_kept (option_map_or buffer_of o new_buffer).state ≡ true → length (option_map_or buffer_of o new_buffer).commands ≤ commands_total rows
    by None none kept = omega arith
    by (Some r) some kept =
        let part = commands_part rows cb r some in
        let same = all (buffer_of r) kept in
        omega (arith, part, same)

-- ---- a buffer recorded anew, by its state

module _ (buffer : ℕ → Buffer) (cb : ℕ) where
  pub anew_recording : State.recording ≡ (buffer cb).state → recorded_anew buffer cb ≡ BeginCommandBuffer cb (buffer cb).flags ∷ (buffer cb).commands
  anew_recording is = ap (λ s. recording_events cb s (buffer cb)) (sym is)

  pub anew_executable : State.executable ≡ (buffer cb).state → recorded_anew buffer cb ≡ (BeginCommandBuffer cb (buffer cb).flags ∷ (buffer cb).commands) ++ EndCommandBuffer cb ∷ []
  anew_executable is = ap (λ s. recording_events cb s (buffer cb)) (sym is)

  pub anew_initial : State.initial ≡ (buffer cb).state → recorded_anew buffer cb ≡ []
  anew_initial is = ap (λ s. recording_events cb s (buffer cb)) (sym is)

  pub anew_invalid : State.invalid ≡ (buffer cb).state → recorded_anew buffer cb ≡ []
  anew_invalid is = ap (λ s. recording_events cb s (buffer cb)) (sym is)
