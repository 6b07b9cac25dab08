-- What the turns of submits leave.
use Rattle.std.specs.Prelude.{◌≡◌, ◌≤◌, ◌<◌, ℕ, Bool, true, false, Option, List, [], ◌∷◌, length, flat_map, slice_get, slice_index, IfSome}
use Rattle.std.specs.Option.{option_map_or}
use Rattle.gfx_types.specs.declared.lists.Submit.{Submit}
use Rattle.gfx_model.specs.Limits.{max_submits, max_submit_buffers}
use Rattle.gfx_model.specs.Views.{View}
use Rattle.gfx_model.specs.Checks.{Turn, turns_of_submit, but, meets}
use Rattle.gfx_model.specs.Checks.Turn.{wait, execute, signal}
use Rattle.gfx_model.specs.Layouts.{asked_in, cbs_at, executed_before, layouts_by}

-- as few submits, and command buffers in each, as a call may have
pub record AreFew (submits : List Submit) : Type 0 where
  pub all : length submits ≤ max_submits
  pub each : (submit : ℕ) → length (cbs_at submits submit) ≤ max_submit_buffers

-- what is signalled after these turns
abbrev pub signals_after : (ℕ → Bool) → List Turn → ℕ → Bool
signals_after signalled [] = signalled
signals_after signalled (wait s ∷ ts) = signals_after (but s false signalled) ts
signals_after signalled (execute cb ∷ ts) = signals_after signalled ts
signals_after signalled (signal s ∷ ts) = signals_after (but s true signalled) ts

-- what is signalled after these submits
abbrev pub signals_behind : (ℕ → Bool) → List Submit → ℕ → Bool
signals_behind signalled submits = signals_after signalled (flat_map turns_of_submit submits)

-- the turns of the submit at a place
abbrev pub turns_at : List Submit → ℕ → List Turn
turns_at submits place = option_map_or turns_of_submit (slice_get submits place) []

-- the command buffer at a place of a call meets its layouts, after all that the call executes before it
abbrev pub meets_at : View → List Submit → (submit at : ℕ) → Bool
meets_at v submits submit at = meets (layouts_by v.buffer v.layout (executed_before submits submit at)) (asked_in v.buffer (slice_index (cbs_at submits submit) at))

-- The first place of a call, as a submit and a place among its command buffers, at which a command buffer does not meet its
-- layouts; none where each meets them.
pub record IsFirstDiffering (v : View) (submits : List Submit) (first : Option (ℕ × ℕ)) : Type 0 where
  pub inside : IfSome first (λ place. (place.0 < length submits) × (place.1 < length (cbs_at submits place.0)))
  pub differs : IfSome first (λ place. meets_at v submits place.0 place.1 ≡ false)
  pub before : (submit at : ℕ) → submit < length submits → at < length (cbs_at submits submit)
      → IfSome first (λ place. (submit ≤ place.0) × (submit ≡ place.0 → at < place.1)) → meets_at v submits submit at ≡ true
