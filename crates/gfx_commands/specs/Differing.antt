-- Layouts that the command buffers of a call meet, one after the other, and those that they set.
use Rattle.std.specs.Prelude.{◌≡◌, ◌≤◌, ◌<◌, ℕ, Bool, true, false, Option, List, length, flat_map, slice_index, IfSome}
use Rattle.gfx_types.specs.declared.lists.Submit.{Submit}
use Rattle.gfx_model.specs.Questions.{Buffer}
use Rattle.gfx_types.specs.declared.names.Kind.TheVariants as kind
use Rattle.gfx_model.specs.Views.{View, is_live}
use Rattle.gfx_model.specs.Checks.{Layouts, meets}
use Rattle.gfx_model.specs.Checks.Layouts.{stays, goes}
use Rattle.gfx_model.specs.Layouts.{asked_in, cbs_at, executed_before, layouts_by}
use Rattle.gfx_commands.specs.declared.layouts.Place.{Place}

-- these command buffers meet their layouts, one after the other
abbrev pub AreMet : (ℕ → Buffer) → (ℕ → ℕ) → List ℕ → Type 0
AreMet buffer layout cbs = meets layout (flat_map (asked_in buffer) cbs) ≡ true

-- the layouts before a place of a call
abbrev pub layouts_at : (ℕ → Buffer) → (ℕ → ℕ) → Place → ℕ → ℕ
layouts_at buffer layout place = layouts_by buffer layout (executed_before place.submits.now place.submit place.at)

-- the place is one of the call, and all command buffers before it meet their layouts
pub record IsReached (buffer : ℕ → Buffer) (layout : ℕ → ℕ) (place : Place) : Type 0 where
  pub submit : place.submit < length place.submits.now
  pub at : place.at ≤ length (cbs_at place.submits.now place.submit)
  pub met : AreMet buffer layout (executed_before place.submits.now place.submit place.at)

-- the command buffer at a place of a call meets its layouts, after all that the call executes before it
abbrev pub meets_at : (ℕ → Buffer) → (ℕ → ℕ) → List Submit → (submit at : ℕ) → Bool
meets_at buffer layout submits submit at =
    meets (layouts_by buffer layout (executed_before submits submit at)) (asked_in buffer (slice_index (cbs_at submits submit) at))

-- The first place of a call, as a submit and a place among its command buffers, at which a command buffer does not meet its
-- layouts; none where each meets them.
pub record IsFirstDiffering (buffer : ℕ → Buffer) (layout : ℕ → ℕ) (submits : List Submit) (first : Option (ℕ × ℕ)) : Type 0 where
  pub inside : IfSome first (λ place. (place.0 < length submits) × (place.1 < length (cbs_at submits place.0)))
  pub differs : IfSome first (λ place. meets_at buffer layout submits place.0 place.1 ≡ false)
  pub before : (submit at : ℕ) → submit < length submits → at < length (cbs_at submits submit)
      → IfSome first (λ place. (submit ≤ place.0) × (submit ≡ place.0 → at < place.1)) → meets_at buffer layout submits submit at ≡ true

-- where a layout is set, it is that of a live image
abbrev pub SetsLive : View → Layouts → Type 0
SetsLive v (goes i before after) = is_live v kind.Image i ≡ true
SetsLive v (stays i l) = Unit {0}
