-- What a tracker answers.
use Rattle.std.specs.Prelude.{◌≡◌}
use Rattle.gfx_model.specs.Views.{View}
use Rattle.gfx_tracker.specs.declared.tracker.Tracker.{Tracker}
use Rattle.gfx_tracker.specs.State.{state_answers}

-- the answers of a tracker
unfoldable pub answers : Tracker → View
answers t = state_answers t.state

-- the same answers on objects: which are live, were used, are bound and mapped, and their layouts
pub record SameObjects (v w : View) : Type 0 where
  pub live : v.live ≡ w.live
  pub ids : v.ids ≡ w.ids
  pub used : v.used ≡ w.used
  pub bound : v.bound ≡ w.bound
  pub mapped : v.mapped ≡ w.mapped
  pub layout : v.layout ≡ w.layout
