-- Laws of places, which functions with empty bodies promise.
use Rattle.std.specs.Prelude.{◌≡◌, ℕ, List, Some}
use Rattle.std.specs.List.{AllByRecursion}
use Rattle.gfx_types.specs.declared.op.Place.TheVariants as place
use Rattle.gfx_model.specs.Steps.{Change}
use Rattle.gfx_model.specs.Steps.Detail.{a_memory}
use Rattle.gfx_model.specs.Views.{View, fetched}
use Rattle.gfx_model.specs.Bytes.{bytes_at}
use Rattle.gfx_model.specs.Frames.{picture_size}
use Rattle.gfx_laws.specs.Lawful.{base, LawfulObjects}
use Rattle.gfx_replay.specs.Held.{Bytes}
use Rattle.gfx_replay.specs.Stands.{ArePlacesOf}

-- each live memory and each fetched image has a place, with the bytes that the changes left
pub record AreStored (b : Bytes) (v : View) (es : List Change) : Type 0 where
  pub memories : (x parent size : ℕ) → v.live x ≡ Some (record { parent = parent; detail = a_memory size }) →
      b (place.Memory x) ≡ Some (bytes_at es (place.Memory x) 0 size)
  pub images : (swapchain : ℕ) → AllByRecursion (λ x. b (place.Image x) ≡ Some (bytes_at es (place.Image x) 0 (picture_size v swapchain))) (fetched v swapchain)

-- places that stand are stored so
abbrev pub PlacesAreStored : Type 0
PlacesAreStored = (b : Bytes) (v : View) (es : List Change) → LawfulObjects (base v) → ArePlacesOf b v es → AreStored b v es
