-- An effect that may be taken, and what follows it.
use Rattle.std.specs.Prelude.{◌≡◌, ◌<◌, ◌≤◌, ◌+◌, ◌||◌, ℕ, true, false, IsTrue, [], None, is_some, fold}
use Rattle.gfx_model.specs.Events.{Event}
use Rattle.gfx_model.specs.Steps.{Detail}
use Rattle.gfx_types.specs.declared.names.Kind.TheVariants as kind
use Rattle.gfx_types.specs.declared.lists.Present.{Present}
use Rattle.gfx_model.specs.Questions.{passes}
use Rattle.gfx_model.specs.Views.{View, object_count, live_bytes, detail_bytes, size_of, is_live, images_in}
use Rattle.gfx_model.specs.Checks.{first_broken}
use Rattle.gfx_model.specs.Table.{checks_of}
use Rattle.gfx_model.specs.Effects.{steps_of}
use Rattle.gfx_model.specs.After.{after}
use Rattle.gfx_model.specs.Limits.{max_live_bytes, max_live_objects}
use Rattle.gfx_laws.specs.Lawful.{IsLawful, has_signal}
use Rattle.gfx_objects.specs.Object.{is_within}

-- the answers after an event
abbrev pub after_event : View → Event → View
after_event v e = fold after v (steps_of v e)

-- the answers are as after some valid history, and the event breaks no check
pub record IsNext (v : View) (e : Event) : Type 0 where
  pub passes : first_broken v (checks_of e) ≡ None
  pub lawful : ∥ IsLawful v [] ∥₁

-- an object of these parameters may be created under the id
pub record MayCreate (v : View) (id : ℕ) (d : Detail) : Type 0 where
  pub not_zero : 0 < id
  pub unused : v.used id ≡ false
  pub fresh : is_some (v.live id) ≡ false
  pub within : is_within d ≡ true
  pub room : object_count v < max_live_objects
  pub bytes : live_bytes v + detail_bytes d ≤ max_live_bytes

-- a live buffer or image, and a live memory inside which it ends from this offset on
pub record MayBind (v : View) (id memory offset : ℕ) : Type 0 where
  pub resource : IsTrue (is_live v kind.Buffer id || is_live v kind.Image id)
  pub there : IsTrue (is_live v kind.Memory memory)
  pub inside : offset + size_of v id ≤ size_of v memory

-- a live object, after some valid history
pub record MayEnd (v : View) (id : ℕ) : Type 0 where
  pub live : is_some (v.live id) ≡ true
  pub lawful : ∥ IsLawful v [] ∥₁

-- a live fence or semaphore
abbrev pub HasSignal : View → ℕ → Type 0
HasSignal v x = passes (λ o. has_signal o.detail) (v.live x) ≡ true

-- an image of a live swapchain
pub record HasIndex (v : View) (p : Present) : Type 0 where
  pub live : is_live v kind.Swapchain p.swapchain ≡ true
  pub below : p.index < images_in v p.swapchain
