-- The types and ids of the events that a block holds.
use Rattle.std.proofs.Common.{◌≡◌, ◌≢◌, ℕ, ◌==◌, ◌&&◌, List, Bool, true, false, refl, ap}
use Rattle.gfx_types.specs.declared.call.Call.{Call}
use Rattle.gfx_types.specs.declared.call.Call.TheVariants as call
use Rattle.gfx_types.specs.declared.effect.Meta.TheVariants as meta
use Rattle.gfx_model.specs.Text.{is_call, is_present}
use Rattle.gfx_model.specs.Blocks.{effect}
use Rattle.gfx_types.specs.declared.effect.Meta.{Meta}
use Rattle.gfx_types.specs.declared.lists.Present.{Present}
use Rattle.gfx_model.specs.Events.{event_of, event_of_call, event_of_meta}
use Rattle.gfx_types.specs.declared.effect.Effect.TheVariants as of_block
use Rattle.gfx_model.specs.Spelling.{id_of, type_of}

-- every call is of type 4
pub call_type : (c : Call) → type_of (event_of_call c) ≡ 4
unfolding type_of
call_type (call.CreateInstance instance api) = refl
call_type _ = refl

pub meta_type : (m : Meta) → type_of (event_of_meta m) ≡ 3
unfolding type_of
meta_type (meta.FillMemory memory offset bytes) = refl
meta_type (meta.InitImage image layout bytes) = refl
meta_type (meta.SetSwapchainState swapchain acquired) = refl
meta_type (meta.SetSemaphoreState semaphore signalled) = refl

-- only one call has the id of QueuePresentKHR
pub other_id : (c : Call) → ((queue : ℕ) (waits : List ℕ) (presents : List Present) → c ≢ call.QueuePresentKHR queue waits presents) → (id_of (event_of_call c) == 48) ≡ false
unfolding id_of
other_id (call.QueuePresentKHR queue waits presents) not = absurd (not queue waits presents refl)
other_id _ not = refl

-- a call is counted as one, and as a frame where it has that id
pub with_call : (thread : ℕ) (c : Call) → (is_call (effect thread (event_of_call c)) ≡ true) × (is_present (effect thread (event_of_call c)) ≡ (id_of (event_of_call c) == 48))
with_call thread c = (ap (λ n. n == 4) (call_type c), ap (λ n. n == 4 && id_of (event_of_call c) == 48) (call_type c))

-- state is neither
pub with_meta : (thread : ℕ) (m : Meta) → (is_call (effect thread (event_of_meta m)) ≡ false) × (is_present (effect thread (event_of_meta m)) ≡ false)
with_meta thread m = (ap (λ n. n == 4) (meta_type m), ap (λ n. n == 4 && id_of (event_of_meta m) == 48) (meta_type m))

pub with_marker : (thread : ℕ) (begin : Bool) (frame : ℕ) → (is_call (effect thread (event_of (of_block.Marker begin frame))) ≡ false) × (is_present (effect thread (event_of (of_block.Marker begin frame))) ≡ false)
unfolding type_of
with_marker thread true frame = (refl, refl)
with_marker thread false frame = (refl, refl)
