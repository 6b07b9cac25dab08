-- Answers read off changes and steps alone, whatever is live: the newest layouts, all bindings, and the command buffers by them.
use Rattle.std.specs.Prelude.{ℕ, ◌==◌, Bool, ◌&&◌, ◌||◌, if◌then◌else◌, List, [], ◌∷◌, ◌++◌, Option, Some, None}
use Rattle.std.specs.List.{list_any}
use Rattle.gfx_model.specs.Steps.{Step, Change, resources_of}
use Rattle.gfx_model.specs.Steps.Step.{creates, ends, binds, begins, records, finishes, resets, resets_pool, executed}
use Rattle.gfx_model.specs.Steps.Change.{set_layout}
use Rattle.gfx_model.specs.Questions.{live, Binding, Buffer, State, new_buffer, passes, goes_with, rests_on, invalidated, is_once, is_in_pool}

-- the newest layout of an image among changes, 0 where there is none
abbrev pub newest_layout : List Change → ℕ → ℕ
newest_layout [] image = 0
newest_layout (set_layout i l ∷ es) image = if i == image then l else newest_layout es image
newest_layout (_ ∷ es) image = newest_layout es image

-- all bindings that a resource ever got, the newest first
abbrev pub bindings : List Step → ℕ → List Binding
bindings [] r = []
bindings (binds i memory offset ∷ h) r = if i == r then record { memory = memory; offset = offset } ∷ bindings h r else bindings h r
bindings (_ ∷ h) r = bindings h r

-- the memory and offset to which a resource was ever bound
unfoldable pub ever_bound : List Step → ℕ → Option Binding
ever_bound [] r = None
ever_bound (binds i memory offset ∷ h) r = if i == r then Some (record { memory = memory; offset = offset }) else ever_bound h r
ever_bound (_ ∷ h) r = ever_bound h r

-- it goes with this object, or rests on it by its newest binding ever
abbrev pub ever_loses : List Step → ℕ → ℕ → Bool
ever_loses h gone r = gone == r || passes (goes_with gone r) (live h r) || rests_on gone (ever_bound h r)

-- a command of the buffer names such a resource
abbrev pub ever_names_lost : List Step → ℕ → Buffer → Bool
ever_names_lost h gone b = list_any (λ c. list_any (ever_loses h gone) (resources_of c)) b.commands

-- the state, begin flags and commands of a command buffer, by these bindings
unfoldable pub ever_buffer : List Step → ℕ → Buffer
ever_buffer [] cb = new_buffer
ever_buffer (creates i parent detail ∷ h) cb = if i == cb then new_buffer else ever_buffer h cb
ever_buffer (resets i ∷ h) cb = if i == cb then new_buffer else ever_buffer h cb
ever_buffer (resets_pool pool ∷ h) cb = if passes (is_in_pool pool) (live h cb) then new_buffer else ever_buffer h cb
ever_buffer (begins i flags ∷ h) cb = if i == cb then record { state = State.recording; flags = flags; commands = [] } else ever_buffer h cb
ever_buffer (records i command ∷ h) cb =
    let b = ever_buffer h cb in
    if i == cb then record b { commands = b.commands ++ command ∷ [] } else b
ever_buffer (finishes i ∷ h) cb =
    let b = ever_buffer h cb in
    if i == cb then record b { state = State.executable } else b
ever_buffer (executed i ∷ h) cb =
    let b = ever_buffer h cb in
    invalidated (i == cb && is_once b) b
ever_buffer (ends gone ∷ h) cb =
    let b = ever_buffer h cb in
    invalidated (ever_names_lost h gone b) b
ever_buffer (_ ∷ h) cb = ever_buffer h cb
