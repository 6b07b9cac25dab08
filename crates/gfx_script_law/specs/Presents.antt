-- The presents of a script, and how many calls of a kind are in what is recorded of it.
use Rattle.std.specs.Prelude.{◌≡◌, ℕ, Bool, true, false, List, filter, length}
use Rattle.std.specs.List.{AllByRecursion}
use Rattle.gfx_model.specs.Events.{Event}
use Rattle.gfx_model.specs.Events.Event.{QueuePresentKHR}
use Rattle.gfx_script_model.specs.Ids.{map_ids}
use Rattle.gfx_script_model.specs.Scripts.{Part}
use Rattle.gfx_script_model.specs.Runs.{Entry, Matches}
use Rattle.gfx_run_law.specs.Pieces.{AreApart}
use Rattle.gfx_script_law.specs.Playable.{script_lines}

-- the call is a present
abbrev pub is_present : Event → Bool
is_present (QueuePresentKHR queue waits presents) = true
is_present _ = false

-- how many presents a script has
abbrev pub presents : List (List Part) → ℕ
presents phases = length (filter (λ l. is_present l.event) (script_lines phases))

-- where each thread has one part in a phase, a log that matches the script has as many calls that pass a test, which looks at no id, as the script has lines
abbrev pub AsManyCalls : Type 0
AsManyCalls = (test : Event → Bool) → ((ids : ℕ → ℕ) (e : Event) → test (map_ids ids e) ≡ test e) →
    (m : ℕ) (phases : List (List Part)) (log : List Entry) → AllByRecursion AreApart phases → Matches m phases log →
    length (filter (λ e. test e.event) log) ≡ length (filter (λ l. test l.event) (script_lines phases))
