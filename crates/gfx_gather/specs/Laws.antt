-- Scripts with their writes gathered can be run as scripts.
use Rattle.std.specs.Prelude.{◌≡◌, ℕ, Bool, List}
use Rattle.gfx_script_model.specs.Scripts.{Part}
use Rattle.gfx_script_law.specs.Playable.{IsPlayable}
use Rattle.gfx_script_law.specs.Presents.{presents}
use Rattle.gfx_gather.specs.Shown.{shown_phases}

-- Where threads and names are in order and lines have blocks, that is so with the writes of each thread gathered, too.
abbrev pub ShownIsPlayable : Type 0
ShownIsPlayable = (gathers : Bool) (m : ℕ) (phases : List (List Part)) → IsPlayable m phases → IsPlayable m (shown_phases gathers phases)

-- and they have as many presents
abbrev pub ShownHasPresents : Type 0
ShownHasPresents = (gathers : Bool) (phases : List (List Part)) → presents (shown_phases gathers phases) ≡ presents phases
