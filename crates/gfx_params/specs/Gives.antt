-- What reading answers, by the readers of the grammar.
use Rattle.std.specs.Prelude.{◌≡◌, ◌≢◌, List, ℕ, Option, Some, None, Result, Ok, Err}
use Rattle.gfx_model.specs.Events.{Event}
use Rattle.gfx_grammar.specs.Reading.{Reader}
use Rattle.gfx_grammar.specs.Rows.{exactly}
use Rattle.gfx_params.specs.declared.fault.ParamFault.{ParamFault}
use Rattle.gfx_params.specs.declared.fault.ParamFault.TheVariants.{BadParams, WantMemory}

-- bad fields are exactly what the grammar does not read; memory is needed only for what it reads
abbrev pub Fails : {Y : Type 0} → ParamFault → Option Y → Type 0
Fails BadParams read = read ≡ None
Fails WantMemory read = read ≢ None

-- the answer is what the grammar reads
abbrev pub Gives : {X Y : Type 0} → (X → Y) → Result X ParamFault → Option Y → Type 0
Gives seen (Ok x) read = read ≡ Some (seen x)
Gives seen (Err fault) read = Fails fault read

-- whatever event is built of the fields, it is read of these bytes, or there is none
abbrev pub GivesWhole : {X Y : Type 0} → (X → Y) → Reader Y → List ℕ → Result X ParamFault → Type 0
GivesWhole {X} {Y} seen reader bytes result = (build : Y → Event) → Gives (λ x. build (seen x)) result (exactly build reader bytes)

-- the bytes begin with what the reader reads, and these follow it
abbrev pub StandsBehind : {Y : Type 0} → Option (Y × List ℕ) → List ℕ → Type 0
StandsBehind {Y} read rest = (y : Y) × (read ≡ Some (y, rest))
