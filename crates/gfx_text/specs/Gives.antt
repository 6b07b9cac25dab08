-- What reading answers, by the readers of texts.
use Rattle.std.specs.Prelude.{◌≡◌, Option, Some, None, Result, Ok, Err, MatchOption}
use Rattle.gfx_model.specs.Events.{Event}
use Rattle.gfx_text_grammar.specs.FieldReading.{Left, FieldReader}
use Rattle.gfx_text_grammar.specs.Rows.{exactly}
use Rattle.gfx_text.specs.declared.fault.TextFault.{TextFault}
use Rattle.gfx_text.specs.declared.fault.TextFault.TheVariants.{Bad, WantMemory}

-- the value is what is read, and there is none exactly where nothing is read
abbrev pub Reads : {X Y : Type 0} → Option X → (X → Y) → Option Y → Type 0
Reads value seen read = MatchOption value (read ≡ None) (λ x. read ≡ Some (seen x))

-- a bad text is exactly what is not read; memory may be needed at any time
abbrev pub Fails : {Y : Type 0} → TextFault → Option Y → Type 0
Fails Bad read = read ≡ None
Fails WantMemory read = Unit {0}

-- the answer is what is read
abbrev pub Gives : {X Y : Type 0} → Result X TextFault → (X → Y) → Option Y → Type 0
Gives (Ok x) seen read = read ≡ Some (seen x)
Gives (Err fault) seen read = Fails fault read

-- whatever event is built of the fields, it is read of these, or there is none
abbrev pub GivesWhole : {X Y : Type 0} → Result X TextFault → (X → Y) → FieldReader Y → Left → Type 0
GivesWhole {X} {Y} result seen reader left = (build : Y → Event) → Gives result (λ x. build (seen x)) (exactly build reader left)
