-- Examples of what whole files say.
use Rattle.std.proofs.Common.{◌≡◌, ℕ, List, [], ◌∷◌, ◌++◌, length, refl, ap, arith}
use Rattle.gfx_types.specs.declared.call.Call.TheVariants as call
use Rattle.gfx_types.specs.declared.effect.Effect.TheVariants as made
use Rattle.gfx_types.specs.declared.op.Place.TheVariants as place
use Rattle.gfx_types.specs.declared.op.Op.TheVariants as op
use Rattle.gfx_types.specs.declared.names.Fault.TheVariants.{Truncated, NotLive}
use Rattle.gfx_model.proofs.ExampleCaptures.{all}
use Rattle.gfx_model.specs.Events.{Event, event_of}
use Rattle.gfx_model.specs.Events.Event.{CreateInstance, DestroyInstance, BeginSection, EndSection}
use Rattle.gfx_model.specs.Spelling.{Spells, spelling, encoding, header}
use Rattle.gfx_model.specs.Steps.Change.{copy}
use Rattle.gfx_model.specs.Effects.{changes_of_op}
use Rattle.gfx_model.specs.Blocks.{Whole, AreBlocks}
use Rattle.gfx_model.specs.Blocks.Content.{effect}
use Rattle.gfx_model.specs.Blocks.End.{clean, bad}
use Rattle.gfx_model.specs.Meaning.{Means, MeansUpTo, RangeEnd}
use Rattle.gfx_model.specs.Trimmed.{IsTrimmed}

-- a call whose bytes lie anywhere is one event
ex_event : event_of (made.Call (call.CreateInstance 1 2)) ≡ CreateInstance 1 2
ex_event = refl

-- a copy of two rows is two copies of one row
ex_rows : changes_of_op [] (op.Copy (place.Image 6) 0 8 (place.Memory 8) 16 4 3 2) ≡
    copy (place.Image 6) 0 (place.Memory 8) 16 3 ∷ copy (place.Image 6) 8 (place.Memory 8) 20 3 ∷ []
ex_rows = refl

-- no bytes at all
ex_empty : AreBlocks [] [] (bad Truncated 0 0)
unfolding all
ex_empty = (refl, refl)

-- an effect that no capture begins with, alone in a file
unfoldable pub first : Event
first = DestroyInstance 7

unfoldable pub file : List ℕ
file = header 1 ++ encoding 1 0 first

unfoldable pub block : Whole
block = record { number = 1; offset = 16; bytes = encoding 1 0 first; content = effect 0 first }

ex_spelled : Spells 1 first (spelling 1 first)
unfolding all first
ex_spelled = record { fits = record { version = tt; fields = (omega arith, tt) }; same = refl }

-- it is the one block of the file
pub ex_blocks : AreBlocks file (block ∷ []) clean
unfolding all first file block
ex_blocks = (
  record {
    some_left = λ e. let none : 32 ≡ 0 = ap length e in omega arith;
    framed = refl;
    number = refl;
    offset = refl;
    same = refl;
    content = record { type = refl; fits = ex_spelled.fits; thread_fits = (omega arith, λ e. refl); same = refl };
  },
  refl,
)

-- its block is bad, and it shows nothing
ex_means : Means file [] (bad NotLive 1 16)
unfolding all first file block
ex_means = record { blocks = block ∷ []; blocks_end = clean; are = ex_blocks; shows = refl; ends = refl }

ex_means_to : MeansUpTo 3 file [] (RangeEnd.ended (bad NotLive 1 16))
ex_means_to = record { all = []; file_end = bad NotLive 1 16; means = ex_means; shows = refl; ends = refl }

-- without presents, frame 1 begins right after the header: an empty section, and nothing needed
ex_trimmed : IsTrimmed 1 1 file (header 1 ++ encoding 1 0 (BeginSection 1) ++ encoding 1 0 (EndSection 1) ++ encoding 1 0 first)
unfolding all first file block
ex_trimmed = record { blocks = block ∷ []; end = clean; are = ex_blocks; same = refl }
