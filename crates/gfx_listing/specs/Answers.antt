-- What reading a line answers, by the readers of texts.
use Rattle.std.specs.Prelude.{◌≡◌, ℕ, List, ◌++◌, length, take, Option, Some, None, Result, Ok, Err}
use Rattle.gfx_model.specs.Blocks.{minor_of}
use Rattle.gfx_grammar.specs.Framing.{Part}
use Rattle.gfx_listing.specs.declared.fault.LineFault.{LineFault}
use Rattle.gfx_listing.specs.declared.fault.LineFault.TheVariants.{BadLine, WantMemory}
use Rattle.gfx_text.specs.declared.fault.TextFault.{TextFault}
use Rattle.gfx_text.specs.declared.fault.TextFault.TheVariants as text

-- the fault of a line by that of its fields
abbrev pub fault_of : TextFault → LineFault
fault_of text.Bad = BadLine
fault_of text.WantMemory = WantMemory

-- a bad line is one of which nothing is read, and the old bytes still are first
abbrev pub Refuses : {X : Type 0} → LineFault → Option X → (old new : List ℕ) → Type 0
Refuses BadLine read old new = (read ≡ None) × (take (length old) new ≡ old)
Refuses WantMemory read old new = take (length old) new ≡ old

-- the bytes of what is read were appended
abbrev pub AppendsRead : {A X : Type 0} → Result A LineFault → Option X → (X → List ℕ) → (old new : List ℕ) → Type 0
AppendsRead {A} {X} (Ok answer) read bytes old new = (x : X) × (read ≡ Some x) × (new ≡ old ++ bytes x)
AppendsRead (Err fault) read bytes old new = Refuses fault read old new

-- the bytes of the block that is read were appended
abbrev pub AppendsPart : {A : Type 0} → Result A LineFault → Option Part → (old new : List ℕ) → Type 0
AppendsPart result read old new = AppendsRead result read (λ p. p.bytes) old new

-- the header that is read was appended, and this is its minor version
abbrev pub AppendsHeader : Result ℕ LineFault → Option (List ℕ) → (old new : List ℕ) → Type 0
AppendsHeader (Ok minor) read old new = (bytes : List ℕ) × (read ≡ Some bytes) × (new ≡ old ++ bytes) × (minor ≡ minor_of bytes)
AppendsHeader (Err fault) read old new = Refuses fault read old new
