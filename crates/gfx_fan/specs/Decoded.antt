-- What payloads that lie in bytes say.
use Rattle.std.specs.Prelude.{◌≡◌, ◌+◌, ◌≤◌, ℕ, List, ◌∷◌, ◌++◌, length, Option, None, IsSome, ⊤}
use Rattle.std.specs.List.{All, slice_range}
use Rattle.gfx_model.specs.Blocks.{Content}
use Rattle.gfx_grammar.specs.Rows.{read_content}
use Rattle.gfx_grammar.specs.Splitting.{payload_fault}
use Rattle.gfx_types.specs.declared.names.Fault.{Fault}
use Rattle.gfx_fan.specs.declared.decode.Framed.{Framed}
use Rattle.gfx_fan.specs.declared.fault.FanFault.{FanFault}
use Rattle.gfx_fan.specs.declared.fault.FanFault.TheVariants.{Bad, WantMemory}

-- a payload lies in the bytes
abbrev pub IsInside : List ℕ → Framed → Type 0
IsInside bytes f = f.at + f.framing.size ≤ length bytes

-- its bytes
abbrev pub payload_at : List ℕ → Framed → List ℕ
payload_at bytes f = slice_range bytes f.at (f.at + f.framing.size)

-- what it says in minor version m
abbrev pub said : ℕ → List ℕ → Framed → Option Content
said m bytes f = read_content m f.framing.kind (payload_at bytes f)

-- the payloads before a place say something, and the one at it nothing, for this fault
pub record IsFirstBad (m : ℕ) (bytes : List ℕ) (places : List Framed) (fault : Fault) (place : ℕ) : Type 0 where
  pub before : List Framed
  pub here : Framed
  pub later : List Framed
  pub parts : places ≡ before ++ here ∷ later
  pub counted : place ≡ length before
  pub good : All (λ f. IsSome (said m bytes f)) before
  pub none : said m bytes here ≡ None
  pub because : fault ≡ payload_fault here.framing.kind (payload_at bytes here)

-- why there are no blocks of these payloads: the first bad one, or there was no memory
abbrev pub StopsAmong : ℕ → List ℕ → List Framed → FanFault → Type 0
StopsAmong m bytes places (Bad fault place) = IsFirstBad m bytes places fault place
StopsAmong m bytes places WantMemory = ⊤
