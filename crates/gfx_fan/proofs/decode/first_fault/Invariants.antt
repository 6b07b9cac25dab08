use Rattle.std.proofs.Common.{take}
use Rattle.std.specs.Prelude.{IsSome}
use Rattle.std.specs.List.{All}
use Rattle.gfx_fan.specs.Decoded.{said}
use Rattle.gfx_fan.proofs.decode.first_fault.Given as goal

-- the payloads before this one say something
abbrev pub invariant-places : goal.invariant-places
invariant-places l = record { good : All (λ f. IsSome (said l.minor l.bytes f)) (take l.index l.places) }
