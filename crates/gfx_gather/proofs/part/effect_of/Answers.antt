use Rattle.std.proofs.Common.{ℕ, suc, ◌<◌, List, [], ◌∷◌, get_or, Fits, w8, arith}
use Rattle.std.specs.List.{AllByRecursion}
use Rattle.gfx_model.specs.Spelling.{fields_of}
use Rattle.gfx_gather.proofs.part.effect_of.Goals as goal

all-bytes : (bytes : List ℕ) → ((i : ℕ) → Fits w8 (get_or bytes i 0)) → AllByRecursion (λ b. b < 256) bytes
all-bytes [] each = tt
all-bytes (b ∷ bytes) each = (let byte = each 0 in omega (arith, byte), all-bytes bytes (λ i. each (suc i)))

pub returns-clause-fits : goal.returns-clause-fits
unfolding fields_of
returns-clause-fits c minor = record { version = tt; fields = (omega arith, (omega arith, ((omega arith, all-bytes c.args.bytes.now c.type_inv.bytes), tt))) }
