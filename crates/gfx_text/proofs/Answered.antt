-- What an answer says once it is known.
use Rattle.std.proofs.Common.{◌≡◌, Option, Some, None, ap, ◌∙◌}
use Rattle.gfx_grammar.proofs.NumberLaws.{some_is}
use Rattle.gfx_text.specs.Gives.{Reads}

pub reads_none : {X Y : Type 0} (o : Option X) (seen : X → Y) (read : Option Y) → o ≡ None → Reads o seen read → read ≡ None
reads_none None seen read is h = h
reads_none (Some x) seen read is h = absurd cc

pub reads_some : {X Y : Type 0} (o : Option X) (seen : X → Y) (read : Option Y) (x : X) → o ≡ Some x → Reads o seen read → read ≡ Some (seen x)
reads_some None seen read x is h = absurd cc
reads_some (Some y) seen read x is h = h ∙ ap (λ z. Some (seen z)) (some_is y x is)
