-- A list to which nothing was appended.
use Rattle.std.proofs.Common.{◌≡◌, List, [], ◌++◌, sym}
use Rattle.std.proofs.lemmas.List.{append-nil}
use Rattle.gfx_types.specs.declared.op.Op.{Op}

pub nothing_more : (ops : List Op) → ops ≡ ops ++ []
nothing_more ops = sym (append-nil ops)
