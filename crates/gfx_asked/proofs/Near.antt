-- The accesses of operations that end below 2^64 do.
use Rattle.std.proofs.Common.{ℕ, List, [], ◌∷◌, ◌++◌, flat_map}
use Rattle.std.specs.List.{AllByRecursion}
use Rattle.gfx_types.specs.declared.op.Op.{Op}
use Rattle.gfx_model.proofs.Lists.{all_append}
use Rattle.gfx_asked.specs.declared.access.Access.{Access}
use Rattle.gfx_asked.specs.Accesses.{accesses_of_op, IsNear, AreNear}

ops_near : (given : ℕ) (ops : List Op) → AreNear given ops → AllByRecursion IsNear (flat_map (accesses_of_op given) ops)
ops_near given [] a = tt
ops_near given (o ∷ ops) a = all_append IsNear (accesses_of_op given o) (flat_map (accesses_of_op given) ops) a.0 (ops_near given ops a.1)

pub more_near : (given : ℕ) (xs : List Access) (ops : List Op) → AllByRecursion IsNear xs → AreNear given ops → AllByRecursion IsNear (xs ++ flat_map (accesses_of_op given) ops)
more_near given xs ops a b = all_append IsNear xs (flat_map (accesses_of_op given) ops) a (ops_near given ops b)
