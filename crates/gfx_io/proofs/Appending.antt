-- What a sink took of a text that is written part by part.
use Rattle.std.proofs.Common.{ℕ, ◌+◌, ◌≤◌, List, [], ◌++◌, length, take, Option, Some, None, sym, ap, ◌∙◌, append_assoc, length-append, le_refl, arith}
use Rattle.std.proofs.Math.Seq.{take-append-add, take-length}
use Rattle.std.proofs.lemmas.List.{append-nil, take-append-le}
use Rattle.std.specs.Io.KnownBytes.{Appends}
use Rattle.gfx_io.specs.Pieces.{AppendsPart}

-- nothing was written yet
pub appends_none : (a : Option (List ℕ)) → Appends a a []
appends_none None = tt
appends_none (Some xs) = sym (append-nil xs)

pub appends_then : (a b c : Option (List ℕ)) (x y : List ℕ) → Appends a b x → Appends b c y → Appends a c (x ++ y)
appends_then None b c x y p q = tt
appends_then (Some xs) None c x y p q = absurd p
appends_then (Some xs) (Some ys) None x y p q = absurd q
appends_then (Some xs) (Some ys) (Some zs) x y p q = q ∙ ap (λ l. l ++ y) p ∙ append_assoc xs x y

-- a part of what follows
pub part_then : (a b c : Option (List ℕ)) (x y : List ℕ) → Appends a b x → AppendsPart b c y → AppendsPart a c (x ++ y)
part_then a b c x y p q =
    let inside : length x + q.0 ≤ length (x ++ y) = omega (arith, length-append x y, q.1) in
    (length x + q.0, inside, rw (take-append-add x y q.0) (appends_then a b c x (take q.0 y) p q.2))

-- more was still to come
pub part_of : (a b : Option (List ℕ)) (x y : List ℕ) → AppendsPart a b x → AppendsPart a b (x ++ y)
part_of a b x y p =
    let within = p.1 in
    let inside : p.0 ≤ length (x ++ y) = omega (arith, length-append x y, within) in
    (p.0, inside, rw (take-append-le p.0 x y within) p.2)

-- all of a part
pub whole_part : (a b : Option (List ℕ)) (x : List ℕ) → Appends a b x → AppendsPart a b x
whole_part a b x p = (length x, le_refl (length x), rw (take-length x) p)

-- nothing of a text
pub nothing_written : (a : Option (List ℕ)) (x : List ℕ) → AppendsPart a a x
nothing_written a x = (0, omega arith, appends_none a)
