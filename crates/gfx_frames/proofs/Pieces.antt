-- The prefix of a list, with one piece more.
use Rattle.std.proofs.Common.{◌≡◌, ℕ, ◌+◌, ◌-◌, ◌≤◌, List, ◌++◌, length, take, drop, sym, ap, ◌∙◌, length-take-le, arith}
use Rattle.std.specs.List.{slice_range}
use Rattle.std.proofs.Math.Seq.{take-add}

pub one_more : (all : List ℕ) (at count : ℕ) (buffer piece : List ℕ) → count ≤ length buffer → piece ≡ slice_range all at (at + length (take count buffer)) →
    take at all ++ piece ≡ take (at + count) all
one_more all at count buffer piece fits is =
    let long : at + length (take count buffer) - at ≡ count = omega (arith, length-take-le count buffer fits) in
    ap (λ p. take at all ++ p) (is ∙ ap (λ n. take n (drop at all)) long) ∙ sym (take-add at count all)
