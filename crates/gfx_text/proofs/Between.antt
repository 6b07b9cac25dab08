-- Records of the values that were read.
use Rattle.std.proofs.Common.{◌≡◌, ℕ, List, Option, Some, None, refl, ap, ◌∙◌}
use Rattle.gfx_grammar.specs.Reading.{◌>>=◌, Reader}
use Rattle.gfx_text_grammar.specs.Reading.{behind, read_between, read_as}

-- what is built of what was read
abbrev built : {X Y : Type 0} → (X → Y) → Option (X × List ℕ) → Option (Y × List ℕ)
built build read = read >>= λ x. Some (build x.0, x.1)

-- what is built between two bytes is built of what is between them
between_as : {X Y : Type 0} (front back : ℕ) (build : X → Y) (r : Reader X) (text : List ℕ)
    → read_between front back (read_as build r) text ≡ built build (read_between front back r text)
unfolding read_between read_as
between_as {X} {Y} front back build r text = by (behind front text)
  where
    closed : (x : X) (o : Option (List ℕ)) → (o >>= λ u. let y : Y × List ℕ = (build x, u) in Some y) ≡ built build (o >>= λ u. let y : X × List ℕ = (x, u) in Some y)
    closed x None = refl
    closed x (Some u) = refl

    inside : (o : Option (X × List ℕ)) → (built build o >>= λ x. behind back x.1 >>= λ u. let y : Y × List ℕ = (x.0, u) in Some y)
        ≡ built build (o >>= λ x. behind back x.1 >>= λ u. let y : X × List ℕ = (x.0, u) in Some y)
    inside None = refl
    inside (Some x) = closed x.0 (behind back x.1)

    by : (o : Option (List ℕ)) → (o >>= λ t. built build (r t) >>= λ x. behind back x.1 >>= λ u. let y : Y × List ℕ = (x.0, u) in Some y)
        ≡ built build (o >>= λ t. r t >>= λ x. behind back x.1 >>= λ u. let y : X × List ℕ = (x.0, u) in Some y)
    by None = refl
    by (Some t) = inside (r t)

pub record_read : {X Y : Type 0} (build : X → Y) (r : Reader X) (text : List ℕ) (x : X) (rest : List ℕ) → read_between 40 41 r text ≡ Some (x, rest)
    → read_between 40 41 (read_as build r) text ≡ Some (build x, rest)
record_read {X} build r text x rest is = between_as 40 41 build r text ∙ ap (built build) is

pub record_not : {X Y : Type 0} (build : X → Y) (r : Reader X) (text : List ℕ) → read_between 40 41 r text ≡ None → read_between 40 41 (read_as build r) text ≡ None
record_not {X} build r text none = between_as 40 41 build r text ∙ ap (built build) none
