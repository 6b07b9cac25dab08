-- What holds of the bytes before and after, where they are told.
use Rattle.std.proofs.Common.{◌≡◌, ℕ, List, [], ◌++◌, Option, Some, None}
use Rattle.std.specs.Io.KnownBytes.{Consumes, IsAtEnd}
use Rattle.gfx_io.specs.Told.{IfTold}

-- some bytes were read
pub told_with : (a b : Option (List ℕ)) (bytes : List ℕ) (P R : List ℕ → List ℕ → Type 0) → IfTold a b P → Consumes a b bytes → ((x y : List ℕ) → P x y → x ≡ bytes ++ y → R x y) → IfTold a b R
told_with None b bytes P R p c f = tt
told_with (Some x) None bytes P R p c f = absurd p
told_with (Some x) (Some y) bytes P R p c f = f x y p c

-- from the first bytes to the second, and from those to the third
pub told_through : (a b c : Option (List ℕ)) (P Q R : List ℕ → List ℕ → Type 0) → IfTold a b P → IfTold b c Q → ((x y z : List ℕ) → P x y → Q y z → R x z) → IfTold a c R
told_through None b c P Q R p q f = tt
told_through (Some x) None c P Q R p q f = absurd p
told_through (Some x) (Some y) None P Q R p q f = absurd q
told_through (Some x) (Some y) (Some z) P Q R p q f = f x y z p q

pub told_bytes : (a b : Option (List ℕ)) (bytes : List ℕ) (Q : List ℕ → List ℕ → Type 0) → IfTold a b Q → Consumes a b bytes → IfTold a b (λ x y. Q x y × (x ≡ bytes ++ y))
told_bytes a b bytes Q q c = told_with a b bytes Q (λ x y. Q x y × (x ≡ bytes ++ y)) q c (λ x y q is. (q, is))

pub told_if : (a b : Option (List ℕ)) (P R : List ℕ → List ℕ → Type 0) → IfTold a b P → ((x y : List ℕ) → P x y → R x y) → IfTold a b R
told_if None b P R p f = tt
told_if (Some x) None P R p f = absurd p
told_if (Some x) (Some y) P R p f = f x y p

-- nothing is left
pub told_end : (a b : Option (List ℕ)) (Q : List ℕ → List ℕ → Type 0) → IfTold a b Q → IsAtEnd b → IfTold a b (λ x y. Q x y × (y ≡ []))
told_end None b Q q end = tt
told_end (Some x) None Q q end = absurd q
told_end (Some x) (Some y) Q q end = (q, end)
