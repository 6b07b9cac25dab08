-- Items that go from the end of one list to the end of another.
use Rattle.std.proofs.Common.{◌≡◌, ℕ, ◌+◌, ◌<◌, All, IfSome, List, [], ◌∷◌, ◌++◌, length, Option, Some, sym, ap, ◌∙◌, subst, arith, length-append}
use Rattle.std.specs.Option.{option_to_list}
use Rattle.std.proofs.lemmas.List.Elements.{All-nil, All-push, All-pop}

module _ {X : Type 0} (P : X → Type 0) where
  pub nothing : (xs : List X) → xs ≡ [] → All P xs
  nothing xs none = subst (All P) (sym none) (All-nil P)

  pub one_more : (xs ys : List X) (x : X) → ys ≡ xs ++ x ∷ [] → All P xs → P x → All P ys
  one_more xs ys x more all here = subst (All P) (sym more) (All-push P xs x all here)

  module _ (xs ys : List X) (r : Option X) (x : X) (popped : xs ≡ ys ++ option_to_list r) (is : r ≡ Some x) (all : All P xs) where
    pub last : P x
    last = subst (λ z. IfSome z P) is (All-pop P xs ys r popped all).1

    pub others : All P ys
    others = (All-pop P xs ys r popped all).0

-- their number stays
pub moved : {X Y : Type 0} (xs ys : List X) (r : Option X) (x : X) (zs ws : List Y) (y : Y) (n : ℕ) → xs ≡ ys ++ option_to_list r → r ≡ Some x → ws ≡ zs ++ y ∷ []
    → length xs + length zs ≡ n → length ys + length ws ≡ n
moved xs ys r x zs ws y n popped is more count =
    let out : length xs ≡ length ys + 1 = ap length popped ∙ (length-append ys (option_to_list r) ∙ ap (λ z. length ys + length (option_to_list z)) is) in
    let into : length ws ≡ length zs + 1 = ap length more ∙ length-append zs (y ∷ []) in omega arith

pub fewer : {X : Type 0} (xs ys : List X) (r : Option X) (x : X) → xs ≡ ys ++ option_to_list r → r ≡ Some x → length ys < length xs
fewer xs ys r x popped is =
    let out : length xs ≡ length ys + 1 = ap length popped ∙ (length-append ys (option_to_list r) ∙ ap (λ z. length ys + length (option_to_list z)) is) in omega arith
