-- Two numbers with a hyphen between them.
use Rattle.std.proofs.Common.{◌≡◌, ◌≢◌, ℕ, suc, ◌+◌, ◌<◌, ◌==◌, cond, false, not, List, [], ◌∷◌, ◌++◌, length, take, drop, get_or, refl, sym, ap, subst, ◌∙◌, arith, append_assoc}
use Rattle.std.specs.Prelude.{decimal}
use Rattle.std.specs.List.{position_or_len, before_first, after_first}
use Rattle.std.proofs.lemmas.Bool.Decides.{nat_tests}
use Rattle.gfx_words.specs.declared.range.FrameRange.{FrameRange}
use Rattle.gfx_words.specs.Words.{range_text, FitsRange}
use Rattle.gfx_words.proofs.Numbers.{no_hyphen}

-- where a text is cut at its first hyphen
pub record IsCut (text front back : List ℕ) : Type 0 where
  pub below : position_or_len (λ b. b == 45) text < length text
  pub front_is : before_first (λ b. b == 45) text ≡ front
  pub back_is : after_first (λ b. b == 45) text ≡ back

place_more : (c : ℕ) (text : List ℕ) → (c == 45) ≡ false → position_or_len (λ b. b == 45) (c ∷ text) ≡ suc (position_or_len (λ b. b == 45) text)
place_more c text other =
    let next : 1 + position_or_len (λ b. b == 45) text ≡ suc (position_or_len (λ b. b == 45) text) = omega arith in
    ap (λ t. cond (not t) (1 + position_or_len (λ b. b == 45) text) 0) other ∙ next

cut_more : (c : ℕ) (text front back : List ℕ) → (c == 45) ≡ false → IsCut text front back → IsCut (c ∷ text) (c ∷ front) back
cut_more c text front back other cut =
    let n = position_or_len (λ b. b == 45) text in
    let place : position_or_len (λ b. b == 45) (c ∷ text) ≡ suc n = place_more c text other in
    let below : n < length text = cut.below in
    let next : suc n + 1 ≡ suc (n + 1) = omega arith in
    record {
      below = omega arith;
      front_is = ap (λ k. take k (c ∷ text)) place ∙ ap (λ l. c ∷ l) cut.front_is;
      back_is = ap (λ k. drop (k + 1) (c ∷ text)) place ∙ ap (λ k. drop k (c ∷ text)) next ∙ cut.back_is;
    }

cut_at : (front back : List ℕ) → ((i : ℕ) → i < length front → get_or front i 0 ≢ 45) → IsCut (front ++ 45 ∷ back) front back
cut_at [] back none = record { below = omega arith; front_is = refl; back_is = refl }
cut_at (c ∷ front) back none =
    let apart = none 0 (omega arith) in
    let other : (c == 45) ≡ false = grind (arith, nat_tests, apart) in
    cut_more c (front ++ 45 ∷ back) front back other (cut_at front back (λ i below. none (suc i) (omega arith)))

pub range_cut : (r : FrameRange) → FitsRange r → IsCut (range_text r) (decimal r.first) (decimal r.last)
range_cut r fits = subst (λ t. IsCut t (decimal r.first) (decimal r.last)) (sym (append_assoc (decimal r.first) (45 ∷ []) (decimal r.last))) (cut_at (decimal r.first) (decimal r.last) (λ i below. no_hyphen r.first i fits.first below))

-- such a text has a hyphen
pub not_whole : (text : List ℕ) (r : FrameRange) → FitsRange r → text ≡ range_text r → position_or_len (λ b. b == 45) text ≡ length text → ⊥
not_whole text r fits is whole =
    let below = (range_cut r fits).below in
    let same = ap length is in
    let place = ap (position_or_len (λ b. b == 45)) is in
    absurd (omega arith)
