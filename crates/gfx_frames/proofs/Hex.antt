-- Two words for lower-case hexadecimal are one.
use Rattle.std.proofs.Common.{◌≡◌, ℕ, zero, suc, ◌<◌, ◌/◌, ◌%◌, List, [], ◌∷◌, ◌++◌, get_or, refl, ap, ◌∙◌, arith}
use Rattle.std.specs.Prelude.{slice_index}
use Rattle.hex.specs.Hex.{encode_with, encode_lower, lower_digits}
use Rattle.gfx_model.specs.Text.{hex_digit, hex_byte, hex_text}

digit_same : (n : ℕ) → n < 16 → slice_index lower_digits n ≡ hex_digit n
digit_same zero below = refl
digit_same (suc zero) below = refl
digit_same (suc (suc zero)) below = refl
digit_same (suc (suc (suc zero))) below = refl
digit_same (suc (suc (suc (suc zero)))) below = refl
digit_same (suc (suc (suc (suc (suc zero))))) below = refl
digit_same (suc (suc (suc (suc (suc (suc zero)))))) below = refl
digit_same (suc (suc (suc (suc (suc (suc (suc zero))))))) below = refl
digit_same (suc (suc (suc (suc (suc (suc (suc (suc zero)))))))) below = refl
digit_same (suc (suc (suc (suc (suc (suc (suc (suc (suc zero))))))))) below = refl
digit_same (suc (suc (suc (suc (suc (suc (suc (suc (suc (suc zero)))))))))) below = refl
digit_same (suc (suc (suc (suc (suc (suc (suc (suc (suc (suc (suc zero))))))))))) below = refl
digit_same (suc (suc (suc (suc (suc (suc (suc (suc (suc (suc (suc (suc zero)))))))))))) below = refl
digit_same (suc (suc (suc (suc (suc (suc (suc (suc (suc (suc (suc (suc (suc zero))))))))))))) below = refl
digit_same (suc (suc (suc (suc (suc (suc (suc (suc (suc (suc (suc (suc (suc (suc zero)))))))))))))) below = refl
digit_same (suc (suc (suc (suc (suc (suc (suc (suc (suc (suc (suc (suc (suc (suc (suc zero))))))))))))))) below = refl
digit_same (suc (suc (suc (suc (suc (suc (suc (suc (suc (suc (suc (suc (suc (suc (suc (suc n)))))))))))))))) below = absurd (omega arith)

pub hex_same : (bytes : List ℕ) → ((i : ℕ) → get_or bytes i 0 < 256) → encode_lower bytes ≡ hex_text bytes
unfolding encode_with
hex_same [] fits = refl
hex_same (b ∷ bytes) fits =
    let byte : b < 256 = fits 0 in
    let high : b / 16 < 16 = omega arith in
    let low : b % 16 < 16 = omega arith in
    ap (λ d. d ∷ slice_index lower_digits (b % 16) ∷ encode_lower bytes) (digit_same (b / 16) high)
    ∙ ap (λ d. hex_digit (b / 16) ∷ d ∷ encode_lower bytes) (digit_same (b % 16) low)
    ∙ ap (λ text. hex_byte b ++ text) (hex_same bytes (λ i. fits (suc i)))
