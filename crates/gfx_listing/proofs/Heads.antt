-- The line of a header, as it is written.
use Rattle.std.proofs.Common.{◌≡◌, ℕ, zero, suc, ◌+◌, ◌*◌, ◌∷◌, ◌++◌, List, [], sym, ap, ◌∙◌, append-nil, append_assoc, arith}
use Rattle.std.specs.Prelude.{codes, decimal}
use Rattle.std.proofs.lemmas.Grind.{flat_map-append}
use Rattle.gfx_model.specs.Blocks.{minor_of, option_count}
use Rattle.gfx_feature_model.specs.Listing.{header_text, option_texts}
use Rattle.gfx_text_writer.specs.Shown.{behind_spaces}
use Rattle.gfx_listing.specs.Lines.{option_text}
use Rattle.gfx_listing.proofs.Lines.{spaced}

-- the options up to a further one
one_more : (bytes : List ℕ) (at n : ℕ) → option_texts bytes at (suc n) ≡ option_texts bytes at n ++ option_text bytes (at + 8 * n) ∷ []
one_more bytes at zero = ap (λ k. option_text bytes k ∷ []) (omega arith)
one_more bytes at (suc n) =
    let place : at + 8 + 8 * n ≡ at + 8 * suc n = omega arith in
    ap (λ (z : List (List ℕ)). option_text bytes at ∷ z) (one_more bytes (at + 8) n ∙ ap (λ k. option_texts bytes (at + 8) n ++ option_text bytes k ∷ []) place)

pub options_grown : (bytes before : List ℕ) (n : ℕ) → (before ++ behind_spaces (option_texts bytes 16 n)) ++ (32 ∷ option_text bytes (16 + 8 * n))
    ≡ before ++ behind_spaces (option_texts bytes 16 (n + 1))
options_grown bytes before n =
    let further : suc n ≡ n + 1 = omega arith in
    append_assoc before (behind_spaces (option_texts bytes 16 n)) (32 ∷ option_text bytes (16 + 8 * n))
    ∙ ap (λ (z : List ℕ). before ++ z) (ap (λ (z : List ℕ). behind_spaces (option_texts bytes 16 n) ++ z) (sym (append-nil (32 ∷ option_text bytes (16 + 8 * n))))
    ∙ sym (flat_map-append (λ text. 32 ∷ text) (option_texts bytes 16 n) (option_text bytes (16 + 8 * n) ∷ []))
    ∙ ap behind_spaces (sym (one_more bytes 16 n)))
    ∙ ap (λ k. before ++ behind_spaces (option_texts bytes 16 k)) further

-- the name and the version, and the options behind them
pub head_grown : (bytes old : List ℕ) → ((old ++ codes "gfxr 1000.") ++ decimal (minor_of bytes)) ++ behind_spaces (option_texts bytes 16 (option_count bytes))
    ≡ old ++ header_text bytes
head_grown bytes old =
    let options = option_texts bytes 16 (option_count bytes) in
    append_assoc (old ++ codes "gfxr 1000.") (decimal (minor_of bytes)) (behind_spaces options)
    ∙ append_assoc old (codes "gfxr 1000.") (decimal (minor_of bytes) ++ behind_spaces options)
    ∙ ap (λ (z : List ℕ). old ++ z) (sym (spaced (codes "gfxr") ((codes "1000." ++ decimal (minor_of bytes)) ∷ options)))
