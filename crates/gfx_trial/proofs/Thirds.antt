-- The middle third of the capture that is made.
use Rattle.std.proofs.Common.{◌≡◌, ◌≤◌, ℕ, List, [], ◌∷◌, get_or, map, refl, sym, ap, subst, ◌∙◌, arith}
use Rattle.std.specs.Prelude.{nat_le, unwrap_or}
use Rattle.std.specs.List.{filter, range_with_len}
use Rattle.gfx_types.specs.declared.frame.Frame.{Frame}
use Rattle.gfx_model.specs.Blocks.End.{clean}
use Rattle.gfx_model.specs.Frames.{frames}
use Rattle.gfx_model.specs.History.{onto}
use Rattle.gfx_model.specs.Meaning.{Means}
use Rattle.gfx_player.specs.Meanings.{first_of}
use Rattle.gfx_make.specs.Made.{made, made_file}
use Rattle.gfx_make.specs.Shown.{shown_frame}
use Rattle.gfx_make.proofs.Meaning.{made_is_meant}
use Rattle.gfx_make.proofs.Shows.{made_shows}
use Rattle.gfx_trial.specs.Files.{HasFrames}
use Rattle.gfx_trial.specs.Text.{middle, middle_first, middle_last}
use Rattle.gfx_trial.proofs.Picks.{first_in_range, first_number, numbers_between, range_picked}

-- frames have the numbers that they are made for
numbers_shown : (ks : List ℕ) → map (λ (f : Frame). f.number) (map shown_frame ks) ≡ ks
numbers_shown [] = refl
numbers_shown (k ∷ ks) = ap (λ l. k ∷ l) (numbers_shown ks)

-- the frames of the capture have the numbers from 1 on
made_numbers : (n : ℕ) → n ≤ 1000 → map (λ (f : Frame). f.number) (frames (onto (made n) [])) ≡ range_with_len 1 n
made_numbers n low = ap (map (λ (f : Frame). f.number)) (made_shows n low) ∙ numbers_shown (range_with_len 1 n)

-- the file has the frames of its middle third
made_has : (n : ℕ) → 3 ≤ n → n ≤ 1000 → HasFrames (middle_first n) (middle_last n) (made_file n) (middle n)
made_has n some low =
    let first = middle_first n in
    let last = middle_last n in
    let all = frames (onto (made n) []) in
    let one : unwrap_or (first_of all) 0 ≡ 1 = first_number all ∙ ap (λ ns. get_or ns 0 0) (made_numbers n low) ∙ first_in_range 1 n (omega (arith, some)) in
    record {
      all = all;
      means = subst (λ fs. Means (made_file n) fs clean) (sym (made_shows n low)) (made_is_meant n low);
      low = omega (arith, some, one);
      are = refl;
      numbers =
          numbers_between first last all ∙ ap (λ ns. filter (λ m. nat_le first m) (filter (λ m. nat_le m last) ns)) (made_numbers n low)
          ∙ range_picked first last n (omega (arith, some)) (omega arith) (omega arith);
    }

-- so have bytes that are those of the file
pub made_in : (n : ℕ) (bytes : List ℕ) → (3 ≤ n) × (n ≤ 1000) → bytes ≡ made_file n → HasFrames (middle_first n) (middle_last n) bytes (middle n)
made_in n bytes fits is = subst (λ b. HasFrames (middle_first n) (middle_last n) b (middle n)) (sym is) (made_has n fits.0 fits.1)
