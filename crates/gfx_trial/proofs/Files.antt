-- Files that have a range of frames, and what the file that is cut out has.
use Rattle.std.proofs.Common.{◌≡◌, ◌≤◌, ◌==◌, ℕ, true, List, [], ◌++◌, get_or, length, Some, refl, sym, ap, subst, ◌∙◌, arith}
use Rattle.std.specs.Prelude.{unwrap_or}
use Rattle.std.specs.List.{list_any}
use Rattle.std.proofs.lemmas.List.{length-map}
use Rattle.std.proofs.lemmas.List.FromFn.{length-range_with_len}
use Rattle.gfx_types.specs.declared.frame.Frame.{Frame}
use Rattle.gfx_model.specs.Blocks.{End}
use Rattle.gfx_model.specs.Blocks.End.{clean}
use Rattle.gfx_model.specs.Frames.{frames}
use Rattle.gfx_model.specs.History.{is_valid}
use Rattle.gfx_model.specs.Meaning.{Means, frames_to, has_frame}
use Rattle.gfx_grammar.proofs.BlockLaws.{blocks_are_computed}
use Rattle.gfx_grammar.specs.Reads.{AreBytes}
use Rattle.gfx_grammar.specs.Splitting.{Blocks, blocks_of}
use Rattle.gfx_trim_law.specs.Law.{frames_from}
use Rattle.gfx_trim_law.proofs.Prefix.{prefix}
use Rattle.gfx_player.specs.Meanings.{frames_in, end_of, judged_of, history_in, first_of}
use Rattle.gfx_player.specs.declared.asked.Asked.TheVariants.{Between}
use Rattle.gfx_player.specs.Asked.{asked_of, has_last}
use Rattle.gfx_trim.specs.Keeps.{Keeps}
use Rattle.gfx_trim.specs.Numbers.{IsInside}
use Rattle.gfx_trim.proofs.Numbers.{inside}
use Rattle.gfx_trial.specs.Files.{HasFrames, count_of}
use Rattle.gfx_trial.proofs.Picks.{asked_is, first_in_range, first_number, has_more, has_number, in_range, last_is, numbers, picked_again}

-- what a file means is what is computed
pub means_so : (bytes : List ℕ) (shown : List Frame) (end : End) → AreBytes bytes → Means bytes shown end → (frames_in bytes ≡ shown) × (end_of bytes ≡ end)
means_so bytes shown end fit m =
    let is = (blocks_are_computed bytes fit).1 m.blocks m.blocks_end m.are in (
      ap (λ (b : Blocks). frames (judged_of b).history) is ∙ sym m.shows,
      ap (λ (b : Blocks). (judged_of b).end) is ∙ sym m.ends,
    )

module _ (first last : ℕ) (bytes : List ℕ) (shown : List Frame) (ordered : first ≤ last) (h : HasFrames first last bytes shown) where
  has_in : (k : ℕ) → first ≤ k → k ≤ last → has_frame k h.all ≡ true
  has_in k low high =
      has_more _ k h.all (has_more _ k (frames_to last h.all)
      (ap (has_frame k) (sym h.are) ∙ sym (has_number shown k) ∙ ap (list_any (λ m. m == k)) h.numbers ∙ in_range (count_of first last) first k low (omega (arith, ordered, high))))

  pub counted : length shown ≡ count_of first last
  counted = sym (length-map shown (λ (f : Frame). f.number)) ∙ ap length h.numbers ∙ length-range_with_len first (count_of first last)

  module _ (fit : AreBytes bytes) where
    all_is : frames_in bytes ≡ h.all
    all_is = (means_so bytes h.all clean fit h.means).0

    pub ends : end_of bytes ≡ clean
    ends = (means_so bytes h.all clean fit h.means).1

    pub shows_last : has_last (Between first last) (frames_in bytes) ≡ true
    shows_last = ap (has_last (Between first last)) all_is ∙ last_is first last h.all h.low ∙ has_in last ordered (omega arith)

    pub asked : asked_of (Between first last) (frames_in bytes) ≡ shown
    asked = ap (asked_of (Between first last)) all_is ∙ asked_is first last h.all h.low ∙ sym h.are

    valid : is_valid (history_in bytes) ≡ true
    valid = let p = prefix (blocks_of bytes).items [] (blocks_of bytes).end refl in ap is_valid p.history ∙ p.valid

    pub is_inside : IsInside first last (history_in bytes)
    is_inside =
        inside first last (history_in bytes) valid (ap (has_frame first) all_is ∙ has_in first (omega arith) ordered)
        (ap (has_frame last) all_is ∙ has_in last ordered (omega arith))

    -- the file that was cut out has the same frames
    pub cut_has : (before after out : List ℕ) → before ≡ [] → out ≡ after → Keeps first last (Some before) (Some after) bytes → HasFrames first last out shown
    cut_has before after out none is k =
        let up_to = (k.range).means in
        let all : up_to.all ≡ h.all = sym (means_so bytes up_to.all up_to.file_end fit up_to.means).0 ∙ all_is in
        let same : frames_from first k.shown ≡ shown = ap (frames_from first) up_to.shows ∙ ap (λ fs. frames_from first (frames_to last fs)) all ∙ sym h.are in
        let took : k.out ≡ out = sym (is ∙ k.took ∙ ap (λ b. b ++ k.out) none) in
        let low : unwrap_or (first_of shown) 0 ≡ first =
        first_number shown ∙ ap (λ ns. get_or ns 0 0) h.numbers ∙ first_in_range first (count_of first last) (omega arith) in
        record {
          all = shown;
          means = subst (λ fs. Means out fs clean) same (subst (λ bs. Means bs (frames_from first k.shown) clean) took k.means);
          low = omega (arith, low);
          are = h.are ∙ sym (picked_again first last h.all) ∙ ap (λ fs. frames_from first (frames_to last fs)) (sym h.are);
          numbers = h.numbers;
        }
