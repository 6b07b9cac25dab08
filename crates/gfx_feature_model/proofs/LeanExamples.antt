-- Examples of lean files.
use Rattle.gfx_model.proofs.ExampleCaptures.{bytes_of, frame2, pixels_of}
use Rattle.gfx_model.specs.Events.{Event}
use Rattle.gfx_model.specs.Events.Event.{QueuePresentKHR}
use Rattle.gfx_model.specs.Frames.{frames}
use Rattle.gfx_model.specs.History.{onto}
use Rattle.gfx_feature_model.specs.Lean.{Keep, kept_section}
use Rattle.gfx_model.specs.Spelling.{encoding, header, id_of}
use Rattle.std.specs.Prelude.{List, [], length, map, not, refl, true, ℕ, ◌++◌, ◌+◌, ◌==◌, ◌∷◌, ◌≡◌}
use Rattle.gfx_model.specs.Events.Event.{BeginSection, EndSection}
use Rattle.gfx_model.proofs.ExampleCaptures.{bytes_of, frame2}
use Rattle.gfx_model.specs.History.{onto}
use Rattle.std.specs.Prelude.{List, [], not, ◌==◌, ◌+◌, refl, ◌∷◌, ◌++◌, ◌≡◌}
use Rattle.std.proofs.Common.{get_or, ◌≡◌, ◌∙◌, ◌+◌, map, false, ℕ, List, [], ◌∷◌, ◌++◌, length, refl, ap, arith}
use Rattle.gfx_model.specs.Events.{Event}
use Rattle.gfx_model.specs.Events.Event.{BeginSection, EndSection}
use Rattle.gfx_model.specs.Spelling.{encoding, header}
use Rattle.gfx_model.specs.Blocks.End.{clean}
use Rattle.std.proofs.lemmas.List.{length-append}
use Rattle.gfx_types.specs.declared.lists.Present.{Present}
use Rattle.gfx_model.specs.Events.Event.{QueuePresentKHR}
use Rattle.gfx_model.specs.Spelling.{id_of}
use Rattle.gfx_model.specs.History.{view}
use Rattle.gfx_feature_model.specs.Lean.{Keep, Needed, IsLean}
use Rattle.gfx_feature_model.specs.Lean.Needed.{by_name, as_parent, as_memory, as_surface, as_image, as_resource}
use Rattle.gfx_feature_model.proofs.Opened.{all}
use Rattle.gfx_model.proofs.SectionExamples.{from_other, before_3, with_other}
use Rattle.gfx_model.proofs.PageExamples.{two_pages}
use Rattle.gfx_model.proofs.FileExamples.{first, file, block, ex_blocks}

without_12 : Keep
without_12 = record { id = λ x. not (x == 12); fill = λ m offset n. true }

ex_lean_other : 16 + bytes_of (kept_section without_12 with_other 2) + bytes_of frame2 ≡ 1310
unfolding all with_other without_12
ex_lean_other = refl

-- the memory that frame 3 reads from is kept
ex_lean_read : pixels_of (frames (onto from_other (onto (kept_section (record { id = λ x. true; fill = λ m offset n. m == 12 }) before_3 3) []))) ≡ 120 ∷ 121 ∷ 122 ∷ []
unfolding all before_3 from_other
ex_lean_read = refl

first_page : Keep
first_page = record { id = λ x. not (x == 0); fill = λ m offset n. offset == 0 }

ex_one_fill : 16 + bytes_of (kept_section first_page two_pages 2) + bytes_of frame2 ≡ 1310
unfolding all two_pages first_page
ex_one_fill = refl

-- ---- the lean file: an end that shows nothing needs nothing

unfoldable nothing : Keep
nothing = record { id = λ x. false; fill = λ m offset n. false }

none_needed : (x : ℕ) → Needed (view []) (first ∷ []) x → ⊥
unfolding all
none_needed _ (by_name x is_live named) = absurd cc
none_needed _ (as_parent x is_live n) = none_needed x n
none_needed _ (as_memory x m usable is n) = none_needed x n
none_needed _ (as_surface x s is n) = none_needed x n
none_needed _ (as_image x i is n) = none_needed x n
none_needed _ (as_resource cb r kept is n) = none_needed cb n

heads : (a b : ℕ) {rest : List ℕ} → a ∷ [] ≡ b ∷ rest → a ≡ b
heads a b e = ap (λ (l : List ℕ). get_or l 0 0) e

no_present : (front : List Event) (queue : ℕ) (waits : List ℕ) (presents : List Present) (rest : List Event) →
    first ∷ [] ≡ front ++ QueuePresentKHR queue waits presents ∷ rest → ⊥
unfolding all first
no_present [] queue waits presents rest e = omega (arith, heads 2 48 (ap (map id_of) e))
no_present (f ∷ fs) queue waits presents rest e =
    let n : 1 ≡ length (f ∷ fs) + length (QueuePresentKHR queue waits presents ∷ rest) = ap length e ∙ length-append (f ∷ fs) _ in omega arith

ex_lean : IsLean 1 1 file (header 1 ++ encoding 1 0 (BeginSection 1) ++ encoding 1 0 (EndSection 1) ++ encoding 1 0 first)
unfolding all first file block nothing
ex_lean = record {
  blocks = block ∷ [];
  end = clean;
  are = ex_blocks;
  keep = nothing;
  keeps = record {
    needed = λ x n. absurd (none_needed x n);
    only = λ x e. absurd cc;
    asked = λ m offset n j above below a. absurd (no_present a.front a.queue a.waits a.presents a.rest a.stands);
    only_asked = λ m offset n e. absurd cc;
  };
  same = refl;
}
