-- The law of the section.
use Rattle.std.proofs.Common.{◌≡◌, ℕ, ◌≤◌, true, List, [], ◌∷◌, ◌++◌, length, length-append, flat_map, refl, ap, ◌∙◌, arith}
use Rattle.std.specs.Prelude.{◌^◌}
use Rattle.std.specs.List.{AllByRecursion}
use Rattle.gfx_model.specs.Events.{Event}
use Rattle.gfx_model.specs.Events.Event.{BeginSection, EndSection}
use Rattle.gfx_model.specs.History.{view, is_valid}
use Rattle.gfx_model.specs.Frames.{frames}
use Rattle.gfx_model.specs.Section.{section, known, group, section_order}
use Rattle.gfx_laws.specs.Laws.{frames_after}
use Rattle.gfx_model.proofs.Lists.{all_append, all_along}
use Rattle.gfx_laws.proofs.ValidHistories.{lawful_history}
use Rattle.gfx_section_law.specs.Law.{IsBuilding, section_history, SectionCovers, SectionRuns, SectionSpelled}
use Rattle.gfx_model.specs.Spelling.{HasSpelling}
use Rattle.gfx_section_law.proofs.SpelledRows.{spelled_history}
use Rattle.gfx_section_law.proofs.SpelledSection.{groups_spelled, markers_spelled}
use Rattle.gfx_section_law.proofs.OrderlyHistories.{orderly_history}
use Rattle.gfx_section_law.proofs.Whole.{covers_history, section_used}
use Rattle.gfx_section_law.proofs.Shape.{IsSilent, building_silent, groups_quiet, quiet_frames}
use Rattle.gfx_laws.proofs.Ranges.{follows, frames_parts}
use Rattle.gfx_section_law.proofs.Sizes.{IsSmall}
use Rattle.gfx_section_law.proofs.Counts.{groups_few, groups_small, marker_small}

section_few : (h : List Event) (n : ℕ) → is_valid h ≡ true → length (section h n) ≤ 2 ^ 32
unfolding section
section_few h n valid =
    let a = groups_few (known h) (orderly_history h valid) in
    let b = length-append (flat_map (group (known h)) section_order) (EndSection n ∷ []) in
    omega (arith, a, b)

section_small : (m : ℕ) (h : List Event) (n : ℕ) → is_valid h ≡ true → AllByRecursion (IsSmall m) (section h n)
unfolding section
section_small m h n valid =
    ((marker_small m n).0, all_append (IsSmall m) (flat_map (group (known h)) section_order) (EndSection n ∷ []) (groups_small (known h) (orderly_history h valid) m section_order) ((marker_small m n).1, tt))

section_silent : (h : List Event) (n : ℕ) → is_valid h ≡ true → frames (section_history h n) ≡ []
unfolding section frames
section_silent h n valid =
    let made = flat_map (group (known h)) section_order in
    let silent = all_along IsBuilding IsSilent building_silent made (groups_quiet (known h) (orderly_history h valid) section_order) in
    quiet_frames (BeginSection n ∷ made ++ EndSection n ∷ []) [] (tt, all_append IsSilent made (EndSection n ∷ []) silent (tt, tt))

pub section_covers : SectionCovers
unfolding section
section_covers m h at = record {
  covers = covers_history h at.valid (orderly_history h at.valid) (((lawful_history h at.valid).objects).used) at.closed at.low at.high;
  created = section_used h (orderly_history h at.valid) at.low at.high;
  made = flat_map (group (known h)) section_order;
  framed = refl;
  shape = groups_quiet (known h) (orderly_history h at.valid) section_order;
  silent = section_silent h (view h).next_frame at.valid;
  few = section_few h (view h).next_frame at.valid;
  small = section_small m h (view h).next_frame at.valid;
}

pub section_runs : SectionRuns
section_runs h es at markers valid =
    let g = section_history h (view h).next_frame in
    let covers = covers_history h at.valid (orderly_history h at.valid) (((lawful_history h at.valid).objects).used) at.closed at.low at.high in
    let f = follows h g es covers markers valid in
    record {
      valid = (f.covers).valid_g;
      same = frames_parts es g ∙ ap (λ l. l ++ frames_after g es) (section_silent h (view h).next_frame at.valid) ∙ f.frames;
    }

pub section_spelled : SectionSpelled
unfolding section
section_spelled m h at spelled =
    let n = (view h).next_frame in
    let orderly = orderly_history h at.valid in
    let markers = markers_spelled m n at.high in (
      markers.0,
      all_append (HasSpelling m) (flat_map (group (known h)) section_order) (EndSection n ∷ [])
          (groups_spelled m (known h) orderly (spelled_history m h spelled) section_order) (markers.1, tt),
    )
