-- The section with just what a range needs serves for that range.
use Rattle.std.proofs.Common.{◌≡◌, ℕ, ◌≤◌, ◌<◌, ◌^◌, Bool, true, false, refl, sym, ◌∙◌, ap, subst, arith, List, [], ◌∷◌, ◌++◌, flat_map, length, length-append, if◌then◌else◌, is_some, not, ◌||◌}
use Rattle.std.specs.List.{AllByRecursion}
use Rattle.gfx_types.specs.declared.op.Place.{Place}
use Rattle.gfx_types.specs.declared.op.Place.TheVariants as place
use Rattle.gfx_model.specs.Events.{Event}
use Rattle.gfx_model.specs.Events.Event.{EndSection}
use Rattle.gfx_model.specs.Steps.{Change}
use Rattle.gfx_model.specs.Questions.{new_buffer}
use Rattle.gfx_model.specs.Views.{View}
use Rattle.gfx_model.specs.Bytes.{byte}
use Rattle.gfx_model.specs.Spelling.{HasSpelling}
use Rattle.gfx_model.specs.History.{onto, view, is_valid, executed}
use Rattle.gfx_model.specs.Frames.{frames}
use Rattle.gfx_model.specs.Section.{Known, section, group, section_order}
use Rattle.gfx_feature_model.specs.Lean.{Keep, KeepsNeeded, IsAsked, kept_section}
use Rattle.gfx_model.proofs.Lists.{all_append, all_along}
use Rattle.gfx_laws.specs.Lawful.{IsLawful}
use Rattle.gfx_laws.specs.Laws.{IsNoMarker, frames_after}
use Rattle.gfx_laws.proofs.Complete.{complete_history}
use Rattle.gfx_laws.proofs.Ranges.{frames_parts}
use Rattle.gfx_laws.proofs.ValidHistories.{lawful_history}
use Rattle.gfx_section_law.specs.Law.{IsAtBoundary, IsBuilding}
use Rattle.gfx_section_law.specs.Orderly.{IsOrderly}
use Rattle.gfx_section_law.specs.Spelled.{IsSpelled}
use Rattle.gfx_section_law.proofs.Counts.{groups_few, groups_small, marker_small}
use Rattle.gfx_section_law.proofs.OrderlyHistories.{orderly}
use Rattle.gfx_section_law.proofs.Shape.{IsSilent, building_silent, groups_quiet, quiet_frames}
use Rattle.gfx_section_law.proofs.Sizes.{IsSmall}
use Rattle.gfx_section_law.proofs.SpelledRows.{spelled_history}
use Rattle.gfx_section_law.proofs.SpelledSection.{groups_spelled, markers_spelled}
use Rattle.gfx_section_law.proofs.Whole.{section_of, CoversKnown, covers_known}
use Rattle.gfx_lean_law.specs.Law.{kept_history, RunsKept, LeanRuns}
use Rattle.gfx_lean_law.proofs.Only.{only, IsClosed}
use Rattle.gfx_lean_law.proofs.OnlyLawful.{lawful_only, complete_only, picked}
use Rattle.gfx_lean_law.proofs.Needs.{kept_or_new, closed_needed, range_keeps}
use Rattle.gfx_lean_law.proofs.Zeros.{zeros, image_bytes_stay, byte_stays, byte_or_zero}
use Rattle.gfx_lean_law.proofs.KeptSection.{section_kept}
use Rattle.gfx_lean_law.proofs.Simulation.{CoversKept}
use Rattle.gfx_lean_law.proofs.Range.{range_kept}

module _ (h range : List Event) (keep : Keep) (at : IsAtBoundary h) (needs : KeepsNeeded h range keep) where
  abbrev v : View
  v = view h

  abbrev n : ℕ
  n = v.next_frame

  abbrev k : ℕ → Bool
  k x = kept_or_new keep.id v x

  lawful : IsLawful v (executed h)
  lawful = lawful_history h at.valid

  closed : IsClosed k v
  closed = closed_needed v (executed h) range keep.id lawful needs.needed needs.only

  -- a live id is kept where it is needed
  same : (x : ℕ) → is_some (v.live x) ≡ true → keep.id x ≡ k x
  same x e = by (keep.id x) (is_some (v.live x)) e
    where
      by : (a b : Bool) → b ≡ true → a ≡ a || not b
      by true b e = refl
      by false true e = refl
      by false false e = absurd (cc)

  abbrev new_bytes : List Change
  new_bytes = zeros keep.fill v.live (executed h) v.ids ++ executed h

  -- what the kept section is the section of
  abbrev pub rest : Known
  rest = record { answers = only k v; es = new_bytes }

  lawful_rest : IsLawful (only k v) new_bytes
  lawful_rest =
      lawful_only k v (executed h) new_bytes closed lawful
      (λ at i unused. byte_or_zero keep.fill v.live (executed h) (λ b. b ≡ 0) v.ids at i refl (lawful.bytes at i unused))

  orderly_rest : IsOrderly (only k v)
  orderly_rest = orderly (only k v) new_bytes lawful_rest (complete_only k v (executed h) new_bytes closed lawful (complete_history h at.valid))

  pub kept_is : kept_section keep h n ≡ section_of rest n
  unfolding kept_section section
  kept_is = section_kept k keep v (executed h) closed lawful same n

  covers_rest : CoversKnown rest (onto (section_of rest n) [])
  covers_rest = covers_known rest n orderly_rest (lawful_rest.objects).used refl at.closed at.low at.high

  covers : CoversKept k h new_bytes (kept_history keep h)
  covers = subst (λ (es : List Event). CoversKept k h new_bytes (onto es [])) (sym kept_is) (record {
    valid_h = at.valid;
    valid_g = covers_rest.valid;
    closed = closed;
    answers = covers_rest.answers;
    bytes = covers_rest.bytes;
    lawful = lawful_rest;
  })

  -- the bytes that the range asks for are left
  asked_stay : (to : Place) (j : ℕ) → IsAsked h range to j → byte new_bytes to j ≡ byte (executed h) to j
  asked_stay (place.Memory m) j asked = byte_stays keep.fill v.live (executed h) v.ids m j (λ s covered. needs.asked m s.at s.length j covered.0 covered.1 asked)
  asked_stay (place.Image x) j asked = image_bytes_stay keep.fill v.live (executed h) v.ids x j

  -- ---- what the kept section has between its markers

  abbrev pub made : List Event
  made = flat_map (group rest) section_order

  pub kept_shape : AllByRecursion IsBuilding made
  kept_shape = groups_quiet rest orderly_rest section_order

  pub kept_few : length (section_of rest n) ≤ 2 ^ 32
  kept_few = let a = groups_few rest orderly_rest in let b = length-append made (EndSection n ∷ []) in omega (arith, a, b)

  pub kept_small : (m : ℕ) → AllByRecursion (IsSmall m) (section_of rest n)
  kept_small m =
      ((marker_small m n).0, all_append (IsSmall m) made (EndSection n ∷ []) (groups_small rest orderly_rest m section_order) ((marker_small m n).1, tt))

  kept_silent : frames (onto (section_of rest n) []) ≡ []
  unfolding frames
  kept_silent =
      quiet_frames (section_of rest n) [] (tt, all_append IsSilent made (EndSection n ∷ []) (all_along IsBuilding IsSilent building_silent made kept_shape) (tt, tt))

  spelled_rest : (m : ℕ) → IsSpelled m v (executed h) → IsSpelled m (only k v) new_bytes
  spelled_rest m s = record {
    live = λ x o e. s.live x o (picked k v.live x o e).1;
    bound = λ x b e. s.bound x b (picked k v.bound x b e).1;
    commands = λ cb. commands cb (k cb);
    bytes = λ at i. byte_or_zero keep.fill v.live (executed h) (λ b. b < 256) v.ids at i (omega arith) (s.bytes at i);
  }
    where
      commands : (cb : ℕ) (b : Bool) → AllByRecursion (HasSpelling m) (if b then v.buffer cb else new_buffer).commands
      commands cb true = s.commands cb
      commands cb false = tt

  pub kept_spelled : (m : ℕ) → AllByRecursion (HasSpelling m) h → AllByRecursion (HasSpelling m) (section_of rest n)
  kept_spelled m spelled =
      let markers = markers_spelled m n at.high in
      (markers.0, all_append (HasSpelling m) made (EndSection n ∷ []) (groups_spelled m rest orderly_rest (spelled_rest m (spelled_history m h spelled)) section_order) (markers.1, tt))

  -- ---- the range

  pub runs : AllByRecursion IsNoMarker range → is_valid (onto range h) ≡ true → RunsKept keep h range
  runs markers valid =
      let g = kept_history keep h in
      let f = range_kept k h new_bytes g range covers asked_stay markers (range_keeps v (executed h) range keep.id lawful needs.needed needs.only) valid in
      record {
        valid = f.valid;
        same = frames_parts range g ∙ ap (λ l. l ++ frames_after g range) (ap (λ (es : List Event). frames (onto es [])) kept_is ∙ kept_silent) ∙ f.frames;
      }

pub lean_runs : LeanRuns
lean_runs h range keep at needs markers valid = runs h range keep at needs markers valid
