-- The blocks of a swapchain: created, its images fetched, its marks, and the layouts and bytes of its images.
use Rattle.std.proofs.Common.{◌≡◌, ℕ, ◌<◌, Bool, true, false, List, ◌∷◌, ◌++◌, map, Option, Some, None, if◌then◌else◌, refl, ap, ◌∙◌}
use Rattle.std.specs.List.{range_with_len}
use Rattle.gfx_types.specs.declared.op.Place.{Place}
use Rattle.gfx_model.specs.Events.Event.{CreateSwapchainKHR, SetSwapchainState}
use Rattle.gfx_model.specs.Steps.{Object, Detail}
use Rattle.gfx_model.specs.Steps.Detail.{an_image, a_swapchain}
use Rattle.gfx_model.specs.Questions.{Binding, new_buffer}
use Rattle.gfx_model.specs.Views.{is_usable}
use Rattle.gfx_model.specs.Checks.{is_among}
use Rattle.gfx_model.specs.Table.{checks_of}
use Rattle.gfx_model.specs.Effects.{effect_of}
use Rattle.gfx_model.specs.Section.{Known, fetch_event, image_event}
use Rattle.gfx_section_law.specs.Orderly.{IsOrderly}
use Rattle.gfx_section_law.proofs.Picks.{also}
use Rattle.gfx_section_law.proofs.Builds.{Builds, Passes, next, builds_call, builds_append, builds_to}
use Rattle.gfx_section_law.proofs.Shown.{Cuts, all, shown, shown_answers, byte_of, id_of_place, bound_of, buffer_of, layout_of}
use Rattle.gfx_section_law.proofs.Ranks.{joined}
use Rattle.gfx_section_law.proofs.Objects.{no_bound, no_layout, no_mapped, no_buffer, no_signal, no_acquired, no_bytes}
use Rattle.gfx_section_law.proofs.Plain.{Starts, Block, made_first}
use Rattle.gfx_section_law.proofs.Shown.{SettlesAll, settled_all}
use Rattle.gfx_section_law.proofs.Parts.{alsos, pick_same, bytes_same, joined_parts}
use Rattle.gfx_section_law.proofs.Images.{each_image, each_part, every_part}
use Rattle.gfx_section_law.proofs.Many.{differ, differ_here, differ_parts}
use Rattle.gfx_section_law.proofs.SwapchainFetch as its_fetch
use Rattle.gfx_section_law.proofs.SwapchainMarks as its_marks
use Rattle.gfx_section_law.proofs.SwapchainImages as its_images

module _ (k : Known) (n : ℕ) (orderly : IsOrderly k.answers) (done : ℕ → Bool) (x parent surface images format width height usage : ℕ)
    (is : k.answers.live x ≡ Some (record { parent = parent; detail = a_swapchain surface images format width height usage })) (starts : Starts k.answers x 7 done) where
  abbrev d : Detail
  d = its_fetch.d k n orderly done x parent surface images format width height usage is starts

  abbrev o : Object
  o = its_fetch.o k n orderly done x parent surface images format width height usage is starts

  abbrev area : ℕ
  area = its_fetch.area k n orderly done x parent surface images format width height usage is starts

  abbrev parts : List ℕ
  parts = its_fetch.parts k n orderly done x parent surface images format width height usage is starts

  abbrev created : Cuts
  created = its_fetch.created k n orderly done x parent surface images format width height usage is starts

  create_passes : Passes (shown_answers k n (all done)) (checks_of (CreateSwapchainKHR parent x surface images format width height usage))
  create_passes = its_fetch.create_passes k n orderly done x parent surface images format width height usage is starts

  abbrev fetching : Cuts
  fetching = its_fetch.fetching k n orderly done x parent surface images format width height usage is starts

  fetch_builds : (l : List ℕ) → parts ≡ l → Builds (shown k n created) (fetch_event parent x l) (shown k n fetching)
  fetch_builds = its_fetch.fetch_builds k n orderly done x parent surface images format width height usage is starts

  abbrev mark_at : ℕ → ℕ
  mark_at = its_marks.mark_at k n orderly done x parent surface images format width height usage is starts

  abbrev marking : Cuts
  marking = its_marks.marking k n orderly done x parent surface images format width height usage is starts

  marks_pass : Passes (shown_answers k n fetching) (checks_of (SetSwapchainState x (map mark_at (range_with_len 0 images))))
  marks_pass = its_marks.marks_pass k n orderly done x parent surface images format width height usage is starts

  marks_leave : next (shown k n fetching) (SetSwapchainState x (map mark_at (range_with_len 0 images))) ≡ shown k n marking
  marks_leave = its_marks.marks_leave k n orderly done x parent surface images format width height usage is starts

  abbrev having : (ℕ → Bool) → Cuts
  having = its_images.having k n orderly done x parent surface images format width height usage is starts

  all_images_build : Builds (shown k n marking) (map (image_event k area) parts) (shown k n (having (alsos parts done)))
  all_images_build = its_images.all_images_build k n orderly done x parent surface images format width height usage is starts

  -- ---- all of it

  abbrev everything : ℕ → Bool
  everything = alsos parts (also x done)

  settles : SettlesAll k (alsos parts (also x done)) (having (alsos parts done))
  settles = record {
    made = refl;
    bound = pick_same None (bound_of k.answers) done everything (differ (λ y. bound_of k.answers y ≡ None) parts done x (no_bound k n orderly x parent d is refl) (λ y e.
        let m = part y e in ap (λ z. if is_usable k.answers y then z else None) (orderly.never_bound y (image_object m.0) m.1 refl) ∙ none_if (is_usable k.answers y)));
    mapped = pick_same None k.answers.mapped done everything (differ (λ y. k.answers.mapped y ≡ None) parts done x (no_mapped k n orderly x parent d is refl) (λ y e.
        let m = part y e in no_mapped k n orderly y x (image_detail m.0) m.1 refl));
    buffer = pick_same new_buffer (buffer_of k.answers) done everything (differ (λ y. buffer_of k.answers y ≡ new_buffer) parts done x (no_buffer k n orderly x parent d is refl) (λ y e.
        let m = part y e in no_buffer k n orderly y x (image_detail m.0) m.1 refl));
    signalled = pick_same false k.answers.signalled done everything (differ (λ y. k.answers.signalled y ≡ false) parts done x (no_signal k n orderly x parent d is refl) (λ y e.
        let m = part y e in no_signal k n orderly y x (image_detail m.0) m.1 refl));
    acquired = pick_same (λ index. false) k.answers.acquired (also x done) everything (differ_parts (λ y. k.answers.acquired y ≡ (λ index. false)) parts (also x done) (λ y e.
        let m = part y e in no_acquired k n orderly y x (image_detail m.0) m.1 refl));
    layout = pick_same 0 (layout_of k.answers) (alsos parts done) everything (differ_here (λ y. layout_of k.answers y ≡ 0) parts done x (no_layout k n orderly x parent d is refl));
    bytes = bytes_same k (alsos parts done) everything (differ_here (λ y. (at : Place) (i : ℕ) → id_of_place at ≡ y → byte_of k at i ≡ 0) parts done x (no_bytes k n orderly x parent d is refl refl));
  }
    where
      image_detail : ℕ → Detail
      image_detail j = an_image format width height usage (Some j)

      image_object : ℕ → Object
      image_object j = record { parent = x; detail = an_image format width height usage (Some j) }

      none_if : (t : Bool) → ◌≡◌ {A = Option Binding} (if t then None else None) None
      none_if true = refl
      none_if false = refl

      part : (y : ℕ) → is_among y parts ≡ true → (j : ℕ) × (k.answers.live y ≡ Some (record { parent = x; detail = an_image format width height usage (Some j) })) × (j < images)
      part y e = each_image k.answers orderly x parent surface images format width height usage is y e

  ends_all : shown k n (having (alsos parts done)) ≡ shown k n (all (joined k.answers x done))
  ends_all =
      settled_all k n (alsos parts (also x done)) (having (alsos parts done)) settles
      ∙ ap (λ (f : ℕ → Bool). shown k n (all f)) (joined_parts k.answers x o is refl parts
      (each_part k.answers orderly x parent surface images format width height usage is)
      (every_part k.answers orderly x parent surface images format width height usage is) done)

  pub swapchain_block : Block k n x parent (a_swapchain surface images format width height usage) done
  unfolding effect_of
  swapchain_block =
      builds_call _ (shown k n created) _ (CreateSwapchainKHR parent x surface images format width height usage)
      (fetch_event parent x parts ++ SetSwapchainState x (map mark_at (range_with_len 0 images)) ∷ map (image_event k area) parts)
      create_passes (made_first k n orderly done x parent d is starts refl (CreateSwapchainKHR parent x surface images format width height usage) refl)
      (builds_append (fetch_event parent x parts) _ _ _ _ (fetch_builds parts refl)
      (builds_call _ (shown k n marking) _ (SetSwapchainState x (map mark_at (range_with_len 0 images))) (map (image_event k area) parts) marks_pass marks_leave
      (builds_to (map (image_event k area) parts) _ _ _ ends_all all_images_build)))
