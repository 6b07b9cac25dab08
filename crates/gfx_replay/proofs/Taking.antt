-- An effect without a fault is taken: its operations lie in the places, and all stands for the history with it.
use Rattle.std.proofs.Common.{◌≡◌, ℕ, true, ◌&&◌, is_some, cond, refl, sym, ap, ◌∙◌, subst, List, [], ◌∷◌, map, flat_map, length, Option, Some, None, is_none, option_map, ◌==◌}
use Rattle.std.proofs.Math.Logic.{∥∥₁_elim}
use Rattle.std.proofs.Props.{props}
use Rattle.std.specs.Prelude.{filter}
use Rattle.std.specs.Option.{option_or, IsSomeAnd-prop}
use Rattle.std.specs.List.{AllByRecursion, AllByRecursion-prop}
use Rattle.std.proofs.lemmas.Bool.{and_from}
use Rattle.gfx_types.specs.declared.names.Kind.TheVariants as kind
use Rattle.gfx_types.specs.declared.frame.Picture.{Picture}
use Rattle.gfx_types.specs.declared.frame.Frame.{Frame}
use Rattle.gfx_types.specs.declared.lists.Present.{Present}
use Rattle.gfx_types.specs.declared.op.Place.{Place}
use Rattle.gfx_types.specs.declared.op.Place.TheVariants as place
use Rattle.gfx_types.specs.declared.op.Op.{Op}
use Rattle.gfx_types.specs.declared.op.Op.TheVariants as op
use Rattle.gfx_device.specs.Rows.{AreWithin}
use Rattle.gfx_model.specs.Events.{Event}
use Rattle.gfx_model.specs.Events.Event.{AllocateMemory, DestroySwapchainKHR, GetSwapchainImagesKHR, QueuePresentKHR}
use Rattle.gfx_model.specs.Steps.{kind_of, kind_number}
use Rattle.gfx_model.specs.Questions.{passes, is_owned}
use Rattle.gfx_model.specs.Views.{View, window, is_live}
use Rattle.gfx_model.specs.Checks.{first_broken}
use Rattle.gfx_model.specs.Table.{checks_of}
use Rattle.gfx_model.specs.Effects.{changes_of_op}
use Rattle.gfx_model.specs.History.{view, is_valid, executed}
use Rattle.gfx_model.proofs.Steps.{view-event}
use Rattle.gfx_laws.specs.Lawful.{IsLawful}
use Rattle.gfx_ops.specs.Operations.{changes_bytes}
use Rattle.gfx_tracker.specs.Operations.{ops_of, given_by}
use Rattle.gfx_tracker.specs.Taking.{after_event}
use Rattle.gfx_tracker.specs.Tracker.{SameObjects}
use Rattle.gfx_replay.specs.Maps.{IsSame, IsKept, is_image_among}
use Rattle.gfx_replay.specs.Held.{Bytes, Holds, HoldsMore}
use Rattle.gfx_replay.specs.Ranges.{Sizes, sizes_of, IsWithin, AreAllWithin}
use Rattle.gfx_replay.specs.Sizes.{place_size}
use Rattle.gfx_replay.specs.Stands.{ArePlacesOf, Stands, HasStood}
use Rattle.gfx_replay.specs.Updates.{AreUpdated, AreEndedBy, HoldEnded, IsVacantFor, zeros_in, zeros_of}
use Rattle.gfx_replay.specs.Shown.{frame_after, picture_of, IsShownOf, IsThere}
use Rattle.gfx_replay.specs.Fed.{AreShown, IsTaken}
use Rattle.gfx_replay.specs.declared.shown.ShownFrame.{ShownFrame}
use Rattle.gfx_replay.proofs.SizeSteps.{not_live, memory_size, image_bytes}
use Rattle.gfx_replay.proofs.SizeChanges.{allocated, ended_owned}
use Rattle.gfx_replay.proofs.EventsWithin.{ops_within}
use Rattle.gfx_replay.proofs.Showing.{present_shows}
use Rattle.gfx_replay.proofs.Bytewise.{all_hold, within_bytes}
use Rattle.gfx_replay.proofs.Holding.{holds_same}
use Rattle.gfx_replay.proofs.Standing.{IsRun, lawful, run_holds, quiet, updated_stands}

-- ---- the operations lie in the places

within_prop : (sizes : Sizes) (given : List ℕ) (o : Op) → IsProp (IsWithin sizes given o)
within_prop sizes given (op.Put at offset bytes) = IsSomeAnd-prop (sizes at) _ (λ size. hlevel props)
within_prop sizes given (op.PutGiven at offset) = IsSomeAnd-prop (sizes at) _ (λ size. hlevel props)
within_prop sizes given (op.Fill at offset n word) = IsSomeAnd-prop (sizes at) _ (λ size. hlevel props)
within_prop sizes given (op.Copy to to_offset to_step source source_offset source_step n rows) =
    let target = IsSomeAnd-prop (sizes to) (λ size. AreWithin size to_offset to_step n rows) (λ size. hlevel props) in
    let room = IsSomeAnd-prop (sizes source) (λ size. AreWithin size source_offset source_step n rows) (λ size. hlevel props) in
    hlevel (props, target, room)
within_prop sizes given (op.SetLayout image layout) = hlevel props

-- the sizes of places that stand are those of the answers
standing_sizes : (v : View) (b : Bytes) (h : List Event) → Stands v b h → sizes_of b ≡ place_size v
standing_sizes v b h s = λ i at. ((s.places).sizes at ∙ ap (λ u. place_size u at) (sym s.answers_same)) i

standing_lawful : (v : View) (b : Bytes) (h : List Event) → Stands v b h → IsLawful v []
standing_lawful v b h s = subst (λ u. IsLawful u []) (sym s.answers_same) (lawful h s.valid)

pub within_now : (v : View) (b : Bytes) (e : Event) (ops : List Op) (given : List ℕ) → HasStood v b → first_broken v (checks_of e) ≡ None → ops ≡ filter changes_bytes (ops_of v e) → given ≡ given_by e →
    AreAllWithin (sizes_of b) given ops
within_now v b e ops given stood pass is has =
    ∥∥₁_elim stood (AllByRecursion-prop (IsWithin (sizes_of b) given) (within_prop (sizes_of b) given) ops)
    (λ s.
    subst (λ sizes. AreAllWithin sizes given ops) (sym (standing_sizes v b s.history s.stands))
    (subst (λ bytes. AreAllWithin (place_size v) bytes ops) (sym has)
    (subst (AreAllWithin (place_size v) (given_by e)) (sym is) (within_bytes (place_size v) (given_by e) (ops_of v e) (ops_within v (standing_lawful v b s.history s.stands) e pass)))))

none_of_size : (o : Option (List ℕ)) → option_map length o ≡ None → o ≡ None
none_of_size None e = refl
none_of_size (Some xs) e = absurd (cc)

pub vacant_now : (v : View) (b c : Bytes) (e : Event) → HasStood v b → first_broken v (checks_of e) ≡ None → IsSame (sizes_of b) (sizes_of c) → IsVacantFor e c
vacant_now v b c (AllocateMemory device memory size) stood pass same =
    ∥∥₁_elim stood (hlevel props)
    (λ s.
    let h = standing_lawful v b s.history s.stands in
    let new = (allocated v h device memory size pass).0 in
    none_of_size (c (place.Memory memory))
    (same (place.Memory memory) ∙ ap (λ sizes. sizes (place.Memory memory)) (standing_sizes v b s.history s.stands) ∙ ap memory_size (not_live v h.objects memory new)))
vacant_now v b c _ stood pass same = tt

some_size : (o : Option (List ℕ)) (l : Option ℕ) → option_map length o ≡ l → is_some o ≡ true → is_some l ≡ true
some_size None l is some = absurd cc
some_size (Some xs) l is some = ap is_some (sym is)

-- what an event ends is among the images that it ended by the answers before it
pub ended_now : (k v w u : View) (b c : Bytes) (e : Event) (ids : List ℕ) → HasStood v b → first_broken v (checks_of e) ≡ None → IsSame (sizes_of b) (sizes_of c)
    → SameObjects k v → w ≡ after_event v e → SameObjects u w → AreEndedBy k e ids → HoldEnded u e c ids
ended_now k v w u b c (DestroySwapchainKHR device swapchain) ids stood pass same before is objects ended = λ x dead some.
    ∥∥₁_elim stood (hlevel props)
    (λ s.
    let size = same (place.Image x) ∙ ap (λ sizes. sizes (place.Image x)) (standing_sizes v b s.history s.stands) in
    let had = some_size (c (place.Image x)) (image_bytes (v.live x)) size some in
    let gone = sym (ap (λ l. passes (λ o. kind_number (kind_of o.detail) == 7) (l x)) (objects.live ∙ ap (λ v. v.live) is)) ∙ dead in
    ended x ∙ ap (λ l. passes (λ o. is_owned o.detail && swapchain == o.parent) (l x)) before.live ∙ ended_owned v device swapchain pass x gone had)
ended_now k v w u b c _ ids stood pass same before is objects ended = tt

-- ---- the places after it

module _ (v w : View) (same : SameObjects v w) where
  zeros_same : (at : Place) → zeros_of v at ≡ zeros_of w at
  zeros_same (place.Memory m) = refl
  zeros_same (place.Image x) =
      ap (λ l. option_map zeros_in (window (record w { live = l; bound = v.bound }) x)) same.live
      ∙ ap (λ b. option_map zeros_in (window (record w { bound = b }) x)) same.bound

  kept_same : (c d : Bytes) → IsKept c d (is_live v kind.Image) → IsKept c d (is_live w kind.Image)
  kept_same c d kept (place.Memory m) = kept (place.Memory m)
  kept_same c d kept (place.Image x) =
      kept (place.Image x) ∙ ap (λ l. cond (passes (λ o. kind_number (kind_of o.detail) == 7) (l x)) (c (place.Image x)) None) same.live

  -- what is added and dropped is read of objects and bindings alone
  updated_same : (e : Event) (c d : Bytes) → AreUpdated v e c d → AreUpdated w e c d
  updated_same (DestroySwapchainKHR device swapchain) c d updated = kept_same c d updated
  updated_same (GetSwapchainImagesKHR device swapchain ids) c d updated = λ at.
      updated at ∙ ap (λ o. option_or (c at) (cond (is_image_among ids at) o None)) (zeros_same at)
  updated_same (AllocateMemory device memory size) c d updated = updated
  updated_same _ c d updated = updated

-- ---- what is shown

-- places that a present leaves
presented_places : (h : List Event) (queue : ℕ) (waits : List ℕ) (ps : List Present) (b c d : Bytes) → IsRun h (QueuePresentKHR queue waits ps) b c → IsSame c d → ArePlacesOf d (view h) (executed h)
unfolding ops_of
presented_places h queue waits ps b c d run same = record {
  sizes = λ at. ap (option_map length) (same at) ∙ run.sizes at ∙ (run.before).sizes at;
  held = subst (Holds d) (quiet (QueuePresentKHR queue waits ps) h refl) (holds_same c d (executed (QueuePresentKHR queue waits ps ∷ h)) same (run_holds h (QueuePresentKHR queue waits ps) b c run));
}

with_number : ℕ → List Picture → Frame
with_number n pictures = record { number = n; pictures = pictures }

shows_present : (h : List Event) (queue : ℕ) (waits : List ℕ) (ps : List Present) (b c d : Bytes) → IsRun h (QueuePresentKHR queue waits ps) b c → IsSame c d →
    (shown : Option ShownFrame) → IsShownOf (view h) (QueuePresentKHR queue waits ps) shown → AreShown d shown (frame_after h (QueuePresentKHR queue waits ps))
unfolding with_number
shows_present h queue waits ps b c d run same None shown = absurd shown
shows_present h queue waits ps b c d run same (Some f) shown =
    let all = present_shows d (view h) (executed h) (lawful h run.valid).objects (presented_places h queue waits ps b c d run same) queue waits ps run.passes in
    record {
      same =
          ap (λ n. Some (with_number n (map (picture_of d) f.pictures.items))) shown.0
          ∙ ap (λ xs. Some (with_number (view h).next_frame (map (picture_of d) xs))) shown.1
          ∙ ap (λ xs. Some (with_number (view h).next_frame xs)) all.same;
      there = subst (AllByRecursion (IsThere d)) (sym shown.1) all.there;
    }

shows_none : (d : Bytes) (shown : Option ShownFrame) → shown ≡ None → AreShown d shown None
shows_none d shown none = subst (λ s. AreShown d s None) (sym none) (record { same = refl; there = tt })

shows_event : (h : List Event) (e : Event) (b c d : Bytes) → IsRun h e b c → (w : View) → AreUpdated w e c d → (shown : Option ShownFrame) → IsShownOf (view h) e shown → AreShown d shown (frame_after h e)
shows_event h (QueuePresentKHR queue waits ps) b c d run w updated shown is = shows_present h queue waits ps b c d run updated shown is
shows_event h _ b c d run w updated shown is = shows_none d shown is

-- ---- the effect is taken

pub taken_now : (v w u : View) (b c d : Bytes) (e : Event) (ops : List Op) (given : List ℕ) (shown : Option ShownFrame) → first_broken v (checks_of e) ≡ None → w ≡ after_event v e →
    ops ≡ filter changes_bytes (ops_of v e) → given ≡ given_by e → IsSame (sizes_of b) (sizes_of c) → HoldsMore (flat_map (changes_of_op given) ops) b c → SameObjects u w → AreUpdated u e c d → IsShownOf v e shown →
    (h : List Event) → Stands v b h → IsTaken w d h e shown
taken_now v w u b c d e ops given shown pass next is has same ran objects updated shows h s =
    let passes_h : first_broken (view h) (checks_of e) ≡ None = ap (λ x. first_broken x (checks_of e)) (sym s.answers_same) ∙ pass in
    let after_h : w ≡ view (e ∷ h) = next ∙ ap (λ x. after_event x e) s.answers_same ∙ sym (view-event e h) in
    let changes_h : flat_map (changes_of_op given) ops ≡ flat_map (changes_of_op (given_by e)) (filter changes_bytes (ops_of (view h) e)) =
    ap (λ bytes. flat_map (changes_of_op bytes) ops) has ∙ ap (flat_map (changes_of_op (given_by e))) (is ∙ ap (λ x. filter changes_bytes (ops_of x e)) s.answers_same) in
    let run : IsRun h e b c = record {
      valid = s.valid;
      passes = passes_h;
      before = s.places;
      sizes = same;
      ran = all_hold (given_by e) (ops_of (view h) e) b c (subst (λ cs. HoldsMore cs b c) changes_h ran);
    } in
    let updated_w : AreUpdated (view (e ∷ h)) e c d = subst (λ x. AreUpdated x e c d) after_h (updated_same u w objects e c d updated) in
    record {
      stands = record {
        valid = and_from (is_valid h) (is_none (first_broken (view h) (checks_of e))) s.valid (ap is_none passes_h);
        answers_same = after_h;
        places = updated_stands h e b c d run updated_w;
      };
      shows = shows_event h e b c d run (view (e ∷ h)) updated_w shown (subst (λ x. IsShownOf x e shown) s.answers_same shows);
    }

-- what was taken stands for some history
pub taken_stood : (v w : View) (b d : Bytes) (e : Event) (shown : Option ShownFrame) → HasStood v b → ((h : List Event) → Stands v b h → IsTaken w d h e shown) → HasStood w d
taken_stood v w b d e shown stood taken = ∥∥₁_elim stood (hlevel props) (λ s. ∣ record { history = e ∷ s.history; stands = (taken s.history s.stands).stands } ∣₁)
