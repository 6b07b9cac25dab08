-- The places of a replay, as the section asks for them.
use Rattle.std.proofs.Common.{◌≡◌, ℕ, List, Option, Some, length, refl, sym, ap, subst, ◌∙◌}
use Rattle.std.specs.Prelude.{option_map}
use Rattle.std.specs.List.{AllByRecursion}
use Rattle.std.proofs.lemmas.List.FromFn.{length-map-range_with_len}
use Rattle.gfx_types.specs.declared.op.Place.{Place}
use Rattle.gfx_types.specs.declared.op.Place.TheVariants as place
use Rattle.gfx_model.specs.Events.{Event}
use Rattle.gfx_model.specs.Steps.{Change, Detail, Object}
use Rattle.gfx_model.specs.Steps.Detail.{a_memory, a_swapchain}
use Rattle.gfx_model.specs.Questions.{image_size}
use Rattle.gfx_model.specs.Views.{View, fetched}
use Rattle.gfx_model.specs.Bytes.{byte, bytes_at}
use Rattle.gfx_model.specs.Frames.{picture_size}
use Rattle.gfx_model.specs.History.{view, executed}
use Rattle.gfx_model.specs.Stands.{SameAnswers, Stands}
use Rattle.gfx_model.proofs.Lists.{all_along}
use Rattle.gfx_laws.proofs.ValidHistories.{lawful_history}
use Rattle.gfx_tracker.specs.Tracker.{answers}
use Rattle.gfx_replay.specs.Held.{Bytes}
use Rattle.gfx_replay.specs.Laws.{AreStored}
use Rattle.gfx_replay.specs.Replayer.{bytes_of, StandsFor}
use Rattle.gfx_replay.specs.declared.replayer.Replayer.{Replayer}
use Rattle.gfx_replay.proofs.Showing.{memory_stored, images_stored}
use Rattle.gfx_state.specs.Images.{IsPicture}
use Rattle.gfx_state.specs.Stored.{HasPlaces, HasPlacesOf, IsStored, IsStoredOf}

-- the bytes of an image of this swapchain
size_is : (v : View) (x parent surface images format width height usage : ℕ) → v.live x ≡ Some (record { parent = parent; detail = a_swapchain surface images format width height usage }) →
    picture_size v x ≡ image_size format width height
size_is v x parent surface images format width height usage live = ap (λ (o : Option Object). picture_size (record v { live = λ y. o }) x) live

there : (b : Bytes) (es : List Change) (at : Place) (size : ℕ) → b at ≡ Some (bytes_at es at 0 size) → option_map length (b at) ≡ Some size
there b es at size is = ap (option_map length) is ∙ ap (λ n. Some n) (length-map-range_with_len (λ i. byte es at i) 0 size)

is_stored : (b : Bytes) (v : View) (es : List Change) → AreStored b v es → IsStored v b es
is_stored b v es s x o live = by o.detail live
  where
    by : (d : Detail) → v.live x ≡ Some (record { parent = o.parent; detail = d }) → IsStoredOf v b es x d
    by (a_memory size) live = s.memories x o.parent size live
    by (a_swapchain surface images format width height usage) live =
        subst (λ n. AllByRecursion (λ y. b (place.Image y) ≡ Some (bytes_at es (place.Image y) 0 n)) (fetched v x)) (size_is v x o.parent surface images format width height usage live) (s.images x)
    by _ live = tt

has_places : (b : Bytes) (v : View) (es : List Change) → AreStored b v es → HasPlaces v b
has_places b v es s x o live = by o.detail live
  where
    by : (d : Detail) → v.live x ≡ Some (record { parent = o.parent; detail = d }) → HasPlacesOf v b x d
    by (a_memory size) live = there b es (place.Memory x) size (s.memories x o.parent size live)
    by (a_swapchain surface images format width height usage) live =
        all_along (λ y. b (place.Image y) ≡ Some (bytes_at es (place.Image y) 0 (image_size format width height))) (IsPicture b (image_size format width height))
        (λ y is. there b es (place.Image y) (image_size format width height) is) (fetched v x)
        (subst (λ n. AllByRecursion (λ y. b (place.Image y) ≡ Some (bytes_at es (place.Image y) 0 n)) (fetched v x)) (size_is v x o.parent surface images format width height usage live) (s.images x))
    by _ live = tt

are_stored : (r : Replayer) (h : List Event) → StandsFor r h → AreStored (bytes_of r) (view h) (executed h)
are_stored r h s = record {
  memories = memory_stored (bytes_of r) (view h) (executed h) s.stands.places;
  images = images_stored (bytes_of r) (view h) (executed h) (lawful_history h s.stands.valid).objects s.stands.places;
}

-- a replay has the places that the section asks for, with the bytes that the history leaves
pub replay_places : (r : Replayer) (h : List Event) → StandsFor r h → HasPlaces (answers r.tracker) (bytes_of r)
replay_places r h s = subst (λ (v : View). HasPlaces v (bytes_of r)) (sym s.stands.answers_same) (has_places (bytes_of r) (view h) (executed h) (are_stored r h s))

pub replay_stored : (r : Replayer) (h : List Event) → StandsFor r h → IsStored (answers r.tracker) (bytes_of r) (executed h)
replay_stored r h s = subst (λ (v : View). IsStored v (bytes_of r) (executed h)) (sym s.stands.answers_same) (is_stored (bytes_of r) (view h) (executed h) (are_stored r h s))

-- and its tracker answers as the history does
same_answers : (v : View) → SameAnswers v v
same_answers v = record {
  live = λ x. refl;
  ids = refl;
  used = λ x. refl;
  bound = λ x. refl;
  mapped = λ x. refl;
  buffer = λ x. refl;
  signalled = λ x. refl;
  acquired = λ x index. refl;
  layout = λ x. refl;
  next_frame = refl;
  is_empty = refl;
  section = refl;
}

pub replay_stands : (r : Replayer) (h : List Event) → StandsFor r h → Stands (answers r.tracker) h
replay_stands r h s = subst (λ (v : View). SameAnswers v (view h)) (sym s.stands.answers_same) (same_answers (view h))
