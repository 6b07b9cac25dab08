-- A range of events after two histories: the frames are the same where the bytes are that the range asks for.
use Rattle.std.proofs.Common.{◌≡◌, ℕ, ◌+◌, ◌-◌, ◌<◌, Bool, true, false, refl, sym, ◌∙◌, ap, subst, arith, List, [], ◌∷◌, ◌++◌, map, flat_map, take, length, length-append, append_assoc, cond, slice_index, Option, Some, None, slice_get, unwrap_or}
use Rattle.std.specs.Prelude.{Contains}
use Rattle.std.specs.List.{AllByRecursion}
use Rattle.std.specs.Option.{option_map_or}
use Rattle.std.proofs.Math.Seq.{take-append_seam}
use Rattle.gfx_types.specs.Names.{format_of}
use Rattle.gfx_types.specs.declared.names.Format.TheVariants.{R8Uint}
use Rattle.gfx_types.specs.declared.op.Place.{Place}
use Rattle.gfx_types.specs.declared.op.Place.TheVariants as place
use Rattle.gfx_types.specs.declared.lists.Present.{Present}
use Rattle.gfx_types.specs.declared.frame.Frame.{Frame}
use Rattle.gfx_types.specs.declared.frame.Picture.{Picture}
use Rattle.gfx_model.specs.Events.{Event}
use Rattle.gfx_model.specs.Events.Event.{QueuePresentKHR, CreateInstance}
use Rattle.gfx_model.specs.Steps.{Change}
use Rattle.gfx_model.specs.Steps.Change.{put, fill, copy, set_layout}
use Rattle.gfx_model.specs.Questions.{image_size}
use Rattle.gfx_model.specs.Views.{View, size_of, fetched, image_at, detail_format, detail_width, detail_height}
use Rattle.gfx_model.specs.Bytes.{byte, bytes_at, covers_byte, word_byte}
use Rattle.gfx_model.specs.Effects.{steps_of}
use Rattle.gfx_model.specs.Frames.{picture, picture_size, frame_of}
use Rattle.gfx_model.specs.History.{onto, view, fault, is_valid, executed}
use Rattle.gfx_feature_model.specs.Lean.{arrives, changes_since, IsAsked}
use Rattle.gfx_model.proofs.Covered.{is_mixed_view}
use Rattle.gfx_laws.specs.Lawful.{base, LawfulObjects}
use Rattle.gfx_laws.specs.Laws.{IsNoMarker, frames_after}
use Rattle.gfx_laws.proofs.Ranges.{valid_next}
use Rattle.gfx_laws.proofs.SameFrames.{pictures_same, all_whole, range_same, IsWhole}
use Rattle.gfx_laws.proofs.ValidHistories.{lawful_history}
use Rattle.gfx_lean_law.proofs.Only.{only, IsClosed, Keeps}
use Rattle.gfx_lean_law.proofs.Answers.{ask_only, fetched_only}
use Rattle.gfx_lean_law.proofs.Rows.{KeepsEvent, present_chains}
use Rattle.gfx_lean_law.proofs.Contained.{all_contained, all_at, onto-append}
use Rattle.gfx_lean_law.proofs.Simulation.{CoversKept, covers_along, changed_onto, changed_onto-append, executed-event}
use Rattle.gfx_script_model.specs.Ids.{uses_of, atom_ids}
use Rattle.gfx_model.specs.Fields.{present_atoms}
use Rattle.gfx_laws.proofs.Lists.{all_before, all_behind}

-- ---- bytes

-- the same changes give the same byte where the bytes are the same at which the question for it arrives
pub arrives_same : (cs es ds : List Change) (at : Place) (i : ℕ) → ((to : Place) (j : ℕ) → arrives cs at i ≡ Some (to, j) → byte ds to j ≡ byte es to j) →
    byte (cs ++ ds) at i ≡ byte (cs ++ es) at i
unfolding byte arrives
arrives_same [] es ds at i same = same at i refl
arrives_same (put to offset bytes ∷ cs) es ds at i same =
    by (covers_byte to offset (length bytes) at i) (slice_index bytes (i - offset)) same (arrives_same cs es ds at i)
  where
    by : (t : Bool) (n : ℕ) → ((p : Place) (j : ℕ) → elim t as (λ t. Option (Place × ℕ)) [ true ↦ None | false ↦ arrives cs at i ] ≡ Some (p, j) → byte ds p j ≡ byte es p j) →
        (((p : Place) (j : ℕ) → arrives cs at i ≡ Some (p, j) → byte ds p j ≡ byte es p j) → byte (cs ++ ds) at i ≡ byte (cs ++ es) at i) →
        cond t n (byte (cs ++ ds) at i) ≡ cond t n (byte (cs ++ es) at i)
    by true n same more = refl
    by false n same more = more same
arrives_same (fill to offset n word ∷ cs) es ds at i same =
    by (covers_byte to offset n at i) (word_byte word (i - offset)) same (arrives_same cs es ds at i)
  where
    by : (t : Bool) (n : ℕ) → ((p : Place) (j : ℕ) → elim t as (λ t. Option (Place × ℕ)) [ true ↦ None | false ↦ arrives cs at i ] ≡ Some (p, j) → byte ds p j ≡ byte es p j) →
        (((p : Place) (j : ℕ) → arrives cs at i ≡ Some (p, j) → byte ds p j ≡ byte es p j) → byte (cs ++ ds) at i ≡ byte (cs ++ es) at i) →
        cond t n (byte (cs ++ ds) at i) ≡ cond t n (byte (cs ++ es) at i)
    by true n same more = refl
    by false n same more = more same
arrives_same (copy to to_offset source source_offset n ∷ cs) es ds at i same =
    by (covers_byte to to_offset n at i) same (arrives_same cs es ds source (source_offset + (i - to_offset))) (arrives_same cs es ds at i)
  where
    from : ℕ
    from = source_offset + (i - to_offset)

    by : (t : Bool) → ((p : Place) (j : ℕ) → elim t as (λ t. Option (Place × ℕ)) [ true ↦ arrives cs source from | false ↦ arrives cs at i ] ≡ Some (p, j) → byte ds p j ≡ byte es p j) →
        (((p : Place) (j : ℕ) → arrives cs source from ≡ Some (p, j) → byte ds p j ≡ byte es p j) → byte (cs ++ ds) source from ≡ byte (cs ++ es) source from) →
        (((p : Place) (j : ℕ) → arrives cs at i ≡ Some (p, j) → byte ds p j ≡ byte es p j) → byte (cs ++ ds) at i ≡ byte (cs ++ es) at i) →
        (elim t as (λ t. ℕ) [ true ↦ byte (cs ++ ds) source from | false ↦ byte (cs ++ ds) at i ])
        ≡ (elim t as (λ t. ℕ) [ true ↦ byte (cs ++ es) source from | false ↦ byte (cs ++ es) at i ])
    by true same there here = there same
    by false same there here = here same
arrives_same (set_layout image layout ∷ cs) es ds at i same = arrives_same cs es ds at i same

-- the changes since a history are those that its range put before
pub since_are : (h now : List Event) (cs : List Change) → executed now ≡ cs ++ executed h → changes_since h now ≡ cs
since_are h now cs e =
    ap (λ (es : List Change). take (length es - length (executed h)) es) e
    ∙ ap (λ n. take n (cs ++ executed h)) (let l = length-append cs (executed h) in omega (arith, l))
    ∙ take-append_seam cs (executed h)

-- ---- frames

-- after the same changes of both: the answers for kept ids are covered, and these changes came on top
pub record Goes (k : ℕ → Bool) (start : List Event) (base : List Change) (h : List Event) (cs : List Change) (g : List Event) : Type 0 where
  pub covers : CoversKept k h (cs ++ base) g
  pub since : executed h ≡ cs ++ executed start

pub goes_along : (k : ℕ → Bool) (start : List Event) (base : List Change) (h : List Event) (cs : List Change) (g : List Event) (e : Event) →
    Goes k start base h cs g → IsNoMarker e → KeepsEvent k e → fault h e ≡ None → Goes k start base (e ∷ h) (changed_onto (steps_of (view h) e) cs) (e ∷ g)
goes_along k start base h cs g e c p kept none =
    let ss = steps_of (view h) e in
    record {
      covers = subst (λ ds. CoversKept k (e ∷ h) ds (e ∷ g)) (changed_onto-append ss cs base) (covers_along k h (cs ++ base) g e c.covers p kept none);
      since = executed-event e h ∙ ap (changed_onto ss) c.since ∙ changed_onto-append ss cs (executed start);
    }

-- at each byte of an image that a present shows, the two bases have the byte at which the question arrives
abbrev pub HasAsked : View → List Change → List Change → List Change → Present → Type 0
HasAsked v cs es ds p = (image : ℕ) → image_at v p.swapchain p.index ≡ Some image → (i : ℕ) → i < size_of v image → (to : Place) (j : ℕ) →
    arrives cs (place.Image image) i ≡ Some (to, j) → byte ds to j ≡ byte es to j

module _ (k : ℕ → Bool) (v : View) (closed : IsClosed k v) (lawful : LawfulObjects (base v)) (cs es ds : List Change) where
  size_only : (swapchain : ℕ) → k swapchain ≡ true → picture_size (only k v) swapchain ≡ picture_size v swapchain
  size_only swapchain on = λ j. image_size (ask_only k v detail_format swapchain on j) (ask_only k v detail_width swapchain on j) (ask_only k v detail_height swapchain on j)

  shown_bytes : (p : Present) (n : ℕ) → HasAsked v cs es ds p → (o : Option ℕ) → image_at v p.swapchain p.index ≡ o → ((image : ℕ) → o ≡ Some image → (i : ℕ) → i < n → i < size_of v image) →
      option_map_or (λ image. bytes_at (cs ++ ds) (place.Image image) 0 n) o [] ≡ option_map_or (λ image. bytes_at (cs ++ es) (place.Image image) 0 n) o []
  shown_bytes p n asked None e inside = refl
  shown_bytes p n asked (Some image) e inside =
      range_same (byte (cs ++ es) (place.Image image)) (byte (cs ++ ds) (place.Image image)) 0 n
      (λ i below. arrives_same cs es ds (place.Image image) i (asked image e i (inside image refl i (omega (arith, below)))))

  picture_only : (p : Present) → k p.swapchain ≡ true → HasAsked v cs es ds p → picture (only k v) (cs ++ ds) p ≡ picture v (cs ++ es) p
  picture_only p on asked = λ j. record {
    width = ask_only k v detail_width p.swapchain on j;
    height = ask_only k v detail_height p.swapchain on j;
    format = unwrap_or (format_of (ask_only k v detail_format p.swapchain on j)) R8Uint;
    pixels = pixels j;
  }
    where
      at : ℕ → List ℕ → List ℕ
      at n images = option_map_or (λ image. bytes_at (cs ++ ds) (place.Image image) 0 n) (slice_get images p.index) []

      pixels : option_map_or (λ image. bytes_at (cs ++ ds) (place.Image image) 0 (picture_size (only k v) p.swapchain)) (image_at (only k v) p.swapchain p.index) []
          ≡ option_map_or (λ image. bytes_at (cs ++ es) (place.Image image) 0 (picture_size v p.swapchain)) (image_at v p.swapchain p.index) []
      pixels =
          ap (λ n. option_map_or (λ image. bytes_at (cs ++ ds) (place.Image image) 0 n) (image_at (only k v) p.swapchain p.index) []) (size_only p.swapchain on)
          ∙ ap (λ l. option_map_or (λ image. bytes_at (cs ++ ds) (place.Image image) 0 (picture_size v p.swapchain)) (slice_get l p.index) []) (fetched_only k v closed p.swapchain on)
          ∙ shown_bytes p (picture_size v p.swapchain) asked (image_at v p.swapchain p.index) refl
          (λ image is i below. (all_at (IsWhole v p.swapchain) (fetched v p.swapchain) p.index image (all_whole v lawful p.swapchain) is i below).1)

  pictures_only : (ps : List Present) → AllByRecursion (λ p. k p.swapchain ≡ true) ps → AllByRecursion (HasAsked v cs es ds) ps → map (picture (only k v) (cs ++ ds)) ps ≡ map (picture v (cs ++ es)) ps
  pictures_only [] a asked = refl
  pictures_only (p ∷ ps) a asked =
      ap (λ x. x ∷ map (picture (only k v) (cs ++ ds)) ps) (picture_only p a.0 asked.0) ∙ ap (λ r. picture v (cs ++ es) p ∷ r) (pictures_only ps a.1 asked.1)

pub frame_along : (k : ℕ → Bool) (start : List Event) (base : List Change) (h : List Event) (cs : List Change) (g : List Event) (ps : List Present) → Goes k start base h cs g →
    AllByRecursion (λ p. k p.swapchain ≡ true) ps → AllByRecursion (HasAsked (view h) cs (executed start) base) ps → frame_of g ps ≡ frame_of h ps
frame_along k start base h cs g ps c kept asked =
    let c = c.covers in
    let v = view h in
    ap (λ n. with_number n (map (picture (view g) (executed g)) ps)) (c.answers).next_frame
    ∙ ap (λ u. with_number v.next_frame (map (picture u (executed g)) ps)) (sym (is_mixed_view (only k v) (view g) c.answers))
    ∙ ap (with_number v.next_frame) (pictures_same (only k v) (view g) (cs ++ base) (executed g) (c.lawful).objects c.bytes ps)
    ∙ ap (with_number v.next_frame) (pictures_only k v c.closed (lawful_history h c.valid_h).objects cs (executed start) base ps kept asked)
    ∙ ap (λ es. with_number v.next_frame (map (picture v es) ps)) (sym since)
  where
    since : executed h ≡ cs ++ executed start
    since = c.since

    with_number : ℕ → List Picture → Frame
    with_number n pictures = record { number = n; pictures = pictures }

-- ---- ranges

present_kept : (k : ℕ → Bool) (queue : ℕ) (waits : List ℕ) (ps : List Present) → Keeps k (uses_of 2 (QueuePresentKHR queue waits ps)) → AllByRecursion (λ p. k p.swapchain ≡ true) ps
unfolding uses_of
present_kept k queue waits ps a =
    present_chains k ps (all_before (λ x. k x ≡ true) _ [] (all_behind (λ x. k x ≡ true) waits (flat_map (flat_map atom_ids) (map present_atoms ps) ++ []) a.1))

-- what follows both
pub record FollowsKept (h g es : List Event) : Type 0 where
  pub valid : is_valid (onto es g) ≡ true
  pub frames : frames_after g es ≡ frames_after h es

module _ (k : ℕ → Bool) (start : List Event) (base : List Change) (range : List Event)
    (asked_same : (to : Place) (j : ℕ) → IsAsked start range to j → byte base to j ≡ byte (executed start) to j) where
  present_asked : (front : List Event) (queue : ℕ) (waits : List ℕ) (presents : List Present) (rest : List Event) → range ≡ front ++ QueuePresentKHR queue waits presents ∷ rest →
      (h : List Event) (cs : List Change) → onto front start ≡ h → executed h ≡ cs ++ executed start → (p : Present) → Contains presents p → HasAsked (view h) cs (executed start) base p
  present_asked front queue waits presents rest stands h cs is since p there image e i inside to j comes =
      asked_same to j record {
        front = front;
        queue = queue;
        waits = waits;
        presents = presents;
        rest = rest;
        stands = stands;
        shown = p;
        is_shown = there;
        image = image;
        is_image = ap (λ (h : List Event). image_at (view h) p.swapchain p.index) is ∙ e;
        i = i;
        inside = subst (λ (h : List Event). i < size_of (view h) image) (sym is) inside;
        comes = ap (λ cs. arrives cs (place.Image image) i) (since_are start (onto front start) cs (ap executed is ∙ since)) ∙ comes;
      }

  next_front : (front rest : List Event) (e : Event) → range ≡ front ++ e ∷ rest → range ≡ (front ++ e ∷ []) ++ rest
  next_front front rest e stands = stands ∙ sym (append_assoc front (e ∷ []) rest)

  next_onto : (front : List Event) (e : Event) (h : List Event) → onto front start ≡ h → onto (front ++ e ∷ []) start ≡ e ∷ h
  next_onto front e h is = onto-append front (e ∷ []) start ∙ ap (λ h. e ∷ h) is

  walk : (front rest : List Event) → range ≡ front ++ rest → (h : List Event) (cs : List Change) (g : List Event) → onto front start ≡ h → Goes k start base h cs g →
      AllByRecursion IsNoMarker rest → AllByRecursion (KeepsEvent k) rest → is_valid (onto rest h) ≡ true → FollowsKept h g rest
  walk front [] stands h cs g is c p kept valid = record { valid = (c.covers).valid_g; frames = refl }
  walk front (QueuePresentKHR queue waits presents ∷ rest) stands h cs g is c p kept valid =
      let e : Event = QueuePresentKHR queue waits presents in
      let next = goes_along k start base h cs g e c p.0 kept.0 (valid_next rest h e valid) in
      let more = walk (front ++ e ∷ []) rest (next_front front rest e stands) (e ∷ h) (changed_onto (steps_of (view h) e) cs) (e ∷ g) (next_onto front e h is) next p.1 kept.1 valid in
      let same : frame_of g presents ≡ frame_of h presents =
      frame_along k start base h cs g presents c (present_kept k queue waits presents kept.0.0)
      (all_contained (HasAsked (view h) cs (executed start) base) presents (present_asked front queue waits presents rest stands h cs is c.since)) in
      record {
        valid = more.valid;
        frames = ap (λ f. f ∷ frames_after (e ∷ g) rest) same ∙ ap (λ r. frame_of h presents ∷ r) more.frames;
      }
  walk front (CreateInstance instance api ∷ rest) stands h cs g is c p kept valid =
      let e : Event = CreateInstance instance api in
      let next = goes_along k start base h cs g e c p.0 kept.0 (valid_next rest h e valid) in
      let more = walk (front ++ e ∷ []) rest (next_front front rest e stands) (e ∷ h) (changed_onto (steps_of (view h) e) cs) (e ∷ g) (next_onto front e h is) next p.1 kept.1 valid in
      record { valid = more.valid; frames = more.frames }
  walk front (e ∷ rest) stands h cs g is c p kept valid =
      let next = goes_along k start base h cs g e c p.0 kept.0 (valid_next rest h e valid) in
      let more = walk (front ++ e ∷ []) rest (next_front front rest e stands) (e ∷ h) (changed_onto (steps_of (view h) e) cs) (e ∷ g) (next_onto front e h is) next p.1 kept.1 valid in
      record { valid = more.valid; frames = more.frames }

-- A range that names kept ids alone goes on after a history that covers another for these ids, with the same frames,
-- where the changes of its bytes leave the bytes that the range asks for.
pub range_kept : (k : ℕ → Bool) (h : List Event) (base : List Change) (g range : List Event) → CoversKept k h base g →
    ((to : Place) (j : ℕ) → IsAsked h range to j → byte base to j ≡ byte (executed h) to j) →
    AllByRecursion IsNoMarker range → AllByRecursion (KeepsEvent k) range → is_valid (onto range h) ≡ true → FollowsKept h g range
range_kept k h base g range c asked p kept valid = walk k h base range asked [] range refl h [] g refl (record { covers = c; since = refl }) p kept valid
