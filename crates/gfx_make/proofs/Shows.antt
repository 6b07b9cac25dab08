-- What the frames of the capture show.
use Rattle.std.proofs.Common.{◌≡◌, ◌≤◌, ◌<◌, ◌+◌, ◌-◌, ◌/◌, ◌%◌, nat_lt, if◌then◌else◌, ℕ, zero, suc, List, [], ◌∷◌, ◌++◌, Some, map, length, fold, slice_index, refl, ap, sym, subst, ◌∙◌, arith}
use Rattle.std.specs.Prelude.{flat_map, unwrap_or}
use Rattle.std.specs.List.{range_with_len}
use Rattle.std.specs.Option.{option_map_or}
use Rattle.std.proofs.lemmas.Bool.{le-ltb, cond-false}
use Rattle.std.proofs.lemmas.Nat.{mod_below}
use Rattle.gfx_types.specs.Names.{format_of}
use Rattle.gfx_types.specs.declared.names.Format.TheVariants.{R8Uint, B8G8R8A8Unorm}
use Rattle.gfx_types.specs.declared.op.Place.TheVariants as place
use Rattle.gfx_model.specs.Events.{Event}
use Rattle.gfx_model.specs.Events.Event.{FillMemory, AcquireNextImageKHR}
use Rattle.gfx_model.specs.Steps.{Step, Change}
use Rattle.gfx_model.specs.Steps.Step.{taken, unsignals, signals, changes, executed}
use Rattle.gfx_model.specs.Steps.Change.{put, set_layout}
use Rattle.gfx_model.specs.Bytes.{byte, bytes_at, covers_byte}
use Rattle.gfx_model.specs.Views.{View, width_of, height_of, format_at, image_at}
use Rattle.gfx_model.specs.Effects.{effect_of, steps_of}
use Rattle.gfx_model.specs.Frames.{frame_of, frames, picture, picture_size}
use Rattle.gfx_model.specs.History as history
use Rattle.gfx_model.specs.History.{onto, view}
use Rattle.gfx_laws.specs.Laws.{view_after, frames_after}
use Rattle.gfx_laws.proofs.Told.{view-onto}
use Rattle.gfx_laws.proofs.Ranges.{frames_parts}
use Rattle.gfx_section_law.proofs.Builds.{bytes_step, bytes_after, seen-event}
use Rattle.gfx_make.specs.Made.{waits, resets, submits, shows, setup, frame_with, frame_bytes, frame_byte, frame_events}
use Rattle.gfx_make.specs.Laws.{MadeShows}
use Rattle.gfx_make.specs.Shown.{memory_byte, memory_bytes, shown_frame}
use Rattle.gfx_make.proofs.Begun.{opened, ready}
use Rattle.gfx_make.proofs.OneFrame.{unshown, Goes, setup_leaves}
use Rattle.gfx_make.proofs.Valid.{image, offset, frame_goes_on, made_onto}
use Rattle.gfx_make.proofs.RowBytes.{Bytes, rows, row_bytes, memory_stays}
use Rattle.gfx_make.proofs.MemoryBytes.{memory_next}

-- ---- what a frame asks of the answers

-- the events of a frame up to its submit
abbrev pub filled : (i o : ℕ) (bytes : List ℕ) → List Event
filled i o bytes = waits ∷ resets ∷ FillMemory 8 o bytes ∷ AcquireNextImageKHR 3 5 13 0 i 0 ∷ []

-- the steps behind the rows of a copy
abbrev pub last_steps : (i : ℕ) → List Step
last_steps i = changes (set_layout (6 + i) 1000001002) ∷ executed (11 + i) ∷ signals 14 ∷ signals 15 ∷ []

-- the steps of a submit: the image is copied row by row
abbrev pub submitted : (i : ℕ) → List Step
submitted i = taken ∷ unsignals 13 ∷ changes (set_layout (6 + i) 7) ∷ (rows (6 + i) 0 480 ++ last_steps i)

-- image i is copied from the memory, and shown whole
pub record Draws (k six seven i o : ℕ) (bytes : List ℕ) : Type 0 where
  pub steps : steps_of (view_after (ready k six seven) (filled i o bytes)) (submits (11 + i)) ≡ submitted i
  pub width : width_of (view_after (ready k six seven) (unshown i o bytes)) 5 ≡ 640
  pub height : height_of (view_after (ready k six seven) (unshown i o bytes)) 5 ≡ 480
  pub format : format_at (view_after (ready k six seven) (unshown i o bytes)) 5 ≡ 44
  pub size : picture_size (view_after (ready k six seven) (unshown i o bytes)) 5 ≡ 1228800
  pub image : image_at (view_after (ready k six seven) (unshown i o bytes)) 5 i ≡ Some (6 + i)

pub frame_draws : (k six seven i o : ℕ) (bytes : List ℕ) → i < 2 → Draws k six seven i o bytes
unfolding opened rows
frame_draws k six seven zero o bytes two = record { steps = refl; width = refl; height = refl; format = refl; size = refl; image = refl }
frame_draws k six seven (suc zero) o bytes two = record { steps = refl; width = refl; height = refl; format = refl; size = refl; image = refl }
frame_draws k six seven (suc (suc i)) o bytes two = absurd (omega (arith, two))

-- ---- bytes

event_bytes : (e : Event) (h : List Event) → byte (history.executed (e ∷ h)) ≡ fold bytes_step (byte (history.executed h)) (steps_of (view h) e)
event_bytes e h = ap (λ s. s.bytes) (seen-event e h)

filled_bytes : (i o : ℕ) (bytes : List ℕ) (h : List Event) → byte (history.executed (onto (filled i o bytes) h)) ≡ bytes_after (put (place.Memory 8) o bytes) (byte (history.executed h))
unfolding effect_of
filled_bytes i o bytes h =
    event_bytes (AcquireNextImageKHR 3 5 13 0 i 0) (FillMemory 8 o bytes ∷ resets ∷ waits ∷ h)
    ∙ event_bytes (FillMemory 8 o bytes) (resets ∷ waits ∷ h)
    ∙ ap (λ f. bytes_after (put (place.Memory 8) o bytes) f) (event_bytes resets (waits ∷ h) ∙ event_bytes waits h)

shown_bytes : (i : ℕ) (h : List Event) → byte (history.executed (shows i ∷ h)) ≡ byte (history.executed h)
unfolding effect_of
shown_bytes i h = event_bytes (shows i) h

last_bytes : (i : ℕ) (ss : List Step) (f : Bytes) → fold bytes_step f (ss ++ last_steps i) ≡ fold bytes_step f ss
last_bytes i [] f = refl
last_bytes i (s ∷ ss) f = last_bytes i ss (bytes_step f s)

-- after m frames the memory has these bytes
abbrev pub Filled : (h : List Event) (m : ℕ) → Type 0
Filled h m = (j : ℕ) → j < 1228800 → byte (history.executed h) (place.Memory 8) j ≡ memory_byte m j

module _ (k six seven i o : ℕ) (bytes : List ℕ) (h : List Event) (is : view h ≡ ready k six seven) (d : Draws k six seven i o bytes) where
  -- the rows are copied from what was filled in
  drawn_bytes : byte (history.executed (onto (unshown i o bytes) h)) ≡ fold bytes_step (bytes_after (put (place.Memory 8) o bytes) (byte (history.executed h))) (rows (6 + i) 0 480)
  drawn_bytes =
      let before = onto (filled i o bytes) h in
      event_bytes (submits (11 + i)) before
      ∙ ap (λ v. fold bytes_step (byte (history.executed before)) (steps_of v (submits (11 + i)))) (view-onto (filled i o bytes) h ∙ ap (λ v. view_after v (filled i o bytes)) is)
      ∙ ap (fold bytes_step (byte (history.executed before))) d.steps
      ∙ last_bytes i (rows (6 + i) 0 480) (byte (history.executed before))
      ∙ ap (λ f. fold bytes_step f (rows (6 + i) 0 480)) (filled_bytes i o bytes h)

  image_byte : (j : ℕ) → j < 1228800 → byte (history.executed (onto (unshown i o bytes) h)) (place.Image (6 + i)) j
      ≡ bytes_after (put (place.Memory 8) o bytes) (byte (history.executed h)) (place.Memory 8) j
  image_byte j few =
      ap (λ f. f (place.Image (6 + i)) j) drawn_bytes
      ∙ row_bytes 480 (6 + i) 0 (bytes_after (put (place.Memory 8) o bytes) (byte (history.executed h))) j (omega arith) (omega (arith, few))

  left_byte : (j : ℕ) → byte (history.executed (onto (frame_with i o bytes) h)) (place.Memory 8) j
      ≡ bytes_after (put (place.Memory 8) o bytes) (byte (history.executed h)) (place.Memory 8) j
  left_byte j =
      ap (λ f. f (place.Memory 8) j) (shown_bytes i (onto (unshown i o bytes) h) ∙ drawn_bytes)
      ∙ memory_stays 480 (6 + i) 0 (bytes_after (put (place.Memory 8) o bytes) (byte (history.executed h))) j

-- ---- pictures

range_same : (n a : ℕ) (f g : ℕ → ℕ) → ((j : ℕ) → j < a + n → f j ≡ g j) → map f (range_with_len a n) ≡ map g (range_with_len a n)
range_same zero a f g same = refl
range_same (suc n) a f g same = λ t. same a (omega arith) t ∷ range_same n (a + 1) f g (λ j low. same j (omega (arith, low))) t

-- the picture of an image of a swapchain, by what is answered of both
picture_is : (v : View) (es : List Change) (i x : ℕ) (pixels : List ℕ) → width_of v 5 ≡ 640 → height_of v 5 ≡ 480 → format_at v 5 ≡ 44 → picture_size v 5 ≡ 1228800 →
    image_at v 5 i ≡ Some x → bytes_at es (place.Image x) 0 1228800 ≡ pixels →
    picture v es (record { swapchain = 5; index = i }) ≡ record { width = 640; height = 480; format = B8G8R8A8Unorm; pixels = pixels }
picture_is v es i x pixels width height format size image is = λ t. record {
  width = width t;
  height = height t;
  format = ap (λ f. unwrap_or (format_of f) R8Uint) format t;
  pixels = (ap (λ n. option_map_or (λ y. bytes_at es (place.Image y) 0 n) (image_at v 5 i) []) size
      ∙ ap (λ o. option_map_or (λ y. bytes_at es (place.Image y) 0 1228800) o []) image ∙ is) t;
}

-- frame k fills in its part of the memory
memory_frame : (k j old : ℕ) → 1 ≤ k → j < 1228800 → old ≡ memory_byte (k - 1) j →
    (if covers_byte (place.Memory 8) (offset k) (length (frame_bytes k)) (place.Memory 8) j then slice_index (frame_bytes k) (j - offset k) else old) ≡ memory_byte k j
memory_frame k j old one few is =
    let same : k - 1 + 1 ≡ k = omega (arith, one) in
    subst (λ n. (if covers_byte (place.Memory 8) (offset k) (length (frame_bytes n)) (place.Memory 8) j then slice_index (frame_bytes n) (j - offset k) else old) ≡ memory_byte n j)
    same (memory_next (k - 1) j old few is)

module _ (k six seven : ℕ) (h : List Event) (one : 1 ≤ k) (is : view h ≡ ready k six seven) (f : Filled h (k - 1)) where
  own_draws : Draws k six seven (image k) (offset k) (frame_bytes k)
  own_draws = frame_draws k six seven (image k) (offset k) (frame_bytes k) (mod_below (k - 1) 2 (omega arith))

  frame_shows : Goes k six seven (image k) (offset k) (frame_bytes k) →
      frame_of (onto (unshown (image k) (offset k) (frame_bytes k)) h) (record { swapchain = 5; index = image k } ∷ []) ≡ shown_frame k
  unfolding memory_bytes
  frame_shows g =
      let es = unshown (image k) (offset k) (frame_bytes k) in
      let done = history.executed (onto es h) in
      let d = own_draws in
      let answers : view (onto es h) ≡ view_after (ready k six seven) es = view-onto es h ∙ ap (λ v. view_after v es) is in
      let pixels : bytes_at done (place.Image (6 + image k)) 0 1228800 ≡ memory_bytes k =
      range_same 1228800 0 (byte done (place.Image (6 + image k))) (memory_byte k)
      (λ j few. image_byte k six seven (image k) (offset k) (frame_bytes k) h is d j (omega (arith, few)) ∙ memory_frame k j _ one (omega (arith, few)) (f j (omega (arith, few)))) in
      let shown = ap (λ v. picture v done (record { swapchain = 5; index = image k })) answers
      ∙ picture_is (view_after (ready k six seven) es) done (image k) (6 + image k) (memory_bytes k) d.width d.height d.format d.size d.image pixels in
      let number = ap (λ (v : View). v.next_frame) answers ∙ g.number in
      λ t. record { number = number t; pictures = shown t ∷ [] }

  frame_fills : Filled (onto (frame_with (image k) (offset k) (frame_bytes k)) h) k
  frame_fills j few =
      left_byte k six seven (image k) (offset k) (frame_bytes k) h is own_draws j ∙ memory_frame k j _ one few (f j few)

frames_show : (n k six seven : ℕ) (h : List Event) → k + n ≤ 1001 → 1 ≤ k → view h ≡ ready k six seven → Filled h (k - 1) →
    frames_after h (flat_map frame_events (range_with_len k n)) ≡ map shown_frame (range_with_len k n)
unfolding frame_events
frames_show zero k six seven h low one is f = refl
frames_show (suc n) k six seven h low one is f =
    let g = frame_goes_on k six seven (omega (arith, low)) in
    let es = frame_events k in
    let back : k ≡ k + 1 - 1 = omega arith in
    let first = frame_shows k six seven h one is f g in
    let rest = frames_show n (k + 1) g.next_six g.next_seven (onto es h) (omega (arith, low)) (omega arith)
    (view-onto es h ∙ ap (λ v. view_after v es) is ∙ g.leaves)
    (λ j few. frame_fills k six seven h one is f j few ∙ ap (λ m. memory_byte m j) back) in
    λ t. first t ∷ rest t

-- the setup shows no frame and leaves the memory zero
setup_shows : frames (onto setup []) ≡ []
unfolding frames setup
setup_shows = refl

setup_fills : Filled (onto setup []) 0
unfolding opened byte memory_byte
setup_fills j few = sym (cond-false (nat_lt (j / 40960) 0) (frame_byte (0 - (0 - 1 - j / 40960) % 30) (j % 40960)) 0 (le-ltb (j / 40960) 0 (omega arith)))

pub made_shows : MadeShows
made_shows n low =
    let es = flat_map frame_events (range_with_len 1 n) in
    ap frames (made_onto n) ∙ frames_parts es (onto setup []) ∙ ap (λ fs. fs ++ frames_after (onto setup []) es) setup_shows
    ∙ frames_show n 1 0 0 (onto setup []) (omega (arith, low)) (omega arith) setup_leaves setup_fills
