-- The events of an object, from its row and the bytes of places.
use Rattle.std.proofs.Common.{◌≡◌, ℕ, zero, suc, ◌+◌, ◌-◌, ◌*◌, ◌/◌, ◌<◌, ◌≤◌, ◌==◌, min, not, List, [], ◌∷◌, ◌++◌, Option, Some, length, take, drop, map, unwrap_or, cond, refl, ap, sym, subst, ◌∙◌, arith}
use Rattle.std.specs.Prelude.{flat_map, option_map, slice_index, slice_range}
use Rattle.std.specs.List.{AllByRecursion, filter_map, range_with_len, cons_option}
use Rattle.std.specs.Option.{option_map_or}
use Rattle.std.specs.FinMap as finmap
use Rattle.std.proofs.lemmas.List.FromFn.{length-map-range_with_len, take-map-range_with_len, get_or-map-range_with_len}
use Rattle.gfx_types.specs.declared.op.Place.{Place}
use Rattle.gfx_types.specs.declared.op.Place.TheVariants as place
use Rattle.gfx_model.specs.Events.{Event}
use Rattle.gfx_model.specs.Events.Event.{AllocateMemory, FillMemory, MapMemory, InitImage, CreateSwapchainKHR, SetSwapchainState}
use Rattle.gfx_model.specs.Steps.{Change}
use Rattle.gfx_model.specs.Questions.{image_size, range_of}
use Rattle.gfx_model.specs.Views.{View, images_in, detail_images, fetched}
use Rattle.gfx_model.specs.Bytes.{byte, bytes_at}
use Rattle.gfx_model.specs.Section as section
use Rattle.gfx_model.specs.Section.{object_events, fill_events, fetch_event, image_event}
use Rattle.gfx_feature_model.specs.Lean.{Keep, kept_block}
use Rattle.gfx_pages.specs.declared.bytes.Span.{Span}
use Rattle.gfx_pages.proofs.Sized as pages
use Rattle.gfx_pages.proofs.Scans.{span_is}
use Rattle.gfx_objects.specs.declared.object.Object.{Object}
use Rattle.gfx_types.specs.declared.map_range.MapRange.{MapRange}
use Rattle.gfx_objects.specs.declared.object.Detail.{Detail as Kept}
use Rattle.gfx_objects.specs.declared.object.Detail.TheVariants as kept
use Rattle.gfx_objects.specs.Object.{made, detail_of, mapped_of}
use Rattle.gfx_objects.specs.Objects as objects
use Rattle.gfx_state.specs.Known.{bytes_in}
use Rattle.gfx_state.specs.Filled.{fill_event, fills_written}
use Rattle.gfx_state.specs.Images.{marks_in, picture}
use Rattle.gfx_state.specs.Sections.{kept_object}
use Rattle.gfx_state.specs.Stored.{IsStoredOf}

-- ---- rows

pub live_answered : (k : objects.Kept) (x : ℕ) (o : Object) → finmap.get k.rows x ≡ Some o → (objects.answers k).live x ≡ Some (made o)
unfolding objects.answers
live_answered k x o row = ap (option_map made) row

pub images_answered : (k : objects.Kept) (x : ℕ) (o : Object) (surface images format width height usage : ℕ) → finmap.get k.rows x ≡ Some o
    → o.detail ≡ kept.Swapchain surface images format width height usage → images ≡ images_in (objects.answers k) x
images_answered k x o surface images format width height usage row is =
    sym (ap (λ l. option_map_or (λ q. detail_images q.detail) l 0) (live_answered k x o row) ∙ ap (λ d. detail_images (detail_of d)) is)

-- ---- the bytes of a fill

module _ (f : ℕ → ℕ) where
  drop_range : (a k n : ℕ) → k ≤ n → drop k (map f (range_with_len a n)) ≡ map f (range_with_len (a + k) (n - k))
  drop_range a zero n l = let e : a ≡ a + 0 = omega arith in let m : n ≡ n - 0 = omega arith in ap (λ b. map f (range_with_len b n)) e ∙ ap (λ c. map f (range_with_len (a + 0) c)) m
  drop_range a (suc k) zero l = absurd (omega (arith, l))
  drop_range a (suc k) (suc n) l =
      let e : a + 1 + k ≡ a + suc k = omega arith in
      let m : n - k ≡ suc n - suc k = omega arith in
      drop_range (a + 1) k n (omega (arith, l)) ∙ ap (λ b. map f (range_with_len b (n - k))) e ∙ ap (λ c. map f (range_with_len (a + suc k) c)) m

  part_of : (n at count : ℕ) → at + count ≤ n → slice_range (map f (range_with_len 0 n)) at (at + count) ≡ map f (range_with_len at count)
  part_of n at count l =
      let e : at + count - at ≡ count = omega arith in
      let z : 0 + at ≡ at = omega arith in
      ap (λ c. take c (drop at (map f (range_with_len 0 n)))) e
      ∙ ap (take count) (drop_range 0 at n (omega (arith, l)) ∙ ap (λ b. map f (range_with_len b (n - at))) z)
      ∙ take-map-range_with_len f at (n - at) count (omega (arith, l))

-- ---- fills by two functions that agree

module _ (f g : ℕ → ℕ) where
  same_nonzero : (a n : ℕ) → ((i : ℕ) → a ≤ i → i < a + n → f i ≡ g i) → section.nonzero f a n ≡ section.nonzero g a n
  same_nonzero a zero same = refl
  same_nonzero a (suc n) same =
      let rest = same_nonzero (a + 1) n (λ i low high. same i (omega (arith, low)) (omega (arith, high))) in
      let here = same a (omega arith) (omega arith) in
      ap (λ t. cond (not (t == 0)) (a ∷ section.nonzero f (a + 1) n) (section.nonzero f (a + 1) n)) here ∙ ap (λ l. cond (not (g a == 0)) (a ∷ l) l) rest

-- ---- a memory

module _ (v : View) (es : List Change) (x size : ℕ) (bytes : List ℕ) (is : bytes ≡ bytes_at es (place.Memory x) 0 size) where
  abbrev given : ℕ → ℕ
  given = byte es (place.Memory x)

  long : length bytes ≡ size
  long = ap (λ (l : List ℕ). length l) is ∙ length-map-range_with_len given 0 size

  same_byte : (i : ℕ) → i < size → slice_index bytes i ≡ given i
  same_byte i below = ap (λ (l : List ℕ). slice_index l i) is ∙ get_or-map-range_with_len given 0 size i i 0 below (omega arith)

  abbrev told : section.Span → Event
  told s = FillMemory x s.at (bytes_at es (place.Memory x) s.at s.length)

  one_fill : (s : Span) → s.at + s.length ≤ size → fill_event x bytes s ≡ told (record { at = s.at; length = s.length })
  one_fill s within = ap (FillMemory x s.at) (ap (λ (l : List ℕ). slice_range l s.at (s.at + s.length)) is ∙ part_of given size s.at s.length within)

  abbrev here : ℕ → Option Span
  here k = pages.page_fill 65536 (slice_index bytes) size k

  abbrev there : ℕ → Option section.Span
  there k = section.page_fill given size k

  one_page : (k : ℕ) (rest : List Span) (others : List section.Span) → map (fill_event x bytes) rest ≡ map told others
      → map (fill_event x bytes) (cons_option (here k) rest) ≡ map told (cons_option (there k) others)
  one_page k rest others same = by (section.nonzero (slice_index bytes) (k * 65536) (min 65536 (size - k * 65536))) refl
      (same_nonzero (slice_index bytes) given (k * 65536) (min 65536 (size - k * 65536)) (λ i low high. same_byte i (omega (arith, low, high))))
    where
      by : (ns : List ℕ) → section.nonzero (slice_index bytes) (k * 65536) (min 65536 (size - k * 65536)) ≡ ns
          → section.nonzero (slice_index bytes) (k * 65536) (min 65536 (size - k * 65536)) ≡ section.nonzero given (k * 65536) (min 65536 (size - k * 65536))
          → map (fill_event x bytes) (cons_option (here k) rest) ≡ map told (cons_option (there k) others)
      by [] nothing agree =
          ap (λ l. map (fill_event x bytes) (cons_option (pages.span_of l) rest)) nothing
          ∙ same ∙ ap (λ l. map told (cons_option (section.span_of l) others)) (sym nothing ∙ agree)
      by (n ∷ ns) some agree =
          let span : Span = record { at = n; length = section.last_of n ns + 1 - n } in
          let found : here k ≡ Some span = ap pages.span_of some in
          let inside = span_is (slice_index bytes) (k * 65536) (min 65536 (size - k * 65536)) span found in
          let high = inside.high in
          let more = inside.some in
          let within : n + (section.last_of n ns + 1 - n) ≤ size = omega (arith, high, more) in
          ap (λ l. map (fill_event x bytes) (cons_option (pages.span_of l) rest)) some
          ∙ ap (λ e. e ∷ map (fill_event x bytes) rest) (one_fill span within)
          ∙ ap (λ l. told (record { at = n; length = section.last_of n ns + 1 - n }) ∷ l) same
          ∙ ap (λ l. map told (cons_option (section.span_of l) others)) (sym some ∙ agree)

  pages_same : (ks : List ℕ) → map (fill_event x bytes) (filter_map here ks) ≡ map told (filter_map there ks)
  pages_same [] = refl
  pages_same (k ∷ ks) = one_page k (filter_map here ks) (filter_map there ks) (pages_same ks)

  pub fills_same : fills_written x bytes ≡ fill_events (record { answers = v; es = es }) x size
  unfolding section.fills_of
  fills_same =
      ap (map (fill_event x bytes)) (pages.fills_are bytes)
      ∙ ap (λ n. map (fill_event x bytes) (filter_map (pages.page_fill 65536 (slice_index bytes) n) (range_with_len 0 ((n + 65535) / 65536)))) long
      ∙ pages_same (range_with_len 0 ((size + 65535) / 65536))

pub memory_anew : (k : Keep) (v : View) (es : List Change) (bytes : Place → Option (List ℕ)) (x parent size : ℕ) (mapped : Option MapRange) (d : Kept) → d ≡ kept.Memory size mapped
    → v.mapped x ≡ mapped_of d → IsStoredOf v bytes es x (detail_of d)
    → AllocateMemory parent x size ∷ flat_map (kept_block k) (fills_written x (bytes_in bytes (place.Memory x))) ++ option_map_or (λ r. MapMemory parent x r.offset r.length ∷ []) (option_map range_of mapped) []
    ≡ kept_object k (record { answers = v; es = es }) x parent (detail_of d)
memory_anew k v es bytes x parent size mapped d is =
    subst (λ d. v.mapped x ≡ mapped_of d → IsStoredOf v bytes es x (detail_of d)
    → AllocateMemory parent x size ∷ flat_map (kept_block k) (fills_written x (bytes_in bytes (place.Memory x))) ++ option_map_or (λ r. MapMemory parent x r.offset r.length ∷ []) (option_map range_of mapped) []
    ≡ kept_object k (record { answers = v; es = es }) x parent (detail_of d)) (sym is)
    (λ map_is stored.
    ap (λ l. AllocateMemory parent x size ∷ flat_map (kept_block k) l ++ option_map_or (λ r. MapMemory parent x r.offset r.length ∷ []) (option_map range_of mapped) [])
    (fills_same v es x size (bytes_in bytes (place.Memory x)) (ap (λ o. unwrap_or o []) stored))
    ∙ ap (λ m. AllocateMemory parent x size ∷ flat_map (kept_block k) (fill_events (record { answers = v; es = es }) x size) ++ option_map_or (λ r. MapMemory parent x r.offset r.length ∷ []) m []) (sym map_is))

-- ---- a swapchain

pictures_same : (v : View) (es : List Change) (bytes : Place → Option (List ℕ)) (size : ℕ) (ys : List ℕ)
    → AllByRecursion (λ y. bytes (place.Image y) ≡ Some (bytes_at es (place.Image y) 0 size)) ys
    → map (picture v bytes) ys ≡ map (image_event (record { answers = v; es = es }) size) ys
pictures_same v es bytes size [] stored = refl
pictures_same v es bytes size (y ∷ ys) stored =
    ap (λ b. InitImage y (v.layout y) (unwrap_or b []) ∷ map (picture v bytes) ys) stored.0
    ∙ ap (λ l. image_event (record { answers = v; es = es }) size y ∷ l) (pictures_same v es bytes size ys stored.1)

pub chain_anew : (v : View) (es : List Change) (bytes : Place → Option (List ℕ)) (x parent surface images format width height usage : ℕ) (d : Kept)
    → d ≡ kept.Swapchain surface images format width height usage → IsStoredOf v bytes es x (detail_of d)
    → CreateSwapchainKHR parent x surface images format width height usage ∷ fetch_event parent x (fetched v x)
    ++ SetSwapchainState x (marks_in (v.acquired x) images) ∷ map (picture v bytes) (fetched v x)
    ≡ object_events (record { answers = v; es = es }) x parent (detail_of d)
chain_anew v es bytes x parent surface images format width height usage d is =
    subst (λ d. IsStoredOf v bytes es x (detail_of d)
    → CreateSwapchainKHR parent x surface images format width height usage ∷ fetch_event parent x (fetched v x)
    ++ SetSwapchainState x (marks_in (v.acquired x) images) ∷ map (picture v bytes) (fetched v x)
    ≡ object_events (record { answers = v; es = es }) x parent (detail_of d)) (sym is)
    (λ stored.
    ap (λ l. CreateSwapchainKHR parent x surface images format width height usage ∷ fetch_event parent x (fetched v x) ++ SetSwapchainState x (marks_in (v.acquired x) images) ∷ l)
    (pictures_same v es bytes (image_size format width height) (fetched v x) stored))
