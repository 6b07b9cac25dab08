-- The events of a section have a spelling where those of the history have.
use Rattle.std.proofs.Common.{◌≡◌, ℕ, zero, suc, ◌+◌, ◌<◌, ◌≤◌, Bool, true, false, not, ◌&&◌, ◌||◌, ◌==◌, List, [], ◌∷◌, length, map, flat_map, Option, Some, None, refl, ap, subst, arith}
use Rattle.std.specs.Prelude.{◌^◌}
use Rattle.std.specs.List.{AllByRecursion, range_with_len}
use Rattle.std.specs.Option.{option_map_or}
use Rattle.std.proofs.lemmas.Bool.{eqb-true}
use Rattle.std.proofs.lemmas.List.FromFn.{length-map-range_with_len}
use Rattle.gfx_types.specs.declared.names.Kind.{Kind}
use Rattle.gfx_types.specs.declared.names.Kind.TheVariants as kind
use Rattle.gfx_types.specs.declared.op.Place.{Place}
use Rattle.gfx_types.specs.declared.op.Place.TheVariants as place
use Rattle.gfx_model.specs.Events.{Event}
use Rattle.gfx_model.specs.Events.Event.{FillMemory, MapMemory, BindBufferMemory, BindImageMemory, InitImage, SetSemaphoreState, EndCommandBuffer, BeginSection, EndSection}
use Rattle.gfx_model.specs.Spelling.{FieldFits, HasSpelling, fields_of, id_fields, word_fields}
use Rattle.gfx_model.specs.Steps.{Object, Detail, kind_of, kind_number}
use Rattle.gfx_model.specs.Steps.Detail.{an_instance, a_surface, a_device, a_queue, a_memory, a_buffer, an_image, a_pool, a_command_buffer, a_fence, a_semaphore, a_swapchain}
use Rattle.gfx_model.specs.Questions.{Binding, Range, State, is_kept, image_size}
use Rattle.gfx_model.specs.Views.{is_live, is_usable, fetched, size_of, detail_size}
use Rattle.gfx_model.specs.Checks.{is_among}
use Rattle.gfx_model.specs.Table.{is_layout}
use Rattle.gfx_model.specs.Bytes.{byte, bytes_at}
use Rattle.gfx_model.specs.Section.{Known, Span, fills_of, object_events, group, live_ids, fetch_event, allocate_event, recording_events, buffers_of, image_event, mark}
use Rattle.gfx_model.proofs.Lists.{all_append}
use Rattle.gfx_section_law.specs.Orderly.{IsOrderly}
use Rattle.gfx_section_law.specs.Spelled.{IsSpelled}
use Rattle.gfx_section_law.proofs.Ranks.{live_object}
use Rattle.gfx_section_law.proofs.Spans.{Within, fills_within}
use Rattle.gfx_section_law.proofs.Parts.{all_among, filtered, in_filtered}
use Rattle.gfx_section_law.proofs.Images.{each_image}
use Rattle.gfx_section_law.proofs.BlockSizes.{all_when, fetched_few, chain_limits, parts_few}
use Rattle.gfx_section_law.proofs.Sizes.{area_small}

-- one of a few numbers
among_small : (l : ℕ) (xs : List ℕ) → AllByRecursion (λ x. x < 2 ^ 32) xs → is_among l xs ≡ true → l < 2 ^ 32
among_small l [] a e = absurd (cc)
among_small l (x ∷ xs) a e = by (x == l) refl e (among_small l xs a.1)
  where
    by : (t : Bool) → (x == l) ≡ t → t || is_among l xs ≡ true → (is_among l xs ≡ true → l < 2 ^ 32) → l < 2 ^ 32
    by true s e more = subst (λ z. z < 2 ^ 32) (eqb-true x l s) a.0
    by false s e more = more e

layout_small : (l : ℕ) → is_layout l ≡ true → l < 2 ^ 32
layout_small l e = among_small l (0 ∷ 1 ∷ 6 ∷ 7 ∷ 1000001002 ∷ []) (omega arith, (omega arith, (omega arith, (omega arith, (omega arith, tt))))) e

flags_small : (l : ℕ) → is_among l (0 ∷ 1 ∷ 4 ∷ 5 ∷ []) ≡ true → l < 2 ^ 32
flags_small l e = among_small l (0 ∷ 1 ∷ 4 ∷ 5 ∷ []) (omega arith, (omega arith, (omega arith, (omega arith, tt)))) e

mark_small : (t : Bool) → mark t < 2 ^ 32
mark_small true = omega arith
mark_small false = omega arith

ids_fit : (xs : List ℕ) → AllByRecursion (λ x. x < 2 ^ 64) xs → AllByRecursion FieldFits (flat_map id_fields xs)
ids_fit [] a = tt
ids_fit (x ∷ xs) a = (a.0, ids_fit xs a.1)

module _ (m : ℕ) (k : Known) (orderly : IsOrderly k.answers) (s : IsSpelled m k.answers k.es) where
  abbrev Spelled : List Event → Type 0
  Spelled es = AllByRecursion (HasSpelling m) es

  bytes_fit : (at : Place) (a n : ℕ) → AllByRecursion (λ b. b < 256) (bytes_at k.es at a n)
  bytes_fit at a zero = tt
  bytes_fit at a (suc n) = (s.bytes at a, bytes_fit at (a + 1) n)

  live_id : (j : Kind) (x : ℕ) → is_live k.answers j x ≡ true → x < 2 ^ 64
  live_id j x l = let q = live_object k.answers (λ o. kind_number (kind_of o.detail) == kind_number j) x l in (s.live x q.0 q.1).0

  module _ (x p : ℕ) where
    init_spelled : (y : ℕ) → y < 2 ^ 64 → (a n : ℕ) → n < 2 ^ 64 → HasSpelling m (InitImage y (k.answers.layout y) (bytes_at k.es (place.Image y) a n))
    unfolding fields_of
    init_spelled y small a n l = record {
      version = tt;
      fields = (
        small,
        (
          layout_small (k.answers.layout y) (orderly.layouts y),
          ((let e = length-map-range_with_len (λ i. byte k.es (place.Image y) i) a n in omega (arith, e, l), bytes_fit (place.Image y) a n), tt),
        ),
      );
    }

    fills_spelled : (size : ℕ) → size < 2 ^ 64 → x < 2 ^ 64 → (ss : List Span) → AllByRecursion (Within 0 size) ss → Spelled (map (λ f. FillMemory x f.at (bytes_at k.es (place.Memory x) f.at f.length)) ss)
    unfolding fields_of
    fills_spelled size small a [] w = tt
    fills_spelled size small a (f ∷ ss) w = (
      record {
        version = tt;
        fields = (
          a,
          (
            let e = w.0.ends in let b = w.0.some in omega (arith, e, b, small),
            ((let n = length-map-range_with_len (λ i. byte k.es (place.Memory x) i) f.at f.length in let e = w.0.ends in omega (arith, n, e, small), bytes_fit (place.Memory x) f.at f.length), tt),
          ),
        );
      },
      fills_spelled size small a ss w.1,
    )

    map_spelled : x < 2 ^ 64 → p < 2 ^ 64 → (size : ℕ) → size < 2 ^ 64 → size_of k.answers x ≡ size → (o : Option Range) → k.answers.mapped x ≡ o → Spelled (option_map_or (λ r. MapMemory p x r.offset r.length ∷ []) o [])
    unfolding fields_of
    map_spelled a b size small is None e = tt
    map_spelled a b size small is (Some r) e =
        let q = orderly.mapped x r e in let begins = q.begins in let ends = q.ends in
        (record { version = tt; fields = (b, (a, (omega (arith, begins, is, small), (omega (arith, ends, is, small), tt)))) }, tt)

    bind_spelled : x < 2 ^ 64 → p < 2 ^ 64 → (o : Option Binding) → k.answers.bound x ≡ o →
        Spelled (option_map_or (λ b. BindBufferMemory p x b.memory b.offset ∷ []) o []) × Spelled (option_map_or (λ b. BindImageMemory p x b.memory b.offset ∷ []) o [])
    unfolding fields_of
    bind_spelled a b None e = (tt, tt)
    bind_spelled a b (Some c) e =
        let q = s.bound x c e in
        ((record { version = tt; fields = (b, (a, (q.0, (q.1, tt)))) }, tt), (record { version = tt; fields = (b, (a, (q.0, (q.1, tt)))) }, tt))

    fetch_spelled : x < 2 ^ 64 → p < 2 ^ 64 → (l : List ℕ) → length l < 2 ^ 32 → AllByRecursion (λ y. y < 2 ^ 64) l → Spelled (fetch_event p x l) × Spelled (allocate_event p x l)
    unfolding fields_of
    fetch_spelled a b [] n h = (tt, tt)
    fetch_spelled a b (i ∷ l) n h =
        ((record { version = tt; fields = (b, (a, (n, ids_fit (i ∷ l) h))) }, tt), (record { version = tt; fields = (b, (a, (n, ids_fit (i ∷ l) h))) }, tt))

    marks_fit : (js : List ℕ) → AllByRecursion FieldFits (flat_map word_fields (map (λ j. mark (k.answers.acquired x j)) js))
    marks_fit [] = tt
    marks_fit (j ∷ js) = (mark_small (k.answers.acquired x j), marks_fit js)

    images_spelled : (area : ℕ) → area < 2 ^ 64 → (ys : List ℕ) → AllByRecursion (λ y. y < 2 ^ 64) ys → Spelled (map (image_event k area) ys)
    images_spelled area n [] a = tt
    images_spelled area n (y ∷ ys) a = (init_spelled y a.0 0 area n, images_spelled area n ys a.1)

    recording_spelled : (cb : ℕ) → cb < 2 ^ 64 → (t : State) → (k.answers.buffer cb).state ≡ t → Spelled (recording_events cb t (k.answers.buffer cb))
    unfolding fields_of
    recording_spelled cb a State.recording is =
        (record { version = tt; fields = (a, (flags_small _ (orderly.buffers cb (ap is_kept is)).flags, tt)) }, s.commands cb)
    recording_spelled cb a State.executable is = (
      record { version = tt; fields = (a, (flags_small _ (orderly.buffers cb (ap is_kept is)).flags, tt)) },
      all_append (HasSpelling m) (k.answers.buffer cb).commands (EndCommandBuffer cb ∷ []) (s.commands cb) (record { version = tt; fields = (a, tt) }, tt),
    )
    recording_spelled cb a State.initial is = tt
    recording_spelled cb a State.invalid is = tt

    recordings_spelled : (cbs : List ℕ) → AllByRecursion (λ y. y < 2 ^ 64) cbs → Spelled (flat_map (λ cb. recording_events cb (k.answers.buffer cb).state (k.answers.buffer cb)) cbs)
    recordings_spelled [] a = tt
    recordings_spelled (cb ∷ cbs) a = all_append (HasSpelling m) (recording_events cb (k.answers.buffer cb).state (k.answers.buffer cb)) _ (recording_spelled cb a.0 (k.answers.buffer cb).state refl) (recordings_spelled cbs a.1)

    parts_ids : AllByRecursion (λ y. y < 2 ^ 64) (buffers_of k x)
    parts_ids = all_among (λ y. y < 2 ^ 64) (buffers_of k x) (λ y e.
        live_id kind.CommandBuffer y (filtered (is_live k.answers kind.CommandBuffer) y k.answers.ids (in_filtered _ y (live_ids k.answers kind.CommandBuffer) e)))

    block_spelled : (d : Detail) → k.answers.live x ≡ Some (record { parent = p; detail = d }) → Spelled (object_events k x p d)
    unfolding fields_of
    block_spelled (an_instance api) is = let f = s.live x _ is in (record { version = tt; fields = (f.0, (f.2, tt)) }, tt)
    block_spelled a_surface is = let f = s.live x _ is in (record { version = tt; fields = (f.1, (f.0, tt)) }, tt)
    block_spelled a_device is = let f = s.live x _ is in (record { version = tt; fields = (f.1, (f.0, tt)) }, tt)
    block_spelled a_queue is = let f = s.live x _ is in (record { version = tt; fields = (f.1, (f.0, tt)) }, tt)
    block_spelled (a_memory size) is =
        let f = s.live x (record { parent = p; detail = a_memory size }) is in (
          record { version = tt; fields = (f.1, (f.0, (f.2, tt))) },
          all_append (HasSpelling m) _ _ (fills_spelled size f.2 f.0 (fills_of (byte k.es (place.Memory x)) size) (fills_within (byte k.es (place.Memory x)) size))
              (map_spelled f.0 f.1 size f.2 (ap (λ (l : Option Object). option_map_or (λ (o : Object). detail_size o.detail) l 0) is) (k.answers.mapped x) refl),
        )
    block_spelled (a_buffer size usage) is =
        let f = s.live x (record { parent = p; detail = a_buffer size usage }) is in
        (record { version = tt; fields = (f.1, (f.0, (f.2.0, (f.2.1, tt)))) }, all_when (HasSpelling m) (is_usable k.answers x) _ (bind_spelled f.0 f.1 (k.answers.bound x) refl).0)
    block_spelled (an_image format width height usage None) is =
        let f = s.live x (record { parent = p; detail = an_image format width height usage None }) is in (
          record { version = tt; fields = (f.1, (f.0, (f.2.0, (f.2.1, (f.2.2, (f.2.3, tt)))))) },
          all_append (HasSpelling m) _ _ (all_when (HasSpelling m) (is_usable k.answers x) _ (bind_spelled f.0 f.1 (k.answers.bound x) refl).1)
              (all_when (HasSpelling m) (is_usable k.answers x && not (k.answers.layout x == 0)) (InitImage x (k.answers.layout x) [] ∷ []) (init_spelled x f.0 0 0 (omega arith), tt)),
        )
    block_spelled (an_image format width height usage (Some index)) is = tt
    block_spelled (a_swapchain surface images format width height usage) is =
        let f = s.live x (record { parent = p; detail = a_swapchain surface images format width height usage }) is in
        let limits = chain_limits m k orderly x p surface images format width height usage is in
        let few = fetched_few m k orderly x p surface images format width height usage is limits.0 in
        let area = area_small format width height limits.1 limits.2 in
        let ids : AllByRecursion (λ y. y < 2 ^ 64) (fetched k.answers x) = all_among (λ y. y < 2 ^ 64) (fetched k.answers x) (λ y e.
        let q = each_image k.answers orderly x p surface images format width height usage is y e in (s.live y _ q.1).0) in (
          record { version = tt; fields = (f.1, (f.0, (f.2.0, (f.2.1, (f.2.2, (f.2.3, (f.2.4, (f.2.5, tt)))))))) },
          all_append (HasSpelling m) (fetch_event p x (fetched k.answers x)) _ (fetch_spelled f.0 f.1 (fetched k.answers x) (omega (arith, few)) ids).0 (
            record { version = tt; fields = (f.0, (let n = length-map-range_with_len (λ j. mark (k.answers.acquired x j)) 0 images in let i = f.2.1 in omega (arith, n, i), marks_fit (range_with_len 0 images))) },
            images_spelled (image_size format width height) (omega (arith, area)) (fetched k.answers x) ids,
          ),
        )
    block_spelled a_fence is = let f = s.live x _ is in (record { version = tt; fields = (f.1, (f.0, (mark_small (k.answers.signalled x), tt))) }, tt)
    block_spelled a_semaphore is =
        let f = s.live x _ is in (record { version = tt; fields = (f.1, (f.0, tt)) }, all_when (HasSpelling m) (k.answers.signalled x) (SetSemaphoreState x 1 ∷ []) (record { version = tt; fields = (f.0, (omega arith, tt)) }, tt))
    block_spelled (a_pool flags) is =
        let f = s.live x (record { parent = p; detail = a_pool flags }) is in (
          record { version = tt; fields = (f.1, (f.0, (f.2, tt))) },
          all_append (HasSpelling m) (allocate_event p x (buffers_of k x)) _ (fetch_spelled f.0 f.1 (buffers_of k x) (let few = parts_few m k orderly x p in omega (arith, few)) parts_ids).1 (recordings_spelled (buffers_of k x) parts_ids),
        )
    block_spelled a_command_buffer is = tt

  blocks_spelled : (xs : List ℕ) → Spelled (flat_map (λ x. option_map_or (λ o. object_events k x o.parent o.detail) (k.answers.live x) []) xs)
  blocks_spelled [] = tt
  blocks_spelled (x ∷ xs) = all_append (HasSpelling m) (option_map_or (λ o. object_events k x o.parent o.detail) (k.answers.live x) []) _ (one (k.answers.live x) refl) (blocks_spelled xs)
    where
      one : (o : Option Object) → k.answers.live x ≡ o → Spelled (option_map_or (λ o. object_events k x o.parent o.detail) o [])
      one None e = tt
      one (Some o) e = block_spelled x o.parent o.detail e

  pub groups_spelled : (js : List Kind) → Spelled (flat_map (group k) js)
  groups_spelled [] = tt
  groups_spelled (j ∷ js) = all_append (HasSpelling m) (group k j) (flat_map (group k) js) (blocks_spelled (live_ids k.answers j)) (groups_spelled js)

pub markers_spelled : (m n : ℕ) → n ≤ 2 ^ 62 → HasSpelling m (BeginSection n) × HasSpelling m (EndSection n)
unfolding fields_of
markers_spelled m n l = (record { version = tt; fields = (omega (arith, l), tt) }, record { version = tt; fields = (omega (arith, l), tt) })
