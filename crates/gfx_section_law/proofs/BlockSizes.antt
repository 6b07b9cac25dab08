-- The blocks of one object: each is small, and they are few.
use Rattle.std.proofs.Common.{◌≡◌, ◌⊎◌, inl, inr, ℕ, suc, ◌+◌, ◌/◌, ◌≤◌, Bool, true, false, not, ◌&&◌, ◌==◌, nat_le, List, [], ◌∷◌, length, map, flat_map, length-append, Option, Some, None, refl, ap, arith}
use Rattle.std.specs.List.{AllByRecursion, range_with_len}
use Rattle.std.specs.Option.{option_map_or}
use Rattle.std.proofs.lemmas.Bool.{and_parts}
use Rattle.std.proofs.lemmas.Bool.Decides.{nat_tests}
use Rattle.std.proofs.lemmas.List.FromFn.{length-map-range_with_len}
use Rattle.gfx_types.specs.declared.op.Place.TheVariants as place
use Rattle.gfx_types.specs.declared.names.Kind.TheVariants as kind
use Rattle.gfx_model.specs.Events.{Event}
use Rattle.gfx_model.specs.Events.Event.{FillMemory, MapMemory, BindBufferMemory, BindImageMemory, InitImage, SetSwapchainState, SetSemaphoreState, EndCommandBuffer}
use Rattle.gfx_model.specs.Spelling.{fields_of}
use Rattle.gfx_model.specs.Steps.{Detail, kind_of, kind_number}
use Rattle.gfx_model.specs.Steps.Detail.{an_instance, a_surface, a_device, a_queue, a_memory, a_buffer, an_image, a_pool, a_command_buffer, a_fence, a_semaphore, a_swapchain}
use Rattle.gfx_model.specs.Questions.{Binding, Range, State, is_kept, image_size}
use Rattle.gfx_model.specs.Views.{is_live, is_usable, fetched, parent_of}
use Rattle.gfx_model.specs.Bytes.{byte, bytes_at}
use Rattle.gfx_model.specs.Section.{Known, Span, fills_of, object_events, live_ids, when, fetch_event, allocate_event, recording_events, buffers_of, image_event, mark}
use Rattle.gfx_laws.specs.Lawful.{base, IsCommandOf}
use Rattle.gfx_model.proofs.Lists.{all_append, all_along}
use Rattle.gfx_section_law.specs.Orderly.{IsOrderly}
use Rattle.gfx_section_law.proofs.Picks.{length-filter}
use Rattle.gfx_section_law.proofs.Ranks.{live_object}
use Rattle.gfx_section_law.proofs.Spans.{fills_short, fills_few}
use Rattle.gfx_section_law.proofs.Memory.{bytes_fit}
use Rattle.gfx_section_law.proofs.Images.{fetched_cases}
use Rattle.gfx_section_law.proofs.Sizes.{IsSmall, command_small, ids_small, words_small, fill_small, area_small, fixed_small}

-- ---- lists

pub all_when : (P : Event → Type 0) (t : Bool) (xs : List Event) → AllByRecursion P xs → AllByRecursion P (when t xs)
all_when P true xs a = a
all_when P false xs a = tt

pub all_option : {X : Type 0} (P : Event → Type 0) (f : X → List Event) (o : Option X) → ((x : X) → AllByRecursion P (f x)) → AllByRecursion P (option_map_or f o [])
all_option P f None each = tt
all_option P f (Some x) each = each x

few_when : (n : ℕ) (t : Bool) (xs : List Event) → length xs ≤ n → length (when t xs) ≤ n
few_when n true xs l = l
few_when n false xs l = omega arith

few_option : {X : Type 0} (n : ℕ) (f : X → List Event) (o : Option X) → ((x : X) → length (f x) ≤ n) → length (option_map_or f o []) ≤ n
few_option n f None each = omega arith
few_option n f (Some x) each = each x

length-map : {X Y : Type 0} (f : X → Y) (xs : List X) → length (map f xs) ≡ length xs
length-map f [] = refl
length-map f (x ∷ xs) = ap (λ n. suc n) (length-map f xs)

commands_of : (k : Known) → IsOrderly k.answers → (m cb : ℕ) → is_kept (k.answers.buffer cb).state ≡ true → AllByRecursion (IsSmall m) (k.answers.buffer cb).commands
commands_of k orderly m cb kept =
    let b = orderly.buffers cb kept in
    let q = live_object k.answers (λ o. kind_number (kind_of o.detail) == 9) cb b.is_buffer in
    all_along (IsCommandOf (base k.answers) cb) (IsSmall m) (λ c o. command_small m (base k.answers) c cb o.0 (orderly.nonzero cb q.0 q.1) o.1) (k.answers.buffer cb).commands b.commands

module _ (m : ℕ) (k : Known) (orderly : IsOrderly k.answers) where
  abbrev Small : List Event → Type 0
  Small es = AllByRecursion (IsSmall m) es

  -- ---- one object

  module _ (x p : ℕ) where
    pub fetched_few : (surface images format width height usage : ℕ) → k.answers.live x ≡ Some (record { parent = p; detail = a_swapchain surface images format width height usage }) → images ≤ 16 → length (fetched k.answers x) ≤ 16
    fetched_few surface images format width height usage is few = by (fetched_cases k.answers orderly x p surface images format width height usage is)
      where
        by : {P : Type 0} → (fetched k.answers x ≡ []) ⊎ (P × (length (fetched k.answers x) ≡ images)) → length (fetched k.answers x) ≤ 16
        by (inl e) = let z : length (fetched k.answers x) ≡ 0 = ap (λ (l : List ℕ). length l) e in omega (arith, z)
        by (inr b) = let z = b.1 in omega (arith, z, few)

    pub chain_limits : (surface images format width height usage : ℕ) → k.answers.live x ≡ Some (record { parent = p; detail = a_swapchain surface images format width height usage }) →
        (images ≤ 16) × (width ≤ 4096) × (height ≤ 4096)
    chain_limits surface images format width height usage is =
        let made = orderly.made x (record { parent = p; detail = a_swapchain surface images format width height usage }) is in
        let l1 = and_parts (nat_le images 16 && nat_le width 4096) (nat_le height 4096) (shape (nat_le images 16) (nat_le width 4096) (nat_le height 4096) made.4) in
        let l2 = and_parts (nat_le images 16) (nat_le width 4096) l1.0 in
        let a = l2.0 in let b = l2.1 in let c = l1.1 in
        (grind (arith, nat_tests, a), grind (arith, nat_tests, b), grind (arith, nat_tests, c))
      where
        shape : (a b c : Bool) → a && b && c ≡ true → (a && b) && c ≡ true
        shape true b c e = e
        shape false b c e = absurd (cc)

    fetch_small : (l : List ℕ) → length l ≤ 65536 → Small (fetch_event p x l)
    fetch_small [] n = tt
    fetch_small (i ∷ l) n = ((ids_small m p x (i ∷ l) n).1, tt)

    allocate_small : (l : List ℕ) → length l ≤ 65536 → Small (allocate_event p x l)
    allocate_small [] n = tt
    allocate_small (i ∷ l) n = ((ids_small m p x (i ∷ l) n).0, tt)

    pub parts_few : length (buffers_of k x) ≤ 65536
    parts_few =
        let a = length-filter (λ cb. parent_of k.answers cb == x) (live_ids k.answers kind.CommandBuffer) in
        let b = length-filter (is_live k.answers kind.CommandBuffer) k.answers.ids in
        let c = orderly.few in omega (arith, a, b, c)

    -- a buffer's recording
    recording_small : (cb : ℕ) (s : State) → (k.answers.buffer cb).state ≡ s → Small (recording_events cb s (k.answers.buffer cb))
    unfolding fields_of
    recording_small cb State.recording is = (fixed_small m _ (omega arith), commands_of k orderly m cb (ap is_kept is))
    recording_small cb State.executable is = (fixed_small m _ (omega arith), all_append (IsSmall m) (k.answers.buffer cb).commands (EndCommandBuffer cb ∷ []) (commands_of k orderly m cb (ap is_kept is)) (fixed_small m _ (omega arith), tt))
    recording_small cb State.initial is = tt
    recording_small cb State.invalid is = tt

    recordings_small : (cbs : List ℕ) → Small (flat_map (λ cb. recording_events cb (k.answers.buffer cb).state (k.answers.buffer cb)) cbs)
    recordings_small [] = tt
    recordings_small (cb ∷ cbs) = all_append (IsSmall m) (recording_events cb (k.answers.buffer cb).state (k.answers.buffer cb)) _ (recording_small cb (k.answers.buffer cb).state refl) (recordings_small cbs)

    images_small : (area : ℕ) (ys : List ℕ) → area ≤ 67108864 → Small (map (image_event k area) ys)
    images_small area [] l = tt
    images_small area (y ∷ ys) l =
        ((fill_small m y (k.answers.layout y) (bytes_at k.es (place.Image y) 0 area) (let n = length-map-range_with_len (λ i. byte k.es (place.Image y) i) 0 area in omega (arith, n, l))).1, images_small area ys l)

    fills_small : (size : ℕ) (ss : List Span) → AllByRecursion (λ s. s.length ≤ 65536) ss → Small (map (λ f. FillMemory x f.at (bytes_at k.es (place.Memory x) f.at f.length)) ss)
    fills_small size [] a = tt
    fills_small size (s ∷ ss) a =
        ((fill_small m x s.at (bytes_at k.es (place.Memory x) s.at s.length) (let n = length-map-range_with_len (λ i. byte k.es (place.Memory x) i) s.at s.length in let l = a.0 in omega (arith, n, l))).0, fills_small size ss a.1)

    pub block_small : (d : Detail) → k.answers.live x ≡ Some (record { parent = p; detail = d }) → Small (object_events k x p d)
    unfolding fields_of
    block_small (an_instance api) is = (fixed_small m _ (omega arith), tt)
    block_small a_surface is = (fixed_small m _ (omega arith), tt)
    block_small a_device is = (fixed_small m _ (omega arith), tt)
    block_small a_queue is = (fixed_small m _ (omega arith), tt)
    block_small (a_memory size) is = (
      fixed_small m _ (omega arith),
      all_append (IsSmall m) _ _ (fills_small size (fills_of (byte k.es (place.Memory x)) size) (fills_short (byte k.es (place.Memory x)) size))
          (all_option (IsSmall m) (λ (r : Range). MapMemory p x r.offset r.length ∷ []) (k.answers.mapped x) (λ r. (fixed_small m _ (omega arith), tt))),
    )
    block_small (a_buffer size usage) is = (
      fixed_small m _ (omega arith),
      all_when (IsSmall m) (is_usable k.answers x) _ (all_option (IsSmall m) (λ (b : Binding). BindBufferMemory p x b.memory b.offset ∷ []) (k.answers.bound x) (λ b. (fixed_small m _ (omega arith), tt))),
    )
    block_small (an_image format width height usage None) is = (
      fixed_small m _ (omega arith),
      all_append (IsSmall m) _ _
          (all_when (IsSmall m) (is_usable k.answers x) _ (all_option (IsSmall m) (λ (b : Binding). BindImageMemory p x b.memory b.offset ∷ []) (k.answers.bound x) (λ b. (fixed_small m _ (omega arith), tt))))
          (all_when (IsSmall m) (is_usable k.answers x && not (k.answers.layout x == 0)) (InitImage x (k.answers.layout x) [] ∷ []) ((fill_small m x (k.answers.layout x) [] (omega arith)).1, tt)),
    )
    block_small (an_image format width height usage (Some index)) is = tt
    block_small (a_swapchain surface images format width height usage) is =
        let l = chain_limits surface images format width height usage is in
        let few = fetched_few surface images format width height usage is l.0 in
        let i = l.0 in (
          fixed_small m _ (omega arith),
          all_append (IsSmall m) (fetch_event p x (fetched k.answers x)) _ (fetch_small (fetched k.answers x) (omega (arith, few))) (
            words_small m x (map (λ j. mark (k.answers.acquired x j)) (range_with_len 0 images)) (let n = length-map-range_with_len (λ j. mark (k.answers.acquired x j)) 0 images in omega (arith, n, i)),
            images_small (image_size format width height) (fetched k.answers x) (area_small format width height l.1 l.2),
          ),
        )
    block_small a_fence is = (fixed_small m _ (omega arith), tt)
    block_small a_semaphore is = (fixed_small m _ (omega arith), all_when (IsSmall m) (k.answers.signalled x) (SetSemaphoreState x 1 ∷ []) (fixed_small m _ (omega arith), tt))
    block_small (a_pool flags) is =
        (fixed_small m _ (omega arith), all_append (IsSmall m) (allocate_event p x (buffers_of k x)) _ (allocate_small (buffers_of k x) parts_few) (recordings_small (buffers_of k x)))
    block_small a_command_buffer is = tt

    -- ---- how many

    fetch_few : (l : List ℕ) → length (fetch_event p x l) ≤ 1
    fetch_few [] = omega arith
    fetch_few (i ∷ l) = omega arith

    pub block_few : (d : Detail) → k.answers.live x ≡ Some (record { parent = p; detail = d }) → (kind_number (kind_of d) == 8) ≡ false → length (object_events k x p d) ≤ 4100
    block_few (an_instance api) is own = omega arith
    block_few a_surface is own = omega arith
    block_few a_device is own = omega arith
    block_few a_queue is own = omega arith
    block_few (a_memory size) is own =
        let f = fills_few (byte k.es (place.Memory x)) size in
        let n = length-map (λ (f : Span). FillMemory x f.at (bytes_at k.es (place.Memory x) f.at f.length)) (fills_of (byte k.es (place.Memory x)) size) in
        let o = few_option 1 (λ (r : Range). MapMemory p x r.offset r.length ∷ []) (k.answers.mapped x) (λ r. omega arith) in
        let a = length-append (map (λ (f : Span). FillMemory x f.at (bytes_at k.es (place.Memory x) f.at f.length)) (fills_of (byte k.es (place.Memory x)) size)) (option_map_or (λ (r : Range). MapMemory p x r.offset r.length ∷ []) (k.answers.mapped x) []) in
        let s = bytes_fit k 0 orderly (λ y. false) x p (a_memory size) is refl in
        let c : (size + 65535) / 65536 ≤ 4096 = omega (arith, s) in
        omega (arith, f, n, o, a, c)
    block_few (a_buffer size usage) is own =
        let a = few_when 1 (is_usable k.answers x) (option_map_or (λ (b : Binding). BindBufferMemory p x b.memory b.offset ∷ []) (k.answers.bound x) []) (few_option 1 (λ (b : Binding). BindBufferMemory p x b.memory b.offset ∷ []) (k.answers.bound x) (λ b. omega arith)) in
        omega (arith, a)
    block_few (an_image format width height usage None) is own =
        let a = few_when 1 (is_usable k.answers x) (option_map_or (λ (b : Binding). BindImageMemory p x b.memory b.offset ∷ []) (k.answers.bound x) []) (few_option 1 (λ (b : Binding). BindImageMemory p x b.memory b.offset ∷ []) (k.answers.bound x) (λ b. omega arith)) in
        let b = few_when 1 (is_usable k.answers x && not (k.answers.layout x == 0)) (InitImage x (k.answers.layout x) [] ∷ []) (omega arith) in
        let c = length-append (when (is_usable k.answers x) (option_map_or (λ (b : Binding). BindImageMemory p x b.memory b.offset ∷ []) (k.answers.bound x) [])) (when (is_usable k.answers x && not (k.answers.layout x == 0)) (InitImage x (k.answers.layout x) [] ∷ [])) in
        omega (arith, a, b, c)
    block_few (an_image format width height usage (Some index)) is own = omega arith
    block_few (a_swapchain surface images format width height usage) is own =
        let l = chain_limits surface images format width height usage is in
        let few = fetched_few surface images format width height usage is l.0 in
        let a = fetch_few (fetched k.answers x) in
        let rest : List Event = SetSwapchainState x (map (λ j. mark (k.answers.acquired x j)) (range_with_len 0 images)) ∷ map (image_event k (image_size format width height)) (fetched k.answers x) in
        let b = length-append (fetch_event p x (fetched k.answers x)) rest in
        let c = length-map (image_event k (image_size format width height)) (fetched k.answers x) in
        omega (arith, few, a, b, c)
    block_few a_fence is own = omega arith
    block_few a_semaphore is own = let a = few_when 1 (k.answers.signalled x) (SetSemaphoreState x 1 ∷ []) (omega arith) in omega (arith, a)
    block_few (a_pool flags) is own = absurd (cc)
    block_few a_command_buffer is own = omega arith
