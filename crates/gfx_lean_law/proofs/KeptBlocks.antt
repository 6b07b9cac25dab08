-- The blocks of the section that are kept are those that the answers for kept ids give, over bytes with zeros in place of dropped fills.
use Rattle.std.proofs.Common.{◌≡◌, ℕ, Bool, true, false, refl, sym, ◌∙◌, ap, subst, List, [], ◌∷◌, ◌++◌, map, filter, flat_map, length, Option, Some, None, if◌then◌else◌, cond, is_some, not, ◌==◌, ◌&&◌, append-nil}
use mathlib.Core.Path.{fun_ext}
use Rattle.std.specs.List.{AllByRecursion, range_with_len}
use Rattle.std.specs.Option.{option_map_or}
use Rattle.std.proofs.lemmas.Bool.{eqb-true, and_parts, both_ways}
use Rattle.std.proofs.lemmas.List.FromFn.{length-map-range_with_len}
use Rattle.std.proofs.lemmas.Grind.{flat_map-append}
use Rattle.gfx_types.specs.declared.names.Kind.{Kind}
use Rattle.gfx_types.specs.declared.names.Kind.TheVariants as kind
use Rattle.gfx_types.specs.declared.op.Place.TheVariants as place
use Rattle.gfx_model.specs.Events.{Event}
use Rattle.gfx_model.specs.Events.Event.{AllocateMemory, FillMemory, MapMemory, CreateBuffer, BindBufferMemory, CreateImage, BindImageMemory, InitImage, CreateSwapchainKHR, SetSwapchainState, CreateFence, CreateSemaphore, SetSemaphoreState, CreateCommandPool, EndCommandBuffer, CmdPipelineBarrier, CmdFillBuffer, CmdUpdateBuffer, CmdCopyBuffer, CmdCopyImage, CmdCopyBufferToImage, CmdCopyImageToBuffer, CmdClearColorImage}
use Rattle.gfx_model.specs.Steps.{Object, Detail, Change, kind_of, kind_number}
use Rattle.gfx_model.specs.Steps.Detail.{an_instance, a_surface, a_device, a_queue, a_memory, a_buffer, an_image, a_pool, a_command_buffer, a_fence, a_semaphore, a_swapchain}
use Rattle.gfx_model.specs.Questions.{Binding, Range, Buffer, State, passes, image_size, is_kept}
use Rattle.gfx_model.specs.Views.{View, is_live, is_one, is_usable, parent_of, fetched, has_index, images_in}
use Rattle.gfx_model.specs.Covers.{is_fetched}
use Rattle.gfx_model.specs.Bytes.{byte, bytes_at}
use Rattle.gfx_model.specs.Section.{Known, Span, fills_of, when, fill_events, map_event, bind_event, layout_event, image_event, mark, marks_of, fetch_event, allocate_event, recording_events, object_events}
use Rattle.gfx_feature_model.specs.Lean.{Keep, subject_of, allocated, kept_block, kept_events}
use Rattle.gfx_model.proofs.Lists.{all_append, all_map, all_along, all_flat_map}
use Rattle.gfx_laws.specs.Lawful.{IsLawful, IsCommandOf, base, cb_of}
use Rattle.gfx_laws.proofs.Cases.{by_test}
use Rattle.gfx_laws.proofs.Lists.{all_into_map}
use Rattle.gfx_laws.proofs.SameFrames.{all_filter}
use Rattle.gfx_lean_law.proofs.Only.{only, IsClosed}
use Rattle.gfx_lean_law.proofs.Answers.{kind_only, parent_only, buffer_only, signalled_only, acquired_only, layout_only, mapped_only, bound_only, window_only, fetched_only, parent_kept}
use Rattle.gfx_lean_law.proofs.Words.{fetched_kept}
use Rattle.gfx_lean_law.proofs.Zeros.{zeros, kept_fills, image_bytes_stay}

module _ (k : ℕ → Bool) (keep : Keep) (v : View) (es : List Change) (c : IsClosed k v) (h : IsLawful v es) (same : (x : ℕ) → is_some (v.live x) ≡ true → keep.id x ≡ k x) where
  abbrev w : View
  w = only k v

  abbrev s : Known
  s = record { answers = v; es = es }

  abbrev new_bytes : List Change
  new_bytes = zeros keep.fill v.live es v.ids ++ es

  -- what the kept section is the section of
  abbrev pub t : Known
  t = record { answers = w; es = new_bytes }

  abbrev ke : Event → List Event
  ke e = kept_events v keep e

  -- the object of a block is kept
  abbrev asks : Event → Bool
  asks e = option_map_or keep.id (subject_of v e) true

  stays : (xs : List Event) → AllByRecursion (λ e. (asks e ≡ true) × (kept_block keep e ≡ e ∷ [])) xs → flat_map ke xs ≡ xs
  stays [] a = refl
  stays (e ∷ xs) a =
      ap (λ t. (if t then kept_block keep e else []) ++ flat_map ke xs) a.0.0 ∙ ap (λ l. l ++ flat_map ke xs) a.0.1 ∙ ap (λ r. e ∷ r) (stays xs a.1)

  goes : (xs : List Event) → AllByRecursion (λ e. asks e ≡ false) xs → flat_map ke xs ≡ []
  goes [] a = refl
  goes (e ∷ xs) a = ap (λ t. (if t then kept_block keep e else []) ++ flat_map ke xs) a.0 ∙ goes xs a.1

  -- a block of x that is kept unchanged
  abbrev Own : ℕ → Event → Type 0
  Own x e = (asks e ≡ keep.id x) × (kept_block keep e ≡ e ∷ [])

  own_stays : (x : ℕ) → keep.id x ≡ true → (xs : List Event) → AllByRecursion (Own x) xs → flat_map ke xs ≡ xs
  own_stays x on xs a = stays xs (all_along (Own x) (λ e. (asks e ≡ true) × (kept_block keep e ≡ e ∷ [])) (λ e o. (o.0 ∙ on, o.1)) xs a)

  own_goes : (x : ℕ) → keep.id x ≡ false → (xs : List Event) → AllByRecursion (Own x) xs → flat_map ke xs ≡ []
  own_goes x off xs a = goes xs (all_along (Own x) (λ e. asks e ≡ false) (λ e o. o.0 ∙ off) xs a)

  -- ---- the parts of an object's blocks

  when_own : (x : ℕ) (b : Bool) (xs : List Event) → AllByRecursion (Own x) xs → AllByRecursion (Own x) (when b xs)
  when_own x true xs a = a
  when_own x false xs a = tt

  map_own : (x parent : ℕ) (r : Option Range) → AllByRecursion (Own x) (option_map_or (λ r. MapMemory parent x r.offset r.length ∷ []) r [])
  map_own x parent None = tt
  map_own x parent (Some r) = ((refl, refl), tt)

  bind_buffer_own : (x parent : ℕ) (b : Option Binding) → AllByRecursion (Own x) (option_map_or (λ b. BindBufferMemory parent x b.memory b.offset ∷ []) b [])
  bind_buffer_own x parent None = tt
  bind_buffer_own x parent (Some b) = ((refl, refl), tt)

  bind_image_own : (x parent : ℕ) (b : Option Binding) → AllByRecursion (Own x) (option_map_or (λ b. BindImageMemory parent x b.memory b.offset ∷ []) b [])
  bind_image_own x parent None = tt
  bind_image_own x parent (Some b) = ((refl, refl), tt)

  fetch_own : (x parent : ℕ) (images : List ℕ) → AllByRecursion (Own x) (fetch_event parent x images)
  fetch_own x parent [] = tt
  fetch_own x parent (i ∷ is) = ((refl, refl), tt)

  -- an image of a swapchain is of it
  abbrev IsOf : ℕ → ℕ → Type 0
  IsOf swapchain image = option_map_or (λ (o : Object). if is_fetched o.detail then o.parent else image) (v.live image) image ≡ swapchain

  fetched_of : (swapchain i x : ℕ) → is_one v (λ o. o.parent == swapchain && has_index i o.detail) x ≡ true → IsOf swapchain x
  fetched_of swapchain i x e = by (v.live x) e
    where
      by_detail : (p : ℕ) (d : Detail) → (p == swapchain) ≡ true → has_index i d ≡ true → (if is_fetched d then p else x) ≡ swapchain
      by_detail p (an_image f w h u (Some index)) up at = eqb-true p swapchain up
      by_detail p (an_image f w h u None) up at = absurd (cc)
      by_detail p _ up at = absurd (cc)

      by : (l : Option Object) → passes (λ o. o.parent == swapchain && has_index i o.detail) l ≡ true → option_map_or (λ (o : Object). if is_fetched o.detail then o.parent else x) l x ≡ swapchain
      by None e = absurd (cc)
      by (Some o) e = let both = and_parts (o.parent == swapchain) (has_index i o.detail) e in by_detail o.parent o.detail both.0 both.1

  all_of : (swapchain : ℕ) → AllByRecursion (IsOf swapchain) (fetched v swapchain)
  all_of swapchain =
      all_flat_map (IsOf swapchain) _ (λ i. all_filter (IsOf swapchain) _ (fetched_of swapchain i) v.ids) (range_with_len 0 (images_in v swapchain))

  images_own : (x size : ℕ) → AllByRecursion (Own x) (map (image_event s size) (fetched v x))
  images_own x size = all_into_map (Own x) (image_event s size) (fetched v x) (all_along (IsOf x) (λ i. Own x (image_event s size i)) (λ i e. (ap keep.id e, refl)) (fetched v x) (all_of x))

  -- ---- the same blocks from the answers for kept ids

  usable_same : (x : ℕ) → k x ≡ true → is_usable w x ≡ is_usable v x
  usable_same x on = ap is_some (window_only k v c x on)

  bind_same : (bind : ℕ → ℕ → Event) (x : ℕ) → k x ≡ true → bind_event s bind x ≡ bind_event t bind x
  bind_same bind x on =
      ap (λ b. when b (option_map_or (λ (b : Binding). bind b.memory b.offset ∷ []) (v.bound x) [])) (sym (usable_same x on))
      ∙ ap (λ o. when (is_usable w x) (option_map_or (λ (b : Binding). bind b.memory b.offset ∷ []) o [])) (sym (bound_only k v x on))

  layout_same : (x : ℕ) → k x ≡ true → layout_event s x ≡ layout_event t x
  layout_same x on =
      ap (λ b. when (b && not (v.layout x == 0)) (InitImage x (v.layout x) [] ∷ [])) (sym (usable_same x on))
      ∙ ap (λ l. when (is_usable w x && not (l == 0)) (InitImage x l [] ∷ [])) (sym (layout_only k v x on))

  image_same : (size x : ℕ) → k x ≡ true → image_event s size x ≡ image_event t size x
  image_same size x on =
      ap (λ l. InitImage x l (bytes_at es (place.Image x) 0 size)) (sym (layout_only k v x on))
      ∙ ap (λ b. InitImage x (w.layout x) b) (ap (λ (f : ℕ → ℕ). map f (range_with_len 0 size)) (fun_ext (λ i. sym (image_bytes_stay keep.fill v.live es v.ids x i))))

  images_same : (size : ℕ) (xs : List ℕ) → AllByRecursion (λ x. k x ≡ true) xs → map (image_event s size) xs ≡ map (image_event t size) xs
  images_same size [] a = refl
  images_same size (x ∷ xs) a = ap (λ e. e ∷ map (image_event s size) xs) (image_same size x a.0) ∙ ap (λ r. image_event t size x ∷ r) (images_same size xs a.1)

  marks_same : (x images : ℕ) → k x ≡ true → marks_of s x images ≡ marks_of t x images
  marks_same x images on = ap (λ (f : ℕ → Bool). map (λ i. mark (f i)) (range_with_len 0 images)) (sym (acquired_only k v x on))

  -- ---- memory

  memory_kept : (x parent size : ℕ) → v.live x ≡ Some (record { parent = parent; detail = a_memory size }) → keep.id x ≡ true →
      flat_map ke (fill_events s x size) ≡ fill_events t x size
  memory_kept x parent size e on =
      blocks (fills_of (byte es (place.Memory x)) size)
      ∙ sym (kept_fills keep.fill v.live es v.ids x parent size e ((h.ids).exact x ∙ ap is_some e) (λ at n bytes. FillMemory x at bytes))
    where
      block : Span → Event
      block f = FillMemory x f.at (bytes_at es (place.Memory x) f.at f.length)

      one : (f : Span) → ke (block f) ≡ cond (keep.fill x f.at f.length) (block f ∷ []) []
      one f =
          ap (λ t. if t then (if keep.fill x f.at (length (bytes_at es (place.Memory x) f.at f.length)) then block f ∷ [] else []) else []) on
          ∙ ap (λ n. if keep.fill x f.at n then block f ∷ [] else []) (length-map-range_with_len (λ i. byte es (place.Memory x) i) f.at f.length)

      blocks : (fs : List Span) → flat_map ke (map block fs) ≡ flat_map (λ f. cond (keep.fill x f.at f.length) (block f ∷ []) []) fs
      blocks [] = refl
      blocks (f ∷ fs) = ap (λ l. l ++ flat_map ke (map block fs)) (one f) ∙ ap (λ r. cond (keep.fill x f.at f.length) (block f ∷ []) [] ++ r) (blocks fs)

  fills_go : (x size : ℕ) → keep.id x ≡ false → flat_map ke (fill_events s x size) ≡ []
  fills_go x size off = goes (fill_events s x size) (all_map (λ e. asks e ≡ false) (λ f. FillMemory x f.at (bytes_at es (place.Memory x) f.at f.length)) (λ f. off) (fills_of (byte es (place.Memory x)) size))

  -- ---- command buffers

  -- a command is of the buffer that it names
  command_own : (cb : ℕ) → (cb ≡ 0 → ⊥) → (e : Event) → cb_of e ≡ cb → Own cb e
  command_own cb there (CmdPipelineBarrier i barriers) is = (ap keep.id is, refl)
  command_own cb there (CmdFillBuffer i buffer offset size word) is = (ap keep.id is, refl)
  command_own cb there (CmdUpdateBuffer i buffer offset bytes) is = (ap keep.id is, refl)
  command_own cb there (CmdCopyBuffer i source target regions) is = (ap keep.id is, refl)
  command_own cb there (CmdCopyImage i source source_layout target target_layout regions) is = (ap keep.id is, refl)
  command_own cb there (CmdCopyBufferToImage i source target layout regions) is = (ap keep.id is, refl)
  command_own cb there (CmdCopyImageToBuffer i source layout target regions) is = (ap keep.id is, refl)
  command_own cb there (CmdClearColorImage i image layout c0 c1 c2 c3) is = (ap keep.id is, refl)
  command_own cb there _ is = absurd (there (sym is))

  -- what is recording or executable is live, and so it is not 0
  not_zero : (cb : ℕ) → is_kept (v.buffer cb).state ≡ true → cb ≡ 0 → ⊥
  not_zero cb e z =
      both_ways (is_live v kind.CommandBuffer cb)
      (ap (λ l. passes (λ o. kind_number (kind_of o.detail) == 9) l) (ap v.live z ∙ (h.objects).zero)) ((h.buffers).owner cb e)

  commands_own : (cb : ℕ) → is_kept (v.buffer cb).state ≡ true → AllByRecursion (Own cb) (v.buffer cb).commands
  commands_own cb e = all_along (IsCommandOf (base v) cb) (Own cb) (λ x is. command_own cb (not_zero cb e) x is.0) (v.buffer cb).commands ((h.buffers).commands cb e)

  recording_own : (cb : ℕ) → AllByRecursion (Own cb) (recording_events cb (v.buffer cb).state (v.buffer cb))
  recording_own cb = by (v.buffer cb).state refl
    where
      by : (st : State) → (v.buffer cb).state ≡ st → AllByRecursion (Own cb) (recording_events cb st (v.buffer cb))
      by State.recording e = ((refl, refl), commands_own cb (ap is_kept e))
      by State.executable e = ((refl, refl), all_append (Own cb) (v.buffer cb).commands (EndCommandBuffer cb ∷ []) (commands_own cb (ap is_kept e)) ((refl, refl), tt))
      by State.initial e = tt
      by State.invalid e = tt

  abbrev record_in : Known → ℕ → List Event
  record_in u cb = recording_events cb (u.answers.buffer cb).state (u.answers.buffer cb)

  recording_same : (cb : ℕ) → k cb ≡ true → record_in s cb ≡ record_in t cb
  recording_same cb on = ap (λ (b : Buffer). recording_events cb b.state b) (sym (buffer_only k v cb on))

  -- the recordings of a pool's buffers
  recordings_kept : (xs : List ℕ) → flat_map ke (flat_map (record_in s) xs) ≡ flat_map (λ cb. cond (keep.id cb) (record_in s cb) []) xs
  recordings_kept [] = refl
  recordings_kept (cb ∷ xs) =
      flat_map-append ke (record_in s cb) (flat_map (record_in s) xs)
      ∙ ap (λ l. l ++ flat_map ke (flat_map (record_in s) xs)) (by (keep.id cb) refl)
      ∙ ap (λ r. cond (keep.id cb) (record_in s cb) [] ++ r) (recordings_kept xs)
    where
      by : (b : Bool) → keep.id cb ≡ b → flat_map ke (record_in s cb) ≡ cond b (record_in s cb) []
      by true on = own_stays cb on (record_in s cb) (recording_own cb)
      by false off = own_goes cb off (record_in s cb) (recording_own cb)

  -- the kept buffers of a pool
  abbrev of_pool : ℕ → List ℕ → List ℕ
  of_pool x ids = filter (λ cb. parent_of v cb == x) (filter (is_live v kind.CommandBuffer) ids)

  abbrev of_pool_only : ℕ → List ℕ → List ℕ
  of_pool_only x ids = filter (λ cb. parent_of w cb == x) (filter (is_live w kind.CommandBuffer) (filter k ids))

  live_id : (j : Kind) (x : ℕ) → is_live v j x ≡ true → keep.id x ≡ k x
  live_id j x e = same x (there (v.live x) e)
    where
      there : (l : Option Object) → passes (λ o. kind_number (kind_of o.detail) == kind_number j) l ≡ true → is_some l ≡ true
      there None e = absurd (cc)
      there (Some o) e = refl

  buffers_kept : (x : ℕ) (ids : List ℕ) → of_pool_only x ids ≡ filter keep.id (of_pool x ids)
  buffers_kept x [] = refl
  buffers_kept x (y ∷ ids) = by (k y) (is_live v kind.CommandBuffer y) (parent_of v y == x) refl refl refl (buffers_kept x ids)
    where
      abbrev_old : List ℕ
      abbrev_old = of_pool x ids

      by : (a b d : Bool) → k y ≡ a → is_live v kind.CommandBuffer y ≡ b → (parent_of v y == x) ≡ d → of_pool_only x ids ≡ filter keep.id (of_pool x ids) →
          filter (λ cb. parent_of w cb == x) (filter (is_live w kind.CommandBuffer) (cond a (y ∷ filter k ids) (filter k ids)))
          ≡ filter keep.id (filter (λ cb. parent_of v cb == x) (cond b (y ∷ filter (is_live v kind.CommandBuffer) ids) (filter (is_live v kind.CommandBuffer) ids)))
      by true true true a b d more =
          ap (λ t. filter (λ cb. parent_of w cb == x) (cond t (y ∷ filter (is_live w kind.CommandBuffer) (filter k ids)) (filter (is_live w kind.CommandBuffer) (filter k ids)))) (kind_only k v kind.CommandBuffer y a ∙ b)
          ∙ ap (λ t. cond t (y ∷ of_pool_only x ids) (of_pool_only x ids)) (ap (λ n. n == x) (parent_only k v y a) ∙ d)
          ∙ ap (λ r. y ∷ r) more
          ∙ sym (ap (λ t. filter keep.id (cond t (y ∷ of_pool x ids) (of_pool x ids))) d ∙ ap (λ t. cond t (y ∷ filter keep.id (of_pool x ids)) (filter keep.id (of_pool x ids))) (live_id kind.CommandBuffer y b ∙ a))
      by true true false a b d more =
          ap (λ t. filter (λ cb. parent_of w cb == x) (cond t (y ∷ filter (is_live w kind.CommandBuffer) (filter k ids)) (filter (is_live w kind.CommandBuffer) (filter k ids)))) (kind_only k v kind.CommandBuffer y a ∙ b)
          ∙ ap (λ t. cond t (y ∷ of_pool_only x ids) (of_pool_only x ids)) (ap (λ n. n == x) (parent_only k v y a) ∙ d)
          ∙ more
          ∙ sym (ap (λ t. filter keep.id (cond t (y ∷ of_pool x ids) (of_pool x ids))) d)
      by true false d a b e more =
          ap (λ t. filter (λ cb. parent_of w cb == x) (cond t (y ∷ filter (is_live w kind.CommandBuffer) (filter k ids)) (filter (is_live w kind.CommandBuffer) (filter k ids)))) (kind_only k v kind.CommandBuffer y a ∙ b)
          ∙ more
      by false true true a b d more =
          more ∙ sym (ap (λ t. filter keep.id (cond t (y ∷ of_pool x ids) (of_pool x ids))) d ∙ ap (λ t. cond t (y ∷ filter keep.id (of_pool x ids)) (filter keep.id (of_pool x ids))) (live_id kind.CommandBuffer y b ∙ a))
      by false true false a b d more = more ∙ sym (ap (λ t. filter keep.id (cond t (y ∷ of_pool x ids) (of_pool x ids))) d)
      by false false d a b e more = more

  allocated_same : (parent x : ℕ) (xs : List ℕ) → allocated parent x xs ≡ allocate_event parent x xs
  allocated_same parent x [] = refl
  allocated_same parent x (b ∷ bs) = refl

  allocate_kept : (parent x : ℕ) → keep.id x ≡ true → (xs : List ℕ) → flat_map ke (allocate_event parent x xs) ≡ allocate_event parent x (filter keep.id xs)
  allocate_kept parent x on [] = refl
  allocate_kept parent x on (b ∷ bs) =
      ap (λ t. (if t then allocated parent x (filter keep.id (b ∷ bs)) else []) ++ []) on ∙ append-nil (allocated parent x (filter keep.id (b ∷ bs))) ∙ allocated_same parent x (filter keep.id (b ∷ bs))

  allocate_goes : (parent x : ℕ) → keep.id x ≡ false → (xs : List ℕ) → flat_map ke (allocate_event parent x xs) ≡ []
  allocate_goes parent x off [] = refl
  allocate_goes parent x off (b ∷ bs) = ap (λ t. (if t then allocated parent x (filter keep.id (b ∷ bs)) else []) ++ []) off

  -- what is left of lists of buffers, with what each records
  recordings_filtered : (xs : List ℕ) → AllByRecursion (λ cb. keep.id cb ≡ true → k cb ≡ true) xs →
      flat_map (λ cb. cond (keep.id cb) (record_in s cb) []) xs ≡ flat_map (record_in t) (filter keep.id xs)
  recordings_filtered [] a = refl
  recordings_filtered (cb ∷ xs) a = by (keep.id cb) a.0 (recordings_filtered xs a.1)
    where
      by : (b : Bool) → (b ≡ true → k cb ≡ true) → flat_map (λ cb. cond (keep.id cb) (record_in s cb) []) xs ≡ flat_map (record_in t) (filter keep.id xs) →
          cond b (record_in s cb) [] ++ flat_map (λ cb. cond (keep.id cb) (record_in s cb) []) xs ≡ flat_map (record_in t) (cond b (cb ∷ filter keep.id xs) (filter keep.id xs))
      by true on more = ap (λ l. l ++ flat_map (λ cb. cond (keep.id cb) (record_in s cb) []) xs) (recording_same cb (on refl)) ∙ ap (λ r. record_in t cb ++ r) more
      by false on more = more

  recordings_gone : (xs : List ℕ) → AllByRecursion (λ cb. keep.id cb ≡ false) xs → flat_map (λ cb. cond (keep.id cb) (record_in s cb) []) xs ≡ []
  recordings_gone [] a = refl
  recordings_gone (cb ∷ xs) a = ap (λ b. cond b (record_in s cb) [] ++ flat_map (λ cb. cond (keep.id cb) (record_in s cb) []) xs) a.0 ∙ recordings_gone xs a.1

  -- the buffers of a pool are live, and made of it
  pool_all : (P : ℕ → Type 0) (x : ℕ) → ((cb : ℕ) → is_live v kind.CommandBuffer cb ≡ true → (parent_of v cb == x) ≡ true → P cb) → (ids : List ℕ) → AllByRecursion P (of_pool x ids)
  pool_all P x each [] = tt
  pool_all P x each (y ∷ ids) = by (is_live v kind.CommandBuffer y) (parent_of v y == x) refl refl (pool_all P x each ids)
    where
      by : (a b : Bool) → is_live v kind.CommandBuffer y ≡ a → (parent_of v y == x) ≡ b → AllByRecursion P (of_pool x ids) →
          AllByRecursion P (filter (λ cb. parent_of v cb == x) (cond a (y ∷ filter (is_live v kind.CommandBuffer) ids) (filter (is_live v kind.CommandBuffer) ids)))
      by true true a b more = subst (λ t. AllByRecursion P (cond t (y ∷ of_pool x ids) (of_pool x ids))) (sym b) (each y a b, more)
      by true false a b more = subst (λ t. AllByRecursion P (cond t (y ∷ of_pool x ids) (of_pool x ids))) (sym b) more
      by false b a e more = more

  -- ---- an object

  pub object_kept : (x parent : ℕ) (d : Detail) → v.live x ≡ Some (record { parent = parent; detail = d }) → keep.id x ≡ true → k x ≡ true →
      flat_map ke (object_events s x parent d) ≡ object_events t x parent d
  object_kept x parent (an_instance api) e o on = own_stays x o _ ((refl, refl), tt)
  object_kept x parent a_surface e o on = own_stays x o _ ((refl, refl), tt)
  object_kept x parent a_device e o on = own_stays x o _ ((refl, refl), tt)
  object_kept x parent a_queue e o on = own_stays x o _ ((refl, refl), tt)
  object_kept x parent (a_memory size) e o on =
      ap (λ b. (if b then AllocateMemory parent x size ∷ [] else []) ++ flat_map ke (fill_events s x size ++ map_event s parent x)) o
      ∙ ap (λ r. AllocateMemory parent x size ∷ r)
      (flat_map-append ke (fill_events s x size) (map_event s parent x)
      ∙ ap (λ l. l ++ flat_map ke (map_event s parent x)) (memory_kept x parent size e o)
      ∙ ap (λ r. fill_events t x size ++ r)
      (own_stays x o (map_event s parent x) (map_own x parent (v.mapped x))
      ∙ ap (λ r. option_map_or (λ (r : Range). MapMemory parent x r.offset r.length ∷ []) r []) (sym (mapped_only k v x on))))
  object_kept x parent (a_buffer size usage) e o on =
      own_stays x o _ ((refl, refl), when_own x (is_usable v x) _ (bind_buffer_own x parent (v.bound x)))
      ∙ ap (λ r. CreateBuffer parent x size usage ∷ r) (bind_same (BindBufferMemory parent x) x on)
  object_kept x parent (an_image format width height usage None) e o on =
      own_stays x o _ (
        (refl, refl),
        all_append (Own x) (bind_event s (BindImageMemory parent x) x) (layout_event s x)
            (when_own x (is_usable v x) _ (bind_image_own x parent (v.bound x)))
            (when_own x (is_usable v x && not (v.layout x == 0)) (InitImage x (v.layout x) [] ∷ [])
            ((ap (λ l. keep.id (option_map_or (λ (o : Object). if is_fetched o.detail then o.parent else x) l x)) e, refl), tt)),
      )
      ∙ ap (λ b. CreateImage parent x format width height usage ∷ b ++ layout_event s x) (bind_same (BindImageMemory parent x) x on)
      ∙ ap (λ l. CreateImage parent x format width height usage ∷ bind_event t (BindImageMemory parent x) x ++ l) (layout_same x on)
  object_kept x parent (an_image format width height usage (Some index)) e o on = refl
  object_kept x parent (a_swapchain surface images format width height usage) e o on =
      own_stays x o _ ((refl, refl), all_append (Own x) (fetch_event parent x (fetched v x)) _ (fetch_own x parent (fetched v x)) ((refl, refl), images_own x (image_size format width height)))
      ∙ ap (λ l. CreateSwapchainKHR parent x surface images format width height usage ∷ fetch_event parent x (fetched v x) ++ SetSwapchainState x l ∷ map (image_event s (image_size format width height)) (fetched v x))
      (marks_same x images on)
      ∙ ap (λ l. CreateSwapchainKHR parent x surface images format width height usage ∷ fetch_event parent x (fetched v x) ++ SetSwapchainState x (marks_of t x images) ∷ l)
      (images_same (image_size format width height) (fetched v x) (fetched_kept k v c x on))
      ∙ ap (λ l. CreateSwapchainKHR parent x surface images format width height usage ∷ fetch_event parent x l ++ SetSwapchainState x (marks_of t x images) ∷ map (image_event t (image_size format width height)) l)
      (sym (fetched_only k v c x on))
  object_kept x parent a_fence e o on = own_stays x o _ ((refl, refl), tt) ∙ ap (λ b. CreateFence parent x (mark b) ∷ []) (sym (signalled_only k v x on))
  object_kept x parent a_semaphore e o on =
      own_stays x o _ ((refl, refl), when_own x (v.signalled x) (SetSemaphoreState x 1 ∷ []) ((refl, refl), tt))
      ∙ ap (λ b. CreateSemaphore parent x ∷ when b (SetSemaphoreState x 1 ∷ [])) (sym (signalled_only k v x on))
  object_kept x parent (a_pool flags) e o on =
      ap (λ b. (if b then CreateCommandPool parent x flags ∷ [] else []) ++ flat_map ke (allocate_event parent x (of_pool x v.ids) ++ flat_map (record_in s) (of_pool x v.ids))) o
      ∙ ap (λ r. CreateCommandPool parent x flags ∷ r)
      (flat_map-append ke (allocate_event parent x (of_pool x v.ids)) (flat_map (record_in s) (of_pool x v.ids))
      ∙ ap (λ l. l ++ flat_map ke (flat_map (record_in s) (of_pool x v.ids))) (allocate_kept parent x o (of_pool x v.ids))
      ∙ ap (λ r. allocate_event parent x (filter keep.id (of_pool x v.ids)) ++ r)
      (recordings_kept (of_pool x v.ids)
      ∙ recordings_filtered (of_pool x v.ids) (pool_all (λ cb. keep.id cb ≡ true → k cb ≡ true) x (λ cb there up e. sym (live_id kind.CommandBuffer cb there) ∙ e) v.ids))
      ∙ ap (λ l. allocate_event parent x l ++ flat_map (record_in t) l) (sym (buffers_kept x v.ids)))
  object_kept x parent a_command_buffer e o on = refl

  pub object_goes : (x parent : ℕ) (d : Detail) → v.live x ≡ Some (record { parent = parent; detail = d }) → keep.id x ≡ false → flat_map ke (object_events s x parent d) ≡ []
  object_goes x parent (an_instance api) e o = own_goes x o (object_events s x parent (an_instance api)) ((refl, refl), tt)
  object_goes x parent a_surface e o = own_goes x o (object_events s x parent a_surface) ((refl, refl), tt)
  object_goes x parent a_device e o = own_goes x o (object_events s x parent a_device) ((refl, refl), tt)
  object_goes x parent a_queue e o = own_goes x o (object_events s x parent a_queue) ((refl, refl), tt)
  object_goes x parent (a_memory size) e o =
      ap (λ b. (if b then AllocateMemory parent x size ∷ [] else []) ++ flat_map ke (fill_events s x size ++ map_event s parent x)) o
      ∙ flat_map-append ke (fill_events s x size) (map_event s parent x)
      ∙ ap (λ l. l ++ flat_map ke (map_event s parent x)) (fills_go x size o)
      ∙ own_goes x o (map_event s parent x) (map_own x parent (v.mapped x))
  object_goes x parent (a_buffer size usage) e o = own_goes x o (object_events s x parent (a_buffer size usage)) ((refl, refl), when_own x (is_usable v x) _ (bind_buffer_own x parent (v.bound x)))
  object_goes x parent (an_image format width height usage None) e o =
      own_goes x o (object_events s x parent (an_image format width height usage None)) (
        (refl, refl),
        all_append (Own x) (bind_event s (BindImageMemory parent x) x) (layout_event s x)
            (when_own x (is_usable v x) _ (bind_image_own x parent (v.bound x)))
            (when_own x (is_usable v x && not (v.layout x == 0)) (InitImage x (v.layout x) [] ∷ [])
            ((ap (λ l. keep.id (option_map_or (λ (o : Object). if is_fetched o.detail then o.parent else x) l x)) e, refl), tt)),
      )
  object_goes x parent (an_image format width height usage (Some index)) e o = refl
  object_goes x parent (a_swapchain surface images format width height usage) e o =
      own_goes x o (object_events s x parent (a_swapchain surface images format width height usage)) ((refl, refl), all_append (Own x) (fetch_event parent x (fetched v x)) _ (fetch_own x parent (fetched v x)) ((refl, refl), images_own x (image_size format width height)))
  object_goes x parent a_fence e o = own_goes x o (object_events s x parent a_fence) ((refl, refl), tt)
  object_goes x parent a_semaphore e o = own_goes x o (object_events s x parent a_semaphore) ((refl, refl), when_own x (v.signalled x) (SetSemaphoreState x 1 ∷ []) ((refl, refl), tt))
  object_goes x parent (a_pool flags) e o =
      ap (λ b. (if b then CreateCommandPool parent x flags ∷ [] else []) ++ flat_map ke (allocate_event parent x (of_pool x v.ids) ++ flat_map (record_in s) (of_pool x v.ids))) o
      ∙ flat_map-append ke (allocate_event parent x (of_pool x v.ids)) (flat_map (record_in s) (of_pool x v.ids))
      ∙ ap (λ l. l ++ flat_map ke (flat_map (record_in s) (of_pool x v.ids))) (allocate_goes parent x o (of_pool x v.ids))
      ∙ recordings_kept (of_pool x v.ids)
      ∙ recordings_gone (of_pool x v.ids) (pool_all (λ cb. keep.id cb ≡ false) x (λ cb there up. none cb there up) v.ids)
    where
      none : (cb : ℕ) → is_live v kind.CommandBuffer cb ≡ true → (parent_of v cb == x) ≡ true → keep.id cb ≡ false
      none cb there up = by_test (keep.id cb ≡ false) (keep.id cb)
          (λ on. absurd (both_ways (keep.id x) o
          (same x (ap is_some e) ∙ ap k (sym (eqb-true (parent_of v cb) x up)) ∙ parent_kept k v c cb (sym (live_id kind.CommandBuffer cb there) ∙ on))))
          (λ off. off)
  object_goes x parent a_command_buffer e o = refl
