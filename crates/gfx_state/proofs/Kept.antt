-- What is kept of a section, object by object.
use Rattle.std.proofs.Common.{◌≡◌, ℕ, ◌==◌, Bool, true, false, not, ◌&&◌, if◌then◌else◌, cond, List, [], ◌∷◌, ◌++◌, map, filter, flat_map, Option, Some, None, refl, ap, sym, ◌∙◌, append-nil}
use Rattle.std.specs.List.{AllByRecursion, range_with_len}
use Rattle.std.specs.Option.{option_map_or}
use Rattle.std.proofs.lemmas.Bool.{eqb-true, and_parts}
use Rattle.std.proofs.lemmas.Grind.{flat_map-append}
use Rattle.gfx_types.specs.declared.op.Place.TheVariants as place
use Rattle.gfx_model.specs.Events.{Event}
use Rattle.gfx_model.specs.Events.Event.{AllocateMemory, FillMemory, MapMemory, BindBufferMemory, BindImageMemory, InitImage, SetSemaphoreState, CreateCommandPool, EndCommandBuffer, CmdPipelineBarrier, CmdFillBuffer, CmdUpdateBuffer, CmdCopyBuffer, CmdCopyImage, CmdCopyBufferToImage, CmdCopyImageToBuffer, CmdClearColorImage, BeginSection, EndSection}
use Rattle.gfx_model.specs.Steps.{Object, Detail, Change}
use Rattle.gfx_model.specs.Steps.Detail.{an_instance, a_surface, a_device, a_queue, a_memory, a_buffer, an_image, a_pool, a_command_buffer, a_fence, a_semaphore, a_swapchain}
use Rattle.gfx_model.specs.Questions.{Binding, Range, Buffer, State, passes, image_size, is_kept}
use Rattle.gfx_model.specs.Views.{View, is_one, is_usable, fetched, has_index, images_in}
use Rattle.gfx_model.specs.Covers.{is_fetched}
use Rattle.gfx_model.specs.Bytes.{byte, bytes_at}
use Rattle.gfx_model.specs.Section.{Known, Span, fills_of, when, fill_events, map_event, bind_event, layout_event, image_event, fetch_event, allocate_event, buffers_of, live_ids, object_events, group, section_order}
use Rattle.gfx_model.specs.Table.{cb_of}
use Rattle.gfx_model.proofs.Lists.{all_append, all_map, all_along, all_flat_map}
use Rattle.gfx_laws.proofs.Lists.{all_into_map}
use Rattle.gfx_laws.proofs.SameFrames.{all_filter}
use Rattle.gfx_objects.specs.declared.object.Detail.{Detail as Kept}
use Rattle.gfx_objects.specs.declared.object.Detail.TheVariants as kept
use Rattle.gfx_objects.specs.Object.{detail_of}
use Rattle.gfx_feature_model.specs.Lean.{Keep, subject_of, allocated, kept_block, kept_events}
use Rattle.gfx_state.specs.Pools.{recorded_anew}
use Rattle.gfx_state.specs.Sections.{everything, kept_object, kept_under, kept_at, kept_group, kept_by}

-- the commands of a recording or executable buffer name it
abbrev pub NameTheirs : (ℕ → Buffer) → Type 0
NameTheirs buffer = (cb : ℕ) → is_kept (buffer cb).state ≡ true → ((cb == 0) ≡ false) × AllByRecursion (λ c. cb_of c ≡ cb) (buffer cb).commands

-- ---- one object

-- what is kept of an object without parts is all of it
pub kept_whole : (k : Keep) (s : Known) (x parent : ℕ) (d e : Detail) → d ≡ e → object_events s x parent e ≡ kept_object k s x parent e → object_events s x parent d ≡ kept_object k s x parent d
kept_whole k s x parent d e is same = ap (object_events s x parent) is ∙ same ∙ sym (ap (kept_object k s x parent) is)

-- nothing stays of one that is not kept and no pool
pub none_under : (k : Keep) (s : Known) (x : ℕ) (d : Kept) → ((flags : ℕ) → d ≡ kept.Pool flags → ⊥) → kept_under k s x (detail_of d) ≡ []
none_under k s x (kept.Pool flags) other = absurd (other flags refl)
none_under k s x _ other = refl

-- ---- what is kept of the section

module _ (k : Keep) (v : View) (es : List Change) (theirs : NameTheirs v.buffer) where
  abbrev s : Known
  s = record { answers = v; es = es }

  abbrev ke : Event → List Event
  ke e = kept_events v k e

  -- the object of a block is kept
  abbrev asks : Event → Bool
  asks e = option_map_or k.id (subject_of v e) true

  -- a block of x that has no parts
  abbrev Own : ℕ → Event → Type 0
  Own x e = (asks e ≡ k.id x) × (kept_block k e ≡ e ∷ [])

  -- blocks of one object are kept or left together
  of_one : (b : Bool) (xs : List Event) → AllByRecursion (λ e. asks e ≡ b) xs → flat_map ke xs ≡ when b (flat_map (kept_block k) xs)
  of_one true [] a = refl
  of_one true (e ∷ xs) a = ap (λ t. (if t then kept_block k e else []) ++ flat_map ke xs) a.0 ∙ ap (λ r. kept_block k e ++ r) (of_one true xs a.1)
  of_one false [] a = refl
  of_one false (e ∷ xs) a = ap (λ t. (if t then kept_block k e else []) ++ flat_map ke xs) a.0 ∙ of_one false xs a.1

  plain : (xs : List Event) → AllByRecursion (λ e. kept_block k e ≡ e ∷ []) xs → flat_map (kept_block k) xs ≡ xs
  plain [] a = refl
  plain (e ∷ xs) a = ap (λ l. l ++ flat_map (kept_block k) xs) a.0 ∙ ap (λ r. e ∷ r) (plain xs a.1)

  whole : (x : ℕ) (xs : List Event) → AllByRecursion (Own x) xs → flat_map ke xs ≡ when (k.id x) xs
  whole x xs a =
      of_one (k.id x) xs (all_along (Own x) (λ e. asks e ≡ k.id x) (λ e o. o.0) xs a)
      ∙ ap (when (k.id x)) (plain xs (all_along (Own x) (λ e. kept_block k e ≡ e ∷ []) (λ e o. o.1) xs a))

  -- ---- the parts of an object's blocks

  when_own : (x : ℕ) (b : Bool) (xs : List Event) → AllByRecursion (Own x) xs → AllByRecursion (Own x) (when b xs)
  when_own x true xs a = a
  when_own x false xs a = tt

  bind_own : (x : ℕ) (bind : ℕ → ℕ → Event) → ((m o : ℕ) → Own x (bind m o)) → AllByRecursion (Own x) (bind_event s bind x)
  bind_own x bind each = when_own x (is_usable v x) _ (by (v.bound x))
    where
      by : (b : Option Binding) → AllByRecursion (Own x) (option_map_or (λ b. bind b.memory b.offset ∷ []) b [])
      by None = tt
      by (Some b) = (each b.memory b.offset, tt)

  fetch_own : (x parent : ℕ) (images : List ℕ) → AllByRecursion (Own x) (fetch_event parent x images)
  fetch_own x parent [] = tt
  fetch_own x parent (i ∷ is) = ((refl, refl), tt)

  -- an image of a swapchain is of it
  abbrev IsOf : ℕ → ℕ → Type 0
  IsOf swapchain image = option_map_or (λ (o : Object). if is_fetched o.detail then o.parent else image) (v.live image) image ≡ swapchain

  fetched_of : (swapchain i x : ℕ) → is_one v (λ o. o.parent == swapchain && has_index i o.detail) x ≡ true → IsOf swapchain x
  fetched_of swapchain i x e = by (v.live x) e
    where
      by_detail : (p : ℕ) (d : Detail) → (p == swapchain) ≡ true → has_index i d ≡ true → (if is_fetched d then p else x) ≡ swapchain
      by_detail p (an_image f w h u (Some index)) up at = eqb-true p swapchain up
      by_detail p (an_image f w h u None) up at = absurd (cc)
      by_detail p _ up at = absurd (cc)

      by : (l : Option Object) → passes (λ o. o.parent == swapchain && has_index i o.detail) l ≡ true → option_map_or (λ (o : Object). if is_fetched o.detail then o.parent else x) l x ≡ swapchain
      by None e = absurd (cc)
      by (Some o) e = let both = and_parts (o.parent == swapchain) (has_index i o.detail) e in by_detail o.parent o.detail both.0 both.1

  images_own : (x size : ℕ) → AllByRecursion (Own x) (map (image_event s size) (fetched v x))
  images_own x size =
      all_into_map (Own x) (image_event s size) (fetched v x)
      (all_along (IsOf x) (λ i. Own x (image_event s size i)) (λ i e. (ap k.id e, refl)) (fetched v x)
      (all_flat_map (IsOf x) _ (λ i. all_filter (IsOf x) _ (fetched_of x i) v.ids) (range_with_len 0 (images_in v x))))

  map_plain : (x parent : ℕ) → flat_map (kept_block k) (map_event s parent x) ≡ map_event s parent x
  map_plain x parent = by (v.mapped x)
    where
      by : (r : Option Range) → flat_map (kept_block k) (option_map_or (λ r. MapMemory parent x r.offset r.length ∷ []) r []) ≡ option_map_or (λ r. MapMemory parent x r.offset r.length ∷ []) r []
      by None = refl
      by (Some r) = refl

  map_of : (x parent : ℕ) (r : Option Range) → AllByRecursion (λ e. asks e ≡ k.id x) (option_map_or (λ r. MapMemory parent x r.offset r.length ∷ []) r [])
  map_of x parent None = tt
  map_of x parent (Some r) = (refl, tt)

  -- ---- command buffers

  command_own : (cb : ℕ) → (cb == 0) ≡ false → (e : Event) → cb_of e ≡ cb → Own cb e
  command_own cb there (CmdPipelineBarrier i barriers) is = (ap k.id is, refl)
  command_own cb there (CmdFillBuffer i buffer offset size word) is = (ap k.id is, refl)
  command_own cb there (CmdUpdateBuffer i buffer offset bytes) is = (ap k.id is, refl)
  command_own cb there (CmdCopyBuffer i source target regions) is = (ap k.id is, refl)
  command_own cb there (CmdCopyImage i source source_layout target target_layout regions) is = (ap k.id is, refl)
  command_own cb there (CmdCopyBufferToImage i source target layout regions) is = (ap k.id is, refl)
  command_own cb there (CmdCopyImageToBuffer i source layout target regions) is = (ap k.id is, refl)
  command_own cb there (CmdClearColorImage i image layout c0 c1 c2 c3) is = (ap k.id is, refl)
  command_own cb there _ is = absurd (let e : (cb == 0) ≡ true = ap (λ n. n == 0) (sym is) in let no : true ≡ false = sym e ∙ there in cc)

  commands_own : (cb : ℕ) → is_kept (v.buffer cb).state ≡ true → AllByRecursion (Own cb) (v.buffer cb).commands
  commands_own cb kept =
      let own = theirs cb kept in
      all_along (λ c. cb_of c ≡ cb) (Own cb) (λ c is. command_own cb own.0 c is) (v.buffer cb).commands own.1

  recording_own : (cb : ℕ) → AllByRecursion (Own cb) (recorded_anew v.buffer cb)
  recording_own cb = by (v.buffer cb).state refl
    where
      by : (st : State) → (v.buffer cb).state ≡ st → AllByRecursion (Own cb) (recorded_anew (λ x. record (v.buffer x) { state = st }) cb)
      by State.recording e = ((refl, refl), commands_own cb (ap is_kept e))
      by State.executable e = ((refl, refl), all_append (Own cb) (v.buffer cb).commands (EndCommandBuffer cb ∷ []) (commands_own cb (ap is_kept e)) ((refl, refl), tt))
      by State.initial e = tt
      by State.invalid e = tt

  recordings_kept : (cbs : List ℕ) → flat_map ke (flat_map (recorded_anew v.buffer) cbs) ≡ flat_map (recorded_anew v.buffer) (filter k.id cbs)
  recordings_kept [] = refl
  recordings_kept (cb ∷ cbs) =
      flat_map-append ke (recorded_anew v.buffer cb) (flat_map (recorded_anew v.buffer) cbs)
      ∙ ap (λ l. l ++ flat_map ke (flat_map (recorded_anew v.buffer) cbs)) (whole cb (recorded_anew v.buffer cb) (recording_own cb))
      ∙ ap (λ r. when (k.id cb) (recorded_anew v.buffer cb) ++ r) (recordings_kept cbs)
      ∙ by (k.id cb)
    where
      by : (b : Bool) → when b (recorded_anew v.buffer cb) ++ flat_map (recorded_anew v.buffer) (filter k.id cbs)
          ≡ flat_map (recorded_anew v.buffer) (cond b (cb ∷ filter k.id cbs) (filter k.id cbs))
      by true = refl
      by false = refl

  allocate_kept : (parent x : ℕ) (cbs : List ℕ) → flat_map ke (allocate_event parent x cbs) ≡ when (k.id x) (allocate_event parent x (filter k.id cbs))
  allocate_kept parent x [] = whole x [] tt
  allocate_kept parent x (cb ∷ cbs) = append-nil (when (k.id x) (allocated parent x (filter k.id (cb ∷ cbs)))) ∙ ap (when (k.id x)) (same (filter k.id (cb ∷ cbs)))
    where
      same : (l : List ℕ) → allocated parent x l ≡ allocate_event parent x l
      same [] = refl
      same (y ∷ ys) = refl

  -- ---- an object

  object_kept : (x parent : ℕ) (d : Detail) → v.live x ≡ Some (record { parent = parent; detail = d })
      → flat_map ke (object_events s x parent d) ≡ (if k.id x then kept_object k s x parent d else kept_under k s x d)
  object_kept x parent (an_instance api) live = whole x _ ((refl, refl), tt)
  object_kept x parent a_surface live = whole x _ ((refl, refl), tt)
  object_kept x parent a_device live = whole x _ ((refl, refl), tt)
  object_kept x parent a_queue live = whole x _ ((refl, refl), tt)
  object_kept x parent (a_memory size) live =
      of_one (k.id x) (AllocateMemory parent x size ∷ fill_events s x size ++ map_event s parent x) (
        refl,
        all_append (λ e. asks e ≡ k.id x) (fill_events s x size) (map_event s parent x)
            (all_map (λ e. asks e ≡ k.id x) (λ f. FillMemory x f.at (bytes_at es (place.Memory x) f.at f.length)) (λ f. refl) (fills_of (byte es (place.Memory x)) size))
            (map_of x parent (v.mapped x)),
      )
      ∙ ap (λ l. when (k.id x) (AllocateMemory parent x size ∷ l))
      (flat_map-append (kept_block k) (fill_events s x size) (map_event s parent x) ∙ ap (λ r. flat_map (kept_block k) (fill_events s x size) ++ r) (map_plain x parent))
  object_kept x parent (a_buffer size usage) live = whole x _ ((refl, refl), bind_own x (BindBufferMemory parent x) (λ m o. (refl, refl)))
  object_kept x parent (an_image format width height usage None) live =
      whole x _ (
        (refl, refl),
        all_append (Own x) (bind_event s (BindImageMemory parent x) x) (layout_event s x) (bind_own x (BindImageMemory parent x) (λ m o. (refl, refl)))
            (when_own x (is_usable v x && not (v.layout x == 0)) (InitImage x (v.layout x) [] ∷ [])
            ((ap (λ l. k.id (option_map_or (λ (o : Object). if is_fetched o.detail then o.parent else x) l x)) live, refl), tt)),
      )
  object_kept x parent (an_image format width height usage (Some index)) live = whole x [] tt
  object_kept x parent (a_swapchain surface images format width height usage) live =
      whole x _ ((refl, refl), all_append (Own x) (fetch_event parent x (fetched v x)) _ (fetch_own x parent (fetched v x)) ((refl, refl), images_own x (image_size format width height)))
  object_kept x parent a_fence live = whole x _ ((refl, refl), tt)
  object_kept x parent a_semaphore live = whole x _ ((refl, refl), when_own x (v.signalled x) (SetSemaphoreState x 1 ∷ []) ((refl, refl), tt))
  object_kept x parent (a_pool flags) live =
      let cbs = buffers_of s x in
      ap (λ r. when (k.id x) (CreateCommandPool parent x flags ∷ []) ++ r)
      (flat_map-append ke (allocate_event parent x cbs) (flat_map (recorded_anew v.buffer) cbs)
      ∙ ap (λ l. l ++ flat_map ke (flat_map (recorded_anew v.buffer) cbs)) (allocate_kept parent x cbs)
      ∙ ap (λ r. when (k.id x) (allocate_event parent x (filter k.id cbs)) ++ r) (recordings_kept cbs))
      ∙ by (k.id x)
    where
      by : (b : Bool) → when b (CreateCommandPool parent x flags ∷ []) ++ (when b (allocate_event parent x (filter k.id (buffers_of s x))) ++ flat_map (recorded_anew v.buffer) (filter k.id (buffers_of s x)))
          ≡ (if b then kept_object k s x parent (a_pool flags) else kept_under k s x (a_pool flags))
      by true = refl
      by false = refl
  object_kept x parent a_command_buffer live = whole x [] tt

  at_kept : (x : ℕ) → flat_map ke (option_map_or (λ o. object_events s x o.parent o.detail) (v.live x) []) ≡ kept_at k s x
  at_kept x = by (v.live x) refl
    where
      by : (l : Option Object) → v.live x ≡ l → flat_map ke (option_map_or (λ o. object_events s x o.parent o.detail) l [])
          ≡ option_map_or (λ o. if k.id x then kept_object k s x o.parent o.detail else kept_under k s x o.detail) l []
      by None live = refl
      by (Some o) live = object_kept x o.parent o.detail live

  -- ---- all objects

  each_kept : {X : Type 0} (f g : X → List Event) → ((x : X) → flat_map ke (f x) ≡ g x) → (xs : List X) → flat_map ke (flat_map f xs) ≡ flat_map g xs
  each_kept f g one [] = refl
  each_kept f g one (x ∷ xs) = flat_map-append ke (f x) (flat_map f xs) ∙ ap (λ l. l ++ flat_map ke (flat_map f xs)) (one x) ∙ ap (λ r. g x ++ r) (each_kept f g one xs)

  pub section_kept : (n : ℕ) → flat_map ke (BeginSection n ∷ flat_map (group s) section_order ++ EndSection n ∷ []) ≡ kept_by k s n
  section_kept n =
      ap (λ r. BeginSection n ∷ r)
      (flat_map-append ke (flat_map (group s) section_order) (EndSection n ∷ [])
      ∙ ap (λ l. l ++ EndSection n ∷ []) (each_kept (group s) (kept_group k s) (λ kind. each_kept _ (kept_at k s) at_kept _) section_order))

-- ---- where all is kept

all_there : (xs : List ℕ) → filter (λ x. true) xs ≡ xs
all_there [] = refl
all_there (x ∷ xs) = ap (λ r. x ∷ r) (all_there xs)

module _ (s : Known) where
  all_fills : (x : ℕ) (fs : List Span) → flat_map (kept_block everything) (map (λ f. FillMemory x f.at (bytes_at s.es (place.Memory x) f.at f.length)) fs)
      ≡ map (λ f. FillMemory x f.at (bytes_at s.es (place.Memory x) f.at f.length)) fs
  all_fills x [] = refl
  all_fills x (f ∷ fs) = ap (λ r. FillMemory x f.at (bytes_at s.es (place.Memory x) f.at f.length) ∷ r) (all_fills x fs)

  object_all : (x parent : ℕ) (d : Detail) → kept_object everything s x parent d ≡ object_events s x parent d
  object_all x parent (a_memory size) = ap (λ l. AllocateMemory parent x size ∷ l ++ map_event s parent x) (all_fills x (fills_of (byte s.es (place.Memory x)) size))
  object_all x parent (a_pool flags) =
      ap (λ cbs. CreateCommandPool parent x flags ∷ allocate_event parent x cbs ++ flat_map (recorded_anew s.answers.buffer) cbs) (all_there (buffers_of s x))
  object_all x parent _ = refl

  at_all : (x : ℕ) → kept_at everything s x ≡ option_map_or (λ o. object_events s x o.parent o.detail) (s.answers.live x) []
  at_all x = by (s.answers.live x)
    where
      by : (l : Option Object) → option_map_or (λ o. kept_object everything s x o.parent o.detail) l [] ≡ option_map_or (λ o. object_events s x o.parent o.detail) l []
      by None = refl
      by (Some o) = object_all x o.parent o.detail

  pub all_kept : (n : ℕ) → kept_by everything s n ≡ BeginSection n ∷ flat_map (group s) section_order ++ EndSection n ∷ []
  all_kept n = ap (λ (f : ℕ → List Event). BeginSection n ∷ flat_map (λ kind. flat_map f (live_ids s.answers kind)) section_order ++ EndSection n ∷ []) (λ i x. (at_all x) i)
