-- The steps of an event that names kept ids alone: they make, bind, map and record kept ids, and the answers for these alone give the same.
use Rattle.std.proofs.Common.{◌≡◌, ℕ, ◌+◌, ◌*◌, ◌-◌, Bool, true, false, refl, sym, ◌∙◌, ap, List, [], ◌∷◌, ◌++◌, map, flat_map, cond, if◌then◌else◌, ◌==◌, ◌&&◌, Option, Some, None, is_some}
use Rattle.std.specs.List.{AllByRecursion}
use Rattle.std.specs.Option.{option_map_or}
use mathlib.Core.Path.{fun_ext}
use Rattle.std.proofs.lemmas.Bool.{eqb-true}
use Rattle.gfx_types.specs.declared.names.Fault.TheVariants.{CommandState, LayoutDiffers}
use Rattle.gfx_types.specs.declared.lists.Barrier.{Barrier}
use Rattle.gfx_types.specs.declared.lists.Submit.{Submit}
use Rattle.gfx_types.specs.declared.lists.MixedRegion.{MixedRegion}
use Rattle.gfx_types.specs.declared.lists.ImageRegion.{ImageRegion}
use Rattle.gfx_model.specs.Events.{Event}
use Rattle.gfx_model.specs.Events.Event.{CreateInstance, GetDeviceQueue, MapMemory, AllocateCommandBuffers, FreeCommandBuffers, CmdPipelineBarrier, CmdFillBuffer, CmdUpdateBuffer, CmdCopyBuffer, CmdCopyImage, CmdCopyBufferToImage, CmdCopyImageToBuffer, CmdClearColorImage, CreateFence, ResetFences, QueueSubmit, CreateSwapchainKHR, GetSwapchainImagesKHR, AcquireNextImageKHR, QueuePresentKHR, InitImage, SetSwapchainState, SetSemaphoreState}
use Rattle.gfx_script_model.specs.Ids.{uses_of, defines_of}
use Rattle.gfx_model.specs.Steps.{Step, Object, Detail, Change, resources_of}
use Rattle.gfx_model.specs.Steps.Detail.{a_queue, a_command_buffer, an_image}
use Rattle.gfx_model.specs.Steps.Change.{put, fill, set_layout}
use Rattle.gfx_model.specs.Steps.Step.{taken, creates, ends, signals, unsignals, acquires, gives_back, changes, executed, presents, maps}
use Rattle.gfx_model.specs.Questions.{Buffer, texel_size}
use Rattle.gfx_model.specs.Views.{View, Window, window, is_one, is_queue, queue_of, fetched, size_of, format_at, width_of, height_of, usage_in, texel, detail_size, detail_format, detail_width, detail_height, detail_image_usage}
use Rattle.gfx_model.specs.Checks.{Turn, queue_fault, unless, broken, turns_fault, turns_of, is_executable, meets, layouts_of, layouts_after, but, first_broken, row_texels}
use Rattle.gfx_model.specs.Checks.Turn.{wait, execute, signal}
use Rattle.gfx_model.specs.Checks.Check.{in_turn}
use Rattle.gfx_model.specs.Table.{checks_of, place_of, row_of, whole}
use Rattle.gfx_model.specs.Effects.{steps_of, effect_of, steps_of_turn, changes_of_command, changes_of_buffer, inside_of, inside_both, fill_size, clear_word, buffer_copy, image_copy, upload, download, fetches, first_fetch, marks, signals_any, image_bytes_put, rows_copied}
use Rattle.gfx_model.proofs.Lists.{all_append, all_map, all_flat_map, all_along}
use Rattle.gfx_model.proofs.Covered.{first_none, unless_none}
use Rattle.gfx_laws.proofs.Lists.{all_before, all_behind, all_into_map}
use Rattle.gfx_laws.proofs.NewObjects.{all_pass}
use Rattle.gfx_laws.proofs.EventReady.{last_pass}
use Rattle.gfx_laws.specs.Lawful.{Passes}
use Rattle.gfx_lean_law.proofs.Only.{only, Keeps, KeepsCommands, IsClosed, KeepsStep}
use Rattle.gfx_lean_law.proofs.SomeItems.{find_none_in, find_some_in}
use Rattle.gfx_lean_law.proofs.Answers.{live_only, ask_only, buffer_only, one_only, window_only, fetched_only}
use Rattle.gfx_lean_law.proofs.Words.{KeepsTurn, kept_of_executable}
use Rattle.gfx_lean_law.proofs.Rows.{KeepsEvent, barrier_images, all_submits, in_all_turns}

-- ---- what the steps make, bind, map and record

module _ (k : ℕ → Bool) (v : View) where
  abbrev S : List Step → Type 0
  S ss = AllByRecursion (KeepsStep k) ss

  queue_kept : (t : Bool) (device queue : ℕ) → k device ≡ true → k queue ≡ true → S (cond t [] (creates queue device a_queue ∷ []))
  queue_kept true device queue d q = tt
  queue_kept false device queue d q = ((q, d, tt), tt)

  signal_kept : (t : Bool) (x : ℕ) → S (cond t (signals x ∷ []) [])
  signal_kept true x = (tt, tt)
  signal_kept false x = tt

  turn_kept : (t : Turn) → S (steps_of_turn v t)
  turn_kept (wait s) = (tt, tt)
  turn_kept (signal s) = (tt, tt)
  turn_kept (execute cb) = all_append (KeepsStep k) (map changes (changes_of_buffer v cb)) (executed cb ∷ []) (all_map (KeepsStep k) changes (λ c. tt) (changes_of_buffer v cb)) (tt, tt)

  fetches_kept : (swapchain i : ℕ) (xs : List ℕ) → k swapchain ≡ true → Keeps k xs → S (fetches v swapchain i xs)
  fetches_kept swapchain i [] s a = tt
  fetches_kept swapchain i (x ∷ xs) s a = ((a.0, s, tt), fetches_kept swapchain (i + 1) xs s a.1)

  first_kept : (swapchain : ℕ) (before xs : List ℕ) → k swapchain ≡ true → Keeps k xs → S (first_fetch before (fetches v swapchain 0 xs))
  first_kept swapchain [] xs s a = fetches_kept swapchain 0 xs s a
  first_kept swapchain (i ∷ before) xs s a = tt

  any_kept : (x : ℕ) → S (signals_any x)
  any_kept x = by (x == 0)
    where
      by : (t : Bool) → S (cond t [] (signals x ∷ []))
      by true = tt
      by false = (tt, tt)

  acquire_kept : (t : Bool) (swapchain index semaphore fence : ℕ) → S (cond t [] (acquires swapchain index ∷ signals_any semaphore ++ signals_any fence))
  acquire_kept true swapchain index semaphore fence = tt
  acquire_kept false swapchain index semaphore fence = (tt, all_append (KeepsStep k) (signals_any semaphore) (signals_any fence) (any_kept semaphore) (any_kept fence))

  marks_kept : (swapchain i : ℕ) (xs : List ℕ) → S (marks swapchain i xs)
  marks_kept swapchain i [] = tt
  marks_kept swapchain i (x ∷ xs) = (mark (x == 1), marks_kept swapchain (i + 1) xs)
    where
      mark : (t : Bool) → KeepsStep k (cond t (acquires swapchain i) (gives_back swapchain i))
      mark true = tt
      mark false = tt

  set_kept : (t : Bool) (x : ℕ) → S (cond t (signals x) (unsignals x) ∷ [])
  set_kept true x = (tt, tt)
  set_kept false x = (tt, tt)

  put_kept : (image : ℕ) (bytes : List ℕ) (d : Detail) → S (image_bytes_put d image bytes)
  put_kept image bytes (an_image format width height usage (Some index)) = (tt, tt)
  put_kept image bytes (an_image format width height usage None) = tt
  put_kept image bytes _ = tt

  image_kept : (image : ℕ) (bytes : List ℕ) (l : Option Object) → S (option_map_or (λ o. image_bytes_put o.detail image bytes) l [])
  image_kept image bytes None = tt
  image_kept image bytes (Some o) = put_kept image bytes o.detail

  pub effect_keeps : k 0 ≡ true → (e : Event) → Keeps k (uses_of 2 e) → Keeps k (defines_of 2 e) → S (effect_of v e)
  unfolding effect_of uses_of defines_of resources_of
  effect_keeps z (CreateInstance instance api) a b = ((b.0, z, tt), tt)
  effect_keeps z (GetDeviceQueue device queue) a b = queue_kept (is_some (queue_of v device)) device queue a.0 b.0
  effect_keeps z (MapMemory device memory offset size) a b = (a.1.0, tt)
  effect_keeps z (AllocateCommandBuffers device pool buffers) a b =
      all_into_map (KeepsStep k) (λ cb. creates cb pool a_command_buffer) buffers
      (all_along (λ x. k x ≡ true) (λ x. KeepsStep k (creates x pool a_command_buffer)) (λ x e. (e, a.1.0, tt)) buffers (all_before (λ x. k x ≡ true) buffers [] b))
  effect_keeps z (FreeCommandBuffers device pool buffers) a b = all_map (KeepsStep k) ends (λ x. tt) buffers
  effect_keeps z (CmdPipelineBarrier cb barriers) a b =
      (all_into_map (λ x. k x ≡ true) (λ (b : Barrier). b.image) barriers (barrier_images k barriers (all_before (λ x. k x ≡ true) _ [] a.1)), tt)
  effect_keeps z (CmdFillBuffer cb buffer offset size word) a b = ((a.1.0, tt), tt)
  effect_keeps z (CmdUpdateBuffer cb buffer offset bytes) a b = ((a.1.0, tt), tt)
  effect_keeps z (CmdCopyBuffer cb source target regions) a b = ((a.1.0, (a.1.1.0, tt)), tt)
  effect_keeps z (CmdCopyImage cb source source_layout target target_layout regions) a b = ((a.1.0, (a.1.1.0, tt)), tt)
  effect_keeps z (CmdCopyBufferToImage cb source target layout regions) a b = ((a.1.0, (a.1.1.0, tt)), tt)
  effect_keeps z (CmdCopyImageToBuffer cb source layout target regions) a b = ((a.1.0, (a.1.1.0, tt)), tt)
  effect_keeps z (CmdClearColorImage cb image layout c0 c1 c2 c3) a b = ((a.1.0, tt), tt)
  effect_keeps z (CreateFence device fence flags) a b = ((b.0, a.0, tt), signal_kept (flags == 1) fence)
  effect_keeps z (ResetFences device fences) a b = all_map (KeepsStep k) unsignals (λ x. tt) fences
  effect_keeps z (QueueSubmit queue submits fence) a b = all_flat_map (KeepsStep k) (steps_of_turn v) turn_kept (turns_of submits fence)
  effect_keeps z (CreateSwapchainKHR device swapchain surface images format width height usage) a b = ((b.0, a.0, a.1.0), tt)
  effect_keeps z (GetSwapchainImagesKHR device swapchain images) a b = first_kept swapchain (fetched v swapchain) images a.1.0 (all_before (λ x. k x ≡ true) images [] b)
  effect_keeps z (AcquireNextImageKHR device swapchain semaphore fence index answer) a b = acquire_kept (answer == 1) swapchain index semaphore fence
  effect_keeps z (QueuePresentKHR queue waits images) a b =
      all_append (KeepsStep k) _ (presents ∷ [])
      (all_append (KeepsStep k) _ _ (all_flat_map (KeepsStep k) (steps_of_turn v) turn_kept (map wait waits)) (all_map (KeepsStep k) (λ p. gives_back p.swapchain p.index) (λ p. tt) images)) (tt, tt)
  effect_keeps z (InitImage image layout bytes) a b = (tt, image_kept image bytes (v.live image))
  effect_keeps z (SetSwapchainState swapchain acquired) a b = marks_kept swapchain 0 acquired
  effect_keeps z (SetSemaphoreState semaphore signalled) a b = set_kept (signalled == 1) semaphore
  effect_keeps z _ a b = assumption (a, b)

-- ---- the same steps

module _ (k : ℕ → Bool) (v : View) (c : IsClosed k v) where
  abbrev w : View
  w = only k v

  w_window : (x : ℕ) → k x ≡ true → window w x ≡ window v x
  w_window x on = window_only k v c x on

  -- an image that is kept has the same steps between its rows
  w_width : (x : ℕ) → k x ≡ true → width_of w x ≡ width_of v x
  w_width x on = ask_only k v detail_width x on

  w_format : (x : ℕ) → k x ≡ true → format_at w x ≡ format_at v x
  w_format x on = ask_only k v detail_format x on

  w_texel : (x : ℕ) → k x ≡ true → texel w x ≡ texel v x
  w_texel x on = ap texel_size (w_format x on)

  -- the rows of copies, from the width of an image and the bytes of its texels
  abbrev uploaded : Window → Window → MixedRegion → ℕ → ℕ → List Change
  uploaded s t r width size =
      rows_copied t.place (t.offset + (r.y * width + r.x) * size) (width * size) s.place (s.offset + r.offset) (row_texels r.row r.width * size) (r.width * size) r.height

  abbrev downloaded : Window → Window → MixedRegion → ℕ → ℕ → List Change
  downloaded s t r width size =
      rows_copied t.place (t.offset + r.offset) (row_texels r.row r.width * size) s.place (s.offset + (r.y * width + r.x) * size) (width * size) (r.width * size) r.height

  abbrev copied : Window → Window → ImageRegion → ℕ → ℕ → ℕ → ℕ → List Change
  copied s t r from from_size to to_size =
      rows_copied t.place (t.offset + (r.to_y * to + r.to_x) * to_size) (to * to_size)
      s.place (s.offset + (r.from_y * from + r.from_x) * from_size) (from * from_size) (r.width * from_size) r.height

  upload_same : (image : ℕ) → k image ≡ true → (s t : Window) (r : MixedRegion) → upload w image s t r ≡ upload v image s t r
  upload_same image on s t r = ap (λ n. uploaded s t r n (texel w image)) (w_width image on) ∙ ap (uploaded s t r (width_of v image)) (w_texel image on)

  download_same : (image : ℕ) → k image ≡ true → (s t : Window) (r : MixedRegion) → download w image s t r ≡ download v image s t r
  download_same image on s t r = ap (λ n. downloaded s t r n (texel w image)) (w_width image on) ∙ ap (downloaded s t r (width_of v image)) (w_texel image on)

  image_same : (source target : ℕ) → k source ≡ true → k target ≡ true → (s t : Window) (r : ImageRegion) → image_copy w source target s t r ≡ image_copy v source target s t r
  image_same source target a b s t r =
      ap (λ n. copied s t r n (texel w source) (width_of w target) (texel w target)) (w_width source a)
      ∙ ap (λ n. copied s t r (width_of v source) n (width_of w target) (texel w target)) (w_texel source a)
      ∙ ap (λ n. copied s t r (width_of v source) (texel v source) n (texel w target)) (w_width target b)
      ∙ ap (copied s t r (width_of v source) (texel v source) (width_of v target)) (w_texel target b)

  command_same : (e : Event) → Keeps k (resources_of e) → changes_of_command w e ≡ changes_of_command v e
  unfolding changes_of_command resources_of
  command_same (CmdFillBuffer cb buffer offset size word) u =
      ap (λ o. inside_of o (λ r. fill r.place (r.offset + offset) (fill_size (size_of w buffer) offset size) word ∷ [])) (w_window buffer u.0)
      ∙ ap (λ n. inside_of (window v buffer) (λ r. fill r.place (r.offset + offset) (fill_size n offset size) word ∷ [])) (ask_only k v detail_size buffer u.0)
  command_same (CmdUpdateBuffer cb buffer offset bytes) u =
      ap (λ o. inside_of o (λ r. put r.place (r.offset + offset) bytes ∷ [])) (w_window buffer u.0)
  command_same (CmdCopyBuffer cb source target regions) u =
      ap (λ o. inside_both o (window w target) (λ s t. map (buffer_copy s t) regions)) (w_window source u.0)
      ∙ ap (λ o. inside_both (window v source) o (λ s t. map (buffer_copy s t) regions)) (w_window target u.1.0)
  command_same (CmdCopyImage cb source source_layout target target_layout regions) u =
      ap (λ o. inside_both o (window w target) (λ s t. flat_map (image_copy w source target s t) regions)) (w_window source u.0)
      ∙ ap (λ o. inside_both (window v source) o (λ s t. flat_map (image_copy w source target s t) regions)) (w_window target u.1.0)
      ∙ ap (λ f. inside_both (window v source) (window v target) (λ s t. flat_map (f s t) regions))
      (fun_ext (λ s. fun_ext (λ t. fun_ext (λ r. image_same source target u.0 u.1.0 s t r))))
  command_same (CmdCopyBufferToImage cb source target layout regions) u =
      ap (λ o. inside_both o (window w target) (λ s t. flat_map (upload w target s t) regions)) (w_window source u.0)
      ∙ ap (λ o. inside_both (window v source) o (λ s t. flat_map (upload w target s t) regions)) (w_window target u.1.0)
      ∙ ap (λ f. inside_both (window v source) (window v target) (λ s t. flat_map (f s t) regions))
      (fun_ext (λ s. fun_ext (λ t. fun_ext (λ r. upload_same target u.1.0 s t r))))
  command_same (CmdCopyImageToBuffer cb source layout target regions) u =
      ap (λ o. inside_both o (window w target) (λ s t. flat_map (download w source s t) regions)) (w_window source u.0)
      ∙ ap (λ o. inside_both (window v source) o (λ s t. flat_map (download w source s t) regions)) (w_window target u.1.0)
      ∙ ap (λ f. inside_both (window v source) (window v target) (λ s t. flat_map (f s t) regions))
      (fun_ext (λ s. fun_ext (λ t. fun_ext (λ r. download_same source u.0 s t r))))
  command_same (CmdClearColorImage cb image layout c0 c1 c2 c3) u =
      ap (λ o. inside_of o (λ r. fill r.place r.offset r.length (clear_word (format_at w image) c0 c1 c2 c3) ∷ [])) (w_window image u.0)
      ∙ ap (λ n. inside_of (window v image) (λ r. fill r.place r.offset r.length (clear_word n c0 c1 c2 c3) ∷ [])) (w_format image u.0)
  command_same _ u = refl

  commands_same : (cs : List Event) → KeepsCommands k cs → flat_map (changes_of_command w) cs ≡ flat_map (changes_of_command v) cs
  commands_same [] u = refl
  commands_same (e ∷ cs) u = ap (λ l. l ++ flat_map (changes_of_command w) cs) (command_same e u.0) ∙ ap (λ r. changes_of_command v e ++ r) (commands_same cs u.1)

  buffer_same : (cb : ℕ) → k cb ≡ true → KeepsCommands k (v.buffer cb).commands → changes_of_buffer w cb ≡ changes_of_buffer v cb
  buffer_same cb on u = ap (λ (b : Buffer). flat_map (changes_of_command w) b.commands) (buffer_only k v cb on) ∙ commands_same (v.buffer cb).commands u

  turns_same : (s : ℕ → Bool) (f : ℕ → ℕ) (ts : List Turn) → AllByRecursion (KeepsTurn k) ts → turns_fault v s f ts ≡ None →
      flat_map (steps_of_turn w) ts ≡ flat_map (steps_of_turn v) ts
  unfolding turns_fault
  turns_same s f [] u e = refl
  turns_same s f (wait x ∷ ts) u e = ap (λ r. steps_of_turn v (wait x) ++ r) (turns_same (but x false s) f ts u.1 (first_none _ _ e).1)
  turns_same s f (signal x ∷ ts) u e = ap (λ r. steps_of_turn v (signal x) ++ r) (turns_same (but x true s) f ts u.1 (first_none _ _ e).1)
  turns_same s f (execute cb ∷ ts) u e =
      let asked = flat_map layouts_of (v.buffer cb).commands in
      let both = first_none (unless (is_executable (v.buffer cb).state) CommandState) _ e in
      let rest = first_none (unless (meets f asked) LayoutDiffers) _ both.1 in
      let run = kept_of_executable _ (unless_none _ _ both.0) in
      ap (λ l. (map changes l ++ executed cb ∷ []) ++ flat_map (steps_of_turn w) ts) (buffer_same cb u.0 (c.commands cb u.0 run))
      ∙ ap (λ r. (map changes (changes_of_buffer v cb) ++ executed cb ∷ []) ++ r) (turns_same s (layouts_after f asked) ts u.1 rest.1)

  waits_same : (xs : List ℕ) → flat_map (steps_of_turn w) (map wait xs) ≡ flat_map (steps_of_turn v) (map wait xs)
  waits_same [] = refl
  waits_same (x ∷ xs) = ap (λ r. steps_of_turn v (wait x) ++ r) (waits_same xs)

  -- the images of a swapchain, from what it says of them
  abbrev made_image : ℕ → ℕ → ℕ → ℕ → ℕ → ℕ → ℕ → Step
  made_image x swapchain i format width height usage = creates x swapchain (an_image format width height usage (Some i))

  fetches_same : (swapchain i : ℕ) (xs : List ℕ) → k swapchain ≡ true → fetches w swapchain i xs ≡ fetches v swapchain i xs
  fetches_same swapchain i [] on = refl
  fetches_same swapchain i (x ∷ xs) on =
      ap (λ n. made_image x swapchain i n (width_of w swapchain) (height_of w swapchain) (usage_in w swapchain) ∷ fetches w swapchain (i + 1) xs) (ask_only k v detail_format swapchain on)
      ∙ ap (λ n. made_image x swapchain i (format_at v swapchain) n (height_of w swapchain) (usage_in w swapchain) ∷ fetches w swapchain (i + 1) xs) (ask_only k v detail_width swapchain on)
      ∙ ap (λ n. made_image x swapchain i (format_at v swapchain) (width_of v swapchain) n (usage_in w swapchain) ∷ fetches w swapchain (i + 1) xs) (ask_only k v detail_height swapchain on)
      ∙ ap (λ n. made_image x swapchain i (format_at v swapchain) (width_of v swapchain) (height_of v swapchain) n ∷ fetches w swapchain (i + 1) xs) (ask_only k v detail_image_usage swapchain on)
      ∙ ap (λ r. made_image x swapchain i (format_at v swapchain) (width_of v swapchain) (height_of v swapchain) (usage_in v swapchain) ∷ r) (fetches_same swapchain (i + 1) xs on)

  -- a device has its queue in both, or none in either
  queue_same : (device queue : ℕ) → k queue ≡ true → queue_fault v queue (queue_of v device) ≡ None → is_some (queue_of w device) ≡ is_some (queue_of v device)
  queue_same device queue on e = by (queue_of v device) refl e
    where
      by : (q : Option ℕ) → queue_of v device ≡ q → queue_fault v queue q ≡ None → is_some (queue_of w device) ≡ is_some (queue_of v device)
      by (Some q) is e =
          ap (λ (o : Option ℕ). is_some o)
          (find_some_in k (is_one w (λ o. o.parent == device && is_queue o.detail)) (is_one v (λ o. o.parent == device && is_queue o.detail))
          (λ x on. one_only k v (λ o. o.parent == device && is_queue o.detail) x on) q (ap k (eqb-true q queue (unless_none _ _ e)) ∙ on) v.ids is
          ∙ sym is)
      by None is e =
          ap (λ (o : Option ℕ). is_some o)
          (find_none_in k (is_one w (λ o. o.parent == device && is_queue o.detail)) (is_one v (λ o. o.parent == device && is_queue o.detail))
          (λ x on. one_only k v (λ o. o.parent == device && is_queue o.detail) x on) v.ids is
          ∙ sym is)

  effect_same : (e : Event) → Keeps k (uses_of 2 e) → Keeps k (defines_of 2 e) → AllByRecursion (Passes v) (row_of e) → effect_of w e ≡ effect_of v e
  unfolding effect_of row_of broken uses_of defines_of
  effect_same (GetDeviceQueue device queue) a b p = ap (λ t. if t then [] else creates queue device a_queue ∷ []) (queue_same device queue b.0 p.1.0)
  effect_same (MapMemory device memory offset size) a b p =
      ap (λ n. maps memory offset (if size == whole then n - offset else size) ∷ []) (ask_only k v detail_size memory a.1.0)
  effect_same (QueueSubmit queue submits fence) a b p =
      turns_same v.signalled v.layout (turns_of submits fence)
      (in_all_turns k submits fence (all_submits k submits (all_before (λ x. k x ≡ true) _ (fence ∷ []) a.1))
      (all_behind (λ x. k x ≡ true) (flat_map (λ (s : Submit). s.waits ++ s.cbs ++ s.signals) submits) (fence ∷ []) a.1).0)
      (last_pass v _ _ (in_turn (turns_of submits fence)) p.1.1.1)
  effect_same (GetSwapchainImagesKHR device swapchain images) a b p =
      ap (λ l. first_fetch l (fetches w swapchain 0 images)) (fetched_only k v c swapchain a.1.0) ∙ ap (first_fetch (fetched v swapchain)) (fetches_same swapchain 0 images a.1.0)
  effect_same (QueuePresentKHR queue waits images) a b p =
      ap (λ r. r ++ map (λ p. gives_back p.swapchain p.index) images ++ presents ∷ []) (waits_same waits)
  effect_same (InitImage image layout bytes) a b p =
      ap (λ l. changes (set_layout image layout) ∷ option_map_or (λ (o : Object). image_bytes_put o.detail image bytes) l []) (live_only k v image a.0)
  effect_same (CreateInstance instance api) a b p = refl
  effect_same _ a b p = refl

-- an event without a fault takes the same steps
pub steps_only : (k : ℕ → Bool) (v : View) → IsClosed k v → (e : Event) → KeepsEvent k e → first_broken v (checks_of e) ≡ None → steps_of (only k v) e ≡ steps_of v e
steps_only k v c e kept none =
    ap (λ r. taken ∷ r) (effect_same k v c e kept.0 kept.1 (all_behind (Passes v) (place_of e) (row_of e) (all_pass v (checks_of e) none)))
