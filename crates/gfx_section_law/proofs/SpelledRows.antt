-- The steps of an event that has a spelling.
use Rattle.std.proofs.Common.{◌≡◌, ℕ, ◌+◌, ◌*◌, ◌<◌, Bool, true, false, cond, ◌==◌, List, [], ◌∷◌, ◌++◌, map, flat_map, Option, Some, None, is_some, refl, arith}
use Rattle.std.specs.Prelude.{◌^◌}
use Rattle.std.specs.List.{AllByRecursion, range_with_len}
use Rattle.std.specs.Option.{option_map_or}
use Rattle.gfx_types.specs.declared.op.Place.{Place}
use Rattle.gfx_model.specs.Events.{Event}
use Rattle.gfx_model.specs.Spelling.{FieldFits, HasSpelling, fields_of, id_fields}
use Rattle.gfx_model.specs.Steps.{Step, Object, Detail, Change}
use Rattle.gfx_model.specs.Steps.Step.{creates, ends, changes, executed, signals, unsignals, acquires, gives_back, presents}
use Rattle.gfx_model.specs.Steps.Change.{put, fill, copy, set_layout}
use Rattle.gfx_model.specs.Steps.Detail.{an_image, a_swapchain, a_command_buffer, a_queue}
use Rattle.gfx_model.specs.Questions.{executed_changes, live, bound, buffer}
use Rattle.gfx_model.specs.Views.{View, Window, view_of, window, ask, detail_format, detail_width, detail_height, detail_image_usage, fetched, queue_of}
use Rattle.gfx_model.specs.Checks.{Turn, turns_of}
use Rattle.gfx_model.specs.Checks.Turn.{wait, execute, signal}
use Rattle.gfx_model.specs.Bytes.{byte}
use Rattle.gfx_model.specs.Effects.{effect_of, steps_of, fetches, first_fetch, steps_of_turn, changes_of_buffer, changes_of_command, signals_any, marks, image_bytes_put, inside_of, inside_both, rows_copied, barrier_change, buffer_copy, image_copy, upload, download}
use Rattle.gfx_model.specs.History.{steps, view}
use Rattle.gfx_model.specs.History as history
use Rattle.gfx_model.proofs.Lists.{all_append, all_map, all_flat_map}
use Rattle.gfx_section_law.specs.Spelled.{DetailFits, IsSpelled, SpelledStep}
use Rattle.gfx_section_law.proofs.Spelled.{spelled_onto}

if_list : (P : Step → Type 0) (t : Bool) (xs ys : List Step) → AllByRecursion P xs → AllByRecursion P ys → AllByRecursion P (cond t xs ys)
if_list P true xs ys a b = a
if_list P false xs ys a b = b

if_step : (P : Step → Type 0) (t : Bool) (x y : Step) → P x → P y → P (cond t x y)
if_step P true x y a b = a
if_step P false x y a b = b

-- ---- changes

abbrev SpelledChange : Change → Type 0
SpelledChange (put at offset bytes) = AllByRecursion (λ b. b < 256) bytes
SpelledChange _ = Unit {0}

into_steps : (m : ℕ) (cs : List Change) → AllByRecursion SpelledChange cs → AllByRecursion (SpelledStep m) (map changes cs)
into_steps m [] a = tt
into_steps m (put at offset bytes ∷ cs) a = (a.0, into_steps m cs a.1)
into_steps m (fill at offset n word ∷ cs) a = (tt, into_steps m cs a.1)
into_steps m (copy to o s so n ∷ cs) a = (tt, into_steps m cs a.1)
into_steps m (set_layout i l ∷ cs) a = (tt, into_steps m cs a.1)

rows_spelled : (to : Place) (a b : ℕ) (source : Place) (c d n rows : ℕ) → AllByRecursion SpelledChange (rows_copied to a b source c d n rows)
rows_spelled to a b source c d n rows = all_map SpelledChange (λ k. copy to (a + k * b) source (c + k * d) n) (λ k. tt) (range_with_len 0 rows)

inside_spelled : (w : Option Window) (f : Window → List Change) → ((x : Window) → AllByRecursion SpelledChange (f x)) → AllByRecursion SpelledChange (inside_of w f)
inside_spelled None f each = tt
inside_spelled (Some x) f each = each x

both_spelled : (s t : Option Window) (f : Window → Window → List Change) → ((x y : Window) → AllByRecursion SpelledChange (f x y)) → AllByRecursion SpelledChange (inside_both s t f)
both_spelled s t f each = inside_spelled s (λ a. inside_of t (f a)) (λ a. inside_spelled t (f a) (each a))

command_spelled : (m : ℕ) (v : View) (c : Event) → HasSpelling m c → AllByRecursion SpelledChange (changes_of_command v c)
unfolding changes_of_command fields_of
command_spelled m v (Event.CmdPipelineBarrier cb barriers) h = all_map SpelledChange barrier_change (λ b. tt) barriers
command_spelled m v (Event.CmdFillBuffer cb buffer offset size word) h = inside_spelled (window v buffer) _ (λ w. (tt, tt))
command_spelled m v (Event.CmdUpdateBuffer cb buffer offset bytes) h = inside_spelled (window v buffer) _ (λ w. ((h.fields).1.1.1.0.1, tt))
command_spelled m v (Event.CmdCopyBuffer cb source target regions) h = both_spelled (window v source) (window v target) _ (λ s t. all_map SpelledChange (buffer_copy s t) (λ r. tt) regions)
command_spelled m v (Event.CmdCopyImage cb source source_layout target target_layout regions) h =
    both_spelled (window v source) (window v target) _ (λ s t. all_flat_map SpelledChange (image_copy v source target s t) (λ r. rows_spelled _ _ _ _ _ _ _ _) regions)
command_spelled m v (Event.CmdCopyBufferToImage cb source target layout regions) h =
    both_spelled (window v source) (window v target) _ (λ s t. all_flat_map SpelledChange (upload v target s t) (λ r. rows_spelled _ _ _ _ _ _ _ _) regions)
command_spelled m v (Event.CmdCopyImageToBuffer cb source layout target regions) h =
    both_spelled (window v source) (window v target) _ (λ s t. all_flat_map SpelledChange (download v source s t) (λ r. rows_spelled _ _ _ _ _ _ _ _) regions)
command_spelled m v (Event.CmdClearColorImage cb image layout c0 c1 c2 c3) h = inside_spelled (window v image) _ (λ w. (tt, tt))
command_spelled m v _ h = tt

commands_spelled : (m : ℕ) (v : View) (cs : List Event) → AllByRecursion (HasSpelling m) cs → AllByRecursion SpelledChange (flat_map (changes_of_command v) cs)
commands_spelled m v [] a = tt
commands_spelled m v (c ∷ cs) a = all_append SpelledChange (changes_of_command v c) _ (command_spelled m v c a.0) (commands_spelled m v cs a.1)

-- ---- lists of steps

module _ (m : ℕ) (v : View) (es : List Change) (h : IsSpelled m v es) where
  abbrev All : List Step → Type 0
  All ss = AllByRecursion (SpelledStep m) ss

  turns_spelled : (ts : List Turn) → All (flat_map (steps_of_turn v) ts)
  turns_spelled [] = tt
  turns_spelled (wait s ∷ ts) = (tt, turns_spelled ts)
  turns_spelled (signal s ∷ ts) = (tt, turns_spelled ts)
  turns_spelled (execute cb ∷ ts) =
      all_append (SpelledStep m) (map changes (changes_of_buffer v cb) ++ executed cb ∷ []) (flat_map (steps_of_turn v) ts)
      (all_append (SpelledStep m) (map changes (changes_of_buffer v cb)) (executed cb ∷ []) (into_steps m (changes_of_buffer v cb) (commands_spelled m v (v.buffer cb).commands (h.commands cb))) (tt, tt))
      (turns_spelled ts)

  signals_spelled : (x : ℕ) → All (signals_any x)
  signals_spelled x = if_list (SpelledStep m) (x == 0) [] (signals x ∷ []) tt (tt, tt)

  marks_spelled : (swapchain k : ℕ) (xs : List ℕ) → All (marks swapchain k xs)
  marks_spelled swapchain k [] = tt
  marks_spelled swapchain k (x ∷ xs) = (if_step (SpelledStep m) (x == 1) (acquires swapchain k) (gives_back swapchain k) tt tt, marks_spelled swapchain (k + 1) xs)

  put_spelled : (d : Detail) (image : ℕ) (bytes : List ℕ) → AllByRecursion (λ b. b < 256) bytes → All (image_bytes_put d image bytes)
  put_spelled (an_image f w hh u (Some k)) image bytes a = (a, tt)
  put_spelled (an_image f w hh u None) image bytes a = tt
  put_spelled _ image bytes a = tt

  init_spelled : (l : Option Object) (image : ℕ) (bytes : List ℕ) → AllByRecursion (λ b. b < 256) bytes → All (option_map_or (λ o. image_bytes_put o.detail image bytes) l [])
  init_spelled None image bytes a = tt
  init_spelled (Some o) image bytes a = put_spelled o.detail image bytes a

  ids_spelled : (pool : ℕ) (xs : List ℕ) → pool < 2 ^ 64 → AllByRecursion FieldFits (flat_map id_fields xs) → All (map (λ cb. creates cb pool a_command_buffer) xs)
  ids_spelled pool [] p a = tt
  ids_spelled pool (x ∷ xs) p a = ((a.0, p, tt), ids_spelled pool xs p a.1)

  -- a parameter of a live object
  ask_small : (f : Detail → ℕ) (x : ℕ) → ((d : Detail) → DetailFits d → f d < 2 ^ 32) → ask f v x < 2 ^ 32
  ask_small f x each = by (v.live x) refl
    where
      by : (l : Option Object) → v.live x ≡ l → option_map_or (λ (o : Object). f o.detail) l 0 < 2 ^ 32
      by None e = omega arith
      by (Some o) e = each o.detail (h.live x o e).2

  format_small : (d : Detail) → DetailFits d → detail_format d < 2 ^ 32
  format_small (an_image f w hh u i) a = a.0
  format_small (a_swapchain s i f w hh u) a = a.2
  format_small _ a = omega arith

  width_small : (d : Detail) → DetailFits d → detail_width d < 2 ^ 32
  width_small (an_image f w hh u i) a = a.1
  width_small (a_swapchain s i f w hh u) a = a.3
  width_small _ a = omega arith

  height_small : (d : Detail) → DetailFits d → detail_height d < 2 ^ 32
  height_small (an_image f w hh u i) a = a.2
  height_small (a_swapchain s i f w hh u) a = a.4
  height_small _ a = omega arith

  usage_small : (d : Detail) → DetailFits d → detail_image_usage d < 2 ^ 32
  usage_small (a_swapchain s i f w hh u) a = a.5
  usage_small _ a = omega arith

  fetches_spelled : (chain k : ℕ) (xs : List ℕ) → chain < 2 ^ 64 → AllByRecursion FieldFits (flat_map id_fields xs) → All (fetches v chain k xs)
  fetches_spelled chain k [] c a = tt
  fetches_spelled chain k (x ∷ xs) c a = (
    (a.0, c, (ask_small detail_format chain format_small, ask_small detail_width chain width_small, ask_small detail_height chain height_small, ask_small detail_image_usage chain usage_small)),
    fetches_spelled chain (k + 1) xs c a.1,
  )

  first_spelled : (before : List ℕ) (ss : List Step) → All ss → All (first_fetch before ss)
  first_spelled [] ss a = a
  first_spelled (x ∷ xs) ss a = tt

  row_spelled : (e : Event) → HasSpelling m e → All (effect_of v e)
  unfolding effect_of fields_of
  row_spelled (Event.CreateInstance instance api) s = let a = s.fields in ((a.0, omega arith, a.1.0), tt)
  row_spelled (Event.DestroyInstance a) s = (tt, tt)
  row_spelled (Event.CreateHeadlessSurfaceEXT instance surface) s = let a = s.fields in ((a.1.0, a.0, tt), tt)
  row_spelled (Event.DestroySurfaceKHR a b) s = (tt, tt)
  row_spelled (Event.CreateDevice instance device) s = let a = s.fields in ((a.1.0, a.0, tt), tt)
  row_spelled (Event.DestroyDevice a) s = (tt, tt)
  row_spelled (Event.GetDeviceQueue device queue) s = let a = s.fields in if_list (SpelledStep m) (is_some (queue_of v device)) [] (creates queue device a_queue ∷ []) tt ((a.1.0, a.0, tt), tt)
  row_spelled (Event.AllocateMemory device memory size) s = let a = s.fields in ((a.1.0, a.0, a.1.1.0), tt)
  row_spelled (Event.FreeMemory a b) s = (tt, tt)
  row_spelled (Event.MapMemory a b c d) s = (tt, tt)
  row_spelled (Event.UnmapMemory a b) s = (tt, tt)
  row_spelled (Event.CreateBuffer device buffer size usage) s = let a = s.fields in ((a.1.0, a.0, (a.1.1.0, a.1.1.1.0)), tt)
  row_spelled (Event.DestroyBuffer a b) s = (tt, tt)
  row_spelled (Event.BindBufferMemory device buffer memory offset) s = let a = s.fields in ((a.1.1.0, a.1.1.1.0), tt)
  row_spelled (Event.CreateImage device image format width height usage) s = let a = s.fields in ((a.1.0, a.0, (a.1.1.0, a.1.1.1.0, a.1.1.1.1.0, a.1.1.1.1.1.0)), tt)
  row_spelled (Event.DestroyImage a b) s = (tt, tt)
  row_spelled (Event.BindImageMemory device image memory offset) s = let a = s.fields in ((a.1.1.0, a.1.1.1.0), tt)
  row_spelled (Event.CreateCommandPool device pool flags) s = let a = s.fields in ((a.1.0, a.0, a.1.1.0), tt)
  row_spelled (Event.DestroyCommandPool a b) s = (tt, tt)
  row_spelled (Event.ResetCommandPool a b) s = (tt, tt)
  row_spelled (Event.AllocateCommandBuffers device pool buffers) s = let a = s.fields in ids_spelled pool buffers a.1.0 a.1.1.1
  row_spelled (Event.FreeCommandBuffers device pool buffers) s = all_map (SpelledStep m) ends (λ cb. tt) buffers
  row_spelled (Event.BeginCommandBuffer a b) s = (tt, tt)
  row_spelled (Event.EndCommandBuffer a) s = (tt, tt)
  row_spelled (Event.ResetCommandBuffer a) s = (tt, tt)
  row_spelled (Event.CmdPipelineBarrier a b) s = (s, tt)
  row_spelled (Event.CmdFillBuffer a b c d e) s = (s, tt)
  row_spelled (Event.CmdUpdateBuffer a b c d) s = (s, tt)
  row_spelled (Event.CmdCopyBuffer a b c d) s = (s, tt)
  row_spelled (Event.CmdCopyImage a b c d e f) s = (s, tt)
  row_spelled (Event.CmdCopyBufferToImage a b c d e) s = (s, tt)
  row_spelled (Event.CmdCopyImageToBuffer a b c d e) s = (s, tt)
  row_spelled (Event.CmdClearColorImage a b c d e f g) s = (s, tt)
  row_spelled (Event.CreateFence device fence flags) s = let a = s.fields in ((a.1.0, a.0, tt), if_list (SpelledStep m) (flags == 1) (signals fence ∷ []) [] (tt, tt) tt)
  row_spelled (Event.DestroyFence a b) s = (tt, tt)
  row_spelled (Event.ResetFences device fences) s = all_map (SpelledStep m) unsignals (λ f. tt) fences
  row_spelled (Event.CreateSemaphore device semaphore) s = let a = s.fields in ((a.1.0, a.0, tt), tt)
  row_spelled (Event.DestroySemaphore a b) s = (tt, tt)
  row_spelled (Event.QueueSubmit queue submits fence) s = turns_spelled (turns_of submits fence)
  row_spelled (Event.CreateSwapchainKHR device swapchain surface images format width height usage) s =
      let a = s.fields in ((a.1.0, a.0, (a.1.1.0, a.1.1.1.0, a.1.1.1.1.0, a.1.1.1.1.1.0, a.1.1.1.1.1.1.0, a.1.1.1.1.1.1.1.0)), tt)
  row_spelled (Event.DestroySwapchainKHR a b) s = (tt, tt)
  row_spelled (Event.GetSwapchainImagesKHR device swapchain images) s = let a = s.fields in first_spelled (fetched v swapchain) _ (fetches_spelled swapchain 0 images a.1.0 a.1.1.1)
  row_spelled (Event.AcquireNextImageKHR device swapchain semaphore fence index answer) s =
      if_list (SpelledStep m) (answer == 1) [] (acquires swapchain index ∷ signals_any semaphore ++ signals_any fence) tt
      (tt, all_append (SpelledStep m) (signals_any semaphore) (signals_any fence) (signals_spelled semaphore) (signals_spelled fence))
  row_spelled (Event.QueuePresentKHR queue waits images) s =
      all_append (SpelledStep m) (flat_map (steps_of_turn v) (map wait waits) ++ map (λ p. gives_back p.swapchain p.index) images) (presents ∷ [])
      (all_append (SpelledStep m) (flat_map (steps_of_turn v) (map wait waits)) _ (turns_spelled (map wait waits)) (all_map (SpelledStep m) (λ p. gives_back p.swapchain p.index) (λ p. tt) images)) (tt, tt)
  row_spelled (Event.FillMemory memory offset bytes) s = let a = s.fields in (a.1.1.0.1, tt)
  row_spelled (Event.InitImage image layout bytes) s = let a = s.fields in (tt, init_spelled (v.live image) image bytes a.1.1.0.1)
  row_spelled (Event.SetSwapchainState swapchain acquired) s = marks_spelled swapchain 0 acquired
  row_spelled (Event.SetSemaphoreState semaphore signalled) s = (if_step (SpelledStep m) (signalled == 1) (signals semaphore) (unsignals semaphore) tt tt, tt)
  row_spelled (Event.BeginSection a) s = (tt, tt)
  row_spelled (Event.EndSection a) s = (tt, tt)
  row_spelled _ s = tt

spelled_start : (m : ℕ) → IsSpelled m (view_of []) (executed_changes [])
unfolding live bound executed_changes byte
spelled_start m = record { live = λ x o e. absurd (cc); bound = λ x b e. absurd (cc); commands = λ cb. tt; bytes = λ at i. omega arith }

-- what is left of events that have a spelling has one
pub spelled_history : (m : ℕ) (h : List Event) → AllByRecursion (HasSpelling m) h → IsSpelled m (view h) (history.executed h)
unfolding steps
spelled_history m [] a = spelled_start m
spelled_history m (e ∷ h) a =
    let before = spelled_history m h a.1 in
    spelled_onto m (steps_of (view h) e) (steps h) before (tt, row_spelled m (view h) (history.executed h) before e a.0)
