-- An event is made of what is no id in it and of its ids.
use Rattle.std.proofs.Common.{◌≡◌, ℕ, ◌+◌, List, [], ◌∷◌, ◌++◌, map, length, take, drop, refl, sym, ap, ◌∙◌, arith, append-nil, append_assoc, length-append}
use Rattle.std.specs.Prelude.{flat_map}
use Rattle.std.proofs.lemmas.List.{length-map}
use Rattle.std.specs.List.{slice_index}
use Rattle.gfx_types.specs.declared.lists.Barrier.{Barrier}
use Rattle.gfx_types.specs.declared.lists.Present.{Present}
use Rattle.gfx_types.specs.declared.lists.Submit.{Submit}
use Rattle.gfx_model.specs.Events.{Event}
use Rattle.gfx_model.specs.Fields.{barrier_atoms, present_atoms}
use Rattle.gfx_script_model.specs.Ids.{atom_ids, barrier_ids, present_ids, submit_ids, uses_of, defines_of, map_ids}

-- the id at a place
abbrev nth : ℕ → List ℕ → ℕ
nth n ids = slice_index ids n

-- ---- lists of records

abbrev fill_barriers : List Barrier → List ℕ → List Barrier
fill_barriers [] ids = []
fill_barriers (b ∷ bs) [] = []
fill_barriers (b ∷ bs) (i ∷ ids) = record { image = i; before = b.before; after = b.after } ∷ fill_barriers bs ids

abbrev fill_presents : List Present → List ℕ → List Present
fill_presents [] ids = []
fill_presents (p ∷ ps) [] = []
fill_presents (p ∷ ps) (i ∷ ids) = record { swapchain = i; index = p.index } ∷ fill_presents ps ids

-- the ids of a submit
abbrev submit_names : Submit → List ℕ
submit_names s = s.waits ++ s.cbs ++ s.signals

-- a submit of as many ids, the first of these
abbrev fill_submit : Submit → List ℕ → Submit
fill_submit s ids = record {
  waits = take (length s.waits) ids;
  cbs = take (length s.cbs) (drop (length s.waits) ids);
  signals = take (length s.signals) (drop (length s.cbs) (drop (length s.waits) ids));
}

abbrev fill_submits : List Submit → List ℕ → List Submit
fill_submits [] ids = []
fill_submits (s ∷ ss) ids = fill_submit s ids ∷ fill_submits ss (drop (length (submit_names s)) ids)

-- how many ids the submits name
abbrev submit_count : List Submit → ℕ
submit_count ss = length (flat_map submit_names ss)

-- ---- events

-- the event with these ids in place of its own
abbrev fill : Event → List ℕ → List ℕ → Event
fill (Event.CreateInstance _ api) named made = Event.CreateInstance (nth 0 made) api
fill (Event.DestroyInstance _) named made = Event.DestroyInstance (nth 0 named)
fill (Event.CreateHeadlessSurfaceEXT _ _) named made = Event.CreateHeadlessSurfaceEXT (nth 0 named) (nth 0 made)
fill (Event.DestroySurfaceKHR _ _) named made = Event.DestroySurfaceKHR (nth 0 named) (nth 1 named)
fill (Event.CreateDevice _ _) named made = Event.CreateDevice (nth 0 named) (nth 0 made)
fill (Event.DestroyDevice _) named made = Event.DestroyDevice (nth 0 named)
fill (Event.GetDeviceQueue _ _) named made = Event.GetDeviceQueue (nth 0 named) (nth 0 made)
fill (Event.AllocateMemory _ _ size) named made = Event.AllocateMemory (nth 0 named) (nth 0 made) size
fill (Event.FreeMemory _ _) named made = Event.FreeMemory (nth 0 named) (nth 1 named)
fill (Event.MapMemory _ _ offset size) named made = Event.MapMemory (nth 0 named) (nth 1 named) offset size
fill (Event.UnmapMemory _ _) named made = Event.UnmapMemory (nth 0 named) (nth 1 named)
fill (Event.CreateBuffer _ _ size usage) named made = Event.CreateBuffer (nth 0 named) (nth 0 made) size usage
fill (Event.DestroyBuffer _ _) named made = Event.DestroyBuffer (nth 0 named) (nth 1 named)
fill (Event.BindBufferMemory _ _ _ offset) named made = Event.BindBufferMemory (nth 0 named) (nth 1 named) (nth 2 named) offset
fill (Event.CreateImage _ _ format width height usage) named made = Event.CreateImage (nth 0 named) (nth 0 made) format width height usage
fill (Event.DestroyImage _ _) named made = Event.DestroyImage (nth 0 named) (nth 1 named)
fill (Event.BindImageMemory _ _ _ offset) named made = Event.BindImageMemory (nth 0 named) (nth 1 named) (nth 2 named) offset
fill (Event.CreateCommandPool _ _ flags) named made = Event.CreateCommandPool (nth 0 named) (nth 0 made) flags
fill (Event.DestroyCommandPool _ _) named made = Event.DestroyCommandPool (nth 0 named) (nth 1 named)
fill (Event.ResetCommandPool _ _) named made = Event.ResetCommandPool (nth 0 named) (nth 1 named)
fill (Event.AllocateCommandBuffers _ _ _) named made = Event.AllocateCommandBuffers (nth 0 named) (nth 1 named) made
fill (Event.FreeCommandBuffers _ _ _) named made = Event.FreeCommandBuffers (nth 0 named) (nth 1 named) (drop 2 named)
fill (Event.BeginCommandBuffer _ flags) named made = Event.BeginCommandBuffer (nth 0 named) flags
fill (Event.EndCommandBuffer _) named made = Event.EndCommandBuffer (nth 0 named)
fill (Event.ResetCommandBuffer _) named made = Event.ResetCommandBuffer (nth 0 named)
fill (Event.CmdPipelineBarrier _ bs) named made = Event.CmdPipelineBarrier (nth 0 named) (fill_barriers bs (drop 1 named))
fill (Event.CmdFillBuffer _ _ offset size word) named made = Event.CmdFillBuffer (nth 0 named) (nth 1 named) offset size word
fill (Event.CmdUpdateBuffer _ _ offset bytes) named made = Event.CmdUpdateBuffer (nth 0 named) (nth 1 named) offset bytes
fill (Event.CmdCopyBuffer _ _ _ regions) named made = Event.CmdCopyBuffer (nth 0 named) (nth 1 named) (nth 2 named) regions
fill (Event.CmdCopyImage _ _ source_layout _ target_layout regions) named made =
    Event.CmdCopyImage (nth 0 named) (nth 1 named) source_layout (nth 2 named) target_layout regions
fill (Event.CmdCopyBufferToImage _ _ _ layout regions) named made =
    Event.CmdCopyBufferToImage (nth 0 named) (nth 1 named) (nth 2 named) layout regions
fill (Event.CmdCopyImageToBuffer _ _ layout _ regions) named made =
    Event.CmdCopyImageToBuffer (nth 0 named) (nth 1 named) layout (nth 2 named) regions
fill (Event.CmdClearColorImage _ _ layout c0 c1 c2 c3) named made = Event.CmdClearColorImage (nth 0 named) (nth 1 named) layout c0 c1 c2 c3
fill (Event.CreateFence _ _ flags) named made = Event.CreateFence (nth 0 named) (nth 0 made) flags
fill (Event.DestroyFence _ _) named made = Event.DestroyFence (nth 0 named) (nth 1 named)
fill (Event.ResetFences _ _) named made = Event.ResetFences (nth 0 named) (drop 1 named)
fill (Event.WaitForFences _ _ wait_all answer) named made = Event.WaitForFences (nth 0 named) (drop 1 named) wait_all answer
fill (Event.GetFenceStatus _ _ answer) named made = Event.GetFenceStatus (nth 0 named) (nth 1 named) answer
fill (Event.CreateSemaphore _ _) named made = Event.CreateSemaphore (nth 0 named) (nth 0 made)
fill (Event.DestroySemaphore _ _) named made = Event.DestroySemaphore (nth 0 named) (nth 1 named)
fill (Event.QueueSubmit _ submits _) named made =
    Event.QueueSubmit (nth 0 named) (fill_submits submits (drop 1 named)) (nth 0 (drop (submit_count submits) (drop 1 named)))
fill (Event.QueueWaitIdle _) named made = Event.QueueWaitIdle (nth 0 named)
fill (Event.DeviceWaitIdle _) named made = Event.DeviceWaitIdle (nth 0 named)
fill (Event.CreateSwapchainKHR _ _ _ images format width height usage) named made =
    Event.CreateSwapchainKHR (nth 0 named) (nth 0 made) (nth 1 named) images format width height usage
fill (Event.DestroySwapchainKHR _ _) named made = Event.DestroySwapchainKHR (nth 0 named) (nth 1 named)
fill (Event.GetSwapchainImagesKHR _ _ _) named made = Event.GetSwapchainImagesKHR (nth 0 named) (nth 1 named) made
fill (Event.AcquireNextImageKHR _ _ _ _ index answer) named made =
    Event.AcquireNextImageKHR (nth 0 named) (nth 1 named) (nth 2 named) (nth 3 named) index answer
fill (Event.QueuePresentKHR _ waits ps) named made =
    Event.QueuePresentKHR (nth 0 named) (take (length waits) (drop 1 named)) (fill_presents ps (drop (length waits) (drop 1 named)))
fill (Event.FillMemory _ offset bytes) named made = Event.FillMemory (nth 0 named) offset bytes
fill (Event.InitImage _ layout bytes) named made = Event.InitImage (nth 0 named) layout bytes
fill (Event.SetSwapchainState _ acquired) named made = Event.SetSwapchainState (nth 0 named) acquired
fill (Event.SetSemaphoreState _ signalled) named made = Event.SetSemaphoreState (nth 0 named) signalled
fill (Event.BeginSection frame) named made = Event.BeginSection frame
fill (Event.EndSection frame) named made = Event.EndSection frame

-- ---- lists that are cut where they were joined

take_front : (n : ℕ) (xs ys : List ℕ) → n ≡ length xs → take n (xs ++ ys) ≡ xs
take_front n xs ys e = ap (λ k. take k (xs ++ ys)) e ∙ by xs
  where
    by : (zs : List ℕ) → take (length zs) (zs ++ ys) ≡ zs
    by [] = refl
    by (z ∷ zs) = ap (λ (k : List ℕ). z ∷ k) (by zs)

drop_front : (n : ℕ) (xs ys : List ℕ) → n ≡ length xs → drop n (xs ++ ys) ≡ ys
drop_front n xs ys e = ap (λ k. drop k (xs ++ ys)) e ∙ by xs
  where
    by : (zs : List ℕ) → drop (length zs) (zs ++ ys) ≡ ys
    by [] = refl
    by (z ∷ zs) = by zs

-- no id
abbrev none : ℕ → ℕ
none _ = 0

blank_length : (xs : List ℕ) → length (map none xs) ≡ length xs
blank_length xs = length-map xs none

-- ---- records

barriers_filled : (bs : List Barrier) (rest : List ℕ) → fill_barriers (map (barrier_ids none) bs) (flat_map (flat_map atom_ids) (map barrier_atoms bs) ++ rest) ≡ bs
barriers_filled [] rest = refl
barriers_filled (b ∷ bs) rest = ap (λ (z : List Barrier). b ∷ z) (barriers_filled bs rest)

presents_filled : (ps : List Present) (rest : List ℕ) → fill_presents (map (present_ids none) ps) (flat_map (flat_map atom_ids) (map present_atoms ps) ++ rest) ≡ ps
presents_filled [] rest = refl
presents_filled (p ∷ ps) rest = ap (λ (z : List Present). p ∷ z) (presents_filled ps rest)

three : (a b c more : List ℕ) → ((a ++ b) ++ c) ++ more ≡ a ++ (b ++ (c ++ more))
three a b c more = simp append_assoc

submit_filled : (s : Submit) (more : List ℕ) → fill_submit (submit_ids none s) (submit_names s ++ more) ≡ s
submit_filled s more =
    let ids = submit_names s ++ more in
    let joined = three s.waits s.cbs s.signals more in
    let waits : take (length (map none s.waits)) ids ≡ s.waits = ap (take (length (map none s.waits))) joined ∙ take_front _ s.waits _ (blank_length s.waits) in
    let behind : drop (length (map none s.waits)) ids ≡ s.cbs ++ (s.signals ++ more) = ap (drop (length (map none s.waits))) joined ∙ drop_front _ s.waits _ (blank_length s.waits) in
    let cbs : take (length (map none s.cbs)) (drop (length (map none s.waits)) ids) ≡ s.cbs = ap (take (length (map none s.cbs))) behind ∙ take_front _ s.cbs _ (blank_length s.cbs) in
    let last : drop (length (map none s.cbs)) (drop (length (map none s.waits)) ids) ≡ s.signals ++ more = ap (drop (length (map none s.cbs))) behind ∙ drop_front _ s.cbs _ (blank_length s.cbs) in
    let signals : take (length (map none s.signals)) (drop (length (map none s.cbs)) (drop (length (map none s.waits)) ids)) ≡ s.signals =
    ap (take (length (map none s.signals))) last ∙ take_front _ s.signals _ (blank_length s.signals) in
    λ i. record { waits = waits i; cbs = cbs i; signals = signals i }

submit_length : (s : Submit) → length (submit_names (submit_ids none s)) ≡ length (submit_names s)
submit_length s =
    simp length-append (omega (arith, blank_length s.waits, blank_length s.cbs, blank_length s.signals))

submits_filled : (ss : List Submit) (rest : List ℕ) → fill_submits (map (submit_ids none) ss) (flat_map submit_names ss ++ rest) ≡ ss
submits_filled [] rest = refl
submits_filled (s ∷ ss) rest =
    let joined : submit_names s ++ flat_map submit_names ss ++ rest ≡ submit_names s ++ (flat_map submit_names ss ++ rest) = append_assoc (submit_names s) (flat_map submit_names ss) rest in
    ap (λ (z : List ℕ). fill_submit (submit_ids none s) z ∷ fill_submits (map (submit_ids none) ss) (drop (length (submit_names (submit_ids none s))) z)) joined
    ∙ ap (λ (z : Submit). z ∷ fill_submits (map (submit_ids none) ss) (drop (length (submit_names (submit_ids none s))) (submit_names s ++ (flat_map submit_names ss ++ rest)))) (submit_filled s (flat_map submit_names ss ++ rest))
    ∙ ap (λ (z : List ℕ). s ∷ fill_submits (map (submit_ids none) ss) z) (drop_front _ (submit_names s) (flat_map submit_names ss ++ rest) (submit_length s))
    ∙ ap (λ (z : List Submit). s ∷ z) (submits_filled ss rest)

submit_counts : (ss : List Submit) → submit_count (map (submit_ids none) ss) ≡ submit_count ss
submit_counts [] = refl
submit_counts (s ∷ ss) =
    length-append (submit_names (submit_ids none s)) (flat_map submit_names (map (submit_ids none) ss))
    ∙ ap (λ n. n + submit_count (map (submit_ids none) ss)) (submit_length s)
    ∙ ap (λ n. length (submit_names s) + n) (submit_counts ss)
    ∙ sym (length-append (submit_names s) (flat_map submit_names ss))

-- ---- events

-- an event is made of what is no id in it and of its ids
pub filled : (e : Event) → fill (map_ids none e) (uses_of 2 e) (defines_of 2 e) ≡ e
unfolding map_ids uses_of defines_of
filled (Event.AllocateCommandBuffers device pool buffers) = ap (λ (z : List ℕ). Event.AllocateCommandBuffers device pool z) (append-nil buffers)
filled (Event.FreeCommandBuffers device pool buffers) = ap (λ (z : List ℕ). Event.FreeCommandBuffers device pool z) (append-nil buffers)
filled (Event.CmdPipelineBarrier cb bs) = ap (λ (z : List Barrier). Event.CmdPipelineBarrier cb z) (barriers_filled bs [])
filled (Event.ResetFences device fences) = ap (λ (z : List ℕ). Event.ResetFences device z) (append-nil fences)
filled (Event.WaitForFences device fences wait_all answer) = ap (λ (z : List ℕ). Event.WaitForFences device z wait_all answer) (append-nil fences)
filled (Event.QueueSubmit queue submits fence) =
    ap (λ (z : List Submit). Event.QueueSubmit queue z (nth 0 (drop (submit_count (map (submit_ids none) submits)) (flat_map submit_names submits ++ fence ∷ [])))) (submits_filled submits (fence ∷ []))
    ∙ ap (λ (z : List ℕ). Event.QueueSubmit queue submits (nth 0 z)) (drop_front _ (flat_map submit_names submits) (fence ∷ []) (submit_counts submits))
filled (Event.GetSwapchainImagesKHR device swapchain images) = ap (λ (z : List ℕ). Event.GetSwapchainImagesKHR device swapchain z) (append-nil images)
filled (Event.QueuePresentKHR queue waits ps) =
    let rest = flat_map (flat_map atom_ids) (map present_atoms ps) ++ [] in
    ap (λ (z : List ℕ). Event.QueuePresentKHR queue z (fill_presents (map (present_ids none) ps) (drop (length (map none waits)) (waits ++ rest)))) (take_front _ waits rest (blank_length waits))
    ∙ ap (λ (z : List ℕ). Event.QueuePresentKHR queue waits (fill_presents (map (present_ids none) ps) z)) (drop_front _ waits rest (blank_length waits))
    ∙ ap (λ (z : List Present). Event.QueuePresentKHR queue waits z) (presents_filled ps [])
filled _ = refl

-- two events with the same ids that are alike in all else are one
pub one_event : (a b : Event) → map_ids none a ≡ map_ids none b → uses_of 2 a ≡ uses_of 2 b → defines_of 2 a ≡ defines_of 2 b → a ≡ b
one_event a b others named made =
    sym (filled a) ∙ ap (λ (z : Event). fill z (uses_of 2 a) (defines_of 2 a)) others
    ∙ ap (λ (z : List ℕ). fill (map_ids none b) z (defines_of 2 a)) named ∙ ap (λ (z : List ℕ). fill (map_ids none b) (uses_of 2 b) z) made ∙ filled b
