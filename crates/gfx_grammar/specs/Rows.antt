-- Reading of events, by the rows of the format.
use Rattle.std.specs.Prelude.{length, ℕ, ◌==◌, if◌then◌else◌, List, [], ◌∷◌, Option, Some, None}
use Rattle.gfx_types.specs.declared.lists.Present.{Present}
use Rattle.gfx_model.specs.Events.{Event}
use Rattle.gfx_model.specs.Blocks.{Content, skipped, effect, is_skipped}
use Rattle.gfx_grammar.specs.Reading.{◌>>=◌, Reader, ◌⊗◌, read_u32, read_u64, read_id, read_raw, read_ids, read_words, read_list, read_barrier, read_buffer_region, read_image_region, read_mixed_region, read_submit, read_present}

-- the value, where no byte is left over
abbrev pub if_none_left : {X : Type 0} → X → List ℕ → Option X
if_none_left x rest = if length rest == 0 then Some x else None

-- the event of which the bytes are the fields, exactly
unfoldable pub exactly : {X : Type 0} → (X → Event) → Reader X → List ℕ → Option Event
exactly build r bytes = r bytes >>= λ x. if_none_left (build x.0) x.1

-- an event built of so many fields, as they are read one after the other
abbrev pub with1 : {A : Type 0} → (A → Event) → A → Event
with1 f x = f x

-- the same of two fields
abbrev pub with2 : {A B : Type 0} → (A → B → Event) → A × B → Event
with2 f x = f x.0 x.1

-- the same of three fields
abbrev pub with3 : {A B C : Type 0} → (A → B → C → Event) → A × (B × C) → Event
with3 f x = f x.0 x.1.0 x.1.1

-- the same of four fields
abbrev pub with4 : {A B C D : Type 0} → (A → B → C → D → Event) → A × (B × (C × D)) → Event
with4 f x = f x.0 x.1.0 x.1.1.0 x.1.1.1

-- the same of five fields
abbrev pub with5 : {A B C D E : Type 0} → (A → B → C → D → E → Event) → A × (B × (C × (D × E))) → Event
with5 f x = f x.0 x.1.0 x.1.1.0 x.1.1.1.0 x.1.1.1.1

-- the same of six fields
abbrev pub with6 : {A B C D E F : Type 0} → (A → B → C → D → E → F → Event) → A × (B × (C × (D × (E × F)))) → Event
with6 f x = f x.0 x.1.0 x.1.1.0 x.1.1.1.0 x.1.1.1.1.0 x.1.1.1.1.1

-- the same of seven fields
abbrev pub with7 : {A B C D E F G : Type 0} → (A → B → C → D → E → F → G → Event) → A × (B × (C × (D × (E × (F × G))))) → Event
with7 f x = f x.0 x.1.0 x.1.1.0 x.1.1.1.0 x.1.1.1.1.0 x.1.1.1.1.1.0 x.1.1.1.1.1.1

-- the same of eight fields
abbrev pub with8 : {A B C D E F G H : Type 0} → (A → B → C → D → E → F → G → H → Event) → A × (B × (C × (D × (E × (F × (G × H)))))) → Event
with8 f x = f x.0 x.1.0 x.1.1.0 x.1.1.1.0 x.1.1.1.1.0 x.1.1.1.1.1.0 x.1.1.1.1.1.1.0 x.1.1.1.1.1.1.1

-- a present of one image
abbrev pub with_one_present : ℕ × (List ℕ × Present) → Event
with_one_present x = Event.QueuePresentKHR x.0 x.1.0 (x.1.1 ∷ [])

-- version 1 presents one image, and version 2 a list
unfoldable pub present_row : ℕ → List ℕ → Option Event
present_row m bytes =
    if m == 1 then exactly with_one_present (read_id ⊗ read_ids ⊗ read_present) bytes
    else exactly (with3 Event.QueuePresentKHR) (read_id ⊗ read_ids ⊗ read_list read_present) bytes

-- a table: a number, and how the fields of its event are read
abbrev pub Rows : Type 0
Rows = List (ℕ × (List ℕ → Option Event))

-- what the row of this number reads
unfoldable pub by_row : Rows → ℕ → List ℕ → Option Event
by_row [] n bytes = None
by_row (row ∷ rows) n bytes = if row.0 == n then row.1 bytes else by_row rows n bytes

-- the calls
abbrev pub calls : ℕ → Rows
calls m =
    (1, exactly (with2 Event.CreateInstance) (read_id ⊗ read_u32))
    ∷ (2, exactly (with1 Event.DestroyInstance) read_id)
    ∷ (3, exactly (with2 Event.CreateHeadlessSurfaceEXT) (read_id ⊗ read_id))
    ∷ (4, exactly (with2 Event.DestroySurfaceKHR) (read_id ⊗ read_id))
    ∷ (5, exactly (with2 Event.CreateDevice) (read_id ⊗ read_id))
    ∷ (6, exactly (with1 Event.DestroyDevice) read_id)
    ∷ (7, exactly (with2 Event.GetDeviceQueue) (read_id ⊗ read_id))
    ∷ (8, exactly (with3 Event.AllocateMemory) (read_id ⊗ read_id ⊗ read_u64))
    ∷ (9, exactly (with2 Event.FreeMemory) (read_id ⊗ read_id))
    ∷ (10, exactly (with4 Event.MapMemory) (read_id ⊗ read_id ⊗ read_u64 ⊗ read_u64))
    ∷ (11, exactly (with2 Event.UnmapMemory) (read_id ⊗ read_id))
    ∷ (12, exactly (with4 Event.CreateBuffer) (read_id ⊗ read_id ⊗ read_u64 ⊗ read_u32))
    ∷ (13, exactly (with2 Event.DestroyBuffer) (read_id ⊗ read_id))
    ∷ (14, exactly (with4 Event.BindBufferMemory) (read_id ⊗ read_id ⊗ read_id ⊗ read_u64))
    ∷ (15, exactly (with6 Event.CreateImage) (read_id ⊗ read_id ⊗ read_u32 ⊗ read_u32 ⊗ read_u32 ⊗ read_u32))
    ∷ (16, exactly (with2 Event.DestroyImage) (read_id ⊗ read_id))
    ∷ (17, exactly (with4 Event.BindImageMemory) (read_id ⊗ read_id ⊗ read_id ⊗ read_u64))
    ∷ (18, exactly (with3 Event.CreateCommandPool) (read_id ⊗ read_id ⊗ read_u32))
    ∷ (19, exactly (with2 Event.DestroyCommandPool) (read_id ⊗ read_id))
    ∷ (20, exactly (with2 Event.ResetCommandPool) (read_id ⊗ read_id))
    ∷ (21, exactly (with3 Event.AllocateCommandBuffers) (read_id ⊗ read_id ⊗ read_ids))
    ∷ (22, exactly (with3 Event.FreeCommandBuffers) (read_id ⊗ read_id ⊗ read_ids))
    ∷ (23, exactly (with2 Event.BeginCommandBuffer) (read_id ⊗ read_u32))
    ∷ (24, exactly (with1 Event.EndCommandBuffer) read_id)
    ∷ (25, exactly (with1 Event.ResetCommandBuffer) read_id)
    ∷ (26, exactly (with2 Event.CmdPipelineBarrier) (read_id ⊗ read_list read_barrier))
    ∷ (27, exactly (with5 Event.CmdFillBuffer) (read_id ⊗ read_id ⊗ read_u64 ⊗ read_u64 ⊗ read_u32))
    ∷ (28, exactly (with4 Event.CmdUpdateBuffer) (read_id ⊗ read_id ⊗ read_u64 ⊗ read_raw))
    ∷ (29, exactly (with4 Event.CmdCopyBuffer) (read_id ⊗ read_id ⊗ read_id ⊗ read_list read_buffer_region))
    ∷ (30, exactly (with6 Event.CmdCopyImage) (read_id ⊗ read_id ⊗ read_u32 ⊗ read_id ⊗ read_u32 ⊗ read_list read_image_region))
    ∷ (31, exactly (with5 Event.CmdCopyBufferToImage) (read_id ⊗ read_id ⊗ read_id ⊗ read_u32 ⊗ read_list read_mixed_region))
    ∷ (32, exactly (with5 Event.CmdCopyImageToBuffer) (read_id ⊗ read_id ⊗ read_u32 ⊗ read_id ⊗ read_list read_mixed_region))
    ∷ (33, exactly (with7 Event.CmdClearColorImage) (read_id ⊗ read_id ⊗ read_u32 ⊗ read_u32 ⊗ read_u32 ⊗ read_u32 ⊗ read_u32))
    ∷ (34, exactly (with3 Event.CreateFence) (read_id ⊗ read_id ⊗ read_u32))
    ∷ (35, exactly (with2 Event.DestroyFence) (read_id ⊗ read_id))
    ∷ (36, exactly (with2 Event.ResetFences) (read_id ⊗ read_ids))
    ∷ (37, exactly (with4 Event.WaitForFences) (read_id ⊗ read_ids ⊗ read_u32 ⊗ read_u32))
    ∷ (38, exactly (with3 Event.GetFenceStatus) (read_id ⊗ read_id ⊗ read_u32))
    ∷ (39, exactly (with2 Event.CreateSemaphore) (read_id ⊗ read_id))
    ∷ (40, exactly (with2 Event.DestroySemaphore) (read_id ⊗ read_id))
    ∷ (41, exactly (with3 Event.QueueSubmit) (read_id ⊗ read_list read_submit ⊗ read_id))
    ∷ (42, exactly (with1 Event.QueueWaitIdle) read_id)
    ∷ (43, exactly (with1 Event.DeviceWaitIdle) read_id)
    ∷ (44, exactly (with8 Event.CreateSwapchainKHR) (read_id ⊗ read_id ⊗ read_id ⊗ read_u32 ⊗ read_u32 ⊗ read_u32 ⊗ read_u32 ⊗ read_u32))
    ∷ (45, exactly (with2 Event.DestroySwapchainKHR) (read_id ⊗ read_id))
    ∷ (46, exactly (with3 Event.GetSwapchainImagesKHR) (read_id ⊗ read_id ⊗ read_ids))
    ∷ (47, exactly (with6 Event.AcquireNextImageKHR) (read_id ⊗ read_id ⊗ read_id ⊗ read_id ⊗ read_u32 ⊗ read_u32))
    ∷ (48, present_row m)
    ∷ []

-- the metadata
abbrev pub metas : Rows
metas =
    (2, exactly (with3 Event.FillMemory) (read_id ⊗ read_u64 ⊗ read_raw))
    ∷ (3, exactly (with3 Event.InitImage) (read_id ⊗ read_u32 ⊗ read_raw))
    ∷ (4, exactly (with2 Event.SetSwapchainState) (read_id ⊗ read_words))
    ∷ (5, exactly (with2 Event.SetSemaphoreState) (read_id ⊗ read_u32))
    ∷ []

-- the markers of the state section
abbrev pub markers : Rows
markers =
    (1, exactly (with1 Event.BeginSection) read_u64)
    ∷ (2, exactly (with1 Event.EndSection) read_u64)
    ∷ []

-- the table of a type of block: 2 a marker, 3 a metadata, 4 a call
abbrev pub rows_of : ℕ → ℕ → Rows
rows_of m kind = if kind == 4 then calls m else if kind == 3 then metas else if kind == 2 then markers else []

-- the event of this number whose fields the bytes are
unfoldable pub read_event : (minor kind number : ℕ) → List ℕ → Option Event
read_event m kind n bytes = by_row (rows_of m kind) n bytes

-- the call of this number whose fields the bytes are
abbrev pub read_call : (minor id : ℕ) → List ℕ → Option Event
read_call m n bytes = read_event m 4 n bytes

-- the metadata of this number whose fields the bytes are
abbrev pub read_meta : (minor id : ℕ) → List ℕ → Option Event
read_meta m n bytes = read_event m 3 n bytes

-- the thread, which a marker does not have
abbrev pub read_thread : ℕ → Reader ℕ
read_thread kind bytes = if kind == 2 then Some (0, bytes) else read_u64 bytes

-- a number, a thread and fields
unfoldable pub read_payload : (minor kind : ℕ) → List ℕ → Option Content
read_payload m kind bytes =
    read_u32 bytes >>= λ n. read_thread kind n.1 >>= λ t. read_event m kind n.0 t.1 >>= λ e. Some (effect t.0 e)

-- what a payload in a block of this type says
unfoldable pub read_content : (minor kind : ℕ) → List ℕ → Option Content
read_content m kind bytes = if is_skipped kind bytes then Some skipped else read_payload m kind bytes
