-- The law of the section: what is made anew covers what was.
use Rattle.std.specs.Prelude.{◌≡◌, ◌≤◌, ℕ, true, List, [], ◌∷◌, ◌++◌, length, None, is_some}
use Rattle.std.specs.List.{AllByRecursion}
use Rattle.gfx_model.specs.Limits.{max_frame, max_side_blocks, max_payload}
use Rattle.gfx_model.specs.Events.{Event}
use Rattle.gfx_model.specs.Events.Event.{CreateInstance, CreateHeadlessSurfaceEXT, CreateDevice, GetDeviceQueue, AllocateMemory, FillMemory, MapMemory, CreateBuffer, BindBufferMemory, CreateImage, BindImageMemory, InitImage, CreateSwapchainKHR, GetSwapchainImagesKHR, SetSwapchainState, CreateFence, CreateSemaphore, SetSemaphoreState, CreateCommandPool, AllocateCommandBuffers, BeginCommandBuffer, EndCommandBuffer, BeginSection, EndSection, CmdPipelineBarrier, CmdFillBuffer, CmdUpdateBuffer, CmdCopyBuffer, CmdCopyImage, CmdCopyBufferToImage, CmdCopyImageToBuffer, CmdClearColorImage}
use Rattle.gfx_model.specs.Spelling.{HasSpelling, payload}
use Rattle.gfx_model.specs.History.{onto, view, is_valid}
use Rattle.gfx_model.specs.Frames.{frames}
use Rattle.gfx_model.specs.Section.{section}
use Rattle.gfx_model.specs.Covers.{Covers}
use Rattle.gfx_laws.specs.Laws.{IsNoMarker, frames_after}
use Rattle.gfx_section_law.specs.Orderly.{IsOrderly}

-- the section as a history, the newest event first
abbrev pub section_history : List Event → ℕ → List Event
section_history h n = onto (section h n) []

-- h is valid, no section is open after it, and its next frame has a number that a section may begin with
pub record IsAtBoundary (h : List Event) : Type 0 where
  pub valid : is_valid h ≡ true
  pub closed : (view h).section ≡ None
  pub low : 1 ≤ (view h).next_frame
  pub high : (view h).next_frame ≤ max_frame

-- what a section is made of: creations, bindings, maps, recordings and stated bytes, layouts, marks and signals
abbrev pub IsBuilding : Event → Type 0
IsBuilding (CreateInstance instance api) = Unit {0}
IsBuilding (CreateHeadlessSurfaceEXT instance surface) = Unit {0}
IsBuilding (CreateDevice instance device) = Unit {0}
IsBuilding (GetDeviceQueue device queue) = Unit {0}
IsBuilding (AllocateMemory device memory size) = Unit {0}
IsBuilding (FillMemory memory offset bytes) = Unit {0}
IsBuilding (MapMemory device memory offset size) = Unit {0}
IsBuilding (CreateBuffer device buffer size usage) = Unit {0}
IsBuilding (BindBufferMemory device buffer memory offset) = Unit {0}
IsBuilding (CreateImage device image format width height usage) = Unit {0}
IsBuilding (BindImageMemory device image memory offset) = Unit {0}
IsBuilding (InitImage image layout bytes) = Unit {0}
IsBuilding (CreateSwapchainKHR device swapchain surface images format width height usage) = Unit {0}
IsBuilding (GetSwapchainImagesKHR device swapchain images) = Unit {0}
IsBuilding (SetSwapchainState swapchain acquired) = Unit {0}
IsBuilding (CreateFence device fence flags) = Unit {0}
IsBuilding (CreateSemaphore device semaphore) = Unit {0}
IsBuilding (SetSemaphoreState semaphore signalled) = Unit {0}
IsBuilding (CreateCommandPool device pool flags) = Unit {0}
IsBuilding (AllocateCommandBuffers device pool buffers) = Unit {0}
IsBuilding (BeginCommandBuffer cb flags) = Unit {0}
IsBuilding (CmdPipelineBarrier cb barriers) = Unit {0}
IsBuilding (CmdFillBuffer cb buffer offset size word) = Unit {0}
IsBuilding (CmdUpdateBuffer cb buffer offset bytes) = Unit {0}
IsBuilding (CmdCopyBuffer cb source target regions) = Unit {0}
IsBuilding (CmdCopyImage cb source source_layout target target_layout regions) = Unit {0}
IsBuilding (CmdCopyBufferToImage cb source target layout regions) = Unit {0}
IsBuilding (CmdCopyImageToBuffer cb source layout target regions) = Unit {0}
IsBuilding (CmdClearColorImage cb image layout c0 c1 c2 c3) = Unit {0}
IsBuilding (EndCommandBuffer cb) = Unit {0}
IsBuilding _ = ⊥

-- the section covers h, and is short enough for a file of minor version m
pub record IsSectionFor (m : ℕ) (h : List Event) : Type 0 where
  pub covers : Covers h (section_history h (view h).next_frame)
  -- it creates exactly what is live
  pub created : (x : ℕ) → (view (section_history h (view h).next_frame)).used x ≡ is_some ((view h).live x)
  -- between its two markers it holds no marker, destruction, submission, acquire or present
  pub made : List Event
  pub framed : section h (view h).next_frame ≡ BeginSection (view h).next_frame ∷ made ++ EndSection (view h).next_frame ∷ []
  pub shape : AllByRecursion IsBuilding made
  -- so it shows no frame
  pub silent : frames (section_history h (view h).next_frame) ≡ []
  pub few : length (section h (view h).next_frame) ≤ max_side_blocks
  pub small : AllByRecursion (λ e. length (payload m 0 e) ≤ max_payload) (section h (view h).next_frame)

-- what holds of objects, images and limits after every valid history
abbrev pub ValidIsOrderly : Type 0
ValidIsOrderly = (h : List Event) → is_valid h ≡ true → IsOrderly (view h)

-- every valid history with no open section is covered by its section
abbrev pub SectionCovers : Type 0
SectionCovers = (m : ℕ) (h : List Event) → IsAtBoundary h → IsSectionFor m h

-- the section with what follows it
pub record Follows (h es : List Event) : Type 0 where
  pub valid : is_valid (onto es (section_history h (view h).next_frame)) ≡ true
  pub same : frames (onto es (section_history h (view h).next_frame)) ≡ frames_after h es

-- what goes on after a history goes on after its section, and shows the same frames
abbrev pub SectionRuns : Type 0
SectionRuns = (h es : List Event) → IsAtBoundary h → AllByRecursion IsNoMarker es → is_valid (onto es h) ≡ true → Follows h es

-- the section of a history whose events have a spelling in minor version m has one
abbrev pub SectionSpelled : Type 0
SectionSpelled = (m : ℕ) (h : List Event) → IsAtBoundary h → AllByRecursion (HasSpelling m) h → AllByRecursion (HasSpelling m) (section h (view h).next_frame)
