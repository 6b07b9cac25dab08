-- Laws of the definitions, which functions with empty bodies promise.
use Rattle.std.specs.Prelude.{◌≡◌, fold, ◌⊎◌, ◌≤◌, map, ◌+◌, length, ◌<◌, ◌==◌, ◌&&◌, ℕ, Bool, false, Some, is_some, List, [], ◌∷◌, ◌++◌, true, None}
use Rattle.std.specs.List.{AllByRecursion, range_with_len}
use Rattle.std.specs.Option.{option_map_or}
use Rattle.gfx_types.specs.declared.lists.Present.{Present}
use Rattle.gfx_types.specs.declared.frame.Frame.{Frame}
use Rattle.gfx_model.specs.Events.{Event}
use Rattle.gfx_model.specs.Events.Event.{CmdPipelineBarrier, CmdFillBuffer, CmdUpdateBuffer, CmdCopyBuffer, CmdCopyImage, CmdCopyBufferToImage, CmdCopyImageToBuffer, CmdClearColorImage, QueuePresentKHR, BeginSection, EndSection}
use Rattle.gfx_types.specs.declared.names.Kind.TheVariants as kind
use Rattle.gfx_model.specs.Steps.{Object, Detail, Change, resources_of}
use Rattle.gfx_model.specs.Steps.Change.{put}
use Rattle.gfx_types.specs.declared.op.Place.{Place}
use Rattle.gfx_model.specs.Bytes.{byte}
use Rattle.gfx_model.specs.Section.{Span, fills_of}
use Rattle.gfx_model.specs.Steps.Detail.{an_instance, a_surface}
use Rattle.gfx_model.specs.Views.{View, is_live, has_index, images_in, fetched, is_usable, device_of}
use Rattle.gfx_model.specs.Questions.{passes, is_kept, new_buffer}
use Rattle.gfx_model.specs.Checks.{first_broken}
use Rattle.gfx_model.specs.Table.{row_of, checks_of, recorded}
use Rattle.gfx_model.specs.Effects.{steps_of}
use Rattle.gfx_model.specs.After.{after}
use Rattle.gfx_model.specs.History.{onto, steps, view, fault, is_valid, executed}
use Rattle.gfx_model.specs.Frames.{frame_of, frames}
use Rattle.gfx_model.specs.Covers.{Covers, is_fetched}
use Rattle.gfx_laws.specs.Lawful.{IsLawful, cb_of, command_checks}
use Rattle.gfx_laws.specs.Newest.{newest_layout, bindings, ever_buffer}

-- what holds of objects, bindings, layouts, commands and bytes after every valid history
abbrev pub ValidIsLawful : Type 0
ValidIsLawful = (h : List Event) → is_valid h ≡ true → IsLawful (view h) (executed h)

-- plain answers on an id
pub record IsPlainAt (v : View) (x : ℕ) : Type 0 where
  pub bound : v.bound x ≡ None
  pub mapped : v.mapped x ≡ None
  pub buffer : v.buffer x ≡ new_buffer
  pub signalled : v.signalled x ≡ false
  pub acquired : (index : ℕ) → v.acquired x index ≡ false
  pub layout : v.layout x ≡ 0

-- answers on what is not live are plain
abbrev pub PlainWhereNotLive : Type 0
PlainWhereNotLive = (h : List Event) → is_valid h ≡ true → (x : ℕ) → (view h).live x ≡ None → IsPlainAt (view h) x

-- the layout of a live image is the newest that was ever set
abbrev pub LayoutIsNewest : Type 0
LayoutIsNewest = (h : List Event) → is_valid h ≡ true → (x : ℕ) → is_some ((view h).live x) ≡ true → (view h).layout x ≡ newest_layout (executed h) x

-- a live resource got one binding, which it has, or none
abbrev pub BoundOnce : Type 0
BoundOnce = (h : List Event) → is_valid h ≡ true → (x : ℕ) → is_some ((view h).live x) ≡ true →
    bindings (steps h) x ≡ option_map_or (λ b. b ∷ []) ((view h).bound x) []

-- A live command buffer is in the state that its recording, its executions and the ends of its resources leave,
-- the resources by the bindings that they ever got.
abbrev pub BuffersByBindings : Type 0
BuffersByBindings = (h : List Event) → is_valid h ≡ true → (cb : ℕ) → is_some ((view h).live cb) ≡ true → (view h).buffer cb ≡ ever_buffer (steps h) cb

-- a command that is recorded
abbrev pub is_command : Event → Bool
is_command (CmdPipelineBarrier cb barriers) = true
is_command (CmdFillBuffer cb buffer offset size word) = true
is_command (CmdUpdateBuffer cb buffer offset bytes) = true
is_command (CmdCopyBuffer cb source target regions) = true
is_command (CmdCopyImage cb source source_layout target target_layout regions) = true
is_command (CmdCopyBufferToImage cb source target layout regions) = true
is_command (CmdCopyImageToBuffer cb source layout target regions) = true
is_command (CmdClearColorImage cb image layout c0 c1 c2 c3) = true
is_command _ = false

-- the row of a command: its buffer is recording, its own checks, and there is room
abbrev pub RowsOfCommands : Type 0
RowsOfCommands = (c : Event) → is_command c ≡ true → row_of c ≡ recorded (cb_of c) c (command_checks c)

-- a command of this buffer that breaks no check of its row, but perhaps that the buffer is recording, and that there is room
pub record KeptCommand (v : View) (cb : ℕ) (c : Event) : Type 0 where
  pub command : is_command c ≡ true
  pub own : cb_of c ≡ cb
  pub passes : first_broken v (command_checks c) ≡ None
  pub usable : AllByRecursion (λ r. is_usable v r ≡ true) (resources_of c)

-- what a recording or executable buffer has are such commands
abbrev pub KeptCommands : Type 0
KeptCommands = (h : List Event) → is_valid h ≡ true → (cb : ℕ) → is_kept ((view h).buffer cb).state ≡ true →
    AllByRecursion (KeptCommand (view h) cb) ((view h).buffer cb).commands

-- each object but an instance and a surface belongs to a device
abbrev pub is_of_device : Detail → Bool
is_of_device (an_instance api) = false
is_of_device a_surface = false
is_of_device _ = true

-- the device of what belongs to one is live
abbrev pub DevicesLive : Type 0
DevicesLive = (h : List Event) → is_valid h ≡ true → (x : ℕ) (o : Object) → (view h).live x ≡ Some o → is_of_device o.detail ≡ true →
    is_live (view h) kind.Device (device_of (view h) x) ≡ true

-- an image of a swapchain at an index
abbrev pub is_image_at : ℕ → ℕ → Object → Bool
is_image_at swapchain k o = o.parent == swapchain && has_index k o.detail

-- where one image of a swapchain is live, one is at each index
abbrev pub IsComplete : View → Type 0
IsComplete v = (swapchain x k : ℕ) → passes (λ o. o.parent == swapchain && is_fetched o.detail) (v.live x) ≡ true → k < images_in v swapchain →
    (y : ℕ) × (passes (is_image_at swapchain k) (v.live y) ≡ true)

-- all images of a swapchain are fetched, or none
abbrev pub FetchedWhole : Type 0
FetchedWhole = (h : List Event) → is_valid h ≡ true → IsComplete (view h)

-- images of a swapchain by their indices, from one on
abbrev pub AreImagesFrom : View → ℕ → ℕ → List ℕ → Type 0
AreImagesFrom v swapchain k [] = Unit {0}
AreImagesFrom v swapchain k (x ∷ xs) = (passes (is_image_at swapchain k) (v.live x) ≡ true) × AreImagesFrom v swapchain (k + 1) xs

-- the list of fetched images has as many as the swapchain has, each at its index, or none
abbrev pub FetchedByIndex : Type 0
FetchedByIndex = (h : List Event) → is_valid h ≡ true → (swapchain : ℕ) →
    (fetched (view h) swapchain ≡ [])
    ⊎ ((length (fetched (view h) swapchain) ≡ images_in (view h) swapchain) × AreImagesFrom (view h) swapchain 0 (fetched (view h) swapchain))

-- the puts of spans of a place, with the bytes that f gives, the newest first
abbrev pub filled : Place → (ℕ → ℕ) → List Span → List Change → List Change
filled at f [] es = es
filled at f (s ∷ ss) es = filled at f ss (put at s.at (map f (range_with_len s.at s.length)) ∷ es)

-- a span of a byte or more below n
abbrev pub IsSpanBelow : ℕ → Span → Type 0
IsSpanBelow n s = (0 < s.length) × (s.at + s.length ≤ n)

-- Fills of n bytes are spans of them, and written over zeros they give the bytes.
pub record FillsGive (f : ℕ → ℕ) (n : ℕ) : Type 0 where
  pub spans : AllByRecursion (IsSpanBelow n) (fills_of f n)
  pub bytes : (at : Place) (es : List Change) (i : ℕ) → i < n → byte es at i ≡ 0 → byte (filled at f (fills_of f n) es) at i ≡ f i

-- the fills of any bytes are spans of them, and written over zeros they give the bytes back
abbrev pub FillsGiveBytes : Type 0
FillsGiveBytes = (f : ℕ → ℕ) (n : ℕ) → FillsGive f n

-- an event that is no marker
abbrev pub IsNoMarker : Event → Type 0
IsNoMarker (BeginSection frame) = ⊥
IsNoMarker (EndSection frame) = ⊥
IsNoMarker _ = Unit {0}

-- a valid history covers itself, where no section is open
abbrev pub CoversItself : Type 0
CoversItself = (h : List Event) → is_valid h ≡ true → (view h).section ≡ None → Covers h h

-- What has no fault after a history has none after one that covers it,
-- and then the one with it covers the other with it.
abbrev pub Simulates : Type 0
Simulates = (h g : List Event) (e : Event) → Covers h g → IsNoMarker e → fault h e ≡ None → (fault g e ≡ None) × Covers (e ∷ h) (e ∷ g)

-- a present shows the same after both
abbrev pub ShowsSame : Type 0
ShowsSame = (h g : List Event) (presents : List Present) → Covers h g → frame_of g presents ≡ frame_of h presents

-- the frames of events after a history, the first one first
abbrev pub frames_after : List Event → List Event → List Frame
frames_after h [] = []
frames_after h (QueuePresentKHR queue waits presents ∷ es) = frame_of h presents ∷ frames_after (QueuePresentKHR queue waits presents ∷ h) es
frames_after h (e ∷ es) = frames_after (e ∷ h) es

-- the frames of a history are those of its first part, and then those of the rest
abbrev pub FramesInParts : Type 0
FramesInParts = (h es : List Event) → frames (onto es h) ≡ frames h ++ frames_after h es

-- the answers after events, from those before them
abbrev pub view_after : View → List Event → View
view_after v [] = v
view_after v (e ∷ es) = view_after (fold after v (steps_of v e)) es

-- no event has a fault after those before it, told from the answers before them all
abbrev pub GoOn : View → List Event → Type 0
GoOn v [] = Unit {0}
GoOn v (e ∷ es) = (first_broken v (checks_of e) ≡ None) × GoOn (fold after v (steps_of v e)) es

-- the answers after a history and events, and whether they are valid, are told from the answers after the history
pub record IsTold (h es : List Event) : Type 0 where
  pub answers : view (onto es h) ≡ view_after (view h) es
  pub valid : is_valid h ≡ true → GoOn (view h) es → is_valid (onto es h) ≡ true
  pub go_on : is_valid (onto es h) ≡ true → GoOn (view h) es

-- what comes of events behind any history is told from the answers after it
abbrev pub ToldByAnswers : Type 0
ToldByAnswers = (h es : List Event) → IsTold h es

-- what follows both histories
pub record Follows (h g es : List Event) : Type 0 where
  pub covers : Covers (onto es h) (onto es g)
  pub frames : frames_after g es ≡ frames_after h es

-- events without markers that go on after a history go on after one that covers it, with the same frames
abbrev pub RangeSimulates : Type 0
RangeSimulates = (h g es : List Event) → Covers h g → AllByRecursion IsNoMarker es → is_valid (onto es h) ≡ true → Follows h g es
