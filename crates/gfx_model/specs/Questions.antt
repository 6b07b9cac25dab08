-- What is asked of a capture. Each question is asked of all its steps, the newest first.
use Rattle.std.specs.Prelude.{ℕ, ◌+◌, ◌/◌, ◌%◌, ◌==◌, Bool, true, false, ◌&&◌, ◌||◌, if◌then◌else◌, List, [], ◌∷◌, ◌++◌, length, filter, nat_le, not, Option, Some, None, is_some}
use Rattle.std.specs.List.{list_any}
use Rattle.std.specs.Option.{option_map_or}
pub use Rattle.gfx_types.specs.Names.{texel_size, image_size}
use Rattle.gfx_types.specs.declared.map_range.MapRange.{MapRange}
use Rattle.gfx_model.specs.Events.{Event}
use Rattle.gfx_model.specs.Steps.{Step, Object, Detail, Change, resources_of}
use Rattle.gfx_model.specs.Steps.Detail.{a_queue, a_command_buffer, an_image}
use Rattle.gfx_model.specs.Steps.Change.{set_layout}
use Rattle.gfx_model.specs.Steps.Step.{begins_section, ends_section, creates, ends, binds, maps, unmaps, begins, records, finishes, resets, resets_pool, executed, signals, unsignals, acquires, gives_back, changes, presents}

-- bit b of a number is the bit whose value is b
abbrev pub has_bit : ℕ → ℕ → Bool
has_bit n b = (n / b) % 2 == 1

-- ---- objects

-- the end of the parent is the end of a queue, a fetched image and a command buffer
abbrev pub is_owned : Detail → Bool
is_owned a_queue = true
is_owned a_command_buffer = true
is_owned (an_image _ _ _ _ index) = is_some index
is_owned _ = false

-- the object is no longer there where `gone` has ended
abbrev pub goes_with : ℕ → ℕ → Object → Bool
goes_with gone id o = gone == id || is_owned o.detail && gone == o.parent

-- what is left of an object after the end of another
abbrev pub after_end : ℕ → ℕ → Option Object → Option Object
after_end gone id None = None
after_end gone id (Some o) = if goes_with gone id o then None else Some o

-- the live object of this id: it was created, and neither it nor its owner ended
unfoldable pub live : List Step → ℕ → Option Object
live [] id = None
live (creates i parent detail ∷ h) id = if i == id then Some (record { parent = parent; detail = detail }) else live h id
live (ends gone ∷ h) id = after_end gone id (live h id)
live (_ ∷ h) id = live h id

-- the answer for a live id, and a plain one for any other
abbrev pub for_live : {X : Type 0} → List Step → X → (ℕ → X) → ℕ → X
for_live h plain answer x = if is_some (live h x) then answer x else plain

-- the live object of this id passes the test
abbrev pub passes : (Object → Bool) → Option Object → Bool
passes test o = option_map_or test o false

-- an id put into a rising list
abbrev pub insert_rising : ℕ → List ℕ → List ℕ
insert_rising x [] = x ∷ []
insert_rising x (y ∷ ys) = if nat_le x y then x ∷ y ∷ ys else y ∷ insert_rising x ys

-- the ids of the live objects, rising
unfoldable pub ids : List Step → List ℕ
ids [] = []
ids (creates i parent detail ∷ h) = insert_rising i (ids h)
ids (ends gone ∷ h) = filter (λ id. not (passes (goes_with gone id) (live h id))) (ids h)
ids (_ ∷ h) = ids h

-- some effect created this id
unfoldable pub used : List Step → ℕ → Bool
used [] id = false
used (creates i parent detail ∷ h) id = i == id || used h id
used (_ ∷ h) id = used h id

-- ---- bindings and maps

-- where a resource is bound
pub record Binding : Type 0 where
  pub memory : ℕ
  pub offset : ℕ

-- the mapped bytes of a memory
pub record Range : Type 0 where
  pub offset : ℕ
  pub length : ℕ

-- these bytes as the program keeps them
abbrev pub range_of : MapRange → Range
range_of r = record { offset = r.offset; length = r.length }

-- the memory and offset to which a resource was bound since it was created
unfoldable pub bound : List Step → ℕ → Option Binding
bound [] r = None
bound (creates i parent detail ∷ h) r = if i == r then None else bound h r
bound (binds i memory offset ∷ h) r = if i == r then Some (record { memory = memory; offset = offset }) else bound h r
bound (_ ∷ h) r = bound h r

-- the mapped range of a memory
unfoldable pub mapped : List Step → ℕ → Option Range
mapped [] m = None
mapped (maps i offset length ∷ h) m = if i == m then Some (record { offset = offset; length = length }) else mapped h m
mapped (unmaps i ∷ h) m = if i == m then None else mapped h m
mapped (ends i ∷ h) m = if i == m then None else mapped h m
mapped (_ ∷ h) m = mapped h m

-- ---- command buffers

-- the states of a command buffer
pub data State : Type 0 where
  initial recording executable invalid : State

-- what is recorded in a command buffer
pub record Buffer : Type 0 where
  pub state : State
  pub flags : ℕ
  pub commands : List Event

-- a command buffer that was made or reset
abbrev pub new_buffer : Buffer
new_buffer = record { state = initial; flags = 0; commands = [] }

-- it is recording or executable: its commands are kept, and it may become invalid
abbrev pub is_kept : State → Bool
is_kept recording = true
is_kept executable = true
is_kept _ = false

-- the binding is to this memory
abbrev pub rests_on : ℕ → Option Binding → Bool
rests_on memory None = false
rests_on memory (Some b) = b.memory == memory

-- the resource goes, or the memory under it, where `gone` has ended
abbrev pub loses : List Step → ℕ → ℕ → Bool
loses h gone r = gone == r || passes (goes_with gone r) (live h r) || rests_on gone (for_live h None (bound h) r)

-- a command of the buffer names a resource that goes
abbrev pub names_lost : List Step → ℕ → Buffer → Bool
names_lost h gone b = list_any (λ c. list_any (loses h gone) (resources_of c)) b.commands

-- a recording or executable buffer becomes invalid, keeping its flags and commands
abbrev pub invalidated : Bool → Buffer → Buffer
invalidated hit b = if hit && is_kept b.state then record b { state = invalid } else b

-- a buffer with ONE_TIME_SUBMIT is executed once
abbrev pub is_once : Buffer → Bool
is_once b = has_bit b.flags 1

-- the object is of this pool
abbrev pub is_in_pool : ℕ → Object → Bool
is_in_pool pool o = o.parent == pool

-- the state, begin flags and commands of a command buffer
unfoldable pub buffer : List Step → ℕ → Buffer
buffer [] cb = new_buffer
buffer (creates i parent detail ∷ h) cb = if i == cb then new_buffer else buffer h cb
buffer (resets i ∷ h) cb = if i == cb then new_buffer else buffer h cb
buffer (resets_pool pool ∷ h) cb = if passes (is_in_pool pool) (live h cb) then new_buffer else buffer h cb
buffer (begins i flags ∷ h) cb = if i == cb then record { state = recording; flags = flags; commands = [] } else buffer h cb
buffer (records i command ∷ h) cb =
    let b = buffer h cb in
    if i == cb then record b { commands = b.commands ++ command ∷ [] } else b
buffer (finishes i ∷ h) cb =
    let b = buffer h cb in
    if i == cb then record b { state = executable } else b
buffer (executed i ∷ h) cb =
    let b = buffer h cb in
    invalidated (i == cb && is_once b) b
buffer (ends gone ∷ h) cb =
    let b = buffer h cb in
    invalidated (names_lost h gone b) b
buffer (_ ∷ h) cb = buffer h cb

-- ---- signals and swapchains

-- a fence or a semaphore is signalled
unfoldable pub signalled : List Step → ℕ → Bool
signalled [] s = false
signalled (creates i parent detail ∷ h) s = if i == s then false else signalled h s
signalled (signals i ∷ h) s = if i == s then true else signalled h s
signalled (unsignals i ∷ h) s = if i == s then false else signalled h s
signalled (_ ∷ h) s = signalled h s

-- an image of a swapchain is acquired
unfoldable pub acquired : List Step → ℕ → ℕ → Bool
acquired [] swapchain index = false
acquired (creates i parent detail ∷ h) swapchain index = if i == swapchain then false else acquired h swapchain index
acquired (acquires i k ∷ h) swapchain index = if i == swapchain && k == index then true else acquired h swapchain index
acquired (gives_back i k ∷ h) swapchain index = if i == swapchain && k == index then false else acquired h swapchain index
acquired (_ ∷ h) swapchain index = acquired h swapchain index

-- ---- layouts, frames, the section

-- the changes of bytes and layouts, the newest first
unfoldable pub executed_changes : List Step → List Change
executed_changes [] = []
executed_changes (changes c ∷ h) = c ∷ executed_changes h
executed_changes (_ ∷ h) = executed_changes h

-- the newest layout of an image since it was created, UNDEFINED where there is none
unfoldable pub layout : List Step → ℕ → ℕ
layout [] image = 0
layout (creates i parent detail ∷ h) image = if i == image then 0 else layout h image
layout (changes (set_layout i l) ∷ h) image = if i == image then l else layout h image
layout (_ ∷ h) image = layout h image

-- the number of the next frame: the begin marker's, or 1 without one, and one more for each present
unfoldable pub next_frame : List Step → ℕ
next_frame [] = 1
next_frame (begins_section frame ∷ h) = frame
next_frame (presents ∷ h) = next_frame h + 1
next_frame (_ ∷ h) = next_frame h

-- the frame of the section that is begun and not ended
unfoldable pub open_section : List Step → Option ℕ
open_section [] = None
open_section (begins_section frame ∷ h) = Some frame
open_section (ends_section ∷ h) = None
open_section (_ ∷ h) = open_section h
