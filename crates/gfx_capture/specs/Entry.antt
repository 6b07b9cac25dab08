-- The entries of a log, what they create, and how they are read of its bytes.
use Rattle.std.specs.Prelude.{◌≡◌, ◌⊎◌, ℕ, zero, suc, ◌+◌, List, [], ◌∷◌, map, flat_map, length, drop, Option, Some, None}
use Rattle.std.specs.List.{AllByRecursion}
use Rattle.gfx_model.specs.Events.{Event}
use Rattle.gfx_model.specs.Events.Event.{EndSection}
use Rattle.gfx_model.specs.Blocks.{size_field, type_field, payload_field, Content}
use Rattle.gfx_model.specs.Blocks.Content.{skipped, effect}
use Rattle.gfx_grammar.specs.Rows.{read_content}
use Rattle.gfx_grammar.specs.Framing.{CanBeWritten}
use Rattle.gfx_script_model.specs.Ids.{defines_of}
use Rattle.gfx_script_model.specs.Runs.{Entry, log_bytes}

-- a minor version of capture files
abbrev pub IsVersion : ℕ → Type 0
IsVersion m = (m ≡ 1) ⊎ (m ≡ 2)

-- an event under a thread
abbrev pub entry : ℕ → Event → Entry
entry thread event = record { thread = thread; event = event }

-- the events under one thread, in order
abbrev pub entries_under : ℕ → List Event → List Entry
entries_under thread events = map (entry thread) events

-- the thread under which an entry stands
abbrev pub entry_thread : Entry → ℕ
entry_thread e = e.thread

-- the ids that an event creates: the same in each version
abbrev pub event_ids : Event → List ℕ
event_ids e = defines_of 1 e

-- the ids that an entry creates
abbrev pub entry_ids : Entry → List ℕ
entry_ids e = event_ids e.event

-- the ids that events create
abbrev pub named_ids : List Event → List ℕ
named_ids events = flat_map event_ids events

-- ---- entries of bytes

-- what a block says, put before what follows it; a skipped block says nothing
abbrev pub said : Option Content → List Entry → List Entry
said (Some (effect thread event)) rest = entry thread event ∷ rest
said (Some skipped) rest = rest
said None rest = rest

-- what the first n blocks of the bytes say
unfoldable pub entries_in : ℕ → ℕ → List ℕ → List Entry
entries_in m zero bytes = []
entries_in m (suc n) bytes =
    said (read_content m (type_field bytes) (payload_field bytes)) (entries_in m n (drop (12 + size_field bytes) bytes))

-- the first entry, and any where there is none
abbrev pub first_entry : List Entry → Entry
first_entry [] = entry 0 (EndSection 0)
first_entry (e ∷ es) = e

-- the bytes are n blocks, of these entries
pub record AreEntries (m n : ℕ) (bytes : List ℕ) (es : List Entry) : Type 0 where
  pub count : length es ≡ n
  pub spelled : bytes ≡ log_bytes m es
  pub written : AllByRecursion (λ e. CanBeWritten m e.thread e.event) es
