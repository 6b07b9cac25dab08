-- What contracts see of a buffer, and what is in its fields.
use Rattle.std.specs.Prelude.{◌≡◌, ◌≤◌, ℕ, ◌==◌, false, List, ◌++◌, map, length, take, drop}
use Rattle.std.specs.Int.{to_le_bytes, w64}
use Rattle.std.specs.List.{AllByRecursion}
use Rattle.gfx_model.specs.Limits.{max_payload}
use Rattle.gfx_model.specs.Events.{Event}
use Rattle.gfx_model.specs.Spelling.{HasSpelling, type_of, payload, encoding}
use Rattle.gfx_capture.specs.Entry.{IsVersion, entries_in, entries_under, AreEntries}

-- the most events of a buffer
abbrev pub max_events : ℕ
max_events = 256

-- a minor version, and events
pub record Buffered : Type 0 where
  pub minor : ℕ
  pub events : List Event

-- a call or a metadata that has a block in version m; whether it has one doesn't depend on the thread
pub record CanBePut (m : ℕ) (e : Event) : Type 0 where
  pub fits : HasSpelling m e
  pub unmarked : (type_of e == 2) ≡ false
  pub small : length (payload m 0 e) ≤ max_payload

-- the events of n blocks
abbrev pub events_in : ℕ → ℕ → List ℕ → List Event
events_in m n bytes = map (λ e. e.event) (entries_in m n bytes)

-- what contracts see of a buffer in version m whose bytes are n blocks
abbrev pub buffered : ℕ → ℕ → List ℕ → Buffered
buffered m n bytes = record { minor = m; events = events_in m n bytes }

-- the bytes are blocks of events that can be put, under thread 0
pub record IsBuffer (m n : ℕ) (bytes : List ℕ) : Type 0 where
  pub version : IsVersion m
  pub few : n ≤ max_events
  pub blocks : AreEntries m n bytes (entries_under 0 (events_in m n bytes))
  pub can : AllByRecursion (CanBePut m) (events_in m n bytes)

-- ---- one block of a buffer

-- the bytes are the block of an event under thread 0
pub record IsPutOf (m : ℕ) (e : Event) (block : List ℕ) : Type 0 where
  pub can : CanBePut m e
  pub spelled : block ≡ encoding m 0 e

-- the bytes are the block of some event that can be put, under thread 0
abbrev pub IsPut : ℕ → List ℕ → Type 0
IsPut m block = (e : Event) × IsPutOf m e block

-- the block with another thread, which follows size, type and id
abbrev pub with_thread : ℕ → List ℕ → List ℕ
with_thread thread block = take 16 block ++ (to_le_bytes w64 thread ++ drop 24 block)
