-- Where memories are among those for which something was held.
use Rattle.std.specs.Prelude.{◌≡◌, ℕ, ◌+◌, ◌<◌, ◌≤◌, false, List, length, get_or, drop, Some, None}
use Rattle.std.specs.Ordering.{nat_cmp}
use Rattle.std.specs.FinMap as map
use Rattle.gfx_model.specs.Checks.{is_among}
use Rattle.gfx_shadow.specs.Writes.{Write}
use Rattle.gfx_shadow.specs.Rows.{AreRows}
use Rattle.gfx_shadow.specs.Memories.{rows_of, numbers_of, fills_of}
use Rattle.gfx_shadow.specs.declared.memory.MemoryBytes.{MemoryBytes}
use Rattle.gfx_shadow.specs.declared.memories.Memories.{Memories}

-- the memories for which something is held
abbrev pub left_of : Memories → List MemoryBytes
left_of m = drop m.first m.rows.items

-- the fills of what is held
abbrev pub held_by : Memories → List Write
held_by m = fills_of (left_of m)

-- the memory is here among numbers, of which the first are done
pub record IsAt (first : ℕ) (numbers : List ℕ) (memory at : ℕ) : Type 0 where
  pub left : first ≤ at
  pub inside : at < length numbers
  pub same : (d : ℕ) → get_or numbers at d ≡ memory

-- each place that is kept is that of its memory, and where none is kept the memory is not left
pub record ArePlaces (first : ℕ) (numbers : List ℕ) (places : map.FinMap nat_cmp ℕ) : Type 0 where
  pub found : (memory at : ℕ) → map.get places memory ≡ Some at → IsAt first numbers memory at
  pub missing : (memory : ℕ) → map.get places memory ≡ None → is_among memory (drop first numbers) ≡ false

-- each memory that is left has a row and a place
pub record AreIndexed (m : Memories) : Type 0 where
  pub front : m.first ≤ length m.rows.items
  pub rows : AreRows (rows_of (left_of m))
  pub places : ArePlaces m.first (numbers_of m.rows.items) m.places.map

-- the first memory that is left is this one, and those behind it have rows
pub record IsFirst (m : Memories) (memory : ℕ) : Type 0 where
  pub some : m.first < length m.rows.items
  pub same : (d : ℕ) → get_or (numbers_of m.rows.items) m.first d ≡ memory
  pub rows : AreRows (rows_of (drop (m.first + 1) m.rows.items))
  pub other : is_among memory (numbers_of (drop (m.first + 1) m.rows.items)) ≡ false
  pub places : ArePlaces m.first (numbers_of m.rows.items) m.places.map
