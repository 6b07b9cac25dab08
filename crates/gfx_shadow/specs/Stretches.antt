-- The stretches of bytes of a memory.
use Rattle.std.specs.Prelude.{ℕ, Option}
use Rattle.gfx_shadow.specs.ByEnd.{byte_of}
use Rattle.gfx_shadow.specs.declared.stretches.Stretches.{Stretches}

-- the byte at an offset
abbrev pub stretches_byte : Stretches → ℕ → Option ℕ
stretches_byte s = byte_of s.by_end.map
