use Rattle.std.proofs.Common.{◌≡◌, map}
use Rattle.std.specs.List.{range_with_len}
use Rattle.gfx_make.specs.Made.{frame_byte}
use Rattle.gfx_make.proofs.frame.bytes_of.Given as goal

-- the bytes so far
abbrev pub invariant-bytes : goal.invariant-bytes
invariant-bytes l = l.bytes.items ≡ map (frame_byte l.frame) (range_with_len 0 l.j)
