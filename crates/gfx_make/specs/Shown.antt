-- What the frames of the capture show.
use Rattle.std.specs.Prelude.{ℕ, ◌-◌, ◌/◌, ◌%◌, nat_lt, if◌then◌else◌, List, [], ◌∷◌, map}
use Rattle.std.specs.List.{range_with_len}
use Rattle.gfx_types.specs.declared.names.Format.TheVariants.{B8G8R8A8Unorm}
use Rattle.gfx_types.specs.declared.frame.Frame.{Frame}
use Rattle.gfx_make.specs.Made.{frame_byte}

-- the last of the first k frames that filled in part p of the memory, where one did
abbrev pub last_filling : (k p : ℕ) → ℕ
last_filling k p = k - (k - 1 - p) % 30

-- byte j of the memory after k frames: what the last of them gave that filled in its part, and 0 where none did
unfoldable pub memory_byte : (k j : ℕ) → ℕ
memory_byte k j = if nat_lt (j / 40960) k then frame_byte (last_filling k (j / 40960)) (j % 40960) else 0

-- the bytes of the memory after k frames
unfoldable pub memory_bytes : (k : ℕ) → List ℕ
memory_bytes k = map (memory_byte k) (range_with_len 0 1228800)

-- frame k shows the memory as an image
abbrev pub shown_frame : (k : ℕ) → Frame
shown_frame k = record {
  number = k;
  pictures = record { width = 640; height = 480; format = B8G8R8A8Unorm; pixels = memory_bytes k } ∷ [];
}

-- n frames from frame k on
abbrev pub shown_from : (k n : ℕ) → List Frame
shown_from k n = map shown_frame (range_with_len k n)
