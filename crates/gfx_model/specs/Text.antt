-- The lines that are printed for frames and for blocks.
use Rattle.std.specs.Prelude.{ℕ, ◌+◌, ◌*◌, ◌/◌, ◌%◌, ◌==◌, nat_lt, Bool, false, ◌&&◌, if◌then◌else◌, List, [], ◌∷◌, ◌++◌, length, take, drop, flat_map, count_by, codes, decimal}
use Rattle.std.specs.List.{range_with_len, enumerate_from}
use Rattle.gfx_types.specs.Names.{texel_of, format_name, fault_number, fault_name}
use Rattle.gfx_types.specs.declared.frame.Picture.{Picture}
use Rattle.gfx_types.specs.declared.frame.Frame.{Frame}
use Rattle.gfx_types.specs.declared.names.Fault.{Fault}
use Rattle.gfx_model.specs.Spelling.{type_of, id_of}
use Rattle.gfx_model.specs.Blocks.{Content, Whole}
use Rattle.gfx_model.specs.Blocks.Content.{skipped, effect}

-- a line
abbrev pub line : List ℕ → List ℕ
line text = text ++ 10 ∷ []

-- a lower-case hexadecimal digit
abbrev pub hex_digit : ℕ → ℕ
hex_digit n = if nat_lt n 10 then 48 + n else 87 + n

-- a byte in two digits
abbrev pub hex_byte : ℕ → List ℕ
hex_byte b = hex_digit (b / 16) ∷ hex_digit (b % 16) ∷ []

-- bytes in lower-case hexadecimal
abbrev pub hex_text : List ℕ → List ℕ
hex_text bytes = flat_map hex_byte bytes

-- ---- frames

-- the bytes of a row of an image
abbrev pub row_bytes : Picture → ℕ
row_bytes p = p.width * texel_of p.format

-- a line for each row of an image
abbrev pub row_lines : Picture → List ℕ
row_lines p = flat_map (λ k. line (hex_text (take (row_bytes p) (drop (k * row_bytes p) p.pixels)))) (range_with_len 0 p.height)

-- the line of an image under its title; `digest` gives the hash of its bytes
abbrev pub picture_lines : (List ℕ → List ℕ) → Bool → List ℕ → Picture → List ℕ
picture_lines digest pixels title p =
    line (codes "frame " ++ title ++ codes " " ++ decimal p.width ++ codes "x" ++ decimal p.height ++ codes " "
    ++ format_name p.format ++ codes " " ++ hex_text (digest p.pixels))
    ++ (if pixels then row_lines p else [])

-- version 1 has the frame's number, version 2 also the image's, counted from 1
abbrev pub title_of : ℕ → ℕ → ℕ → List ℕ
title_of m number k = decimal number ++ (if m == 2 then codes "." ++ decimal k else [])

-- the lines of a frame
abbrev pub frame_lines : ℕ → (List ℕ → List ℕ) → Bool → Frame → List ℕ
frame_lines m digest pixels f =
    flat_map (λ p. picture_lines digest pixels (title_of m f.number p.0) p.1) (enumerate_from 1 f.pictures)

-- a name and a number
abbrev pub count_line : List ℕ → ℕ → List ℕ
count_line name n = line (name ++ codes " " ++ decimal n)

-- the text of frames in minor version m
abbrev pub frames_text : ℕ → (List ℕ → List ℕ) → Bool → List Frame → List ℕ
frames_text m digest pixels fs = flat_map (frame_lines m digest pixels) fs ++ count_line (codes "frames") (length fs)

-- ---- blocks

-- a block of a call
abbrev pub is_call : Content → Bool
is_call skipped = false
is_call (effect thread event) = type_of event == 4

-- a block of a QueuePresentKHR
abbrev pub is_present : Content → Bool
is_present skipped = false
is_present (effect thread event) = type_of event == 4 && id_of event == 48

-- the four lines on a file in minor version m with so many blocks, calls and frames
abbrev pub count_lines : (m blocks calls frames : ℕ) → List ℕ
count_lines m blocks calls frames =
    line (codes "version 1000." ++ decimal m)
    ++ count_line (codes "blocks") blocks
    ++ count_line (codes "calls") calls
    ++ count_line (codes "frames") frames

-- those on a file of these blocks
abbrev pub counts_text : ℕ → List Whole → List ℕ
counts_text m blocks =
    count_lines m (length blocks) (count_by (λ w. is_call w.content) blocks) (count_by (λ w. is_present w.content) blocks)

-- the line on a bad block
abbrev pub bad_line : Fault → ℕ → ℕ → List ℕ
bad_line f block offset =
    line (codes "bad block " ++ decimal block ++ codes " at " ++ decimal offset ++ codes ": "
    ++ decimal (fault_number f) ++ codes " " ++ fault_name f)
