-- What is recorded in all command buffers.
use Rattle.std.specs.Prelude.{◌≡◌, ℕ, true, List}
use Rattle.std.specs.Option.{option_map_or}
use Rattle.std.specs.Ordering.{nat_cmp}
use Rattle.std.specs.FinMap as map
use Rattle.std.specs.FinMap.{FinMap}
use Rattle.gfx_table.specs.Rows.{total}
use Rattle.gfx_model.specs.Questions.{Buffer, new_buffer, is_kept}
use Rattle.gfx_model.specs.Views.{commands_in, bytes_in}
use Rattle.gfx_model.specs.Checks.{is_among}
use Rattle.gfx_commands.specs.declared.recording.Recording.{Recording}
use Rattle.gfx_commands.specs.Recording.{buffer_of}

-- the state, flags and commands of each buffer; those of a new one where none are kept
unfoldable pub buffers : FinMap nat_cmp Recording → ℕ → Buffer
buffers rows cb = option_map_or buffer_of (map.get rows cb) new_buffer

-- the commands of recording and executable buffers
unfoldable pub commands_total : FinMap nat_cmp Recording → ℕ
commands_total rows = total (λ cb row. commands_in (buffer_of row)) rows

-- the bytes of their fields
unfoldable pub bytes_total : FinMap nat_cmp Recording → ℕ
bytes_total rows = total (λ cb row. bytes_in (buffer_of row)) rows

-- each recording or executable buffer is one of these
abbrev pub HoldsKept : (ℕ → Buffer) → List ℕ → Type 0
HoldsKept buffer ids = (cb : ℕ) → is_kept (buffer cb).state ≡ true → is_among cb ids ≡ true
