use Rattle.std.proofs.Common.{◌≡◌, ◌≤◌, ◌+◌, ◌*◌, ◌-◌, ◌++◌, length, take}
use Rattle.std.specs.Prelude.{vec_len, vec_capacity}
use Rattle.gfx_model.specs.Text.{hex_text}
use Rattle.gfx_text_writer.proofs.shown.put_bytes.Given as goal

-- the bytes so far were appended, and there is room for the others
abbrev pub invariant-bytes : goal.invariant-bytes
invariant-bytes l = record {
  appended : l.out.items ≡ l.fn.out.items ++ hex_text (take l.byte-index l.bytes);
  room : vec_len l.out + 2 * (length l.bytes - l.byte-index) ≤ vec_capacity l.out;
}
