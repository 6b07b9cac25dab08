use Rattle.std.proofs.Common.{◌≡◌, ◌≤◌, ◌-◌, ◌++◌, ◌+◌, List, ℕ, length, take, vec_len}
use Rattle.std.specs.Io.KnownBytes.{Consumes}
use Rattle.gfx_decode.proofs.reading.read_rest.Given as goal

-- the head and the part of the payload that was read are at the start of the buffer
abbrev pub invariant-pieces : goal.invariant-pieces
invariant-pieces g l =
    let source = g.S.Source in
    record {
      held : (part : List ℕ) × (take l.came l.buffer.items ≡ l.head ++ part) × (12 + length part ≡ l.came) × Consumes (source.left l.fn.source) (source.left l.source) part;
      within : l.came ≤ l.end;
      there : l.came ≤ vec_len l.buffer;
      later : source.faults l.fn.source ≤ source.faults l.source;
    }

abbrev pub decreases-pieces : goal.decreases-pieces
decreases-pieces g l = l.end - l.came
