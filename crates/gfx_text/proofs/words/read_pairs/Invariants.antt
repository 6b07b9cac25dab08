use Rattle.std.proofs.Common.{◌≡◌, ◌*◌, length, take}
use Rattle.gfx_text.proofs.Hex.{PairsRead}
use Rattle.gfx_text.proofs.words.read_pairs.Given as goal

-- the bytes of the pairs so far, each with a place
abbrev pub invariant-pairs : goal.invariant-pairs
invariant-pairs l = record {
  read : PairsRead l.most (take l.i l.bytes) l.i l.word;
  places : length l.word ≡ 2 * length l.bytes;
}
