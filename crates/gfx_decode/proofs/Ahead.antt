-- The place of a decoder, and how many blocks were read before it.
use Rattle.std.proofs.Common.{◌≡◌, ◌≤◌, ◌<◌, ◌+◌, ◌^◌, ℕ, arith}
use Rattle.gfx_blocks.specs.declared.header.Header.{Header}
use Rattle.gfx_decode.specs.declared.decoder.Raw.{Raw}
use Rattle.gfx_decode.specs.Reachable.{IsBehind, blocks_ahead}
use Rattle.gfx_decode.specs.Stage.{Stage, Fresh, At, Failed}
use Rattle.gfx_decode.specs.Decoding.{IsBlockAt, behind, start_of}

pub none_behind : (header : Header) (count : ℕ) → count ≡ 0 → IsBehind count (At header.minor (start_of header))
none_behind header count none = omega (arith, none)

-- no more blocks were read than a file may have
pub few_behind : (count : ℕ) (stage : Stage) (raw : Raw) → IsBehind count stage → IsBlockAt stage raw → raw.number ≤ 2 ^ 33 + 1 → count ≤ 2 ^ 33
few_behind count Fresh raw place block few = absurd place
few_behind count (At minor at) raw place block few = omega (arith, place, block.number, few)
few_behind count (Failed why) raw place block few = absurd place

-- each block leaves fewer to come
pub fewer_ahead : (stage : Stage) (raw : Raw) → IsBlockAt stage raw → raw.number ≤ 2 ^ 33 + 1 → blocks_ahead (behind stage raw) < blocks_ahead stage
fewer_ahead Fresh raw block few = absurd block
fewer_ahead (At minor at) raw block few = omega (arith, block.number, few)
fewer_ahead (Failed why) raw block few = absurd block

pub behind_more : (count new : ℕ) (stage : Stage) (raw : Raw) → IsBehind count stage → new ≤ count + 1 → IsBehind new (behind stage raw)
behind_more count new Fresh raw place most = absurd place
behind_more count new (At minor at) raw place most = omega (arith, place, most)
behind_more count new (Failed why) raw place most = absurd place
