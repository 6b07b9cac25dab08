-- How many events the capture has.
use Rattle.std.proofs.Common.{◌≡◌, ℕ, zero, suc, ◌+◌, ◌*◌, length, refl, arith, length-append}
use Rattle.std.specs.Prelude.{flat_map}
use Rattle.std.specs.List.{range_with_len}
use Rattle.gfx_make.specs.Made.{setup, frame_events, made}

length_frames : (n k : ℕ) → length (flat_map frame_events (range_with_len k n)) ≡ 6 * n
unfolding frame_events
length_frames zero k = refl
length_frames (suc n) k = let more = length_frames n (k + 1) in omega (arith, more)

length_setup : length setup ≡ 25
unfolding setup
length_setup = refl

pub made_length : (n : ℕ) → length (made n) ≡ 25 + 6 * n
unfolding made
made_length n =
    let a = length-append setup (flat_map frame_events (range_with_len 1 n)) in
    let b = length_frames n 1 in
    let c = length_setup in
    omega (arith, a, b, c)
