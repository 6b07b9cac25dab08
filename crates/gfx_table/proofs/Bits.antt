-- What a set bit makes of the set of ids.
use Rattle.std.proofs.Common.{◌≡◌, ℕ, ◌*◌, ◌/◌, ◌%◌, ◌^◌, ◌<◌, ◌==◌, ◌||◌, ◌≢◌, false, bit_or, w64, Option, Some, None, refl, ap, ◌∙◌, arith}
use Rattle.std.specs.Int.{bit_at}
use Rattle.std.specs.Option.{unwrap_or}
use Rattle.std.specs.Ordering.{nat_cmp}
use Rattle.std.specs.Cmp.{nat_cmp_total}
use Rattle.std.specs.FinMap as map
use Rattle.std.specs.FinMap.{get-insert, get-empty}
use Rattle.std.proofs.lemmas.Bool.Decides.{nat_tests}
use Rattle.std.proofs.lemmas.Nat.Bits.{bit_at-zero, bit_at_set_same, bit_at_set_other}
use Rattle.gfx_table.specs.Slots.{Slots}
use Rattle.gfx_table.specs.IdSet.{has_bit, holds}

bit_or_none : (o : Option ℕ) (place : ℕ) → has_bit o place ≡ (bit_at (unwrap_or o 0) place == 1)
bit_or_none None place = rw (bit_at-zero place) refl
bit_or_none (Some word) place = refl

same_id : (a b : ℕ) → a / 64 ≡ b / 64 → a % 64 ≡ b % 64 → a ≡ b
same_id a b q r = omega arith

pub holds-empty : (words : Slots ℕ) → words.map ≡ map.empty → holds words ≡ (λ id. false)
unfolding holds
holds-empty words e = λ i id. (ap (λ m. has_bit (map.get m (id / 64)) (id % 64)) e ∙ ap (λ o. has_bit o (id % 64)) (get-empty nat_cmp (id / 64))) i

pub holds-same : (new old : Slots ℕ) → new.map ≡ old.map → holds new ≡ holds old
unfolding holds
holds-same new old e = λ i id. has_bit (map.get (e i) (id / 64)) (id % 64)

abbrev with_bit : ℕ → ℕ → ℕ
with_bit word place = bit_or word (1 * 2 ^ place % 2 ^ 64)

bit_after : (word place other : ℕ) → place < 64 → (bit_at (with_bit word place) other == 1) ≡ (place == other || bit_at word other == 1)
bit_after word place other within =
    let same = bit_at_set_same w64 word place within in
    let here : other ≡ place → bit_at (with_bit word place) other ≡ 1 = λ e. rw e same in
    let apart : other ≢ place → bit_at (with_bit word place) other ≡ bit_at word other = λ ne. bit_at_set_other w64 word place within other ne in
    grind (arith, nat_tests, here, apart)

holds_after : (new old : Slots ℕ) (id : ℕ) → new.map ≡ map.insert old.map (id / 64) (with_bit (unwrap_or (map.get old.map (id / 64)) 0) (id % 64))
    → (other : ℕ) → holds new other ≡ (id == other || holds old other)
unfolding holds
holds_after new old id e other =
    let got = ap (λ m. has_bit (map.get m (other / 64)) (other % 64)) e
    ∙ ap (λ o. has_bit o (other % 64)) (get-insert nat_cmp_total old.map (id / 64) (with_bit (unwrap_or (map.get old.map (id / 64)) 0) (id % 64)) (other / 64)) in
    let within : id % 64 < 64 = omega arith in
    let set = bit_after (unwrap_or (map.get old.map (id / 64)) 0) (id % 64) (other % 64) within in
    let plain = bit_or_none (map.get old.map (id / 64)) (other % 64) in
    let same : other / 64 ≡ id / 64 → has_bit (map.get old.map (other / 64)) (other % 64) ≡ has_bit (map.get old.map (id / 64)) (other % 64) = λ q. rw q in
    let is = same_id id other in
    grind (arith, nat_tests, got, set, plain, same, is)

pub holds-insert : (new old : Slots ℕ) (id : ℕ)
    → new.map ≡ map.insert old.map (id / 64) (bit_or (unwrap_or (map.get old.map (id / 64)) 0) (1 * 2 ^ (id % 64) % 2 ^ 64))
    → holds new ≡ (λ other. id == other || holds old other)
holds-insert new old id e = λ i other. (holds_after new old id e other) i
