-- Rows that follow one another without a gap are one row.
use Rattle.std.proofs.Common.{◌≡◌, ℕ, ◌+◌, ◌-◌, ◌*◌, ◌≤◌, ◌<◌, zero, suc, List, ◌++◌, length, take, drop, sym, ap, ◌∙◌, arith, slice_range}
use Rattle.std.proofs.lemmas.List.{take_all, drop-drop, length-drop}
use Rattle.std.proofs.lemmas.List.Edits.{length-between}
use lib.Seq.{paste, paste-zero}
use Rattle.gfx_pages.specs.Lists.{overwrite}
use Rattle.gfx_pages.proofs.Lists.{write_step, paste_take}
use Rattle.gfx_device.specs.declared.rows.Rows.{Rows}
use Rattle.gfx_device.specs.Rows.{copied, AreWithin}

-- a range behind a place is a range of what follows the place
range_behind : (s : List ℕ) (at n m : ℕ) → slice_range s (at + n) (at + n + m) ≡ slice_range (drop at s) n (n + m)
range_behind s at n m =
    ap (λ k. take k (drop (at + n) s)) (let e : at + n + m - (at + n) ≡ n + m - n = omega arith in e)
    ∙ ap (take (n + m - n)) (sym (drop-drop n at s))

-- an overwrite pastes all of the new
overwrite_is : (xs : List ℕ) (at : ℕ) (new : List ℕ) → overwrite xs at new ≡ paste xs at new (length new)
overwrite_is xs at new = ap (λ ys. take at xs ++ ys ++ drop (at + length new) xs) (sym (take_all (length new) new (omega arith)))

pub rows_joined : (c : Rows) (source t : List ℕ) (k : ℕ) → c.to_step ≡ c.length → c.from_step ≡ c.length → c.from_offset + k * c.length ≤ length source → c.to_offset ≤ length t →
    copied c (λ here. source) k t ≡ paste t c.to_offset (drop c.from_offset source) (k * c.length)
rows_joined c source t zero to from inside start = paste-zero t c.to_offset (drop c.from_offset source) ∙ ap (paste t c.to_offset (drop c.from_offset source)) (let e : 0 ≡ 0 * c.length = omega arith in e)
rows_joined c source t (suc k) to from inside start =
    let n = k * c.length in
    let rest = drop c.from_offset source in
    let next : suc k * c.length ≡ n + c.length = omega arith in
    let room : n + c.length ≤ length rest = (let e : length rest ≡ length source - c.from_offset = length-drop c.from_offset source in omega arith) in
    let here = copied c (λ here. source) k t in
    let is : here ≡ paste t c.to_offset rest n = rows_joined c source t k to from (omega arith) start in
    let newest =
    ap (λ z. overwrite here (c.to_offset + k * z) (slice_range source (c.from_offset + k * c.from_step) (c.from_offset + k * c.from_step + c.length))) to
    ∙ ap (λ z. overwrite here (c.to_offset + n) (slice_range source (c.from_offset + k * z) (c.from_offset + k * z + c.length))) from
    ∙ ap (overwrite here (c.to_offset + n)) (range_behind source c.from_offset n c.length)
    ∙ overwrite_is here (c.to_offset + n) (slice_range rest n (n + c.length)) in
    write_step t c.to_offset rest n c.length here (copied c (λ here. source) (suc k) t) room start is newest ∙ ap (paste t c.to_offset rest) (sym next)

-- the last of some rows ends where all of them end
pub rows_end : (n offset step size rows : ℕ) → 0 < rows → step ≡ size → AreWithin n offset step size rows → offset + rows * size ≤ n
rows_end n offset step size zero some same within = elim some [ ]
rows_end n offset step size (suc k) some same within =
    let last = within k (omega arith) in
    let e : k * step ≡ k * size = ap (λ z. k * z) same in
    omega arith

-- the bytes of all rows at once, over rows without a gap
pub joined_whole : (c : Rows) (source t : List ℕ) → c.to_step ≡ c.length → c.from_step ≡ c.length → c.from_offset + c.rows * c.length ≤ length source → c.to_offset ≤ length t →
    overwrite t c.to_offset (slice_range source c.from_offset (c.from_offset + c.rows * c.length)) ≡ copied c (λ here. source) c.rows t
joined_whole c source t to from inside start =
    let n = c.rows * c.length in
    let all = slice_range source c.from_offset (c.from_offset + n) in
    let long : length all ≡ n = (let e = length-between source c.from_offset (c.from_offset + n) inside in omega arith) in
    overwrite_is t c.to_offset all
    ∙ ap (paste t c.to_offset all) long
    ∙ ap (λ k. paste t c.to_offset (take k (drop c.from_offset source)) n) (let e : c.from_offset + n - c.from_offset ≡ n = omega arith in e)
    ∙ paste_take t c.to_offset (drop c.from_offset source) n
    ∙ sym (rows_joined c source t c.rows to from inside start)
