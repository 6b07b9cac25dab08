use Rattle.std.proofs.Common.{◌≡◌, ◌≤◌, ℕ, true, drop, is_some}
use Rattle.std.specs.FinMap as map
use Rattle.gfx_table.specs.Dense.{is_listed}
use Rattle.gfx_table.proofs.id_list.forget.Given as goal

-- each id that has a place still is one of those from here on
abbrev pub invariant-ids : goal.invariant-ids
invariant-ids l = ((q : ℕ) → is_some (map.get l.places.map q) ≡ true → is_listed q (drop l.id-index l.ids) ≡ true) × (l.fn.places.spare ≤ l.places.spare)
