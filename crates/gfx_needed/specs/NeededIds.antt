-- The ids that a range needs, as far as they were found.
use Rattle.std.specs.Prelude.{◌≡◌, ◌≤◌, ◌⊎◌, ℕ, ◌+◌, Bool, true, not, List, count_by, length, is_some, Contains, IsTrue}
use Rattle.gfx_table.specs.IdSet.{holds}
use Rattle.gfx_model.specs.Events.{Event}
use Rattle.gfx_model.specs.Views.{View}
use Rattle.gfx_feature_model.specs.Lean.{Needed, named_in}
use Rattle.gfx_lean_law.specs.Computed.{AreMarked, stands_on}
use Rattle.gfx_needed.specs.declared.needed.NeededIds.{NeededIds}

-- the id is live
abbrev pub is_there : View → ℕ → Bool
is_there v x = is_some (v.live x)

-- the id is marked
unfoldable pub is_marked : NeededIds → ℕ → Bool
is_marked n x = holds n.marks x

-- what is left to do: the live ids that have no mark, and the marked ones that were not looked at
abbrev pub work : View → NeededIds → ℕ
work v n = count_by (λ x. not (is_marked n x)) v.ids + length n.pending.items

-- the live ones of these ids were marked, and no others; those that had no mark are to be looked at
pub record Marks (v : View) (ids : List ℕ) (old new : NeededIds) : Type 0 where
  pub stays : (x : ℕ) → is_marked old x ≡ true → is_marked new x ≡ true
  pub all : (x : ℕ) → Contains ids x → is_there v x ≡ true → is_marked new x ≡ true
  pub only : (x : ℕ) → is_marked new x ≡ true → (is_marked old x ≡ true) ⊎ (Contains ids x × (is_there v x ≡ true))
  pub waits : (x : ℕ) → Contains old.pending.items x → Contains new.pending.items x
  pub added : (x : ℕ) → is_marked new x ≡ true → (is_marked old x ≡ true) ⊎ Contains new.pending.items x
  pub pending : (x : ℕ) → Contains new.pending.items x → Contains old.pending.items x ⊎ (is_marked new x ≡ true)
  pub less : work v new ≤ work v old

-- What the range names is marked, each mark has its reason, and what a marked id depends on is marked, or is to be.
pub record IsSearched (v : View) (range : List Event) (n : NeededIds) : Type 0 where
  pub named : (x : ℕ) → is_there v x ≡ true → Contains (named_in range) x → is_marked n x ≡ true
  pub needed : (x : ℕ) → is_marked n x ≡ true → Needed v range x
  pub live : (x : ℕ) → is_marked n x ≡ true → is_there v x ≡ true
  pub pending : (x : ℕ) → Contains n.pending.items x → is_marked n x ≡ true
  pub closed : (x : ℕ) → is_marked n x ≡ true → Contains n.pending.items x ⊎ ((y : ℕ) → Contains (stands_on v x) y → is_marked n y ≡ true)

-- the marked ids are just those that the range needs
pub record IsFound (v : View) (range : List Event) (id : ℕ → Bool) : Type 0 where
  pub marked : AreMarked v range id
  pub needed : (x : ℕ) → IsTrue (id x) → Needed v range x
