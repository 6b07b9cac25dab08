-- Ids put into values in order: those that a value names, and those that it makes.
use Rattle.std.specs.Prelude.{◌≡◌, ℕ, ◌<◌, ◌^◌, nat_le, Bool, ◌&&◌, List, ◌++◌, length}
use Rattle.std.specs.List.{AllByRecursion}
use Rattle.gfx_model.specs.Events.{Event}
use Rattle.gfx_script_model.specs.Ids.{uses_of, defines_of, map_ids}
use Rattle.gfx_script.specs.declared.supply.Supply.{Supply}

-- a record took its ids from the prefix
pub record TakesNamed {X : Type 0} (named : X → List ℕ) (blank : X → X) (before : X) (ids : List ℕ) (after : X) (left : List ℕ) : Type 0 where
  pub front : ids ≡ named after ++ left
  pub as_many : length (named after) ≡ length (named before)
  pub others : blank after ≡ blank before

-- a value took the ids that it names and those that it makes from the fronts
pub record Takes {X Y : Type 0} (named made : X → List ℕ) (out_named out_made : Y → List ℕ) (alike : Y → X → Type 0)
    (before : X) (ids : Supply) (after : Y) (left : Supply) : Type 0 where
  pub front_named : ids.named.now ≡ out_named after ++ left.named.now
  pub front_made : ids.made.now ≡ out_made after ++ left.made.now
  pub as_many_named : length (out_named after) ≡ length (named before)
  pub as_many_made : length (out_made after) ≡ length (made before)
  pub others : alike after before

-- The event with these ids: those that it names, in order, those that it makes, in order, and all else as before. Version 2
-- has all presents as a list; one of version 1 names the same.
pub record HasIds (before : Event) (named made : List ℕ) (after : Event) : Type 0 where
  pub uses : uses_of 2 after ≡ named
  pub defines : defines_of 2 after ≡ made
  pub others : map_ids (λ _. 0) after ≡ map_ids (λ _. 0) before

-- a number from one to another
abbrev pub is_between : ℕ → ℕ → ℕ → Bool
is_between low high n = nat_le low n && nat_le n high

-- each id has eight bytes
abbrev pub AreWide : List ℕ → Type 0
AreWide ids = AllByRecursion (λ n. n < 2 ^ 64) ids
