-- The ids that events name or create, field by field.
use Rattle.std.specs.Prelude.{ℕ, List, [], ◌∷◌, ◌++◌, flat_map}
use Rattle.gfx_model.specs.Events.{Event}
use Rattle.gfx_model.specs.Fields.{Value, atoms_of, named_fields}
use Rattle.gfx_model.specs.Fields.Value.{names, makes, maybe, names_each, makes_each, records, submitted}
use Rattle.gfx_script_model.specs.Ids.{atom_ids}

-- the ids that a value names or makes; 0 may mean none
abbrev pub value_ids : Value → List ℕ
value_ids (names n) = n ∷ []
value_ids (makes n) = n ∷ []
value_ids (maybe n) = n ∷ []
value_ids (names_each xs) = xs
value_ids (makes_each xs) = xs
value_ids (records rs) = flat_map (flat_map atom_ids) (atoms_of rs)
value_ids (submitted ss) = flat_map (λ s. s.waits ++ s.cbs ++ s.signals) ss
value_ids _ = []

-- the ids of an event
unfoldable pub ids_in : Event → List ℕ
ids_in e = flat_map (λ f. value_ids f.value) (named_fields 2 e)
