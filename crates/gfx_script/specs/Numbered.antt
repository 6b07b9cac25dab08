-- The names of a script by their texts.
use Rattle.std.specs.Prelude.{◌≡◌, ℕ, ◌+◌, ◌||◌, Bool, true, false, if◌then◌else◌, List, [], ◌∷◌, length, Option, Some, None, IsTrue}
use Rattle.std.specs.List.{list_all, list_any, slice_index_or}
use Rattle.std.specs.BTreeMap.{BTreeMap, get}
use Rattle.std.specs.Ordering.{is_eq}
use Rattle.gfx_script_model.specs.Names.{is_name}
use Rattle.gfx_script_model.specs.Scripts.{Defined, number_of, is_known, repeats, define}
use Rattle.gfx_script.specs.Keys.{key_of, key_cmp}
use Rattle.gfx_script.specs.declared.key.Key.{Key}
use Rattle.gfx_script.specs.declared.names.Definition.{Definition}

-- a definition
abbrev pub definition_of : Definition → Defined
definition_of d = record { name = d.name.now; phase = d.phase; thread = d.thread }

-- the place of a name among the definitions, from 0 on
abbrev pub place_of : BTreeMap Key ℕ → List ℕ → Option ℕ
place_of places text = get key_cmp places (key_of text)

-- nothing is defined
abbrev pub nothing_defined : Defined
nothing_defined = record { name = []; phase = 0; thread = 0 }

-- the number of the definition at a place, where the test allows it
abbrev pub allowed_at : (Defined → Bool) → List Defined → Option ℕ → Option ℕ
allowed_at allowed names None = None
allowed_at allowed names (Some i) = if allowed (slice_index_or names i nothing_defined) then Some (i + 1) else None

-- what is defined are names, and the places are theirs
pub record ArePlaces (names : List Defined) (places : BTreeMap Key ℕ) : Type 0 where
  pub named : IsTrue (list_all (λ d. is_name d.name) names)
  pub placed : (allowed : Defined → Bool) (text : List ℕ) → IsTrue (is_name text) → number_of allowed names text ≡ allowed_at allowed names (place_of places text)

-- one key has this place, and each other key what it had
abbrev pub PutsPlace : Key → ℕ → BTreeMap Key ℕ → BTreeMap Key ℕ → Type 0
PutsPlace key place before after = (other : Key) → get key_cmp after other ≡ (if is_eq (key_cmp key other) then Some place else get key_cmp before other)

-- the name is defined already
abbrev pub is_taken : List Defined → List ℕ → Bool
is_taken names text = is_known names (λ d. true) text

-- one of these names is defined already, or occurs twice
abbrev pub clashes : List Defined → List (List ℕ) → Bool
clashes names texts = list_any (is_taken names) texts || repeats texts

-- what defining a name answers: its number, or none where it is taken
abbrev pub Defines : (phase thread : ℕ) → List Defined → List ℕ → Option ℕ → List Defined → Type 0
Defines phase thread before name (Some n) after = (is_taken before name ≡ false) × (after ≡ define phase thread before (name ∷ [])) × (n ≡ length before + 1)
Defines phase thread before name None after = (is_taken before name ≡ true) × (after ≡ before)
