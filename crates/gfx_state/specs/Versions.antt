-- A section in both versions of a file.
use Rattle.std.specs.Prelude.{◌≡◌, ℕ, true, List, flat_map}
use Rattle.gfx_model.specs.Events.{Event}
use Rattle.gfx_model.specs.Spelling.{encoding}
use Rattle.gfx_model.specs.History.{is_valid}
use Rattle.gfx_model.specs.Section.{section}
use Rattle.gfx_feature_model.specs.Lean.{Keep, kept_section}

-- the section for a valid history, whatever its frame, has the same blocks in every minor version
abbrev pub SectionInVersions : Type 0
SectionInVersions = (m n : ℕ) (h : List Event) → is_valid h ≡ true → flat_map (encoding m 0) (section h n) ≡ flat_map (encoding 1 0) (section h n)

-- and so has what is kept of it, whatever that is
abbrev pub KeptInVersions : Type 0
KeptInVersions = (m n : ℕ) (k : Keep) (h : List Event) → is_valid h ≡ true
    → flat_map (encoding m 0) (kept_section k h n) ≡ flat_map (encoding 1 0) (kept_section k h n)
