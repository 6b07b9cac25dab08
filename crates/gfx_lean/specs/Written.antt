-- What is written of a range, and what is kept of the section before it.
use Rattle.std.specs.Prelude.{ℕ, List, ◌++◌, flat_map}
use Rattle.gfx_model.specs.Events.{Event}
use Rattle.gfx_model.specs.Spelling.{encoding, header}
use Rattle.gfx_feature_model.specs.Lean.{Keep, kept_section}

-- a header, what is kept of the section, and blocks
unfoldable pub lean_text : (m : ℕ) → Keep → List Event → (first : ℕ) → (blocks : List ℕ) → List ℕ
lean_text m k h first blocks = header m ++ flat_map (encoding 1 0) (kept_section k h first) ++ blocks
