-- The lines that stand for held writes, and what a line adds to them.
use Rattle.std.specs.Prelude.{◌≡◌, ℕ, List, [], ◌∷◌, ◌++◌, map, MatchOption, MatchBool}
use Rattle.gfx_script_model.specs.Scripts.{Line}
use Rattle.gfx_shadow.specs.Writes.{Write, fills}
use Rattle.gfx_shadow.specs.Gathered.{held_of, ends_holding, event_of_write}

-- a fill as a line with this number
abbrev pub fill_line : ℕ → Write → Line
fill_line number w = record { number = number; event = event_of_write w }

-- fills as lines with this number
abbrev pub fills_at : ℕ → List Write → List Line
fills_at number fs = map (fill_line number) fs

-- what the lines and the fills of what is held are after a line: a write is held, and before a line that ends holding the fills stand as lines
abbrev pub Takes : Line → List Write → List Line → List Write → List Line → Type 0
Takes l held lines held' lines' = MatchOption (held_of l.event)
    (MatchBool (ends_holding l.event)
    ((held' ≡ []) × (lines' ≡ (lines ++ fills_at l.number held) ++ l ∷ []))
    ((held' ≡ held) × (lines' ≡ lines ++ l ∷ [])))
    (λ w. (held' ≡ fills (held ++ w ∷ [])) × (lines' ≡ lines))
