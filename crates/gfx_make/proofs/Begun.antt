-- The setup, computed.
use Rattle.std.proofs.Common.{◌≡◌, ℕ, true, [], refl, ◌==◌, if◌then◌else◌}
use Rattle.gfx_model.specs.Spelling.{fields_of, spelling, id_of, type_of}
use Rattle.gfx_model.specs.Steps.{resources_of}
use Rattle.gfx_model.specs.Questions.{live, ids, used, bound, mapped, buffer, signalled, acquired, executed_changes, layout, next_frame, open_section}
use Rattle.gfx_model.specs.Views.{View}
use Rattle.gfx_model.specs.Checks.{broken, turns_fault, layouts_of}
use Rattle.gfx_model.specs.Table.{place_of, row_of}
use Rattle.gfx_model.specs.Effects.{changes_of_command, effect_of}
use Rattle.gfx_model.specs.History.{onto, steps, is_valid, view}
use Rattle.gfx_model.specs.After.{after}
use Rattle.gfx_make.specs.Made.{setup}

-- opens all that is computed
unfoldable pub opened : ℕ
unfolding fields_of spelling id_of type_of resources_of live ids used bound mapped buffer signalled acquired executed_changes layout next_frame open_section broken turns_fault layouts_of place_of row_of changes_of_command effect_of steps after setup
opened = 0

pub setup_valid : is_valid (onto setup []) ≡ true
unfolding opened
setup_valid = refl

-- the answers after the setup
abbrev pub begun : View
begun = view (onto setup [])

-- the answers before frame k, the two images having these layouts
abbrev pub ready : (k six seven : ℕ) → View
ready k six seven = record begun { layout = λ x. if 6 == x then six else (if 7 == x then seven else begun.layout x); next_frame = k }
