-- Where a call may occur.
use Rattle.std.proofs.Common.{◌≡◌, [], ◌∷◌, refl, if◌then◌else◌}
use Rattle.gfx_types.specs.declared.call.Call.{Call}
use Rattle.gfx_types.specs.declared.call.Call.TheVariants as call
use Rattle.gfx_model.specs.Events.{event_of_call}
use Rattle.gfx_model.specs.Spelling.{id_of}
use Rattle.gfx_model.specs.Table.{place_of, stands_in_section}
use Rattle.gfx_model.specs.Checks.Check.{outside}

pub of_call : (c : Call) → place_of (event_of_call c) ≡ (if stands_in_section (id_of (event_of_call c)) then [] else outside ∷ [])
unfolding place_of id_of
of_call (call.CreateInstance x0 x1) = refl
of_call _ = refl
