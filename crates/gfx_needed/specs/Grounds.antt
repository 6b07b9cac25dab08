-- What an object leads to, as it is looked up.
use Rattle.std.specs.Prelude.{ℕ, List, [], ◌∷◌, ◌++◌, flat_map, if◌then◌else◌}
use Rattle.std.specs.Option.{option_map_or}
use Rattle.gfx_types.specs.declared.op.Place.{Place}
use Rattle.gfx_types.specs.declared.op.Place.TheVariants as place
use Rattle.gfx_model.specs.Steps.{Detail}
use Rattle.gfx_model.specs.Steps.Detail.{a_command_buffer, a_swapchain}
use Rattle.gfx_model.specs.Questions.{is_kept}
use Rattle.gfx_model.specs.Views.{View, fetched, window}
use Rattle.gfx_needed.specs.Fields.{ids_in}

-- the memory in which a place is
abbrev pub memory_of : Place → List ℕ
memory_of (place.Memory m) = m ∷ []
memory_of (place.Image x) = []

-- the memory under a usable resource
abbrev pub memory_under : View → ℕ → List ℕ
memory_under v x = option_map_or (λ w. memory_of w.place) (window v x) []

-- what commands name, their own buffer with it
abbrev pub named_by_commands : View → ℕ → List ℕ
named_by_commands v cb = if is_kept (v.buffer cb).state then flat_map ids_in (v.buffer cb).commands else []

-- what an object of these parameters leads to beside its parent and its memory
abbrev pub linked : View → ℕ → Detail → List ℕ
linked v x (a_swapchain surface images format width height usage) = surface ∷ fetched v x
linked v x a_command_buffer = named_by_commands v x
linked v x _ = []

-- what a live object leads to: its parent, the memory under it, and what it is linked with
abbrev pub grounds : View → ℕ → List ℕ
grounds v x = option_map_or (λ o. (o.parent ∷ []) ++ memory_under v x ++ linked v x o.detail) (v.live x) []
