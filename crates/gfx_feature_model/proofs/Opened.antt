-- The definitions that examples compute.
use Rattle.std.specs.Prelude.{ℕ}
use Rattle.gfx_model.proofs.ExampleCaptures as captures
use Rattle.gfx_script_model.specs.EventNames.{event_name}
use Rattle.gfx_script_model.specs.Ids.{defines_of, map_ids, uses_of}
use Rattle.gfx_feature_model.specs.Lean.{arrives, kept_section}

-- the captures, and what lean files and listings are made of
unfoldable pub all : ℕ
unfolding captures.all event_name uses_of defines_of map_ids kept_section arrives
all = 0
