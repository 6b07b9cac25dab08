-- The definitions that examples compute.
use Rattle.std.specs.Prelude.{ℕ}
use Rattle.gfx_model.proofs.ExampleCaptures as captures
use Rattle.gfx_script_model.specs.EventNames.{event_name}
use Rattle.gfx_script_model.specs.Ids.{defines_of, map_ids, uses_of}
use Rattle.gfx_script_model.specs.Names.{digits_within}
use Rattle.gfx_script_model.specs.Statements.{statement_tokens}

-- the captures, and what statements say
unfoldable pub all : ℕ
unfolding captures.all event_name uses_of defines_of map_ids digits_within statement_tokens
all = 0
