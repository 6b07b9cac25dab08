-- What was written of events, each as a block under thread 0.
use Rattle.std.specs.Prelude.{◌≡◌, ℕ, ◌≤◌, List, flat_map, Result, Err, OnOk, OnErr}
use Rattle.std.specs.declared.option.Option.{Option}
use Rattle.std.specs.Io.KnownBytes.{Appends}
use Rattle.gfx_io.specs.Causes.{Rose}
use Rattle.gfx_io.specs.Pieces.{AppendsPart}
use Rattle.gfx_model.specs.Events.{Event}
use Rattle.gfx_model.specs.Spelling.{encoding}
use Rattle.gfx_state.specs.declared.fault.StateFault.{StateFault}
use Rattle.gfx_state.specs.declared.fault.StateFault.TheVariants.{SinkFault}

-- the blocks of events under thread 0
unfoldable pub blocks_of : List Event → List ℕ
blocks_of events = flat_map (encoding 1 0) events

-- A sink took the blocks of these events, or a prefix of them where the call failed; and it fails only where the sink did, or for
-- a lack of memory.
pub record Wrote (old new : Option (List ℕ)) (before now : ℕ) (events : List Event) (result : Result (Unit {0}) StateFault) : Type 0 where
  pub whole : OnOk result (Appends old new (blocks_of events))
  pub front : OnErr result (AppendsPart old new (blocks_of events))
  pub later : before ≤ now
  pub cause : result ≡ Err SinkFault → Rose before now

-- the count of a sink's faults never falls, and it rose where the call failed for the sink
pub record Counted (before now : ℕ) (result : Result (Unit {0}) StateFault) : Type 0 where
  pub later : before ≤ now
  pub cause : result ≡ Err SinkFault → Rose before now
