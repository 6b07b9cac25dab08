-- What feeding a block answers, and what follows it.
use Rattle.std.specs.Prelude.{◌≡◌, List, ◌∷◌, Option, Some, None, Result, Ok, Err, IfSome, option_map}
use Rattle.std.specs.List.{AllByRecursion}
use Rattle.gfx_types.specs.declared.names.Fault.{Fault}
use Rattle.gfx_types.specs.declared.frame.Frame.{Frame}
use Rattle.gfx_model.specs.Events.{Event}
use Rattle.gfx_model.specs.Views.{View}
use Rattle.gfx_model.specs.Checks.{first_broken}
use Rattle.gfx_model.specs.Table.{checks_of}
use Rattle.gfx_model.specs.Blocks.{Content}
use Rattle.gfx_model.specs.Blocks.Content.{skipped, effect}
use Rattle.gfx_replay.specs.Held.{Bytes}
use Rattle.gfx_replay.specs.Shown.{frame_of, frame_after, IsThere}
use Rattle.gfx_replay.specs.Stands.{Stands}
use Rattle.gfx_replay.specs.declared.fault.FeedFault.{FeedFault}
use Rattle.gfx_replay.specs.declared.fault.FeedFault.TheVariants.{Rule, WantMemory}
use Rattle.gfx_replay.specs.declared.shown.ShownFrame.{ShownFrame}

-- the rule fault of an answer
abbrev pub rule_of : FeedFault → Option Fault
rule_of (Rule fault) = Some fault
rule_of WantMemory = None

-- the rule fault of the answer to a block, where it has one
abbrev pub rule_in : Result (Option ShownFrame) FeedFault → Option Fault
rule_in (Ok shown) = None
rule_in (Err fault) = rule_of fault

-- the first check that a block breaks, by the answers before it
abbrev pub broken_by : View → Content → Option Fault
broken_by v skipped = None
broken_by v (effect thread event) = first_broken v (checks_of event)

-- the frame that a block shows after a history
abbrev pub frame_by : List Event → Content → Option Frame
frame_by h skipped = None
frame_by h (effect thread event) = frame_after h event

-- What is shown is this frame, with the bytes of its images, which are there.
pub record AreShown (b : Bytes) (shown : Option ShownFrame) (frame : Option Frame) : Type 0 where
  pub same : option_map (frame_of b) shown ≡ frame
  pub there : IfSome shown (λ f. AllByRecursion (IsThere b) f.pictures.items)

-- an event was taken: all stands for the history with it, and what is shown is its frame
pub record IsTaken (answers : View) (b : Bytes) (h : List Event) (e : Event) (shown : Option ShownFrame) : Type 0 where
  pub stands : Stands answers b (e ∷ h)
  pub shows : AreShown b shown (frame_after h e)
