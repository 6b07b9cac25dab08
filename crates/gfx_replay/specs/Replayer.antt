-- What a replay stands for.
use Rattle.std.specs.Prelude.{◌≡◌, false, List, Option}
use Rattle.gfx_model.specs.Events.{Event}
use Rattle.gfx_model.specs.Blocks.{Content}
use Rattle.gfx_model.specs.Meaning.{content_onto}
use Rattle.gfx_tracker.specs.Tracker.{answers}
use Rattle.gfx_replay.specs.Held.{Bytes}
use Rattle.gfx_replay.specs.Places.{bytes_in}
use Rattle.gfx_replay.specs.Stands.{Stands}
use Rattle.gfx_replay.specs.Fed.{AreShown, frame_by}
use Rattle.gfx_replay.specs.declared.shown.ShownFrame.{ShownFrame}
use Rattle.gfx_replay.specs.declared.replayer.Replayer.{Replayer}

-- the bytes of a replay's places
abbrev pub bytes_of : Replayer → Bytes
bytes_of r = bytes_in r.places

-- it found memory so far, and objects and bytes are as after this history, which has no fault
pub record StandsFor (r : Replayer) (h : List Event) : Type 0 where
  pub found : r.is_lost ≡ false
  pub stands : Stands (answers r.tracker) (bytes_of r) h

-- a block was taken: the replay stands for the history with it, and what is shown is its frame
pub record IsFed (r : Replayer) (h : List Event) (c : Content) (shown : Option ShownFrame) : Type 0 where
  pub stands : StandsFor r (content_onto c h)
  pub shows : AreShown (bytes_of r) shown (frame_by h c)
