-- What a screen writes.
use Rattle.std.specs.Prelude.{ℕ, List, [], if◌then◌else◌, flat_map}
use Rattle.sha2.specs.Sha256.{sha256}
use Rattle.gfx_types.specs.declared.frame.Frame.{Frame}
use Rattle.gfx_model.specs.Text.{frame_lines}
use Rattle.gfx_frames.specs.Texts.{text_of}
use Rattle.gfx_frames.specs.declared.lines.Listing.{Listing}
use Rattle.gfx_replay.specs.Replayer.{bytes_of}
use Rattle.gfx_replay.specs.declared.shown.ShownFrame.{ShownFrame}
use Rattle.gfx_player.specs.Asked.{is_asked}
use Rattle.gfx_player.specs.Walks.{first_frame_of}
use Rattle.gfx_player.specs.declared.player.Player.{Player}
use Rattle.gfx_play.specs.declared.screen.Screen.{Screen}

-- the lines of frames
unfoldable pub lines_of : Listing → List Frame → List ℕ
lines_of l fs = flat_map (frame_lines l.minor sha256 l.pixels) fs

-- the lines of the frame that a player shows, where it is asked for
abbrev pub text_by : Screen → Player → ShownFrame → List ℕ
text_by s p f = if is_asked s.asked (first_frame_of p) f.number then text_of (bytes_of p.replayer) s.listing f else []
