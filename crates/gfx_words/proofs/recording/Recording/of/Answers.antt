use Rattle.gfx_words.proofs.Only.{only_recording}
use Rattle.gfx_words.proofs.recording.Recording.of.Goals as goal

pub returns-clause-only : goal.returns-clause-only
returns-clause-only c = only_recording _ _ c.by_count.ensures.some
