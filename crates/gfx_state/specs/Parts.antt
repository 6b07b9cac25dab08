-- What the parts answer together.
use Rattle.gfx_model.specs.Views.{View}
use Rattle.gfx_objects.specs.Objects.{answers}
use Rattle.gfx_swap.specs.Signals.{is_signalled}
use Rattle.gfx_swap.specs.Acquired.{is_acquired}
use Rattle.gfx_commands.specs.Recordings.{buffers}
use Rattle.gfx_state.specs.declared.parts.Parts.{Parts}

-- the answers of the parts; frames are kept elsewhere, and plain here
abbrev pub answers_in : Parts → View
answers_in p = record (answers p.objects.now) { buffer = buffers p.recordings.now; signalled = is_signalled p.signals.now; acquired = is_acquired p.images.now }
