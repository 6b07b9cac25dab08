-- What the registry answers.
use Rattle.gfx_model.specs.Views.{View}
use Rattle.gfx_tracker.specs.declared.registry.Registry.{Registry}
use Rattle.gfx_tracker.specs.Registered.{registered}

-- the answers on objects, signals and acquired images; buffers and frames are kept elsewhere, and plain here
abbrev pub answers_of : Registry → View
answers_of r = registered r.objects r.signals r.images
