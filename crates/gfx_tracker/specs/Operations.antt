-- The operations of an event: what it does to bytes and layouts.
use Rattle.std.specs.Prelude.{ℕ, List, [], ◌∷◌, flat_map, Some}
use Rattle.std.specs.Option.{option_map_or}
use Rattle.gfx_types.specs.declared.op.Op.{Op}
use Rattle.gfx_types.specs.declared.op.Op.TheVariants as op
use Rattle.gfx_types.specs.declared.op.Place.TheVariants as place
use Rattle.gfx_model.specs.Events.{Event}
use Rattle.gfx_model.specs.Events.Event.{QueueSubmit, FillMemory, InitImage}
use Rattle.gfx_model.specs.Steps.{Detail}
use Rattle.gfx_model.specs.Steps.Detail.{an_image}
use Rattle.gfx_model.specs.Views.{View}
use Rattle.gfx_model.specs.Checks.{Turn, turns_of}
use Rattle.gfx_model.specs.Checks.Turn.{execute}
use Rattle.gfx_ops.specs.Operations.{ops_of_command}

-- the operations of a turn: an execution does the buffer's commands
abbrev pub ops_of_turn : View → Turn → List Op
ops_of_turn v (execute cb) = flat_map (ops_of_command v) (v.buffer cb).commands
ops_of_turn v _ = []

-- an image of a swapchain gets the bytes of the effect
abbrev pub image_op : Detail → ℕ → List Op
image_op (an_image _ _ _ _ (Some index)) image = op.PutGiven (place.Image image) 0 ∷ []
image_op _ image = []

-- an image gets its layout, and one of a swapchain the bytes of the effect
abbrev pub init_ops : View → ℕ → ℕ → List Op
init_ops v image layout = op.SetLayout image layout ∷ option_map_or (λ o. image_op o.detail image) (v.live image) []

-- the operations of an event, in order: those of the buffers that a submit executes, and the bytes and layouts of metadata
unfoldable pub ops_of : View → Event → List Op
ops_of v (QueueSubmit queue submits fence) = flat_map (ops_of_turn v) (turns_of submits fence)
ops_of v (FillMemory memory offset bytes) = op.PutGiven (place.Memory memory) offset ∷ []
ops_of v (InitImage image layout bytes) = init_ops v image layout
ops_of v _ = []

-- the bytes that an event has of its own
abbrev pub given_by : Event → List ℕ
given_by (FillMemory memory offset bytes) = bytes
given_by (InitImage image layout bytes) = bytes
given_by _ = []
