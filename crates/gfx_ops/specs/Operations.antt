-- What a command does, as operations of the device: a region of several rows is one copy.
use Rattle.std.specs.Prelude.{ℕ, ◌+◌, ◌*◌, Bool, true, false, ◌||◌, List, [], ◌∷◌, map, filter, Option}
use Rattle.std.specs.Option.{option_map_or}
use Rattle.gfx_types.specs.declared.lists.Barrier.{Barrier}
use Rattle.gfx_types.specs.declared.lists.BufferRegion.{BufferRegion}
use Rattle.gfx_types.specs.declared.lists.ImageRegion.{ImageRegion}
use Rattle.gfx_types.specs.declared.lists.MixedRegion.{MixedRegion}
use Rattle.gfx_types.specs.declared.op.Op.{Op}
use Rattle.gfx_types.specs.declared.op.Op.TheVariants as op
use Rattle.gfx_model.specs.Events.{Event}
use Rattle.gfx_model.specs.Events.Event.{CmdPipelineBarrier, CmdFillBuffer, CmdUpdateBuffer, CmdCopyBuffer, CmdCopyImage, CmdCopyBufferToImage, CmdCopyImageToBuffer, CmdClearColorImage}
use Rattle.gfx_model.specs.Views.{View, Window, window, size_of, format_at, width_of, height_of, texel}
use Rattle.gfx_model.specs.Checks.{row_texels}
use Rattle.gfx_model.specs.Effects.{fill_size, clear_word}
use Rattle.gfx_ops.specs.declared.shape.Shape.{Shape}

-- how the texels of an image lie
abbrev pub shape_of : View → ℕ → Shape
shape_of v image = record { width = width_of v image; height = height_of v image; texel = texel v image }

-- where a texel is in the window of an image of this shape
abbrev pub texel_in : Shape → ℕ → ℕ → ℕ
texel_in s x y = (y * s.width + x) * s.texel

-- operations in the window of a usable resource
abbrev pub ops_in : Option Window → (Window → List Op) → List Op
ops_in w f = option_map_or f w []

-- operations from one window to another
abbrev pub ops_between : Option Window → Option Window → (Window → Window → List Op) → List Op
ops_between s t f = ops_in s (λ a. ops_in t (f a))

-- a barrier sets a layout
abbrev pub barrier_op : Barrier → Op
barrier_op b = op.SetLayout b.image b.after

-- a region between buffers is one row
abbrev pub buffer_op : Window → Window → BufferRegion → Op
buffer_op s t r = op.Copy t.place (t.offset + r.to) 0 s.place (s.offset + r.from) 0 r.size 1

-- a region between images
abbrev pub image_op : Shape → Shape → Window → Window → ImageRegion → Op
image_op source target s t r =
    op.Copy t.place (t.offset + texel_in target r.to_x r.to_y) (target.width * target.texel)
    s.place (s.offset + texel_in source r.from_x r.from_y) (source.width * source.texel)
    (r.width * source.texel) r.height

-- a region from a buffer to an image
abbrev pub upload_op : Shape → Window → Window → MixedRegion → Op
upload_op image b w r =
    op.Copy w.place (w.offset + texel_in image r.x r.y) (image.width * image.texel)
    b.place (b.offset + r.offset) (row_texels r.row r.width * image.texel)
    (r.width * image.texel) r.height

-- a region from an image to a buffer
abbrev pub download_op : Shape → Window → Window → MixedRegion → Op
download_op image w b r =
    op.Copy b.place (b.offset + r.offset) (row_texels r.row r.width * image.texel)
    w.place (w.offset + texel_in image r.x r.y) (image.width * image.texel)
    (r.width * image.texel) r.height

-- an operation changes bytes, and no layout
abbrev pub changes_bytes : Op → Bool
changes_bytes (op.SetLayout image layout) = false
changes_bytes _ = true

-- what is asked for of operations: all of them, or those that change bytes
abbrev pub listed : Bool → List Op → List Op
listed with_layouts ops = filter (λ o. with_layouts || changes_bytes o) ops

-- what a command does, in order
unfoldable pub ops_of_command : View → Event → List Op
ops_of_command v (CmdPipelineBarrier cb barriers) = map barrier_op barriers
ops_of_command v (CmdFillBuffer cb buffer offset size word) =
    ops_in (window v buffer) (λ w. op.Fill w.place (w.offset + offset) (fill_size (size_of v buffer) offset size) word ∷ [])
ops_of_command v (CmdUpdateBuffer cb buffer offset bytes) =
    ops_in (window v buffer) (λ w. op.Put w.place (w.offset + offset) bytes ∷ [])
ops_of_command v (CmdCopyBuffer cb source target regions) =
    ops_between (window v source) (window v target) (λ s t. map (buffer_op s t) regions)
ops_of_command v (CmdCopyImage cb source source_layout target target_layout regions) =
    ops_between (window v source) (window v target) (λ s t. map (image_op (shape_of v source) (shape_of v target) s t) regions)
ops_of_command v (CmdCopyBufferToImage cb source target layout regions) =
    ops_between (window v source) (window v target) (λ s t. map (upload_op (shape_of v target) s t) regions)
ops_of_command v (CmdCopyImageToBuffer cb source layout target regions) =
    ops_between (window v source) (window v target) (λ s t. map (download_op (shape_of v source) s t) regions)
ops_of_command v (CmdClearColorImage cb image layout c0 c1 c2 c3) =
    ops_in (window v image) (λ w. op.Fill w.place w.offset w.length (clear_word (format_at v image) c0 c1 c2 c3) ∷ [])
ops_of_command v _ = []

-- a command that sets layouts, and changes no bytes
abbrev pub is_barrier : Event → Bool
is_barrier (CmdPipelineBarrier cb barriers) = true
is_barrier _ = false
