-- The accesses of a range, and which bytes they ask for of the state before it.
use Rattle.std.specs.Prelude.{◌≡◌, ℕ, ◌+◌, ◌*◌, ◌^◌, ◌<◌, false, not, ◌&&◌, ◌||◌, List, [], ◌∷◌, length, flat_map, nat_lt}
use Rattle.std.specs.List.{AllByRecursion}
use Rattle.std.specs.Option.{option_map_or}
use Rattle.gfx_types.specs.declared.op.Op.{Op}
use Rattle.gfx_types.specs.declared.op.Op.TheVariants as op
use Rattle.gfx_types.specs.declared.op.Place.TheVariants as place
use Rattle.gfx_model.specs.Events.{Event}
use Rattle.gfx_model.specs.Events.Event.{QueuePresentKHR}
use Rattle.gfx_model.specs.Views.{View, size_of, image_at}
use Rattle.gfx_model.specs.Bytes.{same_place, covers_byte}
use Rattle.gfx_model.specs.Effects.{rows_copied}
use Rattle.gfx_model.specs.History.{onto}
use Rattle.gfx_feature_model.specs.Asked.{Questions, below_all}
use Rattle.gfx_asked.specs.declared.access.Access.{Access}
use Rattle.gfx_asked.specs.declared.access.RowCopy.{RowCopy}
use Rattle.gfx_asked.specs.declared.access.Access.TheVariants.{Show, Write, Copy}

-- the accesses of an operation, where an effect gives so many bytes of its own
abbrev pub accesses_of_op : ℕ → Op → List Access
accesses_of_op given (op.Put at offset bytes) = Write at offset (length bytes) ∷ []
accesses_of_op given (op.PutGiven at offset) = Write at offset given ∷ []
accesses_of_op given (op.Fill at offset n word) = Write at offset n ∷ []
accesses_of_op given (op.Copy to to_offset to_step source source_offset source_step n rows) =
    Copy (record {
      to = to;
      to_offset = to_offset;
      to_step = to_step;
      from = source;
      from_offset = source_offset;
      from_step = source_step;
      length = n;
      rows = rows;
    }) ∷ []
accesses_of_op given (op.SetLayout image layout) = []

-- the images that an event shows
abbrev pub shown_by : View → Event → List Access
shown_by v (QueuePresentKHR queue waits presents) =
    flat_map (λ p. option_map_or (λ image. Show image (size_of v image) ∷ []) (image_at v p.swapchain p.index) []) presents
shown_by v _ = []

-- the questions before an access: an image that is shown is asked for whole, and the others pass on what they don't answer
abbrev pub before : Access → Questions → Questions
before (Show image size) asked at j = same_place (place.Image image) at && nat_lt j size || asked at j
before (Write to offset n) asked at j = asked at j && not (covers_byte to offset n at j)
before (Copy c) asked at j =
    below_all (onto (rows_copied c.to c.to_offset c.to_step c.from c.from_offset c.from_step c.length c.rows) []) asked at j

-- the questions before accesses, the oldest first
abbrev pub before_all : List Access → Questions → Questions
before_all [] asked = asked
before_all (a ∷ rest) asked = before a (before_all rest asked)

-- what accesses ask for
abbrev pub asked_before : List Access → Questions
asked_before accesses = before_all accesses (λ at j. false)

-- rows end below 2^64
abbrev pub RowsAreNear : ℕ → ℕ → ℕ → ℕ → Type 0
RowsAreNear offset step n rows = (k : ℕ) → k < rows → offset + k * step + n < 2 ^ 64

-- the bytes of an access end below 2^64
abbrev pub IsNear : Access → Type 0
IsNear (Show image size) = Unit {0}
IsNear (Write to offset n) = offset + n < 2 ^ 64
IsNear (Copy c) = RowsAreNear c.to_offset c.to_step c.length c.rows × RowsAreNear c.from_offset c.from_step c.length c.rows

-- so do those of operations, where their effect gives so many bytes of its own
abbrev pub AreNear : ℕ → List Op → Type 0
AreNear given ops = AllByRecursion (λ o. AllByRecursion IsNear (accesses_of_op given o)) ops

-- rows follow one another without a gap, from one place to another
pub record IsGapless (c : RowCopy) : Type 0 where
  pub apart : same_place c.to c.from ≡ false
  pub to : c.to_step ≡ c.length
  pub from : c.from_step ≡ c.length
