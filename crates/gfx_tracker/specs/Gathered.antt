-- All answers together: objects, what is recorded, frames and the section.
use Rattle.std.specs.Prelude.{◌≡◌, ℕ, ◌==◌, ◌&&◌, Bool, true, false, List, [], ◌∷◌, Option}
use Rattle.gfx_types.specs.declared.names.Kind.TheVariants as kind
use Rattle.gfx_model.specs.Events.{Event}
use Rattle.gfx_model.specs.Steps.{Object, kind_of, kind_number}
use Rattle.gfx_model.specs.Questions.{Buffer, passes}
use Rattle.gfx_model.specs.Views.{View}
use Rattle.gfx_model.specs.Checks.{is_initial}
use Rattle.gfx_laws.specs.Lawful.{base, LawfulObjects, LawfulBuffers}

-- the answers on objects, with those on buffers, frames and the section
abbrev pub gathered : View → (ℕ → Buffer) → ℕ → Bool → Option ℕ → View
gathered objects buffer next_frame is_empty section = record objects { buffer = buffer; next_frame = next_frame; is_empty = is_empty; section = section }

-- no command
abbrev pub no_commands : List Event → Bool
no_commands [] = true
no_commands (_ ∷ cs) = false

-- a buffer is as a new one
abbrev pub is_new : Buffer → Bool
is_new b = is_initial b.state && b.flags == 0 && no_commands b.commands

-- the object is a command buffer
abbrev pub is_command_buffer : Object → Bool
is_command_buffer o = kind_number (kind_of o.detail) == kind_number kind.CommandBuffer

-- nothing is recorded under an id that is not of a live command buffer
pub record IsPlain (live : ℕ → Option Object) (buffer : ℕ → Buffer) : Type 0 where
  pub plain : (x : ℕ) → passes is_command_buffer (live x) ≡ false → is_new (buffer x) ≡ true

-- objects and what is recorded are as after some valid history
pub record LawfulUsers (v : View) (buffer : ℕ → Buffer) : Type 0 where
  pub objects : LawfulObjects (base v)
  pub buffers : LawfulBuffers (base v) buffer
