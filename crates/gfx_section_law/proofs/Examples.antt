-- A history and its section, computed.
use Rattle.std.proofs.Common.{◌≡◌, ℕ, true, List, [], ◌∷◌, refl, arith}
use Rattle.gfx_model.specs.Events.{Event}
use Rattle.gfx_model.specs.Events.Event.{ResetCommandPool, CmdCopyBuffer, CreateInstance, CreateDevice, AllocateMemory, FreeMemory, MapMemory, FillMemory, CreateBuffer, BindBufferMemory, CreateSemaphore, CreateCommandPool, AllocateCommandBuffers, BeginCommandBuffer, CmdFillBuffer, EndCommandBuffer, BeginSection, EndSection}
use Rattle.gfx_model.specs.Spelling.{fields_of, spelling, id_of, type_of}
use Rattle.gfx_model.specs.Steps.{resources_of}
use Rattle.gfx_model.specs.Questions.{live, ids, used, bound, mapped, buffer, signalled, acquired, executed_changes, layout, next_frame, open_section}
use Rattle.gfx_model.specs.Checks.{broken, turns_fault, layouts_of}
use Rattle.gfx_model.specs.Table.{place_of, row_of}
use Rattle.gfx_model.specs.Effects.{changes_of_command, effect_of}
use Rattle.gfx_model.specs.Bytes.{byte}
use Rattle.gfx_model.specs.History.{onto, steps, is_valid}
use Rattle.gfx_model.specs.Section.{section, fills_of}
use Rattle.std.specs.List.{AllByRecursion}
use Rattle.gfx_model.specs.Covers.{Covers}
use Rattle.gfx_laws.specs.Laws.{IsNoMarker}
use Rattle.gfx_laws.proofs.Simulation.{covers_along}
use Rattle.gfx_section_law.specs.Law.{IsAtBoundary, Follows, section_history}
use Rattle.gfx_section_law.proofs.SectionLaws.{section_covers, section_runs}

opened : ℕ
unfolding fields_of spelling id_of type_of resources_of live ids used bound mapped buffer signalled acquired executed_changes layout next_frame open_section broken turns_fault layouts_of place_of row_of changes_of_command effect_of byte steps section fills_of
opened = 0

-- a memory is freed, so that a binding to it is gone, and a buffer that names what was bound is invalid
calls : List Event
calls =
    CreateInstance 1 0 ∷ CreateDevice 1 3
    ∷ AllocateMemory 3 8 64 ∷ AllocateMemory 3 12 32
    ∷ CreateBuffer 3 9 16 3 ∷ BindBufferMemory 3 9 8 16
    ∷ CreateBuffer 3 13 16 3 ∷ BindBufferMemory 3 13 12 0
    ∷ MapMemory 3 8 0 64 ∷ FillMemory 8 4 (7 ∷ 0 ∷ 9 ∷ [])
    ∷ CreateSemaphore 3 5
    ∷ CreateCommandPool 3 10 0 ∷ AllocateCommandBuffers 3 10 (11 ∷ 14 ∷ [])
    ∷ BeginCommandBuffer 11 4 ∷ CmdFillBuffer 11 9 0 8 258 ∷ EndCommandBuffer 11
    ∷ BeginCommandBuffer 14 0 ∷ CmdFillBuffer 14 13 0 8 1 ∷ EndCommandBuffer 14
    ∷ FreeMemory 3 12
    ∷ []

ex_boundary : IsAtBoundary (onto calls [])
unfolding opened calls
ex_boundary = record { valid = refl; closed = refl; low = omega arith; high = omega arith }

ex_section : section (onto calls []) 1
    ≡ BeginSection 1
    ∷ CreateInstance 1 0 ∷ CreateDevice 1 3
    ∷ AllocateMemory 3 8 64 ∷ FillMemory 8 4 (7 ∷ 0 ∷ 9 ∷ []) ∷ MapMemory 3 8 0 64
    ∷ CreateBuffer 3 9 16 3 ∷ BindBufferMemory 3 9 8 16
    ∷ CreateBuffer 3 13 16 3
    ∷ CreateSemaphore 3 5
    ∷ CreateCommandPool 3 10 0 ∷ AllocateCommandBuffers 3 10 (11 ∷ 14 ∷ [])
    ∷ BeginCommandBuffer 11 4 ∷ CmdFillBuffer 11 9 0 8 258 ∷ EndCommandBuffer 11
    ∷ EndSection 1
    ∷ []
unfolding opened calls
ex_section = refl

ex_valid : is_valid (onto (section (onto calls []) 1) []) ≡ true
unfolding opened calls
ex_valid = refl

-- so the history is covered by its section
ex_covers : Covers (onto calls []) (section_history (onto calls []) 1)
unfolding opened calls
ex_covers = (section_covers 1 (onto calls []) ex_boundary).covers

-- calls that go on: a buffer is bound to bytes to which nothing was bound, and the invalid command buffer is recorded again
more : List Event
more =
    CreateBuffer 3 15 16 1 ∷ BindBufferMemory 3 15 8 0
    ∷ ResetCommandPool 3 10 ∷ BeginCommandBuffer 14 0 ∷ CmdCopyBuffer 14 15 9 (record { from = 4; to = 0; size = 3 } ∷ []) ∷ EndCommandBuffer 14
    ∷ []

ex_no_markers : AllByRecursion IsNoMarker more
unfolding more
ex_no_markers = (tt, (tt, (tt, (tt, (tt, (tt, tt))))))

ex_goes_on : is_valid (onto more (onto calls [])) ≡ true
unfolding opened calls more
ex_goes_on = refl

-- and so it is computed after the section
ex_goes_on_too : is_valid (onto more (onto (section (onto calls []) 1) [])) ≡ true
unfolding opened calls more
ex_goes_on_too = refl

-- by the law, its first call and what follows it
ex_simulates : Covers (CreateBuffer 3 15 16 1 ∷ onto calls []) (CreateBuffer 3 15 16 1 ∷ section_history (onto calls []) 1)
unfolding opened calls
ex_simulates = covers_along (onto calls []) (section_history (onto calls []) 1) (CreateBuffer 3 15 16 1) ex_covers tt refl

ex_runs : Follows (onto calls []) more
ex_runs = section_runs (onto calls []) more ex_boundary ex_no_markers ex_goes_on
