-- Ids that are taken, computed: the law speaks of something, and asks for ids that differ with reason.
use Rattle.std.proofs.Common.{◌≡◌, ℕ, List, [], ◌∷◌, Some, false, refl}
use Rattle.gfx_types.specs.declared.names.Fault.TheVariants.{IdTaken}
use Rattle.gfx_model.specs.Events.{Event}
use Rattle.gfx_model.specs.Events.Event.{CreateInstance, DestroyInstance, CreateDevice, CreateCommandPool, AllocateCommandBuffers}
use Rattle.gfx_model.specs.Spelling.{id_of}
use Rattle.gfx_model.specs.Questions.{live, ids, used}
use Rattle.gfx_model.specs.Checks.{broken, is_distinct}
use Rattle.gfx_model.specs.Table.{place_of, row_of}
use Rattle.gfx_model.specs.Effects.{effect_of}
use Rattle.gfx_model.specs.History.{steps, fault}
use Rattle.gfx_script_model.specs.Ids.{defines_of}

opened : ℕ
unfolding id_of live ids used broken place_of row_of effect_of defines_of steps
opened = 0

-- an id stays taken after the end of its object
ended : List Event
ended = DestroyInstance 5 ∷ CreateInstance 5 1 ∷ []

again_is_taken : fault ended (CreateInstance 5 1) ≡ Some IdTaken
unfolding opened ended
again_is_taken = refl

-- an id that occurs twice in one call is taken too, although no event before created it
pool : List Event
pool = CreateCommandPool 2 3 0 ∷ CreateDevice 1 2 ∷ CreateInstance 1 1 ∷ []

twice_is_taken : fault pool (AllocateCommandBuffers 2 3 (4 ∷ 4 ∷ [])) ≡ Some IdTaken
unfolding opened pool
twice_is_taken = refl

twice_is_not_distinct : is_distinct (defines_of 1 (AllocateCommandBuffers 2 3 (4 ∷ 4 ∷ []))) ≡ false
unfolding opened
twice_is_not_distinct = refl
