-- Laws of held writes and their fills, which functions with empty bodies promise.
use Rattle.std.specs.Prelude.{◌≡◌, ℕ, true, List, [], ◌∷◌, ◌++◌, map}
use Rattle.std.specs.List.{AllByRecursion}
use Rattle.gfx_types.specs.declared.op.Place.{Place}
use Rattle.gfx_types.specs.declared.op.Place.TheVariants as place
use Rattle.gfx_model.specs.Steps.{Change}
use Rattle.gfx_model.specs.Steps.Change.{put}
use Rattle.gfx_model.specs.Bytes.{byte}
use Rattle.gfx_model.specs.Checks.{is_among}
use Rattle.gfx_script_model.specs.Ids.{map_ids}
use Rattle.gfx_shadow.specs.Writes.{Write, MayHold, fills}
use Rattle.gfx_shadow.specs.Gathered.{event_of_write}

-- a write as a change of bytes
abbrev pub change_of : Write → Change
change_of w = put (place.Memory w.memory) w.offset w.bytes

-- changes, the newest first, and after them those of writes
abbrev pub after_writes : List Write → List Change → List Change
after_writes [] es = es
after_writes (w ∷ ws) es = after_writes ws (change_of w ∷ es)

-- After any changes, the fills of held writes give every byte of every place that the held writes in order give.
abbrev pub FillsGiveHeld : Type 0
FillsGiveHeld = (held : List Write) (es : List Change) (at : Place) (i : ℕ) → byte (after_writes (fills held) es) at i ≡ byte (after_writes held es) at i

-- The fills of held writes serve for them: with more writes behind them they have the same fills.
abbrev pub FillsServe : Type 0
FillsServe = (held more : List Write) → AllByRecursion MayHold held → fills (fills held ++ more) ≡ fills (held ++ more)

-- the fills that stand for held writes and then for more of them, taken one after another
abbrev pub held_on : List Write → List Write → List Write
held_on held [] = held
held_on held (w ∷ ws) = held_on (fills (held ++ w ∷ [])) ws

-- Writes that are held one after another, in place of those before them just their fills, have the fills of all of them;
-- and where they have no fills there are none.
abbrev pub FillsGather : Type 0
FillsGather = (ws : List Write) → AllByRecursion MayHold ws → (held_on [] ws ≡ fills ws) × (fills ws ≡ [] → ws ≡ [])

-- a write to the memory that has this id
abbrev pub renamed : (ℕ → ℕ) → Write → Write
renamed ids w = record { memory = ids w.memory; offset = w.offset; bytes = w.bytes }

-- different memories of these writes have different ids
abbrev pub AreDifferent : (ℕ → ℕ) → List Write → Type 0
AreDifferent ids held = (x y : ℕ) → is_among x (map (λ w. w.memory) held) ≡ true → is_among y (map (λ w. w.memory) held) ≡ true → ids x ≡ ids y → x ≡ y

-- The fills of writes with other ids are the fills with other ids.
abbrev pub FillsByIds : Type 0
FillsByIds = (ids : ℕ → ℕ) (held : List Write) → AreDifferent ids held →
    (fills (map (renamed ids) held) ≡ map (renamed ids) (fills held))
    × (map (λ w. map_ids ids (event_of_write w)) (fills held) ≡ map event_of_write (fills (map (renamed ids) held)))
