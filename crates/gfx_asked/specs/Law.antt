-- The law of accesses: those of a range ask for the bytes that its frames ask for.
use Rattle.std.specs.Prelude.{◌≡◌, ℕ, ◌||◌, List, [], ◌∷◌, ◌++◌, length, flat_map}
use Rattle.gfx_types.specs.declared.op.Op.{Op}
use Rattle.gfx_model.specs.Events.{Event}
use Rattle.gfx_model.specs.Effects.{changes_of_op}
use Rattle.gfx_model.specs.History.{onto, view}
use Rattle.gfx_feature_model.specs.Asked.{Questions, below_all, event_changes, shown_at, asked_by}
use Rattle.gfx_asked.specs.declared.access.Access.{Access}
use Rattle.gfx_asked.specs.Accesses.{accesses_of_op, shown_by, before_all, asked_before}

-- the questions before a range that goes on after a history, of those behind it
abbrev pub passed_by : List Event → List Event → Questions → Questions
passed_by h [] asked at j = asked at j
passed_by h (e ∷ range) asked at j = shown_at h e at j || below_all (event_changes h e) (passed_by (e ∷ h) range asked) at j

-- accesses stand for a range that goes on after a history: whatever is asked behind them, they ask for the same before them
pub record StandFor (h range : List Event) (accesses : List Access) : Type 0 where
  pub same : (asked : Questions) → before_all accesses asked ≡ passed_by h range asked

-- Accesses that grow event by event stand for the range, where an event adds the images that it shows and the accesses
-- of operations that make its changes; and they ask for just what the range asks for.
pub record AccessesStand : Type 0 where
  pub none : (h : List Event) → StandFor h [] []
  pub more : (h range : List Event) (accesses : List Access) (e : Event) (given : List ℕ) (ops : List Op) → StandFor h range accesses →
      event_changes (onto range h) e ≡ onto (flat_map (changes_of_op given) ops) [] →
      StandFor h (range ++ e ∷ []) (accesses ++ shown_by (view (onto range h)) e ++ flat_map (accesses_of_op (length given)) ops)
  pub asked : (h range : List Event) (accesses : List Access) → StandFor h range accesses → asked_before accesses ≡ asked_by h range
