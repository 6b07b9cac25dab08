-- What is gathered of a range.
use Rattle.std.specs.Prelude.{◌≡◌, List, [], ◌∷◌, ◌++◌, flat_map, length}
use Rattle.std.specs.List.{list_any, range_with_len}
use Rattle.gfx_types.specs.declared.op.Op.{Op}
use Rattle.gfx_types.specs.declared.op.Place.TheVariants as place
use Rattle.gfx_model.specs.Events.{Event}
use Rattle.gfx_model.specs.Blocks.{Content, Whole}
use Rattle.gfx_model.specs.Blocks.Content.{skipped, effect}
use Rattle.gfx_model.specs.History.{view}
use Rattle.gfx_model.specs.Views.{View}
use Rattle.gfx_feature_model.specs.Lean.{Keep, KeepsNeeded, events_in}
use Rattle.gfx_asked.specs.Accesses.{AreNear, accesses_of_op, shown_by}
use Rattle.gfx_asked.specs.Asked.{questions}
use Rattle.gfx_asked.specs.Law.{StandFor}
use Rattle.gfx_asked.specs.declared.access.Access.{Access}
use Rattle.gfx_needed.specs.NeededIds.{IsSearched, is_marked}
use Rattle.gfx_needed.specs.declared.needed.NeededIds.{NeededIds}
use Rattle.gfx_tracker.specs.Operations.{given_by}
use Rattle.gfx_range.specs.declared.keep.RangeKeep.{RangeKeep}
use Rattle.gfx_range.specs.declared.range.Range.{Range}

-- no block with an effect was taken
pub record IsFresh (r : Range) : Type 0 where
  pub needed : (v : View) → IsSearched v [] r.needed
  pub accesses : r.accesses ≡ []

-- what was taken down of a range is as it was
pub record IsSameNeed (old new : Range) : Type 0 where
  pub needed : new.needed ≡ old.needed
  pub accesses : new.accesses ≡ old.accesses

-- these blocks of a range were taken, which goes on after this history
pub record IsGathered (r : Range) (h : List Event) (ws : List Whole) : Type 0 where
  pub needed : IsSearched (view h) (events_in ws) r.needed
  pub accesses : StandFor h (events_in ws) r.accesses
  pub bytes : r.blocks.items ≡ flat_map (λ w. w.bytes) ws

-- the images that a block shows
abbrev pub shown_said : View → Content → List Access
shown_said v skipped = []
shown_said v (effect thread event) = shown_by v event

-- the accesses of a block's operations
abbrev pub accesses_said : Content → List Op → List Access
accesses_said skipped ops = []
accesses_said (effect thread event) ops = flat_map (accesses_of_op (length (given_by event))) ops

-- the bytes of a block's operations end below 2^64
abbrev pub AreSaidNear : Content → List Op → Type 0
AreSaidNear skipped ops = Unit {0}
AreSaidNear (effect thread event) ops = AreNear (length (given_by event)) ops

-- what a block names was taken down
abbrev pub Names : View → Content → NeededIds → NeededIds → Type 0
Names v skipped old new = new ≡ old
Names v (effect thread event) old new = (range : List Event) → IsSearched v range old → IsSearched v (range ++ event ∷ []) new

-- what is kept: the ids that were found, and the fills with a byte that is asked for
abbrev pub kept_by : RangeKeep → Keep
kept_by k = record { id = is_marked k.needed; fill = λ m offset n. list_any (questions k.asked (place.Memory m)) (range_with_len offset n) }

-- just what these blocks need of the history before them
abbrev pub IsKept : RangeKeep → List Event → List Whole → Type 0
IsKept k h ws = KeepsNeeded h (events_in ws) (kept_by k)
