use Rattle.std.proofs.Common.{◌≡◌, false, flat_map, take}
use Rattle.std.specs.List.{list_any}
use Rattle.gfx_types.specs.declared.op.Place.{Place}
use Rattle.gfx_model.specs.Effects.{changes_of_op}
use Rattle.gfx_replay.specs.Held.{HoldsMore}
use Rattle.gfx_replay.specs.Maps.{IsSame}
use Rattle.gfx_replay.specs.Places.{bytes_in, sizes_in}
use Rattle.gfx_replay.specs.Ranges.{is_target}
use Rattle.gfx_replay.proofs.places.Places.run_all.Given as goal

abbrev pub invariant-loop-op : goal.invariant-loop-op
invariant-loop-op l = record {
  held : HoldsMore (flat_map (changes_of_op l.given) (take l.op-index l.op-items)) (bytes_in l.initial.self) (bytes_in l.self);
  sizes : IsSame (sizes_in l.initial.self) (sizes_in l.self);
  others : (at : Place) → list_any (λ op. is_target op at) l.op-items ≡ false → bytes_in l.self at ≡ bytes_in l.initial.self at;
}
