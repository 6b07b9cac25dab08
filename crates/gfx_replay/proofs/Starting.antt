-- Nothing is before the first block.
use Rattle.std.proofs.Common.{◌≡◌, refl, sym, ap, ◌∙◌, [], Some, None, option_map, length}
use Rattle.gfx_types.specs.declared.op.Place.{Place}
use Rattle.gfx_types.specs.declared.op.Place.TheVariants as place
use Rattle.gfx_model.specs.Views.{View, view_of}
use Rattle.gfx_model.specs.Questions.{live}
use Rattle.gfx_model.specs.History.{steps, view}
use Rattle.gfx_replay.specs.Held.{Bytes}
use Rattle.gfx_replay.specs.Sizes.{place_size}
use Rattle.gfx_replay.specs.Stands.{Stands}

no_places : (at : Place) → place_size (view []) at ≡ None
unfolding steps live
no_places (place.Memory m) = refl
no_places (place.Image x) = refl

pub stands_nothing : (v : View) (b : Bytes) → v ≡ view_of [] → ((at : Place) → b at ≡ None) → Stands v b []
unfolding steps
stands_nothing v b answers none = record {
  valid = refl;
  answers_same = answers;
  places = record {
    sizes = λ at. ap (option_map length) (none at) ∙ sym (no_places at);
    held = record { left = λ at bytes e. let no : None ≡ Some bytes = sym (none at) ∙ e in absurd (cc) };
  };
}
