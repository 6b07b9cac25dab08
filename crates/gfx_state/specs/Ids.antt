-- Live ids that one object owns, or that have one parent.
use Rattle.std.specs.Prelude.{ℕ, ◌==◌, ◌&&◌, List, filter}
use Rattle.gfx_types.specs.declared.names.Kind.{Kind}
use Rattle.gfx_model.specs.Questions.{is_owned}
use Rattle.gfx_model.specs.Views.{View, is_live, is_one, parent_of}
use Rattle.gfx_model.specs.Section.{live_ids}

-- the live ids of a kind that an object owns, rising
abbrev pub owned_in : View → Kind → ℕ → List ℕ
owned_in v kind owner = filter (λ x. is_live v kind x && is_one v (λ o. is_owned o.detail && owner == o.parent) x) v.ids

-- the live ids of a kind with this parent, rising
abbrev pub children_in : View → Kind → ℕ → List ℕ
children_in v kind parent = filter (λ x. parent_of v x == parent) (live_ids v kind)
