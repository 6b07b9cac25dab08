-- What the commands of a buffer ask of each resource.
use Rattle.std.specs.Prelude.{◌≡◌, ℕ, ◌≤◌, ◌==◌, Bool, true, false, ◌||◌, List, length, Option, Some, None, is_some, unwrap_or, if◌then◌else◌}
use Rattle.std.specs.Option.{option_or}
use Rattle.std.specs.List.{list_all}
use Rattle.std.specs.Ordering.{nat_cmp}
use Rattle.std.specs.FinMap as map
use Rattle.std.specs.FinMap.{FinMap}
use Rattle.gfx_table.specs.Slots.{Slots}
use Rattle.gfx_model.specs.Checks.{Layouts, meets, layouts_after, is_among}
use Rattle.gfx_commands.specs.declared.uses.Use.{Use}

-- nothing is asked of the resource
abbrev pub plain : Use
plain = record { wanted = None; left = None }

-- what is asked of a resource
abbrev pub use_of : FinMap nat_cmp Use → ℕ → Use
use_of uses x = unwrap_or (map.get uses x) plain

-- a layout suits where it is the one that is needed, or none is
abbrev pub suits : Option ℕ → ℕ → Bool
suits None layout = true
suits (Some wanted) layout = wanted == layout

-- the layout that the image has by now, as far as the commands tell
abbrev pub known : Use → Option ℕ
known u = option_or u.left u.wanted

-- the commands so far leave the image in this layout, or may do so
abbrev pub accepts : Use → ℕ → Bool
accepts u layout = suits (known u) layout

-- the image is asked for in this layout
abbrev pub asked : Use → ℕ → Use
asked u layout = record u { wanted = if is_some (known u) then u.wanted else Some layout }

-- the layout before a barrier is UNDEFINED, or accepted
abbrev pub lets_go : Use → ℕ → Bool
lets_go u before = before == 0 || accepts u before

-- a barrier takes the image from one layout to another
abbrev pub gone : Use → ℕ → ℕ → Use
gone u before after = record (if before == 0 then u else asked u before) { left = Some after }

-- The resources are those that are named, each image wants the layout that it must have before, and is left in the one that
-- it has afterwards; and the flag tells whether there are such layouts.
pub record IsIndex (uses : FinMap nat_cmp Use) (agrees : Bool) (named : List ℕ) (asks : List Layouts) : Type 0 where
  pub members : (x : ℕ) → is_some (map.get uses x) ≡ is_among x named
  pub met : (layout : ℕ → ℕ) → meets layout asks ≡ true → (agrees ≡ true) × ((x : ℕ) → suits (use_of uses x).wanted (layout x) ≡ true)
  pub enough : (layout : ℕ → ℕ) → agrees ≡ true → ((x : ℕ) → suits (use_of uses x).wanted (layout x) ≡ true) → meets layout asks ≡ true
  pub left : (layout : ℕ → ℕ) (x : ℕ) → layouts_after layout asks x ≡ unwrap_or (use_of uses x).left (layout x)

-- all of these resources are named, or there is a place for each
abbrev pub HasPlaces : Slots Use → List ℕ → Type 0
HasPlaces table named = list_all (λ x. is_some (map.get table.map x)) named ≡ false → length named ≤ table.spare
