-- What the checks of a binding say.
use Rattle.std.proofs.Common.{◌≡◌, ℕ, ◌+◌, ◌≤◌, Bool, true, false, ◌||◌, refl, ap}
use Rattle.std.proofs.lemmas.Bool.{leb-true}
use Rattle.gfx_types.specs.declared.names.Kind.TheVariants as kind
use Rattle.gfx_model.specs.Views.{View, is_live, size_of}
use Rattle.gfx_model.specs.Checks.{broken}
use Rattle.gfx_model.specs.Checks.Check.{live, rests_in}
use Rattle.gfx_model.proofs.Covered.{unless_none}
use Rattle.gfx_laws.specs.Lawful.{Passes}
use Rattle.gfx_tracker.specs.Taking.{MayBind}
use Rattle.gfx_tracker.proofs.Next.{is_live_by}

module _ (v : View) (id memory offset : ℕ) where
  inside : Passes v (rests_in id memory offset) → offset + size_of v id ≤ size_of v memory
  unfolding broken
  inside e = leb-true (offset + size_of v id) (size_of v memory) (unless_none _ _ e)

  pub buffer_binds : Passes v (live kind.Buffer id) → Passes v (live kind.Memory memory) → Passes v (rests_in id memory offset) → MayBind v id memory offset
  buffer_binds is there rests = record {
    resource = ap (λ t. t || is_live v kind.Image id) (is_live_by v kind.Buffer id is);
    there = is_live_by v kind.Memory memory there;
    inside = inside rests;
  }

  pub image_binds : Passes v (live kind.Image id) → Passes v (live kind.Memory memory) → Passes v (rests_in id memory offset) → MayBind v id memory offset
  image_binds is there rests = record {
    resource = by (is_live v kind.Buffer id) (is_live_by v kind.Image id is);
    there = is_live_by v kind.Memory memory there;
    inside = inside rests;
  }
    where
      by : (s : Bool) {t : Bool} → t ≡ true → (s || t) ≡ true
      by true e = refl
      by false e = e
