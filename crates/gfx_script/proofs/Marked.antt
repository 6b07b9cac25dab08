-- Lists of records by their marks.
use Rattle.std.proofs.Common.{◌≡◌, ℕ, zero, ◌≤◌, List, [], ◌∷◌, ◌++◌, map, flat_map, length, refl, sym, ap, ◌∙◌, arith, append_assoc, length-append, Bor}
use Rattle.std.proofs.lemmas.List.Folds.{flat_map-map}
use Rattle.gfx_types.specs.declared.lists.Barrier.{Barrier}
use Rattle.gfx_types.specs.declared.lists.BufferRegion.{BufferRegion}
use Rattle.gfx_types.specs.declared.lists.ImageRegion.{ImageRegion}
use Rattle.gfx_types.specs.declared.lists.MixedRegion.{MixedRegion}
use Rattle.gfx_types.specs.declared.lists.Present.{Present}
use Rattle.gfx_types.specs.declared.lists.Submit.{Submit}
use Rattle.gfx_model.specs.Fields.{barrier_atoms, buffer_region_atoms, image_region_atoms, mixed_region_atoms, present_atoms}
use Rattle.gfx_model.specs.Fields.Records.{barriers, buffer_regions, image_regions, mixed_regions, presents}
use Rattle.gfx_model.specs.Fields.Value.{records}
use Rattle.gfx_script_model.specs.Ids.{atom_ids, named_by, submit_ids}
use Rattle.gfx_script.specs.Puts.{TakesNamed, Takes}
use Rattle.gfx_script.specs.declared.supply.Supply.{Supply}

-- ---- what records name

pub barrier_names : (xs : List Barrier) → named_by (records (barriers xs)) ≡ flat_map (λ b. b.image ∷ []) xs
barrier_names xs = flat_map-map (flat_map atom_ids) barrier_atoms xs

pub present_names : (xs : List Present) → named_by (records (presents xs)) ≡ flat_map (λ p. p.swapchain ∷ []) xs
present_names xs = flat_map-map (flat_map atom_ids) present_atoms xs

pub buffer_region_names : (xs : List BufferRegion) → named_by (records (buffer_regions xs)) ≡ flat_map (λ _. []) xs
buffer_region_names xs = flat_map-map (flat_map atom_ids) buffer_region_atoms xs

pub image_region_names : (xs : List ImageRegion) → named_by (records (image_regions xs)) ≡ flat_map (λ _. []) xs
image_region_names xs = flat_map-map (flat_map atom_ids) image_region_atoms xs

pub mixed_region_names : (xs : List MixedRegion) → named_by (records (mixed_regions xs)) ≡ flat_map (λ _. []) xs
mixed_region_names xs = flat_map-map (flat_map atom_ids) mixed_region_atoms xs

-- a list that is mapped to itself
map_same : {X : Type 0} (xs : List X) → map (λ x. x) xs ≡ xs
map_same [] = refl
map_same (x ∷ xs) = ap (λ ys. x ∷ ys) (map_same xs)

-- lists that are mapped to themselves are one where the maps are
pub unmapped : {X : Type 0} (xs ys : List X) → map (λ x. x) xs ≡ map (λ x. x) ys → xs ≡ ys
unmapped xs ys e = sym (map_same xs) ∙ e ∙ map_same ys

-- ---- records as a field

module _ {X : Type 0} (named : X → List ℕ) (blank : X → X) (of : List X → List ℕ) (same : (xs : List X) → of xs ≡ flat_map named xs) where
  -- as many ids as the list names
  pub few : (xs : List X) (ids : List ℕ) → length (of xs) ≤ length ids → length (flat_map named xs) ≤ length ids
  few xs ids h = omega (arith, h, ap length (same xs))

  -- records that took their ids, as a field that took them
  pub takes_records : (alike : List X → Bor (List X) → Type 0) (before : Bor (List X)) (ids : Supply) (after : List X) (left : Bor (List ℕ))
      → TakesNamed (flat_map named) (map blank) before.now ids.named.now after left.now → alike after before
      → Takes (λ l. of l.now) (λ _. []) of (λ _. []) alike before ids after (record { named = left; made = ids.made })
  takes_records alike before ids after left h others = record {
    front_named = h.front ∙ ap (λ (z : List ℕ). z ++ left.now) (sym (same after));
    front_made = refl;
    as_many_named = ap length (same after) ∙ h.as_many ∙ ap length (sym (same before.now));
    as_many_made = refl;
    others = others;
  }

-- ---- submits

-- lists as long as each other are alike without their ids
pub blank_same : (xs ys : List ℕ) → length xs ≡ length ys → map (λ (_ : ℕ). zero) xs ≡ map (λ (_ : ℕ). zero) ys
blank_same [] [] e = refl
blank_same [] (y ∷ ys) e = absurd (omega (arith, e))
blank_same (x ∷ xs) [] e = absurd (omega (arith, e))
blank_same (x ∷ xs) (y ∷ ys) e = ap (λ (zs : List ℕ). zero ∷ zs) (blank_same xs ys (omega (arith, e)))

-- a submit whose lists took their ids one after the other
pub submit_takes : (before after : Submit) (ids first second left : List ℕ)
    → ids ≡ after.waits ++ first → length after.waits ≡ length before.waits
    → first ≡ after.cbs ++ second → length after.cbs ≡ length before.cbs
    → second ≡ after.signals ++ left → length after.signals ≡ length before.signals
    → TakesNamed (λ s. s.waits ++ s.cbs ++ s.signals) (submit_ids (λ _. 0)) before ids after left
submit_takes before after ids first second left a la b lb d ld = record {
  front =
      a ∙ ap (λ (z : List ℕ). after.waits ++ z) (b ∙ ap (λ (z : List ℕ). after.cbs ++ z) d)
      ∙ (let joined : after.waits ++ (after.cbs ++ (after.signals ++ left)) ≡ ((after.waits ++ after.cbs) ++ after.signals) ++ left = simp append_assoc in joined);
  as_many =
      simp length-append (omega (arith, la, lb, ld));
  others = λ i. record { waits = blank_same after.waits before.waits la i; cbs = blank_same after.cbs before.cbs lb i; signals = blank_same after.signals before.signals ld i };
}
