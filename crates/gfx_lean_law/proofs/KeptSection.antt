-- The section that is kept is that of the answers for kept ids, over bytes with zeros in place of dropped fills.
use Rattle.std.proofs.Common.{◌≡◌, ℕ, Bool, true, false, refl, sym, ◌∙◌, ap, List, [], ◌∷◌, ◌++◌, filter, flat_map, Option, Some, None, cond, is_some}
use Rattle.std.specs.Option.{option_map_or}
use Rattle.std.proofs.lemmas.Grind.{flat_map-append}
use Rattle.gfx_types.specs.declared.names.Kind.{Kind}
use Rattle.gfx_model.specs.Events.{Event}
use Rattle.gfx_model.specs.Events.Event.{BeginSection, EndSection}
use Rattle.gfx_model.specs.Steps.{Object, Change}
use Rattle.gfx_model.specs.Views.{View, is_live}
use Rattle.gfx_model.specs.Section.{Known, object_events, group, section_order}
use Rattle.gfx_feature_model.specs.Lean.{Keep, kept_events}
use Rattle.gfx_laws.specs.Lawful.{IsLawful}
use Rattle.gfx_lean_law.proofs.Only.{only, IsClosed}
use Rattle.gfx_lean_law.proofs.Answers.{live_only, kind_only}
use Rattle.gfx_lean_law.proofs.Zeros.{zeros}
use Rattle.gfx_lean_law.proofs.KeptBlocks.{object_kept, object_goes}

module _ (k : ℕ → Bool) (keep : Keep) (v : View) (es : List Change) (c : IsClosed k v) (h : IsLawful v es) (same : (x : ℕ) → is_some (v.live x) ≡ true → keep.id x ≡ k x) where
  abbrev w : View
  w = only k v

  abbrev s : Known
  s = record { answers = v; es = es }

  abbrev new_bytes : List Change
  new_bytes = zeros keep.fill v.live es v.ids ++ es

  -- what the kept section is the section of
  abbrev t : Known
  t = record { answers = w; es = new_bytes }

  abbrev ke : Event → List Event
  ke e = kept_events v keep e

  -- ---- the objects of a kind

  abbrev blocks_in : Known → ℕ → List Event
  blocks_in u x = option_map_or (λ (o : Object). object_events u x o.parent o.detail) (u.answers.live x) []

  one_kept : (x : ℕ) → k x ≡ true → flat_map ke (blocks_in s x) ≡ blocks_in t x
  one_kept x on = by (v.live x) refl ∙ sym (ap (λ l. option_map_or (λ (o : Object). object_events t x o.parent o.detail) l []) (live_only k v x on))
    where
      by : (l : Option Object) → v.live x ≡ l → flat_map ke (option_map_or (λ (o : Object). object_events s x o.parent o.detail) l []) ≡ option_map_or (λ (o : Object). object_events t x o.parent o.detail) l []
      by None e = refl
      by (Some o) e = object_kept k keep v es c h same x o.parent o.detail e (same x (ap is_some e) ∙ on) on

  one_goes : (x : ℕ) → k x ≡ false → flat_map ke (blocks_in s x) ≡ []
  one_goes x off = by (v.live x) refl
    where
      by : (l : Option Object) → v.live x ≡ l → flat_map ke (option_map_or (λ (o : Object). object_events s x o.parent o.detail) l []) ≡ []
      by None e = refl
      by (Some o) e = object_goes k keep v es c h same x o.parent o.detail e (same x (ap is_some e) ∙ off)

  some_kept : (j : Kind) (ids : List ℕ) → flat_map ke (flat_map (blocks_in s) (filter (is_live v j) ids)) ≡ flat_map (blocks_in t) (filter (is_live w j) (filter k ids))
  some_kept j [] = refl
  some_kept j (x ∷ ids) = by (is_live v j x) (k x) refl refl (some_kept j ids)
    where
      by : (a b : Bool) → is_live v j x ≡ a → k x ≡ b → flat_map ke (flat_map (blocks_in s) (filter (is_live v j) ids)) ≡ flat_map (blocks_in t) (filter (is_live w j) (filter k ids)) →
          flat_map ke (flat_map (blocks_in s) (cond a (x ∷ filter (is_live v j) ids) (filter (is_live v j) ids)))
          ≡ flat_map (blocks_in t) (filter (is_live w j) (cond b (x ∷ filter k ids) (filter k ids)))
      by true true a b more =
          flat_map-append ke (blocks_in s x) (flat_map (blocks_in s) (filter (is_live v j) ids))
          ∙ ap (λ l. l ++ flat_map ke (flat_map (blocks_in s) (filter (is_live v j) ids))) (one_kept x b)
          ∙ ap (λ r. blocks_in t x ++ r) more
          ∙ sym (ap (λ u. flat_map (blocks_in t) (cond u (x ∷ filter (is_live w j) (filter k ids)) (filter (is_live w j) (filter k ids)))) (kind_only k v j x b ∙ a))
      by true false a b more =
          flat_map-append ke (blocks_in s x) (flat_map (blocks_in s) (filter (is_live v j) ids))
          ∙ ap (λ l. l ++ flat_map ke (flat_map (blocks_in s) (filter (is_live v j) ids))) (one_goes x b)
          ∙ more
      by false true a b more =
          more ∙ sym (ap (λ u. flat_map (blocks_in t) (cond u (x ∷ filter (is_live w j) (filter k ids)) (filter (is_live w j) (filter k ids)))) (kind_only k v j x b ∙ a))
      by false false a b more = more

  groups_kept : (ks : List Kind) → flat_map ke (flat_map (group s) ks) ≡ flat_map (group t) ks
  groups_kept [] = refl
  groups_kept (j ∷ ks) =
      flat_map-append ke (group s j) (flat_map (group s) ks) ∙ ap (λ l. l ++ flat_map ke (flat_map (group s) ks)) (some_kept j v.ids) ∙ ap (λ r. group t j ++ r) (groups_kept ks)

  pub section_kept : (n : ℕ) →
      flat_map ke (BeginSection n ∷ flat_map (group s) section_order ++ EndSection n ∷ []) ≡ BeginSection n ∷ flat_map (group t) section_order ++ EndSection n ∷ []
  section_kept n =
      ap (λ r. BeginSection n ∷ r)
      (flat_map-append ke (flat_map (group s) section_order) (EndSection n ∷ []) ∙ ap (λ l. l ++ EndSection n ∷ []) (groups_kept section_order))
