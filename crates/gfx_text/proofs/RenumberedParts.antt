-- The parts of the rows of styles that read other numbers: values, and rows in general.
use Rattle.std.proofs.Common.{◌≡◌, ℕ, ◌&&◌, Bool, true, false, cond, List, [], ◌∷◌, ◌++◌, map, Option, Some, None, refl, sym, ap, ◌∙◌}
use Prim.Native.String.{String}
use Rattle.gfx_model.specs.Events.{Event}
use Rattle.gfx_model.specs.Checks.{same_list}
use Rattle.gfx_script_model.specs.Statements.{is_empty}
use Rattle.gfx_script_model.specs.Ids.{map_ids, barrier_ids, submit_ids, present_ids}
use Rattle.gfx_grammar.specs.Reading.{◌>>=◌, Reader, barrier_of, present_of}
use Rattle.gfx_text_grammar.specs.Reading.{Style, ◌⊗◌, read_u32, read_id, read_maybe, read_ids, read_barrier, read_present, submit_from, read_submit}
use Rattle.gfx_text_grammar.specs.FieldReading.{Left, FieldReader, whole, read_field, read_apart, read_made, if_any, each_apart}
use Rattle.gfx_text_grammar.specs.Rows.{if_nothing_left, exactly, Rows, by_name}
use Rattle.gfx_text.specs.Renumbered.{renumbered}
use Rattle.gfx_text.proofs.Mapping.{mapped, Maps, MapsFields, MapsWhole, maps_word, maps_same, maps_comma, maps_record, maps_list, maps_whole, maps_field, maps_apart}

-- ---- the values of a style

module _ (f : ℕ → ℕ) (s : Style) where
  pub id_maps : Maps f (read_id s) (read_id (renumbered f s))
  id_maps = maps_word f s.read

  pub maybe_maps : Maps f (read_maybe s) (read_maybe (renumbered f s))
  maybe_maps = maps_word f s.read_maybe

  pub ids_maps : Maps (map f) (read_ids s) (read_ids (renumbered f s))
  ids_maps = maps_list id_maps

  pub barrier_maps : Maps (barrier_ids f) (read_barrier s) (read_barrier (renumbered f s))
  barrier_maps = maps_record barrier_of (barrier_ids f) (λ x. refl) (maps_comma id_maps (maps_same (read_u32 ⊗ read_u32)))

  pub present_maps : Maps (present_ids f) (read_present s) (read_present (renumbered f s))
  present_maps = maps_record present_of (present_ids f) (λ x. refl) (maps_comma id_maps (maps_same read_u32))

  pub submit_maps : Maps (submit_ids f) (read_submit s) (read_submit (renumbered f s))
  submit_maps = maps_record submit_from (submit_ids f) (λ x. refl) (maps_comma ids_maps (maps_comma ids_maps ids_maps))

  any_maps : (o : Option (List ℕ)) → ((o >>= λ xs. Some (map f xs)) >>= if_any) ≡ ((o >>= if_any) >>= λ xs. Some (map f xs))
  any_maps None = refl
  any_maps (Some []) = refl
  any_maps (Some (x ∷ xs)) = refl

  pub each_maps : MapsWhole (map f) (each_apart s) (each_apart (renumbered f s))
  each_maps = record {
    fact = λ text.
        ap (λ (o : Option (List ℕ)). o >>= if_any) ((maps_whole ids_maps).fact (91 ∷ text ++ 93 ∷ [])) ∙ any_maps (whole (read_ids s) (91 ∷ text ++ 93 ∷ []));
  }

  pub made_maps : {X : Type 0} {g : X → X} (name : String) {r q : Reader X} {v w : List ℕ → Option X} → Maps g r q → MapsWhole g v w
      → MapsFields g (read_made s name r v) (read_made (renumbered f s) name q w)
  unfolding read_made
  made_maps {X} {g} name {r} {q} {v} {w} p k = record { fact = λ left. by left s.ids.apart }
    where
      by : (left : Left) (b : Bool) → cond b (read_apart w left) (read_field name q left) ≡ mapped g (cond b (read_apart v left) (read_field name r left))
      by left true = (maps_apart k).fact left
      by left false = (maps_field name p).fact left

-- ---- rows

module _ (f : ℕ → ℕ) where
  -- the second row reads what the first one does, with other ids
  abbrev pub MapsRow : (Left → Option Event) → (Left → Option Event) → Type 0
  MapsRow r q = (left : Left) → q left ≡ (r left >>= λ e. Some (map_ids f e))

  pub maps_row : {X : Type 0} (build : X → Event) {g : X → X} {r q : FieldReader X} → ((x : X) → build (g x) ≡ map_ids f (build x)) → MapsFields g r q → MapsRow (exactly build r) (exactly build q)
  unfolding exactly
  maps_row {X} build {g} {r} {q} same p left = ap (λ (o : Option (X × Left)). o >>= λ x. if_nothing_left (build x.0) x.1) (p.fact left) ∙ by (r left)
    where
      last : (e : Event) (b : Bool) → cond b (Some (map_ids f e)) None ≡ (cond b (Some e) None >>= λ e. Some (map_ids f e))
      last e true = refl
      last e false = refl

      by : (o : Option (X × Left)) → (mapped g o >>= λ x. if_nothing_left (build x.0) x.1) ≡ ((o >>= λ x. if_nothing_left (build x.0) x.1) >>= λ e. Some (map_ids f e))
      by None = refl
      by (Some x) = ap (λ (e : Event). if_nothing_left e x.1) (same x.0) ∙ last (build x.0) (is_empty x.1.0 && is_empty x.1.1)

  -- row by row, with the same names
  abbrev pub MapsRows : Rows → Rows → Type 0
  MapsRows [] [] = Unit {0}
  MapsRows (r ∷ rs) (q ∷ qs) = (r.0 ≡ q.0) × (MapsRow r.1 q.1 × MapsRows rs qs)
  MapsRows _ _ = ⊥

  pub maps_by_name : (rs qs : Rows) → MapsRows rs qs → (name : List ℕ) → MapsRow (by_name rs name) (by_name qs name)
  unfolding by_name
  maps_by_name [] [] p name left = refl
  maps_by_name [] (q ∷ qs) p name left = absurd p
  maps_by_name (r ∷ rs) [] p name left = absurd p
  maps_by_name (r ∷ rs) (q ∷ qs) p name left =
      ap (λ (n : List ℕ). cond (same_list n name) (q.1 left) (by_name qs name left)) (sym p.0) ∙ by (maps_by_name rs qs p.1.1 name left) (same_list r.0 name)
    where
      by : (by_name qs name left ≡ (by_name rs name left >>= λ e. Some (map_ids f e))) → (b : Bool) → cond b (q.1 left) (by_name qs name left) ≡ (cond b (r.1 left) (by_name rs name left) >>= λ e. Some (map_ids f e))
      by more true = p.1.0 left
      by more false = more
