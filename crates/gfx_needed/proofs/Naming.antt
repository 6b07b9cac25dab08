-- The ids that an event names or creates, field by field or one after the other.
use Rattle.std.proofs.Common.{◌≡◌, ℕ, refl, sym, subst, List, [], ◌∷◌, ◌++◌, append-nil, flat_map, ◌⊎◌, inl, inr}
use Rattle.std.specs.Prelude.{Contains}
use Rattle.gfx_model.specs.Events.{Event}
use Rattle.gfx_model.specs.Fields.{Named, Value, named_fields}
use Rattle.gfx_model.specs.Fields.Value.{names, makes, maybe, names_each, makes_each, records, submitted}
use Rattle.gfx_script_model.specs.Ids.{defines_of, made_by, named_by, uses_of}
use Rattle.gfx_lean_law.proofs.Contained.{contains_before, contains_behind, contains_split}
use Rattle.gfx_needed.specs.Fields.{ids_in, value_ids}

-- a value names or makes its ids
value_both : (v : Value) → value_ids v ≡ named_by v ++ made_by v
value_both (names n) = refl
value_both (makes n) = refl
value_both (maybe n) = refl
value_both (names_each xs) = sym (append-nil xs)
value_both (makes_each xs) = refl
value_both (records rs) = sym (append-nil (named_by (records rs)))
value_both (submitted ss) = sym (append-nil (named_by (submitted ss)))
value_both _ = refl

module _ (x : ℕ) where
  listed : (fs : List Named) → Contains (flat_map (λ f. named_by f.value) fs) x ⊎ Contains (flat_map (λ f. made_by f.value) fs) x → Contains (flat_map (λ f. value_ids f.value) fs) x
  listed [] (inl c) = c
  listed [] (inr c) = c
  listed (f ∷ fs) c = by c (listed fs)
    where
      here : Contains (named_by f.value ++ made_by f.value) x → Contains (value_ids f.value ++ flat_map (λ f. value_ids f.value) fs) x
      here c = contains_before (value_ids f.value) (flat_map (λ f. value_ids f.value) fs) x (subst (λ l. Contains l x) (sym (value_both f.value)) c)

      by : Contains (named_by f.value ++ flat_map (λ f. named_by f.value) fs) x ⊎ Contains (made_by f.value ++ flat_map (λ f. made_by f.value) fs) x →
          (Contains (flat_map (λ f. named_by f.value) fs) x ⊎ Contains (flat_map (λ f. made_by f.value) fs) x → Contains (flat_map (λ f. value_ids f.value) fs) x) →
          Contains (value_ids f.value ++ flat_map (λ f. value_ids f.value) fs) x
      by (inl c) more = elim (contains_split (named_by f.value) (flat_map (λ f. named_by f.value) fs) x c) [
        | inl c ↦ here (contains_before (named_by f.value) (made_by f.value) x c)
        | inr c ↦ contains_behind (value_ids f.value) (flat_map (λ f. value_ids f.value) fs) x (more (inl c))
      ]
      by (inr c) more = elim (contains_split (made_by f.value) (flat_map (λ f. made_by f.value) fs) x c) [
        | inl c ↦ here (contains_behind (named_by f.value) (made_by f.value) x c)
        | inr c ↦ contains_behind (value_ids f.value) (flat_map (λ f. value_ids f.value) fs) x (more (inr c))
      ]

  told : (fs : List Named) → Contains (flat_map (λ f. value_ids f.value) fs) x → Contains (flat_map (λ f. named_by f.value) fs) x ⊎ Contains (flat_map (λ f. made_by f.value) fs) x
  told [] c = inl c
  told (f ∷ fs) c = by (contains_split (value_ids f.value) (flat_map (λ f. value_ids f.value) fs) x c) (told fs)
    where
      named : List ℕ
      named = flat_map (λ f. named_by f.value) fs

      made : List ℕ
      made = flat_map (λ f. made_by f.value) fs

      by : Contains (value_ids f.value) x ⊎ Contains (flat_map (λ f. value_ids f.value) fs) x → (Contains (flat_map (λ f. value_ids f.value) fs) x → Contains named x ⊎ Contains made x) →
          Contains (named_by f.value ++ named) x ⊎ Contains (made_by f.value ++ made) x
      by (inl c) more = elim (contains_split (named_by f.value) (made_by f.value) x (subst (λ l. Contains l x) (value_both f.value) c)) [
        | inl c ↦ inl (contains_before (named_by f.value) named x c)
        | inr c ↦ inr (contains_before (made_by f.value) made x c)
      ]
      by (inr c) more = elim (more c) [ inl c ↦ inl (contains_behind (named_by f.value) named x c) | inr c ↦ inr (contains_behind (made_by f.value) made x c) ]

-- both have the same ids
pub named_ids : (e : Event) (x : ℕ) → (Contains (ids_in e) x → Contains (uses_of 2 e ++ defines_of 2 e) x) × (Contains (uses_of 2 e ++ defines_of 2 e) x → Contains (ids_in e) x)
unfolding ids_in uses_of defines_of
named_ids e x = (
  λ c. elim (told x (named_fields 2 e) c) [
    | inl c ↦ contains_before (uses_of 2 e) (defines_of 2 e) x c
    | inr c ↦ contains_behind (uses_of 2 e) (defines_of 2 e) x c
  ],
  λ c. listed x (named_fields 2 e) (contains_split (uses_of 2 e) (defines_of 2 e) x c),
)
