-- The ids that a range needs, found step by step.
use Rattle.std.proofs.Common.{◌≡◌, ℕ, ◌<◌, true, not, sym, ◌∙◌, ap, subst, arith, append-nil, List, [], ◌∷◌, ◌++◌, length, length-append, ◌⊎◌, inl, inr}
use mathlib.Core.Path.{fun_ext}
use Rattle.std.specs.Prelude.{Contains, count_by}
use Rattle.std.proofs.lemmas.Grind.{flat_map-append}
use Rattle.gfx_model.specs.Events.{Event}
use Rattle.gfx_model.specs.Views.{View}
use Rattle.gfx_script_model.specs.Ids.{defines_of, uses_of}
use Rattle.gfx_feature_model.specs.Lean.{Needed, named_in}
use Rattle.gfx_feature_model.specs.Lean.Needed.{by_name, as_parent, as_memory, as_surface, as_image, as_resource}
use Rattle.gfx_lean_law.specs.Computed.{stands_on}
use Rattle.gfx_lean_law.proofs.Contained.{contains_before, contains_behind, contains_here, contains_none, contains_one, contains_split}
use Rattle.gfx_lean_law.proofs.Marks.{needed_by_list}
use Rattle.gfx_tracker.specs.declared.tracker.Tracker.{Tracker}
use Rattle.gfx_tracker.specs.Tracker.{answers}
use Rattle.gfx_needed.specs.Fields.{ids_in}
use Rattle.gfx_needed.specs.Grounds.{grounds}
use Rattle.gfx_needed.specs.NeededIds.{IsFound, IsSearched, Marks, is_marked, work}
use Rattle.gfx_needed.specs.declared.needed.NeededIds.{NeededIds}
use Rattle.gfx_needed.proofs.Naming.{named_ids}
use Rattle.gfx_needed.proofs.Trackers.{leads_on, stood_on}

-- ---- one event more

names_more : (range : List Event) (e : Event) → named_in (range ++ e ∷ []) ≡ named_in range ++ (uses_of 2 e ++ defines_of 2 e)
names_more range e =
    flat_map-append (λ e. uses_of 2 e ++ defines_of 2 e) range (e ∷ [])
    ∙ ap (λ l. named_in range ++ l) (append-nil (uses_of 2 e ++ defines_of 2 e))

-- what a range needs, a longer one needs
needs_more : (v : View) (range : List Event) (e : Event) (x : ℕ) → Needed v range x → Needed v (range ++ e ∷ []) x
needs_more v range e _ (by_name x live c) = by_name x live (subst (λ l. Contains l x) (sym (names_more range e)) (contains_before (named_in range) (uses_of 2 e ++ defines_of 2 e) x c))
needs_more v range e _ (as_parent x live n) = as_parent x live (needs_more v range e x n)
needs_more v range e _ (as_memory x m usable at n) = as_memory x m usable at (needs_more v range e x n)
needs_more v range e _ (as_surface x s at n) = as_surface x s at (needs_more v range e x n)
needs_more v range e _ (as_image x i c n) = as_image x i c (needs_more v range e x n)
needs_more v range e _ (as_resource cb r kept c n) = as_resource cb r kept c (needs_more v range e cb n)

pub searched_more : (v : View) (range : List Event) (e : Event) (old new : NeededIds) → Marks v (ids_in e) old new → IsSearched v range old → IsSearched v (range ++ e ∷ []) new
searched_more v range e old new m s = record {
  named = λ x live c. elim (contains_split (named_in range) (uses_of 2 e ++ defines_of 2 e) x (subst (λ l. Contains l x) (names_more range e) c)) [
    | inl c ↦ m.stays x (s.named x live c)
    | inr c ↦ m.all x ((named_ids e x).1 c) live
  ];
  needed = λ x is. elim (m.only x is) [
    | inl is ↦ needs_more v range e x (s.needed x is)
    | inr c ↦ by_name x c.1 (subst (λ l. Contains l x) (sym (names_more range e)) (contains_behind (named_in range) (uses_of 2 e ++ defines_of 2 e) x ((named_ids e x).0 c.0)))
  ];
  live = λ x is. elim (m.only x is) [ inl is ↦ s.live x is | inr c ↦ c.1 ];
  pending = λ x c. elim (m.pending x c) [ inl c ↦ m.stays x (s.pending x c) | inr is ↦ is ];
  closed = λ x is. elim (m.added x is) [
    | inl is ↦ elim (s.closed x is) [ inl c ↦ inl (m.waits x c) | inr all ↦ inr (λ y c. m.stays y (all y c)) ]
    | inr c ↦ inl c
  ];
}

-- ---- one id more is looked at

module _ (t : Tracker) (range : List Event) (x : ℕ) (old popped new : NeededIds)
    (taken : old.pending.items ≡ popped.pending.items ++ x ∷ []) (same : (y : ℕ) → is_marked popped y ≡ is_marked old y) where
  abbrev v : View
  v = answers t

  -- less is left to do
  pub less_work : Marks v (grounds v x) popped new → work v new < work v old
  less_work m =
      let longer = ap length taken ∙ length-append popped.pending.items (x ∷ []) in
      let as_many = ap (λ f. count_by (λ y. not (f y)) v.ids) (fun_ext same) in
      let less = m.less in
      omega (arith, less, longer, as_many)

  pub searched_on : Marks v (grounds v x) popped new → IsSearched v range old → IsSearched v range new
  searched_on m s = record {
    named = λ y live c. m.stays y (same y ∙ s.named y live c);
    needed = λ y is. elim (m.only y is) [
      | inl is ↦ s.needed y (sym (same y) ∙ is)
      | inr c ↦ elim (leads_on t x y (s.live x marked) c.1 c.0) [
        | inl here ↦ subst (Needed v range) here (s.needed x marked)
        | inr stands ↦ (needed_by_list v range).more x y (s.needed x marked) stands
      ]
    ];
    live = λ y is. elim (m.only y is) [ inl is ↦ s.live y (sym (same y) ∙ is) | inr c ↦ c.1 ];
    pending = λ y c. elim (m.pending y c) [
      | inl c ↦ m.stays y (same y ∙ s.pending y (subst (λ l. Contains l y) (sym taken) (contains_before popped.pending.items (x ∷ []) y c)))
      | inr is ↦ is
    ];
    closed = λ y is. elim (m.added y is) [
      | inl is ↦ elim (s.closed y (sym (same y) ∙ is)) [
        | inl c ↦ waiting y (contains_split popped.pending.items (x ∷ []) y (subst (λ l. Contains l y) taken c))
        | inr all ↦ inr (λ z c. m.stays z (same z ∙ all z c))
      ]
      | inr c ↦ inl c
    ];
  }
    where
      marked : is_marked old x ≡ true
      marked = s.pending x (subst (λ l. Contains l x) (sym taken) (contains_behind popped.pending.items (x ∷ []) x (contains_here x [])))

      looked_at : (y : ℕ) → x ≡ y → (z : ℕ) → Contains (stands_on v y) z → is_marked new z ≡ true
      looked_at y here z c =
          let there = stood_on t x z (s.live x marked) (subst (λ y. Contains (stands_on v y) z) (sym here) c) in
          m.all z there.1 there.0

      waiting : (y : ℕ) → Contains popped.pending.items y ⊎ Contains (x ∷ []) y → Contains new.pending.items y ⊎ ((z : ℕ) → Contains (stands_on v y) z → is_marked new z ≡ true)
      waiting y (inl c) = inl (m.waits y c)
      waiting y (inr c) = inr (looked_at y (contains_one x y c))

-- nothing is left to look at
pub searched_whole : (v : View) (range : List Event) (n : NeededIds) → n.pending.items ≡ [] → IsSearched v range n → IsFound v range (is_marked n)
searched_whole v range n none s = record {
  marked = (needed_by_list v range).all (is_marked n) s.named (λ x y is c. by x y c (s.closed x is));
  needed = s.needed;
}
  where
    by : (x y : ℕ) → Contains (stands_on v x) y → Contains n.pending.items x ⊎ ((y : ℕ) → Contains (stands_on v x) y → is_marked n y ≡ true) → is_marked n y ≡ true
    by x y c (inl waits) = absurd (contains_none x (subst (λ l. Contains l x) none waits))
    by x y c (inr all) = all y c
