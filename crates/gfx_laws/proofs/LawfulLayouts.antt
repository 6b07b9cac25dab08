-- Layouts stay lawful, step by step.
use Rattle.std.proofs.Common.{◌≡◌, ℕ, Bool, true, false, refl, sym, ◌∙◌, ap, subst, Option, Some, None, cond, is_some, ◌==◌, ◌&&◌}
use Rattle.std.proofs.lemmas.Bool.{eqb-true, both_ways, cond_both}
use Rattle.gfx_model.specs.Table.{is_layout}
use Rattle.gfx_types.specs.declared.names.Kind.TheVariants as kind
use Rattle.gfx_model.specs.Steps.{Step, Object, Detail, kind_of, kind_number}
use Rattle.gfx_model.specs.Steps.Step.{creates, ends, binds, changes}
use Rattle.gfx_model.specs.Steps.Change.{set_layout}
use Rattle.gfx_model.specs.Steps.Detail.{an_image, a_buffer}
use Rattle.gfx_model.specs.Questions.{Binding, image_size, passes}
use Rattle.gfx_model.specs.Views.{View, is_live, is_usable, detail_window, bound_window}
use Rattle.gfx_model.specs.Covers.{is_fetched}
use Rattle.gfx_model.specs.After.{after, is_alive, at_live, is_gone}
use Rattle.std.proofs.Common.{option_and_then}
use Rattle.gfx_laws.specs.Lawful.{base, is_image, LawfulLayouts}
use Rattle.gfx_laws.proofs.Ready.{Ready}
use Rattle.gfx_laws.proofs.Cases.{by_test}
use Rattle.gfx_laws.proofs.FewerObjects.{live_end}

-- a usable resource is live, and has a window
pub usable_live : (v : View) (x : ℕ) → is_usable v x ≡ true → (o : Object) × (v.live x ≡ Some o) × (is_some (detail_window v x o.detail) ≡ true)
usable_live v x e = found (v.live x) e
  where
    found : (l : Option Object) → is_some (option_and_then (λ o. detail_window v x o.detail) l) ≡ true →
        (o : Object) × (l ≡ Some o) × (is_some (detail_window v x o.detail) ≡ true)
    found None e = absurd (cc)
    found (Some o) e = (o, refl, e)

-- a resource that is no swapchain's and wasn't bound has no window
pub no_window : (v : View) (x : ℕ) (d : Detail) → is_fetched d ≡ false → v.bound x ≡ None → is_some (detail_window v x d) ≡ false
no_window v x (a_buffer size usage) f b = ap (λ b. is_some (bound_window v size b)) b
no_window v x (an_image format width height usage None) f b = ap (λ b. is_some (bound_window v (image_size format width height) b)) b
no_window v x (an_image format width height usage (Some index)) f b = absurd (cc)
no_window v x _ f b = refl

not_bound : (t : Bool) (b : Binding) (l : Option Binding) → cond t (Some b) l ≡ None → l ≡ None
not_bound true b l e = absurd (cc)
not_bound false b l e = e

zero_or : (t : Bool) (n : ℕ) → (t ≡ false → n ≡ 0) → cond t 0 n ≡ 0
zero_or true n f = refl
zero_or false n f = f refl

-- a layout set on a usable image
layouts_set : (v : View) (f : ℕ → ℕ) (i l : ℕ) → LawfulLayouts v f → is_usable v i ≡ true → is_layout l ≡ true → is_live v kind.Image i ≡ true → LawfulLayouts v (at_live v i (λ before. l) f)
layouts_set v f i l h usable known image =
    let there = usable_live v i usable in
    record {
      unbound = λ x o e g b. by_test _ (i == x)
          (λ same. absurd (both_ways (is_some (detail_window v x o.detail)) (no_window v x o.detail g b)
          (let is : there.0 ≡ o = (let live : Some there.0 ≡ Some o = sym there.1 ∙ ap v.live (eqb-true i x same) ∙ e in cc) in
          ap (λ (o : Object). is_some (detail_window v x o.detail)) (sym is) ∙ ap (λ y. is_some (detail_window v y (there.0).detail)) (sym (eqb-true i x same)) ∙ there.2)))
          (λ other. ap (λ t. cond (t && is_alive v x) l (f x)) other ∙ h.unbound x o e g b);
      others = λ x o e g. by_test _ (i == x)
          (λ same. absurd (both_ways (is_image o.detail) g (image_detail o (subst (λ y. is_live v kind.Image y ≡ true) (eqb-true i x same) image) (v.live x) refl e)))
          (λ other. ap (λ t. cond (t && is_alive v x) l (f x)) other ∙ h.others x o e g);
      known = λ x. cond_both (i == x && is_alive v x) l (f x) (λ y. is_layout y ≡ true) (λ e. known) (λ e. h.known x);
    }
  where
    of_kind : (d : Detail) → (kind_number (kind_of d) == 7) ≡ true → is_image d ≡ true
    of_kind (an_image format width height usage index) e = refl
    of_kind _ e = absurd (cc)

    image_detail : {x : ℕ} (o : Object) → is_live v kind.Image x ≡ true → (m : Option Object) → v.live x ≡ m → v.live x ≡ Some o → is_image o.detail ≡ true
    image_detail {x} o k m is e = of_kind o.detail (sym (ap (passes (λ o. kind_number (kind_of o.detail) == 7)) e) ∙ k)

-- layouts stay lawful
pub layouts_after : (v : View) (s : Step) → LawfulLayouts (base v) v.layout → Ready v s → LawfulLayouts (base (after v s)) (after v s).layout
unfolding after
layouts_after v (creates i parent detail) h ready = record {
  unbound = λ x o e f b. zero_or (i == x) (v.layout x)
      (λ other. h.unbound x o (sym (ap (λ t. cond t (Some (record { parent = parent; detail = detail })) (v.live x)) other) ∙ e) f
      (sym (ap (λ t. cond t None (v.bound x)) other) ∙ b));
  others = λ x o e f. zero_or (i == x) (v.layout x)
      (λ other. h.others x o (sym (ap (λ t. cond t (Some (record { parent = parent; detail = detail })) (v.live x)) other) ∙ e) f);
  known = λ x. cond_both (i == x) 0 (v.layout x) (λ y. is_layout y ≡ true) (λ e. refl) (λ e. h.known x);
}
layouts_after v (ends gone) h ready = record {
  unbound = λ x o e f b. zero_or (is_gone v gone x) (v.layout x)
      (λ stays. h.unbound x o (sym (live_end v gone x stays) ∙ e) f (sym (ap (λ t. cond t None (v.bound x)) stays) ∙ b));
  others = λ x o e f. zero_or (is_gone v gone x) (v.layout x)
      (λ stays. h.others x o (sym (live_end v gone x stays) ∙ e) f);
  known = λ x. cond_both (is_gone v gone x) 0 (v.layout x) (λ y. is_layout y ≡ true) (λ e. refl) (λ e. h.known x);
}
layouts_after v (binds r memory offset) h ready = record {
  unbound = λ x o e f b. h.unbound x o e f (not_bound (r == x && is_alive v x) _ (v.bound x) b);
  others = h.others;
  known = h.known;
}
layouts_after v (changes (set_layout i l)) h ready = layouts_set (base v) v.layout i l h ready.0 ready.1 ready.2
layouts_after v (changes _) h ready = h
layouts_after v _ h ready = h
