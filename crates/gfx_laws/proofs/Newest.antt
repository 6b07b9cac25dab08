-- The layout of a live image is the newest that was ever set, and a live resource was bound once at most.
use Rattle.std.proofs.Common.{◌≡◌, ℕ, Bool, true, false, refl, sym, ◌∙◌, ap, subst, List, [], ◌∷◌, Option, Some, None, cond, is_some, is_none, ◌==◌, ◌&&◌}
use Rattle.std.specs.Option.{option_map_or}
use Rattle.std.proofs.lemmas.Bool.{eqb-true, and_parts, and_from, or_parts, both_ways}
use Rattle.gfx_model.specs.Events.{Event}
use Rattle.gfx_model.specs.Steps.{Step, Object, Change}
use Rattle.gfx_model.specs.Steps.Step.{creates, ends, binds, changes}
use Rattle.gfx_model.specs.Steps.Change.{set_layout}
use Rattle.gfx_model.specs.Questions.{executed_changes, live, used, bound, layout, Binding, passes, goes_with, after_end}
use Rattle.gfx_model.specs.Views.{View, view_of}
use Rattle.gfx_model.specs.Effects.{steps_of}
use Rattle.gfx_model.specs.After.{after, is_gone}
use Rattle.gfx_model.specs.History.{onto, steps, view, fault, is_valid, executed}
use Rattle.gfx_model.proofs.Steps.{view_of-step}
use Rattle.gfx_laws.specs.Lawful.{base, IsLawful, LawfulObjects}
use Rattle.gfx_laws.specs.Newest.{newest_layout, bindings}
use Rattle.gfx_laws.proofs.Ready.{Ready, AllReady, AllRoom}
use Rattle.gfx_laws.proofs.Cases.{by_test, some_of}
use Rattle.gfx_laws.proofs.LawfulBytes.{changed}
use Rattle.gfx_laws.proofs.FewerObjects.{ended_some}
use Rattle.gfx_laws.proofs.LawfulLayouts.{usable_live}
use Rattle.gfx_laws.proofs.ValidHistories.{changes-step, lawful_onto, lawful_history, no_fault}
use Rattle.gfx_laws.proofs.EventReady.{event_ready}
use Rattle.gfx_laws.proofs.EventRoom.{event_room}

-- ---- after an end

-- what is live after an end was so before it, and is not over
pub alive_before : (v : View) (gone x : ℕ) → is_some (after_end gone x (v.live x)) ≡ true → (is_some (v.live x) ≡ true) × (is_gone v gone x ≡ false)
alive_before v gone x e =
    let o = some_of (after_end gone x (v.live x)) e in
    let was = ended_some gone x (v.live x) o.0 o.1 in
    (ap is_some was.0, ap (passes (goes_with gone x)) was.0 ∙ was.1)

-- where it is one of two, and live, it is so
set_live : (b t : Bool) (l m n : ℕ) → t ≡ true → m ≡ n → cond (b && t) l m ≡ cond b l n
set_live true t l m n e f = ap (λ t. cond t l m) e
set_live false t l m n e f = f

-- ---- layouts

-- layouts of live ids are the newest, and no other was set on what was never used
pub record NewestLayouts (live : ℕ → Option Object) (used : ℕ → Bool) (layout newest : ℕ → ℕ) : Type 0 where
  pub same : (x : ℕ) → is_some (live x) ≡ true → layout x ≡ newest x
  pub unused : (x : ℕ) → used x ≡ false → newest x ≡ 0

layouts_newest : (v : View) (s : Step) (es : List Change) → LawfulObjects (base v) → Ready v s → NewestLayouts v.live v.used v.layout (newest_layout es) →
    NewestLayouts (after v s).live (after v s).used (after v s).layout (newest_layout (changed s es))
unfolding after
layouts_newest v (creates i parent detail) es o ready h = record {
  same = λ x e. by_test _ (i == x)
      (λ same. ap (λ t. cond t 0 (v.layout x)) same ∙ sym (h.unused x (ap v.used (sym (eqb-true i x same)) ∙ ready.unused)))
      (λ other. ap (λ t. cond t 0 (v.layout x)) other
      ∙ h.same x (sym (ap (λ t. is_some (cond t (Some (record { parent = parent; detail = detail })) (v.live x))) other) ∙ e));
  unused = λ x e. h.unused x (or_parts (i == x) _ e).1;
}
layouts_newest v (ends gone) es o ready h = record {
  same = λ x e.
      let was = alive_before v gone x e in
      ap (λ t. cond t 0 (v.layout x)) was.1 ∙ h.same x was.0;
  unused = h.unused;
}
layouts_newest v (changes (set_layout i l)) es o ready h =
    let there = usable_live (base v) i ready.0 in
    record {
      same = λ x e. set_live (i == x) (is_some (v.live x)) l (v.layout x) (newest_layout es x) e (h.same x e);
      unused = λ x e. by_test _ (i == x)
          (λ same. absurd (both_ways (v.used x) e (ap v.used (sym (eqb-true i x same)) ∙ o.used i there.0 there.1)))
          (λ other. ap (λ t. cond t l (newest_layout es x)) other ∙ h.unused x e);
    }
layouts_newest v (changes _) es o ready h = h
layouts_newest v _ es o ready h = h

-- ---- bindings

-- none or one
abbrev pub in_list : Option Binding → List Binding
in_list b = option_map_or (λ b. b ∷ []) b []

-- bindings of live ids are all that they got, and what was never used got none
pub record OneBinding (live : ℕ → Option Object) (used : ℕ → Bool) (bound : ℕ → Option Binding) (all : ℕ → List Binding) : Type 0 where
  pub one : (x : ℕ) → is_some (live x) ≡ true → all x ≡ in_list (bound x)
  pub unused : (x : ℕ) → used x ≡ false → all x ≡ []

bindings_one : (v : View) (s : Step) (h : List Step) → LawfulObjects (base v) → Ready v s → OneBinding v.live v.used v.bound (bindings h) →
    OneBinding (after v s).live (after v s).used (after v s).bound (bindings (s ∷ h))
unfolding after
bindings_one v (creates i parent detail) h o ready b = record {
  one = λ x e. by_test _ (i == x)
      (λ same. b.unused x (ap v.used (sym (eqb-true i x same)) ∙ ready.unused) ∙ sym (ap (λ t. in_list (cond t None (v.bound x))) same))
      (λ other. b.one x (sym (ap (λ t. is_some (cond t (Some (record { parent = parent; detail = detail })) (v.live x))) other) ∙ e)
      ∙ sym (ap (λ t. in_list (cond t None (v.bound x))) other));
  unused = λ x e. b.unused x (or_parts (i == x) _ e).1;
}
bindings_one v (ends gone) h o ready b = record {
  one = λ x e.
      let was = alive_before v gone x e in
      b.one x was.0 ∙ sym (ap (λ t. in_list (cond t None (v.bound x))) was.1);
  unused = b.unused;
}
bindings_one v (binds r memory offset) h o ready b =
    let new : Binding = record { memory = memory; offset = offset } in
    let there = some_of (v.live r) ready.created in
    record {
      one = λ x e. by_test _ (r == x)
          (λ same. ap (λ t. cond t (new ∷ bindings h x) (bindings h x)) same
          ∙ ap (λ l. new ∷ l) (b.one x e ∙ ap in_list (ap v.bound (sym (eqb-true r x same)) ∙ ready.unbound))
          ∙ sym (ap (λ t. in_list (cond t (Some new) (v.bound x))) (and_from _ _ same e)))
          (λ other. ap (λ t. cond t (new ∷ bindings h x) (bindings h x)) other ∙ b.one x e
          ∙ sym (ap (λ t. in_list (cond (t && is_some (v.live x)) (Some new) (v.bound x))) other));
      unused = λ x e. by_test _ (r == x)
          (λ same. absurd (both_ways (v.used x) e (ap v.used (sym (eqb-true r x same)) ∙ o.used r there.0 there.1)))
          (λ other. ap (λ t. cond t (new ∷ bindings h x) (bindings h x)) other ∙ b.unused x e);
    }
bindings_one v _ h o ready b = b

-- ---- histories

pub record IsNewest (v : View) (es : List Change) (h : List Step) : Type 0 where
  pub layouts : NewestLayouts v.live v.used v.layout (newest_layout es)
  pub bindings : OneBinding v.live v.used v.bound (bindings h)

pub newest_step : (s : Step) (h : List Step) → IsLawful (view_of h) (executed_changes h) → Ready (view_of h) s →
    IsNewest (view_of h) (executed_changes h) h → IsNewest (view_of (s ∷ h)) (executed_changes (s ∷ h)) (s ∷ h)
newest_step s h l a n =
    let next : IsNewest (after (view_of h) s) (changed s (executed_changes h)) (s ∷ h) = record {
      layouts = layouts_newest (view_of h) s (executed_changes h) l.objects a n.layouts;
      bindings = bindings_one (view_of h) s h l.objects a n.bindings;
    } in
    subst (λ v. IsNewest v (executed_changes (s ∷ h)) (s ∷ h)) (sym (view_of-step s h))
    (subst (λ es. IsNewest (after (view_of h) s) es (s ∷ h)) (sym (changes-step s h)) next)

newest_onto : (ss h : List Step) → IsLawful (view_of h) (executed_changes h) → AllReady (view_of h) ss → AllRoom (view_of h) ss →
    IsNewest (view_of h) (executed_changes h) h → IsNewest (view_of (onto ss h)) (executed_changes (onto ss h)) (onto ss h)
newest_onto [] h l a r n = n
newest_onto (s ∷ ss) h l a r n =
    let same = sym (view_of-step s h) in
    newest_onto ss (s ∷ h) (lawful_onto (s ∷ []) h l (a.0, tt) (r.0, tt))
    (subst (λ v. AllReady v ss) same a.1) (subst (λ v. AllRoom v ss) same r.1) (newest_step s h l a.0 n)

pub newest_history : (h : List Event) → is_valid h ≡ true → IsNewest (view h) (executed h) (steps h)
unfolding steps executed_changes live used bound layout
newest_history [] e = record {
  layouts = record { same = λ x e. absurd (cc); unused = λ x e. refl };
  bindings = record { one = λ x e. absurd (cc); unused = λ x e. refl };
}
newest_history (x ∷ h) e =
    let parts = and_parts (is_valid h) (is_none (fault h x)) e in
    let before = lawful_history h parts.0 in
    let none : fault h x ≡ None = no_fault _ parts.1 in
    newest_onto (steps_of (view h) x) (steps h) before (event_ready (view h) (executed h) before x none) (event_room (view h) x none)
    (newest_history h parts.0)

pub layout_history : (h : List Event) → is_valid h ≡ true → (x : ℕ) → is_some ((view h).live x) ≡ true → (view h).layout x ≡ newest_layout (executed h) x
layout_history h e x there = ((newest_history h e).layouts).same x there

pub bound_history : (h : List Event) → is_valid h ≡ true → (x : ℕ) → is_some ((view h).live x) ≡ true → bindings (steps h) x ≡ option_map_or (λ b. b ∷ []) ((view h).bound x) []
bound_history h e x there = ((newest_history h e).bindings).one x there
