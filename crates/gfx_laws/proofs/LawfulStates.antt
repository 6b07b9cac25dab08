-- Maps, signals and acquired images stay lawful, step by step.
use Rattle.std.proofs.Common.{◌≡◌, ℕ, ◌+◌, ◌<◌, ◌≤◌, Bool, true, false, refl, sym, ◌∙◌, ap, subst, Option, Some, None, cond, is_some, ◌==◌, ◌&&◌}
use Rattle.std.specs.Option.{option_map_or}
use Rattle.std.proofs.lemmas.Bool.{eqb-true, and_parts}
use Rattle.gfx_types.specs.declared.names.Kind.TheVariants as kind
use Rattle.gfx_model.specs.Steps.{Step, Object, kind_of, kind_number}
use Rattle.gfx_model.specs.Steps.Step.{creates, ends, binds, maps, unmaps, signals, unsignals, acquires, gives_back}
use Rattle.gfx_model.specs.Questions.{Range, passes}
use Rattle.gfx_model.specs.Views.{View, is_live, images_in, detail_size, detail_images}
use Rattle.gfx_model.specs.After.{after, is_gone}
use Rattle.gfx_laws.specs.Lawful.{base, LawfulObjects, LawfulStates, IsRangeOf, has_signal}
use Rattle.gfx_laws.proofs.Ready.{Ready}
use Rattle.gfx_laws.proofs.MoreObjects.{live_of_kind, live_create}
use Rattle.gfx_laws.proofs.FewerObjects.{live_end}
use Rattle.gfx_laws.proofs.Staying.{memory_stays}

-- a fact on a live object where it stays
range_along : (v w : View) (m : ℕ) (r : Range) → w.live m ≡ v.live m → IsRangeOf v m r → IsRangeOf w m r
range_along v w m r e h = record {
  is_memory = ap (passes (λ o. kind_number (kind_of o.detail) == 5)) e ∙ h.is_memory;
  begins = subst (λ l. r.offset < option_map_or (λ o. detail_size o.detail) l 0) (sym e) h.begins;
  positive = h.positive;
  ends = subst (λ l. r.offset + r.length ≤ option_map_or (λ o. detail_size o.detail) l 0) (sym e) h.ends;
}

abbrev pub IsMark : View → ℕ → ℕ → Type 0
IsMark v swapchain index = (is_live v kind.Swapchain swapchain ≡ true) × (index < images_in v swapchain)

mark_along : (v w : View) (swapchain index : ℕ) → w.live swapchain ≡ v.live swapchain → IsMark v swapchain index → IsMark w swapchain index
mark_along v w swapchain index e h =
    (ap (passes (λ o. kind_number (kind_of o.detail) == 12)) e ∙ h.0, subst (λ l. index < option_map_or (λ o. detail_images o.detail) l 0) (sym e) h.1)

-- a test of a choice
off_on : (b t : Bool) → cond b false t ≡ true → (b ≡ false) × (t ≡ true)
off_on true t e = absurd (cc)
off_on false t e = (refl, e)

none_some : {X : Type 0} (b : Bool) (o : Option X) (x : X) → cond b None o ≡ Some x → (b ≡ false) × (o ≡ Some x)
none_some true o x e = absurd (cc)
none_some false o x e = (refl, e)

some_or : {X : Type 0} (P : X → Type 0) (b : Bool) (r : X) (o : Option X) (x : X) → (b ≡ true → P r) → (o ≡ Some x → P x) → cond b (Some r) o ≡ Some x → P x
some_or P true r o x f g e = subst P (let same : r ≡ x = cc in same) (f refl)
some_or P false r o x f g e = g e

true_or : (P : Type 0) (b t : Bool) → (b ≡ true → P) → (t ≡ true → P) → cond b true t ≡ true → P
true_or P true t f g e = f refl
true_or P false t f g e = g e

mark_off : (b : Bool) (f : ℕ → Bool) (k : ℕ) → cond {A = ℕ → Bool} b (λ index. false) f k ≡ true → (b ≡ false) × (f k ≡ true)
mark_off true f k e = absurd (cc)
mark_off false f k e = (refl, e)

pub states_after : (v : View) (s : Step) → LawfulObjects (base v) → LawfulStates (base v) v.mapped v.signalled v.acquired → Ready v s →
    LawfulStates (base (after v s)) (after v s).mapped (after v s).signalled (after v s).acquired
unfolding after
states_after v (creates i parent detail) objects h ready =
    let r : Object = record { parent = parent; detail = detail } in
    let w = base (after v (creates i parent detail)) in
    record {
      mapped = λ m range e. let was = h.mapped m range e in let o = live_of_kind v _ m was.is_memory in
          range_along (base v) w m range (live_create (base v) objects i r ready.unused m o.0 o.1) was;
      signalled = λ x e. let parts = off_on (i == x) (v.signalled x) e in let was = h.signalled x parts.1 in let o = live_of_kind v _ x was in
          ap (passes (λ o. has_signal o.detail)) (live_create (base v) objects i r ready.unused x o.0 o.1) ∙ was;
      acquired = λ x k e. let parts = mark_off (i == x) (v.acquired x) k e in let was = h.acquired x k parts.1 in let o = live_of_kind v _ x was.0 in
          mark_along (base v) w x k (live_create (base v) objects i r ready.unused x o.0 o.1) was;
    }
states_after v (ends gone) objects h ready =
    let w = base (after v (ends gone)) in
    record {
      mapped = λ m range e. let parts = none_some (gone == m) (v.mapped m) range e in let was = h.mapped m range parts.1 in
          range_along (base v) w m range (live_end (base v) gone m (memory_stays (base v) gone m parts.0 was.is_memory)) was;
      signalled = λ x e. let parts = off_on (is_gone v gone x) (v.signalled x) e in
          ap (passes (λ o. has_signal o.detail)) (live_end (base v) gone x parts.0) ∙ h.signalled x parts.1;
      acquired = λ x k e. let parts = mark_off (is_gone v gone x) (v.acquired x) k e in
          mark_along (base v) w x k (live_end (base v) gone x parts.0) (h.acquired x k parts.1);
    }
states_after v (binds r memory offset) objects h ready = record {
  mapped = λ m range e. range_along (base v) (base (after v (binds r memory offset))) m range refl (h.mapped m range e);
  signalled = h.signalled;
  acquired = h.acquired;
}
states_after v (maps m offset length) objects h ready = record {
  mapped = λ x range e. some_or (λ r. IsRangeOf (base v) x r) (m == x) (record { offset = offset; length = length }) (v.mapped x) range
      (λ same. subst (λ y. IsRangeOf (base v) y (record { offset = offset; length = length })) (eqb-true m x same) ready) (h.mapped x range) e;
  signalled = h.signalled;
  acquired = h.acquired;
}
states_after v (unmaps m) objects h ready = record {
  mapped = λ x range e. h.mapped x range (none_some (m == x) (v.mapped x) range e).1;
  signalled = h.signalled;
  acquired = h.acquired;
}
states_after v (signals i) objects h ready = record {
  mapped = h.mapped;
  signalled = λ x e. true_or (passes (λ o. has_signal o.detail) (v.live x) ≡ true) (i == x && is_some (v.live x)) (v.signalled x)
      (λ is. subst (λ y. passes (λ o. has_signal o.detail) (v.live y) ≡ true) (eqb-true i x (and_parts (i == x) _ is).0) ready) (h.signalled x) e;
  acquired = h.acquired;
}
states_after v (unsignals i) objects h ready = record {
  mapped = h.mapped;
  signalled = λ x e. h.signalled x (off_on (i == x) (v.signalled x) e).1;
  acquired = h.acquired;
}
states_after v (acquires swapchain k) objects h ready = record {
  mapped = h.mapped;
  signalled = h.signalled;
  acquired = λ x index e. true_or (IsMark (base v) x index) (swapchain == x && k == index && is_some (v.live x)) (v.acquired x index)
      (λ is. let parts = and_parts (swapchain == x && k == index) (is_some (v.live x)) is in let two = and_parts (swapchain == x) (k == index) parts.0 in
      subst (λ y. IsMark (base v) y index) (eqb-true swapchain x two.0) (subst (IsMark (base v) swapchain) (eqb-true k index two.1) ready))
      (h.acquired x index) e;
}
states_after v (gives_back swapchain k) objects h ready = record {
  mapped = h.mapped;
  signalled = h.signalled;
  acquired = λ x index e. h.acquired x index (off_on (swapchain == x && k == index) (v.acquired x index) e).1;
}
states_after v _ objects h ready = h
