-- Objects and bindings stay lawful, step by step.
use Rattle.std.proofs.Common.{◌≡◌, ℕ, ◌+◌, ◌≤◌, Bool, true, false, refl, sym, ◌∙◌, ap, subst, Option, Some, ◌&&◌, cond, ◌==◌}
use Rattle.std.specs.Option.{option_map_or}
use Rattle.std.proofs.lemmas.Bool.{eqb-true, both_ways, and_parts}
use Rattle.gfx_types.specs.declared.names.Kind.TheVariants as kind
use Rattle.gfx_model.specs.Steps.{Step}
use Rattle.gfx_model.specs.Steps.Step.{creates, ends, binds}
use Rattle.gfx_model.specs.Questions.{Binding, passes}
use Rattle.gfx_model.specs.Views.{View, is_live, parent_of, size_of, detail_size}
use Rattle.gfx_model.specs.Table.{divides}
use Rattle.gfx_model.specs.Covers.{is_fetched}
use Rattle.gfx_model.specs.After.{after, is_alive, at_live}
use Rattle.gfx_laws.specs.Lawful.{base, LawfulObjects}
use Rattle.gfx_laws.proofs.Ready.{Ready, ReadyToBind}
use Rattle.gfx_laws.proofs.Cases.{by_test}
use Rattle.gfx_laws.proofs.MoreObjects.{live_of_kind, objects_create, parent_in}
use Rattle.gfx_laws.proofs.FewerObjects.{objects_end}

-- ---- a binding

-- a fact on a binding, from that on the new one and those on the others
pub split_bind : (P : Binding → Type 0) (t : Bool) (l : Option Binding) (r b : Binding) → (t ≡ true → P r) → (t ≡ false → l ≡ Some b → P b) → cond t (Some r) l ≡ Some b → P b
split_bind P true l r b f g e = subst P (let same : r ≡ b = cc in same) (f refl)
split_bind P false l r b f g e = g refl e

abbrev pub with_binding : View → ℕ → Binding → View
with_binding v r b = record v { bound = at_live v r (λ before. Some b) v.bound }

pub objects_bind : (v : View) → LawfulObjects v → (r memory offset : ℕ) → ReadyToBind v r memory offset → LawfulObjects (with_binding v r (record { memory = memory; offset = offset }))
objects_bind v h r memory offset ready =
    let new : Binding = record { memory = memory; offset = offset } in
    record {
      zero = h.zero;
      parent = h.parent;
      allowed = h.allowed;
      single = h.single;
      surface = h.surface;
      used = h.used;
      fetched = h.fetched;
      memory = λ x b e. split_bind (λ b. v.used b.memory ≡ true) (r == x && is_alive v x) (v.bound x) new b
          (λ same. let m = live_of_kind v _ memory ready.is_memory in h.used memory m.0 m.1)
          (λ other was. h.memory x b was)
          e;
      unbound = λ x o e f. by_test _ (r == x)
          (λ same. absurd (both_ways (is_fetched o.detail)
          (ap (passes (λ o. is_fetched o.detail)) (sym (ap v.live (eqb-true r x same) ∙ e)) ∙ ready.is_own) f))
          (λ other. ap (λ t. cond (t && is_alive v x) (Some new) (v.bound x)) other ∙ h.unbound x o e f);
      inside = λ x o b e bound is_memory. split_bind (λ b. is_live v kind.Memory b.memory ≡ true → b.offset + detail_size o.detail ≤ size_of v b.memory) (r == x && is_alive v x) (v.bound x) new b
          (λ same m. subst (λ n. offset + n ≤ size_of v memory) (ap (λ l. option_map_or (λ o. detail_size o.detail) l 0) (ap v.live (eqb-true r x (and_parts _ _ same).0) ∙ e)) ready.inside)
          (λ other was m. h.inside x o b e was m)
          bound is_memory;
      together = λ x o b e bound is_memory. split_bind (λ b. is_live v kind.Memory b.memory ≡ true → parent_of v b.memory ≡ o.parent) (r == x && is_alive v x) (v.bound x) new b
          (λ same m. ready.together ∙ ap parent_in (ap v.live (eqb-true r x (and_parts _ _ same).0) ∙ e))
          (λ other was m. h.together x o b e was m)
          bound is_memory;
      aligned = λ x b bound. split_bind (λ b. divides 16 b.offset ≡ true) (r == x && is_alive v x) (v.bound x) new b (λ same. ready.aligned) (λ other was. h.aligned x b was) bound;
    }

-- objects and bindings stay lawful
pub objects_after : (v : View) (s : Step) → LawfulObjects (base v) → Ready v s → LawfulObjects (base (after v s))
unfolding after
objects_after v (creates i parent detail) h ready = objects_create (base v) h i (record { parent = parent; detail = detail }) ready
objects_after v (ends gone) h ready = objects_end (base v) h gone ready
objects_after v (binds r memory offset) h ready = objects_bind (base v) h r memory offset ready
objects_after v _ h ready = h
