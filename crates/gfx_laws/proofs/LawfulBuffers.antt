-- Commands of recording and executable buffers stay lawful, step by step.
use Rattle.std.proofs.Common.{◌≡◌, ℕ, Bool, true, false, refl, sym, ◌∙◌, ap, subst, List, [], ◌∷◌, ◌++◌, cond, is_some, ◌==◌, ◌&&◌}
use Rattle.std.specs.List.{AllByRecursion, list_any}
use Rattle.std.proofs.lemmas.Bool.{eqb-true, both_ways, cond_both, and_parts}
use Rattle.gfx_types.specs.declared.names.Kind.TheVariants as kind
use Rattle.gfx_model.specs.Events.{Event}
use Rattle.gfx_model.specs.Steps.{Step, Object, resources_of, kind_of, kind_number}
use Rattle.gfx_model.specs.Steps.Step.{creates, ends, binds, begins, records, finishes, resets, resets_pool, executed}
use Rattle.gfx_model.specs.Questions.{State, Buffer, new_buffer, is_kept, passes, invalidated, is_in_pool, is_once}
use Rattle.gfx_model.specs.Views.{View, is_live, is_usable, device_of}
use Rattle.gfx_model.specs.Checks.{is_among}
use Rattle.gfx_model.specs.After.{after, is_gone, is_lost, buffer_after_end}
use Rattle.gfx_laws.specs.Lawful.{base, LawfulObjects, LawfulBuffers, IsCommandOf}
use Rattle.gfx_laws.proofs.Ready.{Ready, ReadyToEnd}
use Rattle.gfx_model.proofs.Lists.{all_append, all_along}
use Rattle.gfx_laws.proofs.Lists.{all_zip, none_of_any}
use Rattle.gfx_laws.proofs.MoreObjects.{live_create, live_of_kind}
use Rattle.gfx_laws.proofs.FewerObjects.{live_end, without}
use Rattle.gfx_laws.proofs.LastingChecks.{SameAt, command_along, command_stays, command_usable}
use Rattle.gfx_laws.proofs.Staying.{device_create, device_end, device_same, stays_bind, stays_create, stays_end}

-- ---- steps

-- what holds of a buffer
pub record Keeps (v : View) (cb : ℕ) (b : Buffer) : Type 0 where
  pub owner : is_kept b.state ≡ true → is_live v kind.CommandBuffer cb ≡ true
  pub flags : is_kept b.state ≡ true → is_among b.flags (0 ∷ 1 ∷ 4 ∷ 5 ∷ []) ≡ true
  pub commands : is_kept b.state ≡ true → AllByRecursion (IsCommandOf v cb) b.commands

keeps_of : (v : View) (buffer : ℕ → Buffer) → LawfulBuffers v buffer → (x : ℕ) → Keeps v x (buffer x)
keeps_of v buffer h x = record { owner = h.owner x; flags = h.flags x; commands = h.commands x }

keeps_all : (v : View) (buffer : ℕ → Buffer) → ((x : ℕ) → Keeps v x (buffer x)) → LawfulBuffers v buffer
keeps_all v buffer h = record { owner = λ x. (h x).owner; flags = λ x. (h x).flags; commands = λ x. (h x).commands }

keeps_new : (v : View) (x : ℕ) → Keeps v x new_buffer
keeps_new v x = record { owner = λ k. absurd (cc); flags = λ k. absurd (cc); commands = λ k. absurd (cc) }

keeps_unkept : (v : View) (x : ℕ) (b : Buffer) → is_kept b.state ≡ false → Keeps v x b
keeps_unkept v x b e = record {
  owner = λ k. absurd (both_ways (is_kept b.state) e k);
  flags = λ k. absurd (both_ways (is_kept b.state) e k);
  commands = λ k. absurd (both_ways (is_kept b.state) e k);
}

-- a command of a live buffer stays where all that is usable does
commands_stay : (v w : View) → ((x : ℕ) → is_usable v x ≡ true → SameAt v w x) → (cb : ℕ) → device_of w cb ≡ device_of v cb → (cs : List Event) → AllByRecursion (IsCommandOf v cb) cs → AllByRecursion (IsCommandOf w cb) cs
commands_stay v w stays cb d cs a =
    all_along (IsCommandOf v cb) (IsCommandOf w cb) (λ c e. (e.0, command_stays v w stays c (ap (device_of w) e.0 ∙ d ∙ ap (device_of v) (sym e.0)) e.1)) cs a

keeps_stay : (v w : View) → ((x : ℕ) → is_usable v x ≡ true → SameAt v w x) → (cb : ℕ) → (is_live v kind.CommandBuffer cb ≡ true → (w.live cb ≡ v.live cb) × (device_of w cb ≡ device_of v cb)) → (b : Buffer) → Keeps v cb b → Keeps w cb b
keeps_stay v w stays cb same b h = record {
  owner = λ k. ap (passes (λ o. kind_number (kind_of o.detail) == 9)) (same (h.owner k)).0 ∙ h.owner k;
  flags = h.flags;
  commands = λ k. commands_stay v w stays cb (same (h.owner k)).1 b.commands (h.commands k);
}

keeps_invalidated : (v : View) (cb : ℕ) (hit : Bool) (b : Buffer) → Keeps v cb b → Keeps v cb (invalidated hit b)
keeps_invalidated v cb hit b h = cond_both (hit && is_kept b.state) (record b { state = State.invalid }) b (Keeps v cb) (λ e. keeps_unkept v cb _ refl) (λ e. h)

-- a buffer after an end that it survives
ended_buffer : (v : View) → LawfulObjects v → (gone : ℕ) → ReadyToEnd v gone → (cb : ℕ) → is_gone v gone cb ≡ false → (b : Buffer) → Keeps v cb b → Keeps (without v gone) cb (buffer_after_end v gone b)
ended_buffer v objects gone ready cb there b h = by (list_any (λ c. list_any (is_lost v gone) (resources_of c)) b.commands) refl (is_kept b.state) refl
  where
    device : device_of (without v gone) cb ≡ device_of v cb
    device = device_end v objects gone ready cb (live_end v gone cb there)

    by : (hit : Bool) → list_any (λ c. list_any (is_lost v gone) (resources_of c)) b.commands ≡ hit →
        (k : Bool) → is_kept b.state ≡ k → Keeps (without v gone) cb (cond (hit && k) (record b { state = State.invalid }) b)
    by true e true is = keeps_unkept (without v gone) cb _ refl
    by true e false is = keeps_unkept (without v gone) cb b is
    by false e k is = record {
      owner = λ k. ap (passes (λ o. kind_number (kind_of o.detail) == 9)) (live_end v gone cb there) ∙ h.owner k;
      flags = h.flags;
      commands = λ k. all_zip (λ c. list_any (is_lost v gone) (resources_of c) ≡ false) (IsCommandOf v cb) (IsCommandOf (without v gone) cb)
          (λ c none is. (
            is.0,
            command_along v (without v gone) c (ap (device_of (without v gone)) is.0 ∙ device ∙ ap (device_of v) (sym is.0))
                (all_zip (λ x. is_lost v gone x ≡ false) (λ x. is_usable v x ≡ true) (SameAt v (without v gone)) (stays_end v objects gone ready) (resources_of c) (none_of_any (is_lost v gone) (resources_of c) none) (command_usable v c is.1))
                is.1,
          ))
          b.commands (none_of_any (λ c. list_any (is_lost v gone) (resources_of c)) b.commands e) (h.commands k);
    }

kept_recording : (s : State) → s ≡ State.recording → is_kept s ≡ true
kept_recording s e = ap is_kept e

buffer_after : (v : View) (s : Step) → LawfulObjects (base v) → LawfulBuffers (base v) v.buffer → Ready v s → (x : ℕ) → Keeps (base (after v s)) x ((after v s).buffer x)
unfolding after
buffer_after v (creates i parent detail) objects h ready x =
    let w = base (after v (creates i parent detail)) in
    let r : Object = record { parent = parent; detail = detail } in
    cond_both (i == x) new_buffer (v.buffer x) (Keeps w x) (λ e. keeps_new w x)
    (λ e. keeps_stay (base v) w (stays_create (base v) i r objects ready) x
    (λ owner. let o = live_of_kind (base v) _ x owner in (live_create (base v) objects i r ready.unused x o.0 o.1, device_create (base v) i r objects ready x o.0 o.1))
    (v.buffer x) (keeps_of (base v) v.buffer h x))
buffer_after v (ends gone) objects h ready x =
    let w = base (after v (ends gone)) in
    cond_both (is_gone v gone x) new_buffer (buffer_after_end v gone (v.buffer x)) (Keeps w x) (λ e. keeps_new w x)
    (λ e. ended_buffer (base v) objects gone ready x e (v.buffer x) (keeps_of (base v) v.buffer h x))
buffer_after v (binds r memory offset) objects h ready x =
    let w = base (after v (binds r memory offset)) in
    keeps_stay (base v) w (stays_bind (base v) r memory offset ready) x (λ owner. (refl, device_same (base v) w (λ y e. refl) x refl)) (v.buffer x) (keeps_of (base v) v.buffer h x)
buffer_after v (begins cb flags) objects h ready x =
    cond_both (cb == x && is_some (v.live x)) (record { state = State.recording; flags = flags; commands = [] }) (v.buffer x) (Keeps (base v) x)
    (λ e. record { owner = λ k. subst (λ y. is_live (base v) kind.CommandBuffer y ≡ true) (eqb-true cb x (and_parts _ _ e).0) ready.0; flags = λ k. ready.1; commands = λ k. tt })
    (λ e. keeps_of (base v) v.buffer h x)
buffer_after v (records cb command) objects h ready x =
    cond_both (cb == x && is_some (v.live x)) (record (v.buffer x) { commands = (v.buffer x).commands ++ command ∷ [] }) (v.buffer x) (Keeps (base v) x)
    (λ e. record {
      owner = h.owner x;
      flags = h.flags x;
      commands = λ k. all_append (IsCommandOf (base v) x) (v.buffer x).commands (command ∷ []) (h.commands x k) ((ready.0 ∙ eqb-true cb x (and_parts _ _ e).0, ready.1), tt);
    })
    (λ e. keeps_of (base v) v.buffer h x)
buffer_after v (finishes cb) objects h ready x =
    cond_both (cb == x && is_some (v.live x)) (record (v.buffer x) { state = State.executable }) (v.buffer x) (Keeps (base v) x)
    (λ e. let kept : is_kept (v.buffer x).state ≡ true = kept_recording (v.buffer x).state (ap (λ y. (v.buffer y).state) (sym (eqb-true cb x (and_parts _ _ e).0)) ∙ ready) in
    record { owner = λ k. h.owner x kept; flags = λ k. h.flags x kept; commands = λ k. h.commands x kept })
    (λ e. keeps_of (base v) v.buffer h x)
buffer_after v (resets cb) objects h ready x = cond_both (cb == x) new_buffer (v.buffer x) (Keeps (base v) x) (λ e. keeps_new (base v) x) (λ e. keeps_of (base v) v.buffer h x)
buffer_after v (resets_pool pool) objects h ready x =
    cond_both (passes (is_in_pool pool) (v.live x)) new_buffer (v.buffer x) (Keeps (base v) x) (λ e. keeps_new (base v) x) (λ e. keeps_of (base v) v.buffer h x)
buffer_after v (executed cb) objects h ready x = keeps_invalidated (base v) x (cb == x && is_once (v.buffer x)) (v.buffer x) (keeps_of (base v) v.buffer h x)
buffer_after v _ objects h ready x = keeps_of (base v) v.buffer h x

pub buffers_after : (v : View) (s : Step) → LawfulObjects (base v) → LawfulBuffers (base v) v.buffer → Ready v s → LawfulBuffers (base (after v s)) (after v s).buffer
buffers_after v s objects h ready = keeps_all (base (after v s)) (after v s).buffer (buffer_after v s objects h ready)
