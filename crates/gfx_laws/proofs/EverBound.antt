-- In a valid history a command buffer is invalidated where one of its resources rests on what ended by its newest binding ever,
-- live or not: what a kept buffer names is live, so nothing hangs on what is answered for the rest.
use Rattle.std.proofs.Common.{◌≡◌, ℕ, Bool, true, false, refl, sym, ◌∙◌, ap, subst, List, [], ◌∷◌, ◌++◌, Option, Some, None, cond, is_some, is_none, ◌==◌, ◌&&◌, ◌||◌}
use Rattle.std.specs.List.{list_any}
use Rattle.std.proofs.lemmas.Bool.{and_parts}
use Rattle.gfx_model.specs.Steps.{Step, resources_of}
use Rattle.gfx_model.specs.Steps.Step.{creates, ends, binds, begins, records, finishes, resets, resets_pool, executed}
use Rattle.gfx_model.specs.Questions.{executed_changes, live, Binding, Buffer, State, new_buffer, is_kept, passes, goes_with, rests_on, invalidated, is_once, is_in_pool}
use Rattle.gfx_model.specs.Views.{View, view_of}
use Rattle.gfx_model.specs.Effects.{steps_of}
use Rattle.gfx_model.specs.After.{after, is_lost}
use Rattle.gfx_model.specs.History as history
use Rattle.gfx_model.specs.History.{onto, steps, view, fault, is_valid}
use Rattle.gfx_model.proofs.Steps.{view_of-step}
use Rattle.gfx_laws.specs.Lawful.{base, IsLawful, LawfulBuffers}
use Rattle.gfx_laws.specs.Laws.{BuffersByBindings}
use Rattle.gfx_laws.specs.Newest.{bindings, ever_bound, ever_loses, ever_names_lost, ever_buffer}
use Rattle.gfx_laws.proofs.Ready.{AllReady, AllRoom}
use Rattle.gfx_model.proofs.Lists.{all_along}
use Rattle.gfx_laws.proofs.LawfulLayouts.{usable_live}
use Rattle.gfx_laws.proofs.ValidHistories.{lawful_onto, lawful_history, no_fault}
use Rattle.gfx_laws.proofs.EventReady.{event_ready}
use Rattle.gfx_laws.proofs.EventRoom.{event_room}
use Rattle.gfx_laws.proofs.Covering.{any_same, kept_usable}
use Rattle.gfx_laws.proofs.Newest.{IsNewest, in_list, alive_before, newest_step, newest_history}

-- ---- bindings

abbrev first_of : List Binding → Option Binding
first_of [] = None
first_of (b ∷ bs) = Some b

first_cond : (t : Bool) (b : Binding) (o : Option Binding) (l : List Binding) → o ≡ first_of l → cond t (Some b) o ≡ first_of (cond t (b ∷ l) l)
first_cond true b o l e = refl
first_cond false b o l e = e

ever_first : (h : List Step) (r : ℕ) → ever_bound h r ≡ first_of (bindings h r)
unfolding ever_bound
ever_first [] r = refl
ever_first (binds i memory offset ∷ h) r = first_cond (i == r) (record { memory = memory; offset = offset }) (ever_bound h r) (bindings h r) (ever_first h r)
ever_first (_ ∷ h) r = ever_first h r

first_in : (o : Option Binding) → first_of (in_list o) ≡ o
first_in None = refl
first_in (Some b) = refl

-- ---- buffers

buffer_cond : (b t : Bool) (l m n k : Buffer) → t ≡ true → l ≡ k → m ≡ n → cond (b && t) l m ≡ cond b k n
buffer_cond true t l m n k e f g = ap (λ t. cond t l m) e ∙ f
buffer_cond false t l m n k e f g = g

invalid_same : (k a b : Bool) (c : Buffer) → is_kept c.state ≡ k → (k ≡ true → a ≡ b) → invalidated a c ≡ invalidated b c
invalid_same true a b c e f = ap (λ t. invalidated t c) (f refl)
invalid_same false true true c e f = refl
invalid_same false false false c e f = refl
invalid_same false true false c e f = ap (λ t. cond t (record c { state = State.invalid }) c) e
invalid_same false false true c e f = sym (ap (λ t. cond t (record c { state = State.invalid }) c) e)

-- answers for live ids are those of the steps, by any binding
abbrev SameBuffers : View → List Step → Type 0
SameBuffers v h = (x : ℕ) → is_some (v.live x) ≡ true → v.buffer x ≡ ever_buffer h x

lost_ever : (h : List Step) → IsNewest (view_of h) (executed_changes h) h → (gone r : ℕ) → is_some (live h r) ≡ true → is_lost (view_of h) gone r ≡ ever_loses h gone r
lost_ever h n gone r there =
    ap (λ b. gone == r || passes (goes_with gone r) (live h r) || rests_on gone b)
    (sym (first_in ((view_of h).bound r)) ∙ ap first_of (sym ((n.bindings).one r there)) ∙ sym (ever_first h r))

names_ever : (h : List Step) → IsNewest (view_of h) (executed_changes h) h → LawfulBuffers (base (view_of h)) (view_of h).buffer → (gone x : ℕ) →
    is_kept ((view_of h).buffer x).state ≡ true →
    list_any (λ c. list_any (is_lost (view_of h) gone) (resources_of c)) ((view_of h).buffer x).commands ≡ ever_names_lost h gone ((view_of h).buffer x)
names_ever h n l gone x kept =
    any_same (λ c. list_any (is_lost (view_of h) gone) (resources_of c)) (λ c. list_any (ever_loses h gone) (resources_of c)) ((view_of h).buffer x).commands
    (all_along _ (λ e. list_any (is_lost (view_of h) gone) (resources_of e) ≡ list_any (ever_loses h gone) (resources_of e))
    (λ e all. any_same (is_lost (view_of h) gone) (ever_loses h gone) (resources_of e)
    (all_along _ (λ r. is_lost (view_of h) gone r ≡ ever_loses h gone r)
    (λ r usable. lost_ever h n gone r (ap is_some (usable_live (view_of h) r usable).1)) (resources_of e) all))
    ((view_of h).buffer x).commands (kept_usable (view_of h) l x kept))

buffers_ever : (s : Step) (h : List Step) → IsNewest (view_of h) (executed_changes h) h → LawfulBuffers (base (view_of h)) (view_of h).buffer →
    SameBuffers (view_of h) h → SameBuffers (after (view_of h) s) (s ∷ h)
unfolding after ever_buffer
buffers_ever (creates i parent detail) h n l b x e = by (i == x) e
  where
    by : (t : Bool) → is_some (cond t (Some (record { parent = parent; detail = detail })) (live h x)) ≡ true →
        cond t new_buffer ((view_of h).buffer x) ≡ cond t new_buffer (ever_buffer h x)
    by true e = refl
    by false e = b x e
buffers_ever (ends gone) h n l b x e =
    let was = alive_before (view_of h) gone x e in
    ap (λ t. cond t new_buffer (invalidated (list_any (λ c. list_any (is_lost (view_of h) gone) (resources_of c)) ((view_of h).buffer x).commands) ((view_of h).buffer x))) was.1
    ∙ invalid_same (is_kept ((view_of h).buffer x).state) _ _ ((view_of h).buffer x) refl (names_ever h n l gone x)
    ∙ ap (λ c. invalidated (ever_names_lost h gone c) c) (b x was.0)
buffers_ever (begins cb flags) h n l b x e = buffer_cond (cb == x) (is_some (live h x)) _ _ _ _ e refl (b x e)
buffers_ever (records cb command) h n l b x e =
    buffer_cond (cb == x) (is_some (live h x)) _ _ _ _ e (ap (λ (c : Buffer). record c { commands = c.commands ++ command ∷ [] }) (b x e)) (b x e)
buffers_ever (finishes cb) h n l b x e =
    buffer_cond (cb == x) (is_some (live h x)) _ _ _ _ e (ap (λ (c : Buffer). record c { state = State.executable }) (b x e)) (b x e)
buffers_ever (resets cb) h n l b x e = ap (λ c. cond (cb == x) new_buffer c) (b x e)
buffers_ever (resets_pool pool) h n l b x e = ap (λ c. cond (passes (is_in_pool pool) (live h x)) new_buffer c) (b x e)
buffers_ever (executed cb) h n l b x e = ap (λ c. invalidated (cb == x && is_once c) c) (b x e)
buffers_ever _ h n l b x e = b x e

-- ---- histories

buffers_onto : (ss h : List Step) → IsLawful (view_of h) (executed_changes h) → AllReady (view_of h) ss → AllRoom (view_of h) ss →
    IsNewest (view_of h) (executed_changes h) h → SameBuffers (view_of h) h → SameBuffers (view_of (onto ss h)) (onto ss h)
buffers_onto [] h l a r n b = b
buffers_onto (s ∷ ss) h l a r n b =
    let same = sym (view_of-step s h) in
    buffers_onto ss (s ∷ h) (lawful_onto (s ∷ []) h l (a.0, tt) (r.0, tt))
    (subst (λ v. AllReady v ss) same a.1) (subst (λ v. AllRoom v ss) same r.1) (newest_step s h l a.0 n)
    (subst (λ v. SameBuffers v (s ∷ h)) same (buffers_ever s h n l.buffers b))

pub buffers_history : BuffersByBindings
unfolding steps live
buffers_history [] e = λ x e. absurd (cc)
buffers_history (x ∷ h) e =
    let parts = and_parts (is_valid h) (is_none (fault h x)) e in
    let before = lawful_history h parts.0 in
    let none : fault h x ≡ None = no_fault _ parts.1 in
    buffers_onto (steps_of (view h) x) (steps h) before (event_ready (view h) (history.executed h) before x none) (event_room (view h) x none)
    (newest_history h parts.0) (buffers_history h parts.0)
