-- What the turns of a submit do, and the answers after it.
use Rattle.std.proofs.Common.{◌≡◌, ℕ, ◌==◌, Bool, true, false, List, [], ◌∷◌, ◌++◌, map, refl, ap, sym, ◌∙◌, append_assoc, append-nil, if◌then◌else◌, zero, suc, ◌+◌, ◌<◌, length, take, get_or, arith}
use Rattle.std.specs.Prelude.{fold, flat_map}
use Rattle.std.proofs.lemmas.List.{map-append}
use Rattle.std.proofs.lemmas.Grind.{flat_map-append}
use Rattle.gfx_types.specs.declared.lists.Submit.{Submit}
use Rattle.gfx_model.specs.Events.{Event}
use Rattle.gfx_model.specs.Events.Event.{CreateInstance, QueueSubmit}
use Rattle.gfx_model.specs.Steps.Step.{taken, changes}
use Rattle.gfx_model.specs.Questions.{Buffer}
use Rattle.gfx_model.specs.Views.{View}
use Rattle.gfx_model.specs.Checks.{Turn, layouts_after, turns_of, turns_of_submit}
use Rattle.gfx_model.specs.Checks.Turn.{wait, execute, signal}
use Rattle.gfx_model.specs.Layouts.{asked_in, layouts_by}
use Rattle.gfx_model.specs.Effects.{effect_of, changes_of_buffer, signals_any}
use Rattle.gfx_model.specs.After.{after}
use Rattle.gfx_laws.specs.Lawful.{base}
use Rattle.gfx_laws.proofs.Lists.{all_into_flat}
use Rattle.gfx_ops.specs.Operations.{ops_of_command, listed}
use Rattle.gfx_ops.proofs.Listed.{listed_flat}
use Rattle.gfx_commands.proofs.Index.{layouts_after-append}
use Rattle.gfx_commands.proofs.Running.{flat_map-map}
use Rattle.gfx_tracker.specs.Submitted.{own_step, SetLayoutsOfLive}
use Rattle.gfx_tracker.specs.Operations.{ops_of_turn}
use Rattle.gfx_tracker.specs.Taking.{after_event}
use Rattle.gfx_tracker.proofs.Next.{fold-append}
use Rattle.gfx_tracker.proofs.Reordered.{turn_changes, turns_first, reordered, fence_step}
use Rattle.gfx_tracker.proofs.Leaving.{SubmitsSetLive, buffers_leave, live_along}

-- ---- lists of lists

flat_along : {X Y : Type 0} (f g : X → List Y) → ((x : X) → f x ≡ g x) → (xs : List X) → flat_map f xs ≡ flat_map g xs
flat_along f g each [] = refl
flat_along f g each (x ∷ xs) = ap (λ ys. ys ++ flat_map f xs) (each x) ∙ ap (λ ys. g x ++ ys) (flat_along f g each xs)

pub flat_flat : {X Y Z : Type 0} (f : Y → List Z) (g : X → List Y) (h : X → List Z) → ((x : X) → flat_map f (g x) ≡ h x) → (xs : List X) → flat_map f (flat_map g xs) ≡ flat_map h xs
flat_flat f g h each [] = refl
flat_flat f g h each (x ∷ xs) =
    flat_map-append f (g x) (flat_map g xs) ∙ ap (λ zs. zs ++ flat_map f (flat_map g xs)) (each x) ∙ ap (λ zs. h x ++ zs) (flat_flat f g h each xs)

flat_take : {X Y : Type 0} (f : X → List Y) (xs : List X) (i : ℕ) (d : X) → i < length xs → flat_map f (take i xs) ++ f (get_or xs i d) ≡ flat_map f (take (suc i) xs)
flat_take f [] i d below = absurd (omega arith)
flat_take f (x ∷ xs) zero d below = sym (append-nil (f x))
flat_take f (x ∷ xs) (suc i) d below = append_assoc (f x) (flat_map f (take i xs)) (f (get_or xs i d)) ∙ ap (λ ys. f x ++ ys) (flat_take f xs i d (omega arith))

-- one item more
pub flat_next : {X Y : Type 0} (f : X → List Y) (old : List Y) (xs : List X) (i : ℕ) (d : X) → i < length xs → (old ++ flat_map f (take i xs)) ++ f (get_or xs i d) ≡ old ++ flat_map f (take (i + 1) xs)
flat_next f old xs i d below =
    append_assoc old (flat_map f (take i xs)) (f (get_or xs i d)) ∙ ap (λ ys. old ++ ys) (flat_take f xs i d below)
    ∙ ap (λ n. old ++ flat_map f (take n xs)) (let e : suc i ≡ i + 1 = omega arith in e)

-- ---- the layouts after command buffers

-- after one command buffer more
pub layouts_next : (b : ℕ → Buffer) (f : ℕ → ℕ) (cbs : List ℕ) (i d : ℕ) → i < length cbs →
    layouts_after (layouts_by b f (take i cbs)) (asked_in b (get_or cbs i d)) ≡ layouts_by b f (take (i + 1) cbs)
layouts_next b f cbs i d below =
    sym (layouts_after-append f (flat_map (asked_in b) (take i cbs)) (asked_in b (get_or cbs i d)))
    ∙ ap (layouts_after f) (flat_next (asked_in b) [] cbs i d below)

-- after those of one submit more
pub layouts_more : (b : ℕ → Buffer) (f : ℕ → ℕ) (submits : List Submit) (i : ℕ) (s : Submit) → i < length submits → s ≡ get_or submits i s →
    layouts_by b (layouts_by b f (flat_map (λ (s : Submit). s.cbs) (take i submits))) s.cbs ≡ layouts_by b f (flat_map (λ (s : Submit). s.cbs) (take (i + 1) submits))
layouts_more b f submits i s below is =
    let before = flat_map (λ (s : Submit). s.cbs) (take i submits) in
    sym (layouts_after-append f (flat_map (asked_in b) before) (flat_map (asked_in b) s.cbs))
    ∙ ap (layouts_after f) (sym (flat_map-append (asked_in b) before s.cbs))
    ∙ ap (λ (t : Submit). layouts_by b f (before ++ t.cbs)) is
    ∙ ap (layouts_by b f) (flat_next (λ (s : Submit). s.cbs) [] submits i s below)

-- ---- the operations of commands read objects and bindings alone

ops_base : (v : View) (c : Event) → ops_of_command (base v) c ≡ ops_of_command v c
unfolding ops_of_command
ops_base v (CreateInstance instance api) = refl
ops_base v _ = refl

pub ops_same : (v w : View) → base v ≡ base w → (cs : List Event) → flat_map (ops_of_command w) cs ≡ flat_map (ops_of_command v) cs
ops_same v w same cs = flat_along (ops_of_command w) (ops_of_command v) (λ c. sym (ops_base w c) ∙ sym (ap (λ u. ops_of_command u c) same) ∙ ops_base v c) cs

-- ---- the turns of submits

-- what turns make that only execute command buffers
module _ {X : Type 0} (f : Turn → List X) (waits : (x : ℕ) → f (wait x) ≡ []) (signals : (x : ℕ) → f (signal x) ≡ []) where
  none_made : (make : ℕ → Turn) → ((x : ℕ) → f (make x) ≡ []) → (xs : List ℕ) → flat_map f (map make xs) ≡ []
  none_made make none [] = refl
  none_made make none (x ∷ xs) = ap (λ zs. zs ++ flat_map f (map make xs)) (none x) ∙ none_made make none xs

  submit_makes : (s : Submit) → flat_map f (turns_of_submit s) ≡ flat_map (λ cb. f (execute cb)) s.cbs
  submit_makes s =
      flat_map-append f (map wait s.waits ++ map execute s.cbs) (map signal s.signals)
      ∙ ap (λ zs. flat_map f (map wait s.waits ++ map execute s.cbs) ++ zs) (none_made signal signals s.signals)
      ∙ append-nil (flat_map f (map wait s.waits ++ map execute s.cbs))
      ∙ flat_map-append f (map wait s.waits) (map execute s.cbs)
      ∙ ap (λ zs. zs ++ flat_map f (map execute s.cbs)) (none_made wait waits s.waits)
      ∙ flat_map-map f execute s.cbs

  -- what the command buffers of submits make is what their turns make
  pub submits_make : (submits : List Submit) (fence : ℕ) → flat_map (λ (s : Submit). flat_map (λ cb. f (execute cb)) s.cbs) submits ≡ flat_map f (turns_of submits fence)
  submits_make submits fence =
      sym (flat_map-append f (flat_map turns_of_submit submits) (if fence == 0 then [] else signal fence ∷ [])
      ∙ ap (λ zs. flat_map f (flat_map turns_of_submit submits) ++ zs) (by (fence == 0))
      ∙ append-nil (flat_map f (flat_map turns_of_submit submits))
      ∙ flat_flat f turns_of_submit (λ s. flat_map (λ cb. f (execute cb)) s.cbs) submit_makes submits)
    where
      by : (t : Bool) → flat_map f (if t then [] else signal fence ∷ []) ≡ []
      by true = refl
      by false = append-nil (f (signal fence)) ∙ signals fence

-- what is asked for of the operations of command buffers is that of their turns
pub submits_listed : (v : View) (with_layouts : Bool) (submits : List Submit) (fence : ℕ) →
    flat_map (λ (s : Submit). flat_map (λ cb. listed with_layouts (ops_of_turn v (execute cb))) s.cbs) submits ≡ listed with_layouts (flat_map (ops_of_turn v) (turns_of submits fence))
submits_listed v with_layouts submits fence =
    submits_make (λ t. listed with_layouts (ops_of_turn v t)) (λ x. refl) (λ x. refl) submits fence ∙ listed_flat with_layouts (ops_of_turn v) (turns_of submits fence)

-- ---- the answers after all

-- the changes of the command buffers of submits are those of their turns
changes_by_turns : (v : View) (submits : List Submit) (fence : ℕ) →
    flat_map (changes_of_buffer v) (flat_map (λ (s : Submit). s.cbs) submits) ≡ flat_map (turn_changes v) (turns_of submits fence)
changes_by_turns v submits fence =
    flat_flat (changes_of_buffer v) (λ (s : Submit). s.cbs) (λ s. flat_map (changes_of_buffer v) s.cbs) (λ s. refl) submits
    ∙ submits_make (turn_changes v) (λ x. refl) (λ x. refl) submits fence

taken_began : (v : View) → (after v taken).is_empty ≡ false
unfolding after
taken_began v = refl

-- the layouts that the command buffers leave are those after the changes of the turns
layouts_by_turns : (v : View) (submits : List Submit) (fence : ℕ) → SubmitsSetLive v submits →
    record (after v taken) { layout = layouts_by (after v taken).buffer (after v taken).layout (flat_map (λ (s : Submit). s.cbs) submits) }
    ≡ fold after (after v taken) (map changes (flat_map (turn_changes v) (turns_of submits fence)))
unfolding after
layouts_by_turns v submits fence live =
    let w = after v taken in
    sym (ap (λ cs. fold after w (map changes cs)) (sym (changes_by_turns v submits fence))
    ∙ buffers_leave v w (flat_map (λ (s : Submit). s.cbs) submits) (taken_began v)
    (all_into_flat (SetLayoutsOfLive w) (λ (s : Submit). s.cbs) submits (live_along v submits live)))

-- the answers after a submit: the layouts of its command buffers come first, and its turns behind them
pub after_submit : (v : View) (queue : ℕ) (submits : List Submit) (fence : ℕ) → SubmitsSetLive v submits →
    fold after (fold after (record (after v taken) { layout = layouts_by (after v taken).buffer (after v taken).layout (flat_map (λ (s : Submit). s.cbs) submits) })
    (map own_step (flat_map turns_of_submit submits))) (signals_any fence) ≡ after_event v (QueueSubmit queue submits fence)
unfolding effect_of
after_submit v queue submits fence live =
    let w = after v taken in
    let cs = flat_map (turn_changes v) (turns_of submits fence) in
    let u = fold after w (map changes cs) in
    let front = map own_step (flat_map turns_of_submit submits) in
    let tail : List Turn = if fence == 0 then [] else signal fence ∷ [] in
    ap (λ u. fold after (fold after u front) (signals_any fence)) (layouts_by_turns v submits fence live)
    ∙ sym (fold-append after u front (signals_any fence))
    ∙ ap (λ ss. fold after u (front ++ ss)) (sym (fence_step fence))
    ∙ ap (fold after u) (sym (map-append own_step (flat_map turns_of_submit submits) tail))
    ∙ turns_first w cs (turns_of submits fence)
    ∙ sym (reordered v w (turns_of submits fence))
