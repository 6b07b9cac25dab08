-- The layouts that the command buffers of submits set are those that their commands change.
use Rattle.std.proofs.Common.{◌≡◌, ℕ, ◌==◌, if◌then◌else◌, Bool, true, false, List, [], ◌∷◌, ◌++◌, map, refl, ap, sym, ◌∙◌}
use Rattle.std.specs.Prelude.{fold, flat_map}
use Rattle.std.specs.List.{AllByRecursion, AllByRecursion-prop, range_with_len}
use Rattle.std.proofs.Props.{props}
use Rattle.std.proofs.Math.Logic.{∥∥₁_elim}
use Rattle.std.proofs.lemmas.List.{map-append}
use Rattle.gfx_types.specs.declared.lists.Barrier.{Barrier}
use Rattle.gfx_types.specs.declared.lists.Submit.{Submit}
use Rattle.gfx_types.specs.declared.op.Op.{Op}
use Rattle.gfx_types.specs.declared.op.Op.TheVariants as op
use Rattle.gfx_model.specs.Events.{Event}
use Rattle.gfx_model.specs.Events.Event.{CmdPipelineBarrier}
use Rattle.gfx_model.specs.Steps.{Change}
use Rattle.gfx_model.specs.Steps.Step.{taken, executed, changes}
use Rattle.gfx_model.specs.Views.{View}
use Rattle.gfx_model.specs.Checks.{Turn, Layouts, layouts_of, layouts_after, turns_of, turns_of_submit, but}
use Rattle.gfx_model.specs.Checks.Layouts.{stays, goes}
use Rattle.gfx_model.specs.Checks.Turn.{wait, execute, signal}
use Rattle.gfx_model.specs.Layouts.{asked_in, layouts_by}
use Rattle.gfx_model.specs.Effects.{barrier_change, changes_of_command, changes_of_op, steps_of_turn, changes_of_buffer}
use Rattle.gfx_model.specs.After.{after}
use Rattle.gfx_model.proofs.Lists.{all_along}
use Rattle.gfx_laws.specs.Lawful.{base, IsLawful}
use Rattle.gfx_laws.proofs.Lists.{all_before, all_behind, all_from_flat, all_into_flat}
use Rattle.gfx_laws.proofs.Ready.{ReadyToChange}
use Rattle.gfx_laws.proofs.ReadyLists.{IsCalm}
use Rattle.gfx_ops.specs.Operations.{ops_of_command, changes_bytes, is_barrier}
use Rattle.gfx_ops.proofs.Changes.{operations_are_changes}
use Rattle.gfx_ops.proofs.Listed.{other_bytes}
use Rattle.gfx_commands.specs.Differing.{SetsLive}
use Rattle.gfx_commands.proofs.Index.{layouts_after-append}
use Rattle.gfx_commands.proofs.Leaving.{set_live}
use Rattle.gfx_tracker.specs.Submitted.{SetLayoutsOfLive}
use Rattle.gfx_tracker.proofs.Next.{fold-append}
use Rattle.gfx_tracker.proofs.Presented.{all_from_map}

-- ---- a barrier

barriers_leave : (w : View) (bs : List Barrier) → w.is_empty ≡ false → AllByRecursion (SetsLive w) (map (λ b. goes b.image b.before b.after) bs) →
    fold after w (map changes (map barrier_change bs)) ≡ record w { layout = layouts_after w.layout (map (λ b. goes b.image b.before b.after) bs) }
barriers_leave w [] began live = refl
barriers_leave w (b ∷ bs) began live =
    ap (λ u. fold after u (map changes (map barrier_change bs))) (set_live w b.image b.after began live.0)
    ∙ barriers_leave (record w { layout = but b.image b.after w.layout }) bs began live.1

-- ---- a command that sets no layout

-- v, in which an effect was taken
same_began : (v : View) → v.is_empty ≡ false → record v { is_empty = false } ≡ v
same_began v e = ap (λ b. record v { is_empty = b }) (sym e)

copies_quiet : (v : View) (f : ℕ → Change) → ((k : ℕ) → after v (changes (f k)) ≡ v) → (ks : List ℕ) → fold after v (map changes (map f ks)) ≡ v
copies_quiet v f each [] = refl
copies_quiet v f each (k ∷ ks) = ap (λ u. fold after u (map changes (map f ks))) (each k) ∙ copies_quiet v f each ks

op_quiet : (v : View) (o : Op) → v.is_empty ≡ false → changes_bytes o ≡ true → fold after v (map changes (changes_of_op [] o)) ≡ v
unfolding after
op_quiet v (op.SetLayout image layout) e bytes = absurd cc
op_quiet v (op.Put at offset bytes) e b = same_began v e
op_quiet v (op.PutGiven at offset) e b = same_began v e
op_quiet v (op.Fill at offset n word) e b = same_began v e
op_quiet v (op.Copy to to_offset to_step source source_offset source_step n rows) e b = copies_quiet v _ (λ k. same_began v e) (range_with_len 0 rows)

-- changes one after the other
two_changes : (w : View) (xs ys : List Change) → fold after w (map changes (xs ++ ys)) ≡ fold after (fold after w (map changes xs)) (map changes ys)
two_changes w xs ys = ap (fold after w) (map-append changes xs ys) ∙ fold-append after w (map changes xs) (map changes ys)

ops_quiet : (w : View) (os : List Op) → w.is_empty ≡ false → AllByRecursion (λ o. changes_bytes o ≡ true) os → fold after w (map changes (flat_map (changes_of_op []) os)) ≡ w
ops_quiet w [] began bytes = refl
ops_quiet w (o ∷ os) began bytes =
    two_changes w (changes_of_op [] o) (flat_map (changes_of_op []) os)
    ∙ ap (λ u. fold after u (map changes (flat_map (changes_of_op []) os))) (op_quiet w o began bytes.0)
    ∙ ops_quiet w os began bytes.1

other_quiet : (v w : View) (c : Event) → w.is_empty ≡ false → is_barrier c ≡ false → fold after w (map changes (changes_of_command v c)) ≡ w
other_quiet v w c began other =
    ap (λ cs. fold after w (map changes cs)) (sym (operations_are_changes v c [])) ∙ ops_quiet w (ops_of_command v c) began (other_bytes v c other)

other_asks : (c : Event) (layout : ℕ → ℕ) → is_barrier c ≡ false → layouts_after layout (layouts_of c) ≡ layout
unfolding layouts_of
other_asks (CmdPipelineBarrier cb barriers) layout e = absurd cc
other_asks _ layout e = refl

-- ---- commands

command_leaves : (v w : View) (c : Event) → w.is_empty ≡ false → AllByRecursion (SetsLive w) (layouts_of c) →
    fold after w (map changes (changes_of_command v c)) ≡ record w { layout = layouts_after w.layout (layouts_of c) }
unfolding changes_of_command layouts_of
command_leaves v w c began live = by c (is_barrier c) refl live
  where
    by : (c : Event) (t : Bool) → is_barrier c ≡ t → AllByRecursion (SetsLive w) (layouts_of c) →
        fold after w (map changes (changes_of_command v c)) ≡ record w { layout = layouts_after w.layout (layouts_of c) }
    by c false e live = other_quiet v w c began e ∙ ap (λ f. record w { layout = f }) (sym (other_asks c w.layout e))
    by (CmdPipelineBarrier cb barriers) true e live = barriers_leave w barriers began live
    by _ true e live = absurd cc

commands_leave : (v w : View) (cs : List Event) → w.is_empty ≡ false → AllByRecursion (SetsLive w) (flat_map layouts_of cs) →
    fold after w (map changes (flat_map (changes_of_command v) cs)) ≡ record w { layout = layouts_after w.layout (flat_map layouts_of cs) }
commands_leave v w [] began live = refl
commands_leave v w (c ∷ cs) began live =
    two_changes w (changes_of_command v c) (flat_map (changes_of_command v) cs)
    ∙ ap (λ u. fold after u (map changes (flat_map (changes_of_command v) cs))) (command_leaves v w c began (all_before (SetsLive w) (layouts_of c) (flat_map layouts_of cs) live))
    ∙ commands_leave v (record w { layout = layouts_after w.layout (layouts_of c) }) cs began (all_behind (SetsLive w) (layouts_of c) (flat_map layouts_of cs) live)
    ∙ ap (λ f. record w { layout = f }) (sym (layouts_after-append w.layout (layouts_of c) (flat_map layouts_of cs)))

-- ---- command buffers

pub buffers_leave : (v w : View) (cbs : List ℕ) → w.is_empty ≡ false → AllByRecursion (λ cb. AllByRecursion (SetsLive w) (asked_in v.buffer cb)) cbs →
    fold after w (map changes (flat_map (changes_of_buffer v) cbs)) ≡ record w { layout = layouts_by v.buffer w.layout cbs }
buffers_leave v w [] began live = refl
buffers_leave v w (cb ∷ cbs) began live =
    two_changes w (changes_of_buffer v cb) (flat_map (changes_of_buffer v) cbs)
    ∙ ap (λ u. fold after u (map changes (flat_map (changes_of_buffer v) cbs))) (commands_leave v w (v.buffer cb).commands began live.0)
    ∙ buffers_leave v (record w { layout = layouts_after w.layout (asked_in v.buffer cb) }) cbs began live.1
    ∙ ap (λ f. record w { layout = f }) (sym (layouts_after-append w.layout (asked_in v.buffer cb) (flat_map (asked_in v.buffer) cbs)))

-- ---- the images are live

barriers_live : (v : View) (bs : List Barrier) → AllByRecursion (ReadyToChange (base v)) (map barrier_change bs) → AllByRecursion (SetsLive v) (map (λ b. goes b.image b.before b.after) bs)
barriers_live v [] ready = tt
barriers_live v (b ∷ bs) ready = (ready.0.2, barriers_live v bs ready.1)

command_live : (v : View) (c : Event) → AllByRecursion (ReadyToChange (base v)) (changes_of_command v c) → AllByRecursion (SetsLive v) (layouts_of c)
unfolding changes_of_command layouts_of
command_live v (CmdPipelineBarrier cb barriers) ready = barriers_live v barriers ready
command_live v (Event.CmdCopyImage cb source source_layout target target_layout regions) ready = (tt, (tt, tt))
command_live v (Event.CmdCopyBufferToImage cb source target layout regions) ready = (tt, tt)
command_live v (Event.CmdCopyImageToBuffer cb source layout target regions) ready = (tt, tt)
command_live v (Event.CmdClearColorImage cb image layout c0 c1 c2 c3) ready = (tt, tt)
command_live v _ ready = tt

buffer_live : (v : View) (cb : ℕ) → AllByRecursion (IsCalm (base v)) (steps_of_turn v (execute cb)) → SetLayoutsOfLive v cb
buffer_live v cb calm =
    let all : AllByRecursion (IsCalm (base v)) (map changes (changes_of_buffer v cb)) = all_before (IsCalm (base v)) (map changes (changes_of_buffer v cb)) (executed cb ∷ []) calm in
    let ready : AllByRecursion (ReadyToChange (base v)) (changes_of_buffer v cb) = all_from_map (IsCalm (base v)) changes (changes_of_buffer v cb) all in
    all_into_flat (SetsLive v) layouts_of (v.buffer cb).commands
    (all_along (λ c. AllByRecursion (ReadyToChange (base v)) (changes_of_command v c)) (λ c. AllByRecursion (SetsLive v) (layouts_of c)) (command_live v) (v.buffer cb).commands
    (all_from_flat (ReadyToChange (base v)) (changes_of_command v) (v.buffer cb).commands ready))

sets_live_prop : (v : View) (cb : ℕ) → IsProp (SetLayoutsOfLive v cb)
sets_live_prop v cb = AllByRecursion-prop (SetsLive v) each (asked_in v.buffer cb)
  where
    each : (l : Layouts) → IsProp (SetsLive v l)
    each (stays i l) = hlevel props
    each (goes i before l) = hlevel props

-- the layouts that the command buffers of submits set are those of live images
abbrev pub SubmitsSetLive : View → List Submit → Type 0
SubmitsSetLive v submits = AllByRecursion (λ (s : Submit). AllByRecursion (SetLayoutsOfLive v) s.cbs) submits

-- so it is of a turn
abbrev TurnSetsLive : View → Turn → Type 0
TurnSetsLive v (execute cb) = SetLayoutsOfLive v cb
TurnSetsLive v _ = Unit {0}

turn_live : (v : View) (t : Turn) → AllByRecursion (IsCalm (base v)) (steps_of_turn v t) → TurnSetsLive v t
turn_live v (wait s) calm = tt
turn_live v (signal s) calm = tt
turn_live v (execute cb) calm = buffer_live v cb calm

cbs_live : (v : View) (s : Submit) → AllByRecursion (TurnSetsLive v) (turns_of_submit s) → AllByRecursion (SetLayoutsOfLive v) s.cbs
cbs_live v s all =
    all_from_map (TurnSetsLive v) execute s.cbs
    (all_behind (TurnSetsLive v) (map wait s.waits) (map execute s.cbs) (all_before (TurnSetsLive v) (map wait s.waits ++ map execute s.cbs) (map signal s.signals) all))

pub layouts_of_live : (v : View) (submits : List Submit) (fence : ℕ) → ∥ IsLawful v [] ∥₁
    → (IsLawful v [] → AllByRecursion (IsCalm (base v)) (flat_map (steps_of_turn v) (turns_of submits fence))) → SubmitsSetLive v submits
layouts_of_live v submits fence lawful calm =
    ∥∥₁_elim lawful (AllByRecursion-prop _ (λ (s : Submit). AllByRecursion-prop (SetLayoutsOfLive v) (sets_live_prop v) s.cbs) submits)
    (λ h.
    all_along (λ s. AllByRecursion (TurnSetsLive v) (turns_of_submit s)) (λ (s : Submit). AllByRecursion (SetLayoutsOfLive v) s.cbs) (cbs_live v) submits
    (all_from_flat (TurnSetsLive v) turns_of_submit submits
    (all_before (TurnSetsLive v) (flat_map turns_of_submit submits) (if fence == 0 then [] else signal fence ∷ [])
    (all_along (λ t. AllByRecursion (IsCalm (base v)) (steps_of_turn v t)) (TurnSetsLive v) (turn_live v) (turns_of submits fence)
    (all_from_flat (IsCalm (base v)) (steps_of_turn v) (turns_of submits fence) (calm h))))))

-- and after an effect began
pub live_along : (v : View) (submits : List Submit) → SubmitsSetLive v submits → SubmitsSetLive (after v taken) submits
unfolding after
live_along v submits live = live
