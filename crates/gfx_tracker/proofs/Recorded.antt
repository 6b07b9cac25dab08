-- What is known of a command that may be recorded: its buffer, its list, and the room for it.
use Rattle.std.proofs.Common.{◌≡◌, ℕ, ◌<◌, ◌≤◌, ◌+◌, ◌^◌, Bool, true, false, not, ◌&&◌, List, [], ◌∷◌, ◌++◌, length, is_some, refl, ap, sym, subst, ◌∙◌, arith}
use Rattle.std.specs.Prelude.{nat_le, sum_by}
use Rattle.std.specs.List.{AllByRecursion}
use Rattle.std.specs.Ordering.{nat_cmp}
use Rattle.std.specs.FinMap.{FinMap}
use Rattle.std.proofs.Math.Logic.{∥∥₁_elim}
use Rattle.std.proofs.Props.{props}
use Rattle.std.proofs.lemmas.Bool.{leb-true, and_parts, and_from}
use Rattle.gfx_types.specs.declared.names.Kind.TheVariants as kind
use Rattle.gfx_model.specs.Events.{Event}
use Rattle.gfx_model.specs.Events.Event.{CmdPipelineBarrier, CmdFillBuffer, CmdUpdateBuffer, CmdCopyBuffer, CmdCopyImage, CmdCopyBufferToImage, CmdCopyImageToBuffer, CmdClearColorImage}
use Rattle.gfx_model.specs.Spelling.{spelling}
use Rattle.gfx_model.specs.Questions.{is_kept}
use Rattle.gfx_model.specs.Steps.Step.{records}
use Rattle.gfx_model.specs.Views.{View, is_live, commands_kept, bytes_kept, commands_in, bytes_in}
use Rattle.gfx_model.specs.Checks.{Check, broken, is_recording, is_among, is_distinct}
use Rattle.gfx_model.specs.Checks.Check.{live, recording, fits}
use Rattle.gfx_model.specs.Table.{place_of, row_of, checks_of, divides}
use Rattle.gfx_model.specs.Effects.{effect_of}
use Rattle.gfx_model.specs.After.{after}
use Rattle.gfx_model.proofs.Covered.{unless_none}
use Rattle.gfx_model.specs.Limits.{max_kept_commands, max_kept_bytes, max_regions, max_barriers, max_update}
use Rattle.gfx_laws.specs.Lawful.{IsLawful, IsRising, Passes, cb_of, command_checks}
use Rattle.gfx_laws.specs.Laws.{is_command}
use Rattle.gfx_laws.proofs.Lists.{all_before, all_behind}
use Rattle.gfx_laws.proofs.Rising.{above_each}
use Rattle.gfx_laws.proofs.NewObjects.{all_pass}
use Rattle.gfx_laws.proofs.KeptCommands.{row_of-command}
use Rattle.gfx_laws.proofs.MoreObjects.{live_of_kind}
use Rattle.gfx_commands.specs.declared.recording.Recording.{Recording}
use Rattle.gfx_commands.specs.Recordings.{buffers, commands_total, bytes_total, HoldsKept}
use Rattle.gfx_commands.proofs.Counting.{commands_among, bytes_among}
use Rattle.gfx_tracker.specs.Items.{items_in}
use Rattle.gfx_tracker.specs.Taking.{IsNext, after_event}
use Rattle.gfx_tracker.proofs.Next.{is_live_by, after_one}

pub recording_by : (v : View) (cb : ℕ) → Passes v (recording cb) → is_recording (v.buffer cb).state ≡ true
unfolding broken
recording_by v cb e = unless_none _ _ e

-- ---- the row of a command

effect_of-command : (v : View) (c : Event) → is_command c ≡ true → effect_of v c ≡ records (cb_of c) c ∷ []
unfolding effect_of
effect_of-command v (CmdPipelineBarrier cb barriers) e = refl
effect_of-command v (CmdFillBuffer cb buffer offset size word) e = refl
effect_of-command v (CmdUpdateBuffer cb buffer offset bytes) e = refl
effect_of-command v (CmdCopyBuffer cb source target regions) e = refl
effect_of-command v (CmdCopyImage cb source source_layout target target_layout regions) e = refl
effect_of-command v (CmdCopyBufferToImage cb source target layout regions) e = refl
effect_of-command v (CmdCopyImageToBuffer cb source layout target regions) e = refl
effect_of-command v (CmdClearColorImage cb image layout c0 c1 c2 c3) e = refl
effect_of-command v _ e = absurd cc

-- all checks of its row but the last
abbrev front : Event → List Check
front c = live kind.CommandBuffer (cb_of c) ∷ recording (cb_of c) ∷ command_checks c

row_passes : (v : View) (c : Event) → is_command c ≡ true → IsNext v c → AllByRecursion (Passes v) (front c ++ fits (length (spelling 1 c)) ∷ [])
row_passes v c is next =
    subst (AllByRecursion (Passes v)) (row_of-command c is) (all_behind (Passes v) (place_of c) (row_of c) (all_pass v (checks_of c) next.passes))

front_passes : (v : View) (c : Event) → is_command c ≡ true → IsNext v c → AllByRecursion (Passes v) (front c)
front_passes v c is next = all_before (Passes v) (front c) (fits (length (spelling 1 c)) ∷ []) (row_passes v c is next)

pub command_live : (v : View) (c : Event) → is_command c ≡ true → IsNext v c → is_live v kind.CommandBuffer (cb_of c) ≡ true
command_live v c is next = is_live_by v kind.CommandBuffer (cb_of c) (front_passes v c is next).0

pub command_recording : (v : View) (c : Event) → is_command c ≡ true → IsNext v c → is_recording (v.buffer (cb_of c)).state ≡ true
command_recording v c is next = recording_by v (cb_of c) (front_passes v c is next).1.0

pub after_command : (v : View) (c : Event) → is_command c ≡ true → after v (records (cb_of c) c) ≡ after_event v c
after_command v c is = after_one v c (records (cb_of c) c) (effect_of-command v c is)

-- ---- its list

few : (v : View) (c : Event) → is_command c ≡ true → AllByRecursion (Passes v) (command_checks c) → items_in c < 2 ^ 32
unfolding broken
few v (CmdPipelineBarrier cb barriers) e a = let n = leb-true (length barriers) max_barriers (unless_none _ _ a.1.0) in omega (arith, n)
few v (CmdFillBuffer cb buffer offset size word) e a = omega arith
few v (CmdUpdateBuffer cb buffer offset bytes) e a =
    let n = leb-true (length bytes) max_update (and_parts (divides 4 offset && divides 4 (length bytes) && nat_le 4 (length bytes)) (nat_le (length bytes) max_update) (unless_none _ _ a.1.1.1.1.0)).1 in
    omega (arith, n)
few v (CmdCopyBuffer cb source target regions) e a = let n = leb-true (length regions) max_regions (unless_none _ _ a.1.1.1.1.1.1.1.1.1.0) in omega (arith, n)
few v (CmdCopyImage cb source source_layout target target_layout regions) e a = let n = leb-true (length regions) max_regions (unless_none _ _ a.1.1.1.1.1.1.1.1.1.1.1.0) in omega (arith, n)
few v (CmdCopyBufferToImage cb source target layout regions) e a = let n = leb-true (length regions) max_regions (unless_none _ _ a.1.1.1.1.1.1.1.1.1.1.0) in omega (arith, n)
few v (CmdCopyImageToBuffer cb source layout target regions) e a = let n = leb-true (length regions) max_regions (unless_none _ _ a.1.1.1.1.1.1.1.1.1.1.0) in omega (arith, n)
few v (CmdClearColorImage cb image layout c0 c1 c2 c3) e a = omega arith
few v _ e a = absurd cc

pub command_few : (v : View) (c : Event) → is_command c ≡ true → IsNext v c → items_in c < 2 ^ 32
command_few v c is next = few v c is (front_passes v c is next).1.1

-- ---- room for it

-- numbers that rise are distinct
rising_distinct : (xs : List ℕ) → IsRising xs → is_distinct xs ≡ true
rising_distinct [] rising = refl
rising_distinct (x ∷ xs) rising = and_from _ _ (by (is_among x xs) refl) (rising_distinct xs rising.1)
  where
    by : (t : Bool) → is_among x xs ≡ t → not t ≡ true
    by true e = let low = above_each x x xs rising.0 e in absurd (omega (arith, low))
    by false e = refl

room : (v : View) (c : Event) → is_command c ≡ true → IsNext v c → (commands_kept v + 1 ≤ max_kept_commands) × (bytes_kept v + length (spelling 1 c) ≤ max_kept_bytes)
unfolding broken
room v c is next =
    let last : AllByRecursion (Passes v) (fits (length (spelling 1 c)) ∷ []) = all_behind (Passes v) (front c) (fits (length (spelling 1 c)) ∷ []) (row_passes v c is next) in
    let both = and_parts (nat_le (commands_kept v + 1) max_kept_commands) (nat_le (bytes_kept v + length (spelling 1 c)) max_kept_bytes) (unless_none _ _ last.0) in
    (leb-true (commands_kept v + 1) max_kept_commands both.0, leb-true (bytes_kept v + length (spelling 1 c)) max_kept_bytes both.1)

module _ (v : View) (m : FinMap nat_cmp Recording) (same : v.buffer ≡ buffers m) where
  holds : IsLawful v [] → HoldsKept (buffers m) v.ids
  holds h cb kept =
      let there = (h.buffers).owner cb (subst (λ b. is_kept (b cb).state ≡ true) (sym same) kept) in
      (h.ids).exact cb ∙ ap is_some (live_of_kind v _ cb there).1

  commands_same : IsLawful v [] → commands_kept v ≡ commands_total m
  commands_same h = ap (λ b. sum_by (λ x. commands_in (b x)) v.ids) same ∙ commands_among m v.ids (rising_distinct v.ids (h.ids).rising) (holds h)

  bytes_same : IsLawful v [] → bytes_kept v ≡ bytes_total m
  bytes_same h = ap (λ b. sum_by (λ x. bytes_in (b x)) v.ids) same ∙ bytes_among m v.ids (rising_distinct v.ids (h.ids).rising) (holds h)

  pub commands_room : (c : Event) → is_command c ≡ true → IsNext v c → commands_total m + 1 ≤ max_kept_commands
  commands_room c is next = subst (λ n. n + 1 ≤ max_kept_commands) (∥∥₁_elim next.lawful (hlevel props) commands_same) (room v c is next).0

  pub bytes_room : (c : Event) → is_command c ≡ true → IsNext v c → bytes_total m + length (spelling 1 c) ≤ max_kept_bytes
  bytes_room c is next = subst (λ n. n + length (spelling 1 c) ≤ max_kept_bytes) (∥∥₁_elim next.lawful (hlevel props) bytes_same) (room v c is next).1
