-- The commands of recording and executable buffers.
use Rattle.std.proofs.Common.{◌≡◌, ℕ, true, refl, sym, ◌∙◌, ap, List, [], ◌∷◌, None, is_some}
use Rattle.std.specs.List.{AllByRecursion}
use Rattle.std.proofs.lemmas.Bool.{both_ways}
use Rattle.gfx_types.specs.declared.names.Kind.TheVariants as kind
use Rattle.gfx_model.specs.Events.{Event}
use Rattle.gfx_model.specs.Events.Event.{CmdPipelineBarrier, CmdFillBuffer, CmdUpdateBuffer, CmdCopyBuffer, CmdCopyImage, CmdCopyBufferToImage, CmdCopyImageToBuffer, CmdClearColorImage}
use Rattle.gfx_model.specs.Questions.{is_kept}
use Rattle.gfx_model.specs.Views.{View, is_live}
use Rattle.gfx_model.specs.Checks.{Check, first_broken}
use Rattle.gfx_model.specs.Table.{row_of, recorded}
use Rattle.gfx_model.specs.History.{view, is_valid}
use Rattle.gfx_model.proofs.Covered.{first_both}
use Rattle.gfx_laws.specs.Lawful.{base, LawfulObjects, IsCommandOf, Passes, cb_of, command_checks}
use Rattle.gfx_laws.specs.Laws.{is_command, KeptCommand}
use Rattle.gfx_model.proofs.Lists.{all_along}
use Rattle.gfx_laws.proofs.Lists.{all_of}
use Rattle.gfx_laws.proofs.MoreObjects.{live_of_kind}
use Rattle.gfx_laws.proofs.LastingChecks.{SameAt, command_along, command_usable}
use Rattle.gfx_laws.proofs.ValidHistories.{lawful_history}

pub row_of-command : (c : Event) → is_command c ≡ true → row_of c ≡ recorded (cb_of c) c (command_checks c)
unfolding row_of
row_of-command (CmdPipelineBarrier cb barriers) e = refl
row_of-command (CmdFillBuffer cb buffer offset size word) e = refl
row_of-command (CmdUpdateBuffer cb buffer offset bytes) e = refl
row_of-command (CmdCopyBuffer cb source target regions) e = refl
row_of-command (CmdCopyImage cb source source_layout target target_layout regions) e = refl
row_of-command (CmdCopyBufferToImage cb source target layout regions) e = refl
row_of-command (CmdCopyImageToBuffer cb source layout target regions) e = refl
row_of-command (CmdClearColorImage cb image layout c0 c1 c2 c3) e = refl
row_of-command _ e = absurd (cc)

-- what has a command buffer is a command
pub command_of_buffer : (c : Event) → (cb_of c ≡ 0 → ⊥) → is_command c ≡ true
command_of_buffer (CmdPipelineBarrier cb barriers) e = refl
command_of_buffer (CmdFillBuffer cb buffer offset size word) e = refl
command_of_buffer (CmdUpdateBuffer cb buffer offset bytes) e = refl
command_of_buffer (CmdCopyBuffer cb source target regions) e = refl
command_of_buffer (CmdCopyImage cb source source_layout target target_layout regions) e = refl
command_of_buffer (CmdCopyBufferToImage cb source target layout regions) e = refl
command_of_buffer (CmdCopyImageToBuffer cb source layout target regions) e = refl
command_of_buffer (CmdClearColorImage cb image layout c0 c1 c2 c3) e = refl
command_of_buffer _ e = absurd (e refl)

pub none_broken : (v : View) (cs : List Check) → AllByRecursion (Passes v) cs → first_broken v cs ≡ None
none_broken v [] a = refl
none_broken v (c ∷ cs) a = first_both _ _ a.0 (none_broken v cs a.1)

kept_command : (v : View) → LawfulObjects (base v) → (cb : ℕ) → is_live v kind.CommandBuffer cb ≡ true → (c : Event) → IsCommandOf (base v) cb c → KeptCommand v cb c
kept_command v h cb there c e =
    let o = live_of_kind v _ cb there in
    record {
      command = command_of_buffer c (λ z. both_ways (is_some (v.live cb)) (ap (λ x. is_some (v.live x)) (sym e.0 ∙ z) ∙ ap is_some h.zero) (ap is_some o.1));
      own = e.0;
      passes = none_broken v (command_checks c) (command_along (base v) v c refl (all_of (SameAt (base v) v) (λ x. record { live = refl; device = refl; usable = λ u. u }) _) e.1);
      usable = command_usable (base v) c e.1;
    }

pub kept_history : (h : List Event) → is_valid h ≡ true → (cb : ℕ) → is_kept ((view h).buffer cb).state ≡ true → AllByRecursion (KeptCommand (view h) cb) ((view h).buffer cb).commands
kept_history h valid cb k =
    let l = lawful_history h valid in
    all_along (IsCommandOf (base (view h)) cb) (KeptCommand (view h) cb) (kept_command (view h) l.objects cb ((l.buffers).owner cb k)) ((view h).buffer cb).commands ((l.buffers).commands cb k)
