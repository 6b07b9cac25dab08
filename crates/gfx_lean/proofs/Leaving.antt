-- What a write of the lean file left.
use Rattle.std.proofs.Common.{◌≡◌, ℕ, List, Option, Result, Ok, Err, OnOk, inr, subst, ◌∙◌}
use Rattle.std.specs.Prelude.{IfErr}
use Rattle.std.specs.Io.KnownBytes.{Appends}
use Rattle.gfx_io.specs.Pieces.{AppendsPart}
use Rattle.gfx_model.specs.Events.{Event}
use Rattle.gfx_model.specs.Blocks.{Whole}
use Rattle.gfx_feature_model.specs.Lean.{Keep, KeepsNeeded, events_in}
use Rattle.gfx_player.specs.Faults.{IsUnwritten}
use Rattle.gfx_player.specs.declared.fault.PlayFault.{PlayFault}
use Rattle.gfx_player.specs.declared.fault.PlayFault.TheVariants as play
use Rattle.gfx_range.specs.Range.{IsGathered}
use Rattle.gfx_range.specs.declared.range.Range.{Range}
use Rattle.gfx_replay.specs.Replayer.{StandsFor}
use Rattle.gfx_replay.specs.declared.replayer.Replayer.{Replayer}
use Rattle.gfx_lean.specs.Leaner.{IsFailed, Wrote, WrotePart}
use Rattle.gfx_lean.specs.Written.{lean_text}

module _ (m first : ℕ) (r : Range) (p : Replayer) (keep : Keep) (blocks : List ℕ) (before after : Option (List ℕ)) (same : blocks ≡ r.blocks.items)
    (needs : (h : List Event) (ws : List Whole) → StandsFor p h → IsGathered r h ws → KeepsNeeded h (events_in ws) keep) where
  pub wrote_whole : (result : Result (Unit {0}) PlayFault) → ((h : List Event) → StandsFor p h → OnOk result (Appends before after (lean_text m keep h first blocks))) →
      OnOk result ((h : List Event) (ws : List Whole) → StandsFor p h → IsGathered r h ws → Wrote m first h ws before after)
  wrote_whole (Ok u) took = λ h ws stands g. record {
    keep = keep;
    keeps = needs h ws stands g;
    file = subst (λ l. Appends before after (lean_text m keep h first l)) (same ∙ g.bytes) (took h stands);
  }
  wrote_whole (Err e) took = tt

  pub wrote_part : (result : Result (Unit {0}) PlayFault) → IfErr result IsUnwritten → ((h : List Event) → StandsFor p h → AppendsPart before after (lean_text m keep h first blocks)) →
      IfErr result (λ why. (h : List Event) (ws : List Whole) → StandsFor p h → IsGathered r h ws → IsFailed m first h ws before after why)
  wrote_part (Ok u) kind took = tt
  wrote_part (Err why) kind took = λ h ws stands g. by why kind (record {
    keep = keep;
    keeps = needs h ws stands g;
    file = subst (λ l. AppendsPart before after (lean_text m keep h first l)) (same ∙ g.bytes) (took h stands);
  })
    where
      by : {h : List Event} {ws : List Whole} (why : PlayFault) → IsUnwritten why → WrotePart m first h ws before after → IsFailed m first h ws before after why
      by (play.Bad fault block offset) kind part = absurd kind
      by (play.NoSuchFrame low high) kind part = absurd kind
      by play.ReadFault kind part = absurd kind
      by play.SinkFault kind part = part
      by play.WantMemory kind part = inr part
