use Rattle.std.proofs.Common.{sym, ap, ◌∙◌, ◌==◌}
use Rattle.std.specs.List.{list_any}
use Rattle.gfx_script_model.specs.Scripts as script
use Rattle.gfx_script.specs.State.{open_part}
use Rattle.gfx_script.proofs.Standing.{or_none}
use Rattle.gfx_script.proofs.reading.Reading.is_open.Goals as goal

pub returns-in-NoPhase : goal.returns-in-NoPhase
returns-in-NoPhase c = ap (λ s. list_any (λ (p : script.Part). p.thread == c.args.thread) (open_part s c.args.self.now.lines.items)) (sym c.in-NoPhase.is)

pub returns-in-InPhase : goal.returns-in-InPhase
returns-in-InPhase c = ap (λ s. list_any (λ (p : script.Part). p.thread == c.args.thread) (open_part s c.args.self.now.lines.items)) (sym c.in-InPhase.is)

pub returns-in-InThread : goal.returns-in-InThread
returns-in-InThread c =
    sym (or_none (c.in-InThread.read == c.args.thread))
    ∙ ap (λ s. list_any (λ (p : script.Part). p.thread == c.args.thread) (open_part s c.args.self.now.lines.items)) (sym c.in-InThread.is)
