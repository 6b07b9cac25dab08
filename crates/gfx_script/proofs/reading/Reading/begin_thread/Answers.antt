use Rattle.std.proofs.Common.{sym, ◌∙◌, ◌++◌}
use Rattle.gfx_script_model.specs.Scripts.{reads, in_order}
use Rattle.gfx_script.specs.Line.{phases_of}
use Rattle.gfx_script.specs.State.{open_phase}
use Rattle.gfx_script.specs.declared.reading.Stage.TheVariants.{InThread}
use Rattle.gfx_script.proofs.Standing.{thread_outside, thread_again, thread_begins}
use Rattle.gfx_script.proofs.reading.Reading.begin_thread.Goals as goal

pub returns-then-is_outside : goal.returns-then-is_outside
returns-then-is_outside c = thread_outside c.args.thread c.args.self.now (sym c.is_outside.ensures ∙ c.if-is_outside.true) c.args.self.now.staged

pub returns-then-has_thread : goal.returns-then-has_thread
returns-then-has_thread c =
    thread_again c.args.thread c.args.self.now (sym c.is_outside.ensures ∙ c.if-is_outside.false) (sym c.has_thread.ensures ∙ c.if-has_thread.true)

pub returns : goal.returns
returns c =
    let ended = c.in_ok-end_part.ensures in
    let after = c.end_part.new.self in
    thread_begins c.args.thread c.args.self.now (sym c.is_outside.ensures ∙ c.if-is_outside.false) after.phases.items after.parts.items after.lines.items
    (sym c.has_thread.ensures ∙ c.if-has_thread.false) ended.phases ended.parts ended.lines
    ∙ (λ i. reads (record {
      minor = sym ended.same.minor i;
      phases = in_order (phases_of after.phases.items ++ open_phase (InThread c.args.thread) after.parts.items after.lines.items);
      names = sym ended.same.names i;
    }))
