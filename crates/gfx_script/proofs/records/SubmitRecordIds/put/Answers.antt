use Rattle.gfx_script.proofs.Marked.{submit_takes}
use Rattle.gfx_script.proofs.records.SubmitRecordIds.put.Goals as goal

pub returns : goal.returns
returns c =
    submit_takes c.args.self.now (record { waits = c.in_ok-waits.waits; cbs = c.in_ok-cbs.cbs; signals = c.in_ok-signals.signals }) c.args.ids.now c.in_ok-waits.left.now c.in_ok-cbs.left.now c.in_ok-signals.left.now
    c.in_ok-waits.ensures.0 c.in_ok-waits.ensures.1 c.in_ok-cbs.ensures.0 c.in_ok-cbs.ensures.1 c.in_ok-signals.ensures.0 c.in_ok-signals.ensures.1
