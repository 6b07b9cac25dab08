use Rattle.std.proofs.Common.{◌≡◌, ◌∙◌, ap, length, rules}
use Rattle.gfx_script_model.specs.Runs.{log_bytes}
use Rattle.gfx_capture.specs.Entry.{entries_under}
use Rattle.gfx_capture.proofs.Buffers.{any_thread}
use Rattle.gfx_capture.proofs.thread_buffer.ThreadBuffer.bytes.Goals as goal

pub returns : goal.returns
returns c t =
    let long : c.len.result ≡ length c.self.inside.blocks.items = search rules in
    long ∙ any_thread c.self.inside.minor c.self.inside.count t c.self.inside.blocks.items c.self.invariant
    ∙ ap (λ z. length (log_bytes z.minor (entries_under t z.events))) c.self.view_is
