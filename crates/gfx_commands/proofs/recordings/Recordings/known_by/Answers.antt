use Rattle.std.proofs.Common.{◌≡◌, ◌+◌, ◌-◌, Some, None, get_or, take, refl, ap, ◌∙◌, subst, arith}
use Rattle.gfx_commands.specs.Recordings.{buffers}
use Rattle.gfx_commands.specs.Differing.{AreMet}
use Rattle.gfx_model.specs.Layouts.{layouts_by}
use Rattle.gfx_commands.proofs.Executed.{get_at, last_buffer, fewer_buffers}
use Rattle.gfx_commands.proofs.recordings.Recordings.known_by.Goals as goal

pub returns-in-Some : goal.returns-in-Some
returns-in-Some c = λ layout met.
    let b = buffers c.args.self.now in
    let cbs = c.args.cbs.now in
    let n = c.buffers.end - 1 in
    let at = get_at cbs n (get_or cbs n 0) 0 (omega arith) refl in
    let end : c.buffers.end ≡ n + 1 = omega arith in
    let so_far = c.buffers.invariant.same layout met in
    let those = subst (λ k. AreMet b layout (take k cbs)) end so_far.0 in
    so_far.1 ∙ ap (λ k. layouts_by b layout (take k cbs) c.args.image) end
    ∙ last_buffer b cbs n (get_or cbs n 0) at layout those c.args.image (Some c.in-Some.layout) c.in-Some.ensures

pub buffers-preserved : goal.buffers-preserved
buffers-preserved c =
    let b = buffers c.args.self.now in
    let cbs = c.args.cbs.now in
    let n = c.buffers.end - 1 in
    let at = get_at cbs n (get_or cbs n 0) 0 (omega arith) refl in
    let end : c.buffers.end ≡ n + 1 = omega arith in
    record {
      in_range = omega arith;
      same = λ layout met.
          let so_far = c.buffers.invariant.same layout met in
          let those = subst (λ k. AreMet b layout (take k cbs)) end so_far.0 in (
            fewer_buffers b cbs n (get_or cbs n 0) at layout those,
            so_far.1 ∙ ap (λ k. layouts_by b layout (take k cbs) c.args.image) end
                ∙ last_buffer b cbs n (get_or cbs n 0) at layout those c.args.image None c.in_default.ensures,
          );
    }
