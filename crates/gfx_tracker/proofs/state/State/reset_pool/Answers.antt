use Rattle.gfx_commands.specs.Recordings.{buffers}
use Rattle.gfx_tracker.specs.Registry.{answers_of}
use Rattle.gfx_tracker.proofs.Gathered.{owned_told, pool_plain, pool_gathered}
use Rattle.gfx_tracker.proofs.state.State.reset_pool.Goals as goal

pub invariant_of-self-2 : goal.invariant_of-self-2
invariant_of-self-2 c =
    let s = c.args.self.now in
    let r = answers_of s.registry in
    let b = buffers s.recordings in
    let now = buffers c.reset_each.new.recordings in
    let told = owned_told r b now s.next_frame s.is_empty s.section s.plain c.args.pool c.owned.result.now c.owned.ensures.all c.reset_each.ensures in
    record { plain = pool_plain r b now s.next_frame s.is_empty s.section s.plain c.args.pool told }

pub returns : goal.returns
returns c =
    let s = c.args.self.now in
    let r = answers_of s.registry in
    let b = buffers s.recordings in
    let now = buffers c.reset_each.new.recordings in
    let told = owned_told r b now s.next_frame s.is_empty s.section s.plain c.args.pool c.owned.result.now c.owned.ensures.all c.reset_each.ensures in
    pool_gathered r b now s.next_frame s.is_empty s.section s.plain c.args.pool told
