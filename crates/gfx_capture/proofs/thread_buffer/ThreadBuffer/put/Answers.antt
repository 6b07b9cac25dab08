use Rattle.std.proofs.Common.{◌∙◌, ◌++◌, [], ◌∷◌, ap, subst, sym, arith, length}
use Rattle.gfx_model.specs.Events.{event_of}
use Rattle.gfx_capture.specs.ThreadBuffer.{CanBePut}
use Rattle.gfx_capture.proofs.Buffers.{one_more, counted}
use Rattle.gfx_capture.proofs.thread_buffer.ThreadBuffer.put.Goals as goal

pub invariant_of-self-2 : goal.invariant_of-self-2
invariant_of-self-2 c =
    let n = counted _ _ _ c.self.invariant in let seen = ap (λ z. length z.events) c.self.view_is in
    (one_more c.self.inside.minor c.self.inside.count c.self.inside.blocks.items _ (event_of c.args.effect.now) c.self.invariant (omega (arith, n, seen, c.requires.room))
    (subst (λ m. CanBePut m (event_of c.args.effect.now)) (sym (ap (λ z. z.minor) c.self.view_is)) c.requires.fits) c.in_ok-put_block.ensures.ok).1

pub returns-clause-ok : goal.returns-clause-ok
returns-clause-ok c =
    let n = counted _ _ _ c.self.invariant in let seen = ap (λ z. length z.events) c.self.view_is in
    (one_more c.self.inside.minor c.self.inside.count c.self.inside.blocks.items _ (event_of c.args.effect.now) c.self.invariant (omega (arith, n, seen, c.requires.room))
    (subst (λ m. CanBePut m (event_of c.args.effect.now)) (sym (ap (λ z. z.minor) c.self.view_is)) c.requires.fits) c.in_ok-put_block.ensures.ok).0
    ∙ ap (λ z. z.events ++ event_of c.args.effect.now ∷ []) c.self.view_is
