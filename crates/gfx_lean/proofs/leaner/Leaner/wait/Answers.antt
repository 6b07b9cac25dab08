use Rattle.std.proofs.Common.{◌≡◌, true, refl, sym, ap, ◌∙◌}
use Rattle.std.proofs.lemmas.Result.{err_from_is_err_and}
use Rattle.gfx_blocks.specs.Payloads.{content_of}
use Rattle.gfx_decode.specs.Decoding.{item_of}
use Rattle.gfx_player.specs.Fed.{history_of}
use Rattle.gfx_trim.specs.Written.{acts}
use Rattle.gfx_trim.proofs.Steps.{waiting_continues}
use Rattle.gfx_trim.specs.declared.phase.Phase.TheVariants as phase
use Rattle.gfx_lean.proofs.Taking.{begins_range, if_err, if_ok, keeps_on, restarts, same_but, waiting_phase}
use Rattle.gfx_lean.proofs.leaner.Leaner.wait.Goals as goal

pub returns-in_err-replay-clause-err : goal.returns-in_err-replay-clause-err
returns-in_err-replay-clause-err c =
    let p = err_from_is_err_and c.from_residual.result c.from_residual.ensures.1 in
    rw (p.1, p.2) (λ fed a. c.in_err-replay.ensures.err fed a.follows (waiting_phase c.args.self.now c.args.player.now fed c.requires.phase a).1.0)

pub returns-then-begins_section-clause-ok : goal.returns-then-begins_section-clause-ok
returns-then-begins_section-clause-ok c = λ fed a.
    let took = c.in_ok-replay.ensures.ok fed a.follows (waiting_phase c.args.self.now c.args.player.now fed c.requires.phase a).1.0 in
    let same = same_but c.args.self.now c.replay.new.self c.replay.ensures.others in
    restarts c.args.self.now (record c.replay.new.self { range = c.clear.new.self; phase = phase.Before }) c.args.player.now c.replay.new.player fed (item_of c.args.raw.now) _ c.requires.phase a (record { first = same.range.first; last = same.range.last; minor = same.range.minor }) refl (sym c.begins_section.ensures ∙ c.if-begins_section.true) took.0 took.1
    c.clear.ensures.bytes (record { needed = c.clear.ensures.same.needed ∙ ap (λ r. r.needed) same.blocks; accesses = c.clear.ensures.same.accesses ∙ ap (λ r. r.accesses) same.blocks })

pub returns-in_ok-keep-in-Skip-clause-ok : goal.returns-in_ok-keep-in-Skip-clause-ok
returns-in_ok-keep-in-Skip-clause-ok c = λ fed a.
    keeps_on c.args.self.now (record c.args.self.now { range = c.keep.new.self }) c.args.player.now fed (item_of c.args.raw.now) c.requires.phase a (ap content_of c.in-Skip.is)
    (record { first = refl; last = refl; minor = refl }) refl refl c.in_ok-keep-in-Skip.ensures.bytes c.keep.ensures.same

pub returns-in-Effect-clause-ok : goal.returns-in-Effect-clause-ok
returns-in-Effect-clause-ok c =
    if_ok c.gather.result _ _ c.gather.ensures.ok (λ last take fed a.
    let s = c.args.self.now in
    let plain = sym c.begins_section.ensures ∙ c.if-begins_section.false in
    let some : acts (content_of c.args.raw.now.block) ≡ true = ap (λ b. acts (content_of b)) c.in-Effect.is in
    take fed (begins_range s c.args.player.now fed c.requires.phase a)
    (waiting_continues s.first s.last s.range.blocks.items fed (item_of c.args.raw.now) (waiting_phase s c.args.player.now fed c.requires.phase a).0 plain some))

pub returns-in-Effect-clause-err : goal.returns-in-Effect-clause-err
returns-in-Effect-clause-err c = if_err c.gather.result _ _ c.gather.ensures.err (λ why refuses fed a. refuses (history_of fed) a.follows)
