use Rattle.std.proofs.Common.{refl, sym, ap, ◌∙◌}
use Rattle.std.proofs.lemmas.Result.{err_from_is_err_and}
use Rattle.gfx_model.specs.Trimmed.{cuts_before}
use Rattle.gfx_blocks.specs.Payloads.{content_of}
use Rattle.gfx_decode.specs.Decoding.{item_of}
use Rattle.gfx_player.specs.Fed.{history_of}
use Rattle.gfx_trim.specs.declared.phase.Phase.TheVariants as phase
use Rattle.gfx_lean.proofs.Taking.{passes_cut, passes_on, replayed_before, same_but}
use Rattle.gfx_lean.proofs.leaner.Leaner.pass.Goals as goal

pub returns-in_err-number-clause-err : goal.returns-in_err-number-clause-err
returns-in_err-number-clause-err c =
    let p = err_from_is_err_and c.from_residual.result c.from_residual.ensures.1 in
    rw (p.1, p.2) (λ fed a. c.in_err-number.ensures.err fed a.follows (replayed_before c.args.self.now c.args.player.now fed c.requires.phase a))

pub returns-then-begins_behind-clause-ok : goal.returns-then-begins_behind-clause-ok
returns-then-begins_behind-clause-ok c = λ fed a.
    let took = c.in_ok-number.ensures.ok fed a.follows (replayed_before c.args.self.now c.args.player.now fed c.requires.phase a) in
    let same = same_but c.args.self.now c.replay.new.self c.replay.ensures.others in
    passes_cut c.args.self.now (record c.replay.new.self { phase = phase.Waiting }) c.args.player.now c.replay.new.player fed (item_of c.args.raw.now) c.in_ok-number.number c.requires.phase a (record { range = record { first = same.range.first; last = same.range.last; minor = same.range.minor }; blocks = same.blocks }) took.0 took.1 refl
    (sym (c.begins_behind.ensures (history_of fed) took.0.shows ∙ ap (λ n. cuts_before n (history_of fed) (content_of c.args.raw.now.block)) same.range.first) ∙ c.if-begins_behind.true)

pub returns-else-begins_behind-clause-ok : goal.returns-else-begins_behind-clause-ok
returns-else-begins_behind-clause-ok c = λ fed a.
    let took = c.in_ok-number.ensures.ok fed a.follows (replayed_before c.args.self.now c.args.player.now fed c.requires.phase a) in
    let same = same_but c.args.self.now c.replay.new.self c.replay.ensures.others in
    passes_on c.args.self.now c.replay.new.self c.args.player.now c.replay.new.player fed (item_of c.args.raw.now) c.in_ok-number.number c.requires.phase a same took.0 took.1
    (ap (λ c. c.phase) c.replay.ensures.others ∙ c.requires.phase)
    (sym (c.begins_behind.ensures (history_of fed) took.0.shows ∙ ap (λ n. cuts_before n (history_of fed) (content_of c.args.raw.now.block)) same.range.first) ∙ c.if-begins_behind.false)
