use Rattle.std.proofs.Common.{sym, ap, ◌∙◌, subst, flat_map, take}
use Rattle.std.specs.List.{list_any}
use Rattle.std.proofs.lemmas.List.{take_all}
use Rattle.gfx_model.specs.Effects.{changes_of_op}
use Rattle.gfx_replay.specs.Held.{HoldsMore}
use Rattle.gfx_replay.specs.Places.{bytes_in}
use Rattle.gfx_replay.specs.Ranges.{is_target}
use Rattle.gfx_replay.proofs.Rows.{holds_next, flat_map_more, none_at}
use Rattle.gfx_replay.proofs.places.Places.run_all.Goals as goal

pub loop-op-preserved : goal.loop-op-preserved
loop-op-preserved c = record {
  held =
      subst (λ cs. HoldsMore cs (bytes_in c.args.self.now) (bytes_in c.run.new.self))
      (sym (flat_map_more (changes_of_op c.args.given.now) c.items-op-items.result.now c.loop-op.op-index c.op-item.result c.loop-op-test.true c.op-item.is))
      (holds_next (flat_map (changes_of_op c.args.given.now) (take c.loop-op.op-index c.items-op-items.result.now)) (changes_of_op c.args.given.now c.op-item.result) (bytes_in c.args.self.now) (bytes_in c.loop-op.self) (bytes_in c.run.new.self) c.loop-op.invariant.held c.in_ok-run.ensures.ok);
  sizes = λ at. c.run.ensures.sizes at ∙ c.loop-op.invariant.sizes at;
  others = λ at free.
      c.run.ensures.others at (none_at (λ op. is_target op at) c.items-op-items.result.now c.loop-op.op-index c.op-item.result c.loop-op-test.true c.op-item.is free)
      ∙ c.loop-op.invariant.others at free;
}

pub returns-in_err-run-clause-others : goal.returns-in_err-run-clause-others
returns-in_err-run-clause-others c at free =
    let none = ap (list_any (λ op. is_target op at)) c.items-op-items.ensures ∙ free in
    c.run.ensures.others at (none_at (λ op. is_target op at) c.items-op-items.result.now c.loop-op.op-index c.op-item.result c.loop-op-test.true c.op-item.is none)
    ∙ c.loop-op.invariant.others at none

pub returns-clause-others : goal.returns-clause-others
returns-clause-others c at free = c.loop-op.invariant.others at (ap (list_any (λ op. is_target op at)) c.items-op-items.ensures ∙ free)

pub returns-clause-ok : goal.returns-clause-ok
returns-clause-ok c =
    subst (λ ops. HoldsMore (flat_map (changes_of_op c.args.given.now) ops) (bytes_in c.args.self.now) (bytes_in c.loop-op.self))
    (take_all c.loop-op.op-index c.items-op-items.result.now c.loop-op-test.false ∙ c.items-op-items.ensures) c.loop-op.invariant.held
