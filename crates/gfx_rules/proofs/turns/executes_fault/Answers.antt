use Rattle.std.proofs.Common.{map, flat_map, take, arith, ap, refl, ◌∙◌, length, append-nil}
use Rattle.gfx_model.specs.Checks as words
use Rattle.gfx_model.specs.Layouts.{layouts_by}
use Rattle.gfx_rules.proofs.Executed.{not_ready, not_met, is_met, executes_end, here, meets_here}
use Rattle.gfx_rules.proofs.Differing.{found, submit_begins, stands_before, place_passes, submit_ends}
use Rattle.gfx_rules.proofs.turns.executes_fault.Goals as goal

pub cbs-init : goal.cbs-init
cbs-init g c = let v = g.A.Answers.view c.args.answers.now in let before = flat_map (λ s. s.cbs) (take c.args.submit c.args.submits.now) in (
  submit_begins c.args.differing c.args.submit c.requires.earlier,
  λ f. ap (λ xs. words.turns_fault v f (layouts_by v.buffer v.layout xs) (map words.Turn.execute c.args.cbs.now)) (append-nil before),
)

pub returns-then-not-is_executable-clause-fault : goal.returns-then-not-is_executable-clause-fault
returns-then-not-is_executable-clause-fault g c = λ f. let v = g.A.Answers.view c.args.answers.now in let before = flat_map (λ s. s.cbs) (take c.args.submit c.args.submits.now) in
    not_ready v f before c.args.cbs.now c.cbs.at _ _ (omega arith) c.is_executable.ensures c.if-not-is_executable.true (c.cbs.invariant.1 f)

pub returns-then-is_place-clause-fault : goal.returns-then-is_place-clause-fault
returns-then-is_place-clause-fault g c = λ f. let v = g.A.Answers.view c.args.answers.now in let before = flat_map (λ s. s.cbs) (take c.args.submit c.args.submits.now) in
    not_met v f before c.args.cbs.now c.cbs.at _ _ _ (omega arith) c.is_executable.ensures refl c.if-not-is_executable.false
    (ap (λ xs. meets_here v before xs c.cbs.at) c.requires.cbs ∙ found _ c.args.differing (c.args.submit, c.cbs.at) (c.is_place.ensures.0 c.if-is_place.true) c.requires.first.differs)
    (c.cbs.invariant.1 f)

pub cbs-preserved : goal.cbs-preserved
cbs-preserved g c =
    let v = g.A.Answers.view c.args.answers.now in let before = flat_map (λ s. s.cbs) (take c.args.submit c.args.submits.now) in
    let behind = stands_before c.args.differing c.args.submit c.cbs.at c.cbs.invariant.0 (λ e. absurd (cc (c.is_place.ensures.1 e))) in (
      place_passes c.args.differing c.args.submit c.cbs.at behind,
      λ f. is_met v f before c.args.cbs.now c.cbs.at _ _ _ (omega arith) c.is_executable.ensures refl c.if-not-is_executable.false
          (ap (λ xs. meets_here v before xs c.cbs.at) c.requires.cbs
          ∙ c.requires.first.before c.args.submit c.cbs.at c.requires.submit (omega (arith, ap length c.requires.cbs)) behind)
          (c.cbs.invariant.1 f),
    )

pub returns-clause-passed : goal.returns-clause-passed
returns-clause-passed g c = λ none. submit_ends c.args.submits.now c.args.differing c.args.submit c.cbs.at (omega (arith, ap length c.requires.cbs)) c.requires.first.inside c.cbs.invariant.0

pub returns-clause-fault : goal.returns-clause-fault
returns-clause-fault g c = λ f. let v = g.A.Answers.view c.args.answers.now in let before = flat_map (λ s. s.cbs) (take c.args.submit c.args.submits.now) in
    executes_end v f (here v before c.args.cbs.now c.cbs.at) c.args.cbs.now c.cbs.at _ (omega arith) (c.cbs.invariant.1 f)
