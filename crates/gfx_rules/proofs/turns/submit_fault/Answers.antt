use Rattle.std.proofs.Common.{◌≡◌, ◌∙◌, ◌<◌, ap, sym, subst, length, map, flat_map, take}
use Rattle.gfx_model.specs.Checks as words
use Rattle.gfx_model.specs.Layouts.{layouts_by}
use Rattle.gfx_rules.specs.Turns.{signals_after, signals_behind, turns_at}
use Rattle.gfx_rules.proofs.Executed.{parts, sits}
use Rattle.gfx_rules.proofs.Differing.{middle_none}
use Rattle.gfx_rules.proofs.turns.submit_fault.Goals as goal

pub returns-clause-passed : goal.returns-clause-passed
returns-clause-passed g c = λ none. c.executes_fault-executed.ensures.passed
    (middle_none c.waits_fault-waited.result c.executes_fault-executed.result c.signals_fault-signalled.result c.first-2.result
    (c.first-2.ensures ∙ ap (λ o. words.first o c.signals_fault-signalled.result) c.first.ensures) none)

pub returns-clause-fault : goal.returns-clause-fault
returns-clause-fault g c =
    let v = g.A.Answers.view c.args.answers.now in
    let all = c.items-all.result.now in
    let before = take c.args.at all in
    let f = signals_behind v.signalled before in
    let l = layouts_by v.buffer v.layout (flat_map (λ s. s.cbs) before) in
    let s = c.index-all-at.result in
    subst (λ xs. c.first-2.result ≡ words.turns_fault v (signals_behind v.signalled (take c.args.at xs)) (layouts_by v.buffer v.layout (flat_map (λ s. s.cbs) (take c.args.at xs))) (turns_at xs c.args.at))
    c.items-all.ensures
    (c.first-2.ensures ∙ ap (λ o. words.first o c.signals_fault-signalled.result) c.first.ensures
    ∙ parts v f l s c.waits_fault-waited.result c.executes_fault-executed.result c.signals_fault-signalled.result
    (c.waits_fault-waited.ensures l ∙ ap (λ xs. words.turns_fault v f l (map words.Turn.wait xs)) c.items.ensures)
    (λ h. c.executes_fault-executed.ensures.fault h
    ∙ ap (λ xs. words.turns_fault v h (layouts_by v.buffer v.layout (flat_map (λ s. s.cbs) (take c.args.at xs))) (map words.Turn.execute c.items-2.result.now)) (sym c.items-all.ensures)
    ∙ ap (λ xs. words.turns_fault v h l (map words.Turn.execute xs)) c.items-2.ensures)
    (λ m. c.signals_fault-signalled.ensures m
    ∙ ap (λ xs. words.turns_fault v (signals_after f (map words.Turn.wait xs)) m (map words.Turn.signal c.items-4.result.now)) c.items-3.ensures
    ∙ ap (λ xs. words.turns_fault v (signals_after f (map words.Turn.wait s.waits)) m (map words.Turn.signal xs)) c.items-4.ensures)
    ∙ ap (words.turns_fault v f l) (sym (sits all c.args.at s (subst (λ xs. c.args.at < length xs) (sym c.items-all.ensures) c.requires.at) c.index-all-at.is)))
