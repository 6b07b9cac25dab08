use Rattle.std.proofs.Common.{map, sym, ap, ◌∙◌}
use Rattle.gfx_model.specs.Events.{event_of}
use Rattle.gfx_script.proofs.Added.{stands_outside, is_statement, line_fails, line_goes}
use Rattle.gfx_script.proofs.reading.Reading.add_effect.Goals as goal

pub returns-then-not-is_in_thread : goal.returns-then-not-is_in_thread
returns-then-not-is_in_thread c =
    stands_outside c.args.at c.args.self.now (map (λ t. t.now) c.args.tokens.now) (event_of c.args.effect.now) c.requires.place c.requires.read
    (sym c.is_in_thread.ensures ∙ c.if-not-is_in_thread.true) c.args.self.now.staged

pub number_line-requires-clause-stated : goal.number_line-requires-clause-stated
number_line-requires-clause-stated c =
    is_statement c.args.at c.args.self.now (map (λ t. t.now) c.args.tokens.now) (event_of c.args.effect.now) c.requires.place c.requires.read
    (map (λ t. t.now) c.deref.result.now) (ap (map (λ t. t.now)) c.deref.ensures.value ∙ c.in_ok-words.ensures)

pub returns-in_err-line : goal.returns-in_err-line
returns-in_err-line c =
    line_fails c.args.at c.args.self.now (map (λ t. t.now) c.args.tokens.now) (event_of c.args.effect.now) c.requires.place c.requires.read
    (map (λ t. t.now) c.deref.result.now) (ap (map (λ t. t.now)) c.deref.ensures.value ∙ c.in_ok-words.ensures)
    (sym c.is_in_thread.ensures ∙ c.if-not-is_in_thread.false) c.from_residual-in_err-line.result _ _ _ c.in_err-line.ensures c.from_residual-in_err-line.ensures.1

pub returns : goal.returns
returns c =
    line_goes c.args.at c.args.self.now (map (λ t. t.now) c.args.tokens.now) (event_of c.args.effect.now) c.requires.place c.requires.read
    (map (λ t. t.now) c.deref.result.now) (ap (map (λ t. t.now)) c.deref.ensures.value ∙ c.in_ok-words.ensures)
    (sym c.is_in_thread.ensures ∙ c.if-not-is_in_thread.false) c.in_ok-line.line c.number_line.new.names _ c.in_ok-line.ensures c.in_ok-push.ensures.items
