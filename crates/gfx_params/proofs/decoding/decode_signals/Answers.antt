use Rattle.std.proofs.Common.{◌≡◌, Some, ap, ◌∙◌, rules}
use Rattle.gfx_model.specs.Events.Event.{WaitForFences}
use Rattle.gfx_grammar.specs.Rows.{by_row, read_event, read_call, with4}
use Rattle.gfx_params.proofs.decoding.decode_signals.Goals as goal

waits_read : (c : goal.In-Ok-read_whole-3) → read_call c.args.minor c.args.id c.args.bytes.now
    ≡ Some (WaitForFences c.in-Ok-read_whole-3.field-0-0 c.in-Ok-read_whole-3.field-0-1-0 c.in-Ok-read_whole-3.field-0-1-1-0 c.in-Ok-read_whole-3.field-0-1-1-1)
unfolding by_row read_event
waits_read c = let is : c.args.id ≡ 37 = search rules in ap (λ n. read_call c.args.minor n c.args.bytes.now) is ∙ c.in-Ok-read_whole-3.ensures (with4 WaitForFences)

pub returns-in-Ok-read_whole-3 : goal.returns-in-Ok-read_whole-3
returns-in-Ok-read_whole-3 c = let is = waits_read c in search rules

pub returns-in-Err-read_whole-3 : goal.returns-in-Err-read_whole-3
unfolding by_row read_event
returns-in-Err-read_whole-3 c = let is : c.args.id ≡ 37 = search rules in rw is (c.in-Err-read_whole-3.ensures (with4 WaitForFences))
