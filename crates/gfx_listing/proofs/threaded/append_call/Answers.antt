use Rattle.std.proofs.Common.{[], map, ap}
use Rattle.gfx_model.specs.Events.{event_of_call}
use Rattle.gfx_grammar.specs.Framing.{Part}
use Rattle.gfx_grammar.specs.Reading.{◌>>=◌}
use Rattle.gfx_text_grammar.specs.Lines.{event_block}
use Rattle.gfx_text_grammar.specs.Rows.{read_event}
use Rattle.gfx_text_grammar.specs.Styles.{numbered}
use Rattle.gfx_listing.proofs.Parts.{along_read, fields_fail, spelled}
use Rattle.gfx_listing.proofs.threaded.append_call.Goals as goal

pub returns-in_err-call : goal.returns-in_err-call
returns-in_err-call c =
    fields_fail c.from_residual.result _ (read_event numbered c.args.minor 4 c.args.name.now ([], map (λ t. t.now) c.args.fields.now)) (event_block c.args.minor 4 c.args.thread)
    c.args.out.now.items c.from_residual.ensures.1 c.in_err-call.ensures

pub put_call-requires-clause-fits : goal.put_call-requires-clause-fits
put_call-requires-clause-fits c =
    spelled c.args.minor 4 c.args.name.now ([], map (λ t. t.now) c.args.fields.now) (event_of_call c.in_ok-call.call) c.in_ok-call.ensures

pub returns : goal.returns
returns c =
    along_read c.put_call.result (read_event numbered c.args.minor 4 c.args.name.now ([], map (λ t. t.now) c.args.fields.now) >>= event_block c.args.minor 4 c.args.thread)
    (event_block c.args.minor 4 c.args.thread (event_of_call c.in_ok-call.call)) (λ (p : Part). p.bytes) c.args.out.now.items c.put_call.new.out.items
    (ap (λ o. o >>= event_block c.args.minor 4 c.args.thread) c.in_ok-call.ensures) c.put_call.ensures
