use Rattle.std.proofs.Common.{[], map, ap}
use Rattle.gfx_model.specs.Events.{event_of_meta}
use Rattle.gfx_grammar.specs.Framing.{Part}
use Rattle.gfx_grammar.specs.Reading.{◌>>=◌}
use Rattle.gfx_text_grammar.specs.Lines.{event_block}
use Rattle.gfx_text_grammar.specs.Rows.{read_event}
use Rattle.gfx_text_grammar.specs.Styles.{numbered}
use Rattle.gfx_listing.proofs.Parts.{along_read, fields_fail, spelled}
use Rattle.gfx_listing.proofs.threaded.append_meta.Goals as goal

pub returns-in_err-meta : goal.returns-in_err-meta
returns-in_err-meta c =
    fields_fail c.from_residual.result _ (read_event numbered c.args.minor 3 c.args.name.now ([], map (λ t. t.now) c.args.fields.now)) (event_block c.args.minor 3 c.args.thread)
    c.args.out.now.items c.from_residual.ensures.1 (c.in_err-meta.ensures c.args.minor)

pub put_meta-requires : goal.put_meta-requires
put_meta-requires c =
    spelled 1 3 c.args.name.now ([], map (λ t. t.now) c.args.fields.now) (event_of_meta c.in_ok-meta.meta) (c.in_ok-meta.ensures 1)

pub returns : goal.returns
returns c =
    along_read c.put_meta.result (read_event numbered c.args.minor 3 c.args.name.now ([], map (λ t. t.now) c.args.fields.now) >>= event_block c.args.minor 3 c.args.thread)
    (event_block c.args.minor 3 c.args.thread (event_of_meta c.in_ok-meta.meta)) (λ (p : Part). p.bytes) c.args.out.now.items c.put_meta.new.out.items
    (ap (λ o. o >>= event_block c.args.minor 3 c.args.thread) (c.in_ok-meta.ensures c.args.minor)) (c.put_meta.ensures c.args.minor)
