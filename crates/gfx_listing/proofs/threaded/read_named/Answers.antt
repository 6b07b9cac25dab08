use Rattle.std.proofs.Common.{[], map}
use Rattle.gfx_grammar.specs.Framing.{Part}
use Rattle.gfx_grammar.specs.Reading.{◌>>=◌}
use Rattle.gfx_text_grammar.specs.Lines.{event_block, read_named}
use Rattle.gfx_text_grammar.specs.Rows.{read_event}
use Rattle.gfx_text_grammar.specs.Styles.{numbered}
use Rattle.gfx_listing.proofs.Dispatch.{call_named, meta_named}
use Rattle.gfx_listing.proofs.Parts.{along_read}
use Rattle.gfx_listing.proofs.threaded.read_named.Goals as goal

pub returns-in-Some : goal.returns-in-Some
returns-in-Some c =
    let fields = map (λ t. t.now) c.args.fields.now in
    along_read c.append_call.result (read_named c.args.minor c.args.thread c.args.name.now fields)
    (read_event numbered c.args.minor 4 c.in-Some.call.now ([], fields) >>= event_block c.args.minor 4 c.args.thread) (λ (p : Part). p.bytes)
    c.args.out.now.items c.append_call.new.out.items (call_named c.args.minor c.args.thread c.args.name.now c.in-Some.call.now fields c.in-Some.ensures) c.append_call.ensures

pub returns-in-None : goal.returns-in-None
returns-in-None c =
    let fields = map (λ t. t.now) c.args.fields.now in
    along_read c.append_meta.result (read_named c.args.minor c.args.thread c.args.name.now fields)
    (read_event numbered c.args.minor 3 c.args.name.now ([], fields) >>= event_block c.args.minor 3 c.args.thread) (λ (p : Part). p.bytes)
    c.args.out.now.items c.append_meta.new.out.items (meta_named c.args.minor c.args.thread c.args.name.now fields c.in-None.ensures) c.append_meta.ensures
