use Rattle.std.proofs.Common.{sym, ap, ◌∙◌}
use Rattle.gfx_model.specs.Events.{event_of}
use Rattle.gfx_model.specs.Blocks.{effect as in_file}
use Rattle.gfx_cli.specs.Counts.{with_block}
use Rattle.gfx_cli.proofs.Counting.{counts_call, counts_meta, counts_marker}
use Rattle.gfx_cli.proofs.counts.Counts.with_effect.Goals as goal

pub returns-in-Call : goal.returns-in-Call
returns-in-Call c thread =
    counts_call c.args.self thread c.in-Call.call c.ends_frame.result c.from.result c.ends_frame.ensures c.from.ensures
    ∙ ap (λ e. with_block c.args.self (in_file thread (event_of e))) (sym c.in-Call.is)

pub returns-in-Meta : goal.returns-in-Meta
returns-in-Meta c thread =
    counts_meta c.args.self thread c.in-Meta.field-0 ∙ ap (λ e. with_block c.args.self (in_file thread (event_of e))) (sym c.in-Meta.is)

pub returns-in-Marker : goal.returns-in-Marker
returns-in-Marker c thread =
    counts_marker c.args.self thread c.in-Marker.begin c.in-Marker.frame ∙ ap (λ e. with_block c.args.self (in_file thread (event_of e))) (sym c.in-Marker.is)
