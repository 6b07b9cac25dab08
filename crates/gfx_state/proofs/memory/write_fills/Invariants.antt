use Rattle.std.proofs.Common.{◌+◌, ◌-◌, map}
use Rattle.std.specs.Prelude.{filter, flat_map}
use Rattle.gfx_types.specs.declared.op.Place.TheVariants as place
use Rattle.gfx_pages.specs.Fills.{fills}
use Rattle.gfx_feature_model.specs.Lean.{kept_block}
use Rattle.gfx_state.specs.Known.{bytes_in}
use Rattle.gfx_state.specs.Filled.{fill_event, fills_written}
use Rattle.gfx_state.proofs.Writing.{Leads}
use Rattle.gfx_state.proofs.Filling.{is_from}
use Rattle.gfx_state.proofs.memory.write_fills.Given as goal

-- the fills from here on are left to write
abbrev pub invariant-fills : goal.invariant-fills
invariant-fills g l =
    let sink = g.K.Sink in
    let k = g.P.Keep.kept l.keep in
    let bytes = bytes_in (g.B.StateBytes.bytes l.bytes) (place.Memory l.memory) in
    Leads (sink.taken l.fn.sink) (sink.taken l.sink) (sink.faults l.fn.sink) (sink.faults l.sink)
    (flat_map (kept_block k) (fills_written l.memory bytes)) (flat_map (kept_block k) (map (fill_event l.memory bytes) (filter (is_from l.after) (fills bytes))))

abbrev pub decreases-fills : goal.decreases-fills
decreases-fills g l = l._size + 1 - l.after
