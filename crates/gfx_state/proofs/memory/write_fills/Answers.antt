use Rattle.std.proofs.Common.{◌+◌, length, map, sym, ap, arith}
use Rattle.std.specs.Prelude.{filter, flat_map}
use Rattle.gfx_types.specs.declared.op.Place.TheVariants as place
use Rattle.gfx_pages.specs.Fills.{fills}
use Rattle.gfx_feature_model.specs.Lean.{kept_block}
use Rattle.gfx_state.specs.Known.{bytes_in}
use Rattle.gfx_state.specs.Filled.{fill_event, fills_written}
use Rattle.gfx_state.proofs.Writing.{leads_start, leads_on, leads_out, leads_end}
use Rattle.gfx_state.proofs.Filling.{is_from, IsPart, from_next, from_none, found_passes, from_start, fills_rise, fills_short, found_holds, length_there, is_there, inside_there}
use Rattle.gfx_state.proofs.memory.write_fills.Goals as goal

pub next_fill-requires : goal.next_fill-requires
next_fill-requires g c = is_there _ _ c.requires

pub fills-init : goal.fills-init
fills-init g c =
    let k = g.P.Keep.kept c.args.keep.now in
    let bytes = bytes_in (g.B.StateBytes.bytes c.args.bytes.now) (place.Memory c.args.memory) in
    leads_start (g.K.Sink.taken c.args.sink.now) (g.K.Sink.faults c.args.sink.now) (flat_map (kept_block k) (fills_written c.args.memory bytes)) _
    (ap (λ fs. flat_map (kept_block k) (map (fill_event c.args.memory bytes) fs)) (from_start (fills bytes)))

pub write_fill-requires-clause-inside : goal.write_fill-requires-clause-inside
write_fill-requires-clause-inside g c =
    let bytes = bytes_in (g.B.StateBytes.bytes c.args.bytes.now) (place.Memory c.args.memory) in
    let part = found_holds (IsPart (length bytes)) c.fills.after (fills bytes) c.in-Some.fill (fills_short bytes) (sym c.in-Some.ensures) in
    let whole = length_there _ _ c.requires in
    let ends = part.2 in
    inside_there _ _ (c.in-Some.fill.at + c.in-Some.fill.length) c.requires (omega (arith, ends, whole))

pub write_fill-requires-clause-short : goal.write_fill-requires-clause-short
write_fill-requires-clause-short g c =
    let bytes = bytes_in (g.B.StateBytes.bytes c.args.bytes.now) (place.Memory c.args.memory) in
    (found_holds (IsPart (length bytes)) c.fills.after (fills bytes) c.in-Some.fill (fills_short bytes) (sym c.in-Some.ensures)).1

pub returns-in_err-write_fill : goal.returns-in_err-write_fill
returns-in_err-write_fill g c =
    let k = g.P.Keep.kept c.args.keep.now in
    let bytes = bytes_in (g.B.StateBytes.bytes c.args.bytes.now) (place.Memory c.args.memory) in
    let next = from_next c.fills.after (fills bytes) c.in-Some.fill (fills_rise bytes) (sym c.in-Some.ensures) in
    leads_out (flat_map (kept_block k) (map (fill_event c.args.memory bytes) (filter (is_from (c.in-Some.fill.at + 1)) (fills bytes)))) c.from_residual.result c.fills.invariant
    (ap (λ fs. flat_map (kept_block k) (map (fill_event c.args.memory bytes) fs)) next) c.in_err-write_fill.ensures c.from_residual.ensures.1

pub overflow_add-after : goal.overflow_add-after
overflow_add-after g c =
    let bytes = bytes_in (g.B.StateBytes.bytes c.args.bytes.now) (place.Memory c.args.memory) in
    let part = found_holds (IsPart (length bytes)) c.fills.after (fills bytes) c.in-Some.fill (fills_short bytes) (sym c.in-Some.ensures) in
    let whole = length_there _ _ c.requires in
    let some = part.0 in
    let ends = part.2 in
    omega (arith, some, ends, whole)

pub fills-smaller : goal.fills-smaller
fills-smaller g c =
    let bytes = bytes_in (g.B.StateBytes.bytes c.args.bytes.now) (place.Memory c.args.memory) in
    let part = found_holds (IsPart (length bytes)) c.fills.after (fills bytes) c.in-Some.fill (fills_short bytes) (sym c.in-Some.ensures) in
    let whole = length_there _ _ c.requires in
    let low = found_passes c.fills.after (fills bytes) c.in-Some.fill (sym c.in-Some.ensures) in
    let some = part.0 in
    let ends = part.2 in
    omega (arith, some, ends, whole, low)

pub fills-preserved : goal.fills-preserved
fills-preserved g c =
    let k = g.P.Keep.kept c.args.keep.now in
    let bytes = bytes_in (g.B.StateBytes.bytes c.args.bytes.now) (place.Memory c.args.memory) in
    let next = from_next c.fills.after (fills bytes) c.in-Some.fill (fills_rise bytes) (sym c.in-Some.ensures) in
    leads_on (flat_map (kept_block k) (map (fill_event c.args.memory bytes) (filter (is_from (c.in-Some.fill.at + 1)) (fills bytes)))) c.fills.invariant
    (ap (λ fs. flat_map (kept_block k) (map (fill_event c.args.memory bytes) fs)) next) c.in_ok-write_fill.ensures

pub returns : goal.returns
returns g c =
    let k = g.P.Keep.kept c.args.keep.now in
    let bytes = bytes_in (g.B.StateBytes.bytes c.args.bytes.now) (place.Memory c.args.memory) in
    leads_end c.fills.invariant (ap (λ fs. flat_map (kept_block k) (map (fill_event c.args.memory bytes) fs)) (from_none c.fills.after (fills bytes) (sym c.in_default.ensures)))
