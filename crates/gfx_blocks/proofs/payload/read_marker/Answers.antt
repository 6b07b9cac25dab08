use Rattle.std.proofs.Common.{ap, ◌∙◌, Some, sym, rules}
use Rattle.gfx_blocks.proofs.Saying.{marker_cut, marker_without_frame, marker_of_no_kind, begin_said, end_said}
use Rattle.gfx_blocks.proofs.payload.read_marker.Goals as goal

pub returns-in_default : goal.returns-in_default
returns-in_default c = marker_cut c.args.minor c.args.bytes.now c.in_default.ensures

pub returns-in_default-whole_u64 : goal.returns-in_default-whole_u64
returns-in_default-whole_u64 c =
    marker_without_frame c.args.minor c.args.bytes.now c.in-Some.behind.now c.in-Some.kind c.in-Some.ensures c.in_default-whole_u64.ensures

pub returns-in-1 : goal.returns-in-1
returns-in-1 c =
    begin_said c.args.minor c.args.bytes.now c.in-Some.behind.now c.in-Some.kind c.in-Some-whole_u64.frame c.in-Some.ensures c.in-1.is c.in-Some-whole_u64.ensures
    ∙ ap Some (sym c.marker.ensures)

pub returns-in-2 : goal.returns-in-2
returns-in-2 c =
    end_said c.args.minor c.args.bytes.now c.in-Some.behind.now c.in-Some.kind c.in-Some-whole_u64.frame c.in-Some.ensures c.in-2.is c.in-Some-whole_u64.ensures
    ∙ ap Some (sym c.marker-in-2.ensures)

pub returns-in_default-kind : goal.returns-in_default-kind
returns-in_default-kind c =
    marker_of_no_kind c.args.minor c.args.bytes.now c.in-Some.behind.now c.in-Some.kind c.in-Some.ensures (search rules) (search rules)
