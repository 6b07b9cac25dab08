use Rattle.std.proofs.Common.{◌≡◌, ◌⊎◌, ◌<◌, ◌≤◌, ◌+◌, ◌-◌, ◌^◌, length}
use Rattle.gfx_io.specs.Told.{IfTold}
use Rattle.gfx_decode.specs.Position.{position_of}
use Rattle.gfx_decode.specs.Reachable.{IsInReach}
use Rattle.gfx_list.specs.Unlists.{read_ahead}
use Rattle.gfx_list.proofs.TakenLines.{Unlisting}
use Rattle.gfx_list.proofs.unlisting.unlist_held.Given as goal

-- what the lines so far list was taken or is held
abbrev pub invariant-reading : goal.invariant-reading
invariant-reading g l =
    let source = g.S.Source in
    let sink = g.K.Sink in
    record {
      version : (l.minor ≡ 1) ⊎ (l.minor ≡ 2);
      few : length l.lines < read_ahead;
      reach : IsInReach (position_of l.at);
      unlisting : IfTold (source.left l.fn.source) (source.left l.source) (Unlisting l.minor (position_of l.at) (sink.taken l.fn.sink) (sink.taken l.sink) l.bytes.items l.lines);
      later_source : source.faults l.fn.source ≤ source.faults l.source;
      later_sink : sink.faults l.fn.sink ≤ sink.faults l.sink;
    }

abbrev pub decreases-reading : goal.decreases-reading
decreases-reading g l = 2 ^ 33 + 2 - l.at.number
