use Rattle.std.proofs.Common.{◌≤◌, drop, List}
use Rattle.std.specs.Prelude.{flat_map}
use Rattle.gfx_model.specs.Steps.{Change}
use Rattle.gfx_state.specs.Parts.{answers_in}
use Rattle.gfx_state.specs.Sections.{kept_group}
use Rattle.gfx_state.specs.Stored.{IsStored}
use Rattle.gfx_state.proofs.Writing.{Leads}
use Rattle.gfx_state.proofs.section.write_kinds.Given as goal

-- the kinds from here on are left to write
abbrev pub invariant-kinds : goal.invariant-kinds
invariant-kinds g l =
    let sink = g.K.Sink in
    let v = answers_in l.parts in
    record {
      written : (es : List Change) → IsStored v (g.B.StateBytes.bytes l.bytes) es → Leads (sink.taken l.fn.sink) (sink.taken l.sink) (sink.faults l.fn.sink) (sink.faults l.sink)
          (flat_map (kept_group (g.P.Keep.kept l.keep) (record { answers = v; es = es })) l.kinds) (flat_map (kept_group (g.P.Keep.kept l.keep) (record { answers = v; es = es })) (drop l.kind-index l.kinds));
      later : sink.faults l.fn.sink ≤ sink.faults l.sink;
    }
