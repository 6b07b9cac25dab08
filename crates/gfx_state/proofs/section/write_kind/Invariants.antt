use Rattle.std.proofs.Common.{◌≤◌, drop, List}
use Rattle.std.specs.Prelude.{flat_map, filter}
use Rattle.gfx_model.specs.Steps.{Change}
use Rattle.gfx_model.specs.Views.{is_live}
use Rattle.gfx_state.specs.Parts.{answers_in}
use Rattle.gfx_state.specs.Sections.{kept_at}
use Rattle.gfx_state.specs.Stored.{IsStored}
use Rattle.gfx_state.proofs.Writing.{Leads}
use Rattle.gfx_state.proofs.section.write_kind.Given as goal

-- the objects of the kind from here on are left to write
abbrev pub invariant-ids : goal.invariant-ids
invariant-ids g l =
    let sink = g.K.Sink in
    let v = answers_in l.parts in
    record {
      written : (es : List Change) → IsStored v (g.B.StateBytes.bytes l.bytes) es → Leads (sink.taken l.fn.sink) (sink.taken l.sink) (sink.faults l.fn.sink) (sink.faults l.sink)
          (flat_map (kept_at (g.P.Keep.kept l.keep) (record { answers = v; es = es })) (filter (is_live v l.kind) l.ids)) (flat_map (kept_at (g.P.Keep.kept l.keep) (record { answers = v; es = es })) (filter (is_live v l.kind) (drop l.at l.ids)));
      later : sink.faults l.fn.sink ≤ sink.faults l.sink;
    }
