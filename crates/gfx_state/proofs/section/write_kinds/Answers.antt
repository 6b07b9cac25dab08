use Rattle.std.proofs.Common.{◌+◌, drop, arith}
use Rattle.std.specs.Prelude.{flat_map}
use Rattle.gfx_model.specs.Section.{Known}
use Rattle.gfx_state.specs.Parts.{answers_in}
use Rattle.gfx_state.specs.Sections.{kept_group}
use Rattle.gfx_state.proofs.Writing.{leads_on, leads_out, leads_end, flat_next, flat_over}
use Rattle.gfx_state.proofs.section.write_kinds.Goals as goal

pub returns-in_err-write_kind-clause-written : goal.returns-in_err-write_kind-clause-written
returns-in_err-write_kind-clause-written g c = λ es stored.
    let s : Known = record { answers = answers_in c.args.parts.now; es = es } in
    let k = g.P.Keep.kept c.args.keep.now in
    leads_out (flat_map (kept_group k s) (drop (c.kinds.kind-index + 1) c.args.kinds.now)) c.from_residual.result (c.kinds.invariant.written es stored)
    (flat_next (kept_group k s) c.args.kinds.now c.kinds.kind-index _ c.kinds-test.true) (c.in_err-write_kind.ensures.written es stored) c.from_residual.ensures.1

pub kinds-preserved : goal.kinds-preserved
kinds-preserved g c = record {
  written = λ es stored.
      let s : Known = record { answers = answers_in c.args.parts.now; es = es } in
      let k = g.P.Keep.kept c.args.keep.now in
      leads_on (flat_map (kept_group k s) (drop (c.kinds.kind-index + 1) c.args.kinds.now)) (c.kinds.invariant.written es stored)
      (flat_next (kept_group k s) c.args.kinds.now c.kinds.kind-index _ c.kinds-test.true) (c.in_ok-write_kind.ensures.written es stored);
  later = omega (arith, c.kinds.invariant.later, c.in_ok-write_kind.ensures.counts.later);
}

pub returns-clause-written : goal.returns-clause-written
returns-clause-written g c = λ es stored.
    let s : Known = record { answers = answers_in c.args.parts.now; es = es } in
    let k = g.P.Keep.kept c.args.keep.now in
    leads_end (c.kinds.invariant.written es stored) (flat_over (kept_group k s) c.args.kinds.now c.kinds.kind-index c.kinds-test.false)
