use Rattle.std.proofs.Common.{length, ◌-◌, sym, ◌∙◌, arith}
use Rattle.gfx_script_model.specs.Scripts.{parses}
use Rattle.gfx_script.specs.State.{reading_of}
use Rattle.gfx_script.proofs.Parsed.{parsed_as, parse_begins, parse_goes_on, fault_stops, parse_ends}
use Rattle.gfx_script.proofs.parsing.parse.Goals as goal

pub lines-init : goal.lines-init
lines-init c = record { number = omega arith; within = omega arith; parsed = parse_begins c.args.text.now (reading_of c.new-reading.result) c.new-reading.ensures }

pub returns-in-Err : goal.returns-in-Err
returns-in-Err c =
    rw c.at.ensures
    (fault_stops c.args.text.now c.lines.rest.now c.in-Some.line.now c.in-Some.behind.now c.lines.number (reading_of c.lines.reading) c.lines.invariant.within c.in-Some.ensures
    c.lines.invariant.parsed c.in-Err.fault c.in-Err.ensures.line)

pub lines-preserved : goal.lines-preserved
lines-preserved c = record {
  number = let h = c.in-Ok.ensures.number in omega (arith, h);
  within = let h = c.in-Some.ensures.through in omega (arith, h, c.lines.invariant.within);
  parsed =
      c.lines.invariant.parsed
      ∙ parse_goes_on c.args.text.now c.lines.rest.now c.in-Some.line.now c.in-Some.behind.now c.lines.number (reading_of c.lines.reading) c.lines.invariant.within c.in-Some.ensures
      (reading_of c.read_line.new.self) c.in-Ok.ensures.line;
}

pub returns : goal.returns
returns c =
    let script = c.in_ok-into_script.ensures in
    parsed_as c.args.text.now _
    (c.lines.invariant.parsed
    ∙ parse_ends (length c.args.text.now) c.lines.number (length c.args.text.now - length c.lines.rest.now) (reading_of c.lines.reading) c.lines.rest.now c.in_default.ensures
    ∙ (λ i. parses (sym script.0 i) (sym script.1 i)))
