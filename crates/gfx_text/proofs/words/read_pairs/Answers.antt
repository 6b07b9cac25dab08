use Rattle.std.proofs.Common.{◌+◌, ◌*◌, ◌%◌, ◌<◌, ◌≤◌, length, take, Some, refl, ap, ◌∙◌, arith}
use Rattle.std.proofs.lemmas.Bool.Decides.{nat_tests}
use Rattle.std.proofs.lemmas.List.{take_all, take_more_set, length-set}
use Rattle.gfx_text.proofs.Hex.{pairs_go_on, bytes_end}
use Rattle.gfx_text.proofs.words.read_pairs.Goals as goal

pub pairs-preserved : goal.pairs-preserved
pairs-preserved c =
    let places = c.pairs.invariant.places in
    let at : c.pairs.i < length c.pairs.bytes = omega (arith, c.pairs-test.true) in
    let there : 2 * c.pairs.i + 1 < length c.args.word.now = omega (arith, at, places) in
    let byte = (c.digit_value-high.result * 16 % 256 + c.digit_value-low.result) % 256 in
    let next = pairs_go_on c.pairs.most c.digit_value-high.result c.digit_value-low.result byte (take c.pairs.i c.pairs.bytes) c.args.word.now c.pairs.i there c.pairs.invariant.read
    c.digit_value-high.ensures c.digit_value-low.ensures refl in
    let long = length-set c.pairs.bytes c.pairs.i byte in
    record {
      read = rw (c.max-most.ensures, c.max.ensures, take_more_set c.pairs.bytes c.pairs.i byte at) next;
      places = omega (arith, places, long);
    }

pub returns-clause-whole : goal.returns-clause-whole
returns-clause-whole c is =
    let places = c.pairs.invariant.places in
    let all : length c.pairs.bytes ≤ c.pairs.i = omega (arith, c.pairs-test.false) in
    let few : c.pairs.most < 16 = grind (arith, nat_tests, is) in
    bytes_end (take c.pairs.i c.pairs.bytes) c.args.word.now c.pairs.i (omega (arith, all, places)) (c.pairs.invariant.read.whole few)
    ∙ ap Some (take_all c.pairs.i c.pairs.bytes all)
