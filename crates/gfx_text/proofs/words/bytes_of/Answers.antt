use Rattle.std.proofs.Common.{◌≡◌, ◌%◌, ◌^◌, ◌<◌, length, Some, refl, sym, ap, ◌∙◌, arith}
use Rattle.gfx_text.proofs.Hex.{odd_none, raw_some, raw_none, written_over}
use Rattle.gfx_text.proofs.words.bytes_of.Goals as goal

pub returns-then-word-ne0 : goal.returns-then-word-ne0
returns-then-word-ne0 c =
    let odd : length c.args.word.now % 2 ≡ 1 = omega (arith, c.if-word-ne0.true) in
    raw_none c.args.word.now (odd_none c.args.word.now odd)

pub returns-then-read_pairs : goal.returns-then-read_pairs
returns-then-read_pairs c =
    let new = c.read_pairs.new.bytes in
    let old = c.in_ok-bytes.bytes in
    let as_long = c.read_pairs.auto.bytes in
    let lent = c.deref_mut.ensures.len in
    let same : length new ≡ old.len = omega (arith, as_long, lent, old.ok.0) in
    let few : length new < 2 ^ 64 = omega (arith, same, old.ok.0, old.small) in
    raw_some c.args.word.now new (c.if-read_pairs.ensures.whole refl) few
    ∙ ap Some (sym (written_over old.len new old.items same (omega (arith, old.ok.0))))

pub returns-else-read_pairs : goal.returns-else-read_pairs
returns-else-read_pairs c = raw_none c.args.word.now (c.if-read_pairs.ensures.broken refl)
