use Rattle.std.proofs.Common.{◌+◌, refl, sym, ap, subst, length, length-drop, drop, ◌∙◌, arith}
use Rattle.std.proofs.lemmas.Result.{err_from_is_err_and}
use Rattle.gfx_decode.specs.Position.{position_of}
use Rattle.gfx_decode.specs.Reachable.{IsInReach}
use Rattle.gfx_decode.proofs.Told.{told_if}
use Rattle.gfx_list.specs.Parts.{IsNoBlock, TakesBlock, first_place}
use Rattle.gfx_list.proofs.Placing.{first_reach}
use Rattle.gfx_list.proofs.Opening.{opened, unopened}
use Rattle.gfx_list.proofs.TakenLines.{Unlisting, block_not_read, block_not_sunk, fewer_lines, line_not_sunk, line_taken, no_block, no_line, no_more, some_written, told_reads, write_fails}
use Rattle.gfx_list.proofs.unlisting.unlist_held.Goals as goal

-- there is no header
pub returns-in_err-minor-clause-told : goal.returns-in_err-minor-clause-told
returns-in_err-minor-clause-told g c =
    let p = err_from_is_err_and c.from_residual.result c.from_residual.ensures.1 in
    let taken = g.K.Sink.taken c.args.sink.now in
    rw (p.1, p.2) (told_if _ _ _ _ c.in_err-minor.ensures.told (λ text left a. unopened c.in_err-minor.field-0.0 taken _ text left c.in_err-minor.ensures.unchanged a))

pub returns-in_err-minor-clause-sink_fault : goal.returns-in_err-minor-clause-sink_fault
returns-in_err-minor-clause-sink_fault g c is =
    let p = err_from_is_err_and c.from_residual.result c.from_residual.ensures.1 in
    absurd (c.in_err-minor.ensures.sink_fault (cc (is, p.1, p.2)))

pub reading-init : goal.reading-init
reading-init g c =
    let minor = c.in_ok-minor.minor in
    let bytes = c.read_first.new.bytes.items in
    let header = c.in_ok-minor.ensures.header in
    let taken = g.K.Sink.taken c.args.sink.now in
    let at = c.first_place-at.ensures ∙ ap (λ xs. first_place (length xs)) c.deref.ensures.value in
    record {
      version = header.version;
      few = c.in_ok-minor.ensures.few;
      reach = subst IsInReach (sym at) (first_reach minor bytes header);
      unlisting = told_if _ _ _ _ c.in_ok-minor.ensures.told (λ text left o. opened minor (position_of c.first_place-at.result) taken bytes _ text left o at);
      later_source = c.in_ok-minor.ensures.later;
      later_sink = omega arith;
    }

pub find_line-requires : goal.find_line-requires
find_line-requires g c = c.reading.invariant.few

-- there is no further line
pub returns-in_err-end-clause-told : goal.returns-in_err-end-clause-told
returns-in_err-end-clause-told g c =
    let p = err_from_is_err_and c.from_residual-in_err-end.result c.from_residual-in_err-end.ensures.1 in
    let before = g.K.Sink.taken c.args.sink.now in
    let mid = g.K.Sink.taken c.reading.sink in
    rw (p.1, p.2)
    (no_line c.in_ok-minor.minor (c.reading.at.number + 1) (position_of c.reading.at) c.in_err-end.field-0.0 before mid c.reading.bytes.items c.reading.lines c.find_line.new.self (g.S.Source.left c.args.source.now) (g.S.Source.left c.reading.source) (g.S.Source.left c.find_line.new.source) refl c.reading.invariant.unlisting c.in_err-end.ensures.finds)

pub returns-in_err-end-clause-sink_fault : goal.returns-in_err-end-clause-sink_fault
returns-in_err-end-clause-sink_fault g c is =
    let p = err_from_is_err_and c.from_residual-in_err-end.result c.from_residual-in_err-end.ensures.1 in
    absurd (line_not_sunk _ _ _ _ _ c.in_err-end.field-0.0 c.in_err-end.ensures.finds (cc (is, p.1, p.2)))

pub line-requires : goal.line-requires
line-requires g c =
    let finds = rw c.in-Some.is at c.in_ok-end.ensures.finds in
    let within = finds.1.within in
    omega (arith, within)

-- the line is no block
pub returns-in_err-at-clause-told : goal.returns-in_err-at-clause-told
returns-in_err-at-clause-told g c =
    let p = err_from_is_err_and c.from_residual-in_err-at.result c.from_residual-in_err-at.ensures.1 in
    let m = c.in_ok-minor.minor in
    let at = position_of c.reading.at in
    let end = c.in-Some.end in
    let held = c.reading.bytes.items in
    let pending = c.find_line.new.self in
    let before = g.K.Sink.taken c.args.sink.now in
    let mid = g.K.Sink.taken c.reading.sink in
    let finds = rw c.in-Some.is at c.in_ok-end.ensures.finds in
    let none = subst (λ xs. IsNoBlock m at xs c.in_err-at.field-0.0) c.line.ensures c.in_err-at.ensures.fault in
    rw (p.1, p.2)
    (told_if _ _ _ _ (told_reads m at before mid held c.reading.lines pending (g.S.Source.left c.args.source.now) (g.S.Source.left c.reading.source) (g.S.Source.left c.find_line.new.source) c.reading.invariant.unlisting finds.0)
    (λ text left u. no_block m at c.in_err-at.field-0.0 before mid end held _ pending text left u finds.1 finds.3 none c.in_err-at.ensures.unchanged))

pub returns-in_err-at-clause-read_fault : goal.returns-in_err-at-clause-read_fault
returns-in_err-at-clause-read_fault g c is =
    let p = err_from_is_err_and c.from_residual-in_err-at.result c.from_residual-in_err-at.ensures.1 in
    absurd (block_not_read c.in_ok-minor.minor (position_of c.reading.at) c.line.result.now c.in_err-at.field-0.0 c.in_err-at.ensures.fault (cc (is, p.1, p.2)))

pub returns-in_err-at-clause-sink_fault : goal.returns-in_err-at-clause-sink_fault
returns-in_err-at-clause-sink_fault g c is =
    let p = err_from_is_err_and c.from_residual-in_err-at.result c.from_residual-in_err-at.ensures.1 in
    absurd (block_not_sunk c.in_ok-minor.minor (position_of c.reading.at) c.line.result.now c.in_err-at.field-0.0 c.in_err-at.ensures.fault (cc (is, p.1, p.2)))

pub pass-requires : goal.pass-requires
pass-requires g c =
    let finds = rw c.in-Some.is at c.in_ok-end.ensures.finds in
    finds.1.within

-- what the line lists was not written
pub returns-in_err-write_many-clause-told : goal.returns-in_err-write_many-clause-told
returns-in_err-write_many-clause-told g c =
    let p = err_from_is_err_and c.from_residual-in_err-write_many.result c.from_residual-in_err-write_many.ensures.1 in
    let m = c.in_ok-minor.minor in
    let at = position_of c.reading.at in
    let next = position_of c.in_ok-at.at in
    let end = c.in-Some.end in
    let held = c.reading.bytes.items in
    let grown = c.take_block.new.bytes.items in
    let pending = c.find_line.new.self in
    let before = g.K.Sink.taken c.args.sink.now in
    let mid = g.K.Sink.taken c.reading.sink in
    let after = g.K.Sink.taken c.write_many.new.sink in
    let finds = rw c.in-Some.is at c.in_ok-end.ensures.finds in
    let takes = subst (λ xs. TakesBlock m at xs held grown next) c.line.ensures c.in_ok-at.ensures.takes in
    rw (p.1, p.2)
    (told_if _ _ _ _ (told_reads m at before mid held c.reading.lines pending (g.S.Source.left c.args.source.now) (g.S.Source.left c.reading.source) (g.S.Source.left c.find_line.new.source) c.reading.invariant.unlisting finds.0)
    (λ text left u. write_fails m at next before mid after end held grown c.write_many.new.held.items pending text left u finds.1 takes c.in_err-write_many.ensures.failed c.in_err-write_many.ensures.none))

pub reading-smaller : goal.reading-smaller
reading-smaller g c =
    fewer_lines c.in_ok-minor.minor (position_of c.reading.at) (position_of c.in_ok-at.at) c.line.result.now c.reading.bytes.items c.take_block.new.bytes.items c.reading.invariant.reach c.in_ok-at.ensures.takes

pub reading-preserved : goal.reading-preserved
reading-preserved g c =
    let m = c.in_ok-minor.minor in
    let at = position_of c.reading.at in
    let next = position_of c.in_ok-at.at in
    let end = c.in-Some.end in
    let held = c.reading.bytes.items in
    let grown = c.take_block.new.bytes.items in
    let new = c.write_many.new.held.items in
    let pending = c.find_line.new.self in
    let before = g.K.Sink.taken c.args.sink.now in
    let mid = g.K.Sink.taken c.reading.sink in
    let after = g.K.Sink.taken c.write_many.new.sink in
    let kept = c.reading.invariant in
    let finds = rw c.in-Some.is at c.in_ok-end.ensures.finds in
    let takes = subst (λ xs. TakesBlock m at xs held grown next) c.line.ensures c.in_ok-at.ensures.takes in
    record {
      version = kept.version;
      few = let long = ap length c.pass.ensures in let less = length-drop (end + 1) pending in let room = finds.3 in omega (arith, long, less, room);
      reach = takes.reach;
      unlisting = told_if _ _ _ _ (told_reads m at before mid held c.reading.lines pending (g.S.Source.left c.args.source.now) (g.S.Source.left c.reading.source) (g.S.Source.left c.find_line.new.source) kept.unlisting finds.0) (λ text left u.
          subst (λ xs. Unlisting m next before after new xs text left) (sym c.pass.ensures)
          (some_written m next before mid after grown new (drop (end + 1) pending) text left (line_taken m at next before mid end held grown pending text left u finds.1 takes) c.in_ok-write_many.ensures.some));
      later_source = omega (arith, kept.later_source, c.in_ok-end.ensures.later);
      later_sink = omega (arith, kept.later_sink, c.in_ok-write_many.ensures.cause.later);
    }

-- nothing is left
pub returns-clause-told : goal.returns-clause-told
returns-clause-told g c =
    let before = g.K.Sink.taken c.args.sink.now in
    let mid = g.K.Sink.taken c.reading.sink in
    let none = rw c.in_default.is at c.in_ok-end.ensures.finds in
    no_more c.in_ok-minor.minor (c.reading.at.number + 1) (position_of c.reading.at) before mid c.reading.bytes.items c.reading.lines c.find_line.new.self (g.S.Source.left c.args.source.now) (g.S.Source.left c.reading.source) (g.S.Source.left c.find_line.new.source) c.reading.invariant.unlisting none
