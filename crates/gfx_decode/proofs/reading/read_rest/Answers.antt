use Rattle.std.proofs.Common.{◌≡◌, ◌+◌, ◌≤◌, ◌<◌, ◌++◌, [], refl, sym, append-nil, List, ℕ, take, length, arith, ap, ◌∙◌, append_assoc, length-append}
use Rattle.std.proofs.KnownBytes.{Consumes-nil, Consumes-trans}
use Rattle.std.proofs.lemmas.Result.{err_from_is_err_and}
use Rattle.gfx_grammar.proofs.FramingLaws.{head-bounds}
use Rattle.gfx_decode.specs.Position.{position_of}
use Rattle.gfx_decode.proofs.Steps.{ends_before, stops_in_piece}
use Rattle.gfx_decode.proofs.reading.read_rest.Goals as goal

pub overflow_add-end : goal.overflow_add-end
overflow_add-end g c = omega (arith, head-bounds _ c.requires.good, c.requires.size_is)

pub read_over-requires-clause-few : goal.read_over-requires-clause-few
read_over-requires-clause-few g c = omega (arith, head-bounds _ c.requires.good, c.requires.size_is, c.pieces.invariant.within, c.min-most.ensures)

pub pieces-init : goal.pieces-init
pieces-init g c =
    let (room, front) = c.in_ok-put_front.ensures in
    record {
      held = ([], ap (λ n. take n c.put_front.new.buffer.items) (sym c.told-head) ∙ front ∙ sym (append-nil c.args.head.now), refl, Consumes-nil _);
      within = omega arith;
      there = omega (arith, room, c.told-head, c.put_front.new.buffer.ok.0);
      later = omega arith;
    }

pub returns-in_err-read_over-clause-fault : goal.returns-in_err-read_over-clause-fault
returns-in_err-read_over-clause-fault g c =
    let p = err_from_is_err_and c.from_residual-in_err-read_over.result c.from_residual-in_err-read_over.ensures.1 in
    let (part, _, all, came) = c.pieces.invariant.held in
    let room : length part + c.min-most.result ≤ c.args.framing.size = omega (arith, all, c.min-most.ensures, c.pieces.invariant.within) in
    rw (p.1, p.2) (stops_in_piece _ _ (position_of c.args.at) _ _ _ part _ came c.in_err-read_over.ensures.fault room)

pub returns-in_err-read_over-clause-reads : goal.returns-in_err-read_over-clause-reads
returns-in_err-read_over-clause-reads g c =
    let (part, _, all, came) = c.pieces.invariant.held in
    let (piece, more, few) = c.in_err-read_over.ensures.reads in
    (part ++ piece, Consumes-trans _ _ _ part piece came more, omega (arith, all, few, length-append part piece, c.min-most.ensures, c.pieces.invariant.within))

pub returns-then-branch-most-clause-fault : goal.returns-then-branch-most-clause-fault
returns-then-branch-most-clause-fault g c =
    let (part, _, all, came) = c.pieces.invariant.held in
    let (piece, long, _, more) = c.in_ok-read_over.ensures.piece in
    let short : length (part ++ piece) < c.args.framing.size = omega (arith, all, long, length-append part piece, c.if-branch-most.true, c.min-most.ensures, c.pieces.invariant.within) in
    rw c.bad.ensures (refl, refl, c.cut_fault.ensures, ends_before _ _ (part ++ piece) c.args.framing.size (Consumes-trans _ _ _ part piece came more) (c.in_ok-read_over.ensures.ended.1 c.if-branch-most.true) short)

pub returns-then-branch-most-clause-reads : goal.returns-then-branch-most-clause-reads
returns-then-branch-most-clause-reads g c =
    let (part, _, all, came) = c.pieces.invariant.held in
    let (piece, long, _, more) = c.in_ok-read_over.ensures.piece in
    let few = c.in_ok-read_over.ensures.ended.0 in
    (part ++ piece, Consumes-trans _ _ _ part piece came more, omega (arith, all, long, few, length-append part piece, c.min-most.ensures, c.pieces.invariant.within))

pub pieces-preserved : goal.pieces-preserved
pieces-preserved g c =
    let (part, holds, all, came) = c.pieces.invariant.held in
    let (piece, long, grown, more) = c.in_ok-read_over.ensures.piece in
    let whole : c.min-most.result ≡ c.in_ok-read_over.field-0 = omega (arith, c.in_ok-read_over.ensures.ended.0, c.if-branch-most.false) in
    let behind : take (c.pieces.came + c.min-most.result) c.read_over.new.buffer.items ≡ c.args.head.now ++ (part ++ piece) =
    ap (λ n. take (c.pieces.came + n) c.read_over.new.buffer.items) whole ∙ grown ∙ ap (λ (xs : List ℕ). xs ++ piece) holds ∙ append_assoc c.args.head.now part piece in
    record {
      held = (part ++ piece, behind, omega (arith, all, long, whole, length-append part piece), Consumes-trans _ _ _ part piece came more);
      within = omega (arith, c.min-most.ensures, c.pieces.invariant.within);
      there = omega (arith, c.in_ok-read_over.ensures.room, c.read_over.new.buffer.ok.0);
      later = omega (arith, c.pieces.invariant.later, c.in_ok-read_over.ensures.later);
    }
