use Rattle.std.proofs.Common.{◌+◌, Ok, Err, None, Some, length, length-drop, ap, sym, subst, arith}
use Rattle.std.proofs.lemmas.Result.{err_from_is_err_and}
use Rattle.gfx_io.specs.Told.{IfTold}
use Rattle.gfx_list.specs.Lines.{Finds}
use Rattle.gfx_list.specs.Parts.{IsNoHeader, IsOpened, TakesHeader}
use Rattle.gfx_list.proofs.Placing.{header_of}
use Rattle.gfx_list.proofs.Opening.{empty_text, header_not_read, header_not_sunk, no_first, no_header, opens}
use Rattle.gfx_list.proofs.TakenLines.{line_not_sunk}
use Rattle.gfx_list.proofs.unlisting.read_first.Goals as goal

-- there is no first line
pub returns-in_err-end-clause-told : goal.returns-in_err-end-clause-told
returns-in_err-end-clause-told g c =
    let p = err_from_is_err_and c.from_residual.result c.from_residual.ensures.1 in
    let why = c.in_err-end.field-0.0 in
    let new = c.find_line.new.self in
    rw (p.1, p.2) (no_first why new (g.S.Source.left c.args.source.now) (g.S.Source.left c.find_line.new.source) (subst (λ xs. Finds 1 xs (g.S.Source.left c.args.source.now) new (g.S.Source.left c.find_line.new.source) (Err why)) c.requires.0 c.in_err-end.ensures.finds))

pub returns-in_err-end-clause-sink_fault : goal.returns-in_err-end-clause-sink_fault
returns-in_err-end-clause-sink_fault g c is =
    let p = err_from_is_err_and c.from_residual.result c.from_residual.ensures.1 in
    line_not_sunk _ _ _ _ _ c.in_err-end.field-0.0 c.in_err-end.ensures.finds (cc (is, p.1, p.2))

-- the text is empty
pub returns-in_default-clause-told : goal.returns-in_default-clause-told
returns-in_default-clause-told g c =
    let new = c.find_line.new.self in
    let finds = rw c.in_default.is at c.in_ok-end.ensures.finds in
    empty_text new (g.S.Source.left c.args.source.now) (g.S.Source.left c.find_line.new.source) (subst (λ xs. Finds 1 xs (g.S.Source.left c.args.source.now) new (g.S.Source.left c.find_line.new.source) (Ok None)) c.requires.0 finds)

pub line-requires : goal.line-requires
line-requires g c =
    let finds = rw c.in-Some.is at c.in_ok-end.ensures.finds in
    let within = finds.1.within in
    omega (arith, within)

-- the line is no header's
pub returns-in_err-minor-clause-told : goal.returns-in_err-minor-clause-told
returns-in_err-minor-clause-told g c =
    let p = err_from_is_err_and c.from_residual-in_err-minor.result c.from_residual-in_err-minor.ensures.1 in
    let why = c.in_err-minor.field-0.0 in
    let new = c.find_line.new.self in
    let finds = rw c.in-Some.is at c.in_ok-end.ensures.finds in
    rw (p.1, p.2)
    (no_header why c.in-Some.end new (g.S.Source.left c.args.source.now) (g.S.Source.left c.find_line.new.source) (subst (λ xs. Finds 1 xs (g.S.Source.left c.args.source.now) new (g.S.Source.left c.find_line.new.source) (Ok (Some c.in-Some.end))) c.requires.0 finds)
    (subst (λ xs. IsNoHeader xs why) c.line.ensures c.in_err-minor.ensures.fault))

pub returns-in_err-minor-clause-read_fault : goal.returns-in_err-minor-clause-read_fault
returns-in_err-minor-clause-read_fault g c is =
    let p = err_from_is_err_and c.from_residual-in_err-minor.result c.from_residual-in_err-minor.ensures.1 in
    absurd (header_not_read _ c.in_err-minor.field-0.0 c.in_err-minor.ensures.fault (cc (is, p.1, p.2)))

pub returns-in_err-minor-clause-sink_fault : goal.returns-in_err-minor-clause-sink_fault
returns-in_err-minor-clause-sink_fault g c is =
    let p = err_from_is_err_and c.from_residual-in_err-minor.result c.from_residual-in_err-minor.ensures.1 in
    header_not_sunk _ c.in_err-minor.field-0.0 c.in_err-minor.ensures.fault (cc (is, p.1, p.2))

pub pass-requires : goal.pass-requires
pass-requires g c =
    let finds = rw c.in-Some.is at c.in_ok-end.ensures.finds in
    finds.1.within

pub returns-clause-told : goal.returns-clause-told
returns-clause-told g c =
    let end = c.in-Some.end in
    let minor = c.in_ok-minor.minor in
    let new = c.find_line.new.self in
    let held = c.take_header.new.bytes.items in
    let finds = rw c.in-Some.is at c.in_ok-end.ensures.finds in
    let takes = subst (λ xs. TakesHeader xs held minor) c.line.ensures c.in_ok-minor.ensures.takes in
    subst (λ xs. IfTold (g.S.Source.left c.args.source.now) (g.S.Source.left c.find_line.new.source) (IsOpened minor held xs)) (sym c.pass.ensures)
    (opens end minor new held (g.S.Source.left c.args.source.now) (g.S.Source.left c.find_line.new.source) (subst (λ xs. Finds 1 xs (g.S.Source.left c.args.source.now) new (g.S.Source.left c.find_line.new.source) (Ok (Some end))) c.requires.0 finds) takes)

pub returns-clause-header : goal.returns-clause-header
returns-clause-header g c = header_of _ _ _ c.in_ok-minor.ensures.takes

pub find_line-requires : goal.find_line-requires
find_line-requires g c = let none = ap length c.requires.0 in omega (arith, none)

pub returns-clause-few : goal.returns-clause-few
returns-clause-few g c =
    let finds = rw c.in-Some.is at c.in_ok-end.ensures.finds in
    let room = finds.3 in
    let long = ap length c.pass.ensures in
    let less = length-drop (c.in-Some.end + 1) c.find_line.new.self in
    omega (arith, room, long, less)
