use Rattle.std.proofs.Common.{sym, ap, ◌∙◌, Ok}
use Rattle.gfx_decode.specs.Position.{position_of}
use Rattle.gfx_decode.specs.Stage.{stage_of}
use Rattle.gfx_decode.proofs.Steps.{framing_stops, framing_there, side_stops}
use Rattle.gfx_decode.proofs.Finding.{gives_end, gives_fault}
use Rattle.gfx_decode.proofs.decoder.Decoder.next_framed.Goals as goal

pub returns-in-Ok-None-clause-none : goal.returns-in-Ok-None-clause-none
returns-in-Ok-None-clause-none g c is =
    let none = c.in-Ok-None.ensures.none (ap Ok c.in-Ok-None.field-0-is) in
    gives_end c.args.self.now c.in-At.minor (position_of c.in-At.at) _ _ (sym c.self.view_is ∙ ap stage_of c.in-At.is) none.1 none.0

pub returns-in-Err-clause-err : goal.returns-in-Err-clause-err
returns-in-Err-clause-err g c =
    let at = position_of c.in-At.at in
    let (part, came, _) = c.in-Err.ensures.reads in
    gives_fault c.args.self.now c.in-At.minor at _ _ c.in-Err.why (sym c.self.view_is ∙ ap stage_of c.in-At.is)
    (part, came) (framing_stops c.in-At.minor at _ _ c.in-Err.why c.in-Err.ensures.fault)

pub returns-in-Err-clause-framing : goal.returns-in-Err-clause-framing
returns-in-Err-clause-framing g c n there is =
    framing_there c.args.self.now c.in-At.minor n (position_of c.in-At.at) there _ _ c.in-Err.why (sym c.self.view_is ∙ ap stage_of c.in-At.is) is
    c.in-Err.ensures.fault

pub returns-in-Err-place_behind-clause-err : goal.returns-in-Err-place_behind-clause-err
returns-in-Err-place_behind-clause-err g c =
    let at = position_of c.in-At.at in
    let why = c.in-Err-place_behind.why in
    let found = rw c.in-Ok-Some.field-0-is at c.in-Ok-Some.ensures.some in
    let bytes = c.in-Ok-Some.block.1.now in
    gives_fault c.args.self.now c.in-At.minor at _ _ why (sym c.self.view_is ∙ ap stage_of c.in-At.is) (bytes, found.1)
    (framing_stops c.in-At.minor at _ _ why (side_stops at _ _ _ _ bytes why found.0 found.1 c.in-Err-place_behind.ensures.full c.in-Err-place_behind.ensures.fault))

pub returns-in-Err-place_behind-clause-framing : goal.returns-in-Err-place_behind-clause-framing
returns-in-Err-place_behind-clause-framing g c n there is =
    let at = position_of c.in-At.at in
    let why = c.in-Err-place_behind.why in
    let found = rw c.in-Ok-Some.field-0-is at c.in-Ok-Some.ensures.some in
    let bytes = c.in-Ok-Some.block.1.now in
    framing_there c.args.self.now c.in-At.minor n at there _ _ why (sym c.self.view_is ∙ ap stage_of c.in-At.is) is
    (side_stops at _ _ _ _ bytes why found.0 found.1 c.in-Err-place_behind.ensures.full c.in-Err-place_behind.ensures.fault)
