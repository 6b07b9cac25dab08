use Rattle.std.proofs.Common.{◌≡◌, ◌≤◌, ◌*◌, ◌++◌, None, length, take, arith, refl, sym, subst, take_all, length-take-le}
use Rattle.std.specs.Io.KnownBytes.{Consumes}
use Rattle.std.proofs.KnownBytes.{Consumes-trans}
use Rattle.std.proofs.lemmas.Result.{IfOk-weaker, IfErr-weaker}
use Rattle.gfx_model.specs.Blocks.{options_fault}
use Rattle.gfx_blocks.specs.declared.header.Header.{Header}
use Rattle.gfx_decode.specs.Reading.{IsHeader}
use Rattle.gfx_decode.proofs.Front.{StartsHeader, start_cut, start_stops, header_whole, options_stop}
use Rattle.gfx_decode.proofs.reading.read_parts.Goals as goal

pub returns-then-branch-lt16-clause-fault : goal.returns-then-branch-lt16-clause-fault
returns-then-branch-lt16-clause-fault g c =
    let count = c.in_ok-fill.field-0 in
    let all = c.fill.new.into in
    let long : length (take count all) ≡ count = length-take-le count all c.in_ok-fill.ensures.bound in
    rw c.bad.ensures (
      refl,
      refl,
      start_cut _ _ (take count all) c.in_ok-fill.ensures.bytes (c.in_ok-fill.ensures.ended (omega (arith, c.fill.auto.into, c.fits-start))) (omega (arith, long)),
    )

-- the whole start came, and it is in order
pub returns-in-Ok-clause-good : goal.returns-in-Ok-clause-good
returns-in-Ok-clause-good g c =
    let start = c.fill.new.into in
    let came = subst (Consumes _ _) (take_all c.in_ok-fill.field-0 start (omega (arith, c.fill.auto.into, c.fits-start))) c.in_ok-fill.ensures.bytes in
    let starts : StartsHeader c.in-Ok.header start =
    record { long = omega (arith, c.fill.auto.into, c.fits-start); good = c.in-Ok.ensures.good.0; minor = c.in-Ok.ensures.good.1; options = c.in-Ok.ensures.good.2 } in
    let room = c.read_options.new.room in
    let few : c.in-Ok.header.options ≤ 16 = c.in-Ok.ensures.bounds.2 in
    let options = take (8 * c.in-Ok.header.options) room in
    let long : length options ≡ 8 * c.in-Ok.header.options = length-take-le (8 * c.in-Ok.header.options) room (omega (arith, c.read_options.auto.room, c.fits-options, few)) in
    let whole = λ (none : options_fault options 0 0 c.in-Ok.header.options ≡ None). header_whole c.in-Ok.header start options starts long none in
    IfOk-weaker c.read_options.result _ _ (λ read is.
    subst (λ (h : Header). IsHeader h (start ++ take (8 * h.options) room)
    × Consumes (g.S.Source.left c.args.source.now) (g.S.Source.left c.read_options.new.source) (start ++ take (8 * h.options) room)) (sym is.0)
    (whole is.1, Consumes-trans _ _ _ start options came is.2))
    c.read_options.ensures.good

pub returns-in-Ok-clause-fault : goal.returns-in-Ok-clause-fault
returns-in-Ok-clause-fault g c =
    let start = c.fill.new.into in
    let came = subst (Consumes _ _) (take_all c.in_ok-fill.field-0 start (omega (arith, c.fill.auto.into, c.fits-start))) c.in_ok-fill.ensures.bytes in
    let starts : StartsHeader c.in-Ok.header start =
    record { long = omega (arith, c.fill.auto.into, c.fits-start); good = c.in-Ok.ensures.good.0; minor = c.in-Ok.ensures.good.1; options = c.in-Ok.ensures.good.2 } in
    IfErr-weaker c.read_options.result _ _ (λ why stops. options_stop c.in-Ok.header start _ _ _ why starts came stops) c.read_options.ensures.fault

pub returns-in-Ok-clause-reads : goal.returns-in-Ok-clause-reads
returns-in-Ok-clause-reads g c =
    let start = c.fill.new.into in
    let came = subst (Consumes _ _) (take_all c.in_ok-fill.field-0 start (omega (arith, c.fill.auto.into, c.fits-start))) c.in_ok-fill.ensures.bytes in
    let (part, more) = c.read_options.ensures.reads in
    (start ++ part, Consumes-trans _ _ _ start part came more)

pub returns-in-Err-clause-fault : goal.returns-in-Err-clause-fault
returns-in-Err-clause-fault g c =
    let all = c.fill.new.into in
    rw c.bad-in-Err.ensures (
      refl,
      refl,
      start_stops _ _ all c.in-Err.fault
          (subst (Consumes _ _) (take_all c.in_ok-fill.field-0 all (omega (arith, c.fill.auto.into, c.fits-start))) c.in_ok-fill.ensures.bytes)
          (omega (arith, c.fill.auto.into, c.fits-start)) c.in-Err.ensures.fault,
    )
