use Rattle.std.proofs.Common.{◌∙◌, ap, arith}
use Rattle.gfx_shadow.specs.Overlay.{overlay, either}
use Rattle.gfx_shadow.specs.Stretch.{stretch_byte}
use Rattle.gfx_shadow.specs.ByEnd.{byte_of, IsHull}
use Rattle.gfx_shadow.proofs.StretchBytes.{over_either}
use Rattle.gfx_shadow.proofs.ByEnd.{among_hull}
use Rattle.gfx_shadow.proofs.stretches.Stretches.put.Goals as goal

pub join_all-requires-clause-fits : goal.join_all-requires-clause-fits
join_all-requires-clause-fits c =
    let from = c.joined_start-from.result in let to = c.joined_end-to.result in let taken = c.take-stretch.ensures in
    let before = c.joined_start-from.ensures.low in let behind = c.joined_end-to.ensures.high in
    let hull : IsHull c.reserve.new.self.map from to = record { low = c.joined_start-from.ensures.hull; high = c.joined_end-to.ensures.hull } in
    let within = taken.hull from to hull before behind in
    let low = within.0 in let high = within.1 in
    let start = c.reach.ensures.start in let end = c.reach.ensures.end in
    let new_start = c.write.ensures.start in let new_end = c.write.ensures.end in
    record {
      from = from;
      to = to;
      hull = among_hull c.reserve.new.self.map c.take-stretch.new.by_end.map from to taken.fewer hull;
      room = c.write.ensures.room from to c.in_default.ensures.ok;
      low = omega (arith, low, start, new_start, before);
      high = omega (arith, high, end, new_end, behind);
    }

pub returns-clause-ok : goal.returns-clause-ok
returns-clause-ok c =
    let o = c.args.offset in let p = c.args.piece.now in let rest = byte_of c.take-stretch.new.by_end.map in
    c.put_back-2.ensures.bytes
    ∙ c.join_all.ensures.bytes
    ∙ ap (λ f. either f rest) c.write.ensures.bytes
    ∙ over_either o p (stretch_byte c.reach.new.self) rest
    ∙ ap (λ f. overlay o p (either f rest)) c.reach.ensures.same
    ∙ ap (overlay o p) (c.take-stretch.ensures.bytes ∙ ap byte_of c.reserve.ensures.map)
