use Rattle.std.proofs.Common.{◌≡◌, ◌∙◌, ◌+◌, ◌++◌, [], ◌∷◌, sym, subst}
use Rattle.gfx_seats.specs.Seat.{hand}
use Rattle.gfx_recorder.specs.Drawn.{Drew}
use Rattle.gfx_recorder.proofs.Draws.{drew-more}
use Rattle.gfx_recorder.proofs.drawing.draw_ids.Goals as goal

pub ids-preserved : goal.ids-preserved
ids-preserved c =
    let items : c.push.new.self.items ≡ c.ids.table.items ++ c.draw.result ∷ [] = c.in_ok-push.ensures.items in record {
      desk = c.draw.ensures.capture ∙ c.ids.invariant.desk;
      drew = subst (Drew (c.ids.counter + 1) (hand c.args.pass.now) c.args.table.now.items (hand c.draw.new.pass)) (sym items)
          (drew-more c.ids.counter (hand c.args.pass.now) (hand c.ids.pass) (hand c.draw.new.pass) c.args.table.now.items c.ids.table.items c.draw.result
          c.ids.invariant.drew c.draw.ensures.pass c.draw.ensures.new_id);
    }
