use Rattle.std.proofs.Common.{rules, ◌≡◌, ◌++◌, [], ◌∷◌, List, ℕ, length, length-append, arith, sym, ap, ◌∙◌, subst}
use Rattle.gfx_seats.specs.Entries.{AreAmong}
use Rattle.gfx_seats.specs.Seat.{hand}
use Rattle.gfx_seats_tests.specs.declared.journal.Event.{Event}
use Rattle.gfx_seats_tests.specs.declared.journal.Event.TheVariants.{Make}
use Rattle.gfx_seats_tests.specs.Journal.{named_ids}
use Rattle.gfx_seats_tests.proofs.Journals.{made_more}
use Rattle.gfx_seats_tests.proofs.workers.draw_batch.Goals as goal

pub loop-preserved : goal.loop-preserved
loop-preserved c = let i = c.loop.invariant in let seat = c.draw-id.ensures.seat in let id = c.draw-id.result in let drawn = (hand c.loop.seat).drawn in
    let items : c.push.new.self.items ≡ c.loop.events.items ++ Make id ∷ [] = search rules in
    let l = ap (λ h. length h.drawn) seat in let a = length-append drawn (id ∷ []) in let few = i.drew.few in record {
      desk = c.draw-id.ensures.desk ∙ i.desk;
      drew = record { stage = ap (λ h. h.stage) seat ∙ i.drew.stage; kind = ap (λ h. h.kind) seat ∙ i.drew.kind; few = omega arith };
      named = subst (λ (z : List Event × List ℕ). AreAmong (named_ids z.0) z.1) (λ j. (sym items j, sym (ap (λ h. h.drawn) seat) j)) (made_more c.loop.events.items id drawn i.named);
    }
