use Rattle.std.proofs.Common.{ap, All, ◌≡◌, ◌↔◌, map, IfSome, IsNone, IsTrue, sym, ◌∙◌, subst}
use Rattle.std.proofs.lemmas.List.{length-map}
use mathlib.Core.Option.{some-injective}
use Rattle.std.specs.List.{list_any}
use Rattle.gfx_seats.specs.declared.stage.Stage.TheVariants.{Idle}
use Rattle.gfx_seats.specs.Seat.{hand}
use Rattle.gfx_seats.specs.Desk.{Closes}
use Rattle.gfx_seats.proofs.Closes.{closes}
use Rattle.gfx_seats.proofs.desk.Desk.close.Goals as goal

pub returns-clause-closed : goal.returns-clause-closed
returns-clause-closed g c = let v = g.V.Grows in let told = c.gather-token.ensures in let hands = map (λ s. hand s) c.args.seats.items in
    let r = closes v.entries v.thread_of v.ids_of v.kind _ _ _ _ hands _ _ told.hands (length-map c.args.seats.items (λ s. hand s) ∙ c.requires.all) (subst (λ l. All (λ h. h.stage ≡ Idle) l) told.hands told.idle) c.close_with-closed.ensures.values.2 in
    subst (λ z. IfSome z (λ x. Closes v.entries v.thread_of v.kind hands x)) (some-injective _ _ (sym r.1 ∙ c.take-value.ensures.value)) r.2

pub returns-clause-none : goal.returns-clause-none
returns-clause-none g c = let v = g.V.Grows in let told = c.gather-token.ensures in let hands = map (λ s. hand s) c.args.seats.items in
    let r = closes v.entries v.thread_of v.ids_of v.kind _ _ _ _ hands _ _ told.hands (length-map c.args.seats.items (λ s. hand s) ∙ c.requires.all) (subst (λ l. All (λ h. h.stage ≡ Idle) l) told.hands told.idle) c.close_with-closed.ensures.values.2 in
    subst (λ z. IsNone z ↔ IsTrue (list_any (λ s. s.has_turn) c.args.seats.items)) (some-injective _ _ (sym r.1 ∙ c.take-value.ensures.value)) (λ e. absurd cc, λ any. sym any ∙ (ap (λ l. list_any (λ s. s.has_turn) l) (sym c.deref.ensures.value) ∙ (sym c.any_turn.ensures ∙ c.if-any_turn.false)))
