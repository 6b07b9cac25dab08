use Rattle.std.proofs.Common.{rules, ◌≡◌, [], ◌∷◌, ◌++◌, map, All, IfSome, false, sym, ap, ◌∙◌, subst, append-nil}
use Rattle.std.specs.Option.{option_to_list}
use Rattle.std.proofs.lemmas.List.Elements.{All-nil, All-cons, All-pop}
use Rattle.gfx_seats.specs.declared.stage.Stage.TheVariants.{Idle}
use Rattle.gfx_seats.specs.Seat.{hand, desk_of}
use Rattle.gfx_seats.proofs.Meets.{gathers}
use Rattle.gfx_seats.proofs.SeatLists.{popped, joined-hand, joined-others}
use Rattle.gfx_seats.proofs.closing.gather.Goals as goal

pub loop-seat-init : goal.loop-seat-init
loop-seat-init g c = let rest = c.pop.new.self.items in let last = c.in-Some.last in let token = c.token_of-token.result in
    let e = c.pop.ensures.items ∙ ap (λ r. rest ++ option_to_list r) c.in-Some.is in
    let desk = All-pop (λ s. desk_of s ≡ c.args.board.now.table_id) _ _ _ c.pop.ensures.items c.requires.desk in
    let idle = All-pop (λ s. s.has_turn ≡ false) _ _ _ c.pop.ensures.items c.requires.idle in
    let here = subst (λ r. IfSome r (λ s. desk_of s ≡ c.args.board.now.table_id)) c.in-Some.is desk.1 in
    let told = c.token_of-token.ensures in let bare = told.bare.1 in (
      ap (λ t. t.table_id) told.same ∙ here,
      subst (λ l. map (λ s. hand s) rest ++ (token.me.0.hand ∷ l) ≡ map (λ s. hand s) c.args.seats.items) (sym bare)
          (popped (λ s. hand s) _ rest last token.me.0.hand [] _ e (ap (λ t. t.me.0.hand) told.same) (append-nil _)),
      subst (λ l. All (λ h. h.stage ≡ Idle) (token.me.0.hand ∷ l)) (sym bare) (All-cons (λ h. h.stage ≡ Idle) token.me.0.hand [] told.idle (All-nil (λ h. h.stage ≡ Idle))),
      desk.0,
      idle.0,
    )

pub token_of-requires : goal.token_of-requires
token_of-requires g c = let idle = All-pop (λ s. s.has_turn ≡ false) _ _ _ c.pop-in-loop-seat.ensures.items c.loop-seat.invariant.4 in subst (λ r. IfSome r (λ s. s.has_turn ≡ false)) c.in-Some-pop.is idle.1

pub join_seat-requires : goal.join_seat-requires
join_seat-requires g c = let v = g.V.Grows in let desk = All-pop (λ s. desk_of s ≡ c.args.board.now.table_id) _ _ _ c.pop-in-loop-seat.ensures.items c.loop-seat.invariant.3 in
    let here = subst (λ r. IfSome r (λ s. desk_of s ≡ c.args.board.now.table_id)) c.in-Some-pop.is desk.1 in
    (c.loop-seat.invariant.0, ap (λ t. t.table_id) c.token_of.ensures.same ∙ here, c.token_of.ensures.bare.0, search rules, gathers v.entries v.thread_of v.ids_of v.kind _ _ _ _ _ _)

pub loop-seat-preserved : goal.loop-seat-preserved
loop-seat-preserved g c = let rest = c.pop-in-loop-seat.new.self.items in let next = c.in-Some-pop.seat in let token = c.join_seat.new.seat in
    let e = c.pop-in-loop-seat.ensures.items ∙ ap (λ r. rest ++ option_to_list r) c.in-Some-pop.is in
    let desk = All-pop (λ s. desk_of s ≡ c.args.board.now.table_id) _ _ _ c.pop-in-loop-seat.ensures.items c.loop-seat.invariant.3 in
    let idle = All-pop (λ s. s.has_turn ≡ false) _ _ _ c.pop-in-loop-seat.ensures.items c.loop-seat.invariant.4 in
    let told = c.token_of.ensures in let now = c.join_seat.ensures.2 in
    let h = joined-hand token.me c.loop-seat.token.me.0 c.token_of.result.me.0 c.loop-seat.token.me.1 now in
    let os = joined-others token.me c.loop-seat.token.me.0 c.token_of.result.me.0 c.loop-seat.token.me.1 now told.bare.1 in
    let tail = c.loop-seat.token.me.0.hand ∷ c.loop-seat.token.me.0.others in (
      c.join_seat.ensures.0 ∙ c.loop-seat.invariant.0,
      subst (λ l. map (λ s. hand s) rest ++ (token.me.0.hand ∷ l) ≡ map (λ s. hand s) c.args.seats.items) (sym os)
          (popped (λ s. hand s) _ rest next token.me.0.hand tail _ e (h ∙ ap (λ t. t.me.0.hand) told.same) c.loop-seat.invariant.1),
      subst (λ l. All (λ h. h.stage ≡ Idle) (token.me.0.hand ∷ l)) (sym os)
          (All-cons (λ h. h.stage ≡ Idle) token.me.0.hand tail (ap (λ h. h.stage) h ∙ told.idle) c.loop-seat.invariant.2),
      desk.0,
      idle.0,
    )
