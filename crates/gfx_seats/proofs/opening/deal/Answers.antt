use Rattle.std.proofs.Common.{length, rules, ◌≡◌, ℕ, ◌+◌, ◌-◌, ◌<◌, [], ◌∷◌, ◌++◌, All, sym, ap, ◌∙◌, subst, arith}
use Rattle.std.proofs.lemmas.List.{length-map}
use Rattle.std.proofs.lemmas.List.Elements.{All-push}
use Rattle.gfx_seats.specs.Hand.{fresh, fresh_from}
use Rattle.gfx_seats.specs.Seat.{hand, desk_of}
use Rattle.gfx_seats.proofs.Meets.{deals}
use Rattle.gfx_seats.proofs.Opens.{length-fresh_from}
use Rattle.gfx_seats.proofs.SeatLists.{pushed, dealer, deal-others, deal-parts, deal-stays, dealt-more}
use Rattle.gfx_seats.proofs.opening.deal.Goals as goal

pub split_seat-own-requires : goal.split_seat-own-requires
split_seat-own-requires g c = let v = g.V.Grows in let i = c.loop-thread.invariant in let t = c.loop-thread.thread in let n = c.args.seats - 1 in let pos : 0 < n - t = omega arith in
    (search rules, search rules, deals v.entries v.thread_of v.ids_of v.kind _ _ _ _ _ _ (deal-others c.loop-thread.token.me _ n t (n - t) i.1 pos))

pub seat_of-requires : goal.seat_of-requires
seat_of-requires g c = let i = c.loop-thread.invariant in let t = c.loop-thread.thread in let n = c.args.seats - 1 in let kind = g.V.Grows.kind c.args.board.now.key.value.value in let pos : 0 < n - t = omega arith in
    (kind, c.split_seat-own.ensures.4 ∙ ap (λ v. (v, [])) (deal-parts c.loop-thread.token.me kind n t (n - t) i.1 pos))

pub loop-thread-preserved : goal.loop-thread-preserved
loop-thread-preserved g c = let i = c.loop-thread.invariant in let t = c.loop-thread.thread in let n = c.args.seats - 1 in let kind = g.V.Grows.kind c.args.board.now.key.value.value in
    let pos : 0 < n - t = omega arith in let less : n - t - 1 ≡ n - (t + 1) = omega arith in
    let items : c.push.new.self.items ≡ c.loop-thread.all.items ++ c.seat_of.result ∷ [] = search rules in
    let own = ap (λ m. m.0.hand) c.split_seat-own.ensures.4 ∙ ap (λ v. v.hand) (deal-parts c.loop-thread.token.me kind n t (n - t) i.1 pos) in
    let desk : desk_of c.seat_of.result ≡ c.args.board.now.table_id = search rules in (
      c.split_seat-own.ensures.0 ∙ i.0,
      deal-stays c.loop-thread.token.me c.split_seat-own.new.seat.me kind n t (n - t) i.1 pos c.split_seat-own.ensures.2 ∙ ap (λ (k : ℕ). dealer kind n (t + 1) k) less,
      pushed (λ s. hand s) _ _ _ _ (fresh kind t) items i.2 (ap (λ z. z.me.0.hand) c.seat_of.ensures ∙ own) ∙ dealt-more kind t,
      subst (All (λ s. desk_of s ≡ c.args.board.now.table_id)) (sym items) (All-push (λ s. desk_of s ≡ c.args.board.now.table_id) _ _ i.3 desk),
    )

pub returns-clause-seats : goal.returns-clause-seats
returns-clause-seats g c = let i = c.loop-thread.invariant in let t = c.loop-thread.thread in let n = c.args.seats - 1 in let kind = g.V.Grows.kind c.args.board.now.key.value.value in
    let items : c.push-2.new.self.items ≡ c.loop-thread.all.items ++ c.seat_of-2.result ∷ [] = search rules in
    let whole : t ≡ n = omega arith in let all : n + 1 ≡ c.args.seats = omega arith in
    pushed (λ s. hand s) _ _ _ _ (fresh kind n) items (i.2 ∙ ap (fresh_from kind 0) whole) (ap (λ z. z.me.0.hand) c.seat_of-2.ensures ∙ ap (λ m. m.0.hand) i.1) ∙ (dealt-more kind n ∙ ap (fresh_from kind 0) all)

pub returns-clause-count : goal.returns-clause-count
returns-clause-count g c = sym (length-map _ (λ s. hand s)) ∙ (ap length (returns-clause-seats g c) ∙ length-fresh_from _ _ 0 _)
