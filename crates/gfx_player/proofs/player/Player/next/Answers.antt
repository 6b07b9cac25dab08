use Rattle.std.proofs.Common.{refl}
use Rattle.std.proofs.lemmas.Result.{err_from_is_err_and}
use Rattle.gfx_player.proofs.Walking.{decoder_kind, next_few, next_fewer, next_none, next_some, not_fresh, ok_same, read_stops}
use Rattle.gfx_player.proofs.player.Player.next.Goals as goal

pub next-requires : goal.next-requires
next-requires g c = not_fresh c.args.self.now.decoder c.requires.going

pub returns-in_err-next-clause-err : goal.returns-in_err-next-clause-err
returns-in_err-next-clause-err g c =
    let p = err_from_is_err_and c.from_residual.result c.from_residual.ensures.1 in
    rw (p.1, p.2) (λ fed file valid r. read_stops c.args.self.now fed c.in_err-next.field-0.0 file _ _ valid r c.in_err-next.ensures.gives c.in_err-next.ensures.fault)

pub returns-in_err-next-clause-kind : goal.returns-in_err-next-clause-kind
returns-in_err-next-clause-kind g c =
    let p = err_from_is_err_and c.from_residual.result c.from_residual.ensures.1 in
    rw (p.1, p.2) (decoder_kind c.in_err-next.field-0.0)

pub returns-clause-some : goal.returns-clause-some
returns-clause-some g c = next_some c.args.self.now _ c.in_ok-next.field-0 _ _ c.in_ok-next.ensures.block c.in_ok-next.ensures.after refl c.in_ok-next.ensures.gives c.in_ok-next.ensures.bytes

pub returns-clause-few : goal.returns-clause-few
returns-clause-few g c = next_few c.args.self.now c.in_ok-next.field-0 _ c.in_ok-next.ensures.block c.in_ok-next.ensures.few

pub returns-clause-fewer : goal.returns-clause-fewer
returns-clause-fewer g c = next_fewer c.args.self.now.decoder _ c.in_ok-next.field-0 c.requires.going c.in_ok-next.ensures.block c.in_ok-next.ensures.few c.in_ok-next.ensures.after

pub returns-clause-none : goal.returns-clause-none
returns-clause-none g c is fed file valid r =
    let none = ok_same c.in_ok-next.field-0 is in
    next_none c.args.self.now c.in_ok-next.field-0 _ _ none c.in_ok-next.ensures.gives (c.in_ok-next.ensures.end none).1 fed file valid r
