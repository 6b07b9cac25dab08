use Rattle.std.proofs.Common.{refl}
use Rattle.std.proofs.lemmas.Result.{err_from_is_err_and}
use Rattle.gfx_decode.specs.Decoding.{start_of}
use Rattle.gfx_decode.proofs.Front.{header_bounds}
use Rattle.gfx_player.proofs.Walking.{decoder_kind, header_stops_walk, none_shown, plays_none, read_none, replayed_none}
use Rattle.gfx_player.proofs.player.Player.open.Goals as goal

pub returns-in_err-header-clause-err : goal.returns-in_err-header-clause-err
returns-in_err-header-clause-err g c =
    let p = err_from_is_err_and c.from_residual.result c.from_residual.ensures.1 in
    rw (p.1, p.2) (header_stops_walk c.in_err-header.field-0.0 _ _ c.in_err-header.ensures.gives c.in_err-header.ensures.fault)

pub returns-in_err-header-clause-stopped : goal.returns-in_err-header-clause-stopped
returns-in_err-header-clause-stopped g c =
    let p = err_from_is_err_and c.from_residual.result c.from_residual.ensures.1 in
    rw (p.1, p.2) (none_shown _ _ _ (header_stops_walk c.in_err-header.field-0.0 _ _ c.in_err-header.ensures.gives c.in_err-header.ensures.fault))

pub returns-in_err-header-clause-kind : goal.returns-in_err-header-clause-kind
returns-in_err-header-clause-kind g c =
    let p = err_from_is_err_and c.from_residual.result c.from_residual.ensures.1 in
    rw (p.1, p.2) (decoder_kind c.in_err-header.field-0.0)

pub returns-clause-replayed : goal.returns-clause-replayed
returns-clause-replayed g c = replayed_none _ c.new.ensures refl

pub returns-clause-read : goal.returns-clause-read
returns-clause-read g c =
    let (bytes, is, reads) = c.in_ok-header.ensures.bytes in
    read_none _ c.in_ok-header.header bytes _ _ c.in_ok-header.ensures.after refl is reads c.in_ok-header.ensures.gives

pub returns-clause-plays : goal.returns-clause-plays
returns-clause-plays g c =
    let (bytes, is, reads) = c.in_ok-header.ensures.bytes in
    plays_none _ _ _ (replayed_none _ c.new.ensures refl) (read_none _ c.in_ok-header.header bytes _ _ c.in_ok-header.ensures.after refl is reads c.in_ok-header.ensures.gives)

pub returns-clause-place : goal.returns-clause-place
returns-clause-place g c =
    let (bytes, is, reads) = c.in_ok-header.ensures.bytes in
    let (low, high, few) = header_bounds c.in_ok-header.header bytes is in
    record { at = start_of c.in_ok-header.header; place = c.in_ok-header.ensures.after; low = low; high = high }
