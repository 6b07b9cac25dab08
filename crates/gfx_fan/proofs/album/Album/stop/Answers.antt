use Rattle.std.proofs.Common.{inl, inr, refl}
use Rattle.gfx_fan.proofs.album.Album.stop.Goals as goal

pub returns-in-Ok-clause-told : goal.returns-in-Ok-clause-told
returns-in-Ok-clause-told g c = inl (refl, c.in-Ok.ensures.ok)

pub returns-in-Err-clause-told : goal.returns-in-Err-clause-told
returns-in-Err-clause-told g c = inr (c.in-Err.ensures.err, c.in-Err.ensures.front)
