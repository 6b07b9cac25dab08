use Rattle.std.proofs.Common.{◌≡◌, ◌∙◌, drop, length, ap, arith}
use Rattle.std.proofs.lemmas.Result.{on_ok_weaker}
use Rattle.gfx_fan.proofs.Keeping.{turned}
use Rattle.gfx_fan.proofs.album.Album.turn.Goals as goal

pub returns-clause-small : goal.returns-clause-small
returns-clause-small g c =
    let count : c.len-count.result ≡ length c.args.self.now.begun.items = omega (arith, c.len-count.ensures) in
    on_ok_weaker c.write_begun.result
    (λ dropped. turned c.args.self.now c.begin.new.self c.write_begun.new.self c.requires c.in_ok-begin.ensures.images c.in_ok-begin.ensures.shown c.in_ok-begin.ensures.size
    (ap (λ shown. shown.items) c.write_begun.ensures.shown) c.write_begun.ensures.size (dropped ∙ ap (λ n. drop n c.begin.new.self.begun.items) count))
    c.write_begun.ensures.begun
