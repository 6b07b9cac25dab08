use Rattle.std.proofs.Common.{map, sym, ap, ◌∙◌}
use Rattle.gfx_script.specs.State.{reading_of}
use Rattle.gfx_script.specs.Resolved.{number_for, seen_by}
use Rattle.gfx_script.proofs.Added.{nothing_stated}
use Rattle.gfx_script.proofs.reading.Reading.add_statement.Goals as goal

pub returns-in-Err-Bad : goal.returns-in-Err-Bad
returns-in-Err-Bad c =
    let at = c.place-at.result in
    let r = c.args.self.now in
    nothing_stated (number_for at.phase at.thread r.names) c.args.number (reading_of r) (map (λ t. t.now) c.args.tokens.now)
    (ap (λ m. seen_by at.phase at.thread r.names m (map (λ t. t.now) c.args.tokens.now)) (sym c.place-at.ensures.place.minor) ∙ (rw c.in-Err-Bad.field-0-is at c.in-Err-Bad.ensures))
