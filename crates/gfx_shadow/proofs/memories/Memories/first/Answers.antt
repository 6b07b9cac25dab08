use Rattle.std.proofs.Common.{◌∙◌, ◌<◌, subst}
use Rattle.gfx_shadow.proofs.Indexed.{first_is_held, first_has_bytes}
use Rattle.gfx_shadow.proofs.memories.Memories.first.Goals as goal

pub returns-in-Some : goal.returns-in-Some
returns-in-Some c =
    let m = c.args.self.now in
    first_is_held m c.index-row.result.now c.requires (subst (λ n. m.first < n) (c.len.ensures ∙ m.rows.ok.0) c.if-self-len.false) c.index-row.ensures
    c.in-Some.run'.offset c.in-Some.run'.bytes.now c.in-Some.ensures

pub returns-in-None : goal.returns-in-None
returns-in-None c =
    let m = c.args.self.now in
    absurd (first_has_bytes m c.index-row.result.now c.requires (subst (λ n. m.first < n) (c.len.ensures ∙ m.rows.ok.0) c.if-self-len.false) c.index-row.ensures c.in-None.ensures)
