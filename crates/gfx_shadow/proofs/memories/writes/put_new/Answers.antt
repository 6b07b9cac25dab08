use Rattle.std.proofs.Common.{◌∙◌, ap, refl}
use Rattle.std.specs.FinMap as fin
use Rattle.gfx_shadow.specs.Overlay.{overlay}
use Rattle.gfx_shadow.proofs.Indexed.{longer_indexed, longer_fills}
use Rattle.gfx_shadow.proofs.memories.writes.put_new.Goals as goal

pub returns-clause-indexed : goal.returns-clause-indexed
returns-clause-indexed c =
    let a = c.args in let m = a.memories.now in
    longer_indexed m (record { rows = c.push.new.self; first = m.first; places = c.set.new.self }) a.memory a.offset a.bytes.now (record { memory = a.memory; stretches = c.put.new.self }) c.requires.indexed c.requires.new
    refl c.requires.may (c.in_ok-put.ensures.ok ∙ ap (overlay a.offset a.bytes.now) c.new-stretches.ensures)
    c.in_ok-push.ensures.items refl (c.set.ensures.map ∙ (λ i. fin.insert (c.reserve.ensures.map i) a.memory ((c.len-at.ensures ∙ m.rows.ok.0) i)))

pub returns-clause-ok : goal.returns-clause-ok
returns-clause-ok c =
    let a = c.args in let m = a.memories.now in
    longer_fills m (record { rows = c.push.new.self; first = m.first; places = c.set.new.self }) a.memory a.offset a.bytes.now (record { memory = a.memory; stretches = c.put.new.self }) c.requires.indexed c.requires.new
    refl c.requires.may (c.in_ok-put.ensures.ok ∙ ap (overlay a.offset a.bytes.now) c.new-stretches.ensures)
    c.in_ok-push.ensures.items refl (c.set.ensures.map ∙ (λ i. fin.insert (c.reserve.ensures.map i) a.memory ((c.len-at.ensures ∙ m.rows.ok.0) i)))
