use Rattle.std.proofs.Common.{rules, refl}
use Rattle.std.specs.Vec.{with_item}
use Rattle.gfx_shadow.proofs.Indexed.{kept_indexed, kept_fills, written_indexed, written_fills}
use Rattle.gfx_shadow.proofs.memories.writes.put_there.Goals as goal

pub returns-in_err-put-clause-indexed : goal.returns-in_err-put-clause-indexed
returns-in_err-put-clause-indexed c =
    let a = c.args in let m = a.memories.now in
    kept_indexed m (record { rows = with_item m.rows a.at (record { memory = c.index_mut-row.result.now.memory; stretches = c.put.new.self }); first = m.first; places = m.places }) a.at a.memory a.offset a.bytes.now c.index_mut-row.result.now (record { memory = c.index_mut-row.result.now.memory; stretches = c.put.new.self })
    c.requires.indexed c.requires.place c.index_mut-row.ensures.value refl refl refl refl c.in_err-put.ensures.err

pub returns-in_err-put-clause-err : goal.returns-in_err-put-clause-err
returns-in_err-put-clause-err c =
    let a = c.args in let m = a.memories.now in
    let e = kept_fills m (record { rows = with_item m.rows a.at (record { memory = c.index_mut-row.result.now.memory; stretches = c.put.new.self }); first = m.first; places = m.places }) a.at a.memory a.offset a.bytes.now c.index_mut-row.result.now (record { memory = c.index_mut-row.result.now.memory; stretches = c.put.new.self })
    c.requires.indexed c.requires.place c.index_mut-row.ensures.value refl refl refl refl c.in_err-put.ensures.err in
    search (rules, e)

pub returns-clause-indexed : goal.returns-clause-indexed
returns-clause-indexed c =
    let a = c.args in let m = a.memories.now in
    written_indexed m (record { rows = with_item m.rows a.at (record { memory = c.index_mut-row.result.now.memory; stretches = c.put.new.self }); first = m.first; places = m.places }) a.at a.memory a.offset a.bytes.now c.index_mut-row.result.now (record { memory = c.index_mut-row.result.now.memory; stretches = c.put.new.self })
    c.requires.indexed c.requires.place c.index_mut-row.ensures.value refl refl refl refl c.requires.may c.in_ok-put.ensures.ok

pub returns-clause-ok : goal.returns-clause-ok
returns-clause-ok c =
    let a = c.args in let m = a.memories.now in
    written_fills m (record { rows = with_item m.rows a.at (record { memory = c.index_mut-row.result.now.memory; stretches = c.put.new.self }); first = m.first; places = m.places }) a.at a.memory a.offset a.bytes.now c.index_mut-row.result.now (record { memory = c.index_mut-row.result.now.memory; stretches = c.put.new.self })
    c.requires.indexed c.requires.place c.index_mut-row.ensures.value refl refl refl refl c.requires.may c.in_ok-put.ensures.ok
