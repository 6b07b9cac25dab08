use Rattle.std.proofs.Common.{◌∙◌, ◌<◌, subst, refl}
use Rattle.std.specs.Vec.{with_item}
use Rattle.gfx_shadow.proofs.Indexed.{is_first, last_fills, shorter_indexed, shorter_fills}
use Rattle.gfx_shadow.proofs.memories.Memories.drop_first.Goals as goal

pub leave-requires : goal.leave-requires
leave-requires c =
    let m = c.args.self.now in let r = c.index_mut-row.result.now in
    record {
      first = is_first m (record { rows = with_item m.rows m.first (record { memory = r.memory; stretches = c.drop_first.new.self }); first = m.first; places = m.places }) r
          (record { memory = r.memory; stretches = c.drop_first.new.self }) c.requires.indexed (subst (λ n. m.first < n) (c.len.ensures ∙ m.rows.ok.0) c.if-self-len.false)
          c.index_mut-row.ensures.value refl refl refl refl c.drop_first.ensures;
    }

pub returns-then-is_bare-clause-fills : goal.returns-then-is_bare-clause-fills
returns-then-is_bare-clause-fills c =
    let m = c.args.self.now in let r = c.index_mut-row.result.now in
    last_fills m (record { rows = with_item m.rows m.first (record { memory = r.memory; stretches = c.drop_first.new.self }); first = m.first; places = m.places }) r
    (record { memory = r.memory; stretches = c.drop_first.new.self }) c.requires.indexed (subst (λ n. m.first < n) (c.len.ensures ∙ m.rows.ok.0) c.if-self-len.false)
    c.index_mut-row.ensures.value refl refl refl refl c.drop_first.ensures c.leave.new.memories c.leave.ensures.rows (c.is_bare.ensures.yes c.if-is_bare.true)

pub returns-else-is_bare-clause-indexed : goal.returns-else-is_bare-clause-indexed
returns-else-is_bare-clause-indexed c =
    let m = c.args.self.now in let r = c.index_mut-row.result.now in
    shorter_indexed m (record { rows = with_item m.rows m.first (record { memory = r.memory; stretches = c.drop_first.new.self }); first = m.first; places = m.places }) r
    (record { memory = r.memory; stretches = c.drop_first.new.self }) c.requires.indexed (subst (λ n. m.first < n) (c.len.ensures ∙ m.rows.ok.0) c.if-self-len.false)
    c.index_mut-row.ensures.value refl refl refl refl c.drop_first.ensures (c.is_bare.ensures.no c.if-is_bare.false)

pub returns-else-is_bare-clause-fills : goal.returns-else-is_bare-clause-fills
returns-else-is_bare-clause-fills c =
    let m = c.args.self.now in let r = c.index_mut-row.result.now in
    shorter_fills m (record { rows = with_item m.rows m.first (record { memory = r.memory; stretches = c.drop_first.new.self }); first = m.first; places = m.places }) r
    (record { memory = r.memory; stretches = c.drop_first.new.self }) c.requires.indexed (subst (λ n. m.first < n) (c.len.ensures ∙ m.rows.ok.0) c.if-self-len.false)
    c.index_mut-row.ensures.value refl refl refl refl c.drop_first.ensures
