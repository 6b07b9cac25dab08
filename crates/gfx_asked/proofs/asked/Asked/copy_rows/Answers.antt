use Rattle.std.proofs.Common.{◌≡◌, ◌-◌, ◌∙◌, ap, sym, map, [], arith}
use Rattle.std.specs.List.{range_with_len}
use Rattle.gfx_model.specs.Effects.{rows_copied}
use Rattle.gfx_asked.specs.Asked.{questions}
use Rattle.gfx_asked.proofs.Stand.{before_changes, below-onto}
use Rattle.gfx_asked.proofs.Rows.{row_of, row_before}
use Rattle.gfx_asked.proofs.asked.Asked.copy_rows.Goals as goal

pub rows-preserved : goal.rows-preserved
rows-preserved c =
    let copy = c.args.copy.now in
    record {
      within = omega arith;
      same = row_before copy c.rows.row (c.rows.row - 1) (copy.rows - c.rows.row) (copy.rows - (c.rows.row - 1)) (questions c.args.self.now) (questions c.rows.self) (questions c.copy_row.new.self)
          (omega arith) (omega arith) c.rows.invariant.same c.in_ok-copy_row.ensures;
    }

pub returns : goal.returns
returns c = λ at j.
    let copy = c.args.copy.now in
    let first : c.rows.row ≡ 0 = omega arith in
    c.rows.invariant.same at j
    ∙ ap (λ r. before_changes (map (row_of copy) (range_with_len r (copy.rows - r))) (questions c.args.self.now) at j) first
    ∙ ap (λ n. before_changes (map (row_of copy) (range_with_len 0 n)) (questions c.args.self.now) at j) (let e : copy.rows - 0 ≡ copy.rows = omega arith in e)
    ∙ sym (ap (λ q. q at j) (below-onto (rows_copied copy.to copy.to_offset copy.to_step copy.from copy.from_offset copy.from_step copy.length copy.rows) [] (questions c.args.self.now)))
