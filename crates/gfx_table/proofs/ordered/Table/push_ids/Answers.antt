use Rattle.std.proofs.Common.{◌≡◌, ◌<◌, ◌^◌, ◌++◌, ◌∷◌, [], is_some, if◌then◌else◌, ap, sym, ◌∙◌, append_assoc, arith}
use Rattle.std.proofs.lemmas.List.{append-nil, length-append}
use Rattle.gfx_table.specs.Rows.{ids, ids_above, zero_first, above-step, above-end, least_above-higher}
use Rattle.gfx_table.proofs.Grouping.{some_copied}
use Rattle.gfx_table.proofs.ordered.Table.push_ids.Goals as goal
use Rattle.gfx_table.proofs.ordered.Table.push_ids.Goals.{then-is_some+in_ok-push, else-is_some}

pub rows-init : goal.rows-init
rows-init g c =
    let m = c.args.self.now.map in
    let has = c.is_some.ensures ∙ some_copied c.get.result ∙ ap is_some c.get.ensures in
    elim c.if-is_some.branch [
      | then-is_some+in_ok-push w ↦
          let first : ids m ≡ 0 ∷ ids_above 0 m = zero_first m ∙ ap (λ t. (if t then 0 ∷ [] else []) ++ ids_above 0 m) (sym has ∙ w.if-is_some.true) in
          let longer = length-append c.args.ids.now.items (0 ∷ []) in
          rw (w.ids-is, w.in_ok-push.ensures.items)
          (ap (λ l. c.args.ids.now.items ++ l) first ∙ sym (append_assoc c.args.ids.now.items (0 ∷ []) (ids_above 0 m)), omega (arith, longer))
      | else-is_some w ↦
          let first : ids m ≡ ids_above 0 m = zero_first m ∙ ap (λ t. (if t then 0 ∷ [] else []) ++ ids_above 0 m) (sym has ∙ w.if-is_some.false) in
          rw w.ids-is (ap (λ l. c.args.ids.now.items ++ l) first, omega arith)
    ]

pub rows-smaller : goal.rows-smaller
rows-smaller g c =
    let above = least_above-higher c.args.self.now.map c.rows.after c.in-Some.id (sym c.in-Some.ensures) in
    let fits : c.in-Some.id < 2 ^ 64 = omega arith in
    omega (arith, above, fits)

pub rows-preserved : goal.rows-preserved
rows-preserved g c =
    let m = c.args.self.now.map in
    let next = above-step m c.rows.after c.in-Some.id (sym c.in-Some.ensures) in
    let longer = length-append c.rows.ids.items (c.in-Some.id ∷ []) in
    let before = c.rows.invariant.1 in
    rw c.in_ok-push-2.ensures.items
    (c.rows.invariant.0 ∙ ap (λ l. c.rows.ids.items ++ l) next ∙ sym (append_assoc c.rows.ids.items (c.in-Some.id ∷ []) (ids_above c.in-Some.id m)), omega (arith, longer, before))

pub returns-clause-ok : goal.returns-clause-ok
returns-clause-ok g c =
    sym (c.rows.invariant.0 ∙ ap (λ l. c.rows.ids.items ++ l) (above-end c.args.self.now.map c.rows.after (sym c.in_default.ensures)) ∙ append-nil c.rows.ids.items)

pub returns-clause-kept : goal.returns-clause-kept
returns-clause-kept g c = c.rows.invariant.1
