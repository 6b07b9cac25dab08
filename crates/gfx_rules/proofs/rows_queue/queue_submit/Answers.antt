use Rattle.std.proofs.Common.{◌≡◌, ◌∷◌, ◌++◌, ◌==◌, ◌∙◌, None, Some, [], ap, subst, if◌then◌else◌, flat_map, refl}
use Rattle.gfx_types.specs.declared.names.Fault.TheVariants.{CommandState}
use Rattle.gfx_types.specs.declared.names.Kind.TheVariants as kind
use Rattle.gfx_model.specs.Table as table
use Rattle.gfx_model.specs.Checks as words
use Rattle.gfx_rules.proofs.Few.{front_of, are_few}
use Rattle.gfx_rules.proofs.Joined.{stops, goes_on, joins, three_more}
use Rattle.gfx_rules.proofs.rows_queue.queue_submit.Goals as goal

pub order_fault-requires : goal.order_fault-requires
order_fault-requires g c =
    let v = g.A.Answers.view c.args.answers.now in
    are_few v c.args.queue c.args.submits.now (subst (λ xs. None ≡ words.first_broken v (front_of c.args.queue xs)) c.items-items.ensures c.in-None.ensures)

pub returns-in-Some : goal.returns-in-Some
unfolding table.row_of
returns-in-Some g c =
    let v = g.A.Answers.view c.args.answers.now in
    let front = front_of c.args.queue c.args.submits.now in
    let fence = if c.args.fence == 0 then [] else words.Check.live kind.Fence c.args.fence ∷ words.Check.near c.args.fence c.args.queue ∷ [] in
    stops v front _ _ _ (subst (λ xs. Some c.in-Some.fault ≡ words.first_broken v (front_of c.args.queue xs)) c.items-items.ensures c.in-Some.ensures)
    (three_more front (flat_map (table.submit_near c.args.queue) c.args.submits.now) fence _)

pub returns-in-None : goal.returns-in-None
unfolding table.row_of
returns-in-None g c =
    let v = g.A.Answers.view c.args.answers.now in
    let submits = c.args.submits.now in
    let front = front_of c.args.queue submits in
    let near = flat_map (table.submit_near c.args.queue) submits in
    let fence = if c.args.fence == 0 then [] else words.Check.live kind.Fence c.args.fence ∷ words.Check.near c.args.fence c.args.queue ∷ [] in
    let order = words.Check.must CommandState (words.is_distinct (flat_map (λ s. s.cbs) submits)) ∷ words.Check.in_turn (words.turns_of submits c.args.fence) ∷ [] in
    goes_on v front ((near ++ fence) ++ order) _ _ (subst (λ xs. None ≡ words.first_broken v (front_of c.args.queue xs)) c.items-items.ensures c.in-None.ensures)
    (joins v (near ++ fence) order _ _ _ _ (joins v near fence _ _ _ _
    (c.near_submits-objects.ensures ∙ ap (λ xs. words.first_broken v (flat_map (table.submit_near c.args.queue) xs)) c.items-items.ensures)
    c.near_fence.ensures c.first-named.ensures refl) c.order_fault.ensures c.first.ensures refl)
    (three_more front near fence order)
