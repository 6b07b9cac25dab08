use Rattle.std.proofs.Common.{◌≡◌, ◌∷◌, ◌++◌, ◌∙◌, ℕ, List, [], map, sym, ap, refl, append_assoc}
use Rattle.gfx_types.specs.declared.names.Kind.TheVariants as kind
use Rattle.gfx_types.specs.declared.lists.Present.{Present}
use Rattle.gfx_model.specs.Events.Event.{QueuePresentKHR}
use Rattle.gfx_model.specs.Table as table
use Rattle.gfx_model.specs.Checks as words
use Rattle.gfx_model.specs.Limits.{max_semaphores, max_presents}
use Rattle.gfx_rules.proofs.Joined.{stops, goes_on, joins, five_more}
use Rattle.gfx_rules.proofs.rows_queue.queue_present.Goals as goal

-- the checks of the queue, the waits and the number of presents
abbrev front : ℕ → List ℕ → List Present → List words.Check
front queue waits presents =
    words.Check.live kind.Queue queue ∷ table.between 0 max_semaphores waits ++ table.near_each kind.Semaphore queue waits ++ table.between 1 max_presents presents

-- the checks of the swapchains
abbrev swapchains : ℕ → List Present → List words.Check
swapchains queue presents = table.near_each kind.Swapchain queue (map (λ p. p.swapchain) presents)

-- each once
abbrev once : List Present → List words.Check
once presents = table.value (words.is_distinct (map (λ p. p.swapchain) presents)) ∷ []

abbrev indices : List Present → List words.Check
indices presents = map (λ p. words.Check.index_in p.swapchain p.index) presents

abbrev acquired : List Present → List words.Check
acquired presents = map (λ p. words.Check.is_acquired p.swapchain p.index) presents

abbrev layouts : List Present → List words.Check
layouts presents = map (λ p. words.Check.presentable p.swapchain p.index) presents

-- the checks of the frame
abbrev frame : List ℕ → List words.Check
frame waits = words.Check.in_turn (map words.Turn.wait waits) ∷ words.Check.frame_room ∷ []

-- the parts of the row
parts : (queue : ℕ) (waits : List ℕ) (presents : List Present) → table.row_of (QueuePresentKHR queue waits presents)
    ≡ front queue waits presents ++ (((((swapchains queue presents ++ once presents) ++ indices presents) ++ acquired presents) ++ layouts presents) ++ frame waits)
unfolding table.row_of
parts queue waits presents =
    five_more (front queue waits presents) (swapchains queue presents) (once presents ++ indices presents) (acquired presents) (layouts presents) (frame waits)
    ∙ ap (λ xs. front queue waits presents ++ (((xs ++ acquired presents) ++ layouts presents) ++ frame waits))
    (sym (append_assoc (swapchains queue presents) (once presents) (indices presents)))

pub returns-in-Some : goal.returns-in-Some
returns-in-Some g c = let p = c.args.presents.now in
    stops (g.A.Answers.view c.args.answers.now) (front c.args.queue c.args.waits.now p)
    (((((swapchains c.args.queue p ++ once p) ++ indices p) ++ acquired p) ++ layouts p) ++ frame c.args.waits.now) _ _ c.in-Some.ensures
    (parts c.args.queue c.args.waits.now p)

pub returns-in-None : goal.returns-in-None
returns-in-None g c =
    let v = g.A.Answers.view c.args.answers.now in
    let p = c.args.presents.now in
    let w = c.args.waits.now in
    let s = swapchains c.args.queue p ++ once p in
    goes_on v (front c.args.queue w p) ((((s ++ indices p) ++ acquired p) ++ layouts p) ++ frame w) _ _ c.in-None.ensures
    (joins v (((s ++ indices p) ++ acquired p) ++ layouts p) (frame w) _ _ _ _
    (joins v ((s ++ indices p) ++ acquired p) (layouts p) _ _ _ _
    (joins v (s ++ indices p) (acquired p) _ _ _ _
    (joins v s (indices p) _ _ _ _ c.swapchains_fault-swapchains.ensures c.indices_in.ensures c.first-indices.ensures refl)
    c.acquired_each.ensures c.first-acquired.ensures refl)
    c.presentable_each.ensures c.first-images.ensures refl)
    c.frame_fault.ensures c.first.ensures refl)
    (parts c.args.queue w p)
