use Rattle.std.proofs.Common.{◌≡◌, slice_set, [], unwrap_or, ap, sym, ◌∙◌, arith}
use Rattle.std.specs.FinMap as map
use Rattle.std.specs.FinMap.{get-insert}
use Rattle.std.specs.Cmp.{nat_cmp_total}
use Rattle.std.proofs.lemmas.Bool.Decides.{nat_tests}
use Rattle.gfx_table.specs.Rows.{insert_again}
use Rattle.gfx_swap.specs.Acquired.{marks_of}
use Rattle.gfx_swap.proofs.swapchains.Swaps.set.Goals as goal

pub set-requires-2 : goal.set-requires-2
set-requires-2 c none =
    let id = c.args.swapchain in
    let at = sym (ap (λ m. map.get m id) c.replace.ensures.map ∙ get-insert nat_cmp_total c.self.inside.swapchains.map id c.none.result id) ∙ none in
    absurd (grind (arith, nat_tests, at))

pub returns : goal.returns
returns c =
    let id = c.args.swapchain in
    let old = c.self.inside.swapchains.map in
    let marks : marks_of c.args.self.now id ≡ c.in-Some.marks = ap (λ m. marks_of m id) (sym c.self.view_is) ∙ ap (λ o. unwrap_or o []) (sym c.in-Some.ensures.value) in
    let changed = c.set.ensures ∙ ap (λ l. slice_set l c.args.index c.args.acquired) (sym marks) in
    c.set-2.ensures.map ∙ ap (λ m. map.insert m id c.set.new.self) c.replace.ensures.map
    ∙ insert_again old id c.none.result c.set.new.self
    ∙ ap (map.insert old id) changed
    ∙ ap (λ m. map.insert m id (slice_set (marks_of c.args.self.now id) c.args.index c.args.acquired)) c.self.view_is
