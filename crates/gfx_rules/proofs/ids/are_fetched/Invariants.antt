use Rattle.std.proofs.Common.{◌≡◌, drop}
use Rattle.gfx_model.specs.Checks as words
use Rattle.gfx_model.specs.Views as views
use Rattle.gfx_rules.proofs.ids.are_fetched.Given as goal

abbrev pub invariant-images : goal.invariant-images
invariant-images g l = let all = views.fetched (g.A.Answers.view l.answers) l.swapchain in
    words.same_list (drop l.at all) (drop l.at l.images) ≡ words.same_list all l.images
