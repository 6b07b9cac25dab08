use Rattle.std.proofs.Common.{◌≡◌, ◌++◌, IfOk, string_bytes, ap, subst, ◌∙◌}
use Rattle.gfx_trial.specs.Text.{cut_line, digest_line, file_line}
use Rattle.gfx_trial.proofs.trial.Trial.lines.Goals as goal

pub returns : goal.returns
returns c =
    let t = c.args.self.now in
    let file = c.as_str.ensures.value ∙ c.in_ok-file.ensures in
    let cut = c.as_str-2.ensures.value ∙ c.in_ok-cut.ensures in
    let before = c.as_str-3.ensures.value ∙ c.in_ok-before.ensures in
    let after = c.as_str-4.ensures.value ∙ c.in_ok-after.ensures in
    subst (λ text. IfOk c.joined.result (λ s. string_bytes s ≡ text))
    (ap (λ l. l ++ c.as_str-2.result.now ++ c.as_str-3.result.now ++ c.as_str-4.result.now) file
    ∙ ap (λ l. file_line t.frames ++ l ++ c.as_str-3.result.now ++ c.as_str-4.result.now) cut
    ∙ ap (λ l. file_line t.frames ++ cut_line t.first t.last t.cut.frames ++ l ++ c.as_str-4.result.now) before
    ∙ ap (λ l. file_line t.frames ++ cut_line t.first t.last t.cut.frames ++ digest_line t.whole.digest ++ l) after) c.joined.ensures
