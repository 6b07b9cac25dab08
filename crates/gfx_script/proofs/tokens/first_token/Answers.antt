use Rattle.std.proofs.Common.{◌≡◌, ◌==◌, drop, Some, None, sym, ap, ◌∙◌}
use Rattle.std.specs.List.{position}
use Rattle.gfx_script.proofs.Cuts.{token_at, token_last, no_token}
use Rattle.gfx_script.proofs.tokens.first_token.Goals as goal

pub returns-in_default : goal.returns-in_default
returns-in_default c = no_token c.args.line.now (sym c.word_start.ensures ∙ c.in_default.is)

pub returns-in-Some-space : goal.returns-in-Some-space
returns-in-Some-space c =
    let at : position (λ b. b == 32) (drop c.in-Some.start c.args.line.now) ≡ Some c.in-Some-space.end =
    ap (position (λ b. b == 32)) (sym c.split_at.ensures.back) ∙ sym c.in-Some-space.ensures in
    rw (c.split_at-in-Some-space.ensures.front, c.split_at-in-Some-space-2.ensures.back, c.split_at.ensures.back)
    (token_at c.args.line.now c.in-Some.start c.in-Some-space.end (sym c.in-Some.ensures) at)

pub returns-in-None : goal.returns-in-None
returns-in-None c =
    let none : position (λ b. b == 32) (drop c.in-Some.start c.args.line.now) ≡ None =
    ap (position (λ b. b == 32)) (sym c.split_at.ensures.back) ∙ sym c.in-None.ensures in
    rw c.split_at.ensures.back (token_last c.args.line.now c.in-Some.start (sym c.in-Some.ensures) none)
