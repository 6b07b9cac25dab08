use Rattle.std.proofs.Common.{◌≡◌, ℕ, List, [], ◌∷◌, ◌++◌, append_assoc, rules, ◌∙◌}
use Rattle.std.specs.Prelude.{codes, decimal, string_bytes}
use Rattle.std.proofs.lemmas.Result.{IfOk-weaker}
use Rattle.gfx_model.specs.Text.{count_lines}
use Rattle.gfx_cli.proofs.counts.Counts.text.Goals as goal

abbrev feed : List ℕ
feed = 10 ∷ []

-- as it is written: each piece of text, and each number
unfoldable pieces : (m b c f : ℕ) → List ℕ
pieces m b c f =
    codes "version 1000." ++ decimal m ++ feed ++ codes "blocks " ++ decimal b ++ feed ++ codes "calls " ++ decimal c ++ feed
    ++ codes "frames " ++ decimal f ++ feed

-- four lines, in the order in which they are written
four_lines : (v m t b s k c l f e : List ℕ) → v ++ m ++ e ++ (t ++ s) ++ b ++ e ++ (k ++ s) ++ c ++ e ++ (l ++ s) ++ f ++ e
    ≡ ((v ++ m) ++ e) ++ ((t ++ s ++ b) ++ e) ++ ((k ++ s ++ c) ++ e) ++ ((l ++ s ++ f) ++ e)
four_lines v m t b s k c l f e = simp append_assoc

pieces_are_lines : (m b c f : ℕ) → pieces m b c f ≡ count_lines m b c f
unfolding pieces
pieces_are_lines m b c f = four_lines (codes "version 1000.") (decimal m) (codes "blocks") (decimal b) (codes " ") (codes "calls") (decimal c) (codes "frames") (decimal f) feed

pub returns : goal.returns
unfolding pieces
returns c =
    let counts = c.args.self.now in
    IfOk-weaker c.format.result (λ text. string_bytes text ≡ pieces counts.minor counts.blocks counts.calls counts.frames) _
    (λ text is. is ∙ pieces_are_lines counts.minor counts.blocks counts.calls counts.frames) (search (rules, append_assoc))
