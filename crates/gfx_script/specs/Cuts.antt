-- Texts that are cut: the first line, the first token.
use Rattle.std.specs.Prelude.{◌≡◌, ℕ, ◌+◌, ◌<◌, min, List, ◌∷◌, length}
use Rattle.gfx_script_model.specs.Statements.{lines_of, tokens_of}

-- the first line of a text and what follows it; the text ends at most one byte behind the line, or goes on there
pub record IsFirstLine (text line behind : List ℕ) : Type 0 where
  pub lines : lines_of text ≡ line ∷ lines_of behind
  pub through : length text ≡ min (length text) (length line + 1) + length behind

-- the first token of a line, and what follows it
pub record IsFirstToken (line token behind : List ℕ) : Type 0 where
  pub tokens : tokens_of line ≡ token ∷ tokens_of behind
  pub less : length behind < length line
