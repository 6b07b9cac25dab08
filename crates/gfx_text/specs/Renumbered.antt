-- Styles that read other numbers.
use Rattle.std.specs.Prelude.{ℕ, Some}
use Rattle.gfx_grammar.specs.Reading.{◌>>=◌}
use Rattle.gfx_text_grammar.specs.Reading.{Style}

-- the style that reads each id as the number that is given for it
abbrev pub renumbered : (ℕ → ℕ) → Style → Style
renumbered f s = record {
  ids = s.ids;
  read = λ word. s.read word >>= λ n. Some (f n);
  read_maybe = λ word. s.read_maybe word >>= λ n. Some (f n);
}
