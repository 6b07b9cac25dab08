-- The two styles of ids: numbers in listings, names in scripts.
use Rattle.std.specs.Prelude.{◌^◌, ℕ, nat_lt, false, if◌then◌else◌, List, Option, Some, None, codes, decimal}
use Rattle.gfx_model.specs.Checks.{same_list}
use Rattle.gfx_script_model.specs.Names.{code, is_name, named_ids}
use Rattle.gfx_text_grammar.specs.Words.{number_in}
use Rattle.gfx_text_grammar.specs.Reading.{Style}

-- in a listing each id is a number in decimal, and those that a call creates are among its fields
abbrev pub numbered : Style
numbered = record {
  ids = record { show = decimal; is_id = λ n. nat_lt n (2 ^ 64); is_maybe = λ n. nat_lt n (2 ^ 64); apart = false };
  read = number_in (2 ^ 64);
  read_maybe = number_in (2 ^ 64);
}

-- the code of a word that is a name
abbrev pub read_name : List ℕ → Option ℕ
read_name word = if is_name word then Some (code word) else None

-- in a script each id is a name
abbrev pub named : Style
named = record {
  ids = named_ids;
  read = read_name;
  read_maybe = λ word. if same_list word (codes "0") then Some 0 else read_name word;
}
