-- What is written of a file's header and of its blocks.
use Rattle.std.specs.Prelude.{ℕ, List, [], ◌++◌, take, flat_map, if◌then◌else◌, is_none}
use Rattle.gfx_model.specs.Blocks.{Whole, header_fault, header_length, minor_of}
use Rattle.gfx_grammar.specs.Splitting.{blocks_of}

-- what is written of a header with these bytes, and of a block of a file in this minor version
pub record Texts : Type 0 where
  pub of_header : List ℕ → List ℕ
  pub of_block : ℕ → Whole → List ℕ

-- the bytes of a file's header
abbrev pub header_in : List ℕ → List ℕ
header_in bytes = take (header_length bytes) bytes

-- what is written of a header with these bytes and of the blocks behind it
abbrev pub text_by : Texts → List ℕ → List Whole → List ℕ
text_by texts header blocks = texts.of_header header ++ flat_map (λ w. texts.of_block (minor_of header) w) blocks

-- what is written of a file: the texts of its header and of its blocks up to the first bad one, and nothing where that is the header
abbrev pub rewritten : Texts → List ℕ → List ℕ
rewritten texts bytes = if is_none (header_fault bytes) then text_by texts (header_in bytes) (blocks_of bytes).items else []
