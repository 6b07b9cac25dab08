-- What upgrading a file answers, and what was written.
use Rattle.std.specs.Prelude.{ℕ, if◌then◌else◌, List, [], Option, Result, is_none}
use Rattle.gfx_model.specs.Blocks.{header_fault}
use Rattle.gfx_grammar.specs.Splitting.{blocks_of}
use Rattle.gfx_player.specs.declared.fault.PlayFault.{PlayFault}
use Rattle.gfx_rewrite.specs.Rewrites as rewrites
use Rattle.gfx_upgrade.specs.Upgraded.{upgraded_by}

-- what is written of a file: header and blocks up to its first bad block, and nothing where that is the header
abbrev pub upgraded : List ℕ → List ℕ
upgraded bytes = if is_none (header_fault bytes) then upgraded_by (blocks_of bytes).items else []

-- what was written, by the answer: the file in version 2, what stands of it before the end of the file, or a prefix of that
abbrev pub Answers : Option (List ℕ) → Option (List ℕ) → Result Unit PlayFault → List ℕ → List ℕ → Type 0
Answers before after result bytes left = rewrites.Answers upgraded before after result bytes left
