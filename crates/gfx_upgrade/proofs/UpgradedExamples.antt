-- Examples of files in version 2.
use Rattle.gfx_model.proofs.ExampleCaptures.{after, f1, f3, file3, frame2, wholes}
use Rattle.gfx_model.specs.Section.{section}
use Rattle.gfx_model.specs.Spelling.{encoding, header}
use Rattle.gfx_model.specs.Trimmed.{boundary, trimmed_by}
use Rattle.gfx_upgrade.specs.Upgraded.{upgraded_by}
use Rattle.std.specs.Prelude.{[], length, refl, ◌++◌, ◌∷◌, ◌≡◌}
use Rattle.gfx_model.specs.Blocks.Content.{skipped}
use Rattle.gfx_model.proofs.ExampleCaptures.{after, f1, file3, wholes}
use Rattle.gfx_model.specs.Blocks.End.{clean}
use Rattle.gfx_model.specs.Spelling.{encoding, header}
use Rattle.gfx_upgrade.specs.Upgraded.{upgraded_block, upgraded_by}
use Rattle.std.specs.Prelude.{[], length, refl, ◌++◌, ◌∷◌, ◌≡◌}
use Rattle.std.proofs.Common.{◌≡◌, [], ◌∷◌, ◌++◌, length, refl}
use Rattle.gfx_model.specs.Spelling.{encoding, header}
use Rattle.gfx_model.specs.Blocks.End.{clean}
use Rattle.gfx_upgrade.specs.Upgraded.{IsUpgraded}
use Rattle.gfx_model.proofs.ExampleCaptures.{all}
use Rattle.gfx_model.proofs.FileExamples.{first, file, block, ex_blocks}

ex_upgraded : length (upgraded_by file3) ≡ 1583
unfolding all
ex_upgraded = refl

-- the smallest capture in version 2, and that file again
ex_upgraded_1 : length (upgraded_by (wholes 1 1 16 f1)) ≡ 1135
unfolding all
ex_upgraded_1 = refl

ex_upgraded_again : upgraded_by (wholes 2 1 16 f1) ≡ upgraded_by (wholes 1 1 16 f1)
unfolding all
ex_upgraded_again = refl

-- a block that is skipped stays
ex_upgraded_skip : upgraded_block (record { number = 1; offset = 16; bytes = 7 ∷ []; content = skipped }) skipped ≡ 7 ∷ []
ex_upgraded_skip = refl

-- trimming the file in version 2 is the trimmed file in version 2
ex_trim_upgraded : trimmed_by 2 2 2 (boundary 2 (wholes 2 1 16 f3)) ≡ upgraded_by (wholes 1 1 16 (section (after 22) 2 ++ frame2))
unfolding all
ex_trim_upgraded = refl

ex_trim_upgraded_bytes : length (trimmed_by 2 2 2 (boundary 2 (wholes 2 1 16 f3))) ≡ 1314
unfolding all
ex_trim_upgraded_bytes = refl

ex_upgraded_file : IsUpgraded file (header 2 ++ encoding 1 0 first)
unfolding all first file block
ex_upgraded_file = record { blocks = block ∷ []; end = clean; are = ex_blocks; same = refl }
