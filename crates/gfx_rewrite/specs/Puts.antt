-- What is appended of a block.
use Rattle.std.specs.Prelude.{◌≡◌, ℕ, List, ◌++◌}
use Rattle.gfx_rewrite.specs.declared.rewriter.Written.{Written}
use Rattle.gfx_rewrite.specs.declared.rewriter.Written.TheVariants.{Same, Anew}

-- the text of a block is its own bytes, and nothing was appended; or the text was appended
abbrev pub PutsBlock : (text bytes old new : List ℕ) → Written → Type 0
PutsBlock text bytes old new Same = (text ≡ bytes) × (new ≡ old)
PutsBlock text bytes old new Anew = new ≡ old ++ text
