-- Which words begin with `capture`.
use Rattle.std.proofs.Common.{◌≡◌, ℕ, List, Some}
use Rattle.gfx_words.specs.declared.recording.Recording.{Recording}
use Rattle.gfx_words.proofs.Only.{only_recording}
use Rattle.gfx_cli.specs.Words.{IsAsked}

-- words ask for one recording
pub one_asked : (words : List (List ℕ)) (r other : Recording) → IsAsked words r → IsAsked words other → other ≡ r
one_asked words r other asked also = only_recording words (Some r) (asked.are, asked.fits) other also.fits also.are
