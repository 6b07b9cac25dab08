-- What listing a file answers, and what was written.
use Rattle.std.specs.Prelude.{ℕ, if◌then◌else◌, List, [], Option, Result, is_none}
use Rattle.std.specs.Io.KnownBytes.{Appends}
use Rattle.gfx_model.specs.Blocks.{header_fault}
use Rattle.gfx_model.specs.Text.{line}
use Rattle.gfx_grammar.specs.Splitting.{blocks_of}
use Rattle.gfx_feature_model.specs.Listing.{IsListing, block_text, header_text, listing_of}
use Rattle.gfx_player.specs.declared.fault.PlayFault.{PlayFault}
use Rattle.gfx_rewrite.specs.Rewrites as rewrites
use Rattle.gfx_rewrite.specs.Texts.{Texts}

-- what is written in a listing: a line for the header, and one for each block
abbrev pub in_listing : Texts
in_listing = record { of_header = λ bytes. line (header_text bytes); of_block = λ minor w. line (block_text minor w.bytes w.content) }

-- what is written of a file: the lines of its header and of its blocks up to the first bad one, and nothing where that is the header
abbrev pub listed : List ℕ → List ℕ
listed bytes = if is_none (header_fault bytes) then listing_of bytes (blocks_of bytes).items else []

-- what was written, by the answer: the listing, what stands of it before the end of the file, or a prefix of that
abbrev pub Answers : Option (List ℕ) → Option (List ℕ) → Result Unit PlayFault → List ℕ → List ℕ → Type 0
Answers before after result bytes left = rewrites.Answers listed before after result bytes left

-- the sink took the listing of the file
abbrev pub TookListing : Option (List ℕ) → Option (List ℕ) → List ℕ → Type 0
TookListing before after bytes = (listing : List ℕ) × Appends before after listing × IsListing bytes listing
