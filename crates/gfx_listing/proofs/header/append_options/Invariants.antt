use Rattle.std.proofs.Common.{◌≡◌, ℕ, List, ◌++◌, map, flat_map}
use Rattle.gfx_text_grammar.specs.Listings.{option_bytes}
use Rattle.gfx_listing.proofs.HeadReading.{OptionsGoOn}
use Rattle.gfx_listing.proofs.header.append_options.Given as goal

-- the options that were read follow the old bytes, and then those follow that are still read
abbrev pub invariant-options : goal.invariant-options
invariant-options l =
    (read : List (ℕ × ℕ)) × (l.out.items ≡ l.fn.out.items ++ flat_map option_bytes read) × OptionsGoOn read l.option-index (map (λ t. t.now) l.options)
