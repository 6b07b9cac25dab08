use Rattle.std.proofs.Common.{◌≡◌, ◌++◌}
use Rattle.gfx_feature_model.specs.Listing.{option_texts}
use Rattle.gfx_text_writer.specs.Shown.{behind_spaces}
use Rattle.gfx_listing.proofs.header.write_options.Given as goal

-- the options so far were appended
abbrev pub invariant-options : goal.invariant-options
invariant-options l = l.out.items ≡ l.fn.out.items ++ behind_spaces (option_texts l.header 16 l.index)
