-- The parts of a lean file, written one after another.
use Rattle.std.proofs.Common.{◌≡◌, ℕ, List, ◌++◌, Option, subst}
use Rattle.std.specs.Prelude.{flat_map}
use Rattle.std.specs.Io.KnownBytes.{Appends}
use Rattle.gfx_io.specs.Pieces.{AppendsPart}
use Rattle.gfx_io.proofs.Appending.{appends_then, part_of, part_then}
use Rattle.gfx_model.specs.Events.{Event}
use Rattle.gfx_model.specs.Spelling.{encoding, header}
use Rattle.gfx_feature_model.specs.Lean.{Keep, kept_section}
use Rattle.gfx_lean.specs.Written.{lean_text}

module _ (m : ℕ) (k : Keep) (h : List Event) (first : ℕ) (blocks piece : List ℕ) (is : piece ≡ header m) where
  abbrev made : List ℕ
  made = flat_map (encoding 1 0) (kept_section k h first)

  pub front_header : (a b : Option (List ℕ)) → AppendsPart a b piece → AppendsPart a b (lean_text m k h first blocks)
  unfolding lean_text
  front_header a b part = part_of a b (header m ++ made) blocks (part_of a b (header m) made (subst (AppendsPart a b) is part))

  pub front_section : (a b c : Option (List ℕ)) → Appends a b piece → AppendsPart b c made → AppendsPart a c (lean_text m k h first blocks)
  unfolding lean_text
  front_section a b c one part = part_of a c (header m ++ made) blocks (part_then a b c (header m) made (subst (Appends a b) is one) part)

  both : (a b c : Option (List ℕ)) → Appends a b piece → Appends b c made → Appends a c (header m ++ made)
  both a b c one two = appends_then a b c (header m) made (subst (Appends a b) is one) two

  pub front_blocks : (a b c d : Option (List ℕ)) → Appends a b piece → Appends b c made → AppendsPart c d blocks → AppendsPart a d (lean_text m k h first blocks)
  unfolding lean_text
  front_blocks a b c d one two part = part_then a c d (header m ++ made) blocks (both a b c one two) part

  pub whole_file : (a b c d : Option (List ℕ)) → Appends a b piece → Appends b c made → Appends c d blocks → Appends a d (lean_text m k h first blocks)
  unfolding lean_text
  whole_file a b c d one two three = appends_then a c d (header m ++ made) blocks (both a b c one two) three
