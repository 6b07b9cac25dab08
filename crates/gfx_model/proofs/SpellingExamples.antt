-- Examples of the spelling, of headers and of framing.
use Rattle.gfx_model.proofs.ExampleCaptures.{all, f1}
use Rattle.gfx_model.specs.Blocks.{first_position, framing_fault, header_fault}
use Rattle.gfx_model.specs.Events.Event.{CreateInstance}
use Rattle.gfx_model.specs.Spelling.{encoding, header}
use Rattle.gfx_model.specs.Table.{value}
use Rattle.gfx_types.specs.declared.names.Fault.TheVariants.{BadMagic, BadOption, BadVersion, BlockTooLarge, Compressed, Truncated, UnknownBlock}
use Rattle.std.specs.Prelude.{List, None, Some, [], drop, length, map, refl, take, ℕ, ◌++◌, ◌∷◌, ◌≡◌}
use Rattle.gfx_model.specs.Blocks.{Position, next_position, is_unknown, is_skipped}
use Rattle.gfx_model.specs.Spelling.{HasSpelling}
use Rattle.gfx_model.proofs.ExampleCaptures.{both}
use Rattle.gfx_model.specs.Events.Event.{QueuePresentKHR, BeginSection, EndSection}
use Rattle.gfx_types.specs.declared.names.Fault.TheVariants.{TooManyBlocks}
use Rattle.std.proofs.Common.{true, false, arith}

ex_block1 : encoding 1 0 (CreateInstance 1 4194304) ≡
    24 ∷ 0 ∷ 0 ∷ 0 ∷ 0 ∷ 0 ∷ 0 ∷ 0 ∷ 4 ∷ 0 ∷ 0 ∷ 0 ∷ 1 ∷ 0 ∷ 0 ∷ 0 ∷ 0 ∷ 0 ∷ 0 ∷ 0 ∷ 0 ∷ 0 ∷ 0 ∷ 0 ∷ 1 ∷ 0 ∷ 0 ∷ 0 ∷ 0 ∷ 0 ∷ 0 ∷ 0 ∷ 0 ∷ 0 ∷ 64 ∷ 0 ∷ []
unfolding all
ex_block1 = refl

ex_header : header 1 ≡ 71 ∷ 70 ∷ 88 ∷ 82 ∷ 232 ∷ 3 ∷ 0 ∷ 0 ∷ 1 ∷ 0 ∷ 0 ∷ 0 ∷ 0 ∷ 0 ∷ 0 ∷ 0 ∷ []
ex_header = refl

ex_sizes : map (λ e. length (encoding 1 0 e)) f1 ≡
    36 ∷ 40 ∷ 40 ∷ 40 ∷ 68 ∷ 52 ∷ 44 ∷ 48 ∷ 56 ∷ 51 ∷ 52 ∷ 56 ∷ 44 ∷ 52 ∷ 36 ∷ 52 ∷ 88 ∷ 52 ∷ 32 ∷ 64 ∷ 64 ∷ 48 ∷ []
unfolding all
ex_sizes = refl

ex_no_bytes : header_fault [] ≡ Some Truncated
unfolding all
ex_no_bytes = refl

ex_good_header : header_fault (header 1) ≡ None
unfolding all
ex_good_header = refl

ex_minor2 : header_fault (header 2) ≡ None
unfolding all
ex_minor2 = refl

ex_minor3 : header_fault (header 3) ≡ Some BadVersion
unfolding all
ex_minor3 = refl

ex_magic : header_fault (70 ∷ drop 1 (header 1)) ≡ Some BadMagic
unfolding all
ex_magic = refl

-- one option: 1 = 1 is compression, 2 = 9 has no meaning, 0 is no key
with_option : ℕ → ℕ → List ℕ
with_option key value = take 12 (header 1) ++ 1 ∷ 0 ∷ 0 ∷ 0 ∷ key ∷ 0 ∷ 0 ∷ 0 ∷ value ∷ 0 ∷ 0 ∷ 0 ∷ []

ex_option1 : header_fault (with_option 1 1) ≡ Some Compressed
unfolding all with_option
ex_option1 = refl

ex_option2 : header_fault (with_option 2 9) ≡ None
unfolding all with_option
ex_option2 = refl

ex_option0 : header_fault (with_option 0 9) ≡ Some BadOption
unfolding all with_option
ex_option0 = refl

ex_option_cut : header_fault (take 23 (with_option 2 9)) ≡ Some Truncated
unfolding all with_option
ex_option_cut = refl

-- block 1, whole and cut, and with other types and sizes
block1 : List ℕ
block1 = encoding 1 0 (CreateInstance 1 4194304)

ex_whole : framing_fault (first_position (header 1)) block1 ≡ None
unfolding all block1
ex_whole = refl

ex_cut : framing_fault (first_position (header 1)) (take 35 block1) ≡ Some Truncated
unfolding all block1
ex_cut = refl

ex_compressed : framing_fault (first_position (header 1)) (take 11 block1 ++ 128 ∷ drop 12 block1) ≡ Some Compressed
unfolding all block1
ex_compressed = refl

ex_large : framing_fault (first_position (header 1)) (1 ∷ 0 ∷ 0 ∷ 8 ∷ 0 ∷ 0 ∷ 0 ∷ 0 ∷ 1 ∷ 0 ∷ 0 ∷ 0 ∷ []) ≡ Some BlockTooLarge
unfolding all
ex_large = refl

ex_largest : framing_fault (first_position (header 1)) (0 ∷ 0 ∷ 0 ∷ 8 ∷ 0 ∷ 0 ∷ 0 ∷ 0 ∷ 1 ∷ 0 ∷ 0 ∷ 0 ∷ []) ≡ Some Truncated
unfolding all
ex_largest = refl

ex_type : framing_fault (first_position (header 1)) (0 ∷ 0 ∷ 0 ∷ 0 ∷ 0 ∷ 0 ∷ 0 ∷ 0 ∷ 6 ∷ 0 ∷ 0 ∷ 0 ∷ []) ≡ Some UnknownBlock
unfolding all
ex_type = refl

-- ids that no table names, and a payload without an id
ex_unknown_call : is_unknown 4 (49 ∷ 0 ∷ 0 ∷ 0 ∷ []) ≡ true
ex_unknown_call = refl

ex_known_call : is_unknown 4 (48 ∷ 0 ∷ 0 ∷ 0 ∷ []) ≡ false
ex_known_call = refl

ex_unknown_metadata : is_unknown 3 (6 ∷ 0 ∷ 0 ∷ 0 ∷ []) ≡ true
ex_unknown_metadata = refl

ex_no_id : is_unknown 4 (49 ∷ 0 ∷ 0 ∷ []) ≡ false
ex_no_id = refl

ex_message : is_skipped 3 (1 ∷ 0 ∷ 0 ∷ 0 ∷ 97 ∷ []) ≡ true
ex_message = refl

-- a begin marker and an end marker count inside, and what follows outside
begun : Position
begun = next_position (first_position (header 1)) (encoding 1 0 (BeginSection 1))

ended : Position
ended = next_position begun (encoding 1 0 (EndSection 1))

ex_inside : ended ≡ record { number = 3; offset = 64; in_section = false; inside = 2; outside = 0 }
unfolding all begun ended
ex_inside = refl

ex_outside : next_position ended block1 ≡ record { number = 4; offset = 100; in_section = false; inside = 2; outside = 1 }
unfolding all begun ended block1
ex_outside = refl

-- the side is full
ex_full : framing_fault (record { number = 1; offset = 16; in_section = false; inside = 0; outside = 4294967296 }) block1 ≡ Some TooManyBlocks
unfolding all block1
ex_full = refl

ex_other_side : framing_fault (record { number = 1; offset = 16; in_section = true; inside = 0; outside = 4294967296 }) block1 ≡ None
unfolding all block1
ex_other_side = refl

-- version 1 has no present of two images
ex_one_present : HasSpelling 1 (QueuePresentKHR 4 [] both) → ⊥
unfolding all
ex_one_present s = absurd (omega (arith, s.version refl))
