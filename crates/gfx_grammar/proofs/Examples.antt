-- Worked examples of reading, computed.
use Rattle.std.specs.Prelude.{◌≡◌, ℕ, List, [], ◌∷◌, ◌++◌, take, true, false, Some, None, refl}
use Rattle.std.specs.Int.{to_le_bytes, w32, w64}
use Rattle.gfx_types.specs.declared.names.Fault.TheVariants.{BadVersion, BadOption, Compressed, Truncated, BadParams, UnknownBlock, TooManyBlocks}
use Rattle.gfx_model.specs.Events.Event.{CreateInstance, AllocateCommandBuffers, QueueSubmit, QueuePresentKHR, FillMemory, SetSemaphoreState, BeginSection, EndSection}
use Rattle.gfx_model.specs.Spelling.{fields_of, spelling, id_of, type_of, payload, encoding, block_bytes, header}
use Rattle.gfx_model.specs.Blocks.{skipped, effect, clean, bad, header_fault, start_fault, head_fault, framing_fault, Position}
use Rattle.gfx_grammar.specs.Reading.{read_both, read_number, read_raw, read_as, read_items, read_list}
use Rattle.gfx_grammar.specs.Rows.{exactly, present_row, by_row, read_event, read_call, read_meta, read_payload, read_content}
use Rattle.gfx_grammar.specs.Splitting.{breaks, front, blocks_within, blocks_from, blocks_of}

-- opens all definitions, for what is computed here
opened : ℕ
unfolding fields_of spelling id_of type_of payload encoding start_fault header_fault head_fault framing_fault read_number read_raw read_both read_as read_items read_list exactly present_row by_row read_event read_payload read_content front blocks_within blocks_from blocks_of
opened = 0

ex_instance : read_call 1 1 (7 ∷ 0 ∷ 0 ∷ 0 ∷ 0 ∷ 0 ∷ 0 ∷ 0 ∷ 0 ∷ 0 ∷ 64 ∷ 0 ∷ []) ≡ Some (CreateInstance 7 4194304)
unfolding opened
ex_instance = refl

-- a byte too few, and one too many
ex_short : read_call 1 1 (7 ∷ 0 ∷ 0 ∷ 0 ∷ 0 ∷ 0 ∷ 0 ∷ 0 ∷ 0 ∷ 0 ∷ 64 ∷ []) ≡ None
unfolding opened
ex_short = refl

ex_long : read_call 1 1 (7 ∷ 0 ∷ 0 ∷ 0 ∷ 0 ∷ 0 ∷ 0 ∷ 0 ∷ 0 ∷ 0 ∷ 64 ∷ 0 ∷ 0 ∷ []) ≡ None
unfolding opened
ex_long = refl

ex_no_call : read_call 1 49 [] ≡ None
unfolding opened
ex_no_call = refl

-- a present of one image in version 1, and of two in version 2
ex_present1 : read_call 1 48 (spelling 1 (QueuePresentKHR 3 (8 ∷ []) (record { swapchain = 5; index = 1 } ∷ []))) ≡ Some (QueuePresentKHR 3 (8 ∷ []) (record { swapchain = 5; index = 1 } ∷ []))
unfolding opened
ex_present1 = refl

ex_present2 : read_call 2 48 (spelling 2 (QueuePresentKHR 3 [] (record { swapchain = 5; index = 1 } ∷ record { swapchain = 6; index = 0 } ∷ [])))
    ≡ Some (QueuePresentKHR 3 [] (record { swapchain = 5; index = 1 } ∷ record { swapchain = 6; index = 0 } ∷ []))
unfolding opened
ex_present2 = refl

ex_present_versions : read_call 1 48 (spelling 2 (QueuePresentKHR 3 [] (record { swapchain = 5; index = 1 } ∷ []))) ≡ None
unfolding opened
ex_present_versions = refl

ex_submit : read_call 1 41 (spelling 1 (QueueSubmit 3 (record { waits = 1 ∷ []; cbs = 2 ∷ 3 ∷ []; signals = [] } ∷ record { waits = []; cbs = []; signals = 4 ∷ [] } ∷ []) 9))
    ≡ Some (QueueSubmit 3 (record { waits = 1 ∷ []; cbs = 2 ∷ 3 ∷ []; signals = [] } ∷ record { waits = []; cbs = []; signals = 4 ∷ [] } ∷ []) 9)
unfolding opened
ex_submit = refl

ex_fill : read_meta 1 2 (spelling 1 (FillMemory 4 16 (1 ∷ 2 ∷ 3 ∷ []))) ≡ Some (FillMemory 4 16 (1 ∷ 2 ∷ 3 ∷ []))
unfolding opened
ex_fill = refl

-- a raw field whose length says more than there is
ex_fill_cut : read_meta 1 2 (take 26 (spelling 1 (FillMemory 4 16 (1 ∷ 2 ∷ 3 ∷ [])))) ≡ None
unfolding opened
ex_fill_cut = refl

ex_marker : read_content 1 2 (1 ∷ 0 ∷ 0 ∷ 0 ∷ 5 ∷ 0 ∷ 0 ∷ 0 ∷ 0 ∷ 0 ∷ 0 ∷ 0 ∷ []) ≡ Some (effect 0 (BeginSection 5))
unfolding opened
ex_marker = refl

ex_message : read_content 1 3 (1 ∷ 0 ∷ 0 ∷ 0 ∷ 99 ∷ []) ≡ Some skipped
unfolding opened
ex_message = refl

-- a header, a call, a frame marker and a cut block
ex_blocks : blocks_of (header 1 ++ encoding 1 9 (CreateInstance 7 1) ++ block_bytes 1 (77 ∷ []) ++ (1 ∷ 2 ∷ [])) ≡ record {
  items = record { number = 1; offset = 16; bytes = encoding 1 9 (CreateInstance 7 1); content = effect 9 (CreateInstance 7 1) }
      ∷ record { number = 2; offset = 52; bytes = block_bytes 1 (77 ∷ []); content = skipped } ∷ [];
  end = bad Truncated 3 65;
}
unfolding opened
ex_blocks = refl

ex_params : blocks_of (header 1 ++ block_bytes 4 (1 ∷ 0 ∷ 0 ∷ 0 ∷ [])) ≡ record { items = []; end = bad BadParams 1 16 }
unfolding opened
ex_params = refl

ex_unknown : blocks_of (header 1 ++ block_bytes 4 (49 ∷ 0 ∷ 0 ∷ 0 ∷ [])) ≡ record { items = []; end = bad UnknownBlock 1 16 }
unfolding opened
ex_unknown = refl

-- no list can have so many items
ex_count : read_call 1 21 (to_le_bytes w64 1 ++ to_le_bytes w64 2 ++ to_le_bytes w32 4294967295) ≡ None
unfolding opened
ex_count = refl

ex_count_ids : read_call 1 21 (to_le_bytes w64 1 ++ to_le_bytes w64 2 ++ to_le_bytes w32 4294967295 ++ to_le_bytes w64 3 ++ to_le_bytes w64 4) ≡ None
unfolding opened
ex_count_ids = refl

ex_two_ids : read_call 1 21 (to_le_bytes w64 1 ++ to_le_bytes w64 2 ++ to_le_bytes w32 2 ++ to_le_bytes w64 3 ++ to_le_bytes w64 4) ≡ Some (AllocateCommandBuffers 1 2 (3 ∷ 4 ∷ []))
unfolding opened
ex_two_ids = refl

-- a payload of a call with fewer than four bytes, and with four
ex_no_id : blocks_of (header 1 ++ block_bytes 4 (49 ∷ 0 ∷ 0 ∷ [])) ≡ record { items = []; end = bad BadParams 1 16 }
unfolding opened
ex_no_id = refl

-- a block of type 0, of type 6, and of a compressed type, whatever the size says
ex_type_0 : blocks_of (header 1 ++ block_bytes 0 []) ≡ record { items = []; end = bad UnknownBlock 1 16 }
unfolding opened
ex_type_0 = refl

ex_type_6 : blocks_of (header 1 ++ block_bytes 6 []) ≡ record { items = []; end = bad UnknownBlock 1 16 }
unfolding opened
ex_type_6 = refl

ex_compressed : blocks_of (header 1 ++ (255 ∷ 255 ∷ 255 ∷ 255 ∷ 255 ∷ 255 ∷ 255 ∷ 255 ∷ 4 ∷ 0 ∷ 0 ∷ 128 ∷ [])) ≡ record { items = []; end = bad Compressed 1 16 }
unfolding opened
ex_compressed = refl

-- a version 2 file: two images in one present
abbrev two_presents : List ℕ
two_presents = encoding 2 1 (QueuePresentKHR 3 [] (record { swapchain = 5; index = 1 } ∷ record { swapchain = 6; index = 0 } ∷ []))

ex_version_2 : blocks_of (header 2 ++ two_presents) ≡ record {
  items = record { number = 1; offset = 16; bytes = two_presents; content = effect 1 (QueuePresentKHR 3 [] (record { swapchain = 5; index = 1 } ∷ record { swapchain = 6; index = 0 } ∷ [])) } ∷ [];
  end = clean;
}
unfolding opened
ex_version_2 = refl

-- the same block has no spelling in version 1
ex_version_1 : blocks_of (header 1 ++ two_presents) ≡ record { items = []; end = bad BadParams 1 16 }
unfolding opened
ex_version_1 = refl

ex_version_3 : blocks_of (header 3) ≡ record { items = []; end = bad BadVersion 0 0 }
unfolding opened
ex_version_3 = refl

-- two options: their keys rise, and option 1 is 0
abbrev with_options : ℕ → ℕ → ℕ → ℕ → List ℕ
with_options a b c d =
    take 12 (header 1) ++ to_le_bytes w32 2 ++ to_le_bytes w32 a ++ to_le_bytes w32 b ++ to_le_bytes w32 c ++ to_le_bytes w32 d

ex_options : blocks_of (with_options 1 0 7 9 ++ block_bytes 1 []) ≡ record { items = record { number = 1; offset = 32; bytes = block_bytes 1 []; content = skipped } ∷ []; end = clean }
unfolding opened
ex_options = refl

ex_options_fall : blocks_of (with_options 7 9 7 0) ≡ record { items = []; end = bad BadOption 0 0 }
unfolding opened
ex_options_fall = refl

ex_options_zero : blocks_of (with_options 0 0 1 0) ≡ record { items = []; end = bad BadOption 0 0 }
unfolding opened
ex_options_zero = refl

ex_options_compressed : blocks_of (with_options 1 2 7 9) ≡ record { items = []; end = bad Compressed 0 0 }
unfolding opened
ex_options_compressed = refl

ex_options_cut : blocks_of (take 31 (with_options 1 2 7 9)) ≡ record { items = []; end = bad Truncated 0 0 }
unfolding opened
ex_options_cut = refl

-- a section of one block between its markers, and a block behind it
abbrev section_file : List ℕ
section_file = encoding 1 0 (BeginSection 5) ++ encoding 1 0 (SetSemaphoreState 9 1) ++ encoding 1 0 (EndSection 5) ++ block_bytes 1 (7 ∷ [])

ex_section : blocks_of (header 1 ++ section_file) ≡ record {
  items = record { number = 1; offset = 16; bytes = encoding 1 0 (BeginSection 5); content = effect 0 (BeginSection 5) }
      ∷ record { number = 2; offset = 40; bytes = encoding 1 0 (SetSemaphoreState 9 1); content = effect 0 (SetSemaphoreState 9 1) }
      ∷ record { number = 3; offset = 76; bytes = encoding 1 0 (EndSection 5); content = effect 0 (EndSection 5) }
      ∷ record { number = 4; offset = 100; bytes = block_bytes 1 (7 ∷ []); content = skipped } ∷ [];
  end = clean;
}
unfolding opened
ex_section = refl

-- where the outside is full, a begin marker still has room, and so has what follows it up to the end marker
abbrev full_outside : Position
full_outside = record { number = 4294967297; offset = 0; in_section = false; inside = 0; outside = 4294967296 }

ex_room_inside : blocks_from 1 full_outside section_file ≡ record {
  items = record { number = 4294967297; offset = 0; bytes = encoding 1 0 (BeginSection 5); content = effect 0 (BeginSection 5) }
      ∷ record { number = 4294967298; offset = 24; bytes = encoding 1 0 (SetSemaphoreState 9 1); content = effect 0 (SetSemaphoreState 9 1) }
      ∷ record { number = 4294967299; offset = 60; bytes = encoding 1 0 (EndSection 5); content = effect 0 (EndSection 5) } ∷ [];
  end = bad TooManyBlocks 4294967300 84;
}
unfolding opened
ex_room_inside = refl

-- a begin marker that is cut short counts outside, and the count comes before the missing bytes
ex_cut_marker : front 1 full_outside (take 23 (encoding 1 0 (BeginSection 5))) ≡ breaks full_outside TooManyBlocks
unfolding opened
ex_cut_marker = refl

-- inside a full section nothing has room, its end marker included
ex_full_inside : front 1 (record { number = 4294967297; offset = 0; in_section = true; inside = 4294967296; outside = 0 }) (encoding 1 0 (EndSection 5))
    ≡ breaks (record { number = 4294967297; offset = 0; in_section = true; inside = 4294967296; outside = 0 }) TooManyBlocks
unfolding opened
ex_full_inside = refl

ex_clean : blocks_of (header 2) ≡ record { items = []; end = clean }
unfolding opened
ex_clean = refl
