-- A worked file of two frames: the premises of the laws can be met.
use Rattle.std.proofs.Common.{◌≡◌, ℕ, ◌<◌, nat_lt, true, refl, sym, List, [], ◌∷◌, ◌++◌, length, arith}
use Rattle.std.specs.Prelude.{flat_map}
use Rattle.std.specs.List.{AllByRecursion, list_all}
use Rattle.std.proofs.lemmas.Bool.{and_parts}
use Rattle.std.proofs.lemmas.Bool.Decides.{nat_tests}
use Rattle.gfx_types.specs.declared.frame.Frame.{Frame}
use Rattle.gfx_types.specs.declared.names.Format.TheVariants.{R8Uint}
use Rattle.gfx_model.specs.Events.{Event}
use Rattle.gfx_model.specs.Events.Event.{CreateInstance, CreateHeadlessSurfaceEXT, CreateDevice, GetDeviceQueue, CreateSwapchainKHR, GetSwapchainImagesKHR, CreateFence, AllocateMemory, MapMemory, FillMemory, CreateBuffer, BindBufferMemory, CreateCommandPool, AllocateCommandBuffers, BeginCommandBuffer, CmdPipelineBarrier, CmdCopyBufferToImage, EndCommandBuffer, AcquireNextImageKHR, QueueSubmit, QueuePresentKHR, ResetFences}
use Rattle.gfx_model.specs.Spelling.{fields_of, spelling, id_of, type_of, payload, encoding, header}
use Rattle.gfx_model.specs.Steps.{resources_of}
use Rattle.gfx_model.specs.Questions.{live, ids, used, bound, mapped, buffer, signalled, acquired, executed_changes, layout, next_frame, open_section}
use Rattle.gfx_model.specs.Checks.{broken, turns_fault, layouts_of}
use Rattle.gfx_model.specs.Table.{place_of, row_of}
use Rattle.gfx_model.specs.Effects.{changes_of_command, effect_of}
use Rattle.gfx_model.specs.Bytes.{byte}
use Rattle.gfx_model.specs.History.{steps}
use Rattle.gfx_model.specs.Frames.{frames}
use Rattle.gfx_model.specs.Section.{section, fills_of}
use Rattle.gfx_model.specs.Blocks.{header_fault, start_fault, head_fault, framing_fault}
use Rattle.gfx_model.specs.Blocks.End.{clean}
use Rattle.gfx_model.specs.Meaning.{MeansUpTo, RangeEnd, Means, judge}
use Rattle.gfx_model.specs.Trimmed.{cut_before, trimmed_by, boundary, IsTrimmed}
use Rattle.gfx_grammar.specs.Reading.{read_both, read_number, read_raw, read_as, read_items, read_list}
use Rattle.gfx_grammar.specs.Rows.{exactly, present_row, by_row, read_event, read_payload, read_content}
use Rattle.gfx_grammar.specs.Splitting.{front, blocks_within, blocks_from, blocks_of}
use Rattle.gfx_grammar.specs.Reads.{AreBytes}
use Rattle.gfx_grammar.proofs.BlockLaws.{blocks_are_computed}
use Rattle.gfx_trim_law.specs.Law.{HasRange}
use Rattle.gfx_grammar.proofs.ByteLaws.{are_bytes}
use Rattle.gfx_trim_law.proofs.Keeps.{trimming_keeps_frames}
use Rattle.gfx_trim_law.proofs.Follows.{rest_leaves_frames}

-- opens all that is computed here
opened : ℕ
unfolding fields_of spelling id_of type_of payload encoding resources_of live ids used bound mapped buffer signalled acquired executed_changes layout next_frame open_section broken turns_fault layouts_of place_of row_of changes_of_command effect_of byte steps frames section fills_of start_fault header_fault head_fault framing_fault judge cut_before read_number read_raw read_both read_as read_items read_list exactly present_row by_row read_event read_payload read_content front blocks_within blocks_from blocks_of
opened = 0

-- three bytes of memory are copied into the image of a swapchain and shown, and shown again
unfoldable calls : List Event
calls =
    CreateInstance 1 0 ∷ CreateHeadlessSurfaceEXT 1 2 ∷ CreateDevice 1 3 ∷ GetDeviceQueue 3 4
    ∷ CreateSwapchainKHR 3 5 2 1 13 3 1 3 ∷ GetSwapchainImagesKHR 3 5 (6 ∷ []) ∷ CreateFence 3 7 0
    ∷ AllocateMemory 3 8 4 ∷ MapMemory 3 8 0 4 ∷ FillMemory 8 0 (97 ∷ 98 ∷ 99 ∷ [])
    ∷ CreateBuffer 3 9 4 1 ∷ BindBufferMemory 3 9 8 0
    ∷ CreateCommandPool 3 10 2 ∷ AllocateCommandBuffers 3 10 (11 ∷ [])
    ∷ BeginCommandBuffer 11 0
    ∷ CmdPipelineBarrier 11 (record { image = 6; before = 0; after = 7 } ∷ [])
    ∷ CmdCopyBufferToImage 11 9 6 7 (record { offset = 0; row = 0; rows = 0; x = 0; y = 0; width = 3; height = 1 } ∷ [])
    ∷ CmdPipelineBarrier 11 (record { image = 6; before = 7; after = 1000001002 } ∷ [])
    ∷ EndCommandBuffer 11
    ∷ AcquireNextImageKHR 3 5 0 7 0 0 ∷ QueueSubmit 4 (record { waits = []; cbs = 11 ∷ []; signals = [] } ∷ []) 0
    ∷ QueuePresentKHR 4 [] (record { swapchain = 5; index = 0 } ∷ [])
    ∷ ResetFences 3 (7 ∷ []) ∷ AcquireNextImageKHR 3 5 0 7 0 0
    ∷ QueuePresentKHR 4 [] (record { swapchain = 5; index = 0 } ∷ [])
    ∷ []

unfoldable file : List ℕ
unfolding encoding
file = header 1 ++ flat_map (encoding 1 0) calls

-- a frame of three bytes
abbrev shown : ℕ → Frame
shown n = record { number = n; pictures = record { width = 3; height = 1; format = R8Uint; pixels = 97 ∷ 98 ∷ 99 ∷ [] } ∷ [] }

all_below : (xs : List ℕ) → list_all (λ b. nat_lt b 256) xs ≡ true → AllByRecursion (λ b. b < 256) xs
all_below [] e = tt
all_below (x ∷ xs) e =
    let parts = and_parts (nat_lt x 256) (list_all (λ b. nat_lt b 256) xs) e in
    let own = parts.0 in (grind (arith, nat_tests, own), all_below xs parts.1)

ex_bytes : AreBytes file
unfolding opened calls file
ex_bytes = are_bytes file (all_below file refl)

ex_clean : (blocks_of file).end ≡ clean
unfolding opened calls file
ex_clean = refl

ex_shown : frames (judge [] (blocks_of file).items (blocks_of file).end).history ≡ shown 1 ∷ shown 2 ∷ []
unfolding opened calls file
ex_shown = refl

ex_judged_clean : clean ≡ (judge [] (blocks_of file).items (blocks_of file).end).end
unfolding opened calls file
ex_judged_clean = refl

ex_means : Means file (shown 1 ∷ shown 2 ∷ []) clean
ex_means = record {
  blocks = (blocks_of file).items;
  blocks_end = (blocks_of file).end;
  are = (blocks_are_computed file ex_bytes).0;
  shows = sym ex_shown;
  ends = ex_judged_clean;
}

-- frame 2 is inside the file
ex_range : HasRange 2 2 file (shown 1 ∷ shown 2 ∷ [])
ex_range = record {
  bytes_fit = ex_bytes;
  ordered = omega arith;
  means = record {
    all = shown 1 ∷ shown 2 ∷ [];
    file_end = clean;
    means = ex_means;
    shows = refl;
    ends = refl;
  };
  first_there = refl;
}

-- its trimmed file: a section of 23 blocks that builds what is before the frame, and the three blocks of the frame
unfoldable taken : List ℕ
taken = trimmed_by 1 2 2 (boundary 2 (blocks_of file).items)

ex_trimmed : IsTrimmed 2 2 file taken
unfolding opened calls file taken
ex_trimmed = record { blocks = (blocks_of file).items; end = (blocks_of file).end; are = (blocks_are_computed file ex_bytes).0; same = refl }

ex_blocks : length (blocks_of taken).items ≡ 26
unfolding opened calls file taken
ex_blocks = refl

-- by the law it means frame 2 alone
ex_keeps : Means taken (shown 2 ∷ []) clean
ex_keeps = trimming_keeps_frames 2 2 file taken (shown 1 ∷ shown 2 ∷ []) ex_range ex_trimmed

-- and so it is computed
ex_computed : frames (judge [] (blocks_of taken).items (blocks_of taken).end).history ≡ shown 2 ∷ []
unfolding opened calls file taken
ex_computed = refl

-- bytes that are no block, behind the file
ex_follows : MeansUpTo 1 (file ++ (1 ∷ 2 ∷ 3 ∷ [])) (shown 1 ∷ []) RangeEnd.whole
ex_follows = rest_leaves_frames 1 file (1 ∷ 2 ∷ 3 ∷ []) (shown 1 ∷ []) ex_bytes (are_bytes (1 ∷ 2 ∷ 3 ∷ []) (all_below (1 ∷ 2 ∷ 3 ∷ []) refl))
    (record { all = shown 1 ∷ shown 2 ∷ []; file_end = clean; means = ex_means; shows = refl; ends = refl })
