-- Examples of sections, of trimmed and of lean files.
use Rattle.gfx_model.proofs.ExampleCaptures.{after, all, both, bytes_of, f1, f3, file3, frame2, other_memory, pixels_of, region, second_device, wholes, z2}
use Rattle.gfx_model.specs.Blocks.{Whole}
use Rattle.gfx_model.specs.Bytes.{byte}
use Rattle.gfx_model.specs.Checks.{first}
use Rattle.gfx_model.specs.Events.{Event}
use Rattle.gfx_model.specs.Events.Event.{AcquireNextImageKHR, AllocateCommandBuffers, BeginCommandBuffer, BindBufferMemory, CmdCopyBufferToImage, CmdPipelineBarrier, CreateBuffer, EndCommandBuffer, FreeMemory, GetDeviceQueue, QueuePresentKHR, QueueSubmit, ResetFences}
use Rattle.gfx_model.specs.Frames.{frames}
use Rattle.gfx_model.specs.History.{is_valid, onto}
use Rattle.gfx_model.specs.Section.{nonzero, section, span_of}
use Rattle.gfx_model.specs.Spelling.{encoding, header, id_of}
use Rattle.gfx_model.specs.Trimmed.{boundary, trimmed_by}
use Rattle.gfx_types.specs.declared.names.Format.TheVariants.{R8Uint}
use Rattle.std.specs.Prelude.{List, Some, [], drop, flat_map, length, map, refl, take, true, ℕ, ◌++◌, ◌+◌, ◌∷◌, ◌≡◌}
use Rattle.gfx_types.specs.declared.op.Place.TheVariants as place
use Rattle.gfx_model.specs.Steps.Change.{put}
use Rattle.gfx_model.specs.Blocks.Content.{skipped}
use Rattle.gfx_model.specs.Spelling.{block_bytes}
use Rattle.gfx_model.specs.Events.Event.{BeginSection, EndSection}

ex_section_blocks : length (section (after 22) 2) ≡ 23
unfolding all
ex_section_blocks = refl

ex_section_bytes : bytes_of (section (after 22) 2) ≡ 1074
unfolding all
ex_section_bytes = refl

ex_section_valid : is_valid (onto frame2 (onto (section (after 22) 2) [])) ≡ true
unfolding all
ex_section_valid = refl

ex_section_frames : frames (onto frame2 (onto (section (after 22) 2) [])) ≡ record { number = 2; pictures = record { width = 3; height = 1; format = R8Uint; pixels = 97 ∷ 98 ∷ 99 ∷ [] } ∷ [] } ∷ []
unfolding all
ex_section_frames = refl

-- a frame later the memory is freed: its buffer is unbound, and the command buffer is initial
freed : List Event
freed = FreeMemory 3 8 ∷ ResetFences 3 (7 ∷ []) ∷ AcquireNextImageKHR 3 5 0 7 0 0 ∷ QueuePresentKHR 4 [] (record { swapchain = 5; index = 0 } ∷ []) ∷ []

ex_freed_blocks : length (section (onto freed (after 22)) 3) ≡ 14
unfolding all freed
ex_freed_blocks = refl

-- 16 bytes of header, and the 156 bytes of a frame without a submit
ex_freed_bytes : 16 + bytes_of (section (onto freed (after 22)) 3) + bytes_of (drop 1 freed) ≡ 775
unfolding all freed
ex_freed_bytes = refl

-- trimmed to frame 2, to frame 1 and to frames 2 and 3
trimmed_length : ℕ → ℕ → ℕ
trimmed_length first last = length (trimmed_by 1 first last (boundary first file3))

ex_trim_2 : trimmed_length 2 2 ≡ 1310
unfolding all trimmed_length
ex_trim_2 = refl

ex_trim_1 : trimmed_length 1 1 ≡ 1179
unfolding all trimmed_length
ex_trim_1 = refl

ex_trim_2_3 : trimmed_length 2 3 ≡ 1530
unfolding all trimmed_length
ex_trim_2_3 = refl

-- the trimmed file of frames 2 and 3, trimmed again to frame 3, is the trimmed file of frame 3
again : List Whole
again = wholes 1 1 16 (section (after 22) 2 ++ frame2 ++ frame2)

ex_trim_again : trimmed_by 1 3 3 (boundary 3 again) ≡ trimmed_by 1 3 3 (boundary 3 file3)
unfolding all again
ex_trim_again = refl

-- frame 3 records the buffer anew from it
unfoldable pub from_other : List Event
from_other =
    CreateBuffer 3 13 16 1 ∷
    BindBufferMemory 3 13 12 0 ∷
    BeginCommandBuffer 11 0 ∷
    CmdPipelineBarrier 11 (record { image = 6; before = 0; after = 7 } ∷ []) ∷
    CmdCopyBufferToImage 11 13 6 7 (region 3 1 ∷ []) ∷
    CmdPipelineBarrier 11 (record { image = 6; before = 7; after = 1000001002 } ∷ []) ∷
    EndCommandBuffer 11 ∷
    frame2

unfoldable pub before_3 : List Event
before_3 = onto (take 21 f1 ++ other_memory ++ drop 21 f1 ++ frame2) []

ex_other_memory : pixels_of (frames (onto from_other (onto (section before_3 3) []))) ≡ 120 ∷ 121 ∷ 122 ∷ []
unfolding all before_3 from_other
ex_other_memory = refl

ex_other_valid : is_valid (onto from_other (onto (section before_3 3) [])) ≡ true
unfolding all before_3 from_other
ex_other_valid = refl

waits_for_it : List Event
waits_for_it = GetDeviceQueue 20 24 ∷ QueueSubmit 24 (record { waits = 23 ∷ []; cbs = []; signals = [] } ∷ []) 0 ∷ frame2

before_2 : List Event
before_2 = onto (take 21 f1 ++ second_device ++ drop 21 f1) []

ex_signal_kept : is_valid (onto waits_for_it (onto (section before_2 2) [])) ≡ true
unfolding all before_2 waits_for_it
ex_signal_kept = refl

unfoldable pub with_other : List Event
with_other = onto (take 21 f1 ++ other_memory ++ drop 21 f1) []

ex_trim_other : 16 + bytes_of (section with_other 2) + bytes_of frame2 ≡ 1465
unfolding all with_other
ex_trim_other = refl

-- the frames of the file are 1 to 3
ex_numbers : map (λ f. f.number) (frames (onto f3 [])) ≡ 1 ∷ 2 ∷ 3 ∷ []
unfolding all
ex_numbers = refl

-- the 27 blocks of the trimmed file: 23 of the section, and the four of frame 2 unchanged
ex_trim_blocks : length (section (after 22) 2 ++ frame2) ≡ 27
unfolding all
ex_trim_blocks = refl

ex_trim_bytes : drop 1090 (trimmed_by 1 2 2 (boundary 2 file3)) ≡ flat_map (encoding 1 0) frame2
unfolding all
ex_trim_bytes = refl

-- buffer 12 is recording at the boundary: the section begins it and does not end it
with_recording : List Event
with_recording = take 19 f1 ++ AllocateCommandBuffers 3 10 (12 ∷ []) ∷ BeginCommandBuffer 12 0 ∷ drop 19 f1

ends_12 : List Event
ends_12 = EndCommandBuffer 12 ∷ frame2

ex_recording_bytes : length (trimmed_by 1 2 2 (boundary 2 (wholes 1 1 16 (with_recording ++ ends_12)))) ≡ 1386
unfolding all with_recording ends_12
ex_recording_bytes = refl

ex_recording_kept : is_valid (onto ends_12 (onto (section (onto with_recording []) 2) [])) ≡ true
unfolding all with_recording ends_12
ex_recording_kept = refl

-- after memory was freed: no map, no binding, and a command buffer that is initial
ex_freed_ids : map id_of (section (onto freed (after 22)) 3) ≡ 1 ∷ 1 ∷ 3 ∷ 5 ∷ 7 ∷ 12 ∷ 44 ∷ 46 ∷ 4 ∷ 3 ∷ 34 ∷ 18 ∷ 21 ∷ 2 ∷ []
unfolding all freed
ex_freed_ids = refl

ex_freed_frame : pixels_of (frames (onto (drop 1 freed) (onto (section (onto freed (after 22)) 3) []))) ≡ 97 ∷ 98 ∷ 99 ∷ []
unfolding all freed
ex_freed_frame = refl

ex_signal_frame : frames (onto waits_for_it (onto (section before_2 2) [])) ≡ record { number = 2; pictures = record { width = 3; height = 1; format = R8Uint; pixels = 97 ∷ 98 ∷ 99 ∷ [] } ∷ [] } ∷ []
unfolding all before_2 waits_for_it
ex_signal_frame = refl

-- a present of two swapchains: the trimmed file has the minor version of the input
ex_trim_both : length (trimmed_by 2 1 1 (boundary 1 (wholes 2 1 16 (z2 both)))) ≡ 1076
unfolding all
ex_trim_both = refl

ex_trim_minor : take 16 (trimmed_by 2 1 1 (boundary 1 (wholes 2 1 16 (z2 both)))) ≡ header 2
unfolding all
ex_trim_minor = refl

-- from the first byte that isn't 0 to the last
ex_span : span_of (nonzero (byte (put (place.Memory 8) 3 (1 ∷ 0 ∷ 2 ∷ []) ∷ []) (place.Memory 8)) 0 8) ≡ Some (record { at = 3; length = 3 })
unfolding all
ex_span = refl

-- a block of 13 bytes that is skipped, before everything else
lead : Whole
lead = record { number = 1; offset = 16; bytes = block_bytes 1 (7 ∷ []); content = skipped }

-- it is in frame 1 of a file without a section, and before a begin marker it is in no frame
ex_lead : length (trimmed_by 1 1 1 (boundary 1 (lead ∷ wholes 1 2 29 f1))) ≡ 1192
unfolding all lead
ex_lead = refl

ex_lead_section : length (trimmed_by 1 1 1 (boundary 1 (lead ∷ wholes 1 2 29 (BeginSection 1 ∷ EndSection 1 ∷ f1)))) ≡ 1179
unfolding all lead
ex_lead_section = refl
