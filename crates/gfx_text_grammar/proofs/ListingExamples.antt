-- Worked examples of words and listings, computed.
use Rattle.gfx_text_grammar.proofs.Opened.{all}
use Rattle.std.specs.Prelude.{◌≡◌, ◌^◌, ℕ, List, [], ◌∷◌, ◌++◌, length, flat_map, map, option_map, Some, None, refl, codes}
use Rattle.gfx_model.specs.Events.Event.{CreateInstance, FillMemory, QueueSubmit, QueuePresentKHR}
use Rattle.gfx_model.specs.Spelling.{encoding, block_bytes, header}
use Rattle.gfx_model.specs.Blocks.{skipped, effect}
use Rattle.gfx_model.specs.Text.{line}
use Rattle.gfx_text_grammar.specs.Words.{number_in, raw_in}
use Rattle.gfx_text_grammar.specs.Lines.{read_line}
use Rattle.gfx_text_grammar.specs.Listings.{read_header, file_of, read_listing}

ex_number : number_in (2 ^ 32) (codes "4294967295") ≡ Some 4294967295
unfolding all
ex_number = refl

ex_number_wide : number_in (2 ^ 32) (codes "4294967296") ≡ None
unfolding all
ex_number_wide = refl

ex_number_zero : number_in (2 ^ 32) (codes "00") ≡ None
unfolding all
ex_number_zero = refl

ex_number_none : number_in (2 ^ 32) [] ≡ None
unfolding all
ex_number_none = refl

ex_bytes : raw_in (codes "61ff") ≡ Some (97 ∷ 255 ∷ [])
unfolding all
ex_bytes = refl

ex_bytes_odd : raw_in (codes "61f") ≡ None
unfolding all
ex_bytes_odd = refl

ex_bytes_upper : raw_in (codes "FF") ≡ None
unfolding all
ex_bytes_upper = refl

ex_create : read_line 1 (codes "thread=0 vkCreateInstance instance=1 api=4194304") ≡ Some (record { bytes = encoding 1 0 (CreateInstance 1 4194304); content = effect 0 (CreateInstance 1 4194304) })
unfolding all
ex_create = refl

ex_fill : read_line 1 (codes "thread=0 FillMemory memory=8 offset=0 bytes=616263") ≡ Some (record { bytes = encoding 1 0 (FillMemory 8 0 (97 ∷ 98 ∷ 99 ∷ [])); content = effect 0 (FillMemory 8 0 (97 ∷ 98 ∷ 99 ∷ [])) })
unfolding all
ex_fill = refl

ex_submit : option_map (λ p. p.content) (read_line 1 (codes "thread=7 vkQueueSubmit queue=4 submits=[([],[11,12],[]),([1],[],[2])] fence=0"))
    ≡ Some (effect 7 (QueueSubmit 4 (record { waits = []; cbs = 11 ∷ 12 ∷ []; signals = [] } ∷ record { waits = 1 ∷ []; cbs = []; signals = 2 ∷ [] } ∷ []) 0))
unfolding all
ex_submit = refl

ex_present_1 : option_map (λ p. p.content) (read_line 1 (codes "thread=0 vkQueuePresentKHR queue=4 waits=[] swapchain=5 index=0"))
    ≡ Some (effect 0 (QueuePresentKHR 4 [] (record { swapchain = 5; index = 0 } ∷ [])))
unfolding all
ex_present_1 = refl

ex_present_2 : option_map (λ p. p.content) (read_line 2 (codes "thread=0 vkQueuePresentKHR queue=4 waits=[] presents=[(5,0),(6,1)]"))
    ≡ Some (effect 0 (QueuePresentKHR 4 [] (record { swapchain = 5; index = 0 } ∷ record { swapchain = 6; index = 1 } ∷ [])))
unfolding all
ex_present_2 = refl

ex_present_versions : read_line 2 (codes "thread=0 vkQueuePresentKHR queue=4 waits=[] swapchain=5 index=0") ≡ None
unfolding all
ex_present_versions = refl

-- a leading zero, two spaces, a space at an end, a field too few, and a field out of order
ex_zero : read_line 1 (codes "thread=00 vkDeviceWaitIdle device=3") ≡ None
unfolding all
ex_zero = refl

ex_spaces : read_line 1 (codes "thread=0  vkDeviceWaitIdle device=3") ≡ None
unfolding all
ex_spaces = refl

ex_space_end : read_line 1 (codes "thread=0 vkDeviceWaitIdle device=3 ") ≡ None
unfolding all
ex_space_end = refl

ex_few : read_line 1 (codes "thread=0 vkCreateInstance instance=1") ≡ None
unfolding all
ex_few = refl

ex_order : read_line 1 (codes "thread=0 vkCreateInstance api=1 instance=1") ≡ None
unfolding all
ex_order = refl

ex_frame : read_line 1 (codes "frame bytes=") ≡ Some (record { bytes = block_bytes 1 []; content = skipped })
unfolding all
ex_frame = refl

ex_message : read_line 1 (codes "message bytes=61") ≡ Some (record { bytes = block_bytes 3 (1 ∷ 0 ∷ 0 ∷ 0 ∷ 97 ∷ []); content = skipped })
unfolding all
ex_message = refl

ex_header : read_header (codes "gfxr 1000.1") ≡ Some (header 1)
unfolding all
ex_header = refl

ex_header_options : option_map length (read_header (codes "gfxr 1000.2 1=0 7=9")) ≡ Some 32
unfolding all
ex_header_options = refl

-- keys rise
ex_header_fall : read_header (codes "gfxr 1000.2 7=9 1=0") ≡ None
unfolding all
ex_header_fall = refl

ex_header_version : read_header (codes "gfxr 1000.3") ≡ None
unfolding all
ex_header_version = refl

-- the listing of the smallest capture: 23 lines, of a file of 1,131 bytes
abbrev first_listing : List ℕ
first_listing = flat_map line (codes "gfxr 1000.1"
    ∷ codes "thread=0 vkCreateInstance instance=1 api=4194304"
    ∷ codes "thread=0 vkCreateHeadlessSurfaceEXT instance=1 surface=2"
    ∷ codes "thread=0 vkCreateDevice instance=1 device=3"
    ∷ codes "thread=0 vkGetDeviceQueue device=3 queue=4"
    ∷ codes "thread=0 vkCreateSwapchainKHR device=3 swapchain=5 surface=2 images=1 format=13 width=3 height=1 usage=3"
    ∷ codes "thread=0 vkGetSwapchainImagesKHR device=3 swapchain=5 images=[6]"
    ∷ codes "thread=0 vkCreateFence device=3 fence=7 flags=0"
    ∷ codes "thread=0 vkAllocateMemory device=3 memory=8 size=64"
    ∷ codes "thread=0 vkMapMemory device=3 memory=8 offset=0 size=18446744073709551615"
    ∷ codes "thread=0 FillMemory memory=8 offset=0 bytes=616263"
    ∷ codes "thread=0 vkCreateBuffer device=3 buffer=9 size=16 usage=1"
    ∷ codes "thread=0 vkBindBufferMemory device=3 buffer=9 memory=8 offset=0"
    ∷ codes "thread=0 vkCreateCommandPool device=3 pool=10 flags=2"
    ∷ codes "thread=0 vkAllocateCommandBuffers device=3 pool=10 buffers=[11]"
    ∷ codes "thread=0 vkBeginCommandBuffer cb=11 flags=0"
    ∷ codes "thread=0 vkCmdPipelineBarrier cb=11 barriers=[(6,0,7)]"
    ∷ codes "thread=0 vkCmdCopyBufferToImage cb=11 source=9 target=6 layout=7 regions=[(0,0,0,0,0,3,1)]"
    ∷ codes "thread=0 vkCmdPipelineBarrier cb=11 barriers=[(6,7,1000001002)]"
    ∷ codes "thread=0 vkEndCommandBuffer cb=11"
    ∷ codes "thread=0 vkAcquireNextImageKHR device=3 swapchain=5 semaphore=0 fence=7 index=0 answer=0"
    ∷ codes "thread=0 vkQueueSubmit queue=4 submits=[([],[11],[])] fence=0"
    ∷ codes "thread=0 vkQueuePresentKHR queue=4 waits=[] swapchain=5 index=0" ∷ [])

ex_first : option_map (λ l. length (file_of l)) (read_listing first_listing) ≡ Some 1131
unfolding all
ex_first = refl

ex_first_sizes : option_map (λ l. map (λ p. length p.bytes) l.parts) (read_listing first_listing)
    ≡ Some (36 ∷ 40 ∷ 40 ∷ 40 ∷ 68 ∷ 52 ∷ 44 ∷ 48 ∷ 56 ∷ 51 ∷ 52 ∷ 56 ∷ 44 ∷ 52 ∷ 36 ∷ 52 ∷ 88 ∷ 52 ∷ 32 ∷ 64 ∷ 64 ∷ 48 ∷ [])
unfolding all
ex_first_sizes = refl

-- no text, a header without a line feed, and a bad second line
ex_empty : read_listing [] ≡ None
unfolding all
ex_empty = refl

ex_no_feed : read_listing (codes "gfxr 1000.1") ≡ None
unfolding all
ex_no_feed = refl

ex_bad : read_listing (line (codes "gfxr 1000.1") ++ line (codes "thread=00 vkDeviceWaitIdle device=3")) ≡ None
unfolding all
ex_bad = refl
