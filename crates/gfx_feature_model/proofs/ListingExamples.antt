-- Examples of listings.
use Rattle.gfx_model.proofs.ExampleCaptures.{f1, region, wholes}
use Rattle.gfx_model.specs.Blocks.Content.{skipped}
use Rattle.gfx_model.specs.Events.Event.{BeginSection, CmdCopyBufferToImage, CreateInstance, FillMemory}
use Rattle.gfx_feature_model.specs.Listing.{block_text, event_text, header_text}
use Rattle.gfx_model.specs.Spelling.{block_bytes, header}
use Rattle.std.specs.Prelude.{[], codes, refl, ◌++◌, ◌∷◌, ◌≡◌}
use Rattle.gfx_feature_model.specs.Listing.{listing_of}
use Rattle.std.specs.Prelude.{count_by, ◌==◌}
use Rattle.gfx_model.specs.Events.Event.{QueueSubmit, AllocateCommandBuffers}
use Rattle.std.specs.Prelude.{take}
use Rattle.std.proofs.Common.{◌≡◌, [], ◌∷◌, ◌++◌, refl}
use Rattle.std.specs.Prelude.{codes}
use Rattle.gfx_model.specs.Events.Event.{CreateInstance, BeginSection}
use Rattle.gfx_model.specs.Spelling.{header}
use Rattle.gfx_feature_model.specs.Listing.{IsListing}
use Rattle.gfx_feature_model.proofs.Opened.{all}
use Rattle.gfx_model.proofs.FileExamples.{first, file, block, ex_blocks}

ex_list_create : event_text 1 0 (CreateInstance 1 4194304) ≡ codes "thread=0 vkCreateInstance instance=1 api=4194304"
unfolding all
ex_list_create = refl

ex_list_fill : event_text 1 0 (FillMemory 8 0 (97 ∷ 98 ∷ 99 ∷ [])) ≡ codes "thread=0 FillMemory memory=8 offset=0 bytes=616263"
unfolding all
ex_list_fill = refl

ex_list_upload : event_text 1 0 (CmdCopyBufferToImage 11 9 6 7 (region 3 1 ∷ [])) ≡ codes "thread=0 vkCmdCopyBufferToImage cb=11 source=9 target=6 layout=7 regions=[(0,0,0,0,0,3,1)]"
unfolding all
ex_list_upload = refl

ex_list_begin : event_text 1 0 (BeginSection 2) ≡ codes "begin frame=2"
unfolding all
ex_list_begin = refl

ex_list_head : header_text (header 1) ≡ codes "gfxr 1000.1"
unfolding all
ex_list_head = refl

ex_list_skipped : block_text 1 (block_bytes 5 (97 ∷ 255 ∷ [])) skipped ≡ codes "annotation bytes=61ff"
unfolding all
ex_list_skipped = refl

-- a line for the header and one for each block
ex_list_lines : count_by (λ c. c == 10) (listing_of (header 1) (wholes 1 1 16 f1)) ≡ 23
unfolding all
ex_list_lines = refl

ex_list_submit : event_text 1 0 (QueueSubmit 4 (record { waits = []; cbs = 11 ∷ []; signals = [] } ∷ []) 0) ≡ codes "thread=0 vkQueueSubmit queue=4 submits=[([],[11],[])] fence=0"
unfolding all
ex_list_submit = refl

ex_list_made : event_text 2 7 (AllocateCommandBuffers 3 10 (11 ∷ 12 ∷ [])) ≡ codes "thread=7 vkAllocateCommandBuffers device=3 pool=10 buffers=[11,12]"
unfolding all
ex_list_made = refl

ex_list_message : block_text 1 (block_bytes 3 (1 ∷ 0 ∷ 0 ∷ 0 ∷ 97 ∷ [])) skipped ≡ codes "message bytes=61"
unfolding all
ex_list_message = refl

ex_list_options : header_text (take 12 (header 1) ++ 2 ∷ 0 ∷ 0 ∷ 0 ∷ 2 ∷ 0 ∷ 0 ∷ 0 ∷ 9 ∷ 0 ∷ 0 ∷ 0 ∷ 7 ∷ 1 ∷ 0 ∷ 0 ∷ 0 ∷ 0 ∷ 0 ∷ 0 ∷ []) ≡ codes "gfxr 1000.1 2=9 263=0"
unfolding all
ex_list_options = refl

-- its listing, and the file in version 2
ex_listing : IsListing file (codes "gfxr 1000.1\nthread=0 vkDestroyInstance instance=7\n")
unfolding all first file block
ex_listing = record { blocks = block ∷ []; are = ex_blocks; same = refl }
