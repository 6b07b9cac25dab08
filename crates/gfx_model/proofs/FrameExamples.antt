-- Examples of frames and their bytes.
use Rattle.gfx_model.proofs.ExampleCaptures.{after, all, both, f1, pixels_of, region, z2}
use Rattle.gfx_model.specs.Effects.{upload}
use Rattle.gfx_model.specs.Events.{Event}
use Rattle.gfx_model.specs.Events.Event.{AllocateCommandBuffers, AllocateMemory, BeginCommandBuffer, BindBufferMemory, CmdClearColorImage, CmdCopyBuffer, CmdCopyBufferToImage, CmdFillBuffer, CmdPipelineBarrier, CreateBuffer, CreateCommandPool, CreateDevice, CreateFence, CreateHeadlessSurfaceEXT, CreateInstance, CreateSwapchainKHR, FillMemory, GetDeviceQueue, GetSwapchainImagesKHR, MapMemory}
use Rattle.gfx_model.specs.Frames.{frames}
use Rattle.gfx_model.specs.History.{fault, onto}
use Rattle.gfx_types.specs.declared.names.Fault.TheVariants.{FormatDiffers}
use Rattle.gfx_types.specs.declared.names.Format.TheVariants.{R8Uint}
use Rattle.std.specs.Prelude.{List, Some, [], drop, refl, ℕ, ◌++◌, ◌∷◌, ◌≡◌}
use Rattle.gfx_model.specs.Text.{frames_text, line}
use Rattle.std.specs.Prelude.{true}
use Rattle.std.specs.Prelude.{codes, ◌++◌}

-- the frame shows the bytes 61 62 63
ex_frame : frames (after 22) ≡ record { number = 1; pictures = record { width = 3; height = 1; format = R8Uint; pixels = 97 ∷ 98 ∷ 99 ∷ [] } ∷ [] } ∷ []
unfolding all
ex_frame = refl

-- an image of width w, a buffer of `size` bytes with usage 3 over these bytes, and more commands before the upload
upload_row : ℕ → ℕ → ℕ → ℕ → List ℕ → List Event → Event → List Event
upload_row format w height size bytes more upload = onto (
    CreateInstance 1 4194304 ∷
    CreateHeadlessSurfaceEXT 1 2 ∷
    CreateDevice 1 3 ∷
    GetDeviceQueue 3 4 ∷
    CreateSwapchainKHR 3 5 2 1 format w height 3 ∷
    GetSwapchainImagesKHR 3 5 (6 ∷ []) ∷
    CreateFence 3 7 0 ∷
    AllocateMemory 3 8 64 ∷
    MapMemory 3 8 0 18446744073709551615 ∷
    FillMemory 8 0 bytes ∷
    CreateBuffer 3 9 size 3 ∷
    BindBufferMemory 3 9 8 0 ∷
    CreateCommandPool 3 10 2 ∷
    AllocateCommandBuffers 3 10 (11 ∷ []) ∷
    BeginCommandBuffer 11 0 ∷
    CmdPipelineBarrier 11 (record { image = 6; before = 0; after = 7 } ∷ []) ∷
    more ++
    upload ∷
    drop 17 f1) []

-- regions are copied in order, and each row is read whole
ex_overlap : pixels_of (frames (upload_row 13 8 1 16 (97 ∷ 98 ∷ 99 ∷ 100 ∷ 101 ∷ 102 ∷ 103 ∷ 104 ∷ [])
    (CmdCopyBuffer 11 9 9 (record { from = 0; to = 2; size = 4 } ∷ record { from = 2; to = 0; size = 4 } ∷ []) ∷ [])
    (CmdCopyBufferToImage 11 9 6 7 (region 8 1 ∷ [])))) ≡ 97 ∷ 98 ∷ 99 ∷ 100 ∷ 99 ∷ 100 ∷ 103 ∷ 104 ∷ []
unfolding all upload_row
ex_overlap = refl

-- a fill of the whole rest is rounded down to a multiple of 4
ex_whole_fill : pixels_of (frames (upload_row 13 10 1 10 (97 ∷ 98 ∷ 99 ∷ []) (CmdFillBuffer 11 9 0 18446744073709551615 16909060 ∷ [])
    (CmdCopyBufferToImage 11 9 6 7 (region 10 1 ∷ [])))) ≡ 4 ∷ 3 ∷ 2 ∷ 1 ∷ 4 ∷ 3 ∷ 2 ∷ 1 ∷ 0 ∷ 0 ∷ []
unfolding all upload_row
ex_whole_fill = refl

-- a clear stores the low bits of the component
ex_clear : pixels_of (frames (upload_row 13 1 1 16 (97 ∷ 98 ∷ 99 ∷ []) [] (CmdClearColorImage 11 6 7 256 0 0 0))) ≡ 0 ∷ []
unfolding all upload_row
ex_clear = refl

ex_clear_unorm : fault (drop 6 (upload_row 37 1 1 16 (97 ∷ 98 ∷ 99 ∷ []) [] (CmdClearColorImage 11 6 7 256 0 0 0))) (CmdClearColorImage 11 6 7 256 0 0 0) ≡ Some FormatDiffers
unfolding all upload_row
ex_clear_unorm = refl

ex_z2_frames : frames (onto (z2 both) []) ≡ record { number = 1; pictures = record { width = 1; height = 1; format = R8Uint; pixels = 0 ∷ [] } ∷ record { width = 1; height = 1; format = R8Uint; pixels = 0 ∷ [] } ∷ [] } ∷ []
unfolding all
ex_z2_frames = refl

-- two rows of seven texels of four bytes
letters : List ℕ
letters = codes "abcdbcdecdefdefgefghfghighijhijkijkljklmklmnlmnomnopnopq"

ex_rows : frames_text 1 (λ bytes. 171 ∷ []) true (frames (upload_row 44 7 2 56 letters [] (CmdCopyBufferToImage 11 9 6 7 (region 7 2 ∷ [])))) ≡
    line (codes "frame 1 7x2 B8G8R8A8_UNORM ab")
    ++ line (codes "6162636462636465636465666465666765666768666768696768696a") ++ line (codes "68696a6b696a6b6c6a6b6c6d6b6c6d6e6c6d6e6f6d6e6f706e6f7071")
    ++ line (codes "frames 1")
unfolding all upload_row letters
ex_rows = refl
