-- What a capture may hold at most. Sizes are in bytes.
use Rattle.std.specs.Prelude.{ℕ, ◌^◌}

-- options in the header
abbrev pub max_options : ℕ
max_options = 16

-- the payload of a block
abbrev pub max_payload : ℕ
max_payload = 2 ^ 27

-- blocks on a side of the state section
abbrev pub max_side_blocks : ℕ
max_side_blocks = 2 ^ 32

-- the number of a frame
abbrev pub max_frame : ℕ
max_frame = 2 ^ 62

-- objects that are live at a time
abbrev pub max_live_objects : ℕ
max_live_objects = 65536

-- the bytes of live memory and of the images of live swapchains
abbrev pub max_live_bytes : ℕ
max_live_bytes = 2 ^ 28

-- command buffers or fences in the list of a call
abbrev pub max_list_length : ℕ
max_list_length = 65536

-- the width and the height of an image, in texels
abbrev pub max_extent : ℕ
max_extent = 4096

-- the bytes of an image of this extent
abbrev pub max_image_size : ℕ
max_image_size = 2 ^ 26

-- the images of a swapchain
abbrev pub max_swapchain_images : ℕ
max_swapchain_images = 16

-- commands that live command buffers keep
abbrev pub max_kept_commands : ℕ
max_kept_commands = 2 ^ 20

-- the bytes of the fields of these commands
abbrev pub max_kept_bytes : ℕ
max_kept_bytes = 2 ^ 28

-- regions of a copy
abbrev pub max_regions : ℕ
max_regions = 256

-- barriers of a call
abbrev pub max_barriers : ℕ
max_barriers = 256

-- the bytes of a buffer's update
abbrev pub max_update : ℕ
max_update = 65536

-- submits of a call
abbrev pub max_submits : ℕ
max_submits = 16

-- semaphores that a submit or a present waits for, and those that a submit signals
abbrev pub max_semaphores : ℕ
max_semaphores = 16

-- the command buffers of a submit
abbrev pub max_submit_buffers : ℕ
max_submit_buffers = 64

-- swapchains that one call presents
abbrev pub max_presents : ℕ
max_presents = 8

-- what divides the offset at which a resource is bound
abbrev pub bind_alignment : ℕ
bind_alignment = 16

-- the bytes of a page of memory
abbrev pub page_size : ℕ
page_size = 65536

-- ---- scripts and logs

-- a line of a script
abbrev pub max_line : ℕ
max_line = 2 ^ 20

-- the lines of a script
abbrev pub max_lines : ℕ
max_lines = 2 ^ 20

-- the text of a script
abbrev pub max_script : ℕ
max_script = 2 ^ 30

-- the phases of a script
abbrev pub max_phases : ℕ
max_phases = 64

-- a log, with its header
abbrev pub max_log : ℕ
max_log = 2 ^ 28
