-- The numbers and names that are in files and in printed lines.
use Rattle.std.specs.Prelude.{ℕ, ◌*◌, ◌==◌, if◌then◌else◌, List, codes, Option, Some, None, option_map, unwrap_or}
use Rattle.gfx_types.specs.declared.names.Format.{Format}
use Rattle.gfx_types.specs.declared.names.Format.TheVariants.{R8Uint, R8G8B8A8Unorm, R8G8B8A8Uint, B8G8R8A8Unorm, R32Uint}
use Rattle.gfx_types.specs.declared.names.Fault.{Fault}
use Rattle.gfx_types.specs.declared.names.Fault.TheVariants.{BadMagic, BadVersion, BadOption, Compressed, Truncated, BlockTooLarge, UnknownBlock, BadParams, TooManyBlocks, StateOrder, NotLive, IdTaken, WrongParent, HasChildren, BadValue, OutOfRange, AlreadyBound, NotBound, MapState, PoolRule, CommandState, UsageMissing, LayoutDiffers, FormatDiffers, SignalState, SwapState, ResultDiffers, LimitReached}

-- the format of a Vulkan number, where it is one of the five
abbrev pub format_of : ℕ → Option Format
format_of n =
    if n == 13 then Some R8Uint else
    if n == 37 then Some R8G8B8A8Unorm else
    if n == 41 then Some R8G8B8A8Uint else
    if n == 44 then Some B8G8R8A8Unorm else
    if n == 98 then Some R32Uint else
    None

-- the size of a texel in bytes
abbrev pub texel_of : Format → ℕ
texel_of R8Uint = 1
texel_of _ = 4

-- the size of a texel of the format of this number, in bytes
abbrev pub texel_size : ℕ → ℕ
texel_size format = unwrap_or (option_map texel_of (format_of format)) 0

-- how many bytes an image has: its texels, tightly packed
abbrev pub image_size : ℕ → ℕ → ℕ → ℕ
image_size format width height = width * height * texel_size format

-- the printed name of a format
abbrev pub format_name : Format → List ℕ
format_name R8Uint = codes "R8_UINT"
format_name R8G8B8A8Unorm = codes "R8G8B8A8_UNORM"
format_name R8G8B8A8Uint = codes "R8G8B8A8_UINT"
format_name B8G8R8A8Unorm = codes "B8G8R8A8_UNORM"
format_name R32Uint = codes "R32_UINT"

-- the printed number of a fault
abbrev pub fault_number : Fault → ℕ
fault_number BadMagic = 1
fault_number BadVersion = 2
fault_number BadOption = 3
fault_number Compressed = 4
fault_number Truncated = 5
fault_number BlockTooLarge = 6
fault_number UnknownBlock = 7
fault_number BadParams = 8
fault_number TooManyBlocks = 9
fault_number StateOrder = 10
fault_number NotLive = 11
fault_number IdTaken = 12
fault_number WrongParent = 13
fault_number HasChildren = 14
fault_number BadValue = 15
fault_number OutOfRange = 16
fault_number AlreadyBound = 17
fault_number NotBound = 18
fault_number MapState = 19
fault_number PoolRule = 20
fault_number CommandState = 21
fault_number UsageMissing = 22
fault_number LayoutDiffers = 23
fault_number FormatDiffers = 24
fault_number SignalState = 25
fault_number SwapState = 26
fault_number ResultDiffers = 27
fault_number LimitReached = 28

-- the printed name of a fault
abbrev pub fault_name : Fault → List ℕ
fault_name BadMagic = codes "BadMagic"
fault_name BadVersion = codes "BadVersion"
fault_name BadOption = codes "BadOption"
fault_name Compressed = codes "Compressed"
fault_name Truncated = codes "Truncated"
fault_name BlockTooLarge = codes "BlockTooLarge"
fault_name UnknownBlock = codes "UnknownBlock"
fault_name BadParams = codes "BadParams"
fault_name TooManyBlocks = codes "TooManyBlocks"
fault_name StateOrder = codes "StateOrder"
fault_name NotLive = codes "NotLive"
fault_name IdTaken = codes "IdTaken"
fault_name WrongParent = codes "WrongParent"
fault_name HasChildren = codes "HasChildren"
fault_name BadValue = codes "BadValue"
fault_name OutOfRange = codes "OutOfRange"
fault_name AlreadyBound = codes "AlreadyBound"
fault_name NotBound = codes "NotBound"
fault_name MapState = codes "MapState"
fault_name PoolRule = codes "PoolRule"
fault_name CommandState = codes "CommandState"
fault_name UsageMissing = codes "UsageMissing"
fault_name LayoutDiffers = codes "LayoutDiffers"
fault_name FormatDiffers = codes "FormatDiffers"
fault_name SignalState = codes "SignalState"
fault_name SwapState = codes "SwapState"
fault_name ResultDiffers = codes "ResultDiffers"
fault_name LimitReached = codes "LimitReached"
