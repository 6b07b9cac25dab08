-- Checks of the code as those of the definitions.
use Rattle.gfx_model.specs.Checks as model
use Rattle.std.specs.Prelude.{[]}
use Rattle.gfx_rules.specs.declared.checks.Check.{Check}
use Rattle.gfx_rules.specs.declared.checks.Check.TheVariants as check

-- the word of the table that a check of the code says
abbrev pub check_of : Check → model.Check
check_of (check.Must f b) = model.Check.must f b
check_of check.Inside = model.Check.inside
check_of check.AtStart = model.Check.at_start
check_of (check.EndsFrame frame) = model.Check.ends_frame frame
check_of (check.Live k x) = model.Check.live k x
check_of (check.Of x p) = model.Check.of x p
check_of (check.Near x p) = model.Check.near x p
check_of (check.New x) = model.Check.new [] x
check_of (check.Room n) = model.Check.room n
check_of (check.RoomFor n) = model.Check.room_for n
check_of (check.Childless x) = model.Check.childless x
check_of (check.ChildlessButQueue x) = model.Check.childless_but_queue x
check_of (check.BareSurface x) = model.Check.bare_surface x
check_of (check.FreeSurface x) = model.Check.free_surface x
check_of (check.SameInstance x y) = model.Check.same_instance x y
check_of (check.TheQueue device queue) = model.Check.the_queue device queue
check_of (check.TheImages swapchain images) = model.Check.the_images swapchain images.now
check_of (check.EndsIn x end) = model.Check.ends_in x end
check_of (check.RestsIn x memory offset) = model.Check.rests_in x memory offset
check_of (check.Unmapped x) = model.Check.unmapped x
check_of (check.IsMapped x) = model.Check.is_mapped x
check_of (check.Unbound x) = model.Check.unbound x
check_of (check.Usable x) = model.Check.usable x
check_of (check.MayReset x) = model.Check.may_reset x
check_of (check.TexelDivides x offset) = model.Check.texel_divides x offset
check_of (check.AreaIn image x y width height) = model.Check.area_in image x y width height
check_of (check.RowsIn buffer image offset row width height) = model.Check.rows_in buffer image offset row width height
check_of (check.TellsAll is xs) = model.Check.tells_all is xs.now
check_of (check.TellsSome is xs) = model.Check.tells_some is xs.now
check_of (check.Unsignalled x) = model.Check.unsignalled x
check_of (check.IndexIn x index) = model.Check.index_in x index
check_of (check.IsAcquired x index) = model.Check.is_acquired x index
check_of (check.NotAcquired x index) = model.Check.not_acquired x index
check_of (check.Presentable x index) = model.Check.presentable x index
check_of (check.AllAcquired x) = model.Check.all_acquired x
check_of check.FrameRoom = model.Check.frame_room
check_of (check.MayFill x) = model.Check.may_fill x
check_of (check.FillIn x offset n) = model.Check.fill_in x offset n
check_of (check.ImageBytes x n) = model.Check.image_bytes x n
check_of (check.OneEach x n) = model.Check.one_each x n
