-- Objects that are sought among the live ones.
use Rattle.std.specs.Prelude.{ℕ, Bool, ◌==◌, ◌&&◌, List, filter}
use Rattle.gfx_model.specs.Steps.{Object}
use Rattle.gfx_model.specs.Views.{View, is_one, is_queue, has_index}
use Rattle.gfx_tracker.specs.declared.sought.Sought.{Sought}
use Rattle.gfx_tracker.specs.declared.sought.Sought.TheVariants as sought

-- the object is one of those that are sought
abbrev pub is_sought : Sought → Object → Bool
is_sought (sought.QueueOf device) o = o.parent == device && is_queue o.detail
is_sought (sought.ImageAt swapchain index) o = o.parent == swapchain && has_index index o.detail

-- the ids of those that are live, rising
abbrev pub sought_in : View → Sought → List ℕ
sought_in v s = filter (is_one v (is_sought s)) v.ids
