-- Marks of acquired images, by the id of the swapchain and the index of the image.
use Rattle.std.specs.Prelude.{ℕ, Bool, false, List, [], slice_get, unwrap_or}
use Rattle.std.specs.Ordering.{nat_cmp}
use Rattle.std.specs.FinMap as map
use Rattle.std.specs.FinMap.{FinMap}

-- the marks of a swapchain, one an image
abbrev pub marks_of : FinMap nat_cmp (List Bool) → ℕ → List Bool
marks_of swapchains swapchain = unwrap_or (map.get swapchains swapchain) []

-- the image is kept and acquired
abbrev pub is_acquired : FinMap nat_cmp (List Bool) → ℕ → ℕ → Bool
is_acquired swapchains swapchain index = unwrap_or (slice_get (marks_of swapchains swapchain) index) false
