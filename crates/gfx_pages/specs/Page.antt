-- What pages read as.
use Rattle.std.specs.Prelude.{◌≡◌, ℕ, ◌+◌, ◌*◌, ◌<◌, ◌≤◌, List, length, take, replicate}
use Rattle.std.specs.List.{flat_map}
use Rattle.gfx_pages.specs.declared.page.Page.{Page}
use Rattle.gfx_pages.specs.declared.page.Page.TheVariants.{Absent, Kept}

-- the bytes of a page: zeros where it was never written
abbrev pub page_bytes : Page → List ℕ
page_bytes (Absent n) = replicate n 0
page_bytes (Kept a) = a.value.items

-- with pages of s bytes: page i begins at s * i, the pages have n bytes in all, and none is empty
pub record WellPaged (s : ℕ) (pages : List Page) (n : ℕ) : Type 0 where
  pub starts : (i : ℕ) → i < length pages → length (flat_map page_bytes (take i pages)) ≡ s * i
  pub total : length (flat_map page_bytes pages) ≡ n
  pub cover : n ≤ s * length pages
  pub few : s * length pages < n + s
