-- Examples of the fills of several pages.
use Rattle.gfx_model.proofs.ExampleCaptures.{all}
use Rattle.gfx_model.proofs.ExampleCaptures.{f1, bytes_of, frame2}
use Rattle.gfx_model.specs.Events.{Event}
use Rattle.gfx_model.specs.Events.Event.{AllocateMemory, FillMemory}
use Rattle.gfx_model.specs.History.{onto}
use Rattle.gfx_model.specs.Bytes.{byte}
use Rattle.gfx_model.specs.Section.{fills_of, section}
use Rattle.gfx_model.specs.Steps.Change.{put}
use Rattle.gfx_types.specs.declared.op.Place.TheVariants as place
use Rattle.std.specs.Prelude.{List, [], take, drop, ◌+◌, refl, ◌∷◌, ◌++◌, ◌≡◌}

-- bytes on both sides of a page's end are two fills
ex_two_pages : fills_of (byte (put (place.Memory 8) 65535 (1 ∷ 0 ∷ 2 ∷ []) ∷ []) (place.Memory 8)) 131073 ≡
    record { at = 65535; length = 1 } ∷ record { at = 65537; length = 1 } ∷ []
unfolding all
ex_two_pages = refl

-- a memory of two pages with bytes in both: two fills, and the lean file without the second
unfoldable pub two_pages : List Event
two_pages = onto (take 7 f1 ++ AllocateMemory 3 8 131072 ∷ drop 8 (take 10 f1) ++ FillMemory 8 70000 (100 ∷ []) ∷ drop 10 f1) []

ex_two_fills : 16 + bytes_of (section two_pages 2) + bytes_of frame2 ≡ 1359
unfolding all two_pages
ex_two_fills = refl
