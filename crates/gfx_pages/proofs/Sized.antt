-- Fills of pages of any size, as the program has them; those of a list of bytes are one case.
use Rattle.std.proofs.Common.{◌≡◌, ℕ, ◌+◌, ◌-◌, ◌*◌, ◌/◌, List, [], ◌∷◌, Option, Some, None, map, length, min, refl, ap}
use Rattle.std.specs.Prelude.{option_map, slice_index}
use Rattle.std.specs.List.{filter_map, range_with_len, cons_option}
use Rattle.gfx_model.specs.Section as section
use Rattle.gfx_model.specs.Section.{nonzero}
use Rattle.gfx_pages.specs.declared.bytes.Span.{Span}
use Rattle.gfx_pages.specs.Fills.{span_at, fills}

-- from the first to the last of these places
abbrev pub span_of : List ℕ → Option Span
span_of xs = option_map span_at (section.span_of xs)

-- the fill of page k, of n bytes in pages of s, the last of which may be shorter
abbrev pub page_fill : ℕ → (ℕ → ℕ) → ℕ → ℕ → Option Span
page_fill s f n k = span_of (nonzero f (k * s) (min s (n - k * s)))

-- the fills of all pages of s bytes
abbrev pub fills_of : ℕ → (ℕ → ℕ) → ℕ → List Span
fills_of s f n = filter_map (page_fill s f n) (range_with_len 0 ((n + (s - 1)) / s))

map_fills : (g : ℕ → Option section.Span) (ks : List ℕ) → map span_at (filter_map g ks) ≡ filter_map (λ k. option_map span_at (g k)) ks
map_fills g [] = refl
map_fills g (k ∷ ks) = by (g k) (map_fills g ks)
  where
    by : (o : Option section.Span) → map span_at (filter_map g ks) ≡ filter_map (λ k. option_map span_at (g k)) ks
        → map span_at (cons_option o (filter_map g ks)) ≡ cons_option (option_map span_at o) (filter_map (λ k. option_map span_at (g k)) ks)
    by None rest = rest
    by (Some s) rest = ap (λ l. span_at s ∷ l) rest

pub fills_are : (bytes : List ℕ) → fills bytes ≡ fills_of 65536 (slice_index bytes) (length bytes)
unfolding fills section.fills_of
fills_are bytes = map_fills (section.page_fill (slice_index bytes) (length bytes)) (range_with_len 0 ((length bytes + 65535) / 65536))
