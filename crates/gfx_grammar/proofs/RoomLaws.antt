-- When there is room for parts on both sides of the section, and where they lead.
use Rattle.std.proofs.Common.{◌≡◌, ℕ, suc, ◌+◌, ◌^◌, ◌<◌, ◌≤◌, Bool, true, false, not, ◌&&◌, ◌||◌, cond, List, [], ◌∷◌, ◌++◌, length, map, refl, ap, ◌∙◌, arith}
use Rattle.std.specs.List.{AllByRecursion}
use Rattle.gfx_model.specs.Blocks.{Position, is_inside, is_marker, next_position, Content, Whole}
use Rattle.gfx_grammar.specs.Framing.{Part, placed, place_after, HaveRoom}

-- parts in two lots
pub room-append : (at : Position) (ps qs : List Part) → HaveRoom at ps → HaveRoom (place_after at ps) qs → HaveRoom at (ps ++ qs)
room-append at [] qs first second = second
room-append at (p ∷ ps) qs first second = (first.0, room-append (next_position at p.bytes) ps qs first.1 second)

-- what the blocks say is what the parts say
pub placed-says : (at : Position) (ps : List Part) → map (λ (w : Whole). w.content) (placed at ps) ≡ map (λ (p : Part). p.content) ps
placed-says at [] = refl
placed-says at (p ∷ ps) = ap (λ (cs : List Content). p.content ∷ cs) (placed-says (next_position at p.bytes) ps)

-- few blocks have room, whatever they say
below_either : (b : Bool) (inside outside n limit : ℕ) → inside + suc n ≤ limit → outside + suc n ≤ limit → cond b inside outside < limit
below_either true inside outside n limit i o = omega arith
below_either false inside outside n limit i o = omega arith

more_inside : (b : Bool) (inside n limit : ℕ) → inside + suc n ≤ limit → cond b (inside + 1) inside + n ≤ limit
more_inside true inside n limit h = omega arith
more_inside false inside n limit h = omega arith

more_outside : (b : Bool) (outside n limit : ℕ) → outside + suc n ≤ limit → cond b outside (outside + 1) + n ≤ limit
more_outside true outside n limit h = omega arith
more_outside false outside n limit h = omega arith

pub few-room : (at : Position) (ps : List Part) → at.inside + length ps ≤ 2 ^ 32 → at.outside + length ps ≤ 2 ^ 32 → HaveRoom at ps
few-room at [] i o = tt
few-room at (p ∷ ps) i o = (
  below_either (is_inside at p.bytes) at.inside at.outside (length ps) (2 ^ 32) i o,
  few-room (next_position at p.bytes) ps (more_inside (is_inside at p.bytes) at.inside (length ps) (2 ^ 32) i) (more_outside (is_inside at p.bytes) at.outside (length ps) (2 ^ 32) o),
)

-- inside the section the blocks count there alone, up to its end marker
pub inside-room : (at : Position) (ps : List Part) → at.in_section ≡ true → AllByRecursion (λ p. is_marker 2 p.bytes ≡ false) ps → at.inside + length ps ≤ 2 ^ 32
    → HaveRoom at ps × ((place_after at ps).in_section ≡ true) × ((place_after at ps).inside ≡ at.inside + length ps) × ((place_after at ps).outside ≡ at.outside)
inside-room at [] within none few = (tt, within, omega arith, refl)
inside-room at (p ∷ ps) within none few =
    let next = next_position at p.bytes in
    let here : is_inside at p.bytes ≡ true = ap (λ b. b || is_marker 1 p.bytes) within in
    let still : next.in_section ≡ true = ap (λ b. b && not (is_marker 2 p.bytes)) here ∙ ap not none.0 in
    let count : next.inside ≡ at.inside + 1 = ap (λ b. cond b (at.inside + 1) at.inside) here in
    let other : next.outside ≡ at.outside = ap (λ b. cond b at.outside (at.outside + 1)) here in
    let later = inside-room next ps still none.1 (omega (arith, count, few)) in (
      (rw (ap (λ b. cond b at.inside at.outside) here) (omega (arith, few)), later.0),
      later.1,
      omega (arith, later.2, count),
      later.3 ∙ other,
    )

-- and outside it there alone, up to a begin marker
pub outside-room : (at : Position) (ps : List Part) → at.in_section ≡ false → AllByRecursion (λ p. is_marker 1 p.bytes ≡ false) ps → at.outside + length ps ≤ 2 ^ 32
    → HaveRoom at ps × ((place_after at ps).in_section ≡ false) × ((place_after at ps).inside ≡ at.inside) × ((place_after at ps).outside ≡ at.outside + length ps)
outside-room at [] without none few = (tt, without, refl, omega arith)
outside-room at (p ∷ ps) without none few =
    let next = next_position at p.bytes in
    let here : is_inside at p.bytes ≡ false = ap (λ b. b || is_marker 1 p.bytes) without ∙ none.0 in
    let still : next.in_section ≡ false = ap (λ b. b && not (is_marker 2 p.bytes)) here in
    let count : next.outside ≡ at.outside + 1 = ap (λ b. cond b at.outside (at.outside + 1)) here in
    let other : next.inside ≡ at.inside = ap (λ b. cond b (at.inside + 1) at.inside) here in
    let later = outside-room next ps still none.1 (omega (arith, count, few)) in (
      (rw (ap (λ b. cond b at.inside at.outside) here) (omega (arith, few)), later.0),
      later.1,
      later.2 ∙ other,
      omega (arith, later.3, count),
    )
