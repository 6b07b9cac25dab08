-- What is held back, as it grows and as some of it is written.
use Rattle.std.proofs.Common.{◌≡◌, ℕ, List, [], ◌++◌, take, drop, Option, refl, sym, ap, subst, ◌∙◌, append_assoc, take-append-drop}
use Rattle.std.proofs.lemmas.List.{append-nil}
use Rattle.std.specs.Io.KnownBytes.{Appends}
use Rattle.gfx_io.specs.Pieces.{AppendsPart}
use Rattle.gfx_io.proofs.Appending.{appends_none, appends_then, part_of, part_then, whole_part}
use Rattle.gfx_rewrite.specs.Held.{Held, HeldPart}

-- nothing was written, and all is held
pub held_first : (taken : Option (List ℕ)) (held all : List ℕ) → held ≡ all → Held taken taken held all
held_first taken held all is = ([], appends_none taken, is)

-- more is held
pub held_more : (before after : Option (List ℕ)) (held more new all : List ℕ) → Held before after held all → new ≡ held ++ more → Held before after new (all ++ more)
held_more before after held more new all (written, took, is) grown =
    (written, took, ap (λ (xs : List ℕ). written ++ xs) grown ∙ sym (append_assoc written held more) ∙ ap (λ (xs : List ℕ). xs ++ more) is)

-- the same is held of the same
pub held_as : (before after : Option (List ℕ)) (held all same : List ℕ) → Held before after held all → all ≡ same → Held before after held same
held_as before after held all same (written, took, is) e = (written, took, is ∙ e)

-- some of it was written
pub held_some : (before mid after : Option (List ℕ)) (held new all : List ℕ) → Held before mid held all → Held mid after new held → Held before after new all
held_some before mid after held new all (written, took, is) (part, more, split) =
    (written ++ part, appends_then before mid after written part took more, append_assoc written part new ∙ ap (λ (xs : List ℕ). written ++ xs) split ∙ is)

-- more was taken
pub held_on : (before mid after : Option (List ℕ)) (held more new all : List ℕ) → Held before mid held all → Held mid after new (held ++ more) → Held before after new (all ++ more)
held_on before mid after held more new all h on = held_some before mid after (held ++ more) new (all ++ more) (held_more before mid held more (held ++ more) all h refl) on

-- all that was held was written
pub held_all : (before mid after : Option (List ℕ)) (held all : List ℕ) → Held before mid held all → Appends mid after held → Appends before after all
held_all before mid after held all (written, took, is) more = subst (Appends before after) is (appends_then before mid after written held took more)

-- or a prefix of it
pub held_front : (before mid after : Option (List ℕ)) (held all : List ℕ) → Held before mid held all → AppendsPart mid after held → AppendsPart before after all
held_front before mid after held all (written, took, is) part = subst (AppendsPart before after) is (part_then before mid after written held took part)

-- a prefix of all is all of a prefix
pub part_held : (before after : Option (List ℕ)) (held all : List ℕ) → Held before after held all → HeldPart before after held all
part_held before after held all h = (all, [], h, sym (append-nil all))

-- more was still to come
pub part_more : (before after : Option (List ℕ)) (held all more : List ℕ) → HeldPart before after held all → HeldPart before after held (all ++ more)
part_more before after held all more (front, rest, h, is) =
    (front, rest ++ more, h, ap (λ (xs : List ℕ). xs ++ more) is ∙ append_assoc front rest more)

pub part_all : (before mid after : Option (List ℕ)) (held all : List ℕ) → HeldPart before mid held all → Appends mid after held → AppendsPart before after all
part_all before mid after held all (front, rest, h, is) more =
    subst (AppendsPart before after) (sym is) (part_of before after front rest (whole_part before after front (held_all before mid after held front h more)))

pub part_front : (before mid after : Option (List ℕ)) (held all : List ℕ) → HeldPart before mid held all → AppendsPart mid after held → AppendsPart before after all
part_front before mid after held all (front, rest, h, is) part =
    subst (AppendsPart before after) (sym is) (part_of before after front rest (held_front before mid after held front h part))

-- a write failed, and nothing is held any more
pub held_failed : (before mid after : Option (List ℕ)) (held new all : List ℕ) → Held before mid held all → AppendsPart mid after held → new ≡ [] → HeldPart before after new all
held_failed before mid after held new all (written, took, is) (count, within, part) none = (
  written ++ take count held,
  drop count held,
  (written ++ take count held, appends_then before mid after written (take count held) took part, ap (λ (xs : List ℕ). (written ++ take count held) ++ xs) none ∙ append-nil (written ++ take count held)),
  sym is ∙ ap (λ (xs : List ℕ). written ++ xs) (sym (take-append-drop count held)) ∙ sym (append_assoc written (take count held) (drop count held)),
)

-- of more than is held a prefix was taken
pub part_some : (before mid after : Option (List ℕ)) (held new all : List ℕ) → Held before mid held all → HeldPart mid after new held → HeldPart before after new all
part_some before mid after held new all (written, took, is) (front, rest, (part, more, split), whole) = (
  written ++ front,
  rest,
  (written ++ part, appends_then before mid after written part took more, append_assoc written part new ∙ ap (λ (xs : List ℕ). written ++ xs) split),
  sym is ∙ ap (λ (xs : List ℕ). written ++ xs) whole ∙ sym (append_assoc written front rest),
)

pub part_on : (before mid after : Option (List ℕ)) (held more new all : List ℕ) → Held before mid held all → HeldPart mid after new (held ++ more) → HeldPart before after new (all ++ more)
part_on before mid after held more new all h on = part_some before mid after (held ++ more) new (all ++ more) (held_more before mid held more (held ++ more) all h refl) on

-- nothing of it was taken
pub part_none : (taken : Option (List ℕ)) (held new more : List ℕ) → new ≡ held → HeldPart taken taken new (held ++ more)
part_none taken held new more same = (held, more, held_first taken new held same, refl)

-- a write failed, and nothing is held
pub part_failed : (before after : Option (List ℕ)) (all new : List ℕ) → AppendsPart before after all → new ≡ [] → HeldPart before after new all
part_failed before after all new part none = held_failed before before after all new all (held_first before all all refl) part none

-- all was taken, and nothing is held
pub held_none : (before after : Option (List ℕ)) (all new : List ℕ) → Appends before after all → new ≡ [] → Held before after new all
held_none before after all new took none = (all, took, ap (λ (xs : List ℕ). all ++ xs) none ∙ append-nil all)

-- and then more
pub held_behind : (before mid after : Option (List ℕ)) (first new more : List ℕ) → Appends before mid first → Held mid after new more → Held before after new (first ++ more)
held_behind before mid after first new more took on = held_on before mid after [] more new first (held_none before mid first [] took refl) on

pub part_behind : (before mid after : Option (List ℕ)) (first new more : List ℕ) → Appends before mid first → HeldPart mid after new more → HeldPart before after new (first ++ more)
part_behind before mid after first new more took on = part_on before mid after [] more new first (held_none before mid first [] took refl) on

-- what is held in two parts
pub two_parts : (held bytes : List ℕ) (count : ℕ) → (held ++ take count bytes) ++ drop count bytes ≡ held ++ bytes
two_parts held bytes count = append_assoc held (take count bytes) (drop count bytes) ∙ ap (λ (xs : List ℕ). held ++ xs) (take-append-drop count bytes)
