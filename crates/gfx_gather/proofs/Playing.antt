-- A script that can be run can be run with the writes of its threads gathered.
use Rattle.std.proofs.Common.{◌≡◌, ℕ, ◌+◌, ◌<◌, ◌≤◌, ◌^◌, ◌==◌, Bool, true, false, ◌||◌, List, [], ◌∷◌, ◌++◌, map, length, Option, Some, None, sym, refl, ap, subst, ◌∙◌, arith, append-nil, length-append}
use Rattle.std.specs.List.{AllByRecursion}
use Rattle.gfx_model.specs.Spelling.{fields_of, type_of}
use Rattle.gfx_section_law.proofs.Sizes.{fill_small}
use Rattle.gfx_script_model.specs.Ids.{uses_of, defines_of, map_ids}
use Rattle.gfx_script_model.specs.Scripts.{Line, Part, has_thread}
use Rattle.gfx_run_law.specs.Pieces.{AreApart}
use Rattle.gfx_script_law.specs.Playable.{HasBlock, HasBlocks, AreNumbered, IsPlayable, names_of, numbers_from, phase_lines, script_lines}
use Rattle.gfx_script_law.proofs.Numbers.{numbered-parts}
use Rattle.gfx_shadow.specs.Writes.{Write, fills}
use Rattle.gfx_shadow.specs.Gathered.{held_of, ends_holding, event_of_write, gathered_after, gathered, gathered_part, gathered_phases, last_number}
use Rattle.gfx_gather.specs.Gathering.{fill_line, fills_at}
use Rattle.gfx_gather.specs.Laws.{ShownIsPlayable}
use Rattle.gfx_gather.proofs.Ahead.{is_held, after_held, after_other}
use Rattle.gfx_gather.proofs.Staying.{held-gives, lines-give, parts-give, phases-give}
use Rattle.gfx_gather.proofs.Short.{IsKnown, IsShort, all-both, fills-short}

abbrev Below : ℕ → ℕ → Type 0
Below next k = k < next

-- lines that are numbered from a number on and have blocks
record Stands (m next : ℕ) (lines : List Line) : Type 0 where
  numbered : AreNumbered next lines
  blocks : AllByRecursion (HasBlocks m) lines

-- ---- fills

fill-uses : (w : Write) → uses_of 2 (event_of_write w) ≡ w.memory ∷ []
unfolding uses_of
fill-uses w = refl

fill-defines : (w : Write) → defines_of 2 (event_of_write w) ≡ []
unfolding defines_of
fill-defines w = refl

fill-blocks : (m next number : ℕ) (w : Write) → IsShort (Below next) w → HasBlocks m (fill_line number w)
unfolding fields_of type_of map_ids
fill-blocks m next number w s ids wide =
    let a = s.offset in let b = s.few in record {
      fits = record { version = tt; fields = (wide w.memory, (omega arith, ((omega arith, s.bytes), tt))) };
      unmarked = refl;
      small = (fill_small m (ids w.memory) w.offset w.bytes (omega arith)).0;
    }

-- the bytes of a fill that has a block
block-bytes : (m : ℕ) (w : Write) → HasBlock m (map_ids (λ k. 0) (event_of_write w)) → AllByRecursion (λ b. b < 256) w.bytes
unfolding fields_of map_ids
block-bytes m w b = b.fits.fields.1.1.0.1

-- a line before others, where it defines no names
before : (next : ℕ) (l : Line) (ls : List Line) → AllByRecursion (Below next) (uses_of 2 l.event) → defines_of 2 l.event ≡ [] → AreNumbered next ls → AreNumbered next (l ∷ ls)
before next l ls uses none h =
    let same : next ≡ next + length (defines_of 2 l.event) = sym (ap (λ d. next + length d) none ∙ (let e : next + 0 ≡ next = omega arith in e)) in
    (uses, subst (λ d. d ≡ numbers_from next (length d)) (sym none) refl, subst (λ n. AreNumbered n ls) same h)

-- what follows a line that defines no names
behind : (next : ℕ) (l : Line) (ls : List Line) → defines_of 2 l.event ≡ [] → AreNumbered next (l ∷ ls) → AreNumbered next ls
behind next l ls none h =
    let same : next + length (defines_of 2 l.event) ≡ next = ap (λ d. next + length d) none ∙ (let e : next + 0 ≡ next = omega arith in e) in
    subst (λ n. AreNumbered n ls) same h.2

fills-stand : (m next number : ℕ) (fs : List Write) (ls : List Line) → AllByRecursion (IsShort (Below next)) fs → Stands m next ls → Stands m next (fills_at number fs ++ ls)
fills-stand m next number [] ls short h = h
fills-stand m next number (w ∷ fs) ls short h =
    let rest = fills-stand m next number fs ls short.1 h in
    record {
      numbered = before next (fill_line number w) (fills_at number fs ++ ls) (subst (AllByRecursion (Below next)) (sym (fill-uses w)) (short.0.memory, tt)) (fill-defines w) rest.numbered;
      blocks = (fill-blocks m next number w short.0, rest.blocks);
    }

-- ---- a line

-- a held write is to a memory that the line uses
held-known : (m next : ℕ) (l : Line) (w : Write) → held_of l.event ≡ Some w → AllByRecursion (Below next) (uses_of 2 l.event) → HasBlocks m l → IsKnown (Below next) w
held-known m next l w e uses blocks =
    let is = is_held l.event w e in
    record {
      memory = (subst (AllByRecursion (Below next)) (ap (uses_of 2) is.1 ∙ fill-uses w) uses).0;
      may = is.0;
      bytes = block-bytes m w (subst (λ z. HasBlock m (map_ids (λ k. 0) z)) is.1 (blocks (λ k. 0) (λ k. omega arith)));
    }

known-later : (next more : ℕ) (held : List Write) → AllByRecursion (IsKnown (Below next)) held → AllByRecursion (IsKnown (Below (next + more))) held
known-later next more [] h = tt
known-later next more (w ∷ ws) h = (record { memory = let a = h.0.memory in omega arith; may = h.0.may; bytes = h.0.bytes }, known-later next more ws h.1)

-- ---- the lines of a part

stays : (m next last : ℕ) (held : List Write) (ls : List Line) → AllByRecursion (IsKnown (Below next)) held → Stands m next ls → Stands m next (gathered_after last held ls)
unfolding gathered_after
stays m next last held [] known h =
    subst (Stands m next) (append-nil (fills_at last (fills held))) (fills-stand m next last (fills held) [] (fills-short (Below next) held known) h)
stays m next last held (l ∷ ls) known h =
    by (held_of l.event) refl (ends_holding l.event) refl
    (λ w k none. stays m next last (held ++ w ∷ []) ls (all-both (IsKnown (Below next)) held (w ∷ []) known (k, tt)) (record { numbered = behind next l ls none h.numbered; blocks = h.blocks.1 }))
    (stays m (next + length (defines_of 2 l.event)) last [] ls tt (record { numbered = h.numbered.2; blocks = h.blocks.1 }))
    (stays m (next + length (defines_of 2 l.event)) last held ls (known-later next (length (defines_of 2 l.event)) held known) (record { numbered = h.numbered.2; blocks = h.blocks.1 }))
  where
    onto : (ks : List Line) → Stands m (next + length (defines_of 2 l.event)) ks → Stands m next (l ∷ ks)
    onto ks s = record { numbered = (h.numbered.0, h.numbered.1, s.numbered); blocks = (h.blocks.0, s.blocks) }

    by : (o : Option Write) → held_of l.event ≡ o → (b : Bool) → ends_holding l.event ≡ b
        → ((w : Write) → IsKnown (Below next) w → defines_of 2 l.event ≡ [] → Stands m next (gathered_after last (held ++ w ∷ []) ls))
        → Stands m (next + length (defines_of 2 l.event)) (gathered_after last [] ls)
        → Stands m (next + length (defines_of 2 l.event)) (gathered_after last held ls)
        → Stands m next (gathered_after last held (l ∷ ls))
    by (Some w) e b f more anew same =
        subst (Stands m next) (sym (after_held last held l ls w e)) (more w (held-known m next l w e h.numbered.0 h.blocks.0) (held-gives (defines_of 2) fill-defines l w e))
    by None e true f more anew same =
        subst (Stands m next) (sym (after_other last held l ls true e f))
        (fills-stand m next l.number (fills held) (l ∷ gathered_after last [] ls) (fills-short (Below next) held known) (onto (gathered_after last [] ls) anew))
    by None e false f more anew same =
        subst (Stands m next) (sym (after_other last held l ls false e f)) (onto (gathered_after last held ls) same)

-- ---- parts and phases

all-parts : {X : Type 0} (P : X → Type 0) (xs ys : List X) → AllByRecursion P (xs ++ ys) → AllByRecursion P xs × AllByRecursion P ys
all-parts P [] ys h = (tt, h)
all-parts P (x ∷ xs) ys h = let r = all-parts P xs ys h.1 in ((h.0, r.0), r.1)

stands-parts : (m next : ℕ) (a b : List Line) → Stands m next (a ++ b) → Stands m next a × Stands m (next + length (names_of a)) b
stands-parts m next a b h =
    let n = numbered-parts next a b h.numbered in let k = all-parts (HasBlocks m) a b h.blocks in
    (record { numbered = n.0; blocks = k.0 }, record { numbered = n.1; blocks = k.1 })

numbered-both : (next : ℕ) (a b : List Line) → AreNumbered next a → AreNumbered (next + length (names_of a)) b → AreNumbered next (a ++ b)
numbered-both next [] b p q = let e : next + 0 ≡ next = omega arith in subst (λ n. AreNumbered n b) e q
numbered-both next (l ∷ a) b p q =
    let c = length-append (defines_of 2 l.event) (names_of a) in
    let e : next + length (names_of (l ∷ a)) ≡ next + length (defines_of 2 l.event) + length (names_of a) = omega arith in
    (p.0, p.1, numbered-both (next + length (defines_of 2 l.event)) a b p.2 (subst (λ n. AreNumbered n b) e q))

-- where the first lines give way to others with the same names, and the others do
stands-both : (m next : ℕ) (a b c : List Line) → names_of c ≡ names_of a → Stands m next c → Stands m (next + length (names_of a)) b → Stands m next (c ++ b)
stands-both m next a b c same s t = record {
  numbered = numbered-both next c b s.numbered (subst (λ d. AreNumbered (next + length d) b) (sym same) t.numbered);
  blocks = all-both (HasBlocks m) c b s.blocks t.blocks;
}

parts-stand : (m next : ℕ) (parts : List Part) → Stands m next (phase_lines parts) → Stands m next (phase_lines (map gathered_part parts))
parts-stand m next [] h = h
parts-stand m next (p ∷ ps) h =
    let r = stands-parts m next p.lines (phase_lines ps) h in
    stands-both m next p.lines (phase_lines (map gathered_part ps)) (gathered p.lines) (lines-give (defines_of 2) fill-defines (last_number p.lines) [] p.lines)
    (stays m next (last_number p.lines) [] p.lines tt r.0) (parts-stand m (next + length (names_of p.lines)) ps r.1)

phases-stand : (m next : ℕ) (phases : List (List Part)) → Stands m next (script_lines phases) → Stands m next (script_lines (gathered_phases phases))
phases-stand m next [] h = h
phases-stand m next (p ∷ ps) h =
    let r = stands-parts m next (phase_lines p) (script_lines ps) h in
    stands-both m next (phase_lines p) (script_lines (gathered_phases ps)) (phase_lines (map gathered_part p)) (parts-give (defines_of 2) fill-defines p)
    (parts-stand m next p r.0) (phases-stand m (next + length (names_of (phase_lines p))) ps r.1)

-- ---- threads

thread-stays : (n : ℕ) (parts : List Part) → has_thread n (map gathered_part parts) ≡ has_thread n parts
thread-stays n [] = refl
thread-stays n (p ∷ ps) = ap (λ b. p.thread == n || b) (thread-stays n ps)

parts-apart : (parts : List Part) → AreApart parts → AreApart (map gathered_part parts)
parts-apart [] h = tt
parts-apart (p ∷ ps) h = (thread-stays p.thread ps ∙ h.0, parts-apart ps h.1)

all-apart : (phases : List (List Part)) → AllByRecursion AreApart phases → AllByRecursion AreApart (gathered_phases phases)
all-apart [] h = tt
all-apart (p ∷ ps) h = (parts-apart p h.0, all-apart ps h.1)

abbrev Low : Part → Type 0
Low p = p.thread ≤ 63

parts-low : (parts : List Part) → AllByRecursion Low parts → AllByRecursion Low (map gathered_part parts)
parts-low [] h = tt
parts-low (p ∷ ps) h = (h.0, parts-low ps h.1)

all-low : (phases : List (List Part)) → AllByRecursion (AllByRecursion Low) phases → AllByRecursion (AllByRecursion Low) (gathered_phases phases)
all-low [] h = tt
all-low (p ∷ ps) h = (parts-low p h.0, all-low ps h.1)

gathered_is_playable : (m : ℕ) (phases : List (List Part)) → IsPlayable m phases → IsPlayable m (gathered_phases phases)
gathered_is_playable m phases h =
    let s = phases-stand m 1 phases (record { numbered = h.numbered; blocks = h.blocks }) in
    record {
      version = h.version;
      apart = all-apart phases h.apart;
      threads = all-low phases h.threads;
      numbered = s.numbered;
      few = subst (λ d. length d < 2 ^ 32) (sym (phases-give (defines_of 2) fill-defines phases)) h.few;
      blocks = s.blocks;
    }

pub shown_is_playable : ShownIsPlayable
shown_is_playable true m phases h = gathered_is_playable m phases h
shown_is_playable false m phases h = h
