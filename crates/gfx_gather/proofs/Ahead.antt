-- What is to come of lines with their writes gathered, told by the fills of what is held.
use Rattle.std.proofs.Common.{◌≡◌, ℕ, ◌+◌, ◌<◌, suc, nat_le, Bool, true, false, ◌&&◌, cond, List, [], ◌∷◌, ◌++◌, length, drop, get_or, Option, Some, None, sym, refl, ap, subst, ◌∙◌, arith, append_assoc}
use Rattle.std.specs.Prelude.{MatchOption, MatchBool}
use Rattle.std.specs.List.{AllByRecursion}
use Rattle.std.proofs.lemmas.Bool.{and_parts, leb-true}
use Rattle.std.proofs.Math.Seq.{drop-cons}
use Rattle.gfx_model.specs.Events.{Event}
use Rattle.gfx_model.specs.Events.Event.{FillMemory}
use Rattle.gfx_script_model.specs.Scripts.{Line}
use Rattle.gfx_shadow.specs.Writes.{Write, fills, firsts, MayHold, memory_limit, write_of}
use Rattle.gfx_shadow.specs.Gathered.{held_of, ends_holding, event_of_write, gathered_after, gathered, last_number}
use Rattle.gfx_shadow.proofs.Serve.{fills_serve}
use Rattle.gfx_gather.specs.Gathering.{fills_at, Takes}

-- the lines after some that left these fills
unfoldable pub ahead : ℕ → List Write → List Line → List Line
ahead last fs [] = fills_at last fs
ahead last fs (l ∷ ls) = elim (held_of l.event) [
  | Some w ↦ ahead last (fills (fs ++ w ∷ [])) ls
  | None ↦ cond (ends_holding l.event) (fills_at l.number fs ++ l ∷ ahead last [] ls) (l ∷ ahead last fs ls)
]

pub no_fills : fills [] ≡ []
unfolding fills firsts
no_fills = refl

-- a write that is held may be held, and is the event's
pub is_held : (e : Event) (w : Write) → held_of e ≡ Some w → MayHold w × (e ≡ event_of_write w)
is_held (FillMemory memory offset bytes) w h =
    by (nat_le 1 (length bytes) && nat_le (offset + length bytes) memory_limit) refl h
  where
    by : (b : Bool) → (nat_le 1 (length bytes) && nat_le (offset + length bytes) memory_limit) ≡ b → cond b (Some (write_of memory offset bytes)) None ≡ Some w
        → MayHold w × (FillMemory memory offset bytes ≡ event_of_write w)
    by false e h = absurd cc
    by true e h = let same : write_of memory offset bytes ≡ w = cc in
        let both = and_parts (nat_le 1 (length bytes)) _ e in
        let may : MayHold (write_of memory offset bytes) = record { some = leb-true _ _ both.0; inside = leb-true _ _ both.1 } in
        (subst MayHold same may, ap event_of_write same)
is_held e w h = absurd cc

-- ---- a line

ahead_held : (last : ℕ) (fs : List Write) (l : Line) (ls : List Line) (w : Write) → held_of l.event ≡ Some w → ahead last fs (l ∷ ls) ≡ ahead last (fills (fs ++ w ∷ [])) ls
unfolding ahead
ahead_held last fs l ls w e = rw (e, ahead) refl

ahead_other : (last : ℕ) (fs : List Write) (l : Line) (ls : List Line) (b : Bool) → held_of l.event ≡ None → ends_holding l.event ≡ b
    → ahead last fs (l ∷ ls) ≡ cond b (fills_at l.number fs ++ l ∷ ahead last [] ls) (l ∷ ahead last fs ls)
unfolding ahead
ahead_other last fs l ls b e f = rw (e, ahead) (rw f refl)

pub after_held : (last : ℕ) (held : List Write) (l : Line) (ls : List Line) (w : Write) → held_of l.event ≡ Some w → gathered_after last held (l ∷ ls) ≡ gathered_after last (held ++ w ∷ []) ls
unfolding gathered_after
after_held last held l ls w e = rw (e, gathered_after) refl

pub after_other : (last : ℕ) (held : List Write) (l : Line) (ls : List Line) (b : Bool) → held_of l.event ≡ None → ends_holding l.event ≡ b
    → gathered_after last held (l ∷ ls) ≡ cond b (fills_at l.number (fills held) ++ l ∷ gathered_after last [] ls) (l ∷ gathered_after last held ls)
unfolding gathered_after
after_other last held l ls b e f = rw (e, gathered_after) (rw f refl)

-- ---- the fills tell as much as what is held

held-more : (held : List Write) (w : Write) → AllByRecursion MayHold held → MayHold w → AllByRecursion MayHold (held ++ w ∷ [])
held-more [] w h g = (g, tt)
held-more (x ∷ xs) w h g = (h.0, held-more xs w h.1 g)

ahead_fills : (last : ℕ) (held : List Write) (ls : List Line) → AllByRecursion MayHold held → ahead last (fills held) ls ≡ gathered_after last held ls
unfolding ahead gathered_after
ahead_fills last held [] h = refl
ahead_fills last held (l ∷ ls) h =
    by (held_of l.event) refl (ends_holding l.event) refl
    (λ w g. ahead_fills last (held ++ w ∷ []) ls (held-more held w h g))
    (ap (λ fs. ahead last fs ls) (sym no_fills) ∙ ahead_fills last [] ls tt)
    (ahead_fills last held ls h)
  where
    by : (o : Option Write) → held_of l.event ≡ o → (b : Bool) → ends_holding l.event ≡ b
        → ((w : Write) → MayHold w → ahead last (fills (held ++ w ∷ [])) ls ≡ gathered_after last (held ++ w ∷ []) ls)
        → ahead last [] ls ≡ gathered_after last [] ls
        → ahead last (fills held) ls ≡ gathered_after last held ls
        → ahead last (fills held) (l ∷ ls) ≡ gathered_after last held (l ∷ ls)
    by (Some w) e b f more anew same =
        ahead_held last (fills held) l ls w e
        ∙ (ap (λ fs. ahead last fs ls) (fills_serve held (w ∷ []) h)
        ∙ (more w (is_held l.event w e).0 ∙ sym (after_held last held l ls w e)))
    by None e true f more anew same =
        ahead_other last (fills held) l ls true e f
        ∙ (ap (λ k. fills_at l.number (fills held) ++ l ∷ k) anew ∙ sym (after_other last held l ls true e f))
    by None e false f more anew same =
        ahead_other last (fills held) l ls false e f ∙ (ap (λ k. l ∷ k) same ∙ sym (after_other last held l ls false e f))

-- where nothing is held yet, all lines are to come
pub all_ahead : (ls : List Line) → ahead (last_number ls) [] ls ≡ gathered ls
all_ahead ls = ap (λ fs. ahead (last_number ls) fs ls) (sym no_fills) ∙ ahead_fills (last_number ls) [] ls tt

-- no line is left
pub none_left : (last : ℕ) (fs : List Write) → ahead last fs [] ≡ fills_at last fs
unfolding ahead
none_left last fs = refl

-- what a line does leaves what comes of all lines
pub takes_on : (last : ℕ) (l : Line) (ls : List Line) (held : List Write) (lines : List Line) (held' : List Write) (lines' : List Line)
    → Takes l held lines held' lines' → lines' ++ ahead last held' ls ≡ lines ++ ahead last held (l ∷ ls)
takes_on last l ls held lines held' lines' h = by (held_of l.event) refl (ends_holding l.event) refl h
  where
    by : (o : Option Write) → held_of l.event ≡ o → (b : Bool) → ends_holding l.event ≡ b
        → MatchOption o (MatchBool b ((held' ≡ []) × (lines' ≡ (lines ++ fills_at l.number held) ++ l ∷ [])) ((held' ≡ held) × (lines' ≡ lines ++ l ∷ [])))
        (λ w. (held' ≡ fills (held ++ w ∷ [])) × (lines' ≡ lines))
        → lines' ++ ahead last held' ls ≡ lines ++ ahead last held (l ∷ ls)
    by (Some w) e b f h = (λ i. h.1 i ++ ahead last (h.0 i) ls) ∙ ap (λ k. lines ++ k) (sym (ahead_held last held l ls w e))
    by None e true f h =
        (λ i. h.1 i ++ ahead last (h.0 i) ls)
        ∙ (append_assoc (lines ++ fills_at l.number held) (l ∷ []) (ahead last [] ls)
        ∙ (append_assoc lines (fills_at l.number held) (l ∷ ahead last [] ls) ∙ ap (λ k. lines ++ k) (sym (ahead_other last held l ls true e f))))
    by None e false f h =
        (λ i. h.1 i ++ ahead last (h.0 i) ls)
        ∙ (append_assoc lines (l ∷ []) (ahead last held ls) ∙ ap (λ k. lines ++ k) (sym (ahead_other last held l ls false e f)))

-- ---- lists from an item on

pub left_from : {X : Type 0} (xs : List X) (k : ℕ) (x : X) → k < length xs → x ≡ get_or xs k x → drop k xs ≡ x ∷ drop (k + 1) xs
left_from {X = X} xs k x less is =
    drop-cons xs k x less ∙ ap (λ (z : X × ℕ). z.0 ∷ drop z.1 xs) (let next : suc k ≡ k + 1 = omega arith in λ i. (sym is i, next i))

-- ---- what a line does

pub ends_here : (l : Line) (held : List Write) (lines : List Line) (held' : List Write) (between lines' : List Line)
    → held_of l.event ≡ None → ends_holding l.event ≡ true → held' ≡ [] → between ≡ lines ++ fills_at l.number held → lines' ≡ between ++ l ∷ []
    → Takes l held lines held' lines'
ends_here l held lines held' between lines' none ends nothing flushed pushed =
    rw none (rw ends (nothing, pushed ∙ ap (λ k. k ++ l ∷ []) flushed))

pub stays : (l : Line) (held : List Write) (lines : List Line) (held' : List Write) (lines' : List Line)
    → held_of l.event ≡ None → ends_holding l.event ≡ false → held' ≡ held → lines' ≡ lines ++ l ∷ [] → Takes l held lines held' lines'
stays l held lines held' lines' none ends same pushed = rw none (rw ends (same, pushed))
