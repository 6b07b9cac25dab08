-- What the commands of submits change may be done after all else.
use Rattle.std.proofs.Common.{◌≡◌, ℕ, ◌==◌, Bool, true, false, List, [], ◌∷◌, ◌++◌, map, refl, ap, sym, ◌∙◌, if◌then◌else◌}
use Rattle.std.specs.Prelude.{fold, flat_map}
use Rattle.std.proofs.lemmas.List.{map-append}
use Rattle.std.proofs.lemmas.Simd.{map-map}
use Rattle.gfx_types.specs.declared.lists.Submit.{Submit}
use Rattle.gfx_model.specs.Steps.{Change}
use Rattle.gfx_model.specs.Steps.Change.{put, fill, copy, set_layout}
use Rattle.gfx_model.specs.Steps.Step.{executed, signals, unsignals, changes}
use Rattle.gfx_model.specs.Views.{View}
use Rattle.gfx_model.specs.Checks.{Turn, turns_of_submit}
use Rattle.gfx_model.specs.Checks.Turn.{wait, execute, signal}
use Rattle.gfx_model.specs.Effects.{steps_of_turn, changes_of_buffer, signals_any}
use Rattle.gfx_model.specs.After.{after}
use Rattle.gfx_tracker.specs.Submitted.{own_step}
use Rattle.gfx_tracker.proofs.Next.{fold-append}

-- ---- one turn and one change

change_behind : (w : View) (c : Change) (t : Turn) → after (after w (changes c)) (own_step t) ≡ after (after w (own_step t)) (changes c)
unfolding after
change_behind w (set_layout i l) (wait s) = refl
change_behind w (set_layout i l) (execute cb) = refl
change_behind w (set_layout i l) (signal s) = refl
change_behind w (put at offset bytes) (wait s) = refl
change_behind w (put at offset bytes) (execute cb) = refl
change_behind w (put at offset bytes) (signal s) = refl
change_behind w (fill at offset n word) (wait s) = refl
change_behind w (fill at offset n word) (execute cb) = refl
change_behind w (fill at offset n word) (signal s) = refl
change_behind w (copy to to_offset source source_offset n) (wait s) = refl
change_behind w (copy to to_offset source source_offset n) (execute cb) = refl
change_behind w (copy to to_offset source source_offset n) (signal s) = refl

-- ---- turns

changes_behind : (w : View) (cs : List Change) (t : Turn) → after (fold after w (map changes cs)) (own_step t) ≡ fold after (after w (own_step t)) (map changes cs)
changes_behind w [] t = refl
changes_behind w (c ∷ cs) t = changes_behind (after w (changes c)) cs t ∙ ap (λ u. fold after u (map changes cs)) (change_behind w c t)

pub turns_first : (w : View) (cs : List Change) (ts : List Turn) → fold after (fold after w (map changes cs)) (map own_step ts) ≡ fold after (fold after w (map own_step ts)) (map changes cs)
turns_first w cs [] = refl
turns_first w cs (t ∷ ts) = ap (λ u. fold after u (map own_step ts)) (changes_behind w cs t) ∙ turns_first (after w (own_step t)) cs ts

-- the changes of a turn
abbrev pub turn_changes : View → Turn → List Change
turn_changes v (execute cb) = changes_of_buffer v cb
turn_changes v _ = []

-- what the turns change may be done after them
pub reordered : (v w : View) (ts : List Turn) → fold after w (flat_map (steps_of_turn v) ts) ≡ fold after (fold after w (map own_step ts)) (map changes (flat_map (turn_changes v) ts))
reordered v w [] = refl
reordered v w (wait s ∷ ts) = reordered v (after w (unsignals s)) ts
reordered v w (signal s ∷ ts) = reordered v (after w (signals s)) ts
reordered v w (execute cb ∷ ts) =
    let cs = changes_of_buffer v cb in
    let rest = flat_map (turn_changes v) ts in
    let u = fold after (after w (executed cb)) (map changes cs) in
    let after_all = fold after (after w (executed cb)) (map own_step ts) in
    fold-append after w (map changes cs ++ executed cb ∷ []) (flat_map (steps_of_turn v) ts)
    ∙ ap (λ (u : View). fold after u (flat_map (steps_of_turn v) ts)) (fold-append after w (map changes cs) (executed cb ∷ []) ∙ changes_behind w cs (execute cb))
    ∙ reordered v u ts
    ∙ ap (λ (u : View). fold after u (map changes rest)) (turns_first (after w (executed cb)) cs ts)
    ∙ sym (fold-append after after_all (map changes cs) (map changes rest))
    ∙ ap (fold after after_all) (sym (map-append changes cs rest))

-- ---- what turns leave

own_live : (v : View) (t : Turn) (x : ℕ) → (after v (own_step t)).live x ≡ v.live x
unfolding after
own_live v (wait s) x = refl
own_live v (execute cb) x = refl
own_live v (signal s) x = refl

pub turns_live : (v : View) (ts : List Turn) (x : ℕ) → (fold after v (map own_step ts)).live x ≡ v.live x
turns_live v [] x = refl
turns_live v (t ∷ ts) x = turns_live (after v (own_step t)) ts x ∙ own_live v t x

-- ---- a fence, and the turns of a submit

pub fence_step : (fence : ℕ) → map own_step (if fence == 0 then [] else signal fence ∷ []) ≡ signals_any fence
fence_step fence = by (fence == 0)
  where
    by : (t : Bool) → map own_step (if t then [] else signal fence ∷ []) ≡ (if t then [] else signals fence ∷ [])
    by true = refl
    by false = refl

pub submit_steps : (s : Submit) → map own_step (turns_of_submit s) ≡ map unsignals s.waits ++ map executed s.cbs ++ map signals s.signals
submit_steps s =
    map-append own_step (map wait s.waits ++ map execute s.cbs) (map signal s.signals)
    ∙ ap (λ ss. ss ++ map own_step (map signal s.signals)) (map-append own_step (map wait s.waits) (map execute s.cbs))
    ∙ ap (λ ss. ss ++ map own_step (map execute s.cbs) ++ map own_step (map signal s.signals)) (map-map own_step wait s.waits)
    ∙ ap (λ ss. map unsignals s.waits ++ ss ++ map own_step (map signal s.signals)) (map-map own_step execute s.cbs)
    ∙ ap (λ ss. map unsignals s.waits ++ map executed s.cbs ++ ss) (map-map own_step signal s.signals)
