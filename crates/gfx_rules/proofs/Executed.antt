-- Command buffers that are executed one after another, submit by submit.
use Rattle.std.proofs.Common.{◌≡◌, ◌<◌, ◌≤◌, ◌+◌, ◌==◌, ℕ, zero, suc, Bool, true, false, not, List, [], ◌∷◌, ◌++◌, Option, Some, None, map, flat_map, length, take, drop, get_or, refl, sym, ap, ◌∙◌, append_assoc, append-nil, add-one, if◌then◌else◌}
use Rattle.std.specs.Option.{option_map_or}
use Rattle.std.proofs.lemmas.List.{at_drop_more, at_drop_all, take_more}
use Rattle.std.proofs.lemmas.Option.{slice_get_read}
use Rattle.gfx_types.specs.declared.names.Fault.{Fault}
use Rattle.gfx_types.specs.declared.names.Fault.TheVariants.{SignalState, CommandState, LayoutDiffers}
use Rattle.gfx_types.specs.declared.lists.Submit.{Submit}
use Rattle.gfx_model.specs.Questions.{Buffer}
use Rattle.gfx_model.specs.Views.{View}
use Rattle.gfx_model.specs.Checks.{Turn, Layouts, turns_of, turns_of_submit, turns_fault, but, layouts_after, meets, is_executable, unless, first}
use Rattle.gfx_model.specs.Checks.Turn.{wait, execute, signal}
use Rattle.gfx_model.specs.Checks.Layouts.{stays, goes}
use Rattle.gfx_model.specs.Layouts.{asked_in, layouts_by}
use Rattle.gfx_rules.specs.Turns.{signals_after, signals_behind, turns_at}
use Rattle.gfx_rules.proofs.Joined.{first_assoc}
use Rattle.gfx_rules.proofs.Signals.{signals_append, after_executes, flat_append}

after_append : (f : ℕ → ℕ) (ls ms : List Layouts) → layouts_after f (ls ++ ms) ≡ layouts_after (layouts_after f ls) ms
after_append f [] ms = refl
after_append f (stays i l ∷ ls) ms = after_append f ls ms
after_append f (goes i b a ∷ ls) ms = after_append (but i a f) ls ms

-- the layouts behind two lists of command buffers
behind_append : (b : ℕ → Buffer) (l : ℕ → ℕ) (xs ys : List ℕ) → layouts_by b l (xs ++ ys) ≡ layouts_by b (layouts_by b l xs) ys
behind_append b l xs ys =
    ap (layouts_after l) (flat_append (asked_in b) xs ys) ∙ after_append l (flat_map (asked_in b) xs) (flat_map (asked_in b) ys)

-- ---- the command buffers of one submit

-- the command buffers before a place, behind some
abbrev pub here : View → List ℕ → List ℕ → ℕ → ℕ → ℕ
here v before cbs i = layouts_by v.buffer v.layout (before ++ take i cbs)

-- the one at the place meets its layouts there
abbrev pub meets_here : View → List ℕ → List ℕ → ℕ → Bool
meets_here v before cbs i = meets (here v before cbs i) (asked_in v.buffer (get_or cbs i 0))

here_more : (v : View) (before cbs : List ℕ) (i : ℕ) → i < length cbs
    → layouts_after (here v before cbs i) (asked_in v.buffer (get_or cbs i 0)) ≡ here v before cbs (i + 1)
here_more v before cbs i h =
    ap (layouts_after (here v before cbs i)) (sym (append-nil (asked_in v.buffer (get_or cbs i 0))))
    ∙ sym (ap (λ xs. layouts_by v.buffer v.layout (before ++ xs)) (take_more cbs i 0 h)
    ∙ ap (layouts_by v.buffer v.layout) (sym (append_assoc before (take i cbs) (get_or cbs i 0 ∷ [])))
    ∙ behind_append v.buffer v.layout (before ++ take i cbs) (get_or cbs i 0 ∷ []))

execute_rest : (v : View) (f : ℕ → Bool) (before cbs : List ℕ) (i : ℕ) (ready met : Bool) → i < length cbs
    → ready ≡ is_executable (v.buffer (get_or cbs i 0)).state → met ≡ meets (here v before cbs i) (asked_in v.buffer (get_or cbs i 0))
    → turns_fault v f (here v before cbs i) (map execute (drop i cbs))
    ≡ first (unless ready CommandState) (first (unless met LayoutDiffers) (turns_fault v f (here v before cbs (i + 1)) (map execute (drop (i + 1) cbs))))
unfolding turns_fault
execute_rest v f before cbs i ready met h e m =
    at_drop_more (λ xs. turns_fault v f (here v before cbs i) (map execute xs)) cbs i 0 h
    ∙ ap (λ g. first (unless (is_executable (v.buffer (get_or cbs i 0)).state) CommandState)
    (first (unless (meets (here v before cbs i) (asked_in v.buffer (get_or cbs i 0))) LayoutDiffers) (turns_fault v f g (map execute (drop (i + 1) cbs))))) (here_more v before cbs i h)
    ∙ ap (λ b. first (unless b CommandState)
    (first (unless (meets (here v before cbs i) (asked_in v.buffer (get_or cbs i 0))) LayoutDiffers) (turns_fault v f (here v before cbs (i + 1)) (map execute (drop (i + 1) cbs))))) (sym e)
    ∙ ap (λ b. first (unless ready CommandState) (first (unless b LayoutDiffers) (turns_fault v f (here v before cbs (i + 1)) (map execute (drop (i + 1) cbs))))) (sym m)

pub not_ready : (v : View) (f : ℕ → Bool) (before cbs : List ℕ) (i : ℕ) (ready : Bool) (all : Option Fault) → i < length cbs
    → ready ≡ is_executable (v.buffer (get_or cbs i 0)).state → ready ≡ false
    → turns_fault v f (here v before cbs i) (map execute (drop i cbs)) ≡ all → Some CommandState ≡ all
not_ready v f before cbs i ready all h e isnt left =
    sym (execute_rest v f before cbs i ready _ h e refl
    ∙ ap (λ b. first (unless b CommandState) (first (unless (meets (here v before cbs i) (asked_in v.buffer (get_or cbs i 0))) LayoutDiffers)
    (turns_fault v f (here v before cbs (i + 1)) (map execute (drop (i + 1) cbs))))) isnt) ∙ left

pub not_met : (v : View) (f : ℕ → Bool) (before cbs : List ℕ) (i : ℕ) (ready met : Bool) (all : Option Fault) → i < length cbs
    → ready ≡ is_executable (v.buffer (get_or cbs i 0)).state → met ≡ meets (here v before cbs i) (asked_in v.buffer (get_or cbs i 0))
    → ready ≡ true → met ≡ false
    → turns_fault v f (here v before cbs i) (map execute (drop i cbs)) ≡ all → Some LayoutDiffers ≡ all
not_met v f before cbs i ready met all h e m holds isnt left =
    sym (execute_rest v f before cbs i ready met h e m
    ∙ ap (λ b. first (unless b CommandState) (first (unless met LayoutDiffers) (turns_fault v f (here v before cbs (i + 1)) (map execute (drop (i + 1) cbs))))) holds
    ∙ ap (λ b. first (unless b LayoutDiffers) (turns_fault v f (here v before cbs (i + 1)) (map execute (drop (i + 1) cbs)))) isnt) ∙ left

pub is_met : (v : View) (f : ℕ → Bool) (before cbs : List ℕ) (i : ℕ) (ready met : Bool) (all : Option Fault) → i < length cbs
    → ready ≡ is_executable (v.buffer (get_or cbs i 0)).state → met ≡ meets (here v before cbs i) (asked_in v.buffer (get_or cbs i 0))
    → ready ≡ true → met ≡ true
    → turns_fault v f (here v before cbs i) (map execute (drop i cbs)) ≡ all
    → turns_fault v f (here v before cbs (i + 1)) (map execute (drop (i + 1) cbs)) ≡ all
is_met v f before cbs i ready met all h e m holds also left =
    sym (execute_rest v f before cbs i ready met h e m
    ∙ ap (λ b. first (unless b CommandState) (first (unless met LayoutDiffers) (turns_fault v f (here v before cbs (i + 1)) (map execute (drop (i + 1) cbs))))) holds
    ∙ ap (λ b. first (unless b LayoutDiffers) (turns_fault v f (here v before cbs (i + 1)) (map execute (drop (i + 1) cbs)))) also) ∙ left

pub executes_end : (v : View) (f : ℕ → Bool) (l : ℕ → ℕ) (cbs : List ℕ) (i : ℕ) (all : Option Fault) → length cbs ≤ i
    → turns_fault v f l (map execute (drop i cbs)) ≡ all → None ≡ all
unfolding turns_fault
executes_end v f l cbs i all h left = sym (at_drop_all (λ xs. turns_fault v f l (map execute xs)) cbs i h) ∙ left

-- ---- all turns

-- the command buffers that these turns execute
abbrev pub executed : List Turn → List ℕ
executed [] = []
executed (wait s ∷ ts) = executed ts
executed (execute cb ∷ ts) = cb ∷ executed ts
executed (signal s ∷ ts) = executed ts

inner : (a b c d : Option Fault) → first a (first b (first c d)) ≡ first (first a (first b c)) d
inner a b c d = sym (first_assoc a (first b c) d ∙ ap (first a) (first_assoc b c d))

pub split : (v : View) (f : ℕ → Bool) (l : ℕ → ℕ) (ts us : List Turn)
    → turns_fault v f l (ts ++ us) ≡ first (turns_fault v f l ts) (turns_fault v (signals_after f ts) (layouts_by v.buffer l (executed ts)) us)
unfolding turns_fault
split v f l [] us = refl
split v f l (wait s ∷ ts) us =
    ap (first (unless (f s) SignalState)) (split v (but s false f) l ts us)
    ∙ sym (first_assoc (unless (f s) SignalState) (turns_fault v (but s false f) l ts) (turns_fault v (signals_after (but s false f) ts) (layouts_by v.buffer l (executed ts)) us))
split v f l (execute cb ∷ ts) us = let asked = asked_in v.buffer cb in
    ap (λ o. first (unless (is_executable (v.buffer cb).state) CommandState) (first (unless (meets l asked) LayoutDiffers) o))
    (split v f (layouts_after l asked) ts us
    ∙ ap (λ g. first (turns_fault v f (layouts_after l asked) ts) (turns_fault v (signals_after f ts) g us)) (sym (after_append l asked (flat_map (asked_in v.buffer) (executed ts)))))
    ∙ inner (unless (is_executable (v.buffer cb).state) CommandState) (unless (meets l asked) LayoutDiffers) (turns_fault v f (layouts_after l asked) ts)
    (turns_fault v (signals_after f ts) (layouts_by v.buffer l (cb ∷ executed ts)) us)
split v f l (signal s ∷ ts) us =
    ap (first (unless (not (f s)) SignalState)) (split v (but s true f) l ts us)
    ∙ sym (first_assoc (unless (not (f s)) SignalState) (turns_fault v (but s true f) l ts) (turns_fault v (signals_after (but s true f) ts) (layouts_by v.buffer l (executed ts)) us))

executed_append : (ts us : List Turn) → executed (ts ++ us) ≡ executed ts ++ executed us
executed_append [] us = refl
executed_append (wait s ∷ ts) us = executed_append ts us
executed_append (execute cb ∷ ts) us = ap (λ xs. cb ∷ xs) (executed_append ts us)
executed_append (signal s ∷ ts) us = executed_append ts us

of_waits : (ws : List ℕ) → executed (map wait ws) ≡ []
of_waits [] = refl
of_waits (w ∷ ws) = of_waits ws

of_signals : (ss : List ℕ) → executed (map signal ss) ≡ []
of_signals [] = refl
of_signals (s ∷ ss) = of_signals ss

of_executes : (cbs : List ℕ) → executed (map execute cbs) ≡ cbs
of_executes [] = refl
of_executes (cb ∷ cbs) = ap (λ xs. cb ∷ xs) (of_executes cbs)

of_submit : (s : Submit) → executed (turns_of_submit s) ≡ s.cbs
of_submit s =
    executed_append (map wait s.waits ++ map execute s.cbs) (map signal s.signals)
    ∙ ap (λ xs. executed (map wait s.waits ++ map execute s.cbs) ++ xs) (of_signals s.signals)
    ∙ append-nil (executed (map wait s.waits ++ map execute s.cbs))
    ∙ executed_append (map wait s.waits) (map execute s.cbs)
    ∙ ap (λ xs. xs ++ executed (map execute s.cbs)) (of_waits s.waits) ∙ of_executes s.cbs

-- the waits, executions and signals of a submit
pub parts : (v : View) (f : ℕ → Bool) (l : ℕ → ℕ) (s : Submit) (a b c : Option Fault) → a ≡ turns_fault v f l (map wait s.waits)
    → ((g : ℕ → Bool) → b ≡ turns_fault v g l (map execute s.cbs))
    → ((m : ℕ → ℕ) → c ≡ turns_fault v (signals_after f (map wait s.waits)) m (map signal s.signals))
    → first (first a b) c ≡ turns_fault v f l (turns_of_submit s)
parts v f l s a b c e x y =
    let W = map wait s.waits in let E = map execute s.cbs in let S = map signal s.signals in
    let same : signals_after f (W ++ E) ≡ signals_after f W = signals_append f W E ∙ after_executes (signals_after f W) s.cbs in
    ap (λ o. first (first o b) c) e
    ∙ ap (λ o. first (first (turns_fault v f l W) o) c) (x (signals_after f W) ∙ ap (λ xs. turns_fault v (signals_after f W) (layouts_by v.buffer l xs) E) (sym (of_waits s.waits)))
    ∙ ap (λ o. first o c) (sym (split v f l W E))
    ∙ ap (first (turns_fault v f l (W ++ E))) (y (layouts_by v.buffer l (executed (W ++ E))) ∙ ap (λ g. turns_fault v g (layouts_by v.buffer l (executed (W ++ E))) S) (sym same))
    ∙ sym (split v f l (W ++ E) S)

-- ---- submit by submit

drop_turns : (xs : List Submit) (i : ℕ) → flat_map turns_of_submit (drop i xs) ≡ turns_at xs i ++ flat_map turns_of_submit (drop (suc i) xs)
drop_turns [] zero = refl
drop_turns [] (suc i) = refl
drop_turns (x ∷ xs) zero = refl
drop_turns (x ∷ xs) (suc i) = drop_turns xs i

take_turns : (xs : List Submit) (i : ℕ) → flat_map turns_of_submit (take (suc i) xs) ≡ flat_map turns_of_submit (take i xs) ++ turns_at xs i
take_turns [] zero = refl
take_turns [] (suc i) = refl
take_turns (x ∷ xs) zero = append-nil (turns_of_submit x)
take_turns (x ∷ xs) (suc i) =
    ap (λ ts. turns_of_submit x ++ ts) (take_turns xs i) ∙ sym (append_assoc (turns_of_submit x) (flat_map turns_of_submit (take i xs)) (turns_at xs i))

take_cbs : (xs : List Submit) (i : ℕ) → flat_map (λ s. s.cbs) (take (suc i) xs) ≡ flat_map (λ s. s.cbs) (take i xs) ++ executed (turns_at xs i)
take_cbs [] zero = refl
take_cbs [] (suc i) = refl
take_cbs (x ∷ xs) zero = append-nil x.cbs ∙ sym (of_submit x)
take_cbs (x ∷ xs) (suc i) =
    ap (λ ts. x.cbs ++ ts) (take_cbs xs i) ∙ sym (append_assoc x.cbs (flat_map (λ s. s.cbs) (take i xs)) (executed (turns_at xs i)))

-- the fault of the submits from a place on
abbrev pub from : View → List Submit → ℕ → Option Fault
from v submits i =
    turns_fault v (signals_behind v.signalled (take i submits)) (layouts_by v.buffer v.layout (flat_map (λ s. s.cbs) (take i submits))) (flat_map turns_of_submit (drop i submits))

rest : (v : View) (submits : List Submit) (i : ℕ)
    → from v submits i ≡ first (turns_fault v (signals_behind v.signalled (take i submits)) (layouts_by v.buffer v.layout (flat_map (λ s. s.cbs) (take i submits))) (turns_at submits i)) (from v submits (i + 1))
rest v submits i =
    let f = signals_behind v.signalled (take i submits) in
    let l = layouts_by v.buffer v.layout (flat_map (λ s. s.cbs) (take i submits)) in
    let ts = turns_at submits i in
    let signals : signals_after f ts ≡ signals_behind v.signalled (take (suc i) submits) =
    sym (ap (signals_after v.signalled) (take_turns submits i) ∙ signals_append v.signalled (flat_map turns_of_submit (take i submits)) ts) in
    let layouts : layouts_by v.buffer l (executed ts) ≡ layouts_by v.buffer v.layout (flat_map (λ s. s.cbs) (take (suc i) submits)) =
    sym (ap (layouts_by v.buffer v.layout) (take_cbs submits i) ∙ behind_append v.buffer v.layout (flat_map (λ s. s.cbs) (take i submits)) (executed ts)) in
    ap (turns_fault v f l) (drop_turns submits i) ∙ split v f l ts (flat_map turns_of_submit (drop (suc i) submits))
    ∙ ap (λ g. first (turns_fault v f l ts) (turns_fault v g (layouts_by v.buffer l (executed ts)) (flat_map turns_of_submit (drop (suc i) submits)))) signals
    ∙ ap (λ m. first (turns_fault v f l ts) (turns_fault v (signals_behind v.signalled (take (suc i) submits)) m (flat_map turns_of_submit (drop (suc i) submits)))) layouts
    ∙ ap (λ n. first (turns_fault v f l ts) (from v submits n)) (sym (add-one i))

pub submit_breaks : (v : View) (submits : List Submit) (i : ℕ) (x : Fault) (all : Option Fault)
    → Some x ≡ turns_fault v (signals_behind v.signalled (take i submits)) (layouts_by v.buffer v.layout (flat_map (λ s. s.cbs) (take i submits))) (turns_at submits i)
    → from v submits i ≡ all → Some x ≡ all
submit_breaks v submits i x all e left = ap (λ o. first o (from v submits (i + 1))) e ∙ sym (rest v submits i) ∙ left

pub submit_passes : (v : View) (submits : List Submit) (i : ℕ) (all : Option Fault)
    → None ≡ turns_fault v (signals_behind v.signalled (take i submits)) (layouts_by v.buffer v.layout (flat_map (λ s. s.cbs) (take i submits))) (turns_at submits i)
    → from v submits i ≡ all → from v submits (i + 1) ≡ all
submit_passes v submits i all e left = ap (λ o. first o (from v submits (i + 1))) e ∙ sym (rest v submits i) ∙ left

pub submits_end : (v : View) (submits : List Submit) (i : ℕ) (all : Option Fault) → length submits ≤ i → from v submits i ≡ all → None ≡ all
unfolding turns_fault
submits_end v submits i all h left =
    sym (at_drop_all (λ xs. turns_fault v (signals_behind v.signalled (take i submits)) (layouts_by v.buffer v.layout (flat_map (λ s. s.cbs) (take i submits))) (flat_map turns_of_submit xs)) submits i h) ∙ left

-- ---- the fence behind all

pub no_fence : (v : View) (submits : List Submit) (fence : ℕ) → (fence == 0) ≡ true
    → turns_fault v v.signalled v.layout (flat_map turns_of_submit submits) ≡ turns_fault v v.signalled v.layout (turns_of submits fence)
no_fence v submits fence is =
    ap (turns_fault v v.signalled v.layout)
    (sym (ap (λ b. flat_map turns_of_submit submits ++ (if b then [] else signal fence ∷ [])) is ∙ append-nil (flat_map turns_of_submit submits)))

pub a_fence : (v : View) (submits : List Submit) (fence : ℕ) (a b : Option Fault) → (fence == 0) ≡ false
    → a ≡ turns_fault v v.signalled v.layout (flat_map turns_of_submit submits)
    → ((m : ℕ → ℕ) → b ≡ turns_fault v (signals_behind v.signalled submits) m (signal fence ∷ []))
    → first a b ≡ turns_fault v v.signalled v.layout (turns_of submits fence)
a_fence v submits fence a b is e y =
    ap (λ o. first o b) e ∙ ap (first (turns_fault v v.signalled v.layout (flat_map turns_of_submit submits))) (y (layouts_by v.buffer v.layout (executed (flat_map turns_of_submit submits))))
    ∙ sym (split v v.signalled v.layout (flat_map turns_of_submit submits) (signal fence ∷ []))
    ∙ ap (λ t. turns_fault v v.signalled v.layout (flat_map turns_of_submit submits ++ (if t then [] else signal fence ∷ []))) (sym is)

-- the turns of a submit that is at a place
pub sits : (submits : List Submit) (i : ℕ) (s : Submit) → i < length submits → s ≡ get_or submits i s → turns_at submits i ≡ turns_of_submit s
sits submits i s h is = ap (λ o. option_map_or turns_of_submit o []) (slice_get_read submits (length submits) i s refl h is)
