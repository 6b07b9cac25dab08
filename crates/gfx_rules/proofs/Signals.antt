-- Turns that stand one list after another, and what they leave.
use Rattle.std.proofs.Common.{◌≡◌, ◌<◌, ◌≤◌, ◌+◌, ◌==◌, ◌&&◌, ◌||◌, ℕ, Bool, true, false, not, List, [], ◌∷◌, ◌++◌, Option, Some, None, map, flat_map, length, take, drop, get_or, refl, sym, ap, ◌∙◌, append_assoc, append-nil, if◌then◌else◌}
use Rattle.std.proofs.lemmas.List.{at_drop_more, at_drop_all, take_more, map-append}
use Rattle.gfx_types.specs.declared.names.Fault.{Fault}
use Rattle.gfx_types.specs.declared.names.Fault.TheVariants.{SignalState}
use Rattle.gfx_types.specs.declared.lists.Submit.{Submit}
use Rattle.gfx_model.specs.Views.{View}
use Rattle.gfx_model.specs.Checks.{Turn, turns_of_submit, turns_fault, but, is_among, unless, first}
use Rattle.gfx_model.specs.Checks.Turn.{wait, execute, signal}
use Rattle.gfx_rules.specs.Turns.{signals_after, signals_behind}

-- ---- what is signalled

pub signals_append : (f : ℕ → Bool) (ts us : List Turn) → signals_after f (ts ++ us) ≡ signals_after (signals_after f ts) us
signals_append f [] us = refl
signals_append f (wait s ∷ ts) us = signals_append (but s false f) ts us
signals_append f (execute cb ∷ ts) us = signals_append f ts us
signals_append f (signal s ∷ ts) us = signals_append (but s true f) ts us

pub after_executes : (f : ℕ → Bool) (cbs : List ℕ) → signals_after f (map execute cbs) ≡ f
after_executes f [] = refl
after_executes f (cb ∷ cbs) = after_executes f cbs

waited : (here more is : Bool) → (not more && (if here then false else is)) ≡ (not (here || more) && is)
waited true true is = refl
waited true false is = refl
waited false more is = refl

pub after_waits : (f : ℕ → Bool) (ws : List ℕ) (x : ℕ) → signals_after f (map wait ws) x ≡ (not (is_among x ws) && f x)
after_waits f [] x = refl
after_waits f (w ∷ ws) x = after_waits (but w false f) ws x ∙ waited (w == x) (is_among x ws) (f x)

signalled : (here more is : Bool) → (more || (if here then true else is)) ≡ ((here || more) || is)
signalled true true is = refl
signalled true false is = refl
signalled false more is = refl

pub after_signals : (f : ℕ → Bool) (ss : List ℕ) (x : ℕ) → signals_after f (map signal ss) x ≡ (is_among x ss || f x)
after_signals f [] x = refl
after_signals f (s ∷ ss) x = after_signals (but s true f) ss x ∙ signalled (s == x) (is_among x ss) (f x)

-- what a submit leaves
pub after_submit : (f : ℕ → Bool) (s : Submit) (x : ℕ) → signals_after f (turns_of_submit s) x ≡ (is_among x s.signals || (not (is_among x s.waits) && f x))
after_submit f s x =
    ap (λ g. g x) (signals_append f (map wait s.waits ++ map execute s.cbs) (map signal s.signals)
    ∙ ap (λ g. signals_after g (map signal s.signals)) (signals_append f (map wait s.waits) (map execute s.cbs) ∙ after_executes (signals_after f (map wait s.waits)) s.cbs))
    ∙ after_signals (signals_after f (map wait s.waits)) s.signals x
    ∙ ap (λ b. is_among x s.signals || b) (after_waits f s.waits x)

pub flat_append : {A : Type 0} {B : Type 0} (f : A → List B) (xs ys : List A) → flat_map f (xs ++ ys) ≡ flat_map f xs ++ flat_map f ys
flat_append f [] ys = refl
flat_append f (x ∷ xs) ys = ap (λ zs. f x ++ zs) (flat_append f xs ys) ∙ sym (append_assoc (f x) (flat_map f xs) (flat_map f ys))

-- one item more
pub flat_more : {A : Type 0} {B : Type 0} (f : A → List B) (xs : List A) (i : ℕ) (x : A) → i < length xs → x ≡ get_or xs i x
    → flat_map f (take (i + 1) xs) ≡ flat_map f (take i xs) ++ f x
flat_more f xs i x h is =
    ap (flat_map f) (take_more xs i x h) ∙ flat_append f (take i xs) (get_or xs i x ∷ [])
    ∙ ap (λ ys. flat_map f (take i xs) ++ ys) (append-nil (f (get_or xs i x)) ∙ ap f (sym is))

-- one submit more
pub behind_more : (f : ℕ → Bool) (submits : List Submit) (i : ℕ) (s : Submit) → i < length submits → s ≡ get_or submits i s
    → signals_behind f (take (i + 1) submits) ≡ signals_after (signals_behind f (take i submits)) (turns_of_submit s)
behind_more f submits i s h is =
    ap (signals_after f) (flat_more turns_of_submit submits i s h is) ∙ signals_append f (flat_map turns_of_submit (take i submits)) (turns_of_submit s)

-- ---- waits and signals one after another

waits_more : (f : ℕ → Bool) (ws : List ℕ) (i : ℕ) → i < length ws
    → but (get_or ws i 0) false (signals_after f (map wait (take i ws))) ≡ signals_after f (map wait (take (i + 1) ws))
waits_more f ws i h =
    sym (ap (λ xs. signals_after f (map wait xs)) (take_more ws i 0 h) ∙ ap (signals_after f) (map-append wait (take i ws) (get_or ws i 0 ∷ []))
    ∙ signals_append f (map wait (take i ws)) (wait (get_or ws i 0) ∷ []))

signals_more : (f : ℕ → Bool) (ss : List ℕ) (i : ℕ) → i < length ss
    → but (get_or ss i 0) true (signals_after f (map signal (take i ss))) ≡ signals_after f (map signal (take (i + 1) ss))
signals_more f ss i h =
    sym (ap (λ xs. signals_after f (map signal xs)) (take_more ss i 0 h) ∙ ap (signals_after f) (map-append signal (take i ss) (get_or ss i 0 ∷ []))
    ∙ signals_append f (map signal (take i ss)) (signal (get_or ss i 0) ∷ []))

wait_rest : (v : View) (f : ℕ → Bool) (l : ℕ → ℕ) (ws : List ℕ) (i : ℕ) (is : Bool) → i < length ws → is ≡ signals_after f (map wait (take i ws)) (get_or ws i 0)
    → turns_fault v (signals_after f (map wait (take i ws))) l (map wait (drop i ws))
    ≡ first (unless is SignalState) (turns_fault v (signals_after f (map wait (take (i + 1) ws))) l (map wait (drop (i + 1) ws)))
unfolding turns_fault
wait_rest v f l ws i is h e =
    at_drop_more (λ xs. turns_fault v (signals_after f (map wait (take i ws))) l (map wait xs)) ws i 0 h
    ∙ ap (λ g. first (unless (signals_after f (map wait (take i ws)) (get_or ws i 0)) SignalState) (turns_fault v g l (map wait (drop (i + 1) ws)))) (waits_more f ws i h)
    ∙ ap (λ b. first (unless b SignalState) (turns_fault v (signals_after f (map wait (take (i + 1) ws))) l (map wait (drop (i + 1) ws)))) (sym e)

pub wait_breaks : (v : View) (f : ℕ → Bool) (l : ℕ → ℕ) (ws : List ℕ) (i : ℕ) (is : Bool) (all : Option Fault) → i < length ws
    → is ≡ signals_after f (map wait (take i ws)) (get_or ws i 0) → is ≡ false
    → turns_fault v (signals_after f (map wait (take i ws))) l (map wait (drop i ws)) ≡ all → Some SignalState ≡ all
wait_breaks v f l ws i is all h e isnt left =
    sym (wait_rest v f l ws i is h e ∙ ap (λ b. first (unless b SignalState) (turns_fault v (signals_after f (map wait (take (i + 1) ws))) l (map wait (drop (i + 1) ws)))) isnt) ∙ left

pub wait_passes : (v : View) (f : ℕ → Bool) (l : ℕ → ℕ) (ws : List ℕ) (i : ℕ) (is : Bool) (all : Option Fault) → i < length ws
    → is ≡ signals_after f (map wait (take i ws)) (get_or ws i 0) → is ≡ true
    → turns_fault v (signals_after f (map wait (take i ws))) l (map wait (drop i ws)) ≡ all
    → turns_fault v (signals_after f (map wait (take (i + 1) ws))) l (map wait (drop (i + 1) ws)) ≡ all
wait_passes v f l ws i is all h e holds left =
    sym (wait_rest v f l ws i is h e ∙ ap (λ b. first (unless b SignalState) (turns_fault v (signals_after f (map wait (take (i + 1) ws))) l (map wait (drop (i + 1) ws)))) holds) ∙ left

signal_rest : (v : View) (f : ℕ → Bool) (l : ℕ → ℕ) (ss : List ℕ) (i : ℕ) (is : Bool) → i < length ss → is ≡ signals_after f (map signal (take i ss)) (get_or ss i 0)
    → turns_fault v (signals_after f (map signal (take i ss))) l (map signal (drop i ss))
    ≡ first (unless (not is) SignalState) (turns_fault v (signals_after f (map signal (take (i + 1) ss))) l (map signal (drop (i + 1) ss)))
unfolding turns_fault
signal_rest v f l ss i is h e =
    at_drop_more (λ xs. turns_fault v (signals_after f (map signal (take i ss))) l (map signal xs)) ss i 0 h
    ∙ ap (λ g. first (unless (not (signals_after f (map signal (take i ss)) (get_or ss i 0))) SignalState) (turns_fault v g l (map signal (drop (i + 1) ss)))) (signals_more f ss i h)
    ∙ ap (λ b. first (unless (not b) SignalState) (turns_fault v (signals_after f (map signal (take (i + 1) ss))) l (map signal (drop (i + 1) ss)))) (sym e)

pub signal_breaks : (v : View) (f : ℕ → Bool) (l : ℕ → ℕ) (ss : List ℕ) (i : ℕ) (is : Bool) (all : Option Fault) → i < length ss
    → is ≡ signals_after f (map signal (take i ss)) (get_or ss i 0) → is ≡ true
    → turns_fault v (signals_after f (map signal (take i ss))) l (map signal (drop i ss)) ≡ all → Some SignalState ≡ all
signal_breaks v f l ss i is all h e holds left =
    sym (signal_rest v f l ss i is h e ∙ ap (λ b. first (unless (not b) SignalState) (turns_fault v (signals_after f (map signal (take (i + 1) ss))) l (map signal (drop (i + 1) ss)))) holds) ∙ left

pub signal_passes : (v : View) (f : ℕ → Bool) (l : ℕ → ℕ) (ss : List ℕ) (i : ℕ) (is : Bool) (all : Option Fault) → i < length ss
    → is ≡ signals_after f (map signal (take i ss)) (get_or ss i 0) → is ≡ false
    → turns_fault v (signals_after f (map signal (take i ss))) l (map signal (drop i ss)) ≡ all
    → turns_fault v (signals_after f (map signal (take (i + 1) ss))) l (map signal (drop (i + 1) ss)) ≡ all
signal_passes v f l ss i is all h e isnt left =
    sym (signal_rest v f l ss i is h e ∙ ap (λ b. first (unless (not b) SignalState) (turns_fault v (signals_after f (map signal (take (i + 1) ss))) l (map signal (drop (i + 1) ss)))) isnt) ∙ left

pub waits_end : (v : View) (f : ℕ → Bool) (l : ℕ → ℕ) (ws : List ℕ) (i : ℕ) (all : Option Fault) → length ws ≤ i
    → turns_fault v f l (map wait (drop i ws)) ≡ all → None ≡ all
unfolding turns_fault
waits_end v f l ws i all h left = sym (at_drop_all (λ xs. turns_fault v f l (map wait xs)) ws i h) ∙ left

pub signals_end : (v : View) (f : ℕ → Bool) (l : ℕ → ℕ) (ss : List ℕ) (i : ℕ) (all : Option Fault) → length ss ≤ i
    → turns_fault v f l (map signal (drop i ss)) ≡ all → None ≡ all
unfolding turns_fault
signals_end v f l ss i all h left = sym (at_drop_all (λ xs. turns_fault v f l (map signal xs)) ss i h) ∙ left

-- ---- what code finds

pub unwaited : (f : ℕ → Bool) (ws : List ℕ) (x : ℕ) (found is : Bool) → found ≡ is_among x ws → found ≡ false → is ≡ f x
    → is ≡ signals_after f (map wait ws) x
unwaited f ws x found is e t h =
    sym (after_waits f ws x ∙ ap (λ b. b && f x) (ap not (sym e ∙ t)) ∙ sym h)

pub is_waited : (f : ℕ → Bool) (ws : List ℕ) (x : ℕ) (found : Bool) → found ≡ is_among x ws → found ≡ true
    → not found ≡ signals_after f (map wait ws) x
is_waited f ws x found e t =
    ap not t ∙ sym (after_waits f ws x ∙ ap (λ b. b && f x) (ap not (sym e ∙ t)))

pub is_signal : (f : ℕ → Bool) (ss : List ℕ) (x : ℕ) (found : Bool) → found ≡ is_among x ss → found ≡ true
    → found ≡ signals_after f (map signal ss) x
is_signal f ss x found e t = t ∙ sym (after_signals f ss x ∙ ap (λ b. b || f x) (sym e ∙ t))

pub unsignalled : (f : ℕ → Bool) (ss : List ℕ) (x : ℕ) (found is : Bool) → found ≡ is_among x ss → found ≡ false → is ≡ f x
    → is ≡ signals_after f (map signal ss) x
unsignalled f ss x found is e t h = sym (after_signals f ss x ∙ ap (λ b. b || f x) (sym e ∙ t) ∙ sym h)

pub submit_signals : (f : ℕ → Bool) (s : Submit) (x : ℕ) (found : Bool) → found ≡ is_among x s.signals → found ≡ true
    → found ≡ signals_after f (turns_of_submit s) x
submit_signals f s x found e t = t ∙ sym (after_submit f s x ∙ ap (λ b. b || (not (is_among x s.waits) && f x)) (sym e ∙ t))

pub submit_waits : (f : ℕ → Bool) (s : Submit) (x : ℕ) (found also : Bool) → found ≡ is_among x s.signals → found ≡ false
    → also ≡ is_among x s.waits → also ≡ true → not also ≡ signals_after f (turns_of_submit s) x
submit_waits f s x found also e t a u =
    ap not u ∙ sym (after_submit f s x ∙ ap (λ b. b || (not (is_among x s.waits) && f x)) (sym e ∙ t) ∙ ap (λ b. b && f x) (ap not (sym a ∙ u)))

pub submit_leaves : (f : ℕ → Bool) (s : Submit) (x : ℕ) (found also is : Bool) → found ≡ is_among x s.signals → found ≡ false
    → also ≡ is_among x s.waits → also ≡ false → is ≡ f x → is ≡ signals_after f (turns_of_submit s) x
submit_leaves f s x found also is e t a u h =
    sym (after_submit f s x ∙ ap (λ b. b || (not (is_among x s.waits) && f x)) (sym e ∙ t) ∙ ap (λ b. b && f x) (ap not (sym a ∙ u)) ∙ sym h)
