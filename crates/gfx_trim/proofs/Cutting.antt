-- Where blocks are cut, with more blocks behind them.
use Rattle.std.proofs.Common.{◌≡◌, ℕ, Bool, true, false, cond, ◌||◌, refl, ◌∙◌, ap, List, [], ◌∷◌, ◌++◌}
use Rattle.gfx_model.specs.Events.{Event}
use Rattle.gfx_model.specs.Blocks.{Whole, Content}
use Rattle.gfx_model.specs.Blocks.Content.{skipped, effect}
use Rattle.gfx_model.specs.Meaning.{content_onto, events_onto}
use Rattle.gfx_model.specs.Trimmed.{Cut, cuts_before, with_front, cut_before, reaches, content_begins, has_section}
use Rattle.gfx_trim.specs.Written.{acts, has_effect}

pub or_more : (a b c : Bool) → (a || (b || c)) ≡ ((a || b) || c)
or_more true b c = refl
or_more false b c = refl

pub reaches_more : (n : ℕ) (h : List Event) (ws more : List Whole) → reaches n h (ws ++ more) ≡ (reaches n h ws || reaches n (events_onto ws h) more)
reaches_more n h [] more = refl
reaches_more n h (w ∷ ws) more =
    ap (λ t. cuts_before n h w.content || t) (reaches_more n (content_onto w.content h) ws more)
    ∙ or_more (cuts_before n h w.content) (reaches n (content_onto w.content h) ws) (reaches n (events_onto ws (content_onto w.content h)) more)

-- a cut, and more blocks behind it
abbrev pub behind : Cut → List Whole → Cut
behind c more = record { front = c.front; rest = c.rest ++ more }

-- blocks before a cut
abbrev pub before : List Whole → Cut → Cut
before ws c = record { front = ws ++ c.front; rest = c.rest }

-- the cut is found
pub cut_found : (n : ℕ) (h : List Event) (ws more : List Whole) → reaches n h ws ≡ true → cut_before n h (ws ++ more) ≡ behind (cut_before n h ws) more
unfolding cut_before
cut_found n h [] more r = absurd cc
cut_found n h (w ∷ ws) more r = by (cuts_before n h w.content) r (cut_found n (content_onto w.content h) ws more)
  where
    by : (b : Bool) → (b || reaches n (content_onto w.content h) ws) ≡ true →
        (reaches n (content_onto w.content h) ws ≡ true → cut_before n (content_onto w.content h) (ws ++ more) ≡ behind (cut_before n (content_onto w.content h) ws) more) →
        cond b (record { front = w ∷ []; rest = ws ++ more }) (with_front w (cut_before n (content_onto w.content h) (ws ++ more)))
        ≡ behind (cond b (record { front = w ∷ []; rest = ws }) (with_front w (cut_before n (content_onto w.content h) ws))) more
    by true r later = refl
    by false r later = ap (with_front w) (later r)

-- it is still ahead
pub cut_ahead : (n : ℕ) (h : List Event) (ws more : List Whole) → reaches n h ws ≡ false → cut_before n h (ws ++ more) ≡ before ws (cut_before n (events_onto ws h) more)
unfolding cut_before
cut_ahead n h [] more r = refl
cut_ahead n h (w ∷ ws) more r = by (cuts_before n h w.content) r (cut_ahead n (content_onto w.content h) ws more)
  where
    by : (b : Bool) → (b || reaches n (content_onto w.content h) ws) ≡ false →
        (reaches n (content_onto w.content h) ws ≡ false → cut_before n (content_onto w.content h) (ws ++ more) ≡ before ws (cut_before n (events_onto ws (content_onto w.content h)) more)) →
        cond b (record { front = w ∷ []; rest = ws ++ more }) (with_front w (cut_before n (content_onto w.content h) (ws ++ more)))
        ≡ before (w ∷ ws) (cut_before n (events_onto ws (content_onto w.content h)) more)
    by true r later = absurd cc
    by false r later = ap (with_front w) (later r)

pub cut_all : (n : ℕ) (h : List Event) (ws : List Whole) → reaches n h ws ≡ false → cut_before n h ws ≡ record { front = ws; rest = [] }
unfolding cut_before
cut_all n h [] r = refl
cut_all n h (w ∷ ws) r = by (cuts_before n h w.content) r (cut_all n (content_onto w.content h) ws)
  where
    by : (b : Bool) → (b || reaches n (content_onto w.content h) ws) ≡ false →
        (reaches n (content_onto w.content h) ws ≡ false → cut_before n (content_onto w.content h) ws ≡ record { front = ws; rest = [] }) →
        cond b (record { front = w ∷ []; rest = ws }) (with_front w (cut_before n (content_onto w.content h) ws)) ≡ record { front = w ∷ ws; rest = [] }
    by true r later = absurd cc
    by false r later = ap (with_front w) (later r)

-- one block is the prefix, whether it cuts or not
pub cut_one : (n : ℕ) (h : List Event) (w : Whole) → (cut_before n h (w ∷ [])).front ≡ w ∷ []
unfolding cut_before
cut_one n h w = by (cuts_before n h w.content)
  where
    by : (b : Bool) → (cond {A = Cut} b (record { front = w ∷ []; rest = [] }) (record { front = w ∷ []; rest = [] })).front ≡ w ∷ []
    by true = refl
    by false = refl

pub cut_none : (n : ℕ) (h : List Event) → cut_before n h [] ≡ record { front = []; rest = [] }
unfolding cut_before
cut_none n h = refl

pub cut_parts : (n : ℕ) (h : List Event) (ws : List Whole) → (cut_before n h ws).front ++ (cut_before n h ws).rest ≡ ws
unfolding cut_before
cut_parts n h [] = refl
cut_parts n h (w ∷ ws) = by (cuts_before n h w.content) (cut_parts n (content_onto w.content h) ws)
  where
    all : Cut → List Whole
    all c = c.front ++ c.rest

    by : (b : Bool) → all (cut_before n (content_onto w.content h) ws) ≡ ws →
        all (cond {A = Cut} b (record { front = w ∷ []; rest = ws }) (with_front w (cut_before n (content_onto w.content h) ws))) ≡ w ∷ ws
    by true later = refl
    by false later = ap (λ (ws : List Whole). w ∷ ws) later

-- blocks without an effect change nothing
pub quiet_history : (ws : List Whole) (h : List Event) → has_effect ws ≡ false → events_onto ws h ≡ h
quiet_history [] h none = refl
quiet_history (w ∷ ws) h none = by w.content none (quiet_history ws)
  where
    by : (c : Content) → (acts c || has_effect ws) ≡ false → ((h : List Event) → has_effect ws ≡ false → events_onto ws h ≡ h) → events_onto ws (content_onto c h) ≡ h
    by skipped none later = later h none
    by (effect thread e) none later = absurd cc

pub quiet_reaches : (n : ℕ) (ws : List Whole) (h : List Event) → has_effect ws ≡ false → reaches n h ws ≡ false
quiet_reaches n [] h none = refl
quiet_reaches n (w ∷ ws) h none = by w.content none (quiet_reaches n ws)
  where
    by : (c : Content) → (acts c || has_effect ws) ≡ false → ((h : List Event) → has_effect ws ≡ false → reaches n h ws ≡ false) → (cuts_before n h c || reaches n (content_onto c h) ws) ≡ false
    by skipped none later = later h none
    by (effect thread e) none later = absurd cc

pub reaches_acts : (n : ℕ) (h : List Event) (ws : List Whole) → reaches n h ws ≡ true → has_effect ws ≡ true
reaches_acts n h ws there = by (has_effect ws) refl
  where
    by : (b : Bool) → has_effect ws ≡ b → b ≡ true
    by true is = refl
    by false is = let none = quiet_reaches n ws h is in absurd cc

-- the first effect decides whether there is a section
pub acted_section : (ws more : List Whole) → has_effect ws ≡ true → has_section (ws ++ more) ≡ has_section ws
acted_section [] more some = absurd cc
acted_section (w ∷ ws) more some = by w.content some (acted_section ws more)
  where
    by : (c : Content) → (acts c || has_effect ws) ≡ true → (has_effect ws ≡ true → has_section (ws ++ more) ≡ has_section ws) →
        content_begins c (has_section (ws ++ more)) ≡ content_begins c (has_section ws)
    by skipped some later = later some
    by (effect thread e) some later = refl

pub quiet_section : (ws more : List Whole) → has_effect ws ≡ false → has_section (ws ++ more) ≡ has_section more
quiet_section [] more none = refl
quiet_section (w ∷ ws) more none = by w.content none (quiet_section ws more)
  where
    by : (c : Content) → (acts c || has_effect ws) ≡ false → (has_effect ws ≡ false → has_section (ws ++ more) ≡ has_section more) →
        content_begins c (has_section (ws ++ more)) ≡ has_section more
    by skipped none later = later none
    by (effect thread e) none later = absurd cc
