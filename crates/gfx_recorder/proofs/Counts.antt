-- How often the closed log creates an id: no more often than the passes drew it.
use Rattle.std.proofs.Common.{◌≡◌, ◌≢◌, ◌⊎◌, inl, inr, ℕ, ◌+◌, ◌≤◌, ◌==◌, Bool, true, false, cond, List, [], ◌∷◌, All, sym, refl, ap, ◌∙◌, arith, eq-eqb, ne_eqb}
use Rattle.std.proofs.lemmas.Bool.{cases_eq}
use Rattle.std.proofs.lemmas.List.Elements.{All-nil, All-cons, All-head, All-tail}
use Rattle.gfx_script_model.specs.Ids.{defines_of}
use Rattle.gfx_script_model.specs.Runs.{Entry, AreIds, created_by}
use Rattle.gfx_seats.specs.declared.hand.Hand.{Hand}
use Rattle.gfx_seats.specs.Entries.{times, total, entries_of, created}
use Rattle.gfx_seats.specs.Hand.{drawn_times}
use Rattle.gfx_taken_law.proofs.TakenLaws.{creates_alike}
use Rattle.gfx_capture.specs.Entry.{entry_thread, entry_ids}
use Rattle.gfx_run_law.proofs.Ids.{creates, counted, all-positive, all-distinct}
use Rattle.gfx_recorder.specs.Progress.{MadeOfDrawn}

entry-kept : (t : ℕ) (e : Entry) (es : List Entry) → (e.thread == t) ≡ true → entries_of entry_thread t (e ∷ es) ≡ e ∷ entries_of entry_thread t es
entry-kept t e es same = ap (λ (b : Bool). cond b (e ∷ entries_of entry_thread t es) (entries_of entry_thread t es)) same

entry-dropped : (t : ℕ) (e : Entry) (es : List Entry) → (e.thread == t) ≡ false → entries_of entry_thread t (e ∷ es) ≡ entries_of entry_thread t es
entry-dropped t e es other = ap (λ (b : Bool). cond b (e ∷ entries_of entry_thread t es) (entries_of entry_thread t es)) other

module _ (x : ℕ) where
  -- how often the entries of a hand's thread create the id
  abbrev of-hand : List Entry → Hand Entry → ℕ
  of-hand log h = created entry_ids x (entries_of entry_thread h.thread log)

  one-more : (e : Entry) (es : List Entry) (h : Hand Entry) → h.thread ≡ e.thread → of-hand (e ∷ es) h ≡ times x (entry_ids e) + of-hand es h
  one-more e es h same = ap (created entry_ids x) (entry-kept h.thread e es (eq-eqb e.thread h.thread (sym same)))

  no-less : (e : Entry) (es : List Entry) (h : Hand Entry) → of-hand es h ≤ of-hand (e ∷ es) h
  no-less e es h = by (cases_eq e.thread h.thread)
    where
      by : (e.thread ≡ h.thread) ⊎ (e.thread ≡ h.thread → ⊥) → of-hand es h ≤ of-hand (e ∷ es) h
      by (inl same) = let a = one-more e es h (sym same) in omega arith
      by (inr other) = let a : of-hand (e ∷ es) h ≡ of-hand es h = ap (created entry_ids x) (entry-dropped h.thread e es (ne_eqb e.thread h.thread other)) in omega arith

  total-more : (e : Entry) (es : List Entry) (hs : List (Hand Entry)) → total (of-hand es) hs ≤ total (of-hand (e ∷ es)) hs
  total-more e es [] = omega arith
  total-more e es (h ∷ hs) = let a = no-less e es h in let b = total-more e es hs in omega arith

  -- an entry counts at the hand of its thread, or there is none
  counts-there : (e : Entry) (es : List Entry) (hs : List (Hand Entry)) → (times x (entry_ids e) + total (of-hand es) hs ≤ total (of-hand (e ∷ es)) hs) ⊎ All (λ h. h.thread ≢ e.thread) hs
  counts-there e es [] = inr (All-nil (λ h. h.thread ≢ e.thread))
  counts-there e es (h ∷ hs) = by (cases_eq h.thread e.thread) (counts-there e es hs)
    where
      by : (h.thread ≡ e.thread) ⊎ (h.thread ≡ e.thread → ⊥) → (times x (entry_ids e) + total (of-hand es) hs ≤ total (of-hand (e ∷ es)) hs) ⊎ All (λ h. h.thread ≢ e.thread) hs
          → (times x (entry_ids e) + total (of-hand es) (h ∷ hs) ≤ total (of-hand (e ∷ es)) (h ∷ hs)) ⊎ All (λ h. h.thread ≢ e.thread) (h ∷ hs)
      by (inl same) later = inl (let a = one-more e es h same in let b = total-more e es hs in omega arith)
      by (inr other) (inl later) = inl (let a = no-less e es h in omega arith)
      by (inr other) (inr none) = inr (All-cons (λ h. h.thread ≢ e.thread) h hs other none)

  spread : (hs : List (Hand Entry)) (log : List Entry) → ((t : ℕ) → All (λ h. h.thread ≢ t) hs → entries_of entry_thread t log ≡ []) → created entry_ids x log ≤ total (of-hand log) hs
  spread hs [] foreign = omega arith
  spread hs (e ∷ es) foreign = by (counts-there e es hs) (spread hs es later)
    where
      later : (t : ℕ) → All (λ h. h.thread ≢ t) hs → entries_of entry_thread t es ≡ []
      later t none = go (cases_eq e.thread t)
        where
          go : (e.thread ≡ t) ⊎ (e.thread ≡ t → ⊥) → entries_of entry_thread t es ≡ []
          go (inl same) = let no : e ∷ entries_of entry_thread t es ≡ [] = sym (entry-kept t e es (eq-eqb e.thread t same)) ∙ foreign t none in absurd cc
          go (inr other) = sym (entry-dropped t e es (ne_eqb e.thread t other)) ∙ foreign t none

      by : (times x (entry_ids e) + total (of-hand es) hs ≤ total (of-hand (e ∷ es)) hs) ⊎ All (λ h. h.thread ≢ e.thread) hs → created entry_ids x es ≤ total (of-hand es) hs → created entry_ids x (e ∷ es) ≤ total (of-hand (e ∷ es)) hs
      by (inl counts) rest = omega arith
      by (inr none) rest = let no : e ∷ entries_of entry_thread e.thread es ≡ [] = sym (entry-kept e.thread e es (eq-eqb e.thread e.thread refl)) ∙ foreign e.thread none in absurd cc

  drawn-above : (log : List Entry) (hs : List (Hand Entry)) → All (λ h. entries_of entry_thread h.thread log ≡ h.mine) hs → All MadeOfDrawn hs → total (of-hand log) hs ≤ total (drawn_times x) hs
  drawn-above log [] mine drew = omega arith
  drawn-above log (h ∷ hs) mine drew =
      let a : of-hand log h ≡ created entry_ids x h.mine = ap (created entry_ids x) (All-head (λ h. entries_of entry_thread h.thread log ≡ h.mine) h hs mine) in
      let b = All-head MadeOfDrawn h hs drew x in
      let c = drawn-above log hs (All-tail (λ h. entries_of entry_thread h.thread log ≡ h.mine) h hs mine) (All-tail MadeOfDrawn h hs drew) in omega arith

  -- where all threads have hands, the log creates the id no more often than it was drawn
  pub created-drawn : (log : List Entry) (hs : List (Hand Entry)) → ((t : ℕ) → All (λ h. h.thread ≢ t) hs → entries_of entry_thread t log ≡ [])
      → All (λ h. entries_of entry_thread h.thread log ≡ h.mine) hs → All MadeOfDrawn hs → created entry_ids x log ≤ total (drawn_times x) hs
  created-drawn log hs foreign mine drew = let a = spread hs log foreign in let b = drawn-above log hs mine drew in omega arith

-- in every version
pub created-in : (m x : ℕ) (log : List Entry) → creates m x log ≡ created entry_ids x log
created-in m x [] = refl
created-in m x (e ∷ es) = let a : times x (defines_of m e.event) ≡ times x (entry_ids e) = ap (times x) (creates_alike m 1 e.event) in let r = created-in m x es in omega arith

-- a log that creates each id once, and not 0, has ids
pub ids-by-counts : (m : ℕ) (ids : ℕ → ℕ) (log : List Entry) → ids 0 ≡ 0 → created entry_ids 0 log ≡ 0 → ((x : ℕ) → created entry_ids x log ≤ 1) → AreIds m ids log
ids-by-counts m ids log none positive once = record {
  none = none;
  positive = all-positive (created_by m log) (sym (counted m 0 log) ∙ (created-in m 0 log ∙ positive));
  distinct = all-distinct (created_by m log) (λ x. let a = counted m x log in let b = created-in m x log in let c = once x in omega arith);
}
