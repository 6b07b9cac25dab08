-- A batch has its place: what the turn, the append and leaving tell together.
use Rattle.std.proofs.Common.{◌≡◌, ℕ, ◌+◌, ◌≤◌, Bool, true, false, List, [], ◌∷◌, ◌++◌, take, length, sym, refl, ap, ◌∙◌, subst, arith, append-nil, append_assoc, length-append, Result, Ok, Err}
use Rattle.std.proofs.lemmas.List.{append_cancel_left, length-map, length-take-le}
use mathlib.Core.List.{IsPrefix}
use Rattle.gfx_types.specs.declared.names.Fault.{Fault}
use Rattle.gfx_model.specs.Events.{Event}
use Rattle.gfx_script_model.specs.Runs.{Entry}
use Rattle.gfx_seats.specs.declared.hand.Hand.{Hand}
use Rattle.gfx_seats.specs.declared.stage.Stage.{Stage}
use Rattle.gfx_seats.specs.declared.stage.Stage.TheVariants.{Idle, HasTurn}
use Rattle.gfx_seats.specs.Stage.{stage_of}
use Rattle.gfx_seats.specs.Hand.{at_turn, with_stage, Appended}
use Rattle.gfx_capture.specs.declared.answer.Receipt.{Receipt}
use Rattle.gfx_capture.specs.declared.answer.AppendFault.{AppendFault}
use Rattle.gfx_capture.specs.declared.answer.AppendFault.TheVariants as append
use Rattle.gfx_capture.specs.Entry.{entry, entries_under, entry_thread, entry_ids, named_ids}
use Rattle.gfx_capture.specs.Log.{IsSound}
use Rattle.gfx_capture.specs.Append.{IsFaulty, IsFull, Stand, Appends}
use Rattle.gfx_capture.specs.Pass.{Keeps, Grew, IsPlaced, Tells}

-- the pass before the turn, with it, after the append, and after it left
module _ (h h₁ h₂ h₃ : Hand Entry) (events : List Event) (got : h₁ ≡ at_turn h h₁.seen) (added : Appended entry_thread entry_ids h₁ (named_ids events) h₂) (left : h₃ ≡ with_stage h₂ Idle) where
  same : h₁.thread ≡ h.thread
  same = ap (λ z. z.thread) got

  all_seen : h₃.seen ≡ h₂.seen
  all_seen = ap (λ z. z.seen) left

  seen_more : h₂.seen ≡ h₁.seen ++ added.more
  seen_more = ap (λ z. z.seen) added.hand

  mine_more : h₂.mine ≡ h.mine ++ added.more
  mine_more = ap (λ z. z.mine) added.hand ∙ ap (λ z. z.mine ++ added.more) got

  pub keeps : IsPrefix h.seen h₁.seen → h.known ≤ h₁.known → Keeps h h₃
  keeps before known_before = record {
    thread = ap (λ z. z.thread) left ∙ (ap (λ z. z.thread) added.hand ∙ same);
    kind = ap (λ z. z.kind) left ∙ (ap (λ z. z.kind) added.hand ∙ ap (λ z. z.kind) got);
    drawn = ap (λ z. z.drawn) left ∙ (ap (λ z. z.drawn) added.hand ∙ ap (λ z. z.drawn) got);
    stage = ap (λ z. z.stage) left;
    before = (
      before.0 ++ added.more,
      sym (append_assoc h.seen before.0 added.more) ∙ (ap (λ l. l ++ added.more) before.1 ∙ (sym seen_more ∙ sym all_seen)),
    );
    known =
        let whole : h₁.known ≡ length h₁.seen = ap (λ z. z.known) got in
        let more : h₃.known ≡ length (h₁.seen ++ added.more) = ap (λ z. z.known) left ∙ ap (λ z. z.known) added.hand in
        let long = length-append h₁.seen added.more in omega arith;
  }

  module _ (n : ℕ) (stand : Stand h₁.seen h₁.thread events n h₂.seen) where
    grew : Grew h events n h₃
    grew =
        let more : added.more ≡ entries_under h₁.thread (take n events) = append_cancel_left h₁.seen added.more (entries_under h₁.thread (take n events)) (sym seen_more ∙ stand) in
        let own : entries_under h₁.thread (take n events) ≡ entries_under h.thread (take n events) = ap (λ t. entries_under t (take n events)) same in record {
          log = h₁.seen;
          seen = all_seen ∙ (stand ∙ ap (λ l. h₁.seen ++ l) own);
          mine = ap (λ z. z.mine) left ∙ (mine_more ∙ ap (λ l. h.mine ++ l) (more ∙ own));
        }

    module _ (m : ℕ) (m-is : m ≡ h.kind) (known : h.known ≤ h₁.known) (inside : n ≤ length events) (sound : IsSound m h₂.seen) where
      is_placed : IsPlaced h events (length h₁.seen) n h₃
      is_placed = record {
        grew = grew;
        known = let whole : h₁.known ≡ length h₁.seen = ap (λ z. z.known) got in omega arith;
        place =
            ap length all_seen ∙ (ap length stand ∙ (length-append h₁.seen (entries_under h₁.thread (take n events))
            ∙ ap (λ k. length h₁.seen + k) (length-map (take n events) (entry h₁.thread) ∙ length-take-le n events inside)));
        sound = subst (λ k. IsSound k h₃.seen) m-is (subst (IsSound m) (sym all_seen) sound);
      }

  module _ (m : ℕ) (m-is : m ≡ h.kind) (known : h.known ≤ h₁.known) where
    faulty : (event : Event) (f : Fault) → IsFaulty m h₁.thread h₂.seen event f → IsFaulty h.kind h.thread h₃.seen event f
    faulty event f is = subst (λ k. IsFaulty k h.thread h₃.seen event f) m-is (subst (λ t. IsFaulty m t h₃.seen event f) same (subst (λ l. IsFaulty m h₁.thread l event f) (sym all_seen) is))

    full : (event : Event) (l wanted : ℕ) → IsFull m h₁.thread h₂.seen event l wanted → IsFull h.kind h.thread h₃.seen event l wanted
    full event l wanted is = subst (λ k. IsFull k h.thread h₃.seen event l wanted) m-is (subst (λ t. IsFull m t h₃.seen event l wanted) same (subst (λ z. IsFull m h₁.thread z event l wanted) (sym all_seen) is))

    pub tells : (answer : Result Receipt AppendFault) → Appends m h₁.seen h₁.thread events answer h₂.seen → Tells h events answer h₃
    tells (Ok r) a =
        let x = a.answers in
        (x.1, subst (λ (z : ℕ × ℕ). IsPlaced h events z.0 z.1 h₃) (λ i. (sym x.0 i, sym x.1 i)) (is_placed (length events) x.2 m m-is known (omega arith) a.sound))
    tells (Err (append.Refused f at done)) a =
        let x = a.answers in
        let p = is_placed done x.2 m m-is known (let less = x.0 in omega arith) a.sound in
        (x.0, (length h₁.seen, p), x.1 ∙ sym p.place, (x.3.0, x.3.1, faulty x.3.0 f x.3.2))
    tells (Err (append.LogFull l wanted done)) a =
        let x = a.answers in
        (x.0, (length h₁.seen, is_placed done x.1 m m-is known (let less = x.0 in omega arith) a.sound), (x.2.0, x.2.1, full x.2.0 l wanted x.2.2))
    tells (Err (append.WantMemory done)) a = let x = a.answers in (x.0, grew done x.1)

-- ---- a call that found no memory for its block

pub keeps_all : (h : Hand Entry) → h.stage ≡ Idle → Keeps h h
keeps_all h idle = record { thread = refl; kind = refl; drawn = refl; stage = idle; before = ([], append-nil h.seen); known = omega arith }

pub nothing_done : (h : Hand Entry) (event : Event) → Tells h (event ∷ []) (Err (append.WantMemory 0)) h
nothing_done h event = (omega arith, record { log = h.seen; seen = sym (append-nil h.seen); mine = sym (append-nil h.mine) })

-- ---- passes that are given back

-- a pass that is idle has no turn
pub free : (has_turn : Bool) (stage : Stage) → stage ≡ stage_of has_turn → stage ≡ Idle → has_turn ≡ false
free true stage is idle = let no : HasTurn ≡ Idle = sym is ∙ idle in absurd cc
free false stage is idle = refl
